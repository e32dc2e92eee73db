-- Each message has a reply: the replies are those after the history, and each pay is entered in it.
use Rattle.std.proofs.Common.{◌≡◌, ℕ, zero, suc, ◌-◌, All, List, [], ◌∷◌, length, Option, Some, None, Result, Ok, Err, refl, sym, ap, ◌∙◌, subst, arith}
use Rattle.std.specs.Prelude.{IsSome, option_and_then, slice_get}
use Rattle.std.proofs.lemmas.List.{length-map}
use Rattle.std.proofs.lemmas.List.Elements.{All-append, All-nil}
use Rattle.std.proofs.lemmas.Option.{none-some, same_Some}
use Rattle.corr_report.specs.Report.{NamesPlace}
use Rattle.day_model.specs.declared.entry.Entry.{Entry}
use Rattle.day_model.specs.declared.pay.Pay.{Pay}
use Rattle.day_model.specs.declared.reply.Reply.{Reply}
use Rattle.day_model.specs.Next.{entered_at}
use Rattle.day_model.specs.Same.{reply_at, reply_to}
use Rattle.corr_books.specs.Opening.{Opening}
use Rattle.corr_top.specs.declared.desk.Served.{Served}
use Rattle.corr_top.specs.declared.desk.Served.TheVariants as served
use Rattle.corr_top.specs.declared.message.NoPay.{NoPay}
use Rattle.corr_top.specs.inner.Days.{HasAnswered}
use Rattle.corr_top.specs.Message.{pays_in, replies_in, message_reply}
use Rattle.corr_top.specs.inner.Serving.{AreServedInOrder, AreTold, are_replies}
use Rattle.corr_top.proofs.Replying.{all_one, names_place}

-- a message with a reply, for each of them
abbrev pub Reply_of : List Entry → Result Pay NoPay → Reply → Type 0
Reply_of history reading r = message_reply history reading ≡ Some r

pub record AreReplies (history : List Entry) (readings : List (Result Pay NoPay)) (replies : List Reply) : Type 0 where
  pub each : length replies ≡ length readings
  pub one : (n : ℕ) (reading : Result Pay NoPay) (r : Reply) → slice_get readings n ≡ Some reading → slice_get replies n ≡ Some r → Reply_of history reading r

rest_of : (history : List Entry) (reading : Result Pay NoPay) (readings : List (Result Pay NoPay)) (r : Reply) (replies : List Reply) → AreReplies history (reading ∷ readings) (r ∷ replies) → AreReplies history readings replies
rest_of history reading readings r replies are = record { each = (let e = are.each in omega (arith, e)); one = λ n x y at also. are.one (suc n) x y at also }

replies_are : (history : List Entry) (readings : List (Result Pay NoPay)) (replies : List Reply) → AreReplies history readings replies → replies ≡ replies_in history readings
replies_are history [] [] are = refl
replies_are history [] (r ∷ replies) are = let e = are.each in absurd (omega (arith, e))
replies_are history (reading ∷ readings) [] are = let e = are.each in absurd (omega (arith, e))
replies_are history (reading ∷ readings) (r ∷ replies) are =
    let told : message_reply history reading ≡ Some r = are.one 0 reading r refl refl in
    let first : replies_in history (reading ∷ readings) ≡ r ∷ replies_in history readings = rw told refl in
    ap (λ (l : List Reply). r ∷ l) (replies_are history readings replies (rest_of history reading readings r replies are)) ∙ sym first

places_are : (history : List Entry) (readings : List (Result Pay NoPay)) (replies : List Reply) → AreReplies history readings replies → All (NamesPlace history) replies
places_are history [] [] are = All-nil (NamesPlace history)
places_are history [] (r ∷ replies) are = let e = are.each in absurd (omega (arith, e))
places_are history (reading ∷ readings) [] are = let e = are.each in absurd (omega (arith, e))
places_are history (reading ∷ readings) (r ∷ replies) are =
    All-append (NamesPlace history) (r ∷ []) replies (all_one (NamesPlace history) r (names_place history reading r (are.one 0 reading r refl refl)))
    (places_are history readings replies (rest_of history reading readings r replies are))

-- a pay with a reply is entered
some_if : (pay : Pay) (history : List Entry) (found : Option ℕ) (r : Reply) → entered_at pay.mir history ≡ found → option_and_then (λ place. reply_at pay place (slice_get history (place - 1))) found ≡ Some r → IsSome (entered_at pay.mir history)
some_if pay history None r at is = absurd (none-some r is)
some_if pay history (Some place) r at is = subst (λ (o : Option ℕ). IsSome o) (sym at) refl

pub entered_by : (pay : Pay) (history : List Entry) (r : Reply) → reply_to pay history ≡ Some r → IsSome (entered_at pay.mir history)
entered_by pay history r is = some_if pay history (entered_at pay.mir history) r refl is

pays_entered : (history : List Entry) (readings : List (Result Pay NoPay)) (replies : List Reply) → AreReplies history readings replies → (k : ℕ) (pay : Pay) → slice_get (pays_in readings) k ≡ Some pay → IsSome (entered_at pay.mir history)
pays_entered history [] replies are k pay at = absurd (none-some pay at)
pays_entered history (reading ∷ readings) [] are k pay at = let e = are.each in absurd (omega (arith, e))
pays_entered history (Ok p ∷ readings) (r ∷ replies) are zero pay at =
    subst (λ (x : Pay). IsSome (entered_at x.mir history)) (same_Some p pay at) (entered_by p history r (are.one 0 (Ok p) r refl refl))
pays_entered history (Ok p ∷ readings) (r ∷ replies) are (suc k) pay at = pays_entered history readings replies (rest_of history (Ok p) readings r replies are) k pay at
pays_entered history (Err why ∷ readings) (r ∷ replies) are k pay at = pays_entered history readings replies (rest_of history (Err why) readings r replies are) k pay at

get_reply : (replies : List Reply) (n : ℕ) (r : Reply) → slice_get replies n ≡ Some r → slice_get (are_replies replies) n ≡ Some (served.Reply r)
get_reply [] n r at = absurd (none-some r at)
get_reply (x ∷ replies) zero r at = ap (λ (y : Reply). Some (served.Reply y)) (same_Some x r at)
get_reply (x ∷ replies) (suc n) r at = get_reply replies n r at

-- what was made of all messages is a reply for each
pub replied : (o : Opening) (history : List Entry) (readings : List (Result Pay NoPay)) (made : List Served) (replies : List Reply) → AreTold o history readings made → made ≡ are_replies replies → AreReplies history readings replies
replied o history readings made replies told is = record {
  each = sym (length-map replies served.Reply) ∙ ap length (sym is) ∙ told.each;
  one = λ n reading r at also. told.told n reading (served.Reply r) at (ap (λ (l : List Served). slice_get l n) is ∙ get_reply replies n r also);
}

pub has_answered : (o : Opening) (history : List Entry) (readings : List (Result Pay NoPay)) (made : List Served) (replies : List Reply) → AreTold o history readings made
    → (o.made ≡ 1 → AreServedInOrder o history readings made) → made ≡ are_replies replies → HasAnswered o readings history replies
has_answered o history readings made replies told turn is =
    let are = replied o history readings made replies told is in
    record {
      replies_are = replies_are history readings replies are;
      each = are.each;
      places = places_are history readings replies are;
      entered = pays_entered history readings replies are;
      alone = λ one. (turn one).all replies is;
    }

-- each reply names a place of the history
pub all_places : (o : Opening) (history : List Entry) (readings : List (Result Pay NoPay)) (made : List Served) (replies : List Reply) → AreTold o history readings made → made ≡ are_replies replies → All (NamesPlace history) replies
all_places o history readings made replies told is = places_are history readings replies (replied o history readings made replies told is)
