-- Replies by a history, and that they stay when it grows.
use Rattle.std.proofs.Common.{◌≡◌, ℕ, zero, suc, ◌-◌, ◌<◌, ◌≤◌, All, Bool, true, false, cond, List, [], ◌∷◌, ◌++◌, length, Option, Some, None, Result, Ok, Err, refl, ap, ◌∙◌, subst, arith, length-append}
use Rattle.std.specs.Prelude.{option_and_then, slice_get}
use Rattle.std.proofs.lemmas.Option.{get_or_from_slice_get, none-some, same_Some, slice_get_within}
use Rattle.day_model.specs.declared.entry.Entry.{Entry}
use Rattle.day_model.specs.declared.pay.Pay.{Pay}
use Rattle.day_model.specs.declared.reply.Reply.{Reply}
use Rattle.day_model.specs.declared.reply.Reply.TheVariants as reply
use Rattle.day_model.specs.Next.{entered_at}
use Rattle.day_model.specs.Same.{is_same_pay, reply_at, reply_to}
use Rattle.day_model.proofs.laws.Growth.{places_stay}
use Rattle.day_model.proofs.laws.Places.{position_from-within}
use Rattle.jrn_book.specs.Answers.{StandsAt}
use Rattle.corr_report.specs.Report.{NamesPlace}
use Rattle.corr_top.specs.declared.message.NoPay.{NoPay}
use Rattle.corr_top.specs.declared.message.NoPay.TheVariants as no_pay
use Rattle.corr_top.specs.Message.{reply_for, message_reply}

-- an element keeps its place when others follow
pub get_stays : {A : Type 0} (xs ys : List A) (k : ℕ) (x : A) → slice_get xs k ≡ Some x → slice_get (xs ++ ys) k ≡ Some x
get_stays [] ys k x at = absurd (none-some x at)
get_stays (z ∷ xs) ys zero x at = at
get_stays (z ∷ xs) ys (suc k) x at = get_stays xs ys k x at

reply_at_stays : (pay : Pay) (place : ℕ) (entries more : List Entry) (o : Option Entry) (r : Reply) → slice_get entries (place - 1) ≡ o → reply_at pay place o ≡ Some r → reply_at pay place (slice_get (entries ++ more) (place - 1)) ≡ Some r
reply_at_stays pay place entries more None r at is = absurd (none-some r is)
reply_at_stays pay place entries more (Some e) r at is = ap (reply_at pay place) (get_stays entries more (place - 1) e at) ∙ is

reply_from : (pay : Pay) (entries more : List Entry) (o : Option ℕ) (r : Reply) → entered_at pay.mir entries ≡ o → option_and_then (λ place. reply_at pay place (slice_get entries (place - 1))) o ≡ Some r → reply_to pay (entries ++ more) ≡ Some r
reply_from pay entries more None r at is = absurd (none-some r is)
reply_from pay entries more (Some place) r at is =
    ap (λ (o : Option ℕ). option_and_then (λ place. reply_at pay place (slice_get (entries ++ more) (place - 1))) o) (places_stay pay.mir entries more place at)
    ∙ reply_at_stays pay place entries more (slice_get entries (place - 1)) r refl is

-- a reply stays the same when the history grows
pub reply_stays : (pay : Pay) (entries more : List Entry) (r : Reply) → reply_to pay entries ≡ Some r → reply_to pay (entries ++ more) ≡ Some r
reply_stays pay entries more r is = reply_from pay entries more (entered_at pay.mir entries) r refl is

-- a reply names a place of its history
get_within : {A : Type 0} (xs : List A) (k : ℕ) (x : A) → slice_get xs k ≡ Some x → k < length xs
get_within [] k x at = absurd (none-some x at)
get_within (z ∷ xs) zero x at = omega arith
get_within (z ∷ xs) (suc k) x at = let w = get_within xs k x at in omega arith

named_if : (pay : Pay) (place : ℕ) (entries : List Entry) (same : Bool) (r : Reply) → (1 ≤ place) × (place ≤ length entries) → Some (cond same (reply.Entered pay.mir place) (reply.Conflict pay.mir place)) ≡ Some r → NamesPlace entries r
named_if pay place entries true r within is = subst (NamesPlace entries) (same_Some _ r is) within
named_if pay place entries false r within is = subst (NamesPlace entries) (same_Some _ r is) within

named_at : (pay : Pay) (place : ℕ) (entries : List Entry) (o : Option Entry) (r : Reply) → (1 ≤ place) × (place ≤ length entries) → reply_at pay place o ≡ Some r → NamesPlace entries r
named_at pay place entries None r within is = absurd (none-some r is)
named_at pay place entries (Some e) r within is = named_if pay place entries (is_same_pay pay e.pay) r within is

named_from : (pay : Pay) (entries : List Entry) (o : Option ℕ) (r : Reply) → entered_at pay.mir entries ≡ o → option_and_then (λ place. reply_at pay place (slice_get entries (place - 1))) o ≡ Some r → NamesPlace entries r
named_from pay entries None r at is = absurd (none-some r is)
named_from pay entries (Some place) r at is =
    let w = position_from-within _ 1 place entries at in
    named_at pay place entries (slice_get entries (place - 1)) r (w.0, omega (arith, w.1)) is

-- a message without a pay names none
pub names_none : (entries : List Entry) (why : NoPay) → NamesPlace entries (reply_for why)
names_none entries (no_pay.Refused mir fault) = tt
names_none entries (no_pay.Unrouted mir code) = tt

pub names_place : (entries : List Entry) (reading : Result Pay NoPay) (r : Reply) → message_reply entries reading ≡ Some r → NamesPlace entries r
names_place entries (Ok pay) r is = named_from pay entries (entered_at pay.mir entries) r refl is
names_place entries (Err why) r is = subst (NamesPlace entries) (same_Some _ r is) (names_none entries why)

pub place_stays : (entries more : List Entry) (r : Reply) → NamesPlace entries r → NamesPlace (entries ++ more) r
place_stays entries more (reply.Entered mir place) (low, high) = (low, omega (arith, length-append {A = Entry}))
place_stays entries more (reply.Conflict mir place) (low, high) = (low, omega (arith, length-append {A = Entry}))
place_stays entries more (reply.Refused mir fault) named = tt
place_stays entries more (reply.Unrouted mir code) named = tt

-- an element of a list of which all are such
pub get_all : {A : Type 0} (P : A → Type 0) (xs : List A) (i : ℕ) (x : A) → All P xs → slice_get xs i ≡ Some x → P x
get_all P xs i x all at = subst P (get_or_from_slice_get xs i x x at) (all i x (slice_get_within xs i x at))

pub all_one : {A : Type 0} (P : A → Type 0) (x : A) → P x → All P (x ∷ [])
all_one P x holds zero d within = holds
all_one P x holds (suc k) d within = absurd (omega arith)

-- the reply that an entry gives to a pay of its reference
pub reply_here : (h : List Entry) (pay : Pay) (place : ℕ) (same : Bool) → StandsAt h pay place same → reply_to pay h ≡ Some (cond same (reply.Entered pay.mir place) (reply.Conflict pay.mir place))
reply_here h pay place same stands =
    ap (λ (o : Option ℕ). option_and_then (λ k. reply_at pay k (slice_get h (k - 1))) o) stands.first
    ∙ ap (reply_at pay place) stands.there
    ∙ ap (λ b. Some (cond b (reply.Entered pay.mir place) (reply.Conflict pay.mir place))) stands.is_same
