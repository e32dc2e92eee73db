-- The history that the pays of a batch make, and what it adds.
use Rattle.std.proofs.Common.{◌≡◌, ℕ, suc, ◌+◌, ◌<◌, ◌≤◌, All, Bool, true, false, List, [], ◌∷◌, ◌++◌, length, refl, sym, ◌∙◌, subst, arith, append-nil, append_assoc}
use Rattle.std.specs.Prelude.{is_some, nat_le, if◌then◌else◌}
use Rattle.std.proofs.lemmas.Bool.{leb-false, or_parts}
use Rattle.std.proofs.lemmas.List.Elements.{All-cons, All-head, All-nil, All-tail}
use Rattle.corr_disk.specs.Disk.{most_disk_bytes}
use Rattle.corr_ids.specs.declared.day.Day.{Day}
use Rattle.day_model.specs.Chart.{Chart}
use Rattle.day_model.specs.declared.entry.Entry.{Entry}
use Rattle.day_model.specs.declared.pay.Pay.{Pay}
use Rattle.day_model.specs.Fit.{FitsAccounts}
use Rattle.day_model.specs.Laws.{IsLatest}
use Rattle.day_model.specs.Legal.{IsLegal}
use Rattle.day_model.specs.Log.{most_entries}
use Rattle.day_model.specs.Next.{entered_at, entry_of, next_history}
use Rattle.day_model.proofs.laws.Growth.{one_pay_more}
use Rattle.jrn_book.specs.Batches.{entered_of, lacks_room}
use Rattle.jrn_book.specs.Journal.{file_of}
use Rattle.corr_books.proofs.Booking.{latest_more}

-- a history goes on with at most so many legal entries of a day
pub record GoesOn (chart : Chart) (history : List Entry) (day : Day) (most : ℕ) (grown : List Entry) : Type 0 where
  pub more : List Entry
  pub is : grown ≡ history ++ more
  pub few : length more ≤ most
  pub of_day : All (λ e. e.day ≡ day) more
  pub legal : IsLegal chart (history ++ more)

module _ (chart : Chart) (day : Day) where
  -- it may go on with more
  goes_further : (history : List Entry) (most : ℕ) (grown : List Entry) → GoesOn chart history day most grown → GoesOn chart history day (suc most) grown
  goes_further history most grown g = record { more = g.more; is = g.is; few = let few = g.few in omega (arith, few); of_day = g.of_day; legal = g.legal }

  -- with one entry first
  goes_after : (history : List Entry) (e : Entry) (most : ℕ) (grown : List Entry) → e.day ≡ day → GoesOn chart (history ++ e ∷ []) day most grown → GoesOn chart history day (suc most) grown
  goes_after history e most grown same g =
      let all : (history ++ e ∷ []) ++ g.more ≡ history ++ e ∷ g.more = append_assoc history (e ∷ []) g.more in
      record {
        more = e ∷ g.more;
        is = g.is ∙ all;
        few = let few = g.few in omega (arith, few);
        of_day = All-cons (λ (x : Entry). x.day ≡ day) e g.more same g.of_day;
        legal = subst (IsLegal chart) all g.legal;
      }

  module _ (history : List Entry) (pay : Pay) (pays : List Pay) (legal : IsLegal chart history) (fits : FitsAccounts chart pay) (latest : IsLatest history day)
      (rest : (h : List Entry) → IsLegal chart h → IsLatest h day → GoesOn chart h day (length pays) (entered_of chart h pays day)) where
    -- so much is added where the next history is this one
    abbrev Adds : List Entry → Type 0
    Adds next = GoesOn chart history day (suc (length pays)) (entered_of chart next pays day)

    nothing : Adds history
    nothing = goes_further history (length pays) (entered_of chart history pays day) (rest history legal latest)

    an_entry : length history < most_entries → is_some (entered_at pay.mir history) ≡ false → Adds (history ++ entry_of chart history pay day ∷ [])
    an_entry few new =
        let e : Entry = entry_of chart history pay day in
        goes_after history e (length pays) (entered_of chart (history ++ e ∷ []) pays day) refl
        (rest (history ++ e ∷ []) (one_pay_more chart history pay day legal fits latest few new) (latest_more history e day latest refl))

    by_reference : length history < most_entries → (b : Bool) → is_some (entered_at pay.mir history) ≡ b → Adds (if b then history else history ++ entry_of chart history pay day ∷ [])
    by_reference few true known = nothing
    by_reference few false new = an_entry few new

    by_room : (b : Bool) → lacks_room chart history pay day ≡ b → Adds (if b then history else next_history chart history pay day)
    by_room true none = nothing
    by_room false room =
        let both = or_parts (nat_le most_entries (length history)) (nat_le (most_disk_bytes + 1) (length (file_of chart (history ++ entry_of chart history pay day ∷ [])))) room in
        by_reference (leb-false most_entries (length history) both.0) (is_some (entered_at pay.mir history)) refl

    one_further : GoesOn chart history day (length (pay ∷ pays)) (entered_of chart history (pay ∷ pays) day)
    one_further = by_room (lacks_room chart history pay day) refl

  -- what pays make of a legal history
  pub entered_grows : (history : List Entry) (pays : List Pay) → IsLegal chart history → All (FitsAccounts chart) pays → IsLatest history day → GoesOn chart history day (length pays) (entered_of chart history pays day)
  entered_grows history [] legal fits latest = record {
    more = [];
    is = sym (append-nil history);
    few = omega arith;
    of_day = All-nil (λ (x : Entry). x.day ≡ day);
    legal = subst (IsLegal chart) (sym (append-nil history)) legal;
  }
  entered_grows history (pay ∷ pays) legal fits latest =
      one_further history pay pays legal (All-head (FitsAccounts chart) pay pays fits) latest
      (λ h legal_then latest_then. entered_grows h pays legal_then (All-tail (FitsAccounts chart) pay pays fits) latest_then)
