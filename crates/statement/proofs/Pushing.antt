-- Ledgers with the movements of one entry more.
use Rattle.std.proofs.Common.{◌≡◌, ◌≢◌, ℕ, suc, ◌+◌, ◌-◌, ◌<◌, ◌≤◌, true, List, [], ◌∷◌, ◌++◌, map, length, take, get_or, Some, refl, sym, ap, ◌∙◌, subst, arith, inl, inr, length-append}
use Rattle.std.specs.Prelude.{All, slice_get}
use Rattle.std.specs.List.{AllByRecursion, list_all}
use Rattle.std.proofs.lemmas.Bool.{and_parts, cases_eq, eq-eqb, ne_eqb}
use Rattle.std.proofs.Math.Seq.{get_or-append_seam}
use Rattle.std.proofs.lemmas.List.{append-nil, get_or_append_left, map-append, take_more}
use Rattle.std.proofs.lemmas.List.Elements.{All-from_recursion}
use Rattle.std.proofs.lemmas.Option.{slice_get-get_or}
use Rattle.corr_money.specs.Amounts.{amount_end}
use Rattle.day_model.specs.Balance.{is_booked}
use Rattle.day_model.specs.Chart.{Chart, IsListed, accounts_of}
use Rattle.day_model.specs.Fit.{are_apart, is_apart_from}
use Rattle.day_model.specs.Totals.{booked_legs}
use Rattle.day_model.specs.declared.account.Account.{Account}
use Rattle.day_model.specs.declared.entry.Entry.{Entry}
use Rattle.day_model.specs.declared.pay.Leg.{Leg}
use Rattle.day_model.proofs.laws.Fitting.{LegsFit}
use Rattle.statement.specs.Index.{AreLedgersOf, ledger_with, movement_of, movements_of}
use Rattle.statement.specs.inner.Index.{IsOnOneOf, bookings_of, changed_at, pushed, pushed_each}
use Rattle.statement.specs.Legs.{legs_on}
use Rattle.statement.specs.declared.ledger.Booking.{Booking}
use Rattle.statement.specs.declared.ledger.Ledger.{Ledger}
use Rattle.statement.specs.declared.movement.Movement.{Movement}
use Rattle.statement.proofs.Adding.{more}
use Rattle.statement.proofs.Changes.{changed-here, changed-length, changed-there}
use Rattle.statement.proofs.Distinct.{no-more, on, on-own}

pub pushed-length : (bookings : List Booking) (ledgers : List Ledger) → length (pushed_each bookings ledgers) ≡ length ledgers
pushed-length [] ledgers = refl
pushed-length (booking ∷ bookings) ledgers = changed-length (pushed booking.movement) (booking.account.0 - 1) (pushed_each bookings ledgers) ∙ pushed-length bookings ledgers

-- the last movement is added first
pub pushed-last : (bookings : List Booking) (last : Booking) (ledgers : List Ledger)
    → pushed_each (bookings ++ last ∷ []) ledgers ≡ pushed_each bookings (changed_at (last.account.0 - 1) (pushed last.movement) ledgers)
pushed-last [] last ledgers = refl
pushed-last (booking ∷ bookings) last ledgers = ap (changed_at (booking.account.0 - 1) (pushed booking.movement)) (pushed-last bookings last ledgers)

-- what all have of a list with one more at its end
pub all-but-last : {A : Type 0} (P : A → Type 0) (xs : List A) (x : A) → All P (xs ++ x ∷ []) → All P xs × P x
all-but-last P xs x all =
    let long = length-append xs (x ∷ []) in
    (λ k d lt. subst P (get_or_append_left xs (x ∷ []) d k lt) (all k d (omega (arith, lt, long))), subst P (get_or-append_seam xs x [] x) (all (length xs) x (omega (arith, long))))

-- movements of which one is the last are on accounts that are there
pub parted : (count : ℕ) (bookings rest : List Booking) (last : Booking) → bookings ≡ rest ++ last ∷ [] → All (IsOnOneOf count) bookings → All (IsOnOneOf count) rest × IsOnOneOf count last
parted count bookings rest last are all = all-but-last (IsOnOneOf count) rest last (subst (All (IsOnOneOf count)) are all)

-- a movement more, and there are as many ledgers
pub same-count : (last : Booking) (ledgers more : List Ledger) → more ≡ changed_at (last.account.0 - 1) (pushed last.movement) ledgers → length more ≡ length ledgers
same-count last ledgers more is = ap length is ∙ changed-length (pushed last.movement) (last.account.0 - 1) ledgers

-- a booked entry books all legs of its pay
pub booked-all : (entry : Entry) → is_booked entry.outcome ≡ true → booked_legs entry ≡ entry.pay.legs
booked-all entry booked = rw booked refl

-- a leg of the next entry: on an account of the book, with an amount below 10^14, and alone on its account
pub record NextLeg (chart : Chart) (entry : Entry) (leg : Leg) : Type 0 where
  pub listed : IsListed chart leg.account.0
  pub small : leg.amount.0 < amount_end
  pub only : legs_on leg.account.0 entry ≡ leg ∷ []

pub next-leg : (chart : Chart) (entry : Entry) (legs : List Leg) (i : ℕ) (leg : Leg) → LegsFit chart entry.pay.legs → is_booked entry.outcome ≡ true → legs ≡ entry.pay.legs → i < length legs → leg ≡ get_or legs i leg → NextLeg chart entry leg
next-leg chart entry legs i leg fit booked same lt is =
    let at : slice_get entry.pay.legs i ≡ Some leg = subst (λ (ls : List Leg). slice_get ls i ≡ Some leg) same (slice_get-get_or legs i leg lt ∙ ap (λ (l : Leg). Some l) (sym is)) in
    let sound = fit.each i leg at in
    record { listed = sound.listed; small = sound.below; only = ap (on leg.account.0) (booked-all entry booked) ∙ on-own entry.pay.legs i leg fit.apart at }

-- one leg more of those so far
pub take-leg : (legs : List Leg) (i : ℕ) (leg : Leg) → i < length legs → leg ≡ get_or legs i leg → take (i + 1) legs ≡ take i legs ++ leg ∷ []
take-leg legs i leg lt is = take_more legs i leg lt ∙ ap (λ (l : Leg). take i legs ++ l ∷ []) (sym is)

module _ (chart : Chart) (entries : List Entry) (entry : Entry) where
  -- its movement is one more
  pub bookings-more : (legs : List Leg) (i : ℕ) (leg : Leg) (bookings more : List Booking) (moved : Movement) → i < length legs → leg ≡ get_or legs i leg → bookings ≡ bookings_of chart entries entry (take i legs)
      → moved ≡ movement_of chart leg.account.0 entries entry leg → more ≡ bookings ++ record { account = leg.account; movement = moved } ∷ [] → more ≡ bookings_of chart entries entry (take (i + 1) legs)
  bookings-more legs i leg bookings more moved lt is so_far of_leg one =
      let own : Movement → Booking = λ m. record { account = leg.account; movement = m } in
      let all : bookings_of chart entries entry (take i legs ++ leg ∷ []) ≡ bookings_of chart entries entry (take i legs) ++ own (movement_of chart leg.account.0 entries entry leg) ∷ [] =
      map-append (λ (l : Leg). let b : Booking = record { account = l.account; movement = movement_of chart l.account.0 entries entry l } in b) (take i legs) (leg ∷ []) in
      one
      ∙ ap (λ (bs : List Booking). bs ++ own moved ∷ []) so_far
      ∙ ap (λ (m : Movement). bookings_of chart entries entry (take i legs) ++ own m ∷ []) of_leg
      ∙ sym all
      ∙ ap (bookings_of chart entries entry) (sym (take-leg legs i leg lt is))

  on-accounts : (count : ℕ) (legs : List Leg) → length (accounts_of chart) ≡ count → ((i : ℕ) (leg : Leg) → slice_get legs i ≡ Some leg → IsListed chart leg.account.0) → AllByRecursion (IsOnOneOf count) (bookings_of chart entries entry legs)
  on-accounts count [] size listed = tt
  on-accounts count (leg ∷ legs) size listed =
      let here = listed 0 leg refl in
      ((omega (arith, here.0), omega (arith, here.0, here.1, size)), on-accounts count legs size (λ i. listed (suc i)))

  -- the movements of legs that fit are on accounts of the book
  pub all-on-accounts : (count : ℕ) → length (accounts_of chart) ≡ count → LegsFit chart entry.pay.legs → All (IsOnOneOf count) (bookings_of chart entries entry entry.pay.legs)
  all-on-accounts count size fit =
      All-from_recursion (IsOnOneOf count) (bookings_of chart entries entry entry.pay.legs) (on-accounts count entry.pay.legs size (λ i leg at. (fit.each i leg at).listed))

  module _ (ledgers : List Ledger) (are : AreLedgersOf ledgers chart entries) where
    -- an account's ledger with the movements of legs on it
    abbrev grown_by : ℕ → Account → List Leg → Ledger
    grown_by n account legs = ledger_with account (movements_of chart n entries ++ map (movement_of chart n entries entry) legs)

    at-account : (legs : List Leg) → are_apart legs ≡ true → ((i : ℕ) (leg : Leg) → slice_get legs i ≡ Some leg → 1 ≤ leg.account.0) → (i : ℕ) (account : Account) → slice_get (accounts_of chart) i ≡ Some account
        → slice_get (pushed_each (bookings_of chart entries entry legs) ledgers) i ≡ Some (grown_by (i + 1) account (on (i + 1) legs))
    at-account [] apart from i account at = are.each i account at ∙ ap (λ (ms : List Movement). Some (ledger_with account ms)) (sym (append-nil (movements_of chart (i + 1) entries)))
    at-account (x ∷ legs) apart from i account at =
        let parts = and_parts (list_all (is_apart_from x) legs) (are_apart legs) apart in
        let n = x.account.0 in
        let others : List Ledger = pushed_each (bookings_of chart entries entry legs) ledgers in
        let rest : slice_get others i ≡ Some (grown_by (i + 1) account (on (i + 1) legs)) = at-account legs parts.1 (λ k. from (suc k)) i account at in
        elim (cases_eq n (i + 1)) [
          | inl here ↦
              let none : on (i + 1) legs ≡ [] = no-more (i + 1) x legs here parts.0 in
              let only : on (i + 1) (x ∷ legs) ≡ x ∷ [] = rw (eq-eqb n (i + 1) here) (ap (λ (ls : List Leg). x ∷ ls) none) in
              let old : Ledger = ledger_with account (movements_of chart (i + 1) entries) in
              let kept : slice_get others i ≡ Some old =
              rest ∙ ap (λ (ls : List Leg). Some (grown_by (i + 1) account ls)) none ∙ ap (λ (ms : List Movement). Some (ledger_with account ms)) (append-nil (movements_of chart (i + 1) entries)) in
              let m : Movement = movement_of chart n entries entry x in
              subst (λ (k : ℕ). slice_get (changed_at k (pushed m) others) i ≡ Some (pushed m old)) (omega (arith, here)) (changed-here (pushed m) i others old kept)
              ∙ ap (λ (k : ℕ). Some (ledger_with account (movements_of chart (i + 1) entries ++ movement_of chart k entries entry x ∷ []))) here
              ∙ ap (λ (ls : List Leg). Some (grown_by (i + 1) account ls)) (sym only)
          | inr other ↦
              let same : on (i + 1) (x ∷ legs) ≡ on (i + 1) legs = rw (ne_eqb n (i + 1) other) refl in
              let apart_from : i ≢ n - 1 = λ e. other (omega (arith, e, from 0 x refl)) in
              changed-there (pushed (movement_of chart n entries entry x)) (n - 1) i others (grown_by (i + 1) account (on (i + 1) legs)) apart_from rest
              ∙ ap (λ (ls : List Leg). Some (grown_by (i + 1) account ls)) (sym same)
        ]

    -- the ledgers with the movements of a booked entry's legs are those of one entry more
    pub ledgers-more : is_booked entry.outcome ≡ true → LegsFit chart entry.pay.legs → AreLedgersOf (pushed_each (bookings_of chart entries entry entry.pay.legs) ledgers) chart (entries ++ entry ∷ [])
    ledgers-more booked fit = record {
      size = pushed-length (bookings_of chart entries entry entry.pay.legs) ledgers ∙ are.size;
      each = λ i account at.
          at-account entry.pay.legs fit.apart (λ k leg there. (fit.each k leg there).listed.0) i account at
          ∙ ap (λ (ls : List Leg). Some (grown_by (i + 1) account (on (i + 1) ls))) (sym (booked-all entry booked))
          ∙ ap (λ (ms : List Movement). Some (ledger_with account ms)) (sym (more chart (i + 1) entries entry));
    }
