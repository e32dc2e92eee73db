-- What a transfer that came gives to what is sent for it: the fields that it must have, and those that are taken over, each at
-- its place.
use Rattle.std.proofs.Common.{◌≡◌, ℕ, ◌+◌, ◌≤◌, true, List, [], ◌∷◌, length, drop, Option, Some, None, refl, arith}
use Rattle.std.specs.Prelude.{codes, find, IfSome}
use Rattle.corr_text.specs.First.{first_of}
use Rattle.corr_text.specs.declared.fault.Code.{Code}
use Rattle.corr_money.specs.declared.amount.Amount.{Amount}
use Rattle.ref_tables.specs.Seen.{Tables}
use Rattle.fin_fields.specs.declared.field.Field.{Field}
use Rattle.fin_layout.specs.declared.place.Place.{Place}
use Rattle.fin_layout.proofs.laws.Fine.{IsTestOf}
use Rattle.fin_contents.specs.Money.{ccy_amount_of}
use Rattle.fin_contents.specs.Parties.{known_party_of}
use Rattle.fin_contents.specs.Writing.{ccy_amount_field, some_field}
use Rattle.mt103.specs.Codes.{charge_of, operation_of}
use Rattle.mt103.specs.Message.{content_test, field_tests}
use Rattle.mt103.specs.Order.{order_103}
use Rattle.advices.specs.Fields.{copied, is_named}
use Rattle.advices.specs.inner.Spelled.{IsWritableAmount}
use Rattle.advices.specs.Transfer.{is_there, or_amount, ordered_amount}
use Rattle.advices.specs.Valid.{IsTabled}
use Rattle.advices.proofs.laws.Copies.{SaysNamed, each-says, found-each}
use Rattle.advices.proofs.laws.Finding.{must-copy}
use Rattle.advices.proofs.laws.Fitted.{first_for}
use Rattle.advices.proofs.laws.Seats.{Seated, one-seated, some-seated}
use Rattle.advices.proofs.laws.Values.{amount-made}

-- the first field of a name that is found is taken over
there-of : (tag : ℕ) (letters : List ℕ) (fs : List Field) (f : Field) → find (is_named tag letters) fs ≡ Some f → is_there (copied tag letters fs) ≡ true
there-of tag letters fs f e = rw e refl

-- and is one field
long-of : (tag : ℕ) (letters : List ℕ) (fs : List Field) (f : Field) → find (is_named tag letters) fs ≡ Some f → 1 ≤ length (copied tag letters fs)
long-of tag letters fs f e = rw e (omega arith)

module _ (t : Tables) (fs : List Field) (none : first_of (field_tests t fs) ≡ None) where
  -- 23B, 50a, 59a and 71A are there
  pub has-operation : is_there (copied 23 (codes "B") fs) ≡ true
  has-operation =
      let op = must-copy order_103 (content_test t) fs none 23 (codes "B") 2 refl operation_of _ (λ f. refl) refl refl in
      there-of 23 (codes "B") fs op.0 op.2

  pub has-payer : is_there (copied 50 (codes "AFK") fs) ≡ true
  has-payer =
      let payer = must-copy order_103 (content_test t) fs none 50 (codes "AFK") 8 refl (known_party_of t) _ (λ f. refl) refl refl in
      there-of 50 (codes "AFK") fs payer.0 payer.2

  pub has-payee : is_there (copied 59 (codes " AF") fs) ≡ true
  has-payee =
      let payee = must-copy order_103 (content_test t) fs none 59 (codes " AF") 15 refl (known_party_of t) _ (λ f. refl) refl refl in
      there-of 59 (codes " AF") fs payee.0 payee.2

  pub has-charge : is_there (copied 71 (codes "A") fs) ≡ true
  has-charge =
      let charge = must-copy order_103 (content_test t) fs none 71 (codes "A") 17 refl charge_of _ (λ f. refl) refl refl in
      there-of 71 (codes "A") fs charge.0 charge.2

  pub one-payer : 1 ≤ length (copied 50 (codes "AFK") fs)
  one-payer =
      let payer = must-copy order_103 (content_test t) fs none 50 (codes "AFK") 8 refl (known_party_of t) _ (λ f. refl) refl refl in
      long-of 50 (codes "AFK") fs payer.0 payer.2

  -- a field 33B says an amount
  ordered-says : IfSome (find (is_named 33 (codes "B")) fs) (λ f. (is_named 33 (codes "B") f ≡ true) × SaysNamed 33 (codes "B") (ccy_amount_of t) f)
  ordered-says =
      found-each (SaysNamed 33 (codes "B") (ccy_amount_of t)) (is_named 33 (codes "B")) fs
      (each-says order_103 (content_test t) fs none 33 (codes "B") (6 ∷ []) (ccy_amount_of t) refl ((λ f. refl), tt))

  -- 33B stands at its place: as it came, or what was ordered
  module _ (order : List Place) (test : ℕ → Field → Option Code) (low n : ℕ) (of : IsTestOf test (low + n) (ccy_amount_of t))
      (is : first_for 33 (codes "B") (drop low order) n ≡ true) where
    amount-or : (a : Amount) (o : Option Field) → IsWritableAmount a → IsTabled t a
        → IfSome o (λ f. (is_named 33 (codes "B") f ≡ true) × SaysNamed 33 (codes "B") (ccy_amount_of t) f)
        → Seated order test low n (or_amount a (some_field (λ f. f) o))
    amount-or a None spelled tabled h =
        one-seated order test low n 33 (codes "B") (ccy_amount_of t) of is (ccy_amount_field 33 (Some 66) a) a refl (amount-made t 33 (Some 66) a spelled tabled)
    amount-or a (Some f) spelled tabled h = some-seated order test low n 33 (codes "B") (ccy_amount_of t) of is (Some f) h

    pub ordered-seated : (a : Amount) → IsWritableAmount a → IsTabled t a → Seated order test low n (ordered_amount a fs)
    ordered-seated a spelled tabled = amount-or a (find (is_named 33 (codes "B")) fs) spelled tabled ordered-says
