-- Where the contents of a transfer are read, each place that must be taken is.
use Rattle.std.proofs.Common.{◌≡◌, ◌+◌, ◌==◌, ℕ, true, false, List, [], ◌∷◌, None, Result, Ok, refl, sym, ap, ◌∙◌, inl, inr}
use Rattle.std.specs.Prelude.{option_and_then, option_map, position, slice_get}
use Rattle.std.specs.List.{list_any}
use Rattle.std.proofs.lemmas.Bool.{cases_Bool, or_parts}
use Rattle.corr_text.specs.declared.fault.Code.{Code}
use Rattle.ref_tables.specs.Seen.{Tables}
use Rattle.fin_fields.specs.declared.field.Field.{Field}
use Rattle.fin_fields.proofs.laws.Positions.{position-later}
use Rattle.fin_layout.specs.Contents.{in_place, must_read}
use Rattle.fin_layout.specs.Order.{field_in, missing_from}
use Rattle.mt103.specs.Codes.{charge_of, operation_of}
use Rattle.mt103.specs.Message.{contents_of}
use Rattle.mt103.specs.Order.{order_103}
use Rattle.mt103.specs.declared.message.Mt103.{Mt103}
use Rattle.mt103.proofs.Says.{contents-say}
use Rattle.fin_contents.specs.Money.{value_of}
use Rattle.fin_contents.specs.Parties.{known_party_of}
use Rattle.fin_contents.specs.Plain.{reference_of}

no-position : (k : ℕ) (found : List ℕ) → list_any (λ q. q == k) found ≡ false → position (λ q. q == k) found ≡ None
no-position k [] none = refl
no-position k (q ∷ found) none =
    let both = or_parts (q == k) (list_any (λ r. r == k) found) none in
    position-later (λ r. r == k) q found both.0 ∙ ap (option_map (λ i. i + 1)) (no-position k found both.1)

no-field : (fs : List Field) (found : List ℕ) (k : ℕ) → list_any (λ q. q == k) found ≡ false → field_in fs found k ≡ None
no-field fs found k none = ap (option_and_then (λ i. option_map (λ f. (i, f)) (slice_get fs i))) (no-position k found none)

-- a mandatory place that is read is taken
taken : {A : Type 0} (fs : List Field) (found : List ℕ) (k : ℕ) (read : Field → Result A Code) (x : A) → in_place order_103 fs found k read ≡ Ok x → list_any (λ q. q == k) found ≡ true
taken fs found k read x e = elim (cases_Bool (list_any (λ q. q == k) found)) [
  | inl here ↦ here
  | inr none ↦
      let lacks : must_read order_103 fs k read None ≡ Ok x = sym (ap (must_read order_103 fs k read) (no-field fs found k none)) ∙ e in
      absurd (cc lacks)
]

none-missing : (found : List ℕ) → list_any (λ q. q == 0) found ≡ true → list_any (λ q. q == 2) found ≡ true → list_any (λ q. q == 5) found ≡ true → list_any (λ q. q == 8) found ≡ true → list_any (λ q. q == 15) found ≡ true → list_any (λ q. q == 17) found ≡ true
    → missing_from 0 order_103 found ≡ None
unfolding missing_from
none-missing found a b c d e f = rw (a, b, c, d, e, f) refl

-- of a transfer that is read no field is missing
pub has-all : (t : Tables) (fs : List Field) (found : List ℕ) (m : Mt103) → contents_of t fs found ≡ Ok m → missing_from 0 order_103 found ≡ None
has-all t fs found m said =
    let s = contents-say t fs found m said in
    none-missing found (taken fs found 0 reference_of s.terms.reference s.terms_say.reference) (taken fs found 2 operation_of s.terms.op s.terms_say.op)
    (taken fs found 5 (value_of t) s.terms.value s.terms_say.value) (taken fs found 8 (known_party_of t) s.parties.payer s.parties_say.payer)
    (taken fs found 15 (known_party_of t) s.parties.payee s.parties_say.payee) (taken fs found 17 charge_of s.details.charge s.details_say.charge)
