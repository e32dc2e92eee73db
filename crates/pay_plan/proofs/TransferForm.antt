-- The form of a transfer that was read: its reference, its value date, and the banks of 56a and 57a.
use Rattle.std.proofs.Common.{◌≡◌, ℕ, IfSome, List, [], ◌∷◌, Ok, subst, ◌∙◌}
use Rattle.corr_ids.specs.Day.{InCentury}
use Rattle.day_model.specs.Shape.{IsReference}
use Rattle.ref_tables.specs.Seen.{Tables}
use Rattle.fin_fields.specs.declared.field.Field.{Field}
use Rattle.fin_layout.specs.Contents.{all_from, in_option, in_place}
use Rattle.fin_layout.specs.Order.{field_in, places_from}
use Rattle.fin_layout.specs.Tests.{passed}
use Rattle.fin_layout.proofs.laws.ReadBack.{must-ok}
use Rattle.fin_contents.proofs.laws.Again.{value-day}
use Rattle.fin_contents.proofs.laws.Steps.{read-then}
use Rattle.fin_contents.specs.Money.{ccy_amount_of, rate_of, value_of}
use Rattle.fin_contents.specs.Parties.{known_party_of}
use Rattle.fin_contents.specs.Plain.{reference_of, time_of}
use Rattle.mt103.specs.Codes.{instr_of, kind_of, operation_of}
use Rattle.mt103.specs.Instructions.{d98, e46}
use Rattle.mt103.specs.Message.{contents_of, field_tests, mt103_of}
use Rattle.mt103.specs.inner.Parts.{Parties, Terms, contents_in_parts, details_of, transfer_of_parts, parties_of, terms_of}
use Rattle.mt103.specs.declared.message.Mt103.{Mt103}
use Rattle.mt103.specs.Order.{order_103}
use Rattle.mt103.proofs.laws.Parts.{contents-are}
use Rattle.pay_plan.specs.Readable.{IsTransferRead}
use Rattle.pay_plan.proofs.Parties.{HasBank, bank-form, ok-is}
use Rattle.pay_plan.proofs.Words.{reference-form}

pub record TransferForm (t : Tables) (m : Mt103) : Type 0 where
  pub reference : IsReference m.reference
  pub value : InCentury m.value
  pub p56 : IfSome m.p56 (HasBank t)
  pub p57 : IfSome m.p57 (HasBank t)

record TermsForm (x : Terms) : Type 0 where
  reference : IsReference x.reference
  value : InCentury x.value.day

record PartiesForm (t : Tables) (x : Parties) : Type 0 where
  p56 : IfSome x.p56 (HasBank t)
  p57 : IfSome x.p57 (HasBank t)

terms-form : (t : Tables) (fs : List Field) (found : List ℕ) (x : Terms) → terms_of t fs found ≡ Ok x → TermsForm x
unfolding terms_of
terms-form t fs found x e =
    let r0 = read-then (in_place order_103 fs found 0 reference_of) _ x e in
    let r1 = read-then (all_from fs 1 time_of 0 found fs) _ x r0.2 in
    let r2 = read-then (in_place order_103 fs found 2 operation_of) _ x r1.2 in
    let r3 = read-then (all_from fs 3 instr_of 0 found fs) _ x r2.2 in
    let r4 = read-then (in_option fs found 4 kind_of) _ x r3.2 in
    let r5 = read-then (in_place order_103 fs found 5 (value_of t)) _ x r4.2 in
    let r6 = read-then (in_option fs found 6 (ccy_amount_of t)) _ x r5.2 in
    let r7 = read-then (in_option fs found 7 rate_of) _ x r6.2 in
    let same : record { reference = r0.0; times = r1.0; op = r2.0; instrs = r3.0; kind = r4.0; value = r5.0; ordered = r6.0; rate = r7.0 } ≡ x = ok-is _ x r7.2 in
    let f = must-ok order_103 fs 0 reference_of (field_in fs found 0) r0.0 r0.1 in
    let g = must-ok order_103 fs 5 (value_of t) (field_in fs found 5) r5.0 r5.1 in
    subst TermsForm same (record { reference = reference-form f.0 r0.0 f.1; value = value-day t g.0 r5.0 g.1 })

parties-form : (t : Tables) (fs : List Field) (found : List ℕ) (x : Parties) → parties_of t fs found ≡ Ok x → PartiesForm t x
unfolding parties_of
parties-form t fs found x e =
    let r0 = read-then (in_place order_103 fs found 8 (known_party_of t)) _ x e in
    let r1 = read-then (in_option fs found 9 (known_party_of t)) _ x r0.2 in
    let r2 = read-then (in_option fs found 10 (known_party_of t)) _ x r1.2 in
    let r3 = read-then (in_option fs found 11 (known_party_of t)) _ x r2.2 in
    let r4 = read-then (in_option fs found 12 (known_party_of t)) _ x r3.2 in
    let r5 = read-then (in_option fs found 13 (known_party_of t)) _ x r4.2 in
    let r6 = read-then (in_option fs found 14 (known_party_of t)) _ x r5.2 in
    let r7 = read-then (in_place order_103 fs found 15 (known_party_of t)) _ x r6.2 in
    let same : record { payer = r0.0; p52 = r1.0; p53 = r2.0; p54 = r3.0; p55 = r4.0; p56 = r5.0; p57 = r6.0; payee = r7.0 } ≡ x = ok-is _ x r7.2 in
    subst (PartiesForm t) same (record { p56 = bank-form t fs found 13 r5.0 r5.1; p57 = bank-form t fs found 14 r6.0 r6.1 })

contents-form : (t : Tables) (fs : List Field) (found : List ℕ) (m : Mt103) → contents_of t fs found ≡ Ok m → TransferForm t m
unfolding contents_in_parts
contents-form t fs found m e =
    let whole : contents_in_parts t fs found ≡ Ok m = contents-are t fs found ∙ e in
    let terms = read-then (terms_of t fs found) _ m whole in
    let parties = read-then (parties_of t fs found) _ m terms.2 in
    let details = read-then (details_of t fs found) _ m parties.2 in
    let same : transfer_of_parts terms.0 parties.0 details.0 ≡ m = ok-is _ m details.2 in
    let first = terms-form t fs found terms.0 terms.1 in
    let second = parties-form t fs found parties.0 parties.1 in
    subst (TransferForm t) same (record { reference = first.reference; value = first.value; p56 = second.p56; p57 = second.p57 })

message-form : (t : Tables) (fs : List Field) (m : Mt103) → mt103_of t fs ≡ Ok m → TransferForm t m
unfolding mt103_of
message-form t fs m e =
    let structure = read-then (passed (field_tests t fs)) _ m e in
    let contents = read-then (contents_of t fs (places_from order_103 0 fs)) _ m structure.2 in
    let more = read-then (passed (e46 contents.0.instrs ∷ d98 contents.0.instrs ∷ [])) _ m contents.2 in
    subst (TransferForm t) (ok-is contents.0 m more.2) (contents-form t fs (places_from order_103 0 fs) contents.0 contents.1)

pub transfer-form : (t : Tables) (m : Mt103) → IsTransferRead t m → TransferForm t m
transfer-form t m is = message-form t is.fields m is.read
