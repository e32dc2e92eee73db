-- What a message that is accepted has: its sender stands in the tables, its lines say what it says, and it breaks no rule.
use Rattle.std.proofs.Common.{◌≡◌, ℕ, ◌==◌, not, Bool, true, false, cond, List, [], ◌∷◌, Option, Some, None, Result, Ok, Err, refl, subst, option_map, option_and_then, position, slice_get}
use Rattle.std.specs.Prelude.{codes}
use Rattle.std.specs.Str.{bytes_eq}
use Rattle.corr_text.specs.Codes.{code}
use Rattle.corr_text.specs.First.{first_of, unless}
use Rattle.corr_text.specs.Lines.{lines_of}
use Rattle.corr_text.specs.declared.fault.Fault.{Fault}
use Rattle.corr_ids.specs.Address.{bank_of}
use Rattle.corr_ids.specs.Mir.{sender_of}
use Rattle.corr_ids.specs.declared.address.LtAddress.{LtAddress}
use Rattle.corr_ids.specs.declared.bic.Bic.{Bic}
use Rattle.corr_ids.specs.declared.envelope.Envelope.{Envelope}
use Rattle.corr_ids.specs.declared.uetr.Uetr.{Uetr}
use Rattle.ref_tables.specs.Seen.{Tables, has_head}
use Rattle.fin_blocks.specs.Blocks.{blocks_of}
use Rattle.fin_blocks.specs.declared.blocks.App.{App}
use Rattle.fin_blocks.specs.declared.blocks.App.TheVariants as form
use Rattle.fin_blocks.specs.declared.blocks.Blocks.{Blocks}
use Rattle.fin_contents.proofs.laws.Steps.{read-then, told-is}
use Rattle.fin_fields.specs.Faults.{faulty_line, field_fault, is_outside_x, nth_of, outside_x, outside_x_at, tag_of}
use Rattle.fin_fields.specs.Fields.{fields_of}
use Rattle.fin_fields.specs.declared.fault.FieldFault.{FieldFault}
use Rattle.fin_fields.specs.declared.fault.FieldFault.TheVariants.{P20 as line_fault, P21 as byte_fault}
use Rattle.fin_fields.specs.declared.field.Field.{Field}
use Rattle.fin_layout.specs.Tests.{passed}
use Rattle.fin_layout.proofs.laws.Passed.{passed-none}
use Rattle.mt103.specs.Message.{mt103_of}
use Rattle.mt103.proofs.laws.Passed.{fields-pass as transfer-passes}
use Rattle.mt103_rules.specs.Rules.{all_rules}
use Rattle.mt202cov.specs.Message.{mt202cov_of}
use Rattle.mt202cov.proofs.laws.Passed.{fields-pass as cover-passes, rules-pass}
use Rattle.mt9_advice.specs.Advice.{mt900_of, mt910_of}
use Rattle.mt950.specs.Page.{mt950_of}
use Rattle.fin_message.specs.Heading.{at_block, has_form, heading_tests, is_type}
use Rattle.fin_message.specs.Parts.{envelope_of, envelope_with, has_trailer, partner_of, type_of, uetr_in}
use Rattle.fin_message.specs.Sound.{IsSaid, KeepsRules}
use Rattle.fin_message.specs.Verdict.{blocks_in, cover_in, credit_in, debit_in, judged, line_test, message_in, message_of, page_in, told_of, told_of_fields, transfer_in, verdict_of}
use Rattle.fin_message.specs.declared.direction.Direction.TheVariants.{Received}
use Rattle.fin_message.specs.declared.message.Message.{Message}
use Rattle.fin_message.specs.declared.message.Message.TheVariants as message
use Rattle.pay_plan.specs.Plan.{mir_of_envelope}

-- the tables hold the head of the bank that sent it, which its reference names
pub record HasSender (t : Tables) (envelope : Envelope) : Type 0 where
  pub known : has_head t envelope.sender.head ≡ true
  pub named : has_head t (bank_of (sender_of (mir_of_envelope envelope))).head ≡ true

-- such a message, which its lines say and which breaks no rule
pub record IsGood (t : Tables) (envelope : Envelope) (m : Message) : Type 0 where
  pub sender : HasSender t envelope
  pub said : IsSaid t m
  pub rules : KeepsRules t m

-- so is a transfer or a cover
abbrev pub AsksWell : Tables → Message → Type 0
AsksWell t (message.Transfer envelope text transfer) = IsGood t envelope (message.Transfer envelope text transfer)
AsksWell t (message.Cover envelope text cover) = IsGood t envelope (message.Cover envelope text cover)
AsksWell t (message.Debit envelope advice) = Unit {0}
AsksWell t (message.Credit envelope advice) = Unit {0}
AsksWell t (message.Page envelope page) = Unit {0}

-- ---- the tests of the blocks

held : (holds : Bool) (fault : Fault) (others : List (Option Fault)) → first_of (unless holds fault ∷ others) ≡ None → (holds ≡ true) × (first_of others ≡ None)
held true fault others e = (refl, e)
held false fault others e = absurd (cc e)

sender-known : (t : Tables) (own : LtAddress) (app : App) (uetr : Option Uetr) → has_form Received app ≡ true → has_head t (partner_of app).head ≡ true → HasSender t (envelope_with own app uetr)
sender-known t own (form.Received mt mir) uetr e known = record { known = known; named = known }
sender-known t own (form.Sent mt to) uetr e known = absurd (cc e)

heading-known : (home : Bic) (t : Tables) (b : Blocks) (u : Unit {0}) → passed (heading_tests Received home t b) ≡ Ok u → HasSender t (envelope_of b)
heading-known home t b u e =
    let p07 = held (has_form Received b.app) (at_block (code "P07") (codes "B2 ")) _ (passed-none (heading_tests Received home t b) u e) in
    let p08 = held (bytes_eq b.own.head home.head) (at_block (code "P08") (codes "B1 ")) _ p07.1 in
    let p09 = held (not (has_trailer (codes "TNG") b)) (at_block (code "P09") (codes "B5 ")) _ p08.1 in
    let p10 = held (not (has_trailer (codes "PDE") b)) (at_block (code "P10") (codes "B5 ")) _ p09.1 in
    let p11 = held (is_type (type_of b.app)) (at_block (code "P11") (codes "B2 ")) _ p10.1 in
    let p12 = held (has_head t (partner_of b.app).head) (at_block (code "P12") (codes "B2 ")) _ p11.1 in
    sender-known t b.own b.app (uetr_in b) p07.0 p12.0

-- ---- the test of the lines

-- P21 is told of every field at fault
byte-told : (tag : Field → List ℕ) (nth : ℕ) (o : Option Field) → option_and_then told_of_fields (option_map (λ f. byte_fault (tag f) nth) o) ≡ None → option_map (λ f. byte_fault (tag f) nth) o ≡ None
byte-told tag nth None e = refl
byte-told tag nth (Some f) e = absurd (cc e)

outside-told : (fs : List Field) (at : Option ℕ) → option_and_then told_of_fields (option_and_then (outside_x_at fs) at) ≡ None → option_and_then (outside_x_at fs) at ≡ None
outside-told fs None e = refl
outside-told fs (Some i) e = byte-told tag_of (nth_of fs i) (slice_get fs i) e

-- and P20 of every line
first-told : (line : Option ℕ) (byte : Option FieldFault) → (option_and_then told_of_fields byte ≡ None → byte ≡ None)
    → option_and_then told_of_fields (first_of (option_map (λ l. line_fault l) line ∷ byte ∷ [])) ≡ None → first_of (option_map (λ l. line_fault l) line ∷ byte ∷ []) ≡ None
first-told None None told e = refl
first-told None (Some fault) told e = told e
first-told (Some line) byte told e = absurd (cc e)

only-test : (o : Option Fault) → first_of (o ∷ []) ≡ None → o ≡ None
only-test None e = refl
only-test (Some fault) e = absurd (cc e)

lines-cut : (text : List ℕ) (u : Unit {0}) → passed (line_test text ∷ []) ≡ Ok u → field_fault text ≡ None
lines-cut text u e =
    let fs = fields_of text in
    first-told (faulty_line (lines_of text)) (outside_x fs) (outside-told fs (position is_outside_x fs)) (only-test (line_test text) (passed-none (line_test text ∷ []) u e))

-- ---- the message that is read of them

-- what is so of what either choice gives
either : {A F : Type 0} (P : Type 0) (test : Bool) (r q : Result A F) (x : A) → (r ≡ Ok x → P) → (q ≡ Ok x → P) → cond test r q ≡ Ok x → P
either P true r q x f g e = f e
either P false r q x f g e = g e

module _ (t : Tables) (b : Blocks) (known : HasSender t (envelope_of b)) (cut : field_fault b.text ≡ None) (x : Message) where
  transfer-good : transfer_in t b ≡ Ok x → AsksWell t x
  unfolding transfer_in
  transfer-good e =
      let envelope = envelope_of b in
      let m = read-then (mt103_of t (fields_of b.text)) _ x e in
      let rules = read-then (passed (all_rules envelope.sender envelope.receiver t m.0)) _ x m.2 in
      subst (AsksWell t) (told-is (message.Transfer envelope b.text m.0) x rules.2) (record {
        sender = known;
        said = record { cut = cut; tests = transfer-passes t (fields_of b.text) m.0 m.1; says = m.1 };
        rules = passed-none (all_rules envelope.sender envelope.receiver t m.0) rules.0 rules.1;
      })

  cover-good : cover_in t b ≡ Ok x → AsksWell t x
  unfolding cover_in
  cover-good e =
      let m = read-then (mt202cov_of t (fields_of b.text)) _ x e in
      subst (AsksWell t) (told-is (message.Cover (envelope_of b) b.text m.0) x m.2) (record {
        sender = known;
        said = record { cut = cut; tests = cover-passes t (fields_of b.text) m.0 m.1; says = m.1 };
        rules = rules-pass t (fields_of b.text) m.0 m.1;
      })

  debit-good : debit_in t b ≡ Ok x → AsksWell t x
  unfolding debit_in
  debit-good e = let m = read-then (mt900_of t (fields_of b.text)) _ x e in subst (AsksWell t) (told-is (message.Debit (envelope_of b) m.0) x m.2) tt

  credit-good : credit_in t b ≡ Ok x → AsksWell t x
  unfolding credit_in
  credit-good e = let m = read-then (mt910_of t (fields_of b.text)) _ x e in subst (AsksWell t) (told-is (message.Credit (envelope_of b) m.0) x m.2) tt

  page-good : page_in t b ≡ Ok x → AsksWell t x
  unfolding page_in
  page-good e = let m = read-then (mt950_of t (fields_of b.text)) _ x e in subst (AsksWell t) (told-is (message.Page (envelope_of b) m.0) x m.2) tt

  type-good : message_in t b ≡ Ok x → AsksWell t x
  type-good e =
      let mt = type_of b.app in
      let P = AsksWell t x in
      either P (mt == 103) (transfer_in t b) _ x transfer-good
      (either P (mt == 202) (cover_in t b) _ x cover-good
      (either P (mt == 900) (debit_in t b) _ x debit-good (either P (mt == 910) (credit_in t b) _ x credit-good page-good))) e

message-good : (home : Bic) (t : Tables) (b : Blocks) (x : Message) → message_of Received home t b ≡ Ok x → AsksWell t x
unfolding message_of
message-good home t b x e =
    let heading = read-then (passed (heading_tests Received home t b)) _ x e in
    let lines = read-then (passed (line_test b.text ∷ [])) _ x heading.2 in
    type-good t b (heading-known home t b heading.0 heading.1) (lines-cut b.text lines.0 lines.1) x lines.2

told-ok : (b : Blocks) (r : Result Message Fault) (x : Message) → told_of b r ≡ Ok x → r ≡ Ok x
told-ok b (Ok y) x e = let same : y ≡ x = cc e in subst (λ (z : Message). ◌≡◌ {A = Result Message Fault} (Ok y) (Ok z)) same refl
told-ok b (Err fault) x e = absurd (cc e)

-- a transfer or a cover that is accepted is so
pub verdict-good : (home : Bic) (t : Tables) (bs : List ℕ) (x : Message) → verdict_of home t bs ≡ Ok x → AsksWell t x
unfolding judged
verdict-good home t bs x e =
    let b = read-then (blocks_in (blocks_of bs)) _ x e in
    message-good home t b.0 x (told-ok b.0 (message_of Received home t b.0) x b.2)
