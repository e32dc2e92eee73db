-- What a message has that passes every test.
use Rattle.std.proofs.Common.{◌≡◌, ℕ, ◌*◌, ◌≤◌, ◌==◌, not, Bool, true, false, cond, List, [], ◌∷◌, length, option_map, option_and_then, position, slice_get, Option, Some, None, Result, Ok, Err, refl, sym, subst, arith, inl, inr, ◌⊎◌}
use Rattle.std.specs.Prelude.{IfOk, IsTrue, OnOk, codes}
use Rattle.std.specs.Str.{bytes_eq}
use Rattle.corr_text.specs.Codes.{code}
use Rattle.corr_text.specs.First.{first_of, unless}
use Rattle.corr_text.specs.Lines.{lines_of}
use Rattle.corr_text.specs.declared.fault.Fault.{Fault}
use Rattle.corr_ids.specs.declared.bic.Bic.{Bic}
use Rattle.corr_ids.specs.declared.address.LtAddress.{LtAddress}
use Rattle.corr_ids.specs.declared.uetr.Uetr.{Uetr}
use Rattle.fin_blocks.specs.Blocks.{blocks_of}
use Rattle.fin_blocks.specs.declared.blocks.App.{App}
use Rattle.fin_blocks.specs.declared.blocks.App.TheVariants as form
use Rattle.fin_blocks.specs.declared.blocks.Blocks.{Blocks}
use Rattle.fin_blocks.specs.declared.fault.BlockFault.{BlockFault}
use Rattle.fin_blocks.proofs.laws.Sizes.{text_bytes}
use Rattle.fin_fields.specs.Faults.{faulty_line, field_fault, is_outside_x, nth_of, outside_x, outside_x_at, tag_of}
use Rattle.fin_fields.specs.Fields.{fields_of}
use Rattle.fin_fields.specs.declared.fault.FieldFault.{FieldFault}
use Rattle.fin_fields.specs.declared.fault.FieldFault.TheVariants.{P20 as line_fault, P21 as byte_fault}
use Rattle.fin_fields.specs.declared.field.Field.{Field}
use Rattle.fin_fields.proofs.laws.Cut.{cut-fit}
use Rattle.fin_layout.specs.Tests.{passed}
use Rattle.fin_layout.proofs.laws.Passed.{passed-none}
use Rattle.fin_contents.specs.Writing.{IsReadable}
use Rattle.mt103.specs.Message.{mt103_of}
use Rattle.mt103.specs.declared.message.Mt103.{Mt103}
use Rattle.mt103.proofs.laws.Amount.{amount-payable as transfer-payable}
use Rattle.mt103.proofs.laws.Passed.{fields-pass as transfer-passes}
use Rattle.mt103_rules.specs.Rules.{all_rules}
use Rattle.mt202cov.specs.Message.{mt202cov_of}
use Rattle.mt202cov.proofs.laws.Amount.{amount-payable as cover-payable}
use Rattle.mt202cov.proofs.laws.Passed.{fields-pass as cover-passes, rules-pass}
use Rattle.mt9_advice.specs.Advice.{mt900_of, mt910_of}
use Rattle.mt9_advice.proofs.laws.Amount.{payable-900, payable-910}
use Rattle.mt9_advice.proofs.laws.Passed.{fields-pass-900, fields-pass-910, rule-passes}
use Rattle.mt950.specs.Page.{mt950_of}
use Rattle.mt950.proofs.laws.Pages.{fields-pass-950}
use Rattle.ref_tables.specs.Seen.{Tables, few_decimals, has_head}
use Rattle.fin_message.specs.Answers.{Answers, Fills}
use Rattle.fin_message.specs.Heading.{at_block, has_form, heading_tests, is_type}
use Rattle.fin_message.specs.Parts.{envelope_of, envelope_with, has_trailer, partner_of, type_of, uetr_in}
use Rattle.fin_message.specs.Sound.{CanBeWritten, Goes, HasAmount, HasEnvelope, HasPartner, IsEnvelope, IsOfForm, TextSays, IsSaid, IsValid, KeepsRules, lines_in, partner_in}
use Rattle.fin_message.specs.Verdict.{Refused, blocks_in, cover_in, credit_in, debit_in, judged, line_test, message_in, message_of, page_in, told_of, told_of_fields, transfer_in}
use Rattle.fin_message.specs.declared.direction.Direction.{Direction}
use Rattle.fin_message.specs.declared.direction.Direction.TheVariants.{Received, Sent}
use Rattle.fin_message.specs.declared.fault.MessageFault.{MessageFault}
use Rattle.fin_message.specs.declared.message.Message.{Message}
use Rattle.fin_message.proofs.Formed.{envelope-form, then}

of-form : (way : Direction) (own : LtAddress) (app : App) (uetr : Option Uetr) → has_form way app ≡ true → IsOfForm way (envelope_with own app uetr)
of-form Received own (form.Received mt mir) uetr e = refl
of-form Received own (form.Sent mt to) uetr e = absurd (cc e)
of-form Sent own (form.Received mt mir) uetr e = absurd (cc e)
of-form Sent own (form.Sent mt to) uetr e = refl

envelope-says : (way : Direction) (b : Blocks) → has_form way b.app ≡ true → IsOfForm way (envelope_of b)
envelope-says way b e = of-form way b.own b.app (uetr_in b) e

-- ---- the tests of the blocks

held : (holds : Bool) (fault : Fault) (others : List (Option Fault)) → first_of (unless holds fault ∷ others) ≡ None → (holds ≡ true) × (first_of others ≡ None)
held true fault others e = (refl, e)
held false fault others e = absurd (cc e)

-- block 2 is of its form, and the tables hold the bank that it names
record HeadingHolds (way : Direction) (t : Tables) (b : Blocks) : Type 0 where
  formed : has_form way b.app ≡ true
  partner : has_head t (partner_of b.app).head ≡ true

heading-holds : (way : Direction) (home : Bic) (t : Tables) (b : Blocks) (x : Unit {0}) → passed (heading_tests way home t b) ≡ Ok x → HeadingHolds way t b
heading-holds way home t b x e =
    let p07 = held (has_form way b.app) (at_block (code "P07") (codes "B2 ")) _ (passed-none (heading_tests way home t b) x e) in
    let p08 = held (bytes_eq b.own.head home.head) (at_block (code "P08") (codes "B1 ")) _ p07.1 in
    let p09 = held (not (has_trailer (codes "TNG") b)) (at_block (code "P09") (codes "B5 ")) _ p08.1 in
    let p10 = held (not (has_trailer (codes "PDE") b)) (at_block (code "P10") (codes "B5 ")) _ p09.1 in
    let p11 = held (is_type (type_of b.app)) (at_block (code "P11") (codes "B2 ")) _ p10.1 in
    let p12 = held (has_head t (partner_of b.app).head) (at_block (code "P12") (codes "B2 ")) _ p11.1 in
    record { formed = p07.0; partner = p12.0 }

-- the bank that block 2 names is the envelope's other bank
partner-known : (way : Direction) (t : Tables) (own : LtAddress) (app : App) (uetr : Option Uetr) → has_form way app ≡ true → has_head t (partner_of app).head ≡ true → has_head t (partner_in way (envelope_with own app uetr)).head ≡ true
partner-known Received t own (form.Received mt mir) uetr e known = known
partner-known Received t own (form.Sent mt to) uetr e known = absurd (cc e)
partner-known Sent t own (form.Received mt mir) uetr e known = absurd (cc e)
partner-known Sent t own (form.Sent mt to) uetr e known = known

-- ---- lines without fault

-- P21 is told of every field at fault
byte-told : (tag : Field → List ℕ) (nth : ℕ) (o : Option Field) → option_and_then told_of_fields (option_map (λ f. byte_fault (tag f) nth) o) ≡ None → option_map (λ f. byte_fault (tag f) nth) o ≡ None
byte-told tag nth None e = refl
byte-told tag nth (Some f) e = absurd (cc e)

outside-told : (fs : List Field) (at : Option ℕ) → option_and_then told_of_fields (option_and_then (outside_x_at fs) at) ≡ None → option_and_then (outside_x_at fs) at ≡ None
outside-told fs None e = refl
outside-told fs (Some i) e = byte-told tag_of (nth_of fs i) (slice_get fs i) e

-- and P20 of every line
first-told : (line : Option ℕ) (byte : Option FieldFault) → (option_and_then told_of_fields byte ≡ None → byte ≡ None)
    → option_and_then told_of_fields (first_of (option_map (λ l. line_fault l) line ∷ byte ∷ [])) ≡ None → first_of (option_map (λ l. line_fault l) line ∷ byte ∷ []) ≡ None
first-told None None told e = refl
first-told None (Some fault) told e = told e
first-told (Some line) byte told e = absurd (cc e)

only-test : (o : Option Fault) → first_of (o ∷ []) ≡ None → o ≡ None
only-test None e = refl
only-test (Some fault) e = absurd (cc e)

-- lines that pass their test are cut without fault
lines-cut : (text : List ℕ) (u : Unit {0}) → passed (line_test text ∷ []) ≡ Ok u → field_fault text ≡ None
lines-cut text u e =
    let fs = fields_of text in
    first-told (faulty_line (lines_of text)) (outside_x fs) (outside-told fs (position is_outside_x fs)) (only-test (line_test text) (passed-none (line_test text ∷ []) u e))

-- what fields of such lines say can be written
writable : {M : Type 0} (read : Tables → List Field → Result M Fault) (t : Tables) (text : List ℕ) (m : M) → field_fault text ≡ None → read t (fields_of text) ≡ Ok m → IsTrue (few_decimals t.ccys) → IsReadable read m
writable read t text m cut says few = record { tables = t; few = few; fields = fields_of text; fit = cut-fit text cut; says = says }

-- ---- what a message says that came of blocks

record Says (way : Direction) (t : Tables) (text : List ℕ) (x : Message) : Type 0 where
  goes : Goes way x
  envelope : HasEnvelope x
  partner : HasPartner way t x
  said : IsSaid t x
  read : TextSays t x
  rules : KeepsRules t x
  amount : HasAmount x
  written : IsTrue (few_decimals t.ccys) → CanBeWritten x
  lines : (lines_in x ≡ text) ⊎ (lines_in x ≡ [])

module _ (way : Direction) (t : Tables) (b : Blocks) (e : HeadingHolds way t b) (f : IsEnvelope (envelope_of b)) (cut : field_fault b.text ≡ None) where
  transfer-says : IfOk (transfer_in t b) (Says way t b.text)
  unfolding transfer_in
  transfer-says =
      let P : Message → Type 0 = Says way t b.text in
      let rules = λ (transfer : Mt103). all_rules (envelope_of b).sender (envelope_of b).receiver t transfer in
      then P (mt103_of t (fields_of b.text)) _ (λ transfer read.
      then P (passed (rules transfer)) _ (λ u keeps.
      record {
        goes = envelope-says way b e.formed;
        envelope = f;
        partner = partner-known way t b.own b.app (uetr_in b) e.formed e.partner;
        said = record { cut = cut; tests = transfer-passes t (fields_of b.text) transfer read; says = read };
        read = read;
        rules = passed-none (rules transfer) u keeps;
        amount = transfer-payable t (fields_of b.text) transfer read;
        written = writable mt103_of t b.text transfer cut read;
        lines = inl refl;
      }))

  cover-says : IfOk (cover_in t b) (Says way t b.text)
  unfolding cover_in
  cover-says =
      then (Says way t b.text) (mt202cov_of t (fields_of b.text)) _ (λ cover read.
      record {
        goes = envelope-says way b e.formed;
        envelope = f;
        partner = partner-known way t b.own b.app (uetr_in b) e.formed e.partner;
        said = record { cut = cut; tests = cover-passes t (fields_of b.text) cover read; says = read };
        read = read;
        rules = rules-pass t (fields_of b.text) cover read;
        amount = cover-payable t (fields_of b.text) cover read;
        written = writable mt202cov_of t b.text cover cut read;
        lines = inl refl;
      })

  debit-says : IfOk (debit_in t b) (Says way t b.text)
  unfolding debit_in
  debit-says =
      then (Says way t b.text) (mt900_of t (fields_of b.text)) _ (λ advice read.
      record {
        goes = envelope-says way b e.formed;
        envelope = f;
        partner = partner-known way t b.own b.app (uetr_in b) e.formed e.partner;
        said = (b.text, record { cut = cut; tests = fields-pass-900 t (fields_of b.text) advice read; says = read });
        read = tt;
        rules = tt;
        amount = payable-900 t (fields_of b.text) advice read;
        written = writable mt900_of t b.text advice cut read;
        lines = inr refl;
      })

  credit-says : IfOk (credit_in t b) (Says way t b.text)
  unfolding credit_in
  credit-says =
      then (Says way t b.text) (mt910_of t (fields_of b.text)) _ (λ advice read.
      record {
        goes = envelope-says way b e.formed;
        envelope = f;
        partner = partner-known way t b.own b.app (uetr_in b) e.formed e.partner;
        said = (b.text, record { cut = cut; tests = fields-pass-910 t (fields_of b.text) advice read; says = read });
        read = tt;
        rules = rule-passes t (fields_of b.text) advice read;
        amount = payable-910 t (fields_of b.text) advice read;
        written = writable mt910_of t b.text advice cut read;
        lines = inr refl;
      })

  page-says : IfOk (page_in t b) (Says way t b.text)
  unfolding page_in
  page-says =
      then (Says way t b.text) (mt950_of t (fields_of b.text)) _ (λ page read.
      record {
        goes = envelope-says way b e.formed;
        envelope = f;
        partner = partner-known way t b.own b.app (uetr_in b) e.formed e.partner;
        said = (b.text, record { cut = cut; tests = fields-pass-950 t (fields_of b.text) page read; says = read });
        read = tt;
        rules = tt;
        amount = tt;
        written = writable mt950_of t b.text page cut read;
        lines = inr refl;
      })

either-ok : (P : Message → Type 0) (test : Bool) (r q : Result Message Fault) → IfOk r P → IfOk q P → IfOk (cond test r q) P
either-ok P true r q p o = p
either-ok P false r q p o = o

type-says : (way : Direction) (t : Tables) (b : Blocks) → HeadingHolds way t b → IsEnvelope (envelope_of b) → field_fault b.text ≡ None → IfOk (message_in t b) (Says way t b.text)
type-says way t b e f cut =
    let P : Message → Type 0 = Says way t b.text in
    let mt = type_of b.app in
    either-ok P (mt == 103) (transfer_in t b) _ (transfer-says way t b e f cut)
    (either-ok P (mt == 202) (cover_in t b) _ (cover-says way t b e f cut)
    (either-ok P (mt == 900) (debit_in t b) _ (debit-says way t b e f cut)
    (either-ok P (mt == 910) (credit_in t b) _ (credit-says way t b e f cut) (page-says way t b e f cut))))

lines-short : (lines text : List ℕ) (n : ℕ) → (lines ≡ text) ⊎ (lines ≡ []) → length text ≤ n → length lines ≤ n
lines-short lines text n (inl e) le = subst (λ (l : List ℕ). length l ≤ n) (sym e) le
lines-short lines text n (inr e) le = subst (λ (l : List ℕ). length l ≤ n) (sym e) (omega arith)

message-says : (way : Direction) (home : Bic) (t : Tables) (b : Blocks) → IsEnvelope (envelope_of b) → IfOk (message_of way home t b) (Says way t b.text)
unfolding message_of
message-says way home t b f =
    let P : Message → Type 0 = Says way t b.text in
    then P (passed (heading_tests way home t b)) _ (λ x e.
    then P (passed (line_test b.text ∷ [])) _ (λ u lines.
    type-says way t b (heading-holds way home t b x e) f (lines-cut b.text u lines)))

told-says : (P : Message → Type 0) (b : Blocks) (r : Result Message Fault) → IfOk r P → IfOk (told_of b r) P
told-says P b (Ok x) p = p
told-says P b (Err e) p = tt

read-blocks : (r : Result Blocks BlockFault) (b : Blocks) → blocks_in r ≡ Ok b → r ≡ Ok b
read-blocks (Ok x) b e = cc e
read-blocks (Err fault) b e = absurd (cc e)

judged-sound : (way : Direction) (home : Bic) (t : Tables) (m : List ℕ) → IfOk (judged way home t m) (IsValid way t (2 * length m))
unfolding judged
judged-sound way home t m =
    let P : Message → Type 0 = IsValid way t (2 * length m) in
    then P (blocks_in (blocks_of m)) _ (λ b e.
    let is : blocks_of m ≡ Ok b = read-blocks (blocks_of m) b e in
    told-says P b (message_of way home t b)
    (weaker (message_of way home t b) (Says way t b.text) P
    (λ x says. record {
      goes = says.goes;
      envelope = says.envelope;
      partner = says.partner;
      said = says.said;
      read = says.read;
      rules = says.rules;
      amount = says.amount;
      written = says.written;
      short = lines-short (lines_in x) b.text (2 * length m) says.lines (text_bytes m b is);
    })
    (message-says way home t b (envelope-form m b is))))
  where
    weaker : (r : Result Message Fault) (P Q : Message → Type 0) → ((x : Message) → P x → Q x) → IfOk r P → IfOk r Q
    weaker (Ok x) P Q f p = f x p
    weaker (Err e) P Q f p = tt

answered : (P : Message → Type 0) (r : Result Message MessageFault) (meant : Result Message Refused) → Answers r meant → IfOk meant P → IfOk r P
answered P (Ok x) meant a p = subst (λ o. IfOk o P) a p
answered P (Err e) meant a p = tt

pub sound : (way : Direction) (home : Bic) (t : Tables) (m : List ℕ) (r : Result Message MessageFault) → Answers r (judged way home t m) → IfOk r (IsValid way t (2 * length m))
sound way home t m r a = answered (IsValid way t (2 * length m)) r (judged way home t m) a (judged-sound way home t m)

placed : {B : Type 0} (P : Message → Type 0) (r : Result B MessageFault) (x : Message) (meant : Result Message Refused) → Fills r x meant → IfOk meant P → OnOk r (P x)
placed P (Ok b) x meant a p = subst (λ o. IfOk o P) a p
placed P (Err e) x meant a p = tt

-- the same of a message that is left in a place
pub sound_in : {B : Type 0} (way : Direction) (home : Bic) (t : Tables) (m : List ℕ) (r : Result B MessageFault) (x : Message) → Fills r x (judged way home t m) → OnOk r (IsValid way t (2 * length m) x)
sound_in way home t m r x a = placed (IsValid way t (2 * length m)) r x (judged way home t m) a (judged-sound way home t m)
