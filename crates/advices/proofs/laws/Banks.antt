-- Banks that are named: by a field that is taken over, or by a BIC of the tables.
use Rattle.std.proofs.Common.{◌≡◌, ℕ, ◌==◌, ◌||◌, true, false, List, [], ◌∷◌, length, take, drop, Option, Some, None, Ok, refl, arith}
use Rattle.std.specs.Prelude.{codes, find, IfSome}
use Rattle.std.specs.Char.{is_ascii_uppercase}
use Rattle.std.specs.List.{AllByRecursion, list_all}
use Rattle.std.proofs.lemmas.Bool.Decides.{nat_tests}
use Rattle.corr_text.specs.First.{first_of}
use Rattle.corr_text.specs.Lines.{begins_with}
use Rattle.corr_text.specs.Sets.{is_c_byte}
use Rattle.corr_ids.specs.Bic.{IsBic, bic_text, is_bic}
use Rattle.corr_ids.specs.declared.bic.Bic.{Bic}
use Rattle.corr_ids.proofs.laws.Spelling.{bic-printed, some_if}
use Rattle.ref_tables.specs.Seen.{Tables, has_head}
use Rattle.fin_fields.specs.declared.field.Field.{Field}
use Rattle.fin_parties.specs.Party.{form_of, party_in, party_of}
use Rattle.fin_parties.specs.declared.form.Form.TheVariants.{BankA}
use Rattle.fin_parties.specs.declared.party.Party.{Party}
use Rattle.fin_parties.specs.declared.party.Party.TheVariants as party
use Rattle.fin_contents.specs.Parties.{known_party_of}
use Rattle.fin_contents.specs.Writing.{some_field}
use Rattle.fin_contents.proofs.laws.Bytes.{and-three, and-both}
use Rattle.mt103.specs.Message.{content_test as content_103, field_tests as tests_103}
use Rattle.mt103.specs.Order.{order_103}
use Rattle.mt202cov.specs.Message.{content_test as content_202, field_tests as tests_202}
use Rattle.mt202cov.specs.Order.{order_202}
use Rattle.day_model.specs.declared.pay.Mt.TheVariants.{Transfer, Cover}
use Rattle.advices.specs.declared.received.Received.{Received}
use Rattle.advices.specs.Fields.{bank_field, is_named}
use Rattle.advices.specs.Received.{fields_for_52, first_fields, or_bank, ordering, sequence_a}
use Rattle.advices.proofs.laws.Copies.{SaysNamed, each-says, found-each, taken-each}

-- ---- a bank by its BIC

letter-other : (b : ℕ) → is_ascii_uppercase b ≡ true → (b == 47) ≡ false
letter-other b e = grind (arith, nat_tests)

no-slash : (bs : List ℕ) → list_all is_ascii_uppercase (take 6 bs) ≡ true → begins_with 47 bs ≡ false
no-slash [] e = refl
no-slash (b ∷ bs) e = letter-other b (and-both (is_ascii_uppercase b) (list_all is_ascii_uppercase (take 5 bs)) e).0

bic-letters : (bs : List ℕ) → is_bic bs ≡ true → begins_with 47 bs ≡ false
unfolding is_bic
bic-letters bs e =
    no-slash bs (and-three ((length bs == 8) || (length bs == 11)) (list_all is_ascii_uppercase (take 6 bs)) (list_all is_c_byte (drop 6 bs)) e).1

-- option A names the bank of the BIC, whose head the tables hold
pub bank-read : (t : Tables) (tag : ℕ) (b : Bic) → form_of tag (Some 65) ≡ Some BankA → IsBic b → has_head t b.head ≡ true
    → known_party_of t (bank_field tag b) ≡ Ok (party.A None b)
unfolding known_party_of party_of party_in
bank-read t tag b form is known =
    let printed = bic-printed b is in
    let plain : begins_with 47 (bic_text b) ≡ false = bic-letters (bic_text b) (some_if (is_bic (bic_text b)) _ b printed).0 in
    rw (form, plain, printed, known) refl

pub form-52 : form_of 52 (Some 65) ≡ Some BankA
unfolding form_of
form-52 = refl

-- ---- the ordering institution

-- one field of 52a's name, which names a known bank
pub record OneBank (t : Tables) (fs : List Field) : Type 0 where
  pub field : Field
  pub bank : Party
  pub same : fs ≡ field ∷ []
  pub named : is_named 52 (codes "AD") field ≡ true
  pub says : known_party_of t field ≡ Ok bank

pub or-bank : (t : Tables) (sender : Bic) (o : Option Field) → IsBic sender → has_head t sender.head ≡ true
    → IfSome o (λ f. (is_named 52 (codes "AD") f ≡ true) × SaysNamed 52 (codes "AD") (known_party_of t) f)
    → OneBank t (or_bank sender (some_field (λ f. f) o))
or-bank t sender None is known h = record {
  field = bank_field 52 sender;
  bank = party.A None sender;
  same = refl;
  named = refl;
  says = bank-read t 52 sender form-52 is known;
}
or-bank t sender (Some f) is known h = let says = h.1 h.0 in record { field = f; bank = says.0; same = refl; named = h.0; says = says.1 }

-- among the fields where it is looked for
found-bank : (t : Tables) (r : Received) (fs : List Field) → fields_for_52 r.mt r.fields ≡ fs → IsBic r.sender → has_head t r.sender.head ≡ true
    → AllByRecursion (SaysNamed 52 (codes "AD") (known_party_of t)) fs → OneBank t (ordering r)
found-bank t r fs at is known all =
    rw at
    (or-bank t r.sender (find (is_named 52 (codes "AD")) fs) is known
    (found-each (SaysNamed 52 (codes "AD") (known_party_of t)) (is_named 52 (codes "AD")) fs all))

pub ordering-of-cover : (t : Tables) (r : Received) (fs : List Field) → r.mt ≡ Cover → r.fields ≡ fs → first_of (tests_202 t fs) ≡ None
    → IsBic r.sender → has_head t r.sender.head ≡ true → OneBank t (ordering r)
ordering-of-cover t r fs mt same none is known =
    let all = each-says order_202 (content_202 t) fs none 52 (codes "AD") (4 ∷ 12 ∷ []) (known_party_of t) refl ((λ f. refl), ((λ f. refl), tt)) in
    found-bank t r (sequence_a fs) (rw (mt, same) refl) is known (taken-each (SaysNamed 52 (codes "AD") (known_party_of t)) (first_fields fs) fs all)

pub ordering-of-transfer : (t : Tables) (r : Received) (fs : List Field) → r.mt ≡ Transfer → r.fields ≡ fs → first_of (tests_103 t fs) ≡ None
    → IsBic r.sender → has_head t r.sender.head ≡ true → OneBank t (ordering r)
ordering-of-transfer t r fs mt same none is known =
    let all = each-says order_103 (content_103 t) fs none 52 (codes "AD") (9 ∷ []) (known_party_of t) refl ((λ f. refl), tt) in
    found-bank t r fs (rw (mt, same) refl) is known all
