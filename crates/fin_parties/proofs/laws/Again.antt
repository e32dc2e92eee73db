-- A party that was read is read again as it is written.
use Rattle.std.proofs.Common.{◌≡◌, ℕ, ◌==◌, ◌&&◌, not, Bool, true, false, cond, List, [], ◌∷◌, drop, Option, Some, None, option_map, option_and_then, refl, sym, ap, ◌∙◌, arith}
use Rattle.std.specs.List.{All}
use Rattle.std.proofs.lemmas.List.Elements.{All-cons, All-head}
use Rattle.std.proofs.lemmas.Bool.Decides.{nat_tests}
use Rattle.corr_text.specs.Lines.{begins_with}
use Rattle.corr_ids.specs.declared.bic.Bic.{Bic}
use Rattle.corr_ids.specs.Bic.{bic_of, bic_text}
use Rattle.corr_ids.proofs.laws.Spelling.{some_if}
use Rattle.fin_fields.specs.declared.field.Field.{Field}
use Rattle.fin_fields.specs.Faults.{has_other_byte}
use Rattle.fin_fields.specs.Writing.{Continues, ContinueAll, IsField}
use Rattle.fin_parties.specs.declared.form.Form.{Form}
use Rattle.fin_parties.specs.declared.form.Form.TheVariants.{BankA, BankB, BankC, BankD, CustomerA, CustomerK, PayerF, PayeeF}
use Rattle.fin_parties.specs.declared.opening.Opening.{Opening}
use Rattle.fin_parties.specs.declared.opening.Opening.TheVariants.{PartyLine, AccountLine}
use Rattle.fin_parties.specs.declared.party.Party.{Party}
use Rattle.fin_parties.specs.declared.party.Party.TheVariants as party
use Rattle.fin_parties.specs.Party.{Cut, opens, parts_of, after_first, bic_party, place_party, account_party, name_party, customer_party, payer_party, payee_party, is_account_line, is_line, is_name, are_numbered, form_of, party_in, party_of}
use Rattle.fin_parties.proofs.BicLines.{bic-spelled, bic-form, bic-begins, bic-continues, bic-of-x}
use Rattle.fin_parties.specs.Writing.{party_letter, led_by, party_lines, party_field}

mapped : {A B : Type 0} (f : A → B) (o : Option A) (y : B) → option_map f o ≡ Some y → (x : A) × (o ≡ Some x) × (f x ≡ y)
mapped f None y e = absurd (cc e)
mapped f (Some x) y e = (x, refl, cc e)

chained : {A B : Type 0} (f : A → Option B) (o : Option A) (y : B) → option_and_then f o ≡ Some y → (x : A) × (o ≡ Some x) × (f x ≡ Some y)
chained f None y e = absurd (cc e)
chained f (Some x) y e = (x, refl, e)

-- ---- the first line

-- a first line begins with a slash and is what it should be
abbrev Opened : Opening → Option (List ℕ) → Type 0
Opened opening None = Unit {0}
Opened opening (Some line) = (begins_with 47 line ≡ true) × (opens opening line ≡ true)

-- what is cut off, and what is left
record IsCut (opening : Opening) (lines : List (List ℕ)) (c : Cut) : Type 0 where
  whole : led_by c.first c.rest ≡ lines
  opened : Opened opening c.first

cut-by : (opening : Opening) (line : List ℕ) (lines : List (List ℕ)) (slash is : Bool) (c : Cut) → slash ≡ begins_with 47 line → is ≡ opens opening line
    → cond (not slash) (Some (record { first = None; rest = line ∷ lines })) (cond is (Some (record { first = Some line; rest = lines })) None) ≡ Some c
    → IsCut opening (line ∷ lines) c
cut-by opening line lines false is c s o e =
    let same : record { first = None; rest = line ∷ lines } ≡ c = cc e in
    rw (← same) (record { whole = refl; opened = tt })
cut-by opening line lines true true c s o e =
    let same : record { first = Some line; rest = lines } ≡ c = cc e in
    rw (← same) (record { whole = refl; opened = (sym s, sym o) })
cut-by opening line lines true false c s o e = absurd (cc e)

is-cut : (opening : Opening) (lines : List (List ℕ)) (c : Cut) → parts_of opening lines ≡ Some c → IsCut opening lines c
is-cut opening [] c e =
    let same : record { first = None; rest = [] } ≡ c = cc e in
    rw (← same) (record { whole = refl; opened = tt })
is-cut opening (line ∷ lines) c e = cut-by opening line lines (begins_with 47 line) (opens opening line) c refl refl e

-- ---- what is written

-- the letter of a form's fields
abbrev letter_in : Form → ℕ → Option ℕ
letter_in BankA tag = Some 65
letter_in BankB tag = Some 66
letter_in BankC tag = Some 67
letter_in BankD tag = Some 68
letter_in CustomerA tag = Some 65
letter_in CustomerK tag = cond (tag == 59) None (Some 75)
letter_in PayerF tag = Some 70
letter_in PayeeF tag = Some 70

-- a party of a form is written with these lines, and with the letter of the form
record Kept (form : Form) (lines : List (List ℕ)) (p : Party) : Type 0 where
  same : party_lines p ≡ lines
  letter : (tag : ℕ) → party_letter tag p ≡ letter_in form tag

-- ---- a BIC

bic-written : (opening : Opening) (first : Option (List ℕ)) (text : List ℕ) (b : Bic) → Opened opening first → bic_of text ≡ Some b → begins_with 47 text ≡ false
    → after_first opening bic_party (led_by first (text ∷ [])) ≡ Some (party.A first b)
bic-written opening None text b o e plain = rw (plain, e) refl
bic-written opening (Some line) text b o e plain = rw (o.0, o.1, e) refl

bic-party-again : (opening : Opening) (first : Option (List ℕ)) (rest : List (List ℕ)) (p : Party) → Opened opening first → bic_party first rest ≡ Some p
    → after_first opening bic_party (party_lines p) ≡ Some p
bic-party-again opening first [] p o e = absurd (cc e)
bic-party-again opening first (line ∷ []) p o e =
    let m = mapped (λ b. party.A first b) (bic_of line) p e in
    let again = bic-spelled line m.0 m.1 in
    rw (← m.2) (bic-written opening first (bic_text m.0) m.0 o again (bic-begins 47 (bic_text m.0) refl (bic-form (bic_text m.0) m.0 again)))
bic-party-again opening first (line ∷ next ∷ more) p o e = absurd (cc e)

bics-again : (opening : Opening) (lines : List (List ℕ)) (p : Party) → after_first opening bic_party lines ≡ Some p → after_first opening bic_party (party_lines p) ≡ Some p
bics-again opening lines p e =
    let c = chained (λ c. bic_party c.first c.rest) (parts_of opening lines) p e in
    bic-party-again opening c.0.first c.0.rest p (is-cut opening lines c.0 c.1).opened c.2

-- ---- every other party keeps its lines

place-kept : (first : Option (List ℕ)) (rest : List (List ℕ)) (p : Party) → place_party first rest ≡ Some p → Kept BankB (led_by first rest) p
place-kept None [] p e = absurd (cc e)
place-kept (Some line) [] p e =
    let same : party.B (Some line) None ≡ p = cc e in
    rw (← same) (record { same = refl; letter = λ t. refl })
place-kept None (place ∷ []) p e =
    rw (← (some_if (is_line place) (party.B None (Some place)) p e).1) (record { same = refl; letter = λ t. refl })
place-kept (Some line) (place ∷ []) p e =
    rw (← (some_if (is_line place) (party.B (Some line) (Some place)) p e).1) (record { same = refl; letter = λ t. refl })
place-kept None (place ∷ next ∷ more) p e = absurd (cc e)
place-kept (Some line) (place ∷ next ∷ more) p e = absurd (cc e)

account-kept : (lines : List (List ℕ)) (p : Party) → account_party lines ≡ Some p → Kept BankC lines p
account-kept [] p e = absurd (cc e)
account-kept (line ∷ []) p e = rw (← (some_if (is_account_line line) (party.C line) p e).1) (record { same = refl; letter = λ t. refl })
account-kept (line ∷ next ∷ more) p e = absurd (cc e)

name-kept : (first : Option (List ℕ)) (rest : List (List ℕ)) (p : Party) → name_party first rest ≡ Some p → Kept BankD (led_by first rest) p
name-kept first rest p e = rw (← (some_if (is_name rest) (party.D first rest) p e).1) (record { same = refl; letter = λ t. refl })

slash-back : (first : Option (List ℕ)) → Opened AccountLine first → option_map (λ a. 47 ∷ a) (option_map (drop 1) first) ≡ first
slash-back None o = refl
slash-back (Some []) o = absurd (cc o.0)
slash-back (Some (x ∷ xs)) o =
    let slash : x ≡ 47 = grind (arith, nat_tests, o.0) in
    rw slash refl

customer-kept : (first : Option (List ℕ)) (rest : List (List ℕ)) (p : Party) → Opened AccountLine first → customer_party first rest ≡ Some p
    → Kept CustomerK (led_by first rest) p
customer-kept first rest p o e =
    rw (← (some_if (is_name rest) (party.K (option_map (drop 1) first) rest) p e).1)
    (record { same = ap (λ f. led_by f rest) (slash-back first o); letter = λ t. refl })

payer-kept : (lines : List (List ℕ)) (p : Party) → payer_party lines ≡ Some p → Kept PayerF lines p
payer-kept [] p e = absurd (cc e)
payer-kept (line ∷ rest) p e =
    rw (← (some_if (is_line line && are_numbered rest) (party.F (Some line) rest) p e).1) (record { same = refl; letter = λ t. refl })

payee-kept : (first : Option (List ℕ)) (rest : List (List ℕ)) (p : Party) → payee_party first rest ≡ Some p → Kept PayeeF (led_by first rest) p
payee-kept first rest p e = rw (← (some_if (are_numbered rest) (party.F first rest) p e).1) (record { same = refl; letter = λ t. refl })

-- after a first line that keeps its place
kept-after : (form : Form) (opening : Opening) (read : Option (List ℕ) → List (List ℕ) → Option Party) (lines : List (List ℕ)) (p : Party)
    → ((first : Option (List ℕ)) (rest : List (List ℕ)) → Opened opening first → read first rest ≡ Some p → Kept form (led_by first rest) p)
    → after_first opening read lines ≡ Some p → Kept form lines p
kept-after form opening read lines p each e =
    let c = chained (λ c. read c.first c.rest) (parts_of opening lines) p e in
    let is = is-cut opening lines c.0 c.1 in
    rw (is.whole) at (each c.0.first c.0.rest is.opened c.2)

-- whether a form has a BIC
abbrev has_bic : Form → Bool
has_bic BankA = true
has_bic CustomerA = true
has_bic _ = false

form-kept : (form : Form) (lines : List (List ℕ)) (p : Party) → has_bic form ≡ false → party_in form lines ≡ Some p → Kept form lines p
unfolding party_in
form-kept BankA lines p n e = absurd (cc n)
form-kept BankB lines p n e = kept-after BankB PartyLine place_party lines p (λ first rest o. place-kept first rest p) e
form-kept BankC lines p n e = account-kept lines p e
form-kept BankD lines p n e = kept-after BankD PartyLine name_party lines p (λ first rest o. name-kept first rest p) e
form-kept CustomerA lines p n e = absurd (cc n)
form-kept CustomerK lines p n e = kept-after CustomerK AccountLine customer_party lines p (λ first rest o. customer-kept first rest p o) e
form-kept PayerF lines p n e = payer-kept lines p e
form-kept PayeeF lines p n e = kept-after PayeeF AccountLine payee_party lines p (λ first rest o. payee-kept first rest p) e

-- ---- each form is read again

kept-again : (form : Form) (lines : List (List ℕ)) (p : Party) → has_bic form ≡ false → party_in form lines ≡ Some p → party_in form (party_lines p) ≡ Some p
kept-again form lines p n e = rw ((form-kept form lines p n e).same) e

lines-again : (form : Form) (lines : List (List ℕ)) (p : Party) → party_in form lines ≡ Some p → party_in form (party_lines p) ≡ Some p
unfolding party_in
lines-again BankA lines p e = bics-again PartyLine lines p e
lines-again CustomerA lines p e = bics-again AccountLine lines p e
lines-again BankB lines p e = kept-again BankB lines p refl e
lines-again BankC lines p e = kept-again BankC lines p refl e
lines-again BankD lines p e = kept-again BankD lines p refl e
lines-again CustomerK lines p e = kept-again CustomerK lines p refl e
lines-again PayerF lines p e = kept-again PayerF lines p refl e
lines-again PayeeF lines p e = kept-again PayeeF lines p refl e

-- ---- the letter

letter-of-form : (tag : ℕ) (letter : Option ℕ) (form : Form) → form_of tag letter ≡ Some form → letter_in form tag ≡ letter
unfolding form_of
letter-of-form tag None form e =
    let s = some_if (tag == 59) CustomerK form e in
    rw (← s.1, s.0) refl
letter-of-form tag (Some letter) BankA e = grind (arith, nat_tests)
letter-of-form tag (Some letter) BankB e = grind (arith, nat_tests)
letter-of-form tag (Some letter) BankC e = grind (arith, nat_tests)
letter-of-form tag (Some letter) BankD e = grind (arith, nat_tests)
letter-of-form tag (Some letter) CustomerA e = grind (arith, nat_tests)
letter-of-form tag (Some letter) CustomerK e = grind (arith, nat_tests)
letter-of-form tag (Some letter) PayerF e = grind (arith, nat_tests)
letter-of-form tag (Some letter) PayeeF e = grind (arith, nat_tests)

bic-letter : (first : Option (List ℕ)) (rest : List (List ℕ)) (p : Party) (tag : ℕ) → bic_party first rest ≡ Some p → party_letter tag p ≡ Some 65
bic-letter first [] p tag e = absurd (cc e)
bic-letter first (line ∷ []) p tag e = rw (← (mapped (λ b. party.A first b) (bic_of line) p e).2) refl
bic-letter first (line ∷ next ∷ more) p tag e = absurd (cc e)

bics-letter : (opening : Opening) (lines : List (List ℕ)) (p : Party) (tag : ℕ) → after_first opening bic_party lines ≡ Some p → party_letter tag p ≡ Some 65
bics-letter opening lines p tag e =
    let c = chained (λ c. bic_party c.first c.rest) (parts_of opening lines) p e in
    bic-letter c.0.first c.0.rest p tag c.2

letter-of-party : (tag : ℕ) (form : Form) (lines : List (List ℕ)) (p : Party) → party_in form lines ≡ Some p → party_letter tag p ≡ letter_in form tag
unfolding party_in
letter-of-party tag BankA lines p e = bics-letter PartyLine lines p tag e
letter-of-party tag CustomerA lines p e = bics-letter AccountLine lines p tag e
letter-of-party tag BankB lines p e = (form-kept BankB lines p refl e).letter tag
letter-of-party tag BankC lines p e = (form-kept BankC lines p refl e).letter tag
letter-of-party tag BankD lines p e = (form-kept BankD lines p refl e).letter tag
letter-of-party tag CustomerK lines p e = (form-kept CustomerK lines p refl e).letter tag
letter-of-party tag PayerF lines p e = (form-kept PayerF lines p refl e).letter tag
letter-of-party tag PayeeF lines p e = (form-kept PayeeF lines p refl e).letter tag

-- a party's option is the letter of the field that it was read from
pub letter-kept : (f : Field) (p : Party) → party_of f ≡ Some p → party_letter f.tag p ≡ f.letter
unfolding party_of
letter-kept f p e =
    let w = chained (λ form. party_in form f.lines) (form_of f.tag f.letter) p e in
    letter-of-party f.tag w.0 f.lines p w.2 ∙ letter-of-form f.tag f.letter w.0 w.1

-- a party that was read, written as a field, is read as itself
pub party-again : (f : Field) (p : Party) → party_of f ≡ Some p → party_of (party_field f.tag p) ≡ Some p
unfolding party_of
party-again f p e =
    let w = chained (λ form. party_in form f.lines) (form_of f.tag f.letter) p e in
    rw (letter-kept f p e, w.1) (lines-again w.0 f.lines p w.2)

-- ---- the lines may stand in a text

-- lines that a field of a text may have
record Stand (lines : List (List ℕ)) : Type 0 where
  continued : ContinueAll lines
  bytes : All (λ line. has_other_byte line ≡ false) lines

bic-stands : (first : Option (List ℕ)) (text : List ℕ) (lines : List (List ℕ)) → Continues text → has_other_byte text ≡ false → Stand (led_by first lines)
    → Stand (led_by first (text ∷ []))
bic-stands None text lines go x s = record {
  continued = λ k d lt. absurd (omega arith);
  bytes = All-cons (λ line. has_other_byte line ≡ false) text [] x (λ k d lt. absurd (omega arith));
}
bic-stands (Some line) text lines go x s = record {
  continued = All-cons Continues text [] go (λ k d lt. absurd (omega arith));
  bytes =
      All-cons (λ line. has_other_byte line ≡ false) line (text ∷ [])
      (All-head (λ line. has_other_byte line ≡ false) line lines s.bytes)
      (All-cons (λ line. has_other_byte line ≡ false) text [] x (λ k d lt. absurd (omega arith)));
}

bic-party-stands : (first : Option (List ℕ)) (rest : List (List ℕ)) (p : Party) → bic_party first rest ≡ Some p → Stand (led_by first rest) → Stand (party_lines p)
bic-party-stands first [] p e s = absurd (cc e)
bic-party-stands first (line ∷ []) p e s =
    let m = mapped (λ b. party.A first b) (bic_of line) p e in
    let form = bic-form (bic_text m.0) m.0 (bic-spelled line m.0 m.1) in
    rw (← m.2) (bic-stands first (bic_text m.0) (line ∷ []) (bic-continues (bic_text m.0) form) (bic-of-x (bic_text m.0) form) s)
bic-party-stands first (line ∷ next ∷ more) p e s = absurd (cc e)

bics-stand : (opening : Opening) (lines : List (List ℕ)) (p : Party) → after_first opening bic_party lines ≡ Some p → Stand lines → Stand (party_lines p)
bics-stand opening lines p e s =
    let c = chained (λ c. bic_party c.first c.rest) (parts_of opening lines) p e in
    let is = is-cut opening lines c.0 c.1 in
    bic-party-stands c.0.first c.0.rest p c.2 (rw is.whole s)

kept-stand : (form : Form) (lines : List (List ℕ)) (p : Party) → has_bic form ≡ false → party_in form lines ≡ Some p → Stand lines → Stand (party_lines p)
kept-stand form lines p n e s = rw ((form-kept form lines p n e).same) s

lines-stand : (form : Form) (lines : List (List ℕ)) (p : Party) → party_in form lines ≡ Some p → Stand lines → Stand (party_lines p)
unfolding party_in
lines-stand BankA lines p e s = bics-stand PartyLine lines p e s
lines-stand CustomerA lines p e s = bics-stand AccountLine lines p e s
lines-stand BankB lines p e s = kept-stand BankB lines p refl e s
lines-stand BankC lines p e s = kept-stand BankC lines p refl e s
lines-stand BankD lines p e s = kept-stand BankD lines p refl e s
lines-stand CustomerK lines p e s = kept-stand CustomerK lines p refl e s
lines-stand PayerF lines p e s = kept-stand PayerF lines p refl e s
lines-stand PayeeF lines p e s = kept-stand PayeeF lines p refl e s

-- a party that was read, written as a field, can stand in a text
pub party-fit : (f : Field) (p : Party) → party_of f ≡ Some p → IsField f → IsField (party_field f.tag p)
unfolding party_of
party-fit f p e is =
    let w = chained (λ form. party_in form f.lines) (form_of f.tag f.letter) p e in
    let lines = lines-stand w.0 f.lines p w.2 (record { continued = is.lines; bytes = is.bytes }) in
    record {
      tag = is.tag;
      letter = rw (letter-kept f p e) is.letter;
      lines = lines.continued;
      bytes = lines.bytes;
    }
