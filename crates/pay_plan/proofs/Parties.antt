-- The BIC of a party that was read meets its grammar, and the tables hold its head.
use Rattle.std.proofs.Common.{◌≡◌, ℕ, true, IfSome, List, [], ◌∷◌, Option, Some, None, Result, Ok, Err, drop, option_map, option_and_then, refl, ap, subst, take}
use Rattle.corr_ids.specs.Bic.{IsBic, bic_of, branch_of, is_bic}
use Rattle.corr_ids.specs.declared.bic.Bic.{Bic}
use Rattle.corr_ids.proofs.laws.Spelling.{bic-again, some_if}
use Rattle.corr_text.specs.First.{◌>>=◌}
use Rattle.corr_text.specs.declared.fault.Code.{Code}
use Rattle.corr_text.specs.declared.fault.Fault.{Fault}
use Rattle.ref_tables.specs.Seen.{Tables, has_head}
use Rattle.fin_fields.specs.declared.field.Field.{Field}
use Rattle.fin_layout.proofs.laws.ReadBack.{must-ok}
use Rattle.fin_layout.specs.Contents.{in_option, located, may_read}
use Rattle.fin_layout.specs.Order.{field_in}
use Rattle.fin_parties.specs.declared.form.Form.{Form}
use Rattle.fin_parties.specs.declared.form.Form.TheVariants.{BankA, BankB, BankC, BankD, CustomerA, CustomerK, PayerF, PayeeF}
use Rattle.fin_parties.specs.declared.opening.Opening.TheVariants.{PartyLine, AccountLine}
use Rattle.fin_parties.specs.declared.party.Party.{Party}
use Rattle.fin_parties.specs.declared.party.Party.TheVariants as party
use Rattle.fin_parties.specs.Party.{account_party, are_numbered, bic_party, customer_party, form_of, is_account_line, is_line, is_name, name_party, parts_of, party_in, party_of, payee_party, payer_party, place_party}
use Rattle.fin_contents.proofs.laws.Steps.{checked, there}
use Rattle.fin_contents.specs.Parties.{is_known, known_party_of}

pub ok-is : {A F : Type 0} (x y : A) → ◌≡◌ {A = Result A F} (Ok x) (Ok y) → x ≡ y
ok-is x y e = cc e

-- its BIC, where it is named by one, meets its grammar
abbrev HasBic : Party → Type 0
HasBic (party.A line bic) = IsBic bic
HasBic _ = Unit {0}

-- and the tables hold its head
abbrev pub HasBank : Tables → Party → Type 0
HasBank t (party.A line bic) = IsBic bic × (has_head t bic.head ≡ true)
HasBank t _ = Unit {0}

both-known : (t : Tables) (p : Party) → HasBic p → is_known t p ≡ true → HasBank t p
both-known t (party.A line bic) h known = (h, known)
both-known t (party.B line place) h known = tt
both-known t (party.C line) h known = tt
both-known t (party.D line lines) h known = tt
both-known t (party.K account lines) h known = tt
both-known t (party.F line lines) h known = tt

chained : {A B : Type 0} (f : A → Option B) (o : Option A) (y : B) → option_and_then f o ≡ Some y → (x : A) × (f x ≡ Some y)
chained f None y e = absurd (cc e)
chained f (Some x) y e = (x, e)

bic-read : (line : List ℕ) (b : Bic) → bic_of line ≡ Some b → IsBic b
bic-read line b e =
    let s = some_if (is_bic line) (record { head = take 8 line; branch = branch_of line }) b e in
    subst IsBic s.1 (bic-again line s.0)

one-bic : (first : Option (List ℕ)) (line : List ℕ) (o : Option Bic) (p : Party) → bic_of line ≡ o → option_map (λ b. party.A first b) o ≡ Some p → HasBic p
one-bic first line None p is e = absurd (cc e)
one-bic first line (Some b) p is e = let same : party.A first b ≡ p = cc e in subst HasBic same (bic-read line b is)

bics : (first : Option (List ℕ)) (rest : List (List ℕ)) (p : Party) → bic_party first rest ≡ Some p → HasBic p
bics first [] p e = absurd (cc e)
bics first (line ∷ []) p e = one-bic first line (bic_of line) p refl e
bics first (line ∷ next ∷ more) p e = absurd (cc e)

places : (first : Option (List ℕ)) (rest : List (List ℕ)) (p : Party) → place_party first rest ≡ Some p → HasBic p
places None [] p e = absurd (cc e)
places (Some line) [] p e = let same : party.B (Some line) None ≡ p = cc e in subst HasBic same tt
places None (place ∷ []) p e = subst HasBic (some_if (is_line place) (party.B None (Some place)) p e).1 tt
places (Some line) (place ∷ []) p e = subst HasBic (some_if (is_line place) (party.B (Some line) (Some place)) p e).1 tt
places None (place ∷ next ∷ more) p e = absurd (cc e)
places (Some line) (place ∷ next ∷ more) p e = absurd (cc e)

accounts : (lines : List (List ℕ)) (p : Party) → account_party lines ≡ Some p → HasBic p
accounts [] p e = absurd (cc e)
accounts (line ∷ []) p e = subst HasBic (some_if (is_account_line line) (party.C line) p e).1 tt
accounts (line ∷ next ∷ more) p e = absurd (cc e)

names : (first : Option (List ℕ)) (rest : List (List ℕ)) (p : Party) → name_party first rest ≡ Some p → HasBic p
names first rest p e = subst HasBic (some_if (is_name rest) (party.D first rest) p e).1 tt

customers : (first : Option (List ℕ)) (rest : List (List ℕ)) (p : Party) → customer_party first rest ≡ Some p → HasBic p
customers first rest p e = subst HasBic (some_if (is_name rest) (party.K (option_map (drop 1) first) rest) p e).1 tt

payers : (lines : List (List ℕ)) (p : Party) → payer_party lines ≡ Some p → HasBic p
payers [] p e = absurd (cc e)
payers (line ∷ lines) p e = subst HasBic (some_if _ (party.F (Some line) lines) p e).1 tt

payees : (first : Option (List ℕ)) (rest : List (List ℕ)) (p : Party) → payee_party first rest ≡ Some p → HasBic p
payees first rest p e = subst HasBic (some_if (are_numbered rest) (party.F first rest) p e).1 tt

in-form : (form : Form) (lines : List (List ℕ)) (p : Party) → party_in form lines ≡ Some p → HasBic p
unfolding party_in
in-form BankA lines p e = let c = chained (λ c. bic_party c.first c.rest) (parts_of PartyLine lines) p e in bics c.0.first c.0.rest p c.1
in-form BankB lines p e = let c = chained (λ c. place_party c.first c.rest) (parts_of PartyLine lines) p e in places c.0.first c.0.rest p c.1
in-form BankC lines p e = accounts lines p e
in-form BankD lines p e = let c = chained (λ c. name_party c.first c.rest) (parts_of PartyLine lines) p e in names c.0.first c.0.rest p c.1
in-form CustomerA lines p e = let c = chained (λ c. bic_party c.first c.rest) (parts_of AccountLine lines) p e in bics c.0.first c.0.rest p c.1
in-form CustomerK lines p e = let c = chained (λ c. customer_party c.first c.rest) (parts_of AccountLine lines) p e in customers c.0.first c.0.rest p c.1
in-form PayerF lines p e = payers lines p e
in-form PayeeF lines p e = let c = chained (λ c. payee_party c.first c.rest) (parts_of AccountLine lines) p e in payees c.0.first c.0.rest p c.1

pub party-bank : (t : Tables) (f : Field) (p : Party) → known_party_of t f ≡ Ok p → HasBank t p
unfolding known_party_of party_of
party-bank t f p e =
    let found = there (party_of f) _ _ p e in
    let known = checked (is_known t found.0) _ _ p found.2 in
    let c = chained (λ form. party_in form f.lines) (form_of f.tag f.letter) found.0 found.1 in
    subst (HasBank t) (ok-is found.0 p known.1) (both-known t found.0 (in-form c.0 f.lines found.0 c.1) known.0)

within : {A : Type 0} {x : A} (r : Result A Fault) → (r >>= λ y. Ok (Some y)) ≡ Ok (Some x) → r ≡ Ok x
within (Ok y) e = ap Ok (cc e)
within (Err fault) e = absurd (cc e)

-- what was read at a place that may be empty is what some field says
may-ok : {A : Type 0} (fs : List Field) (read : Field → Result A Code) (o : Option (ℕ × Field)) (x : A) → may_read fs read o ≡ Ok (Some x) → (f : Field) × (read f ≡ Ok x)
may-ok fs read None x e = absurd (cc e)
may-ok fs read (Some (i, f)) x e = must-ok [] fs 0 read (Some (i, f)) x (within (located fs i (read f)) e)

-- the same of a field that may be there
pub bank-form : (t : Tables) (fs : List Field) (found : List ℕ) (k : ℕ) (o : Option Party) → in_option fs found k (known_party_of t) ≡ Ok o → IfSome o (HasBank t)
bank-form t fs found k None e = tt
bank-form t fs found k (Some p) e = let f = may-ok fs (known_party_of t) (field_in fs found k) p e in party-bank t f.0 p f.1
