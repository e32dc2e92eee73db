-- The grammar of parties, by cases on a field's tag and letter.
use Rattle.std.specs.Prelude.{ℕ, ◌==◌, ◌&&◌, ◌||◌, not, Bool, false, List, [], ◌∷◌, length, drop, Option, Some, None, option_map, option_and_then, nat_le, if◌then◌else◌}
use Rattle.std.specs.List.{list_all, zip}
use Rattle.std.specs.Char.{is_ascii_digit, is_ascii_uppercase}
use Rattle.corr_text.specs.declared.set.Set.TheVariants.{X}
use Rattle.corr_text.specs.Lines.{begins_with}
use Rattle.corr_text.specs.Sets.{is_in}
use Rattle.corr_ids.specs.Bic.{bic_of}
use Rattle.fin_fields.specs.declared.field.Field.{Field}
use Rattle.fin_fields.specs.declared.pattern.Pattern.TheVariants.{Lines}
use Rattle.fin_fields.specs.Patterns.{is_run, meets}
use Rattle.fin_parties.specs.declared.form.Form.{Form}
use Rattle.fin_parties.specs.declared.form.Form.TheVariants.{BankA, BankB, BankC, BankD, CustomerA, CustomerK, PayerF, PayeeF}
use Rattle.fin_parties.specs.declared.form.Listing.{Listing}
use Rattle.fin_parties.specs.declared.form.Listing.TheVariants.{Customer, Institution, Payee}
use Rattle.fin_parties.specs.declared.opening.Opening.{Opening}
use Rattle.fin_parties.specs.declared.opening.Opening.TheVariants.{PartyLine, AccountLine}
use Rattle.fin_parties.specs.declared.party.Party.{Party}
use Rattle.fin_parties.specs.declared.party.Party.TheVariants as party

-- 34x: 1 to 34 of X
abbrev pub is_account : List ℕ → Bool
is_account account = is_run (is_in X) 34 account

-- `/34x`
abbrev pub is_account_line : List ℕ → Bool
is_account_line [] = false
is_account_line (slash ∷ account) = (slash == 47) && is_account account

-- `/C/34x`, with a capital letter C
abbrev pub is_lettered_line : List ℕ → Bool
is_lettered_line (slash ∷ letter ∷ second ∷ account) =
    (slash == 47) && is_ascii_uppercase letter && (second == 47) && is_account account
is_lettered_line _ = false

-- a party line is one of these
abbrev pub is_party_line : List ℕ → Bool
is_party_line line = is_account_line line || is_lettered_line line

-- the account of a party line: after the second slash of `/C/34x`, else after the first
abbrev pub account_in : List ℕ → List ℕ
account_in line = if is_lettered_line line then drop 3 line else if begins_with 47 line then drop 1 line else []

-- 35x
abbrev pub is_line : List ℕ → Bool
is_line line = is_run (is_in X) 35 line

-- 4*35x whose first line doesn't begin with a slash
abbrev pub is_name : List (List ℕ) → Bool
is_name [] = false
is_name (line ∷ lines) = not (begins_with 47 line) && meets (Lines 4 35) (line ∷ lines)

-- `1!n/33x`
abbrev pub is_numbered : List ℕ → Bool
is_numbered (number ∷ slash ∷ text) = is_ascii_digit number && (slash == 47) && is_run (is_in X) 33 text
is_numbered _ = false

-- the digit that a line begins with
abbrev pub number_in : List ℕ → ℕ
number_in [] = 0
number_in (number ∷ text) = number

-- no line is numbered lower than the one before it
abbrev pub rises : List (List ℕ) → Bool
rises lines = list_all (λ p. nat_le (number_in p.0) (number_in p.1)) (zip lines (drop 1 lines))

-- 1 to 4 lines `1!n/33x`, the first numbered 1, numbers not falling
abbrev pub are_numbered : List (List ℕ) → Bool
are_numbered [] = false
are_numbered (line ∷ lines) =
    nat_le (length (line ∷ lines)) 4 && (number_in line == 49) && list_all is_numbered (line ∷ lines) && rises (line ∷ lines)

-- what a first line is that begins with a slash
abbrev pub opens : Opening → List ℕ → Bool
opens PartyLine line = is_party_line line
opens AccountLine line = is_account_line line

-- the first line where it begins with a slash, and the lines after it
pub record Cut : Type 0 where
  pub first : Option (List ℕ)
  pub rest : List (List ℕ)

-- the lines of a field so cut; none where the first line begins with a slash and isn't what it should be
abbrev pub parts_of : Opening → List (List ℕ) → Option Cut
parts_of opening [] = Some (record { first = None; rest = [] })
parts_of opening (line ∷ lines) =
    if not (begins_with 47 line) then Some (record { first = None; rest = line ∷ lines })
    else if opens opening line then Some (record { first = Some line; rest = lines })
    else None

-- optional first line, then a BIC
abbrev pub bic_party : Option (List ℕ) → List (List ℕ) → Option Party
bic_party first (bic ∷ []) = option_map (λ b. party.A first b) (bic_of bic)
bic_party first _ = None

-- optional first line, optional 35x, at least one of them
abbrev pub place_party : Option (List ℕ) → List (List ℕ) → Option Party
place_party (Some line) [] = Some (party.B (Some line) None)
place_party first (place ∷ []) = if is_line place then Some (party.B first (Some place)) else None
place_party first _ = None

-- `/34x`
abbrev pub account_party : List (List ℕ) → Option Party
account_party (line ∷ []) = if is_account_line line then Some (party.C line) else None
account_party _ = None

-- the lines after an optional first line: name and address, or numbered lines
abbrev pub is_listing : Listing → List (List ℕ) → Bool
is_listing Institution lines = is_name lines
is_listing Customer lines = is_name lines
is_listing Payee lines = are_numbered lines

-- the party that a first line and such lines name; a customer's first line is an account
abbrev pub party_with : Listing → Option (List ℕ) → List (List ℕ) → Party
party_with Institution first lines = party.D first lines
party_with Customer first lines = party.K (option_map (drop 1) first) lines
party_with Payee first lines = party.F first lines

-- optional first line, then lines of this kind
abbrev pub listed_party : Listing → Option (List ℕ) → List (List ℕ) → Option Party
listed_party listing first lines = if is_listing listing lines then Some (party_with listing first lines) else None

-- optional first line, then the name and address of an institution
abbrev pub name_party : Option (List ℕ) → List (List ℕ) → Option Party
name_party first lines = listed_party Institution first lines

-- the same of a customer, with an account
abbrev pub customer_party : Option (List ℕ) → List (List ℕ) → Option Party
customer_party first lines = listed_party Customer first lines

-- 35x, then numbered lines
abbrev pub payer_party : List (List ℕ) → Option Party
payer_party [] = None
payer_party (line ∷ lines) = if is_line line && are_numbered lines then Some (party.F (Some line) lines) else None

-- optional first line, then a payee's numbered lines
abbrev pub payee_party : Option (List ℕ) → List (List ℕ) → Option Party
payee_party first lines = listed_party Payee first lines

-- 52A to 58A; 50A, 59A
abbrev pub form_a : ℕ → Option Form
form_a tag = if nat_le 52 tag && nat_le tag 58 then Some BankA else if (tag == 50) || (tag == 59) then Some CustomerA else None

-- 53B, 54B, 55B, 57B
abbrev pub form_b : ℕ → Option Form
form_b tag = if (tag == 53) || (tag == 54) || (tag == 55) || (tag == 57) then Some BankB else None

-- 56C, 57C
abbrev pub form_c : ℕ → Option Form
form_c tag = if (tag == 56) || (tag == 57) then Some BankC else None

-- 52D to 58D
abbrev pub form_d : ℕ → Option Form
form_d tag = if nat_le 52 tag && nat_le tag 58 then Some BankD else None

-- 50F, 59F
abbrev pub form_f : ℕ → Option Form
form_f tag = if tag == 50 then Some PayerF else if tag == 59 then Some PayeeF else None

-- 50K
abbrev pub form_k : ℕ → Option Form
form_k tag = if tag == 50 then Some CustomerK else None

-- 59
abbrev pub form_bare : ℕ → Option Form
form_bare tag = if tag == 59 then Some CustomerK else None

-- the form that a tag and a letter have
unfoldable pub form_of : ℕ → Option ℕ → Option Form
form_of tag None = form_bare tag
form_of tag (Some letter) =
    if letter == 65 then form_a tag
    else if letter == 66 then form_b tag
    else if letter == 67 then form_c tag
    else if letter == 68 then form_d tag
    else if letter == 70 then form_f tag
    else if letter == 75 then form_k tag
    else None

-- lines after a first line, if that is what it should be
abbrev pub after_first : Opening → (Option (List ℕ) → List (List ℕ) → Option Party) → List (List ℕ) → Option Party
after_first opening form lines = option_and_then (λ c. form c.first c.rest) (parts_of opening lines)

-- the party that lines name in a form
unfoldable pub party_in : Form → List (List ℕ) → Option Party
party_in BankA lines = after_first PartyLine bic_party lines
party_in BankB lines = after_first PartyLine place_party lines
party_in BankC lines = account_party lines
party_in BankD lines = after_first PartyLine name_party lines
party_in CustomerA lines = after_first AccountLine bic_party lines
party_in CustomerK lines = after_first AccountLine customer_party lines
party_in PayerF lines = payer_party lines
party_in PayeeF lines = after_first AccountLine payee_party lines

-- the party that a field names; none where it isn't in the grammar of its tag and letter
unfoldable pub party_of : Field → Option Party
party_of f = option_and_then (λ form. party_in form f.lines) (form_of f.tag f.letter)
