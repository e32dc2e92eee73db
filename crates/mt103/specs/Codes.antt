-- Contents of codes: what a field says, or the code of what is wrong with it, tested in this order.
use Rattle.std.specs.Prelude.{ℕ, ◌==◌, ◌&&◌, ◌||◌, Bool, List, [], ◌∷◌, take, drop, length, Option, Some, None, Result, Ok, nat_le, codes, is_none, if◌then◌else◌}
use Rattle.std.specs.List.{list_all, list_any}
use Rattle.std.specs.Str.{bytes_eq}
use Rattle.corr_text.specs.Codes.{code}
use Rattle.corr_text.specs.First.{check, or_fault, ◌>>=◌}
use Rattle.corr_text.specs.Sets.{is_in}
use Rattle.corr_text.specs.declared.fault.Code.{Code}
use Rattle.corr_text.specs.declared.set.Set.TheVariants.{X, C}
use Rattle.fin_fields.specs.declared.field.Field.{Field}
use Rattle.fin_fields.specs.Patterns.{is_run}
use Rattle.fin_contents.specs.Plain.{one_line, sized}
use Rattle.mt103.specs.declared.instruction.Instr.{Instr}

-- a code stands in a list
abbrev pub is_word_of : List (List ℕ) → List ℕ → Bool
is_word_of words word = list_any (λ w. bytes_eq w word) words

-- the operations of 23B
abbrev pub operations : List (List ℕ)
operations = codes "CRED" ∷ codes "CRTS" ∷ codes "SPAY" ∷ codes "SPRI" ∷ codes "SSTD" ∷ []

-- who bears the charges, in 71A
abbrev pub charges : List (List ℕ)
charges = codes "OUR" ∷ codes "SHA" ∷ codes "BEN" ∷ []

-- a charge may be taken out of a transfer whose charges are shared (SHA), or borne by the beneficiary (BEN)
abbrev pub is_charged : List ℕ → Bool
is_charged whose = bytes_eq whose (codes "SHA") || bytes_eq whose (codes "BEN")

-- the codes of 23E, in the order in which they may stand
abbrev pub instructions : List (List ℕ)
instructions =
    codes "SDVA" ∷ codes "INTC" ∷ codes "REPA" ∷ codes "CORT" ∷ codes "HOLD" ∷ codes "CHQB"
    ∷ codes "PHOB" ∷ codes "TELB" ∷ codes "PHON" ∷ codes "TELE" ∷ codes "PHOI" ∷ codes "TELI" ∷ []

-- those of them that may have a text
abbrev pub codes_with_text : List (List ℕ)
codes_with_text =
    codes "PHON" ∷ codes "PHOB" ∷ codes "PHOI" ∷ codes "TELE" ∷ codes "TELB" ∷ codes "TELI" ∷ codes "HOLD" ∷ codes "REPA" ∷ []

-- one line, which is a word of so many bytes of a list, or else this code
unfoldable pub word_of : ℕ → List (List ℕ) → Code → Field → Result (List ℕ) Code
word_of size words refusal f = do
  line ← or_fault (one_line f) refusal
  word ← or_fault (sized size line) refusal
  _ ← check (is_word_of words word) refusal
  Ok word

-- 23B
abbrev pub operation_of : Field → Result (List ℕ) Code
operation_of f = word_of 4 operations (code "T36") f

-- 71A
abbrev pub charge_of : Field → Result (List ℕ) Code
charge_of f = word_of 3 charges (code "T08") f

-- 26T: `3!c`
unfoldable pub kind_of : Field → Result (List ℕ) Code
kind_of f = do
  line ← or_fault (one_line f) (code "P24")
  kind ← or_fault (sized 3 line) (code "P24")
  _ ← check (list_all (is_in C) kind) (code "P24")
  Ok kind

-- the code that a line begins with: `4!c`
abbrev pub code_in : List ℕ → Option (List ℕ)
code_in line = if nat_le 4 (length line) && list_all (is_in C) (take 4 line) then Some (take 4 line) else None

-- what follows a code: nothing, or `/30x`
abbrev pub instruction_text : List ℕ → Option (Option (List ℕ))
instruction_text [] = Some None
instruction_text (slash ∷ text) = if (slash == 47) && is_run (is_in X) 30 text then Some (Some text) else None

-- a code of 23E
unfoldable pub is_instruction : List ℕ → Bool
is_instruction word = is_word_of instructions word

-- a code that may have a text
unfoldable pub takes_text : List ℕ → Bool
takes_text word = is_word_of codes_with_text word

-- 23E: `4!c[/30x]`
unfoldable pub instr_of : Field → Result Instr Code
instr_of f = do
  line ← or_fault (one_line f) (code "P24")
  word ← or_fault (code_in line) (code "P24")
  text ← or_fault (instruction_text (drop 4 line)) (code "P24")
  _ ← check (is_instruction word) (code "P28")
  _ ← check (is_none text || takes_text word) (code "D97")
  Ok (record { code = word; text = text })
