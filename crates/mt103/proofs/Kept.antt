-- Contents of codes are written with the lines that they were read from.
use Rattle.std.proofs.Common.{◌≡◌, ℕ, ◌==◌, ◌&&◌, ◌||◌, List, [], ◌∷◌, ◌++◌, length, take, drop, Option, Some, None, Ok, refl, sym, ap, ◌∙◌, nat_le}
use Rattle.std.specs.Prelude.{is_none}
use Rattle.std.specs.List.{list_all}
use Rattle.std.proofs.lemmas.Bool.{eqb-true}
use Rattle.std.proofs.lemmas.List.{take-append-drop}
use Rattle.corr_text.specs.Codes.{code}
use Rattle.corr_text.specs.Sets.{is_in}
use Rattle.corr_text.specs.declared.fault.Code.{Code}
use Rattle.corr_text.specs.declared.set.Set.TheVariants.{C, X}
use Rattle.corr_ids.proofs.laws.Spelling.{some_if}
use Rattle.fin_fields.specs.declared.field.Field.{Field}
use Rattle.fin_fields.specs.Patterns.{is_run}
use Rattle.fin_contents.specs.Plain.{one_line, sized}
use Rattle.fin_contents.specs.Writing.{line_field, lines_field}
use Rattle.fin_contents.proofs.laws.Bytes.{and-both}
use Rattle.fin_contents.proofs.laws.Steps.{checked, is-only, there}
use Rattle.mt103.specs.Codes.{charge_of, charges, code_in, instr_of, is_instruction, is_word_of, kind_of, operation_of, operations, takes_text, instruction_text, word_of}
use Rattle.mt103.specs.Writing.{instr_field, text_after}
use Rattle.mt103.specs.declared.instruction.Instr.{Instr}

sized-is : (n : ℕ) (line code : List ℕ) → sized n line ≡ Some code → line ≡ code
sized-is n line code e = (some_if (length line == n) line code e).1

-- a word of a list is the one line of its field
word-kept : (size : ℕ) (words : List (List ℕ)) (refusal : Code) (f : Field) (word : List ℕ) → word_of size words refusal f ≡ Ok word → f.lines ≡ word ∷ []
unfolding word_of
word-kept size words refusal f word e =
    let line = there (one_line f) _ _ word e in
    let read = there (sized size line.0) _ _ word line.2 in
    let listed = checked (is_word_of words read.0) _ _ word read.2 in
    let same : read.0 ≡ word = cc listed.1 in
    is-only f.lines line.0 line.1 ∙ ap (λ (x : List ℕ). x ∷ []) (sized-is size line.0 read.0 read.1 ∙ same)

-- and is read again from it
word-again : (size : ℕ) (words : List (List ℕ)) (refusal : Code) (tag : ℕ) (letter : Option ℕ) (f : Field) (word : List ℕ) → word_of size words refusal f ≡ Ok word → word_of size words refusal (line_field tag letter word) ≡ Ok word
unfolding word_of
word-again size words refusal tag letter f word e =
    ap (λ (ls : List (List ℕ)). word_of size words refusal (lines_field tag letter ls)) (sym (word-kept size words refusal f word e)) ∙ e

pub operation-kept : (f : Field) (op : List ℕ) → operation_of f ≡ Ok op → f.lines ≡ op ∷ []
operation-kept f op e = word-kept 4 operations (code "T36") f op e

pub operation-again : (f : Field) (op : List ℕ) → operation_of f ≡ Ok op → operation_of (line_field 23 (Some 66) op) ≡ Ok op
operation-again f op e = word-again 4 operations (code "T36") 23 (Some 66) f op e

pub charge-kept : (f : Field) (charge : List ℕ) → charge_of f ≡ Ok charge → f.lines ≡ charge ∷ []
charge-kept f charge e = word-kept 3 charges (code "T08") f charge e

pub charge-again : (f : Field) (charge : List ℕ) → charge_of f ≡ Ok charge → charge_of (line_field 71 (Some 65) charge) ≡ Ok charge
charge-again f charge e = word-again 3 charges (code "T08") 71 (Some 65) f charge e

pub kind-kept : (f : Field) (kind : List ℕ) → kind_of f ≡ Ok kind → f.lines ≡ kind ∷ []
unfolding kind_of
kind-kept f kind e =
    let line = there (one_line f) _ _ kind e in
    let code = there (sized 3 line.0) _ _ kind line.2 in
    let form = checked (list_all (is_in C) code.0) _ _ kind code.2 in
    let same : code.0 ≡ kind = cc form.1 in
    is-only f.lines line.0 line.1 ∙ ap (λ (x : List ℕ). x ∷ []) (sized-is 3 line.0 code.0 code.1 ∙ same)

pub kind-again : (f : Field) (kind : List ℕ) → kind_of f ≡ Ok kind → kind_of (line_field 26 (Some 84) kind) ≡ Ok kind
unfolding kind_of
kind-again f kind e = ap (λ (ls : List (List ℕ)). kind_of (lines_field 26 (Some 84) ls)) (sym (kind-kept f kind e)) ∙ e

text-kept : (rest : List ℕ) (text : Option (List ℕ)) → instruction_text rest ≡ Some text → rest ≡ text_after text
text-kept [] text e =
    let same : None ≡ text = cc e in
    rw (← same) refl
text-kept (slash ∷ rest) text e =
    let s = some_if ((slash == 47) && is_run (is_in X) 30 rest) (Some rest) text e in
    let is : slash ≡ 47 = eqb-true slash 47 (and-both (slash == 47) (is_run (is_in X) 30 rest) s.0).0 in
    rw (← s.1, is) refl

two-parts : (line code : List ℕ) (text : Option (List ℕ)) → take 4 line ≡ code → drop 4 line ≡ text_after text → line ≡ code ++ text_after text
two-parts line code text front back = sym (take-append-drop 4 line) ∙ rw (front, back) refl

pub instr-kept : (f : Field) (i : Instr) → instr_of f ≡ Ok i → f.lines ≡ (i.code ++ text_after i.text) ∷ []
unfolding instr_of
instr-kept f i e =
    let line = there (one_line f) _ _ i e in
    let code = there (code_in line.0) _ _ i line.2 in
    let text = there (instruction_text (drop 4 line.0)) _ _ i code.2 in
    let known = checked (is_instruction code.0) _ _ i text.2 in
    let plain = checked (is_none text.0 || takes_text code.0) _ _ i known.1 in
    let same : record { code = code.0; text = text.0 } ≡ i = cc plain.1 in
    let front : take 4 line.0 ≡ code.0 = (some_if (nat_le 4 (length line.0) && list_all (is_in C) (take 4 line.0)) (take 4 line.0) code.0 code.1).1 in
    let whole = two-parts line.0 code.0 text.0 front (text-kept (drop 4 line.0) text.0 text.1) in
    is-only f.lines line.0 line.1 ∙ ap (λ (x : List ℕ). x ∷ []) whole ∙ ap (λ (x : Instr). (x.code ++ text_after x.text) ∷ []) same

pub instr-again : (f : Field) (i : Instr) → instr_of f ≡ Ok i → instr_of (instr_field i) ≡ Ok i
unfolding instr_of
instr-again f i e = ap (λ (ls : List (List ℕ)). instr_of (lines_field 23 (Some 69) ls)) (sym (instr-kept f i e)) ∙ e
