-- Fields of a text by their names, and fields that are made new.
use Rattle.std.specs.Prelude.{ℕ, ◌==◌, ◌&&◌, Bool, List, [], ◌∷◌, ◌++◌, Some, None, codes, find, if◌then◌else◌}
use Rattle.std.specs.List.{flat_map, list_any}
use Rattle.std.specs.Fmt.{decimal}
use Rattle.corr_text.specs.Digits.{padded}
use Rattle.corr_ids.specs.Bic.{bic_text}
use Rattle.corr_ids.specs.declared.bic.Bic.{Bic}
use Rattle.fin_fields.specs.Faults.{letter_of}
use Rattle.fin_fields.specs.declared.field.Field.{Field}
use Rattle.fin_contents.specs.Writing.{line_field, some_field}

-- a field of this tag with one of these letters; a space stands for no letter
abbrev pub is_named : ℕ → List ℕ → Field → Bool
is_named tag letters f = (f.tag == tag) && list_any (λ letter. letter == letter_of f) letters

-- the first field of a name, and nothing where there is none
abbrev pub copied : ℕ → List ℕ → List Field → List Field
copied tag letters fs = some_field (λ f. f) (find (is_named tag letters) fs)

-- a field, if it passes a test
abbrev pub kept : (Field → Bool) → Field → List Field
kept test f = if test f then f ∷ [] else []

-- all fields that pass a test
abbrev pub copied_all : (Field → Bool) → List Field → List Field
copied_all test fs = flat_map (kept test) fs

-- the lines of the first field of a name as a field of another tag, without a letter
abbrev pub copied_as : ℕ → ℕ → List Field → List Field
copied_as tag other fs = some_field (λ f. record { tag = other; letter = None; lines = f.lines }) (find (is_named tag (codes " ")) fs)

-- a bank by its BIC: option A
abbrev pub bank_field : ℕ → Bic → Field
bank_field tag bic = line_field tag (Some 65) (bic_text bic)

-- our reference of the k-th order of the entry at a place, as `P00000001K1`
abbrev pub ours : ℕ → ℕ → List ℕ
ours place k = 80 ∷ padded 8 place ++ 75 ∷ decimal k
