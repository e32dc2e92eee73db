-- Cells that stand without quotes, and cells that are added.
use Rattle.std.proofs.Common.{◌≡◌, ℕ, ◌+◌, ◌<◌, ◌^◌, ◌/◌, ◌%◌, true, false, List, [], ◌∷◌, ◌++◌, refl, sym, ap, ◌∙◌, arith, append_assoc}
use Rattle.std.proofs.Common.{ℤ, pos, negsuc, FitsSigned, w64}
use Rattle.std.specs.Prelude.{unsigned_abs}
use Rattle.std.specs.List.{flat_map, list_all}
use Rattle.std.proofs.lemmas.Bool.{and_from, cond-false, cond-true}
use Rattle.std.proofs.lemmas.Bool.Decides.{nat_tests}
use Rattle.std.proofs.lemmas.Grind.{flat_map-append}
use Rattle.std.proofs.lemmas.Int.{ints}
use Rattle.corr_ids.specs.Day.{civil_of, digits_of, yymmdd_of}
use Rattle.corr_ids.specs.declared.day.Day.{Day}
use Rattle.desk_rows.specs.Csv.{doubled, is_bare, next_cells, quoted}
use Rattle.desk_rows.proofs.Added.{piece_more}
use Rattle.desk_rows.proofs.laws.Plain.{AreBare, both_bare}

-- a text that needs no quotes is its own cell
pub bare_itself : (text : List ℕ) → AreBare text → quoted text ≡ text
unfolding quoted
bare_itself text bare = cond-true (list_all is_bare text) text (34 ∷ flat_map doubled text ++ 34 ∷ []) bare

-- another stands between quotes
pub other_quoted : (text : List ℕ) → list_all is_bare text ≡ false → quoted text ≡ 34 ∷ flat_map doubled text ++ 34 ∷ []
unfolding quoted
other_quoted text other = cond-false (list_all is_bare text) text (34 ∷ flat_map doubled text ++ 34 ∷ []) other

-- such a text that is added is added as a cell
pub bare_added : (out new text : List ℕ) → AreBare text → new ≡ out ++ 44 ∷ text → new ≡ out ++ 44 ∷ quoted text
bare_added out new text bare added = added ∙ ap (λ (t : List ℕ). out ++ 44 ∷ t) (sym (bare_itself text bare))

spelled_bare : (n : ℕ) → is_bare (48 + n) ≡ true
spelled_bare n = grind (arith, nat_tests)

two_bare : (n : ℕ) → AreBare (digits_of n)
two_bare n = and_from (is_bare (48 + n / 10)) (list_all is_bare ((48 + n % 10) ∷ [])) (spelled_bare (n / 10)) (and_from (is_bare (48 + n % 10)) true (spelled_bare (n % 10)) refl)

-- a day needs no quotes
pub day_bare : (d : Day) → AreBare (yymmdd_of d)
day_bare d =
    let year = digits_of ((civil_of d).year % 100) in
    let month = digits_of (civil_of d).month in
    let day = digits_of (civil_of d).day in
    both_bare (year ++ month) day (both_bare year month (two_bare ((civil_of d).year % 100)) (two_bare (civil_of d).month)) (two_bare (civil_of d).day)

-- a number of 64 bits is below 2^64 in size
pub abs_fits : (v : ℤ) → FitsSigned w64 v → unsigned_abs v < 2 ^ 64
abs_fits (pos k) fits = omega (arith, ints, fits)
abs_fits (negsuc k) fits = omega (arith, ints, fits)

-- cells more after a first one
pub cells_more : (out first : List ℕ) (cells more : List (List ℕ)) (before new : List ℕ) → before ≡ out ++ (first ++ next_cells cells) → new ≡ before ++ next_cells more
    → new ≡ out ++ (first ++ next_cells (cells ++ more))
cells_more out first cells more before new was added =
    let cell : List ℕ → List ℕ = λ text. 44 ∷ quoted text in
    piece_more out (first ++ next_cells cells) before new (next_cells more) was added
    ∙ ap (λ (bs : List ℕ). out ++ bs) (append_assoc first (next_cells cells) (next_cells more) ∙ ap (λ (bs : List ℕ). first ++ bs) (sym (flat_map-append cell cells more)))
