-- What holds of a file that has no fault.
use Rattle.std.proofs.Common.{◌≡◌, ℕ, zero, suc, ◌<◌, Bool, true, false, not, cond, List, [], ◌∷◌, ◌++◌, length, get_or, take, Option, Some, None, option_map, refl, append_assoc, arith, nat_lt}
use Rattle.std.specs.Option.{option_or}
use Rattle.std.specs.List.{position, position_or_len}
use Rattle.std.proofs.lemmas.Bool.Decides.{nat_tests}
use Rattle.std.proofs.lemmas.List.Sums.{prefix_len_passes}
use Rattle.corr_text.specs.First.{first_of, unless}
use Rattle.std.proofs.lemmas.List.{append-nil}
use Rattle.ref_tables.specs.Rows.{Cells}
use Rattle.ref_tables.specs.Refusals.{RowTest, double, first_bad_row}

-- where no test of a list holds, its first does not, and no other does
pub head-none : {F : Type 0} (o : Option F) (more : List (Option F)) → first_of (o ∷ more) ≡ None → (o ≡ None) × (first_of more ≡ None)
head-none None more e = (refl, e)
head-none (Some x) more e = absurd (cc e)

-- the tests that must hold, one after another
pub next-holds : {F : Type 0} (b : Bool) (fault : F) (more : List (Option F)) → first_of (unless b fault ∷ more) ≡ None → (b ≡ true) × (first_of more ≡ None)
next-holds true fault more e = (refl, e)
next-holds false fault more e = absurd (cc e)

-- where neither of two faults is there, each is missing
pub both-none : {F : Type 0} (o rest : Option F) → option_or o rest ≡ None → (o ≡ None) × (rest ≡ None)
both-none None rest e = (refl, e)
both-none (Some x) rest e = absurd (cc e)

-- what is changed and missing was missing
pub map-none : {A B : Type 0} (f : A → B) (o : Option A) → option_map f o ≡ None → o ≡ None
map-none f None e = refl
map-none f (Some x) e = absurd (cc e)

cond-none : {A : Type 0} (b : Bool) (x : A) → cond b (Some x) None ≡ None → b ≡ false
cond-none true x e = absurd (cc e)
cond-none false x e = refl

not-true : (b : Bool) → not b ≡ true → b ≡ false
not-true true e = absurd (cc e)
not-true false e = refl

-- a row that doubles none meets none
pub none-meets : {A : Type 0} (meets : A → Bool) (earlier : List A) (k : ℕ) (d : A) → double meets earlier ≡ None → k < length earlier → meets (get_or earlier k d) ≡ false
none-meets meets earlier k d e lt =
    let none = map-none _ (position meets earlier) e in
    let past = cond-none (nat_lt (position_or_len meets earlier) (length earlier)) (position_or_len meets earlier) none in
    let beyond : k < position_or_len meets earlier = grind (arith, nat_tests) in
    not-true _ (prefix_len_passes (λ x. not (meets x)) earlier k d beyond)

-- where the rows have no fault, none of them fails against those before it
pub fine-at : (test : RowTest) (before rows : List Cells) (i : ℕ) (d : Cells) → first_bad_row test before rows ≡ None → i < length rows → test (before ++ take i rows) (get_or rows i d) ≡ None
unfolding first_bad_row
fine-at test before [] i d e lt = absurd (omega arith)
fine-at test before (row ∷ rows) zero d e lt =
    rw append-nil (map-none _ (test before row) ((both-none _ _ e).0))
fine-at test before (row ∷ rows) (suc i) d e lt =
    let later = fine-at test (before ++ row ∷ []) rows i d ((both-none _ _ e).1) (omega arith) in
    rw append_assoc at later
