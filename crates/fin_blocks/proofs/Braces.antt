-- Bytes in which each group that begins ends, and the groups that they make.
use Rattle.std.proofs.Common.{◌≡◌, ℕ, zero, suc, ◌+◌, ◌-◌, ◌<◌, ◌≤◌, ◌==◌, ◌&&◌, true, false, not, List, [], ◌∷◌, ◌++◌, length, get_or, take, drop, refl, sym, ap, ◌∙◌, subst, append_assoc, append-nil, arith}
use Rattle.std.specs.Prelude.{Option, Some}
use Rattle.std.specs.List.{list_any, slice_range}
use Rattle.std.proofs.lemmas.Bool.{and_parts, or_parts}
use Rattle.std.proofs.lemmas.Bool.Decides.{nat_tests}
use Rattle.std.proofs.lemmas.List.{take_more, take-append-drop}
use Rattle.corr_text.specs.Braces.{is_brace, depth_after}
use Rattle.fin_blocks.specs.Groups.{group_with_byte, groups_from, groups_of}
use Rattle.fin_blocks.specs.inner.Groups.{IsCut}
use Rattle.fin_blocks.specs.Forms.{is_plain}
use Rattle.fin_blocks.proofs.Cutting.{with_bytes, with_bytes-push, with_bytes-group, step, closes}

-- within a group these bytes go by: as many groups are open after them as before
pub record IsBalanced (bs : List ℕ) : Type 0 where
  pub passed : (depth : ℕ) (rest : List ℕ) → 0 < depth → groups_from depth (bs ++ rest) ≡ with_bytes bs (groups_from depth rest)

with_bytes-append : (bs cs : List ℕ) (pieces : List (Option (List ℕ))) → with_bytes (bs ++ cs) pieces ≡ with_bytes bs (with_bytes cs pieces)
with_bytes-append [] cs pieces = refl
with_bytes-append (b ∷ bs) cs pieces = ap (group_with_byte b) (with_bytes-append bs cs pieces)

pub balanced-none : IsBalanced []
balanced-none = record { passed = λ depth rest lt. refl }

pub balanced-both : (bs cs : List ℕ) → IsBalanced bs → IsBalanced cs → IsBalanced (bs ++ cs)
balanced-both bs cs h k = record {
  passed = λ depth rest lt.
      ap (groups_from depth) (append_assoc bs cs rest) ∙ h.passed depth (cs ++ rest) lt
      ∙ ap (with_bytes bs) (k.passed depth rest lt) ∙ sym (with_bytes-append bs cs (groups_from depth rest));
}

-- a byte that is no brace opens and closes nothing
depth-stays : (depth b : ℕ) → (not (b == 123) && not (b == 125)) ≡ true → depth_after depth b ≡ depth
depth-stays depth b h = grind (arith, nat_tests)

plain-byte : (depth b : ℕ) (bs : List ℕ) → (not (b == 123) && not (b == 125)) ≡ true → 0 < depth → groups_from depth (b ∷ bs) ≡ group_with_byte b (groups_from depth bs)
plain-byte depth b bs h lt =
    let same = depth-stays depth b h in
    step depth b bs (λ z. absurd (omega (arith, same, z, lt))) ∙ ap (λ d. group_with_byte b (groups_from d bs)) same

pub balanced-plain : (bs : List ℕ) → is_plain bs ≡ true → IsBalanced bs
balanced-plain [] h = balanced-none
balanced-plain (b ∷ bs) h =
    let p = and_parts (not (b == 123) && not (b == 125)) (is_plain bs) h in
    let more = balanced-plain bs p.1 in
    record { passed = λ depth rest lt. plain-byte depth b (bs ++ rest) p.0 lt ∙ ap (group_with_byte b) (more.passed depth rest lt) }

opens : (depth : ℕ) (bs : List ℕ) → groups_from depth (123 ∷ bs) ≡ group_with_byte 123 (groups_from (depth + 1) bs)
opens depth bs = step depth 123 bs (λ z. absurd (omega (arith, z)))

shuts : (depth : ℕ) (bs : List ℕ) → 0 < depth → groups_from (depth + 1) (125 ∷ bs) ≡ group_with_byte 125 (groups_from depth bs)
shuts depth bs lt =
    let same : depth + 1 - 1 ≡ depth = omega arith in
    step (depth + 1) 125 bs (λ z. absurd (omega (arith, z, lt))) ∙ ap (λ d. group_with_byte 125 (groups_from d bs)) same

-- a group within a group
pub balanced-group : (bs : List ℕ) → IsBalanced bs → IsBalanced (123 ∷ bs ++ 125 ∷ [])
balanced-group bs h = record {
  passed = λ depth rest lt.
      opens depth ((bs ++ 125 ∷ []) ++ rest)
      ∙ ap (λ xs. group_with_byte 123 (groups_from (depth + 1) xs)) (append_assoc bs (125 ∷ []) rest)
      ∙ ap (group_with_byte 123) (h.passed (depth + 1) (125 ∷ rest) (omega arith))
      ∙ ap (λ ps. group_with_byte 123 (with_bytes bs ps)) (shuts depth rest lt)
      ∙ ap (group_with_byte 123) (sym (with_bytes-push bs 125 (groups_from depth rest)));
}

-- a group that stands first is cut off as it stands
pub group-first : (bs rest : List ℕ) → IsBalanced bs → groups_of ((123 ∷ bs ++ 125 ∷ []) ++ rest) ≡ Some (123 ∷ bs ++ 125 ∷ []) ∷ groups_of rest
unfolding groups_of
group-first bs rest h =
    opens 0 ((bs ++ 125 ∷ []) ++ rest)
    ∙ ap (λ xs. group_with_byte 123 (groups_from 1 xs)) (append_assoc bs (125 ∷ []) rest)
    ∙ ap (group_with_byte 123) (h.passed 1 (125 ∷ rest) (omega arith))
    ∙ ap (λ ps. group_with_byte 123 (with_bytes bs ps)) (closes 1 125 rest refl)
    ∙ with_bytes-group (123 ∷ bs) (125 ∷ []) (groups_from 0 rest)

-- and so is one that stands alone
pub group-alone : (bs : List ℕ) → IsBalanced bs → groups_of (123 ∷ bs ++ 125 ∷ []) ≡ Some (123 ∷ bs ++ 125 ∷ []) ∷ []
unfolding groups_of
group-alone bs h = ap groups_of (sym (append-nil (123 ∷ bs ++ 125 ∷ []))) ∙ group-first bs [] h

-- ---- a group without another one within

others-plain : (bs : List ℕ) → list_any is_brace bs ≡ false → is_plain bs ≡ true
others-plain [] h = refl
others-plain (b ∷ bs) h =
    let p = or_parts (is_brace b) (list_any is_brace bs) h in
    let q = or_parts (b == 123) (b == 125) p.0 in
    rw (q.0, q.1) (others-plain bs p.1)

-- `{`, bytes without a brace and `}` are the next group
pub plain-cut : (bs : List ℕ) (n : ℕ) → 2 ≤ n → n ≤ length bs → get_or bs 0 0 ≡ 123 → get_or bs (n - 1) 0 ≡ 125
    → list_any is_brace (slice_range bs 1 (n - 1)) ≡ false → IsCut bs (Some (take n bs)) (drop n bs)
plain-cut [] n two within begun ended none = absurd (omega (arith, two, within))
plain-cut (b ∷ bs) zero two within begun ended none = absurd (omega (arith, two))
plain-cut (b ∷ bs) (suc zero) two within begun ended none = absurd (omega (arith, two))
plain-cut (b ∷ bs) (suc (suc m)) two within begun ended none =
    let place : suc (suc m) - 1 ≡ suc m = omega arith in
    let size : suc (suc m) - 1 - 1 ≡ m = omega arith in
    let plain : list_any is_brace (take m bs) ≡ false = sym (ap (λ i. list_any is_brace (take i bs)) size) ∙ none in
    let last : get_or bs m 0 ≡ 125 = sym (ap (λ i. get_or (b ∷ bs) i 0) place) ∙ ended in
    let next : suc m ≡ m + 1 = omega arith in
    let front : take (suc m) bs ≡ take m bs ++ 125 ∷ [] =
    ap (λ i. take i bs) next ∙ take_more bs m 0 (omega (arith, within)) ∙ ap (λ x. take m bs ++ x ∷ []) last in
    let same : b ∷ take (suc m) bs ≡ 123 ∷ take m bs ++ 125 ∷ [] = ap (λ x. x ∷ take (suc m) bs) begun ∙ ap (λ xs. 123 ∷ xs) front in
    let whole : groups_of (b ∷ bs) ≡ Some (b ∷ take (suc m) bs) ∷ groups_of (drop (suc m) bs) =
    ap groups_of (sym (take-append-drop (suc (suc m)) (b ∷ bs)))
    ∙ subst (λ xs. groups_of (xs ++ drop (suc m) bs) ≡ Some xs ∷ groups_of (drop (suc m) bs)) (sym same)
    (group-first (take m bs) (drop (suc m) bs) (balanced-plain (take m bs) (others-plain (take m bs) plain))) in
    record { group_is_next = rw whole refl; rest_is_after = rw whole refl }
