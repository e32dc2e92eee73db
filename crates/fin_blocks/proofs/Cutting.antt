-- Cutting bytes after their next group.
use Rattle.std.proofs.Common.{◌≡◌, ℕ, zero, suc, ◌+◌, ◌-◌, ◌<◌, ◌≤◌, ◌≢◌, false, List, [], ◌∷◌, ◌++◌, length, get_or, take, drop, refl, sym, ap, subst, ◌∙◌, arith}
use Rattle.std.specs.Prelude.{◌==◌, Option, Some, None}
use Rattle.std.proofs.lemmas.Bool.{or_parts}
use Rattle.std.proofs.lemmas.Bool.Decides.{nat_tests}
use Rattle.std.proofs.lemmas.List.{take_more, drop_more, drop_all}
use Rattle.corr_text.specs.Braces.{is_brace, depth_after}
use Rattle.fin_blocks.specs.Groups.{group_with_byte, groups_from, groups_of}
use Rattle.fin_blocks.specs.inner.Groups.{IsCut}

-- bytes put before the first group
abbrev pub with_bytes : List ℕ → List (Option (List ℕ)) → List (Option (List ℕ))
with_bytes [] groups = groups
with_bytes (b ∷ bs) groups = group_with_byte b (with_bytes bs groups)

pub with_bytes-push : (bs : List ℕ) (b : ℕ) (groups : List (Option (List ℕ))) → with_bytes (bs ++ b ∷ []) groups ≡ with_bytes bs (group_with_byte b groups)
with_bytes-push [] b groups = refl
with_bytes-push (x ∷ bs) b groups = ap (group_with_byte x) (with_bytes-push bs b groups)

pub with_bytes-group : (bs cs : List ℕ) (groups : List (Option (List ℕ))) → with_bytes bs (Some cs ∷ groups) ≡ Some (bs ++ cs) ∷ groups
with_bytes-group [] cs groups = refl
with_bytes-group (x ∷ bs) cs groups = ap (group_with_byte x) (with_bytes-group bs cs groups)

with_bytes-open : (bs : List ℕ) → with_bytes bs (None ∷ []) ≡ None ∷ []
with_bytes-open [] = refl
with_bytes-open (x ∷ bs) = ap (group_with_byte x) (with_bytes-open bs)

-- the bytes passed are the front of a group that is still open
pub record IsOpen (bs : List ℕ) (at depth : ℕ) : Type 0 where
  pub front : groups_of bs ≡ with_bytes (take at bs) (groups_from depth (drop at bs))
  pub inside : 0 < at → 0 < depth
  pub deep : depth < at + 1

pub starts-open : (bs : List ℕ) → IsOpen bs 0 0
unfolding groups_of
starts-open bs = record { front = refl; inside = λ h. absurd (omega (arith, h)); deep = omega arith }

pub step : (depth b : ℕ) (bs : List ℕ) → depth_after depth b ≢ 0 → groups_from depth (b ∷ bs) ≡ group_with_byte b (groups_from (depth_after depth b) bs)
step depth b bs e = grind (arith, nat_tests)

pub closes : (depth b : ℕ) (bs : List ℕ) → depth_after depth b ≡ 0 → groups_from depth (b ∷ bs) ≡ Some (b ∷ []) ∷ groups_from 0 bs
closes depth b bs e = rw e refl

depth-le : (depth b : ℕ) → depth_after depth b ≤ depth + 1
depth-le depth b = grind (arith, nat_tests)

pub open-more : {bs : List ℕ} {at depth : ℕ} → IsOpen bs at depth → (after : ℕ) → after ≡ depth_after depth (get_or bs at 0) → after ≢ 0 → at < length bs → IsOpen bs (at + 1) after
open-more {bs} {at} {depth} h next e some lt = record {
  front = h.front ∙ ap (λ r. with_bytes (take at bs) (groups_from depth r)) (drop_more bs at 0 lt)
      ∙ ap (with_bytes (take at bs)) (step depth (get_or bs at 0) (drop (at + 1) bs) (λ z. some (e ∙ z)))
      ∙ sym (with_bytes-push (take at bs) (get_or bs at 0) (groups_from (depth_after depth (get_or bs at 0)) (drop (at + 1) bs)))
      ∙ rw (take_more bs at 0 lt, e) refl;
  inside = λ l. omega (arith, some);
  deep = omega (arith, e, h.deep, depth-le depth (get_or bs at 0));
}

depth-other : (depth b : ℕ) → is_brace b ≡ false → depth_after depth b ≡ depth
depth-other depth b h =
    let parts = or_parts (b == 123) (b == 125) h in
    rw (parts.0, parts.1) refl

open-others : {bs : List ℕ} {at depth : ℕ} (n : ℕ) → IsOpen bs at depth → 0 < depth → at + n ≤ length bs
    → ((k : ℕ) → at ≤ k → k < at + n → is_brace (get_or bs k 0) ≡ false) → IsOpen bs (at + n) depth
open-others {bs} {at} {depth} zero h some le others =
    let same : at ≡ at + zero = omega arith in
    subst (λ i. IsOpen bs i depth) same h
open-others {bs} {at} {depth} (suc n) h some le others =
    let before : IsOpen bs (at + n) depth = open-others n h some (omega (arith, le)) (λ k low high. others k low (omega (arith, high))) in
    let other : depth_after depth (get_or bs (at + n) 0) ≡ depth = depth-other depth (get_or bs (at + n) 0) (others (at + n) (omega arith) (omega arith)) in
    let same : (at + n) + 1 ≡ at + suc n = omega arith in
    subst (λ i. IsOpen bs i depth) same (open-more before depth (sym other) (λ e. absurd (omega (arith, some, e))) (omega (arith, le)))

-- open up to the next brace
pub open-to : {bs : List ℕ} {at depth : ℕ} (to : ℕ) → IsOpen bs at depth → 0 < depth → at ≤ to → to ≤ length bs
    → ((k : ℕ) → at ≤ k → k < to → is_brace (get_or bs k 0) ≡ false) → IsOpen bs to depth
open-to {bs} {at} {depth} to h some low le others =
    let same : at + (to - at) ≡ to = omega (arith, low) in
    subst (λ i. IsOpen bs i depth) same (open-others (to - at) h some (omega (arith, low, le)) (λ k a b. others k a (omega (arith, low, b))))

pub is-cut : {bs : List ℕ} {at depth : ℕ} → IsOpen bs at depth → depth_after depth (get_or bs at 0) ≡ 0 → at < length bs → IsCut bs (Some (take (at + 1) bs)) (drop (at + 1) bs)
unfolding groups_of
is-cut {bs} {at} {depth} h e lt =
    let whole : groups_of bs ≡ Some (take (at + 1) bs) ∷ groups_from 0 (drop (at + 1) bs) =
    h.front ∙ ap (λ r. with_bytes (take at bs) (groups_from depth r)) (drop_more bs at 0 lt)
    ∙ ap (with_bytes (take at bs)) (closes depth (get_or bs at 0) (drop (at + 1) bs) e)
    ∙ with_bytes-group (take at bs) (get_or bs at 0 ∷ []) (groups_from 0 (drop (at + 1) bs))
    ∙ rw (take_more bs at 0 lt) refl in
    record { group_is_next = rw whole refl; rest_is_after = rw whole refl }

pub is-open : (bs : List ℕ) (at depth : ℕ) → IsOpen bs at depth → length bs ≡ at → IsCut bs None []
unfolding groups_of
is-open [] at depth h e = record { group_is_next = refl; rest_is_after = refl }
is-open (b ∷ bs) at depth h e =
    let some : 0 < depth = h.inside (omega (arith, e)) in
    let last : drop at (b ∷ bs) ≡ [] = drop_all at (b ∷ bs) (omega (arith, e)) in
    let tail : groups_from depth [] ≡ None ∷ [] = grind (arith, nat_tests) in
    let whole : groups_of (b ∷ bs) ≡ None ∷ [] =
    h.front ∙ ap (λ r. with_bytes (take at (b ∷ bs)) (groups_from depth r)) last
    ∙ ap (with_bytes (take at (b ∷ bs))) tail ∙ with_bytes-open (take at (b ∷ bs)) in
    record { group_is_next = rw whole refl; rest_is_after = rw whole refl }
