-- Braces from a place on.
use Rattle.std.proofs.Common.{◌≡◌, ◌<◌, ◌≤◌, ◌+◌, ◌-◌, ℕ, zero, suc, Bool, true, false, List, [], ◌∷◌, get_or, take, drop, refl, sym, ap, ◌∙◌, inl, inr, arith}
use Rattle.std.specs.Prelude.{◌||◌}
use Rattle.std.specs.List.{list_any, slice_range}
use Rattle.std.proofs.lemmas.Bool.{cases_lt}
use Rattle.std.proofs.lemmas.List.{get_or-drop, get_or-take}
use Rattle.corr_text.specs.Braces.{is_brace}

-- no brace stands from one place to another
abbrev pub NoBrace : List ℕ → ℕ → ℕ → Type 0
NoBrace xs from to = (k : ℕ) → from ≤ k → k < to → is_brace (get_or xs k 0) ≡ false

pub none-yet : (xs : List ℕ) (from : ℕ) → NoBrace xs from from
none-yet xs from k low high = absurd (omega (arith, low, high))

pub joined : (xs : List ℕ) (from mid to : ℕ) → NoBrace xs from mid → NoBrace xs mid to → NoBrace xs from to
joined xs from mid to before after k low high =
    elim (cases_lt k mid) [
      | inl less ↦ before k low less
      | inr past ↦ after k (omega arith) high
    ]

pub one-more : (xs : List ℕ) (from at : ℕ) → NoBrace xs from at → is_brace (get_or xs at 0) ≡ false → NoBrace xs from (at + 1)
one-more xs from at before other =
    joined xs from at (at + 1) before (λ k low high. let same : k ≡ at = omega (arith, low, high) in ap (λ i. is_brace (get_or xs i 0)) same ∙ other)

left : (a b : Bool) → (a || b) ≡ false → a ≡ false
left false b h = refl
left true b h = h

right : (a b : Bool) → (a || b) ≡ false → b ≡ false
right false b h = h
right true false h = refl
right true true h = h

none-among : (group : List ℕ) (k : ℕ) → list_any is_brace group ≡ false → is_brace (get_or group k 0) ≡ false
none-among [] k h = refl
none-among (b ∷ bs) zero h = left (is_brace b) (list_any is_brace bs) h
none-among (b ∷ bs) (suc k) h = none-among bs k (right (is_brace b) (list_any is_brace bs) h)

pub group-more : (xs : List ℕ) (from at len : ℕ) → NoBrace xs from at → list_any is_brace (slice_range xs at (at + len)) ≡ false → NoBrace xs from (at + len)
group-more xs from at len before none =
    joined xs from at (at + len) before (λ k low high.
    let place : at + (k - at) ≡ k = omega (arith, low) in
    let here : get_or (take (at + len - at) (drop at xs)) (k - at) 0 ≡ get_or xs k 0 =
    get_or-take (at + len - at) (drop at xs) (k - at) 0 (omega (arith, low, high)) ∙ get_or-drop at xs (k - at) 0 ∙ ap (λ i. get_or xs i 0) place in
    ap is_brace (sym here) ∙ none-among (take (at + len - at) (drop at xs)) (k - at) none)
