-- The entries that wait for a line are those that match it, without the ones that lines ahead took.
use Rattle.std.proofs.Common.{◌≡◌, ℕ, zero, suc, ◌+◌, Bool, true, false, cond, List, [], ◌∷◌, ◌++◌, map, length, drop, option_map, refl, sym, ap, ◌∙◌}
use Rattle.std.specs.Prelude.{slice_get, if◌then◌else◌}
use Rattle.std.specs.List.{filter}
use Rattle.std.proofs.lemmas.List.{drop-drop, length-append}
use Rattle.std.proofs.lemmas.List.Elements.{filter-append, filter_agree}
use Rattle.std.proofs.lemmas.Option.{slice_get-map}
use Rattle.mt950.specs.declared.entry.Line61.{Line61}
use Rattle.statement.specs.Lines.{Placed}
use Rattle.statement.specs.Running.{placed_by}
use Rattle.statement.specs.declared.movement.Movement.{Movement}
use Rattle.reconcile.specs.inner.Keys.{is_key, taken_by}
use Rattle.reconcile.specs.Pairing.{matches, line_partner, entry_places, says_same}
use Rattle.reconcile.specs.inner.Waiting.{WithoutFirst, has_key, places_with, waiting_for}
use Rattle.reconcile.specs.declared.key.Key.{Key}
use Rattle.reconcile.specs.declared.waiting.Waiting.{Waiting}
use Rattle.reconcile.proofs.Keyed.{key-matches, key-same}

one-more : (m : Movement) (xs : List Movement) (ys : List Placed) (b : Bool) → map (λ x. x.place) xs ≡ entry_places ys → map (λ x. x.place) (cond b (m ∷ xs) xs) ≡ entry_places (cond b (placed_by m ∷ ys) ys)
one-more m xs ys true e = ap (λ (ns : List ℕ). m.place ∷ ns) e
one-more m xs ys false e = e

-- the places of the entries that a line matches
pub places-are : (line : Line61) (entries : List Movement) → places_with (taken_by line) entries ≡ entry_places (filter (matches line) (map placed_by entries))
places-are line [] = refl
places-are line (m ∷ ms) =
    let rest : List Placed = filter (matches line) (map placed_by ms) in
    one-more m (filter (has_key (taken_by line)) ms) rest (has_key (taken_by line) m) (places-are line ms)
    ∙ ap (λ (b : Bool). entry_places (cond b (placed_by m ∷ rest) rest)) (key-matches line m)

-- how many lines take a key
abbrev pub takers : Key → List Line61 → ℕ
takers key lines = length (filter (λ line. is_key (taken_by line) key) lines)

pub takers-are : (line : Line61) (ahead : List Line61) → takers (taken_by line) ahead ≡ length (filter (says_same line) ahead)
takers-are line ahead = ap length (filter_agree (λ other. is_key (taken_by other) (taken_by line)) (says_same line) (λ other. key-same line other) ahead)

-- after lines that took their entries the rest of each key waits
abbrev pub AreLeft : List Movement → List Line61 → Waiting → Type 0
AreLeft entries ahead waiting = (key : Key) → waiting_for waiting key ≡ drop (takers key ahead) (places_with key entries)

first-left : {A : Type 0} (n : ℕ) (xs : List A) → slice_get (drop n xs) 0 ≡ slice_get xs n
first-left zero xs = refl
first-left (suc n) [] = refl
first-left (suc n) (x ∷ xs) = first-left n xs

-- the first that waits for a line is its partner
pub first-is-partner : (entries : List Movement) (ahead : List Line61) (waiting : Waiting) (line : Line61) → AreLeft entries ahead waiting
    → slice_get (waiting_for waiting (taken_by line)) 0 ≡ option_map (λ placed. placed.place) (line_partner (map placed_by entries) ahead line)
first-is-partner entries ahead waiting line left =
    let own : List Placed = filter (matches line) (map placed_by entries) in
    ap (λ (ps : List ℕ). slice_get ps 0) (left (taken_by line))
    ∙ first-left (takers (taken_by line) ahead) (places_with (taken_by line) entries)
    ∙ ap (slice_get (places_with (taken_by line) entries)) (takers-are line ahead)
    ∙ ap (λ (ps : List ℕ). slice_get ps (length (filter (says_same line) ahead))) (places-are line entries)
    ∙ slice_get-map (λ placed. placed.place) own (length (filter (says_same line) ahead))

counted : (b : Bool) (line : Line61) → length (cond b (line ∷ []) []) ≡ (if b then 1 else 0)
counted true line = refl
counted false line = refl

takers-more : (key : Key) (ahead : List Line61) (line : Line61) → takers key (ahead ++ line ∷ []) ≡ takers key ahead + (if is_key (taken_by line) key then 1 else 0)
takers-more key ahead line =
    let test : Line61 → Bool = λ other. is_key (taken_by other) key in
    ap length (filter-append test ahead (line ∷ [])) ∙ length-append (filter test ahead) (filter test (line ∷ []))
    ∙ ap (λ (n : ℕ). takers key ahead + n) (counted (is_key (taken_by line) key) line)

-- once a line took its entry, what is left waits after it too
pub left-after : (entries : List Movement) (ahead : List Line61) (line : Line61) (old new : Waiting) → AreLeft entries ahead old → WithoutFirst (taken_by line) old new → AreLeft entries (ahead ++ line ∷ []) new
left-after entries ahead line old new left rest key =
    let n : ℕ = if is_key (taken_by line) key then 1 else 0 in
    rest key ∙ ap (drop n) (left key) ∙ drop-drop n (takers key ahead) (places_with key entries)
    ∙ ap (λ (k : ℕ). drop k (places_with key entries)) (sym (takers-more key ahead line))
