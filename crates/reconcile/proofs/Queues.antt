-- Queues of places under keys, of which one changes.
use Rattle.std.proofs.Common.{◌≡◌, ℕ, ◌+◌, ◌<◌, Bool, true, false, cond, List, [], ◌∷◌, ◌++◌, map, length, get_or, take, drop, Option, Some, None, refl, sym, ap, ◌∙◌, Global}
use Rattle.std.specs.Prelude.{if◌then◌else◌}
use Rattle.std.specs.List.{filter}
use Rattle.std.specs.Map.{lookup}
use Rattle.std.specs.Option.{option_map_or, unwrap_or}
use Rattle.std.specs.Ordering.{int_eq}
use Rattle.std.specs.Str.{bytes_eq}
use Rattle.std.specs.declared.collections.VecDeque.{VecDeque}
use Rattle.std.proofs.lemmas.List.{append-nil, map-append, take_more}
use Rattle.std.proofs.lemmas.List.Elements.{filter-append}
use Rattle.std.proofs.lemmas.Slice.Eq.{bytes_eq-Decides}
use Rattle.statement.specs.Running.{placed_by}
use Rattle.statement.specs.declared.movement.Movement.{Movement}
use Rattle.reconcile.specs.inner.Keys.{is_key, key_of}
use Rattle.reconcile.specs.inner.Waiting.{AllWait, has_key, places_with, waiting_for}
use Rattle.reconcile.specs.declared.key.Key.{Key}
use Rattle.reconcile.specs.declared.waiting.Waiting.{Waiting}
use Rattle.reconcile.proofs.Keyed.{same-truth}
use Rattle.reconcile.proofs.Tests.{int-alike, int-same, three, three-true}

-- ---- keys

key-equal : (a b : Key) → is_key a b ≡ true → a ≡ b
key-equal a b e =
    let parts = three (int_eq a.amount b.amount) (int_eq a.value b.value) (bytes_eq a.reference b.reference) e in
    let amount : a.amount ≡ b.amount = int-same a.amount b.amount parts.0 in
    let value : a.value ≡ b.value = int-same a.value b.value parts.1 in
    let reference : a.reference ≡ b.reference = (bytes_eq-Decides a.reference b.reference).0 parts.2 in
    λ i. record { amount = amount i; value = value i; reference = reference i }

key-itself : (a : Key) → is_key a a ≡ true
key-itself a =
    three-true (int_eq a.amount a.amount) (int_eq a.value a.value) (bytes_eq a.reference a.reference) (int-alike a.amount a.amount refl) (int-alike a.value a.value refl)
    ((bytes_eq-Decides a.reference a.reference).1 refl)

key-flip : (a b : Key) → is_key a b ≡ is_key b a
key-flip a b =
    same-truth (is_key a b) (is_key b a) (λ e. ap (λ (k : Key). is_key k a) (sym (key-equal a b e)) ∙ key-itself a) (λ e. ap (λ (k : Key). is_key k b) (sym (key-equal b a e)) ∙ key-itself b)

-- ---- queues

module _ {A : Type 0} (items : A → List ℕ) where
  -- what waits under a key
  abbrev pub queue : List (Key × A) → Key → List ℕ
  queue groups key = option_map_or items (lookup (is_key key) groups) []

  -- what an option holds, or a default that is empty
  pub of-default : (o : Option A) (d : A) → items d ≡ [] → items (unwrap_or o d) ≡ option_map_or items o []
  of-default None d e = e
  of-default (Some a) d e = refl

  -- the queue of one key is another one now
  abbrev pub now : List (Key × A) → Key → A → Key → List ℕ
  now old key w other = option_map_or items (cond (is_key key other) (Some w) (lookup (is_key other) old)) []

  module _ (old : List (Key × A)) (key : Key) (w : A) (other : Key) where
    own : is_key key other ≡ true → queue old other ≡ queue old key
    own e = ap (queue old) (sym (key-equal key other e))

    less-now : (b : Bool) → is_key key other ≡ b → items w ≡ drop 1 (queue old key) → option_map_or items (cond b (Some w) (lookup (is_key other) old)) [] ≡ drop (if b then 1 else 0) (queue old other)
    less-now true e less = less ∙ ap (drop 1) (sym (own e))
    less-now false e less = refl

    -- its first place is gone
    pub without-first : items w ≡ drop 1 (queue old key) → now old key w other ≡ drop (if is_key key other then 1 else 0) (queue old other)
    without-first less = less-now (is_key key other) refl less

    more-now : (b : Bool) (place : ℕ) → is_key key other ≡ b → items w ≡ queue old key ++ place ∷ [] → option_map_or items (cond b (Some w) (lookup (is_key other) old)) [] ≡ queue old other ++ cond b (place ∷ []) []
    more-now true place e more = more ∙ ap (λ (ps : List ℕ). ps ++ place ∷ []) (sym (own e))
    more-now false place e more = sym (append-nil (queue old other))

    -- one place more
    pub with-place : (place : ℕ) → items w ≡ queue old key ++ place ∷ [] → now old key w other ≡ queue old other ++ cond (is_key key other) (place ∷ []) []
    with-place place more = more-now (is_key key other) place refl more

-- ---- entries

one-place : (b : Bool) (m : Movement) → map (λ x. x.place) (cond b (m ∷ []) []) ≡ cond b (m.place ∷ []) []
one-place true m = refl
one-place false m = refl

-- one entry's places under a key
pub place-of : (key : Key) (m : Movement) → places_with key (m ∷ []) ≡ cond (is_key (key_of (placed_by m).line) key) (m.place ∷ []) []
place-of key m = one-place (has_key key m) m ∙ ap (λ (b : Bool). cond b (m.place ∷ []) []) (key-flip key (key_of (placed_by m).line))

-- an entry waits under its key, after those that waited there
pub added : (old : Waiting) (new : List (Key × VecDeque ℕ Global)) (m : Movement) (own : Key) (w : VecDeque ℕ Global) → own ≡ key_of (placed_by m).line → w.items ≡ waiting_for old own ++ m.place ∷ []
    → (key : Key) → lookup (is_key key) new ≡ cond (is_key own key) (Some w) (lookup (is_key key) old.groups.entries) → queue (λ group. group.items) new key ≡ waiting_for old key ++ places_with key (m ∷ [])
added old new m own w is more key put =
    ap (λ (o : Option (VecDeque ℕ Global)). option_map_or (λ group. group.items) o []) put
    ∙ with-place (λ group. group.items) old.groups.entries own w key m.place more
    ∙ ap (λ (k : Key). waiting_for old key ++ cond (is_key k key) (m.place ∷ []) []) is
    ∙ ap (λ (ps : List ℕ). waiting_for old key ++ ps) (sym (place-of key m))

places-append : (key : Key) (xs ys : List Movement) → places_with key (xs ++ ys) ≡ places_with key xs ++ places_with key ys
places-append key xs ys = ap (map (λ m. m.place)) (filter-append (has_key key) xs ys) ∙ map-append (λ m. m.place) (filter (has_key key) xs) (filter (has_key key) ys)

-- the next entry waits too
pub all-more : (entries : List Movement) (i : ℕ) (m : Movement) (old new : Waiting) → m ≡ get_or entries i m → i < length entries → AllWait (take i entries) old
    → ((key : Key) → waiting_for new key ≡ waiting_for old key ++ places_with key (m ∷ [])) → AllWait (take (i + 1) entries) new
all-more entries i m old new is lt all more key =
    let front : take (i + 1) entries ≡ take i entries ++ m ∷ [] = take_more entries i m lt ∙ ap (λ (x : Movement). take i entries ++ x ∷ []) (sym is) in
    more key ∙ ap (λ (ps : List ℕ). ps ++ places_with key (m ∷ [])) (all key) ∙ sym (ap (places_with key) front ∙ places-append key (take i entries) (m ∷ []))
