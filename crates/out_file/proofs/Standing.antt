-- What stands among messages, as a list and as a set.
use Rattle.std.proofs.Common.{◌≡◌, ℕ, ◌+◌, ◌<◌, Bool, false, true, not, cond, List, [], ◌∷◌, ◌++◌, length, get_or, map, filter, flat_map, take, refl, sym, ap, ◌∙◌}
use Rattle.std.specs.Prelude.{◌||◌}
use Rattle.std.specs.List.{concat, list_any}
use Rattle.std.specs.Str.{bytes_eq}
use Rattle.std.proofs.lemmas.List.{append-nil, append_assoc, map_more}
use Rattle.std.proofs.lemmas.Slice.Eq.{bytes_eq-Decides}
use Rattle.out_file.specs.Mended.{stands_in}

any_step : (t a b c : Bool) → a ≡ (b || c) → (t || a) ≡ ((t || b) || c)
any_step true a b c same = refl
any_step false a b c same = same

pub any_joined : {X : Type 0} (test : X → Bool) (xs ys : List X) → list_any test (xs ++ ys) ≡ (list_any test xs || list_any test ys)
any_joined test [] ys = refl
any_joined test (x ∷ xs) ys = any_step (test x) (list_any test (xs ++ ys)) (list_any test xs) (list_any test ys) (any_joined test xs ys)

pub or_true : (t a : Bool) → a ≡ true → (t || a) ≡ true
or_true true a is = refl
or_true false a is = is

or_false : (a : Bool) → (a || false) ≡ a
or_false true = refl
or_false false = refl

module _ {X : Type 0} (bytes : X → List ℕ) where
  -- the test whether a key has these bytes
  abbrev has : List ℕ → X → Bool
  has message key = bytes_eq message (bytes key)

  same_step : (keys : List X) (key message : List ℕ) (t : Bool) → bytes_eq message key ≡ t → list_any (has key) keys ≡ true → list_any (has message) keys ≡ (list_any (has message) keys || t)
  same_step keys key message false is there = sym (or_false (list_any (has message) keys))
  same_step keys key message true is there =
      let found : list_any (has message) keys ≡ true = ap (λ m. list_any (has m) keys) ((bytes_eq-Decides message key).0 is) ∙ there in
      found ∙ sym (ap (λ a. a || true) found)

  added_step : (keys : List X) (key : X) (message : List ℕ) (t : Bool) → list_any (has (bytes key)) keys ≡ t
      → list_any (has message) (cond t keys (keys ++ key ∷ [])) ≡ (list_any (has message) keys || has message key)
  added_step keys key message true is = same_step keys (bytes key) message (has message key) refl is
  added_step keys key message false is =
      any_joined (has message) keys (key ∷ []) ∙ ap (λ a. list_any (has message) keys || a) (or_false (has message key))

  -- a key more in a set
  pub any_added : (keys : List X) (key : X) (message : List ℕ)
      → list_any (has message) (cond (list_any (has (bytes key)) keys) keys (keys ++ key ∷ [])) ≡ (list_any (has message) keys || has message key)
  any_added keys key message = added_step keys key message (list_any (has (bytes key)) keys) refl

  -- a message more in a list
  pub stands_more : (xs : List X) (i : ℕ) (d : X) (message : List ℕ) → i < length xs
      → (stands_in (map bytes (take i xs)) message || bytes_eq message (bytes (get_or xs i d))) ≡ stands_in (map bytes (take (i + 1) xs)) message
  stands_more xs i d message lt =
      let other = map bytes (take i xs) in
      sym (ap (λ ms. stands_in ms message) (map_more bytes xs i d lt)
      ∙ any_joined (bytes_eq message) other (bytes (get_or xs i d) ∷ []) ∙ ap (λ a. stands_in other message || a) (or_false (bytes_eq message (bytes (get_or xs i d)))))

  pub flat_joined : (xs : List X) → flat_map bytes xs ≡ concat (map bytes xs)
  flat_joined [] = refl
  flat_joined (x ∷ xs) = ap (λ rest. bytes x ++ rest) (flat_joined xs)

lack_step : (t : Bool) (ms : List (List ℕ)) (m : List ℕ) → concat (ms ++ cond (not t) (m ∷ []) []) ≡ concat ms ++ cond t [] m
lack_step true [] m = refl
lack_step false [] m = append-nil m
lack_step t (x ∷ ms) m = ap (λ rest. x ++ rest) (lack_step t ms m) ∙ sym (append_assoc x (concat ms) (cond t [] m))

filter_push_step : (t : Bool) (x : List ℕ) (a b c : List (List ℕ)) → a ≡ b ++ c → cond t (x ∷ a) a ≡ cond t (x ∷ b) b ++ c
filter_push_step true x a b c same = ap (λ rest. x ∷ rest) same
filter_push_step false x a b c same = same

filter_push : (p : List ℕ → Bool) (xs : List (List ℕ)) (m : List ℕ) → filter p (xs ++ m ∷ []) ≡ filter p xs ++ cond (p m) (m ∷ []) []
filter_push p [] m = refl
filter_push p (x ∷ xs) m = filter_push_step (p x) x (filter p (xs ++ m ∷ [])) (filter p xs) (cond (p m) (m ∷ []) []) (filter_push p xs m)

-- of one message more, what lacks
pub lack_more : {X : Type 0} (bytes : X → List ℕ) (t : List ℕ → Bool) (xs : List X) (i : ℕ) (d : X) → i < length xs
    → concat (filter (λ m. not (t m)) (map bytes (take i xs))) ++ cond (t (bytes (get_or xs i d))) [] (bytes (get_or xs i d)) ≡ concat (filter (λ m. not (t m)) (map bytes (take (i + 1) xs)))
lack_more bytes t xs i d lt =
    let m = bytes (get_or xs i d) in
    let ms = map bytes (take i xs) in
    sym (ap (λ all. concat (filter (λ m. not (t m)) all)) (map_more bytes xs i d lt)
    ∙ ap concat (filter_push (λ m. not (t m)) ms m) ∙ lack_step (t m) (filter (λ m. not (t m)) ms) m)

-- tests that agree leave the same
pub filter_same : (p q : List ℕ → Bool) → ((m : List ℕ) → p m ≡ q m) → (ms : List (List ℕ)) → filter p ms ≡ filter q ms
filter_same p q same [] = refl
filter_same p q same (m ∷ ms) = λ i. cond (same m i) (m ∷ filter_same p q same ms i) (filter_same p q same ms i)
