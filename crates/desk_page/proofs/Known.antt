-- What is known of the messages ahead, as a set and as a list.
use Rattle.std.proofs.Common.{◌≡◌, ℕ, zero, suc, ◌+◌, ◌<◌, Bool, false, true, cond, List, [], ◌∷◌, ◌++◌, length, get_or, map, take, drop, refl, sym, ap, ◌∙◌, arith, append_assoc}
use Rattle.std.specs.Prelude.{◌||◌}
use Rattle.std.specs.List.{list_any}
use Rattle.std.specs.Str.{bytes_eq}
use Rattle.std.proofs.lemmas.Grind.{flat_map-append}
use Rattle.std.proofs.lemmas.List.{append-nil, drop_more, map-append, take_more}
use Rattle.std.proofs.lemmas.Slice.Eq.{bytes_eq-Decides}
use Rattle.desk_page.specs.declared.row.Payment.{Payment}
use Rattle.desk_page.specs.declared.row.Row.{Row}
use Rattle.desk_page.specs.declared.row.Row.TheVariants.{Asks}
use Rattle.desk_page.specs.declared.row.Standing.{Standing}
use Rattle.desk_page.specs.Twice.{keys_of, stands_in, twice_from, twice_if, uetr_keys}
use Rattle.desk_page.specs.inner.Twice.{keys_in, terms_in}

any_step : (t a b c : Bool) → a ≡ (b || c) → (t || a) ≡ ((t || b) || c)
any_step true a b c same = refl
any_step false a b c same = same

pub any_joined : {X : Type 0} (test : X → Bool) (xs ys : List X) → list_any test (xs ++ ys) ≡ (list_any test xs || list_any test ys)
any_joined test [] ys = refl
any_joined test (x ∷ xs) ys = any_step (test x) (list_any test (xs ++ ys)) (list_any test xs) (list_any test ys) (any_joined test xs ys)

pub or_false : (a : Bool) → (a || false) ≡ a
or_false true = refl
or_false false = refl

module _ {X : Type 0} (bytes : X → List ℕ) where
  -- the test whether a key has these bytes
  abbrev has : List ℕ → X → Bool
  has key k = bytes_eq key (bytes k)

  same_step : (set : List X) (added key : List ℕ) (t : Bool) → bytes_eq key added ≡ t → list_any (has added) set ≡ true → list_any (has key) set ≡ (list_any (has key) set || t)
  same_step set added key false is there = sym (or_false (list_any (has key) set))
  same_step set added key true is there =
      let found : list_any (has key) set ≡ true = ap (λ k. list_any (has k) set) ((bytes_eq-Decides key added).0 is) ∙ there in
      found ∙ sym (ap (λ a. a || true) found)

  added_step : (set : List X) (added : X) (key : List ℕ) (t : Bool) → list_any (has (bytes added)) set ≡ t → list_any (has key) (cond t set (set ++ added ∷ [])) ≡ (list_any (has key) set || has key added)
  added_step set added key true is = same_step set (bytes added) key (has key added) refl is
  added_step set added key false is = any_joined (has key) set (added ∷ []) ∙ ap (λ a. list_any (has key) set || a) (or_false (has key added))

  -- a key more in the set is one more in the list
  pub known_more : (set new : List X) (added : X) (keys : List (List ℕ)) → new ≡ cond (list_any (has (bytes added)) set) set (set ++ added ∷ [])
      → ((key : List ℕ) → list_any (has key) set ≡ stands_in keys key) → (key : List ℕ) → list_any (has key) new ≡ stands_in (keys ++ bytes added ∷ []) key
  known_more set new added keys inserted known key =
      ap (λ ks. list_any (has key) ks) inserted ∙ added_step set added key (list_any (has (bytes added)) set) refl ∙ ap (λ a. a || has key added) (known key)
      ∙ sym (any_joined (bytes_eq key) keys (bytes added ∷ []) ∙ ap (λ a. stands_in keys key || a) (or_false (has key added)))

-- ---- rows

-- one message's terms more
pub terms_more : (rows : List Row) (i : ℕ) (row : Row) (all new : List (List ℕ)) (terms : List ℕ) → i < length rows → all ≡ map terms_in (take i rows) → terms ≡ terms_in row → row ≡ get_or rows i row
    → new ≡ all ++ terms ∷ [] → new ≡ map terms_in (take (i + 1) rows)
terms_more rows i row all new terms within so_far is item pushed =
    pushed ∙ ap (λ (ts : List (List ℕ)). ts ++ terms ∷ []) so_far ∙ ap (λ (t : List ℕ). map terms_in (take i rows) ++ t ∷ []) (is ∙ ap terms_in item)
    ∙ sym (ap (λ (rs : List Row). map terms_in rs) (take_more rows i row within) ∙ map-append terms_in (take i rows) (get_or rows i row ∷ []))

map_at : (rows : List Row) (i : ℕ) (d : Row) (t : List ℕ) → i < length rows → get_or (map terms_in rows) i t ≡ terms_in (get_or rows i d)
map_at [] i d t lt = absurd (omega (arith, lt))
map_at (row ∷ rows) zero d t lt = refl
map_at (row ∷ rows) (suc i) d t lt = map_at rows i d t (omega (arith, lt))

-- the terms at a place are those of the message there
pub terms_at : (rows : List Row) (all : List (List ℕ)) (i : ℕ) (row : Row) (terms : List ℕ) → all ≡ map terms_in rows → i < length rows → row ≡ get_or rows i row → terms ≡ get_or all i terms
    → terms ≡ terms_in row
terms_at rows all i row terms same within item at =
    at ∙ ap (λ (ts : List (List ℕ)). get_or ts i terms) same ∙ map_at rows i row terms within ∙ ap terms_in (sym item)

-- what the messages up to the next one are known by
pub keys_more : (rows : List Row) (i : ℕ) (row : Row) → i < length rows → row ≡ get_or rows i row → keys_in (take (i + 1) rows) ≡ keys_in (take i rows) ++ keys_of row
keys_more rows i row within item =
    ap (λ (rs : List Row). keys_in rs) (take_more rows i row within) ∙ flat_map-append keys_of (take i rows) (get_or rows i row ∷ []) ∙ ap (λ (ks : List (List ℕ)). keys_in (take i rows) ++ ks) (append-nil (keys_of (get_or rows i row)))
    ∙ ap (λ (r : Row). keys_in (take i rows) ++ keys_of r) (sym item)

-- the row of the next message is added
pub twice_more : (rows : List Row) (i : ℕ) (row : Row) (is_known : List ℕ → Bool) (all out new : List ℕ) → i < length rows → row ≡ get_or rows i row
    → ((key : List ℕ) → is_known key ≡ stands_in (keys_in (take i rows)) key)
    → all ≡ out ++ twice_from (keys_in (take i rows)) (i + 1) (drop i rows) → new ≡ out ++ twice_if is_known (i + 1) row
    → all ≡ new ++ twice_from (keys_in (take (i + 1) rows)) (i + 1 + 1) (drop (i + 1) rows)
twice_more rows i row is_known all out new within item known so_far line =
    let keys : List (List ℕ) = keys_in (take i rows) in
    let next : drop i rows ≡ row ∷ drop (i + 1) rows = drop_more rows i row within ∙ ap (λ (r : Row). r ∷ drop (i + 1) rows) (sym item) in
    let test : is_known ≡ stands_in keys = λ k. λ key. known key k in
    let rest : List ℕ = twice_from (keys ++ keys_of row) (i + 1 + 1) (drop (i + 1) rows) in
    so_far ∙ ap (λ (rs : List Row). out ++ twice_from keys (i + 1) rs) next ∙ sym (append_assoc out (twice_if (stands_in keys) (i + 1) row) rest)
    ∙ ap (λ (t : List ℕ → Bool). (out ++ twice_if t (i + 1) row) ++ rest) (sym test) ∙ ap (λ (bs : List ℕ). bs ++ rest) (sym line)
    ∙ ap (λ (ks : List (List ℕ)). new ++ twice_from ks (i + 1 + 1) (drop (i + 1) rows)) (sym (keys_more rows i row within item))

-- what a message that asks for a payment adds
pub noted : (keys : List (List ℕ)) (terms : List ℕ) (row : Row) (payment : Payment) (standing : Standing) → row ≡ Asks payment standing → terms ≡ terms_in row
    → ((keys ++ payment.mir.0 ∷ []) ++ terms ∷ []) ++ uetr_keys payment.uetr ≡ keys ++ keys_of row
noted keys terms row payment standing is same =
    append_assoc (keys ++ payment.mir.0 ∷ []) (terms ∷ []) (uetr_keys payment.uetr) ∙ append_assoc keys (payment.mir.0 ∷ []) (terms ∷ uetr_keys payment.uetr)
    ∙ ap (λ (t : List ℕ). keys ++ payment.mir.0 ∷ t ∷ uetr_keys payment.uetr) (same ∙ ap terms_in is) ∙ ap (λ (r : Row). keys ++ keys_of r) (sym is)
