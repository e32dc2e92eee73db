-- The places of the rows that have a key tell where a row is found.
use Rattle.std.proofs.Common.{◌≡◌, ℕ, suc, ◌+◌, Bool, true, false, cond, ◌&&◌, List, [], ◌∷◌, ◌++◌, length, Option, Some, None, unwrap_or, refl, sym, ap, ◌∙◌, subst, arith}
use Rattle.std.specs.Prelude.{All, slice_get, find, filter, position, int_le, int_lt, if◌then◌else◌}
use Rattle.std.specs.List.{position_from}
use Rattle.std.specs.Map.{lookup}
use Rattle.std.specs.Global.{Vec}
use Rattle.std.specs.List.{insert}
use Rattle.std.specs.List.Sorted.{IsPermutation}
use Rattle.std.specs.Option.{option_and_then, option_map_or}
use Rattle.std.specs.Str.{bytes_eq}
use Rattle.std.proofs.lemmas.Iterator.Adapters.{position_from-zero}
use Rattle.std.proofs.lemmas.List.{append-nil}
use Rattle.std.proofs.lemmas.List.Elements.{All-cons, All-nil}
use Rattle.std.proofs.lemmas.List.Sorted.{All-permutation, IsPermutation-cons, IsPermutation-insert, IsPermutation-refl, IsPermutation-to_front, IsPermutation-trans}
use Rattle.std.proofs.lemmas.Slice.Eq.{bytes_eq-Decides}
use Rattle.corr_ids.specs.declared.day.Day.{Day}
use Rattle.corr_money.specs.declared.amount.Ccy.{Ccy}
use Rattle.ssi_versions.specs.declared.row.SsiRow.{SsiRow}
use Rattle.ssi_versions.specs.Index.{IsInDayOrder, IsPlaceIndexOf, has_bank_key, key_by_bank, places_under, places_where}
use Rattle.ssi_versions.specs.inner.Index.{NotesPlace, holds_at}
use Rattle.ssi_versions.specs.Instruction.{is_asked, is_in_force, naming}
use Rattle.ssi_versions.specs.Rows.{overlaps, shares_a_day}

-- one list is the other from a place on
abbrev GoesOn : {A : Type 0} → List A → ℕ → List A → Type 0
GoesOn whole k xs = (i : ℕ) → slice_get whole (k + i) ≡ slice_get xs i

goes-on : {A : Type 0} (whole : List A) (k : ℕ) (x : A) (xs : List A) → GoesOn whole k (x ∷ xs) → GoesOn whole (k + 1) xs
goes-on whole k x xs h i =
    let next : k + 1 + i ≡ k + suc i = omega arith in
    ap (slice_get whole) next ∙ h (suc i)

stands : {A : Type 0} (whole : List A) (k : ℕ) (x : A) (xs : List A) → GoesOn whole k (x ∷ xs) → slice_get whole k ≡ Some x
stands whole k x xs h =
    let here : k ≡ k + 0 = omega arith in
    ap (slice_get whole) here ∙ h 0

whole-is : {A : Type 0} (xs : List A) → GoesOn xs 0 xs
whole-is xs i =
    let same : 0 + i ≡ i = omega arith in
    ap (slice_get xs) same

passes : {A : Type 0} (test : A → Bool) (whole : List A) (k : ℕ) (x : A) → slice_get whole k ≡ Some x → holds_at test whole k ≡ test x
passes test whole k x e = rw e refl

one-more : (H : ℕ → Bool) (k : ℕ) (ps : List ℕ) (o : Option ℕ) (s m : Bool) → H k ≡ m → (m ≡ true → s ≡ true) → find H ps ≡ o → find H (cond s (k ∷ ps) ps) ≡ cond m (Some k) o
one-more H k ps o true m at inside rest = rw (at, rest) refl
one-more H k ps o false true at inside rest = absurd (cc (inside refl))
one-more H k ps o false false at inside rest = rest

one-passes : (P : ℕ → Type 0) (k : ℕ) (ps : List ℕ) (b : Bool) → (b ≡ true → P k) → All P ps → All P (cond b (k ∷ ps) ps)
one-passes P k ps true holds all = All-cons P k ps (holds refl) all
one-passes P k ps false holds all = all

all-pass : {A : Type 0} (test : A → Bool) (whole : List A) (k : ℕ) (xs : List A) → GoesOn whole k xs → All (λ p. holds_at test whole p ≡ true) (places_where test k xs)
unfolding places_where
all-pass test whole k [] h = All-nil (λ p. holds_at test whole p ≡ true)
all-pass test whole k (x ∷ xs) h =
    one-passes (λ p. holds_at test whole p ≡ true) k (places_where test (k + 1) xs) (test x) (λ e. passes test whole k x (stands whole k x xs h) ∙ e)
    (all-pass test whole (k + 1) xs (goes-on whole k x xs h))

-- the item at each place passes, in whatever order the places stand
pub places-pass : {A : Type 0} (test : A → Bool) (xs : List A) (places : List ℕ) → IsPermutation (places_where test 0 xs) places → All (λ p. holds_at test xs p ≡ true) places
places-pass test xs places moved = All-permutation (λ p. holds_at test xs p ≡ true) (places_where test 0 xs) places moved (all-pass test xs 0 xs (whole-is xs))

-- where each item that meets a test has the key, the first place of the key whose item meets it is the first of all
find-places : {A : Type 0} (same meets : A → Bool) → ((x : A) → meets x ≡ true → same x ≡ true) → (whole : List A) (k : ℕ) (xs : List A) → GoesOn whole k xs
    → find (holds_at meets whole) (places_where same k xs) ≡ position_from meets k xs
unfolding places_where
find-places same meets inside whole k [] h = refl
find-places same meets inside whole k (x ∷ xs) h =
    let at = passes meets whole k x (stands whole k x xs h) in
    let rest = find-places same meets inside whole (k + 1) xs (goes-on whole k x xs h) in
    one-more (holds_at meets whole) k (places_where same (k + 1) xs) (position_from meets (k + 1) xs) (same x) (meets x) at (inside x) rest

pub first_place : {A : Type 0} (same meets : A → Bool) → ((x : A) → meets x ≡ true → same x ≡ true) → (xs : List A)
    → find (holds_at meets xs) (places_where same 0 xs) ≡ position meets xs
first_place same meets inside xs = find-places same meets inside xs 0 xs (whole-is xs) ∙ sym (position_from-zero meets xs)

taken : {A : Type 0} (G : ℕ → Option A) (k : ℕ) (x : A) (o : Option ℕ) (p : Option A) (m : Bool) → G k ≡ Some x → option_and_then G o ≡ p → option_and_then G (cond m (Some k) o) ≡ cond m (Some x) p
taken G k x o p true at rest = at
taken G k x o p false at rest = rest

item-at : {A : Type 0} (meets : A → Bool) (whole : List A) (k : ℕ) (xs : List A) → GoesOn whole k xs → option_and_then (slice_get whole) (position_from meets k xs) ≡ find meets xs
item-at meets whole k [] h = refl
item-at meets whole k (x ∷ xs) h =
    taken (slice_get whole) k x (position_from meets (k + 1) xs) (find meets xs) (meets x) (stands whole k x xs h) (item-at meets whole (k + 1) xs (goes-on whole k x xs h))

-- the item at that place is the first that meets the test
pub first_item : {A : Type 0} (same meets : A → Bool) → ((x : A) → meets x ≡ true → same x ≡ true) → (xs : List A)
    → option_and_then (slice_get xs) (find (holds_at meets xs) (places_where same 0 xs)) ≡ find meets xs
first_item same meets inside xs =
    ap (option_and_then (slice_get xs)) (find-places same meets inside xs 0 xs (whole-is xs)) ∙ item-at meets xs 0 xs (whole-is xs)

kept : {A : Type 0} (p : A → Bool) (x : A) (xs : List A) (o : Option A) (q : Bool) → find p xs ≡ o → find p (cond q (x ∷ xs) xs) ≡ cond (q && p x) (Some x) o
kept p x xs o true e = rw e refl
kept p x xs o false e = e

-- the first that passes one test of those that pass another
pub find-filter : {A : Type 0} (p q : A → Bool) (xs : List A) → find p (filter q xs) ≡ find (λ x. q x && p x) xs
find-filter p q [] = refl
find-filter p q (x ∷ xs) = kept p x (filter q xs) (find (λ x. q x && p x) xs) (q x) (find-filter p q xs)

added : (k : ℕ) (ps qs tail : List ℕ) (s : Bool) → qs ≡ ps ++ tail → cond s (k ∷ qs) qs ≡ cond s (k ∷ ps) ps ++ tail
added k ps qs tail true e = ap (λ z. k ∷ z) e
added k ps qs tail false e = e

-- an item at the end has the place after the others
places-push : {A : Type 0} (test : A → Bool) (k : ℕ) (xs : List A) (x : A) → places_where test k (xs ++ x ∷ []) ≡ places_where test k xs ++ cond (test x) ((k + length xs) ∷ []) []
unfolding places_where
places-push test k [] x =
    let same : k ≡ k + 0 = omega arith in
    ap (λ (n : ℕ). cond (test x) (n ∷ []) []) same
places-push test k (y ∷ ys) x =
    let next : k + 1 + length ys ≡ k + length (y ∷ ys) = omega arith in
    let rest = places-push test (k + 1) ys x in
    added k (places_where test (k + 1) ys) _ (cond (test x) ((k + length (y ∷ ys)) ∷ []) []) (test y) (rw next at rest)

-- the same from the first place on
pushed : {A : Type 0} (test : A → Bool) (xs : List A) (x : A) (b : Bool) → test x ≡ b → places_where test 0 (xs ++ x ∷ []) ≡ places_where test 0 xs ++ cond b (length xs ∷ []) []
pushed test xs x b e =
    let same : 0 + length xs ≡ length xs = omega arith in
    places-push test 0 xs x ∙ ap (λ (n : ℕ). places_where test 0 xs ++ cond (test x) (n ∷ []) []) same ∙ ap (λ (c : Bool). places_where test 0 xs ++ cond c (length xs ∷ []) []) e

-- no row, no place
pub index_none : (groups : List (List ℕ × Vec ℕ)) → groups ≡ [] → IsPlaceIndexOf [] groups
unfolding places_where
index_none groups e key = rw e (IsPermutation-refl [])

pub order_none : (groups : List (List ℕ × Vec ℕ)) → groups ≡ [] → (key : List ℕ) → IsInDayOrder [] (places_under groups key)
order_none groups e key = rw e (record { spans = λ k d lt. absurd (omega (arith, lt)); inside = λ k d lt. absurd (omega (arith, lt)); rise = λ i j a b lt at-i at-j. absurd (cc at-i) })

back : (a b : List ℕ) (r : Bool) → bytes_eq a b ≡ r → bytes_eq b a ≡ false → r ≡ false
back a b true e apart = absurd (cc (sym ((bytes_eq-Decides b a).1 (sym ((bytes_eq-Decides a b).0 e))) ∙ apart))
back a b false e apart = refl

same-bytes : (a : List ℕ) → bytes_eq a a ≡ true
same-bytes a = (bytes_eq-Decides a a).1 refl

-- the places of a key with one more
permuted-more : (rows : List SsiRow) (r : SsiRow) (key : List ℕ) (places : List ℕ) (n : ℕ) → has_bank_key key r ≡ true → IsPermutation (places_where (has_bank_key key) 0 rows) places
    → IsPermutation (places_where (has_bank_key key) 0 (rows ++ r ∷ [])) (insert places n (length rows))
permuted-more rows r key places n own moved =
    let k = length rows in
    let ps = places_where (has_bank_key key) 0 rows in
    rw (pushed (has_bank_key key) rows r true own)
    (IsPermutation-trans _ _ _ (IsPermutation-to_front ps k) (IsPermutation-trans _ _ _ (IsPermutation-cons k ps places moved) (IsPermutation-insert places n k)))

module _ (rows : List SsiRow) (r : SsiRow) (old new : List (List ℕ × Vec ℕ)) (index : IsPlaceIndexOf rows old) (n : ℕ) where
  noted-now : (key : List ℕ) (b : Bool) → bytes_eq (key_by_bank r.ccy.0 r.bank) key ≡ b
      → IsPermutation (places_where (has_bank_key key) 0 (rows ++ r ∷ [])) (if b then insert (places_under old (key_by_bank r.ccy.0 r.bank)) n (length rows) else places_under old key)
  noted-now key true e =
      let own = key_by_bank r.ccy.0 r.bank in
      subst (λ (k : List ℕ). IsPermutation (places_where (has_bank_key k) 0 (rows ++ r ∷ [])) (insert (places_under old own) n (length rows))) ((bytes_eq-Decides own key).0 e)
      (permuted-more rows r own (places_under old own) n (same-bytes own) (index own))
  noted-now key false e =
      let apart = back key (key_by_bank r.ccy.0 r.bank) (bytes_eq key (key_by_bank r.ccy.0 r.bank)) refl e in
      let same = pushed (has_bank_key key) rows r false apart ∙ append-nil (places_where (has_bank_key key) 0 rows) in
      rw same (index key)

  -- one more row, and its place
  pub index_more : (place : ℕ) → place ≡ length rows → NotesPlace old new (key_by_bank r.ccy.0 r.bank) n place → IsPlaceIndexOf (rows ++ r ∷ []) new
  index_more place e put key = rw (put key, e) (noted-now key (bytes_eq (key_by_bank r.ccy.0 r.bank) key) refl)

items-or : (b : Bool) (v : Vec ℕ) (o : Option (Vec ℕ)) → option_map_or (λ x. x.items) (cond b (Some v) o) [] ≡ cond b v.items (option_map_or (λ x. x.items) o [])
items-or true v o = refl
items-or false v o = refl

-- the places that stand, or none
pub items-else : (o : Option (Vec ℕ)) (v : Vec ℕ) → v.items ≡ [] → (unwrap_or o v).items ≡ option_map_or (λ x. x.items) o []
items-else None v e = e
items-else (Some w) v e = refl

-- what the groups are after a write at a key
pub notes_place : (old new : List (List ℕ × Vec ℕ)) (key : List ℕ) (at place : ℕ) (v : Vec ℕ) → v.items ≡ insert (places_under old key) at place
    → ((other : List ℕ) → lookup (bytes_eq other) new ≡ cond (bytes_eq key other) (Some v) (lookup (bytes_eq other) old))
    → NotesPlace old new key at place
notes_place old new key at place v is put other =
    ap (λ (o : Option (Vec ℕ)). option_map_or (λ x. x.items) o []) (put other) ∙ items-or (bytes_eq key other) v (lookup (bytes_eq other) old)
    ∙ ap (λ (ps : List ℕ). cond (bytes_eq key other) ps (places_under old other)) is

both : (a b : Bool) → (a && b) ≡ true → (a ≡ true) × (b ≡ true)
both true b e = (refl, e)
both false b e = absurd (cc e)

first-two : (a b c : Bool) → (a && b && c) ≡ true → (a ≡ true) × (b ≡ true)
first-two true true c e = (refl, refl)
first-two true false c e = absurd (cc e)
first-two false b c e = absurd (cc e)

same-key : (ccy bank : List ℕ) (r : SsiRow) → bytes_eq ccy r.ccy.0 ≡ true → bytes_eq bank r.bank ≡ true → has_bank_key (key_by_bank ccy bank) r ≡ true
same-key ccy bank r c b =
    (bytes_eq-Decides (key_by_bank ccy bank) (key_by_bank r.ccy.0 r.bank)).1 (ap (λ (x : List ℕ). key_by_bank x bank) ((bytes_eq-Decides ccy r.ccy.0).0 c) ∙ ap (key_by_bank r.ccy.0) ((bytes_eq-Decides bank r.bank).0 b))

-- a row that overlaps another has its key
pub overlaps-key : (a r : SsiRow) → overlaps a r ≡ true → has_bank_key (key_by_bank a.ccy.0 a.bank) r ≡ true
overlaps-key a r e =
    let parts = first-two (bytes_eq a.ccy.0 r.ccy.0) (bytes_eq a.bank r.bank) (shares_a_day a r) e in
    same-key a.ccy.0 a.bank r parts.0 parts.1

-- a row that is asked for has the key of what is asked
pub asked-key : (ccy : Ccy) (bank : List ℕ) (day : Day) (r : SsiRow) → is_asked ccy bank day r ≡ true → has_bank_key (key_by_bank ccy.0 bank) r ≡ true
asked-key ccy bank day r e =
    let first = both (is_in_force ccy day r) (bytes_eq bank r.bank) e in
    let second = first-two (bytes_eq ccy.0 r.ccy.0) (int_le r.from.0 day.0) (int_lt day.0 r.until.0) first.0 in
    same-key ccy.0 bank r second.0 first.1

-- the first row that is asked for, by the places of its key
pub asked_row : (ccy : Ccy) (bank : List ℕ) (day : Day) (rows : List SsiRow)
    → option_and_then (slice_get rows) (find (holds_at (is_asked ccy bank day) rows) (places_where (has_bank_key (key_by_bank ccy.0 bank)) 0 rows)) ≡ naming bank (filter (is_in_force ccy day) rows)
asked_row ccy bank day rows =
    first_item (has_bank_key (key_by_bank ccy.0 bank)) (is_asked ccy bank day) (λ r e. asked-key ccy bank day r e) rows ∙ sym (find-filter (λ r. bytes_eq bank r.bank) (is_in_force ccy day) rows)

module _ (groups : List (List ℕ × Vec ℕ)) (key : List ℕ) where
  -- the places that the index has for a key
  pub places-some : (v : Vec ℕ) → Some v ≡ lookup (bytes_eq key) groups → v.items ≡ places_under groups key
  places-some v e = ap (λ (o : Option (Vec ℕ)). option_map_or (λ x. x.items) o []) e

  -- it has none for a key that it has not
  pub places-none : None ≡ lookup (bytes_eq key) groups → [] ≡ places_under groups key
  places-none e = ap (λ (o : Option (Vec ℕ)). option_map_or (λ x. x.items) o []) e
