-- A file that a stop cut, mended.
use Rattle.std.proofs.Common.{◌≡◌, ℕ, ◌+◌, Some, Bool, zero, suc, false, true, not, cond, List, [], ◌∷◌, ◌++◌, length, length-append, take, drop, slice_get, refl, sym, ap, subst, ◌∙◌, true≢false, arith}
use Rattle.std.specs.Prelude.{◌==◌, ◌||◌}
use Rattle.std.specs.List.{concat}
use Rattle.std.specs.Str.{bytes_eq}
use Rattle.std.proofs.lemmas.List.{append_assoc, append-nil, take-append-drop}
use Rattle.std.proofs.lemmas.Option.{none-some, same_Some, slice_get_within}
use Rattle.std.proofs.lemmas.Slice.Eq.{bytes_eq-Decides}
use Rattle.out_file.proofs.Standing.{any_joined, or_true}
use Rattle.out_file.specs.Mended.{messages_from, messages_of, stands_in, lacking, IsWhole, AreDistinct, CutsAreMended}

-- the bytes of a message that is begun, after all that end in these bytes
abbrev tail_from : List ℕ → List ℕ → List ℕ
tail_from begun [] = begun
tail_from begun (x ∷ xs) = cond (x == 36) (tail_from [] xs) (tail_from (begun ++ x ∷ []) xs)

joined_step : (t : Bool) (m u v ys : List ℕ) (a front b other : List (List ℕ)) → a ≡ front ++ messages_from u ys → b ≡ other ++ messages_from v ys
    → cond t (m ∷ a) b ≡ cond t (m ∷ front) other ++ messages_from (cond t u v) ys
joined_step true m u v ys a front b other ends goes_on = ap (λ ms. m ∷ ms) ends
joined_step false m u v ys a front b other ends goes_on = goes_on

joined : (begun xs ys : List ℕ) → messages_from begun (xs ++ ys) ≡ messages_from begun xs ++ messages_from (tail_from begun xs) ys
joined begun [] ys = refl
joined begun (x ∷ xs) ys =
    let next = begun ++ x ∷ [] in
    joined_step (x == 36) next (tail_from [] xs) (tail_from next xs) ys (messages_from [] (xs ++ ys)) (messages_from [] xs)
    (messages_from next (xs ++ ys)) (messages_from next xs) (joined [] xs ys) (joined next xs ys)

whole_step : (t : Bool) (m all u v : List ℕ) (a b : List (List ℕ)) → m ++ (concat a ++ u) ≡ all → concat b ++ v ≡ all → concat (cond t (m ∷ a) b) ++ cond t u v ≡ all
whole_step true m all u v a b ends goes_on = append_assoc m (concat a) u ∙ ends
whole_step false m all u v a b ends goes_on = goes_on

-- messages and what is begun after them are all bytes
whole_from : (begun xs : List ℕ) → concat (messages_from begun xs) ++ tail_from begun xs ≡ begun ++ xs
whole_from begun [] = sym (append-nil begun)
whole_from begun (x ∷ xs) =
    let next = begun ++ x ∷ [] in
    let longer : next ++ xs ≡ begun ++ x ∷ xs = append_assoc begun (x ∷ []) xs in
    whole_step (x == 36) next (begun ++ x ∷ xs) (tail_from [] xs) (tail_from next xs) (messages_from [] xs) (messages_from next xs)
    (ap (λ rest. next ++ rest) (whole_from [] xs) ∙ longer) (whole_from next xs ∙ longer)

none_long : (xs : List ℕ) → length xs ≡ 0 → xs ≡ []
none_long [] e = refl
none_long (x ∷ xs) e = absurd (omega (arith, e))

no_tail : (xs : List ℕ) → IsWhole xs → tail_from [] xs ≡ []
no_tail xs whole =
    let all = whole_from [] xs in
    none_long (tail_from [] xs) (omega (arith, ap length all, length-append (concat (messages_of xs)) (tail_from [] xs), ap length whole))

-- whole messages come before those of other bytes
after_whole : (xs ys : List ℕ) → IsWhole xs → messages_of (xs ++ ys) ≡ messages_of xs ++ messages_of ys
after_whole xs ys whole = joined [] xs ys ∙ ap (λ begun. messages_of xs ++ messages_from begun ys) (no_tail xs whole)

-- what is at a place stands there
stands_at : (all : List (List ℕ)) (i : ℕ) (m : List ℕ) → slice_get all i ≡ Some m → stands_in all m ≡ true
stands_at [] i m at = absurd (none-some m at)
stands_at (x ∷ all) zero m at = let same = (bytes_eq-Decides m x).1 (sym (same_Some x m at)) in ap (λ t. t || stands_in all m) same
stands_at (x ∷ all) (suc i) m at = or_true (bytes_eq m x) (stands_in all m) (stands_at all i m at)

place_step : (all : List (List ℕ)) (x m : List ℕ) (t : Bool) → bytes_eq m x ≡ t → (stands_in all m ≡ true → (i : ℕ) × (slice_get all i ≡ Some m))
    → (t || stands_in all m) ≡ true → (i : ℕ) × (slice_get (x ∷ all) i ≡ Some m)
place_step all x m true same rest there = (0, ap Some (sym ((bytes_eq-Decides m x).0 same)))
place_step all x m false other rest there = let found = rest there in (suc found.0, found.1)

-- a message that stands among others has a place there
place_of : (all : List (List ℕ)) (m : List ℕ) → stands_in all m ≡ true → (i : ℕ) × (slice_get all i ≡ Some m)
place_of [] m there = absurd (true≢false (sym there))
place_of (x ∷ all) m there = place_step all x m (bytes_eq m x) refl (place_of all m) there

in_front : (xs ys : List (List ℕ)) (i : ℕ) (m : List ℕ) → slice_get xs i ≡ Some m → slice_get (xs ++ ys) i ≡ Some m
in_front [] ys i m at = absurd (none-some m at)
in_front (x ∷ xs) ys zero m at = at
in_front (x ∷ xs) ys (suc i) m at = in_front xs ys i m at

in_back : (xs ys : List (List ℕ)) (i : ℕ) (m : List ℕ) → slice_get ys i ≡ Some m → slice_get (xs ++ ys) (length xs + i) ≡ Some m
in_back [] ys i m at =
    let same : 0 + i ≡ i = omega arith in
    subst (λ k. slice_get ys k ≡ Some m) (sym same) at
in_back (x ∷ xs) ys i m at =
    let same : suc (length xs) + i ≡ suc (length xs + i) = omega arith in
    subst (λ k. slice_get (x ∷ xs ++ ys) k ≡ Some m) (sym same) (in_back xs ys i m at)

-- those that stand among others are none of the lacking ones
none_lacks : (all ms : List (List ℕ)) → ((i : ℕ) (m : List ℕ) → slice_get ms i ≡ Some m → stands_in all m ≡ true) → lacking all ms ≡ []
none_lacks all [] each = refl
none_lacks all (m ∷ ms) each =
    ap (λ t. cond (not t) (m ∷ lacking all ms) (lacking all ms)) (each 0 m refl) ∙ none_lacks all ms (λ i n at. each (suc i) n at)

-- those that don't stand among others are all lacking
each_lacks : (all ms : List (List ℕ)) → ((i : ℕ) (m : List ℕ) → slice_get ms i ≡ Some m → stands_in all m ≡ false) → lacking all ms ≡ ms
each_lacks all [] each = refl
each_lacks all (m ∷ ms) each =
    ap (λ t. cond (not t) (m ∷ lacking all ms) (lacking all ms)) (each 0 m refl) ∙ ap (λ rest. m ∷ rest) (each_lacks all ms (λ i n at. each (suc i) n at))

lacking_step : (t : Bool) (x : List ℕ) (a b c : List (List ℕ)) → a ≡ b ++ c → cond (not t) (x ∷ a) a ≡ cond (not t) (x ∷ b) b ++ c
lacking_step true x a b c same = same
lacking_step false x a b c same = ap (λ rest. x ∷ rest) same

lacking_joined : (all xs ys : List (List ℕ)) → lacking all (xs ++ ys) ≡ lacking all xs ++ lacking all ys
lacking_joined all [] ys = refl
lacking_joined all (x ∷ xs) ys = lacking_step (stands_in all x) x (lacking all (xs ++ ys)) (lacking all xs) (lacking all ys) (lacking_joined all xs ys)

all_joined : (xs ys : List (List ℕ)) → concat (xs ++ ys) ≡ concat xs ++ concat ys
all_joined [] ys = refl
all_joined (x ∷ xs) ys = ap (λ rest. x ++ rest) (all_joined xs ys) ∙ sym (append_assoc x (concat xs) (concat ys))

-- of distinct messages those behind are none of those ahead
none_behind : (stood ahead behind : List (List ℕ)) → AreDistinct (ahead ++ behind)
    → ((i : ℕ) (m : List ℕ) → slice_get (ahead ++ behind) i ≡ Some m → stands_in stood m ≡ false)
    → (i : ℕ) (m : List ℕ) → slice_get behind i ≡ Some m → stands_in (stood ++ ahead) m ≡ false
none_behind stood ahead behind distinct new i m at =
    let place = in_back ahead behind i m at in
    any_joined (bytes_eq m) stood ahead ∙ ap (λ t. t || stands_in ahead m) (new (length ahead + i) m place) ∙ by (stands_in ahead m) refl
  where
    by : (t : Bool) → stands_in ahead m ≡ t → stands_in ahead m ≡ false
    by false is = is
    by true is =
        let there = place_of ahead m is in
        let same = distinct there.0 (length ahead + i) m (in_front ahead behind there.0 m there.1) (in_back ahead behind i m at) in
        absurd (omega (arith, same, slice_get_within ahead there.0 m there.1))

-- those that were written stand, and those that weren't are added
mends : (stood ahead behind : List (List ℕ)) → AreDistinct (ahead ++ behind)
    → ((i : ℕ) (m : List ℕ) → slice_get (ahead ++ behind) i ≡ Some m → stands_in stood m ≡ false)
    → concat (stood ++ ahead) ++ concat (lacking (stood ++ ahead) (ahead ++ behind)) ≡ concat stood ++ concat (ahead ++ behind)
mends stood ahead behind distinct new =
    let all = stood ++ ahead in
    let written = none_lacks all ahead (λ i m at. stands_at all (length stood + i) m (in_back stood ahead i m at)) in
    let others = each_lacks all behind (none_behind stood ahead behind distinct new) in
    let lack : lacking all (ahead ++ behind) ≡ behind = lacking_joined all ahead behind ∙ (λ k. written k ++ others k) in
    ap (λ ms. concat all ++ concat ms) lack ∙ sym (all_joined all behind) ∙ ap concat (append_assoc stood ahead behind) ∙ all_joined stood (ahead ++ behind)

pub cuts_are_mended : CutsAreMended
cuts_are_mended before sent k whole_before whole_sent distinct new =
    let ahead = messages_of (take k sent) in
    let behind = messages_from (tail_from [] (take k sent)) (drop k sent) in
    let parts : messages_of sent ≡ ahead ++ behind = ap messages_of (sym (take-append-drop k sent)) ∙ joined [] (take k sent) (drop k sent) in
    let stands = after_whole before (take k sent) whole_before in
    (λ i. concat (stands i) ++ concat (lacking (stands i) (parts i)))
    ∙ mends (messages_of before) ahead behind (subst AreDistinct parts distinct) (subst (λ ms. (i : ℕ) (m : List ℕ) → slice_get ms i ≡ Some m → stands_in (messages_of before) m ≡ false) parts new)
    ∙ ap (λ bytes. bytes ++ concat (ahead ++ behind)) whole_before ∙ ap (λ ms. before ++ concat ms) (sym parts) ∙ ap (λ bytes. before ++ bytes) whole_sent
