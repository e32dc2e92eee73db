-- Records by their numbers, and their packets.
use Rattle.std.proofs.Common.{◌≡◌, All, ℕ, suc, ◌+◌, ◌-◌, ◌<◌, ◌≤◌, List, [], ◌∷◌, ◌++◌, length, take, drop, get_or, sym, ap, ◌∙◌, subst, arith, length-drop}
use Rattle.std.specs.Prelude.{slice_get, Some}
use Rattle.std.proofs.lemmas.List.{get_or-drop, length-take-le, take_all, take_more}
use Rattle.std.proofs.lemmas.Option.{get_or_from_slice_get, slice_get_within}
use Rattle.standby.specs.Packets.{packet_of, packets_from, packets_of}

-- the header has number 1
pub first_at : (head : List ℕ) (records : List (List ℕ)) (n : ℕ) → n ≡ 1 → slice_get (head ∷ records) (n - 1) ≡ Some head
first_at head records n is = let zero_th : n - 1 ≡ 0 = omega (arith, is) in ap (λ (k : ℕ). slice_get (head ∷ records) k) zero_th

-- and the others stand behind it
pub later_at : (head : List ℕ) (records : List (List ℕ)) (n : ℕ) (r : List ℕ) → 2 ≤ n → slice_get records (n - 2) ≡ Some r → slice_get (head ∷ records) (n - 1) ≡ Some r
later_at head records n r two there =
    let place : n - 1 ≡ suc (n - 2) = omega (arith, two) in
    ap (λ (k : ℕ). slice_get (head ∷ records) k) place ∙ there

-- a record with a number is as short as they all are
pub short-at : (records : List (List ℕ)) (n most : ℕ) (r : List ℕ) → All (λ (x : List ℕ). length x ≤ most) records → slice_get records n ≡ Some r → length r ≤ most
short-at records n most r all there =
    subst (λ (x : List ℕ). length x ≤ most) (get_or_from_slice_get records n r r there) (all n r (slice_get_within records n r there))

packets-append : (number : ℕ) (xs ys : List (List ℕ)) → packets_from number (xs ++ ys) ≡ packets_from number xs ++ packets_from (number + length xs) ys
packets-append number [] ys = let same : number ≡ number + 0 = omega arith in ap (λ (n : ℕ). packets_from n ys) same
packets-append number (x ∷ xs) ys =
    let same : number + 1 + length xs ≡ number + length (x ∷ xs) = omega arith in
    ap (λ (l : List (List ℕ)). packet_of number x ∷ l)
    (packets-append (number + 1) xs ys ∙ ap (λ (n : ℕ). packets_from (number + 1) xs ++ packets_from n ys) same)

-- the packets up to a number
abbrev pub packets_to : List (List ℕ) → ℕ → ℕ → List (List ℕ)
packets_to records from number = packets_from from (take (number - from) (drop (from - 1) records))

-- before the first
pub none-yet : (records : List (List ℕ)) (from : ℕ) → packets_to records from from ≡ []
none-yet records from = let zero_of : from - from ≡ 0 = omega arith in ap (λ (n : ℕ). packets_from from (take n (drop (from - 1) records))) zero_of

-- with one more
pub one-more : (records : List (List ℕ)) (from number : ℕ) (r : List ℕ) → 1 ≤ from → from ≤ number → slice_get records (number - 1) ≡ Some r
    → packets_to records from (number + 1) ≡ packets_to records from number ++ packet_of number r ∷ []
one-more records from number r first since there =
    let rest = drop (from - 1) records in
    let k = number - from in
    let within : number - 1 < length records = slice_get_within records (number - 1) r there in
    let inside : k < length rest = omega (arith, within, length-drop (from - 1) records, first, since) in
    let place : from - 1 + k ≡ number - 1 = omega (arith, first, since) in
    let is : get_or rest k r ≡ r = get_or-drop (from - 1) records k r ∙ ap (λ (n : ℕ). get_or records n r) place ∙ get_or_from_slice_get records (number - 1) r r there in
    let grown : take (number + 1 - from) rest ≡ take k rest ++ r ∷ [] =
    (let count : number + 1 - from ≡ k + 1 = omega (arith, since) in ap (λ (n : ℕ). take n rest) count) ∙ take_more rest k r inside ∙ ap (λ (x : List ℕ). take k rest ++ x ∷ []) is in
    let long : length (take k rest) ≡ k = length-take-le k rest (omega (arith, inside)) in
    let next : from + length (take k rest) ≡ number = omega (arith, long, since) in
    ap (λ (l : List (List ℕ)). packets_from from l) grown
    ∙ packets-append from (take k rest) (r ∷ [])
    ∙ ap (λ (n : ℕ). packets_from from (take k rest) ++ packets_from n (r ∷ [])) next

-- where there are no more records
pub all-there : (records : List (List ℕ)) (from number until : ℕ) → 1 ≤ from → from ≤ number → number ≤ until + 1 → length records < number
    → packets_to records from number ≡ packets_of records from until
all-there records from number until first since most few =
    let rest = drop (from - 1) records in
    let short : length rest ≤ number - from = omega (arith, few, length-drop (from - 1) records, first, since) in
    let one : take (number - from) rest ≡ rest = take_all (number - from) rest short in
    let other : take (until + 1 - from) rest ≡ rest = take_all (until + 1 - from) rest (omega (arith, short, most, since)) in
    ap (λ (l : List (List ℕ)). packets_from from l) (one ∙ sym other)

-- at the end
pub to-the-end : (records : List (List ℕ)) (from number until : ℕ) → number ≡ until + 1 → packets_to records from number ≡ packets_of records from until
to-the-end records from number until is = ap (λ (n : ℕ). packets_from from (take (n - from) (drop (from - 1) records))) is
