-- Identifiers that were read are read again as they are spelled in full.
use Rattle.std.proofs.Common.{◌≡◌, ℕ, ◌≤◌, ◌==◌, ◌||◌, ◌&&◌, Bool, true, false, cond, List, ◌∷◌, ◌++◌, length, take, drop, get_or, Some, None, refl, sym, ap, ◌∙◌, arith, ◌⊎◌, inl, inr, is_some}
use Rattle.std.specs.Prelude.{codes}
use Rattle.std.specs.Char.{is_ascii_uppercase, is_ascii_digit}
use Rattle.std.specs.List.{list_all}
use Rattle.std.specs.Str.{bytes_eq}
use Rattle.std.proofs.lemmas.Bool.{cases_Bool, eqb-true}
use Rattle.std.proofs.lemmas.Bool.Decides.{nat_tests}
use Rattle.std.proofs.lemmas.List.{length-append, length-take-le, length-drop, take_all, take_at, drop_at, take-append-drop, take-append-le, drop-append-le, drop_more, drop-drop, get_or_at}
use Rattle.std.proofs.lemmas.Slice.Eq.{bytes_eq-Decides}
use Rattle.std.proofs.lemmas.List.Folds.{list_all-append}
use Rattle.corr_text.specs.Sets.{is_c_byte}
use Rattle.corr_ids.specs.declared.bic.Bic.{Bic}
use Rattle.corr_ids.specs.declared.address.LtAddress.{LtAddress}
use Rattle.corr_ids.specs.declared.mir.Mir.{Mir}
use Rattle.corr_ids.specs.Bic.{is_bic, branch_of, bic_of, bic_text, IsBic}
use Rattle.corr_ids.specs.Address.{is_lt, address_of, bank_of, lt_text, IsLt}
use Rattle.corr_ids.specs.Mir.{is_mir, IsMir, sender_text}
use Rattle.corr_ids.specs.Day.{day_of}

-- what is given only if a test holds and is given: the test holds, and it is that value
pub some_if : {A : Type 0} (t : Bool) (x y : A) → cond t (Some x) None ≡ Some y → (t ≡ true) × (x ≡ y)
some_if true x y e = (refl, cc e)
some_if false x y e = absurd (cc e)

-- a test of four parts that holds
and_parts : (a b c d : Bool) → (a && b && c && d) ≡ true → (a ≡ true) × (b ≡ true) × (c ≡ true) × (d ≡ true)
and_parts a b c d e = grind (arith, nat_tests)

and_parts2 : (a b : Bool) → (a && b) ≡ true → (a ≡ true) × (b ≡ true)
and_parts2 a b e = grind (arith, nat_tests)

and_parts3 : (a b c : Bool) → (a && b && c) ≡ true → (a ≡ true) × (b ≡ true) × (c ≡ true)
and_parts3 a b c e = grind (arith, nat_tests)

-- six letters and two of C, then three of C, are a BIC
bic_from : (head branch : List ℕ) → length head ≡ 8 → length branch ≡ 3 → list_all is_ascii_uppercase (take 6 head) ≡ true → list_all is_c_byte (drop 6 head) ≡ true → list_all is_c_byte branch ≡ true → IsBic (record { head = head; branch = branch })
unfolding is_bic
bic_from head branch eight three letters rest more =
    let low : 6 ≤ length head = omega arith in
    let long : length (head ++ branch) ≡ 11 = omega (arith, length-append head branch) in
    rw (long, take-append-le 6 head branch low, drop-append-le 6 head branch low, list_all-append is_c_byte (drop 6 head) branch, letters, rest, more, take_at head branch 8 eight, drop_at head branch 8 eight) refl

-- a BIC that was read meets its grammar
pub bic-again : (line : List ℕ) → is_bic line ≡ true → IsBic (record { head = take 8 line; branch = branch_of line })
unfolding is_bic
bic-again line h =
    let p = and_parts3 ((length line == 8) || (length line == 11)) (list_all is_ascii_uppercase (take 6 line)) (list_all is_c_byte (drop 6 line)) h in
    elim (cases_Bool (length line == 8)) [
      | inl eight ↦
          let len : length line ≡ 8 = grind (arith, nat_tests) in
          rw (eight, take_all 8 line (omega arith)) (bic_from line (codes "XXX") len refl p.1 p.2 refl)
      | inr other ↦
          let len : length line ≡ 11 = grind (arith, nat_tests) in
          rw (other, take-append-drop 8 line, h, other) refl
    ]

-- what a BIC's grammar asks of its parts
record BicParts (b : Bic) : Type 0 where
  eight : length b.head ≡ 8
  three : length b.branch ≡ 3
  letters : list_all is_ascii_uppercase (take 6 b.head) ≡ true
  rest : list_all is_c_byte (drop 6 b.head) ≡ true
  branch : list_all is_c_byte b.branch ≡ true

bic-parts : (b : Bic) → IsBic b → BicParts b
unfolding is_bic
bic-parts b h =
    let full : List ℕ = b.head ++ b.branch in
    let s = some_if (is_bic full) (record { head = take 8 full; branch = branch_of full }) b h in
    let p = and_parts3 ((length full == 8) || (length full == 11)) (list_all is_ascii_uppercase (take 6 full)) (list_all is_c_byte (drop 6 full)) s.0 in
    let head : take 8 full ≡ b.head = ap (λ x. x.head) s.1 in
    let tail : branch_of full ≡ b.branch = ap (λ x. x.branch) s.1 in
    let long : (length full ≡ 8) ⊎ (length full ≡ 11) = grind (arith, nat_tests) in
    let eight : length b.head ≡ 8 = omega (arith, ap length head, length-take-le 8 full, long) in
    let low : 6 ≤ length b.head = omega arith in
    let rest : list_all is_c_byte (drop 6 b.head ++ b.branch) ≡ true = rw (drop-append-le 6 b.head b.branch low) at p.2 in
    let both : (list_all is_c_byte (drop 6 b.head) && list_all is_c_byte b.branch) ≡ true = sym (list_all-append is_c_byte (drop 6 b.head) b.branch) ∙ rest in
    let q = and_parts2 (list_all is_c_byte (drop 6 b.head)) (list_all is_c_byte b.branch) both in
    let three : length b.branch ≡ 3 = elim long [
      | inl short ↦ let none : codes "XXX" ≡ b.branch = rw short at tail in sym (ap length none)
      | inr whole ↦ omega (arith, whole, eight, length-append b.head b.branch)
    ] in
    record { eight = eight; three = three; letters = rw (take-append-le 6 b.head b.branch low) at p.1; rest = q.0; branch = q.1 }

-- and is read again as it is printed
short-again : (b : Bic) → IsBic b → b.branch ≡ codes "XXX" → bic_of b.head ≡ Some b
unfolding is_bic
short-again b h short =
    let p = bic-parts b h in
    rw (p.eight, p.letters, p.rest, take_all 8 b.head (omega (arith, p.eight)), ← short) refl

-- a BIC as it is printed is read as itself
pub bic-printed : (b : Bic) → IsBic b → bic_of (bic_text b) ≡ Some b
bic-printed b h =
    elim (cases_Bool (bytes_eq b.branch (codes "XXX"))) [
      | inl short ↦ rw short (short-again b h ((bytes_eq-Decides b.branch (codes "XXX")).0 short))
      | inr long ↦ rw long h
    ]

-- twelve bytes are the parts that they are cut into
cut : (bs : List ℕ) → length bs ≡ 12 → take 8 bs ++ get_or bs 8 0 ∷ drop 9 bs ≡ bs
cut bs len = rw (← drop_more bs 8 0 (omega arith)) (take-append-drop 8 bs)

-- an address that was read meets its grammar
pub lt-again : (bs : List ℕ) → is_lt bs ≡ true → IsLt (address_of bs)
unfolding is_lt
lt-again bs h =
    let p = and_parts3 (length bs == 12) (list_all is_ascii_uppercase (take 6 bs)) (list_all is_c_byte (drop 6 bs)) h in
    let len : length bs ≡ 12 = eqb-true (length bs) 12 p.0 in
    rw (cut bs len, len, p.1, p.2) refl

-- and so does its bank
pub lt-bank : (bs : List ℕ) → is_lt bs ≡ true → IsBic (bank_of (address_of bs))
unfolding is_lt
lt-bank bs h =
    let p = and_parts3 (length bs == 12) (list_all is_ascii_uppercase (take 6 bs)) (list_all is_c_byte (drop 6 bs)) h in
    let len : length bs ≡ 12 = eqb-true (length bs) 12 p.0 in
    let eight : length (take 8 bs) ≡ 8 = length-take-le 8 bs (omega arith) in
    let three : length (drop 9 bs) ≡ 3 = omega (arith, length-drop 9 bs) in
    let last = get_or bs 8 0 ∷ drop 9 bs in
    let parts : take 8 bs ++ last ≡ bs = cut bs len in
    let letters : list_all is_ascii_uppercase (take 6 (take 8 bs)) ≡ true = sym (ap (λ x. list_all is_ascii_uppercase x) (take-append-le 6 (take 8 bs) last (omega arith))) ∙ ap (λ x. list_all is_ascii_uppercase (take 6 x)) parts ∙ p.1 in
    let rest : list_all is_c_byte (drop 6 (take 8 bs) ++ last) ≡ true = sym (ap (λ x. list_all is_c_byte x) (drop-append-le 6 (take 8 bs) last (omega arith))) ∙ ap (λ x. list_all is_c_byte (drop 6 x)) parts ∙ p.2 in
    let both : (list_all is_c_byte (drop 6 (take 8 bs)) && list_all is_c_byte last) ≡ true = sym (list_all-append is_c_byte (drop 6 (take 8 bs)) last) ∙ rest in
    let q = and_parts2 (list_all is_c_byte (drop 6 (take 8 bs))) (list_all is_c_byte last) both in
    let r = and_parts2 (is_c_byte (get_or bs 8 0)) (list_all is_c_byte (drop 9 bs)) q.1 in
    bic_from (take 8 bs) (drop 9 bs) eight three letters q.0 r.1

-- a bank's terminal, a capital letter or a digit, has an address that is read again as it is spelled
pub terminal-again : (b : Bic) (terminal : ℕ) → IsBic b → is_c_byte terminal ≡ true → IsLt (record { head = b.head; lt = terminal; branch = b.branch })
unfolding is_lt
terminal-again b terminal h c =
    let p = bic-parts b h in
    let last : List ℕ = terminal ∷ b.branch in
    let low : 6 ≤ length b.head = omega (arith, p.eight) in
    let long : length (b.head ++ last) ≡ 12 = omega (arith, p.eight, p.three, length-append b.head last) in
    let after : drop 9 (b.head ++ last) ≡ b.branch = sym (drop-drop 1 8 (b.head ++ last)) ∙ ap (drop 1) (drop_at b.head last 8 p.eight) in
    rw (
      long,
      take-append-le 6 b.head last low,
      drop-append-le 6 b.head last low,
      list_all-append is_c_byte (drop 6 b.head) last,
      p.letters,
      p.rest,
      c,
      p.branch,
      take_at b.head last 8 p.eight,
      get_or_at b.head terminal b.branch 0 8 p.eight,
      after,
    ) refl

-- the text of a terminal's address has the form of one
pub lt-form : (a : LtAddress) → IsLt a → is_lt (lt_text a) ≡ true
lt-form a h = (some_if (is_lt (lt_text a)) (address_of (lt_text a)) a h).0

-- what stands after a reference's date is an address
pub mir-sender : (bs : List ℕ) → is_mir bs ≡ true → is_lt (sender_text bs) ≡ true
unfolding is_mir
mir-sender bs h =
    (and_parts (length bs == 28) (is_some (day_of (take 6 bs))) (is_lt (sender_text bs)) (list_all is_ascii_digit (drop 18 bs)) h).2

-- a reference has the form of one
pub mir-form : (m : Mir) → IsMir m → is_mir m.0 ≡ true
mir-form m h = (some_if (is_mir m.0) m m h).0
