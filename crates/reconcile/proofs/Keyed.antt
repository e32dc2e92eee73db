-- Texts that are made as long as a key wants keep what they say.
use Rattle.std.proofs.Common.{◌≡◌, ℕ, zero, suc, ◌+◌, ◌-◌, ◌<◌, ◌&&◌, Bool, true, false, List, ◌∷◌, ◌++◌, length, get_or, take, drop, replicate, refl, sym, ap, ◌∙◌, arith, ℤ}
use Rattle.std.specs.Prelude.{neg_ℤ}
use Rattle.std.specs.Ordering.{int_eq}
use Rattle.std.specs.Str.{bytes_eq}
use Rattle.std.proofs.lemmas.Int.{ints}
use Rattle.std.proofs.lemmas.List.{drop-replicate, take_at}
use Rattle.std.proofs.lemmas.Slice.Eq.{bytes_eq-Decides}
use Rattle.std.proofs.Math.ListN.{set}
use borrow.Rule.Slice.PartMut.{put_mid}
use Rattle.mt950.specs.Entry.{effect_of}
use Rattle.mt950.specs.declared.entry.Line61.{Line61}
use Rattle.statement.specs.Running.{placed_by}
use Rattle.statement.specs.declared.movement.Movement.{Movement}
use Rattle.reconcile.specs.inner.Keys.{is_key, key_of, short_of, taken_by}
use Rattle.reconcile.specs.Pairing.{matches, says_same}

pub same-truth : (p q : Bool) → (p ≡ true → q ≡ true) → (q ≡ true → p ≡ true) → p ≡ q
same-truth true q f g = sym (f refl)
same-truth false true f g = g refl
same-truth false false f g = refl

-- distinct texts are distinct so
pub short-same : (n : ℕ) (a b : List ℕ) → short_of n a ≡ short_of n b → a ≡ b
short-same n a b e =
    let rest : ℕ → List ℕ = λ k. replicate (n - 1 - k) 0 in
    let size : length a ≡ length b = ap (λ (xs : List ℕ). get_or xs 0 0) e in
    let tail : a ++ rest (length a) ≡ b ++ rest (length b) = ap (λ (xs : List ℕ). drop 1 xs) e in
    sym (take_at a (rest (length a)) (length a) refl) ∙ ap (take (length a)) tail ∙ take_at b (rest (length b)) (length a) (sym size)

pub short-eq : (n : ℕ) (a b : List ℕ) → bytes_eq (short_of n a) (short_of n b) ≡ bytes_eq a b
short-eq n a b =
    same-truth (bytes_eq (short_of n a) (short_of n b)) (bytes_eq a b)
    (λ e. (bytes_eq-Decides a b).1 (short-same n a b ((bytes_eq-Decides (short_of n a) (short_of n b)).0 e)))
    (λ e. (bytes_eq-Decides (short_of n a) (short_of n b)).1 (ap (short_of n) ((bytes_eq-Decides a b).0 e)))

neg-eq : (a b : ℤ) → int_eq (neg_ℤ a) (neg_ℤ b) ≡ int_eq a b
neg-eq a b = grind (arith, ints)

-- an entry has the key that a line takes just where they match
pub key-matches : (line : Line61) (m : Movement) → is_key (taken_by line) (key_of (placed_by m).line) ≡ matches line (placed_by m)
key-matches line m =
    ap (λ (b : Bool). int_eq (neg_ℤ (effect_of line)) (effect_of (placed_by m).line) && (int_eq line.value.0 m.value.0 && b)) (short-eq 17 line.reference m.reference)

-- two lines take the same key just where they say the same
pub key-same : (line other : Line61) → is_key (taken_by other) (taken_by line) ≡ says_same line other
key-same line other =
    ap (λ (b : Bool). int_eq (neg_ℤ (effect_of other)) (neg_ℤ (effect_of line)) && (int_eq other.value.0 line.value.0 && b)) (short-eq 17 other.reference line.reference)
    ∙ ap (λ (b : Bool). b && (int_eq other.value.0 line.value.0 && bytes_eq other.reference line.reference)) (neg-eq (effect_of other) (effect_of line))

-- a text after its length, with the zeros that were there
pub short-made : (n : ℕ) (text : List ℕ) → length text < n → put_mid 1 (length text + 1 - 1) (set (replicate n 0) 0 (length text)) text ≡ short_of n text
short-made zero text lt = absurd (omega (arith, lt))
short-made (suc m) text lt =
    let back : length text + 1 - 1 ≡ length text = omega arith in
    let spare : suc m - 1 - length text ≡ m - length text = omega arith in
    let zeros : drop (length text + 1 - 1) (replicate m 0) ≡ replicate (suc m - 1 - length text) 0 =
    ap (λ (k : ℕ). drop k (replicate m 0)) back ∙ drop-replicate (length text) m 0 ∙ ap (λ (k : ℕ). replicate k 0) (sym spare) in
    ap (λ (zs : List ℕ). length text ∷ text ++ zs) zeros
