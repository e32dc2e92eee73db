-- Fields: what is read is spelled so, and what is spelled so is read, whatever follows.
use Rattle.std.proofs.Common.{◌≡◌, ℕ, ◌+◌, ◌^◌, ◌<◌, ◌≤◌, ◌==◌, Bool, true, false, cond, ltb, List, [], ◌∷◌, ◌++◌, length, get_or, take, drop, Option, Some, None, refl, sym, ap, subst, ◌∙◌, append_assoc, arith, inl, inr}
use Rattle.std.specs.Prelude.{ℤ, pos, negsuc, FitsSigned, option_and_then}
use Rattle.std.specs.Int.{Width, w16, w32, w64, byte_len, from_be_bytes, to_be_bytes, cast_signed, cast_unsigned}
use Rattle.std.proofs.lemmas.Bool.{cases_lt, ltb-false, le-ltb, lt-ltb}
use Rattle.std.proofs.lemmas.Bool.Decides.{nat_tests}
use Rattle.std.proofs.lemmas.Option.{option_and_then_some, same_Some}
use Rattle.std.proofs.lemmas.Int.{to_z-of_z, of_z-to_z}
use Rattle.std.proofs.lemmas.List.{take_at, drop_at, take-append-drop, length-append, length-take, get_or-take, get_or_past, get_or-append-add}
use Rattle.std.proofs.lemmas.Nat.{be_bytes_2, be_bytes_4, be_bytes_8, from_be_bytes-to_be_bytes_2, from_be_bytes-to_be_bytes_4, from_be_bytes-to_be_bytes_8}
use Rattle.jrn_codec.specs.Spelling.{signed_bytes}
use Rattle.jrn_codec.specs.inner.Reading.{cut, byte_at, number_at, signed_at}

-- each is a byte
abbrev pub IsBytes : List ℕ → Type 0
IsBytes bytes = (i : ℕ) → get_or bytes i 0 < 256

IsBytes-take : (n : ℕ) (bytes : List ℕ) → IsBytes bytes → IsBytes (take n bytes)
IsBytes-take n bytes h i =
    elim (cases_lt i n) [
      | inl lt ↦ rw (get_or-take n bytes i 0 lt) (h i)
      | inr le ↦ rw (get_or_past (take n bytes) i 0 (omega (arith, length-take n bytes))) (omega arith)
    ]

-- what stands after a part of bytes
pub IsBytes-after : (bytes text rest : List ℕ) → bytes ≡ text ++ rest → IsBytes bytes → IsBytes rest
IsBytes-after bytes text rest e h i =
    let at : get_or bytes (length text + i) 0 ≡ get_or rest i 0 = ap (λ (b : List ℕ). get_or b (length text + i) 0) e ∙ get_or-append-add text rest i 0 in
    rw (← at) (h (length text + i))

-- of values that fit, spelling and reading undo one another
pub record IsField {A : Type 0} (spell : A → List ℕ) (read : List ℕ → Option (A × List ℕ)) (Fits : A → Type 0) : Type 0 where
  pub takes : (bytes : List ℕ) (x : A) (rest : List ℕ) → IsBytes bytes → read bytes ≡ Some (x, rest) → (bytes ≡ spell x ++ rest) × Fits x
  pub again : (x : A) (rest : List ℕ) → Fits x → read (spell x ++ rest) ≡ Some (x, rest)

-- a field in a row of steps: what it read, and what the steps after it made of that
pub record Step {A B : Type 0} (spell : A → List ℕ) (Fits : A → Type 0) (next : A × List ℕ → Option B) (bytes : List ℕ) (y : B) : Type 0 where
  pub value : A
  pub rest : List ℕ
  pub parts : bytes ≡ spell value ++ rest
  pub bytes_on : IsBytes rest
  pub fits : Fits value
  pub on : next (value, rest) ≡ Some y

pub step : {A B : Type 0} {spell : A → List ℕ} {read : List ℕ → Option (A × List ℕ)} {Fits : A → Type 0} → IsField spell read Fits → (next : A × List ℕ → Option B) (bytes : List ℕ) (y : B)
    → IsBytes bytes → option_and_then next (read bytes) ≡ Some y → Step spell Fits next bytes y
step {A} {B} {spell} {read} {Fits} field next bytes y b e =
    option_and_then_some next (read bytes) y e (λ x is on.
    let t = field.takes bytes x.0 x.1 b is in
    record { value = x.0; rest = x.1; parts = t.0; bytes_on = IsBytes-after bytes (spell x.0) x.1 t.0 b; fits = t.1; on = on })

-- the steps go on after a field that was spelled
pub resume : {A B : Type 0} {spell : A → List ℕ} {read : List ℕ → Option (A × List ℕ)} {Fits : A → Type 0} → IsField spell read Fits → (next : A × List ℕ → Option B) (x : A) (rest : List ℕ) (y : Option B)
    → Fits x → next (x, rest) ≡ y → option_and_then next (read (spell x ++ rest)) ≡ y
resume field next x rest y fits e = ap (option_and_then next) (field.again x rest fits) ∙ e

-- a test that must not hold
refused : {A : Type 0} (b : Bool) (x y : A) → cond b None (Some x) ≡ Some y → (b ≡ false) × (x ≡ y)
refused true x y e = absurd cc
refused false x y e = (refl, cc)

-- a greater number is another one
pub differs : (m n : ℕ) → n < m → (m == n) ≡ false
differs m n lt = grind (arith, nat_tests)

-- a test that must hold
pub tested : {A : Type 0} (b : Bool) (x y : A) → cond b (Some x) None ≡ Some y → (b ≡ true) × (x ≡ y)
tested true x y e = (refl, cc)
tested false x y e = absurd cc

-- parts, however they are grouped
pub joined5 : (a b c d e : List ℕ) → a ++ (b ++ (c ++ (d ++ e))) ≡ (a ++ b) ++ (c ++ d ++ e)
joined5 a b c d e = simp append_assoc

-- ---- bytes

cut_takes : (n : ℕ) (bytes text rest : List ℕ) → cut n bytes ≡ Some (text, rest) → (bytes ≡ text ++ rest) × (length text ≡ n)
cut_takes n bytes text rest e =
    let g = refused (ltb (length bytes) n) (take n bytes, drop n bytes) (text, rest) e in
    let long : n ≤ length bytes = ltb-false _ _ g.0 in
    let text-is : take n bytes ≡ text = ap (λ (p : List ℕ × List ℕ). p.0) g.1 in
    let rest-is : drop n bytes ≡ rest = ap (λ (p : List ℕ × List ℕ). p.1) g.1 in
    (rw (← text-is, ← rest-is) (sym (take-append-drop n bytes)), rw (← text-is) (omega (arith, length-take n bytes)))

cut_again : (n : ℕ) (text rest : List ℕ) → length text ≡ n → cut n (text ++ rest) ≡ Some (text, rest)
cut_again n text rest len =
    let long : ltb (length (text ++ rest)) n ≡ false = le-ltb _ _ (omega (arith, length-append text rest)) in
    rw (long, take_at text rest n len, drop_at text rest n len) refl

pub cut_field : (n : ℕ) → IsField (λ (text : List ℕ). text) (cut n) (λ (text : List ℕ). length text ≡ n)
cut_field n = record { takes = λ bytes text rest b e. cut_takes n bytes text rest e; again = λ text rest len. cut_again n text rest len }

byte_takes : (bytes : List ℕ) (x : ℕ) (rest : List ℕ) → IsBytes bytes → byte_at bytes ≡ Some (x, rest) → (bytes ≡ x ∷ rest) × (x < 256)
byte_takes [] x rest b e = absurd cc
byte_takes (c ∷ bytes) x rest b e =
    let same = same_Some (c, bytes) (x, rest) e in
    (ap (λ (p : ℕ × List ℕ). p.0 ∷ p.1) same, subst (λ (p : ℕ × List ℕ). p.0 < 256) same (b 0))

pub byte_field : IsField (λ (x : ℕ). x ∷ []) byte_at (λ (x : ℕ). x < 256)
byte_field = record { takes = byte_takes; again = λ x rest fits. refl }

-- ---- numbers

-- a width: how its numbers are spelled and read
pub record IsWide (w : Width) (limit : ℕ) : Type 0 where
  pub len : (n : ℕ) → length (to_be_bytes w n) ≡ byte_len w
  pub back : (bytes : List ℕ) → length bytes ≡ byte_len w → IsBytes bytes → to_be_bytes w (from_be_bytes w bytes) ≡ bytes
  pub again : (n : ℕ) → n < limit → from_be_bytes w (to_be_bytes w n) ≡ n
  pub below : (bytes : List ℕ) → IsBytes bytes → from_be_bytes w bytes < limit

pub wide16 : IsWide w16 (2 ^ 16)
wide16 = record {
  len = λ n. refl;
  back = λ bytes len fits. be_bytes_2 bytes _ len fits refl;
  again = λ n lt. from_be_bytes-to_be_bytes_2 n lt;
  below = λ bytes fits. omega (arith, fits 0, fits 1);
}

pub wide32 : IsWide w32 (2 ^ 32)
wide32 = record {
  len = λ n. refl;
  back = λ bytes len fits. be_bytes_4 bytes _ len fits refl;
  again = λ n lt. from_be_bytes-to_be_bytes_4 n lt;
  below = λ bytes fits. omega (arith, fits 0, fits 1, fits 2, fits 3);
}

pub wide64 : IsWide w64 (2 ^ 64)
wide64 = record {
  len = λ n. refl;
  back = λ bytes len fits. be_bytes_8 bytes _ len fits refl;
  again = λ n lt. from_be_bytes-to_be_bytes_8 n lt;
  below = λ bytes fits. omega (arith, fits 0, fits 1, fits 2, fits 3, fits 4, fits 5, fits 6, fits 7);
}

pub number_field : (w : Width) (limit : ℕ) → IsWide w limit → IsField (to_be_bytes w) (number_at w) (λ (n : ℕ). n < limit)
number_field w limit wide = record {
  takes = λ bytes n rest b e.
      let g = refused (ltb (length bytes) (byte_len w)) (from_be_bytes w (take (byte_len w) bytes), drop (byte_len w) bytes) (n, rest) e in
      let long : byte_len w ≤ length bytes = ltb-false _ _ g.0 in
      let n-is : from_be_bytes w (take (byte_len w) bytes) ≡ n = ap (λ (p : ℕ × List ℕ). p.0) g.1 in
      let rest-is : drop (byte_len w) bytes ≡ rest = ap (λ (p : ℕ × List ℕ). p.1) g.1 in
      let front : to_be_bytes w n ≡ take (byte_len w) bytes = rw (← n-is) (wide.back (take (byte_len w) bytes) (omega (arith, length-take (byte_len w) bytes)) (IsBytes-take (byte_len w) bytes b)) in
      (rw (front, ← rest-is) (sym (take-append-drop (byte_len w) bytes)), rw (← n-is) (wide.below (take (byte_len w) bytes) (IsBytes-take (byte_len w) bytes b)));
  again = λ n rest lt.
      let len = wide.len n in
      let long : ltb (length (to_be_bytes w n ++ rest)) (byte_len w) ≡ false = le-ltb _ _ (omega (arith, length-append (to_be_bytes w n) rest)) in
      rw (long, take_at (to_be_bytes w n) rest (byte_len w) len, drop_at (to_be_bytes w n) rest (byte_len w) len, wide.again n lt) refl;
}

pub field16 : IsField (to_be_bytes w16) (number_at w16) (λ (n : ℕ). n < 2 ^ 16)
field16 = number_field w16 (2 ^ 16) wide16

pub field32 : IsField (to_be_bytes w32) (number_at w32) (λ (n : ℕ). n < 2 ^ 32)
field32 = number_field w32 (2 ^ 32) wide32

pub field64 : IsField (to_be_bytes w64) (number_at w64) (λ (n : ℕ). n < 2 ^ 64)
field64 = number_field w64 (2 ^ 64) wide64

-- a width's signed numbers have bits below its limit, and the bits below it are signed numbers
record IsSigned (w : Width) (limit : ℕ) : Type 0 where
  bits : (z : ℤ) → FitsSigned w z → cast_unsigned w z < limit
  fits : (n : ℕ) → n < limit → FitsSigned w (cast_signed w n)
  back : (n : ℕ) → n < limit → cast_unsigned w (cast_signed w n) ≡ n

bits32 : (z : ℤ) → FitsSigned w32 z → cast_unsigned w32 z < 2 ^ 32
bits32 (pos n) h = omega (arith, h.sfits)
bits32 (negsuc n) h = omega (arith, h.sfits)

bits64 : (z : ℤ) → FitsSigned w64 z → cast_unsigned w64 z < 2 ^ 64
bits64 (pos n) h = omega (arith, h.sfits)
bits64 (negsuc n) h = omega (arith, h.sfits)

fits32 : (n : ℕ) → n < 2 ^ 32 → FitsSigned w32 (cast_signed w32 n)
fits32 n lt = elim (cases_lt n (2 ^ 31)) [
  | inl low ↦ rw (lt-ltb _ _ low) (record { sfits = low })
  | inr high ↦ rw (le-ltb _ _ high) (record { sfits = omega (arith, high, lt) })
]

fits64 : (n : ℕ) → n < 2 ^ 64 → FitsSigned w64 (cast_signed w64 n)
fits64 n lt = elim (cases_lt n (2 ^ 63)) [
  | inl low ↦ rw (lt-ltb _ _ low) (record { sfits = low })
  | inr high ↦ rw (le-ltb _ _ high) (record { sfits = omega (arith, high, lt) })
]

signed32 : IsSigned w32 (2 ^ 32)
signed32 = record { bits = bits32; fits = fits32; back = λ n lt. of_z-to_z w32 n lt }

signed64 : IsSigned w64 (2 ^ 64)
signed64 = record { bits = bits64; fits = fits64; back = λ n lt. of_z-to_z w64 n lt }

signed_field : (w : Width) (limit : ℕ) → IsSigned w limit → IsField (to_be_bytes w) (number_at w) (λ (n : ℕ). n < limit) → IsField (signed_bytes w) (signed_at w) (λ (z : ℤ). FitsSigned w z)
unfolding signed_at signed_bytes
signed_field w limit signed number = record {
  takes = λ bytes z rest b e.
      let a = step number (λ (n : ℕ × List ℕ). Some (cast_signed w n.0, n.1)) bytes (z, rest) b e in
      let text : bytes ≡ signed_bytes w (cast_signed w a.value) ++ a.rest = rw (signed.back a.value a.fits) a.parts in
      subst (λ (p : ℤ × List ℕ). (bytes ≡ signed_bytes w p.0 ++ p.1) × FitsSigned w p.0) (same_Some (cast_signed w a.value, a.rest) (z, rest) a.on)
      (text, signed.fits a.value a.fits);
  again = λ z rest fits.
      resume number (λ (n : ℕ × List ℕ). Some (cast_signed w n.0, n.1)) (cast_unsigned w z) rest (Some (z, rest)) (signed.bits z fits)
      (ap (λ (y : ℤ). Some (y, rest)) (to_z-of_z w z fits));
}

pub signed32_field : IsField (signed_bytes w32) (signed_at w32) (λ (z : ℤ). FitsSigned w32 z)
signed32_field = signed_field w32 (2 ^ 32) signed32 field32

pub signed64_field : IsField (signed_bytes w64) (signed_at w64) (λ (z : ℤ). FitsSigned w64 z)
signed64_field = signed_field w64 (2 ^ 64) signed64 field64
