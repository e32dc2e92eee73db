-- What tests of parts tell.
use Rattle.std.proofs.Common.{◌≡◌, ℕ, ◌<◌, ◌==◌, ◌&&◌, Bool, true, false, refl, arith, ℤ}
use Rattle.std.specs.Prelude.{neg_ℤ}
use Rattle.std.specs.Ordering.{int_eq}
use Rattle.std.proofs.lemmas.Bool.Decides.{nat_tests}
use Rattle.std.proofs.lemmas.Int.{ints}

pub three : (a b c : Bool) → (a && (b && c)) ≡ true → (a ≡ true) × (b ≡ true) × (c ≡ true)
three true true true e = (refl, refl, refl)
three true true false e = absurd (cc e)
three true false c e = absurd (cc e)
three false b c e = absurd (cc e)

pub middle : (a b c : Bool) → (a && b && c) ≡ true → b ≡ true
middle true true c e = refl
middle true false c e = absurd (cc e)
middle false b c e = absurd (cc e)

pub three-true : (a b c : Bool) → a ≡ true → b ≡ true → c ≡ true → (a && (b && c)) ≡ true
three-true a b c e f g = rw (e, f, g) refl

pub int-same : (a b : ℤ) → int_eq a b ≡ true → a ≡ b
int-same a b e = grind (arith, ints)

pub int-alike : (a b : ℤ) → a ≡ b → int_eq a b ≡ true
int-alike a b e = grind (arith, ints)

pub neg-same : (a b : ℤ) → neg_ℤ a ≡ neg_ℤ b → a ≡ b
neg-same a b e = grind (arith, ints)

pub itself : (n : ℕ) → (n == n) ≡ true
itself n = grind (arith, nat_tests)

pub below : (m n : ℕ) → m < n → (m == n) ≡ false
below m n lt = grind (arith, nat_tests)

pub above : (m n : ℕ) → n < m → (m == n) ≡ false
above m n lt = grind (arith, nat_tests)

pub met : (m n : ℕ) → (m == n) ≡ true → m ≡ n
met m n e = grind (arith, nat_tests)
