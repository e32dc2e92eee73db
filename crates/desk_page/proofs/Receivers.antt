-- Receivers and types that are the same.
use Rattle.std.proofs.Common.{◌≡◌, ◌==◌, ◌&&◌, Bool, true, false, ℕ, refl, arith}
use Rattle.std.specs.Str.{bytes_eq}
use Rattle.std.proofs.lemmas.Bool.Decides.{nat_tests}
use Rattle.std.proofs.lemmas.Slice.Eq.{bytes_eq-Decides}
use Rattle.desk_page.specs.declared.leaving.Kind.{Kind}
use Rattle.desk_page.specs.Leaving.{is_same_kind}

three : (a b c : Bool) → (a && (b && c)) ≡ true → (a ≡ true) × (b ≡ true) × (c ≡ true)
three true true true e = (refl, refl, refl)
three true true false e = absurd (cc e)
three true false c e = absurd (cc e)
three false b c e = absurd (cc e)

met : (m n : ℕ) → (m == n) ≡ true → m ≡ n
met m n e = grind (arith, nat_tests)

alike : (n : ℕ) → (n == n) ≡ true
alike n = grind (arith, nat_tests)

pub same : (a b : Kind) → is_same_kind a b ≡ true → a ≡ b
same a b e =
    let parts = three (bytes_eq a.head b.head) (bytes_eq a.branch b.branch) (a.mt == b.mt) e in
    let head = (bytes_eq-Decides a.head b.head).0 parts.0 in
    let branch = (bytes_eq-Decides a.branch b.branch).0 parts.1 in
    let mt = met a.mt b.mt parts.2 in
    λ i. record { head = head i; branch = branch i; mt = mt i }

pub itself : (a : Kind) → is_same_kind a a ≡ true
itself a = rw ((bytes_eq-Decides a.head a.head).1 refl, (bytes_eq-Decides a.branch a.branch).1 refl, alike a.mt) refl
