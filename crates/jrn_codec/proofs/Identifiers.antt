-- Identifiers and days as fields.
use Rattle.std.proofs.Common.{◌≡◌, ℕ, ◌==◌, ◌||◌, ◌&&◌, Bool, true, cond, List, ◌++◌, length, take, drop, Some, None, refl, ap, subst, arith, ◌⊎◌, inl, inr}
use Rattle.std.specs.Prelude.{codes, ℤ, pos, negsuc, ◌≤ℤ◌, int_le, FitsSigned}
use Rattle.std.proofs.lemmas.Int.{ints}
use Rattle.std.specs.Char.{is_ascii_uppercase}
use Rattle.std.specs.List.{list_all}
use Rattle.std.specs.Int.{w32}
use Rattle.std.proofs.lemmas.Bool.Decides.{nat_tests}
use Rattle.std.proofs.lemmas.List.{length-append, length-take-le, take-append-drop}
use Rattle.corr_text.specs.Sets.{is_c_byte}
use Rattle.corr_ids.specs.declared.bic.Bic.{Bic}
use Rattle.corr_ids.specs.declared.mir.Mir.{Mir}
use Rattle.corr_ids.specs.declared.uetr.Uetr.{Uetr}
use Rattle.corr_ids.specs.declared.day.Day.{Day}
use Rattle.corr_ids.specs.Bic.{is_bic, branch_of, bic_of, IsBic}
use Rattle.corr_ids.specs.Mir.{is_mir, mir_of, IsMir}
use Rattle.corr_ids.specs.Uetr.{is_uetr, uetr_of, IsUetr}
use Rattle.corr_ids.specs.Day.{InCentury}
use Rattle.corr_ids.proofs.laws.Spelling.{some_if, bic-again}
use Rattle.jrn_codec.specs.Spelling.{bic_bytes}
use Rattle.jrn_codec.specs.Record.{day_bytes}
use Rattle.jrn_codec.specs.inner.Reading.{bic_at}
use Rattle.jrn_codec.specs.inner.RecordReading.{mir_at, uetr_at, day_at, in_century}
use Rattle.jrn_codec.proofs.Fields.{IsBytes, IsField, step, resume, tested, signed32_field}
use Rattle.jrn_codec.proofs.Parts.{spelled_field}

-- what a test of several parts asks first
either_long : (n : ℕ) (p q : Bool) → (((n == 8) || (n == 11)) && p && q) ≡ true → (n ≡ 8) ⊎ (n ≡ 11)
either_long n p q e = grind (arith, nat_tests)

first_of_four : (n k : ℕ) (p q r : Bool) → ((n == k) && p && q && r) ≡ true → n ≡ k
first_of_four n k p q r e = grind (arith, nat_tests)

first_of_two : (n k : ℕ) (p : Bool) → ((n == k) && p) ≡ true → n ≡ k
first_of_two n k p e = grind (arith, nat_tests)

-- ---- BICs

bic_long : (b : Bic) → IsBic b → length (b.head ++ b.branch) ≡ 11
unfolding is_bic
bic_long b h =
    let full : List ℕ = b.head ++ b.branch in
    let s = some_if (is_bic full) (record { head = take 8 full; branch = branch_of full }) b h in
    let head : take 8 full ≡ b.head = ap (λ x. x.head) s.1 in
    let tail : branch_of full ≡ b.branch = ap (λ x. x.branch) s.1 in
    let long : (length full ≡ 8) ⊎ (length full ≡ 11) = either_long (length full) (list_all is_ascii_uppercase (take 6 full)) (list_all is_c_byte (drop 6 full)) s.0 in
    elim long [
      | inl short ↦
          let none : codes "XXX" ≡ b.branch = rw short at tail in
          absurd (omega (arith, short, ap length head, ap length none, length-take-le 8 full, length-append b.head b.branch))
      | inr whole ↦ whole
    ]

bic_back : (bytes : List ℕ) (b : Bic) → length bytes ≡ 11 → bic_of bytes ≡ Some b → (bic_bytes b ≡ bytes) × IsBic b
bic_back bytes b len e =
    let s = some_if (is_bic bytes) (record { head = take 8 bytes; branch = branch_of bytes }) b e in
    let read : IsBic (record { head = take 8 bytes; branch = branch_of bytes }) = bic-again bytes s.0 in
    let whole : take 8 bytes ++ branch_of bytes ≡ bytes = rw len (take-append-drop 8 bytes) in
    subst (λ (x : Bic). (bic_bytes x ≡ bytes) × IsBic x) s.1 (whole, read)

pub bic_field : IsField bic_bytes bic_at IsBic
bic_field = spelled_field 11 bic_bytes bic_of IsBic (record { len = bic_long; again = λ b h. h; back = bic_back })

-- ---- references

mir_long : (m : Mir) → IsMir m → length m.0 ≡ 28
unfolding is_mir
mir_long m h = first_of_four (length m.0) 28 _ _ _ (some_if (is_mir m.0) (record { 0 = m.0 }) m h).0

mir_back : (bytes : List ℕ) (m : Mir) → length bytes ≡ 28 → mir_of bytes ≡ Some m → (m.0 ≡ bytes) × IsMir m
mir_back bytes m len e =
    let s = some_if (is_mir bytes) (record { 0 = bytes }) m e in
    subst (λ (x : Mir). (x.0 ≡ bytes) × IsMir x) s.1 (refl, rw s.0 refl)

pub mir_field : IsField (λ (m : Mir). m.0) mir_at IsMir
mir_field = spelled_field 28 (λ (m : Mir). m.0) mir_of IsMir (record { len = mir_long; again = λ m h. h; back = mir_back })

uetr_long : (u : Uetr) → IsUetr u → length u.0 ≡ 36
unfolding is_uetr
uetr_long u h = first_of_two (length u.0) 36 _ (some_if (is_uetr u.0) (record { 0 = u.0 }) u h).0

uetr_back : (bytes : List ℕ) (u : Uetr) → length bytes ≡ 36 → uetr_of bytes ≡ Some u → (u.0 ≡ bytes) × IsUetr u
uetr_back bytes u len e =
    let s = some_if (is_uetr bytes) (record { 0 = bytes }) u e in
    subst (λ (x : Uetr). (x.0 ≡ bytes) × IsUetr x) s.1 (refl, rw s.0 refl)

pub uetr_field : IsField (λ (u : Uetr). u.0) uetr_at IsUetr
uetr_field = spelled_field 36 (λ (u : Uetr). u.0) uetr_of IsUetr (record { len = uetr_long; again = λ u h. h; back = uetr_back })

-- ---- days

both : (p q : Bool) → (p && q) ≡ true → (p ≡ true) × (q ≡ true)
both p q e = grind (arith, nat_tests)

is_le : (y z : ℤ) → int_le y z ≡ true → y ≤ℤ z
is_le y z e = grind (arith, ints)

le_is : (y z : ℤ) → y ≤ℤ z → int_le y z ≡ true
le_is y z h = grind (arith, ints)

day_takes : (bytes : List ℕ) (d : Day) (rest : List ℕ) → IsBytes bytes → day_at bytes ≡ Some (d, rest) → (bytes ≡ day_bytes d ++ rest) × InCentury d
unfolding day_at
day_takes bytes d rest b e =
    let n = step signed32_field (λ n. cond (in_century (record { 0 = n.0 })) (Some (record { 0 = n.0 }, n.1)) None) bytes (d, rest) b e in
    let t = tested (in_century (record { 0 = n.value })) (record { 0 = n.value }, n.rest) (d, rest) n.on in
    let p = both (int_le (pos 3652) n.value) (int_le n.value (pos 40176)) t.0 in
    subst (λ (x : Day × List ℕ). (bytes ≡ day_bytes x.0 ++ x.1) × InCentury x.0) t.1 (n.parts, (is_le (pos 3652) n.value p.0, is_le n.value (pos 40176) p.1))

fits_between : (z : ℤ) → pos 3652 ≤ℤ z → z ≤ℤ pos 40176 → FitsSigned w32 z
fits_between (pos n) low high = record { sfits = omega (arith, ints) }
fits_between (negsuc n) low high = record { sfits = omega (arith, ints) }

day_fits : (d : Day) → InCentury d → FitsSigned w32 d.0
day_fits d h = fits_between d.0 h.0 h.1

day_again : (d : Day) (rest : List ℕ) → InCentury d → day_at (day_bytes d ++ rest) ≡ Some (d, rest)
unfolding day_at
day_again d rest h =
    resume signed32_field (λ n. cond (in_century (record { 0 = n.0 })) (Some (record { 0 = n.0 }, n.1)) None) d.0 rest (Some (d, rest)) (day_fits d h)
    (rw (le_is (pos 3652) d.0 h.0, le_is d.0 (pos 40176) h.1) refl)

pub day_field : IsField day_bytes day_at InCentury
day_field = record { takes = day_takes; again = day_again }
