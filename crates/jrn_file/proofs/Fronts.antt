-- How many calls make a journal, by what stands in front.
use Rattle.std.specs.Prelude.{Bool, Option}
use Rattle.std.proofs.Common.{◌≡◌, ℕ, ◌+◌, ◌-◌, ◌<◌, ◌≤◌, List, [], ◌∷◌, length, get_or, take, refl, sym, ◌∙◌, ap, subst, arith}
use Rattle.std.specs.Int.{div_ceil}
use Rattle.std.specs.Prelude.{◌==◌}
use Rattle.std.proofs.lemmas.Bool.{cond_both}
use Rattle.corr_disk.specs.Calls.{CallsMade, AtMostCalls}
use Rattle.corr_disk.proofs.laws.Counted.{at_most_weaker, calls_in_turn, calls_then}
use Rattle.jrn_file.specs.declared.making.Front.{Front}
use Rattle.jrn_file.specs.declared.making.Front.TheVariants.{Short, Closed}
use Rattle.jrn_file.specs.Making.{calls_to_make, calls_to_make_with}
use Rattle.jrn_file.specs.inner.Making.{IsFront, calls_to_look}

pub short-calls : (bytes : List ℕ) → length bytes ≤ 1 → calls_to_make bytes ≡ 7
short-calls [] short = refl
short-calls (a ∷ []) short = refl
short-calls (a ∷ b ∷ bytes) short = absurd (omega (arith, short))

pub closed-calls : (bytes : List ℕ) → 1 < length bytes → take 1 bytes ≡ 0 ∷ [] → calls_to_make bytes ≡ 6
closed-calls [] more closed = absurd (omega (arith, more))
closed-calls (a ∷ []) more closed = absurd (omega (arith, more))
closed-calls (a ∷ b ∷ bytes) more closed =
    subst (λ k. calls_to_make (k ∷ b ∷ bytes) ≡ 6) (sym (ap (λ (l : List ℕ). get_or l 0 0) closed)) refl

module _ (bytes : List ℕ) (front : Front) (shown : IsFront front bytes) (old mid new : ℕ → Option Bool) (looked : CallsMade (calls_to_look front) old mid) where
  -- a closed gate, after which the header is entered
  pub closed-within : front ≡ Closed → AtMostCalls 4 mid new → AtMostCalls (calls_to_make bytes) old new
  closed-within is entered =
      let closed : IsFront Closed bytes = subst (λ f. IsFront f bytes) is shown in
      calls_then 2 4 (calls_to_make bytes) old mid new (subst (λ f. CallsMade (calls_to_look f) old mid) is looked) entered
      (omega (arith, closed-calls bytes closed.0 closed.1))

  -- at most one byte, for which a gate is written first
  pub short-within : front ≡ Short → AtMostCalls 6 mid new → AtMostCalls (calls_to_make bytes) old new
  short-within is entered =
      let short : IsFront Short bytes = subst (λ f. IsFront f bytes) is shown in
      calls_then 1 6 (calls_to_make bytes) old mid new (subst (λ f. CallsMade (calls_to_look f) old mid) is looked) entered
      (omega (arith, short-calls bytes short))

five : (n : ℕ) → 2 + (n + 3) ≡ 5 + n
five n = omega arith

six : (n : ℕ) → 1 + (2 + (n + 3)) ≡ 6 + n
six n = omega arith

same : (n : ℕ) → 2 + n ≤ 2 + n
same n = omega arith

one-more : (n : ℕ) → 1 + (2 + n) ≤ 1 + (2 + n)
one-more n = omega arith

-- The same with records, of a journal of so many bytes in pieces of so many.
module _ (piece size : ℕ) where
  abbrev behind : ℕ
  behind = div_ceil (size - 1) piece

  short-with : (bytes : List ℕ) → length bytes ≤ 1 → calls_to_make_with piece size bytes ≡ 6 + behind
  short-with [] short = refl
  short-with (a ∷ []) short = refl
  short-with (a ∷ b ∷ bytes) short = absurd (omega (arith, short))

  closed-with : (bytes : List ℕ) → 1 < length bytes → take 1 bytes ≡ 0 ∷ [] → calls_to_make_with piece size bytes ≡ 5 + behind
  closed-with [] more closed = absurd (omega (arith, more))
  closed-with (a ∷ []) more closed = absurd (omega (arith, more))
  closed-with (a ∷ b ∷ bytes) more closed =
      subst (λ k. calls_to_make_with piece size (k ∷ b ∷ bytes) ≡ 5 + behind) (sym (ap (λ (l : List ℕ). get_or l 0 0) closed)) refl

  two-with : (n : ℕ) (bytes : List ℕ) → n ≡ behind → 2 ≤ calls_to_make_with piece size bytes
  two-with n [] is = subst (λ k. 2 ≤ 6 + k) is (omega arith)
  two-with n (a ∷ []) is = subst (λ k. 2 ≤ 6 + k) is (omega arith)
  two-with n (a ∷ b ∷ bytes) is =
      cond_both (a == 0) (5 + behind) 2 (λ (k : ℕ). 2 ≤ k) (λ closed. subst (λ k. 2 ≤ 5 + k) is (omega arith)) (λ other. omega arith)

  module _ (bytes : List ℕ) (old mid new : ℕ → Option Bool) where
    -- a look alone
    pub looked-within : AtMostCalls 2 old new → AtMostCalls (calls_to_make_with piece size bytes) old new
    looked-within looked = at_most_weaker 2 (calls_to_make_with piece size bytes) old new looked (two-with behind bytes refl)

    module _ (front : Front) (shown : IsFront front bytes) (looked : CallsMade (calls_to_look front) old mid) where
      closed-front : front ≡ Closed → IsFront Closed bytes
      closed-front is = subst (λ f. IsFront f bytes) is shown

      short-front : front ≡ Short → IsFront Short bytes
      short-front is = subst (λ f. IsFront f bytes) is shown

      -- a closed gate, behind which the records are written
      pub closed-filling : front ≡ Closed → AtMostCalls (behind + 3) mid new → AtMostCalls (calls_to_make_with piece size bytes) old new
      closed-filling is filled =
          let total : 2 + (behind + 3) ≡ calls_to_make_with piece size bytes = five behind ∙ sym (closed-with bytes (closed-front is).0 (closed-front is).1) in
          subst (λ k. AtMostCalls k old new) total
          (calls_then 2 (behind + 3) (2 + (behind + 3)) old mid new (subst (λ f. CallsMade (calls_to_look f) old mid) is looked) filled (same (behind + 3)))

      pub closed-filled : front ≡ Closed → CallsMade (behind + 3) mid new → CallsMade (calls_to_make_with piece size bytes) old new
      closed-filled is filled =
          let total : 2 + (behind + 3) ≡ calls_to_make_with piece size bytes = five behind ∙ sym (closed-with bytes (closed-front is).0 (closed-front is).1) in
          subst (λ k. CallsMade k old new) total (calls_in_turn 2 (behind + 3) old mid new (subst (λ f. CallsMade (calls_to_look f) old mid) is looked) filled)

      -- at most one byte, for which a gate is written first
      pub short-filling : front ≡ Short → AtMostCalls (2 + (behind + 3)) mid new → AtMostCalls (calls_to_make_with piece size bytes) old new
      short-filling is filled =
          let total : 1 + (2 + (behind + 3)) ≡ calls_to_make_with piece size bytes = six behind ∙ sym (short-with bytes (short-front is)) in
          subst (λ k. AtMostCalls k old new) total
          (calls_then 1 (2 + (behind + 3)) (1 + (2 + (behind + 3))) old mid new (subst (λ f. CallsMade (calls_to_look f) old mid) is looked) filled (one-more (behind + 3)))

      pub short-filled : front ≡ Short → CallsMade (2 + (behind + 3)) mid new → CallsMade (calls_to_make_with piece size bytes) old new
      short-filled is filled =
          let total : 1 + (2 + (behind + 3)) ≡ calls_to_make_with piece size bytes = six behind ∙ sym (short-with bytes (short-front is)) in
          subst (λ k. CallsMade k old new) total (calls_in_turn 1 (2 + (behind + 3)) old mid new (subst (λ f. CallsMade (calls_to_look f) old mid) is looked) filled)
