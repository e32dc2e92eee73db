-- The place r * n + k of the job at place r of hand k, where n hands are dealt in turn.
use Rattle.std.proofs.Common.{◌≡◌, ◌<◌, ◌+◌, ◌*◌, ◌/◌, ◌%◌, ℕ, sym, ◌∙◌}
use Rattle.std.proofs.lemmas.Nat.{div-add-mod', mod_below, same_from_place}

-- each place is that of its quotient and its remainder
pub place_of : (i n : ℕ) → i / n * n + i % n ≡ i
place_of i n = div-add-mod' i n

-- and of no others
pub place_only : (i n r k : ℕ) → 0 < n → k < n → r * n + k ≡ i → (r ≡ i / n) × (k ≡ i % n)
place_only i n r k some below is = same_from_place r k (i / n) (i % n) n below (mod_below i n some) (is ∙ sym (place_of i n))
