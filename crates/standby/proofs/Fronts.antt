-- Bytes that begin with a packet.
use Rattle.std.proofs.Common.{◌≡◌, ℕ, zero, suc, ◌+◌, ◌-◌, ◌<◌, ◌≤◌, ◌^◌, List, [], ◌∷◌, ◌++◌, length, get_or, take, drop, refl, sym, ◌∙◌, ap, subst, arith, append_assoc, length-append, length-drop, take-append-drop}
use Rattle.std.specs.Int.{w32, to_be_bytes, from_be_bytes}
use Rattle.std.proofs.lemmas.List.{drop-drop, drop_at, get_or-drop, length-take-le, take_all, take_at}
use Rattle.std.proofs.lemmas.Nat.{be_bytes_4, from_be_bytes-to_be_bytes_4}
use Rattle.jrn_file.specs.Reading.{with_length}
use Rattle.jrn_file.proofs.laws.Sizes.{length-sized}
use Rattle.standby.specs.Packets.{BeginsWithPacket, packet_of}

small-take : (n : ℕ) (xs : List ℕ) → ((i : ℕ) → get_or xs i 0 < 256) → (i : ℕ) → get_or (take n xs) i 0 < 256
small-take zero xs small i = omega arith
small-take (suc n) [] small i = omega arith
small-take (suc n) (x ∷ xs) small zero = small 0
small-take (suc n) (x ∷ xs) small (suc i) = small-take n xs (λ j. small (suc j)) i

small-drop : (n : ℕ) (xs : List ℕ) → ((i : ℕ) → get_or xs i 0 < 256) → (i : ℕ) → get_or (drop n xs) i 0 < 256
small-drop n xs small i = omega (arith, small (n + i), get_or-drop n xs i 0)

-- what stands after so many bytes, to the end
pub to-the-end : (n : ℕ) (xs : List ℕ) → take (length xs - n) (drop n xs) ≡ drop n xs
to-the-end n xs = take_all (length xs - n) (drop n xs) (omega (arith, length-drop n xs))

-- with enough bytes there is one
pub begins-with : (bytes : List ℕ) (number size : ℕ) → ((i : ℕ) → get_or bytes i 0 < 256) → number ≡ from_be_bytes w32 (take 4 bytes) → size ≡ from_be_bytes w32 (take 4 (drop 4 bytes))
    → number < 2 ^ 32 → size < 2 ^ 32 → 8 ≤ length bytes → size ≤ length (drop 8 bytes) → BeginsWithPacket bytes number (take size (drop 8 bytes)) (drop size (drop 8 bytes))
begins-with bytes number size small first second few short eight enough =
    let r = take size (drop 8 bytes) in
    let rest = drop size (drop 8 bytes) in
    let long : length r ≡ size = length-take-le size (drop 8 bytes) enough in
    let one : to_be_bytes w32 number ≡ take 4 bytes = be_bytes_4 (take 4 bytes) number (length-take-le 4 bytes (omega (arith, eight))) (small-take 4 bytes small) first in
    let two : to_be_bytes w32 (length r) ≡ take 4 (drop 4 bytes) =
    ap (to_be_bytes w32) long
    ∙ be_bytes_4 (take 4 (drop 4 bytes)) size (length-take-le 4 (drop 4 bytes) (omega (arith, eight, length-drop 4 bytes))) (small-take 4 (drop 4 bytes) (small-drop 4 bytes small)) second in
    record {
      few = few;
      short = omega (arith, long, short);
      is = sym (take-append-drop 4 bytes)
          ∙ ap (λ (l : List ℕ). take 4 bytes ++ l)
          (sym (take-append-drop 4 (drop 4 bytes)) ∙ ap (λ (l : List ℕ). take 4 (drop 4 bytes) ++ l) (drop-drop 4 4 bytes ∙ sym (take-append-drop size (drop 8 bytes))))
          ∙ ap (λ (l : List ℕ). l ++ (take 4 (drop 4 bytes) ++ (r ++ rest))) (sym one)
          ∙ ap (λ (l : List ℕ). to_be_bytes w32 number ++ (l ++ (r ++ rest))) (sym two)
          ∙ ap (λ (l : List ℕ). to_be_bytes w32 number ++ l) (sym (append_assoc (to_be_bytes w32 (length r)) r rest))
          ∙ sym (append_assoc (to_be_bytes w32 number) (with_length r) rest);
    }

-- the record and the rest as they are cut
pub begins-cut : (bytes after r rest : List ℕ) (number size : ℕ) → after ≡ drop 8 bytes → r ≡ take size after → rest ≡ drop size after
    → BeginsWithPacket bytes number (take size (drop 8 bytes)) (drop size (drop 8 bytes)) → BeginsWithPacket bytes number r rest
begins-cut bytes after r rest number size behind first last begins =
    let one : take size (drop 8 bytes) ≡ r = sym (first ∙ ap (λ (l : List ℕ). take size l) behind) in
    let two : drop size (drop 8 bytes) ≡ rest = sym (last ∙ ap (λ (l : List ℕ). drop size l) behind) in
    subst (λ (x : List ℕ × List ℕ). BeginsWithPacket bytes number x.0 x.1) (λ i. (one i, two i)) begins

module _ (bytes : List ℕ) (number : ℕ) (r rest : List ℕ) (b : BeginsWithPacket bytes number r rest) where
  -- how many bytes there are
  pub packet-long : length bytes ≡ 8 + length r + length rest
  packet-long =
      omega (arith, ap length b.is, length-append (packet_of number r) rest, length-append (to_be_bytes w32 number) (with_length r), length-sized r)

  -- the length behind its number
  pub behind : drop 4 bytes ≡ with_length r ++ rest
  behind =
      ap (λ (l : List ℕ). drop 4 l) (b.is ∙ append_assoc (to_be_bytes w32 number) (with_length r) rest)
      ∙ drop_at (to_be_bytes w32 number) (with_length r ++ rest) 4 refl

  pub told-size : from_be_bytes w32 (take 4 (drop 4 bytes)) ≡ length r
  told-size =
      let front : take 4 (drop 4 bytes) ≡ to_be_bytes w32 (length r) =
      ap (λ (l : List ℕ). take 4 l) (behind ∙ append_assoc (to_be_bytes w32 (length r)) r rest)
      ∙ take_at (to_be_bytes w32 (length r)) (r ++ rest) 4 refl in
      ap (from_be_bytes w32) front ∙ from_be_bytes-to_be_bytes_4 (length r) b.short
