-- Bytes begin with one packet only.
use Rattle.std.proofs.Common.{◌≡◌, ℕ, List, ◌++◌, append_assoc, ap, drop, length, refl, sym, take, ◌∙◌}
use Rattle.std.specs.Int.{w32, to_be_bytes, from_be_bytes}
use Rattle.std.proofs.lemmas.List.{drop_at, take_at}
use Rattle.std.proofs.lemmas.Nat.{from_be_bytes-to_be_bytes_4}
use Rattle.jrn_file.specs.Reading.{with_length}
use Rattle.standby.specs.Packets.{BeginsWithPacket}
use Rattle.standby.proofs.Fronts.{behind, told-size}

-- its number is told by the first four bytes
told-number : (bytes : List ℕ) (number : ℕ) (r rest : List ℕ) → BeginsWithPacket bytes number r rest → from_be_bytes w32 (take 4 bytes) ≡ number
told-number bytes number r rest b =
    let front : take 4 bytes ≡ to_be_bytes w32 number =
    ap (λ (l : List ℕ). take 4 l) (b.is ∙ append_assoc (to_be_bytes w32 number) (with_length r) rest) ∙ take_at (to_be_bytes w32 number) (with_length r ++ rest) 4 refl in
    ap (from_be_bytes w32) front ∙ from_be_bytes-to_be_bytes_4 number b.few

-- its record and what follows stand behind its length
told-rest : (bytes : List ℕ) (number : ℕ) (r rest : List ℕ) → BeginsWithPacket bytes number r rest → drop 4 (drop 4 bytes) ≡ r ++ rest
told-rest bytes number r rest b =
    ap (λ (l : List ℕ). drop 4 l) (behind bytes number r rest b ∙ append_assoc (to_be_bytes w32 (length r)) r rest) ∙ drop_at (to_be_bytes w32 (length r)) (r ++ rest) 4 refl

-- so two packets in front of the same bytes are the same
pub one_packet : (bytes : List ℕ) (m n : ℕ) (q r more rest : List ℕ) → BeginsWithPacket bytes m q more → BeginsWithPacket bytes n r rest → (m ≡ n) × (q ≡ r) × (more ≡ rest)
one_packet bytes m n q r more rest a b =
    let size : length q ≡ length r = sym (told-size bytes m q more a) ∙ told-size bytes n r rest b in
    let both : q ++ more ≡ r ++ rest = sym (told-rest bytes m q more a) ∙ told-rest bytes n r rest b in (
      sym (told-number bytes m q more a) ∙ told-number bytes n r rest b,
      sym (take_at q more (length q) refl) ∙ ap (λ (l : List ℕ). take (length q) l) both ∙ take_at r rest (length q) (sym size),
      sym (drop_at q more (length q) refl) ∙ ap (λ (l : List ℕ). drop (length q) l) both ∙ drop_at r rest (length q) (sym size),
    )
