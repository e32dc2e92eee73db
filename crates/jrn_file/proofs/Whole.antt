-- Whole records.
use Rattle.std.proofs.Common.{◌≡◌, ℕ, zero, suc, ◌+◌, ◌<◌, ◌≤◌, List, [], ◌∷◌, ◌++◌, length, get_or, take, drop, sym, ◌∙◌, ap, arith, append_assoc, length-drop, take-append-drop}
use Rattle.std.specs.Int.{w32, to_be_bytes, from_be_bytes}
use Rattle.std.proofs.lemmas.List.{drop_more, length-take-le}
use Rattle.std.proofs.lemmas.Nat.{be_bytes_4}
use Rattle.jrn_file.specs.Reading.{most_record_bytes, with_length}
use Rattle.jrn_file.specs.inner.Opening.{BeginsWith}

small-take : (n : ℕ) (xs : List ℕ) → ((i : ℕ) → get_or xs i 0 < 256) → (i : ℕ) → get_or (take n xs) i 0 < 256
small-take zero xs small i = omega arith
small-take (suc n) [] small i = omega arith
small-take (suc n) (x ∷ xs) small zero = small 0
small-take (suc n) (x ∷ xs) small (suc i) = small-take n xs (λ j. small (suc j)) i

-- with enough bytes there is one
pub begins-with : (after : List ℕ) (size : ℕ) → ((i : ℕ) → get_or after i 0 < 256) → size ≡ from_be_bytes w32 (take 4 after) → size ≤ most_record_bytes
    → size + 5 ≤ length after → BeginsWith after (take size (drop 4 after))
begins-with after size bytes is fits enough =
    let r = take size (drop 4 after) in
    let long : length r ≡ size = length-take-le size (drop 4 after) (omega (arith, enough, length-drop 4 after)) in
    let front : to_be_bytes w32 (length r) ≡ take 4 after =
    ap (to_be_bytes w32) long ∙ be_bytes_4 (take 4 after) size (length-take-le 4 after (omega (arith, enough))) (small-take 4 after bytes) is in
    let beyond = drop size (drop 4 after) in
    let gate = get_or beyond 0 0 in
    let next : beyond ≡ gate ∷ drop 1 beyond = drop_more beyond 0 0 (omega (arith, enough, length-drop size (drop 4 after), length-drop 4 after)) in
    record {
      gate = gate;
      rest = drop 1 beyond;
      fits = omega (arith, long, fits);
      is = sym (take-append-drop 4 after)
          ∙ ap (λ (l : List ℕ). take 4 after ++ l) (sym (take-append-drop size (drop 4 after)))
          ∙ ap (λ (l : List ℕ). l ++ (r ++ beyond)) (sym front)
          ∙ sym (append_assoc (to_be_bytes w32 (length r)) r beyond)
          ∙ ap (λ (l : List ℕ). with_length r ++ l) next;
    }
