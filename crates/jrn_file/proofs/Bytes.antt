-- Bytes in front of a gate, the gate, and what stands after it.
use Rattle.std.proofs.Common.{◌≡◌, ℕ, ◌+◌, List, [], ◌∷◌, ◌++◌, length, get_or, take, drop, sym, ◌∙◌, ap, arith, append_assoc, length-append, take-append-drop}
use Rattle.std.proofs.lemmas.List.{take_at, drop_at, drop_more, drop-drop}
use Rattle.corr_disk.specs.Disk.{written, Torn}

module _ (p : List ℕ) (at : ℕ) (is : at ≡ length p) where
  take-gate : (x : ℕ) (rest : List ℕ) → take (at + 1) (p ++ x ∷ rest) ≡ p ++ x ∷ []
  take-gate x rest =
      ap (λ (l : List ℕ). take (at + 1) l) (sym (append_assoc p (x ∷ []) rest))
      ∙ take_at (p ++ x ∷ []) rest (at + 1) (omega (arith, is, length-append p (x ∷ [])))

  drop-gate : (x : ℕ) (rest : List ℕ) → drop (at + 1) (p ++ x ∷ rest) ≡ rest
  drop-gate x rest =
      ap (λ (l : List ℕ). drop (at + 1) l) (sym (append_assoc p (x ∷ []) rest))
      ∙ drop_at (p ++ x ∷ []) rest (at + 1) (omega (arith, is, length-append p (x ∷ [])))

  pub length-gate : (x : ℕ) (rest : List ℕ) → length (p ++ x ∷ rest) ≡ at + 1 + length rest
  length-gate x rest = omega (arith, is, length-append p (x ∷ rest))

  -- a piece after the gate
  pub written-after : (x : ℕ) (rest piece : List ℕ) → written (at + 1) piece (p ++ x ∷ rest) ≡ p ++ x ∷ (piece ++ drop (length piece) rest)
  written-after x rest piece =
      let back : drop (at + 1 + length piece) (p ++ x ∷ rest) ≡ drop (length piece) rest =
      sym (drop-drop (length piece) (at + 1) (p ++ x ∷ rest)) ∙ ap (λ (l : List ℕ). drop (length piece) l) (drop-gate x rest) in
      ap (λ (l : List ℕ). l ++ piece ++ drop (at + 1 + length piece) (p ++ x ∷ rest)) (take-gate x rest)
      ∙ ap (λ (l : List ℕ). (p ++ x ∷ []) ++ piece ++ l) back
      ∙ append_assoc (p ++ x ∷ []) piece (drop (length piece) rest)
      ∙ append_assoc p (x ∷ []) (piece ++ drop (length piece) rest)

  -- another byte for the gate
  pub written-gate : (x y : ℕ) (rest : List ℕ) → written at (y ∷ []) (p ++ x ∷ rest) ≡ p ++ y ∷ rest
  written-gate x y rest =
      ap (λ (l : List ℕ). l ++ (y ∷ []) ++ drop (at + 1) (p ++ x ∷ rest)) (take_at p (x ∷ rest) at (sym is))
      ∙ ap (λ (l : List ℕ). p ++ (y ∷ []) ++ l) (drop-gate x rest)
      ∙ append_assoc p (y ∷ []) rest

  -- a torn write after the gate leaves the gate
  pub torn-after : (x n : ℕ) (rest c : List ℕ) → Torn (at + 1) n (p ++ x ∷ rest) c → c ≡ p ++ x ∷ drop (at + 1) c
  torn-after x n rest c torn =
      sym (take-append-drop (at + 1) c)
      ∙ ap (λ (l : List ℕ). l ++ drop (at + 1) c) (torn.before ∙ take-gate x rest)
      ∙ append_assoc p (x ∷ []) (drop (at + 1) c)

  -- a torn write of the gate leaves all but the gate
  pub torn-gate : (x : ℕ) (rest c : List ℕ) → Torn at 1 (p ++ x ∷ rest) c → c ≡ p ++ get_or c at 0 ∷ rest
  torn-gate x rest c torn =
      let long = length-gate x rest in
      let back : drop at c ≡ get_or c at 0 ∷ rest =
      drop_more c at 0 (omega (arith, long, torn.no_shorter)) ∙ ap (λ (l : List ℕ). get_or c at 0 ∷ l) (torn.after ∙ drop-gate x rest) in
      sym (take-append-drop at c)
      ∙ ap (λ (l : List ℕ). l ++ drop at c) (torn.before ∙ take_at p (x ∷ rest) at (sym is))
      ∙ ap (λ (l : List ℕ). p ++ l) back
