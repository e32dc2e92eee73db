-- What several reads or writes in a row did to the bytes that a source or a sink tells.
use Rattle.std.proofs.Common.{◌≡◌, ℕ, ◌+◌, ◌≤◌, List, [], ◌++◌, length, take, drop, sym, ◌∙◌, ap, arith, Option}
use Rattle.std.proofs.Common.{subst, length-drop}
use Rattle.std.proofs.Math.Seq.{take-add}
use Rattle.std.proofs.lemmas.List.{append-nil, drop-drop}
use Rattle.std.proofs.KnownBytes.{Appends-trans, Consumes-trans}
use Rattle.std.specs.Io.KnownBytes.{Appends, Consumes, IsAtEnd}
use Rattle.corr_top.specs.Reading.{IsRead}

-- a front part of a text was appended, and then some of its rest
pub appended-more : (a b c : Option (List ℕ)) (text rest : List ℕ) (n m : ℕ) → n ≤ length text → rest ≡ drop n text → m ≤ length rest → Appends a b (take n text) → Appends b c (take m rest)
    → (k : ℕ) × (k ≤ length text) × (drop m rest ≡ drop k text) × Appends a c (take k text)
appended-more a b c text rest n m le is few done now = (
  n + m,
  omega (arith, ap length is, length-drop n text),
  ap (drop m) is ∙ drop-drop m n text,
  subst (Appends a c) (sym (take-add n m text ∙ ap (λ (l : List ℕ). take n text ++ take m l) (sym is))) (Appends-trans a b c (take n text) (take m rest) done now),
)

-- a read that gave nothing though there was room ends a source
pub read-ended : (limit : ℕ) (a b c : Option (List ℕ)) (text : List ℕ) → Consumes a b text → length text ≤ limit → Consumes b c [] → IsAtEnd c → IsRead limit a c text
read-ended limit a b c text so_far short now ended = record {
  taken = subst (Consumes a c) (append-nil text) (Consumes-trans a b c text [] so_far now);
  bound = omega arith;
  ended = λ _. ended;
}
