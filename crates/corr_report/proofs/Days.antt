-- A day of one message more.
use Rattle.std.proofs.Common.{◌≡◌, ℕ, suc, ◌+◌, ◌-◌, ◌≤◌, List, [], ◌∷◌, ◌++◌, ap, ◌∙◌, sym, arith}
use Rattle.std.specs.Prelude.{codes}
use Rattle.std.specs.List.{flat_map}
use Rattle.std.proofs.lemmas.List.{append-nil}
use Rattle.std.proofs.lemmas.Grind.{flat_map-append}
use Rattle.std.proofs.lemmas.List.FromFn.{map-range_with_len_more}
use Rattle.corr_report.specs.Generated.{generated_of, generated_texts, generated_minor, next_number, generated_number, generated_text}

-- the number of message i, where x is that of the one before
pub number_more : (seed i x y : ℕ) → 1 ≤ i → x ≡ generated_number seed (i - 1) → y ≡ next_number x → y ≡ generated_number seed (i + 1 - 1)
number_more seed i x y from before next =
    let at : suc (i - 1) ≡ i + 1 - 1 = omega arith in
    next ∙ (ap next_number before ∙ ap (generated_number seed) at)

pub day_more : (seed i x minor : ℕ) (out new : List ℕ) → 1 ≤ i → x ≡ generated_number seed (i + 1 - 1) → minor ≡ generated_minor x
    → out ≡ generated_of (i - 1) seed → new ≡ out ++ (generated_text i minor ++ codes "$") → new ≡ generated_of (i + 1 - 1) seed
day_more seed i x minor out new from number amount before line =
    let text = λ (k : ℕ). generated_text k (generated_minor (generated_number seed k)) in
    let followed = λ (t : List ℕ). t ++ codes "$" in
    let here : 1 + (i - 1) ≡ i = omega arith in
    let past : i + 1 - 1 ≡ i = omega arith in
    let next : i - 1 + 1 ≡ i + 1 - 1 = omega arith in
    let more : generated_texts (i - 1 + 1) seed ≡ generated_texts (i - 1) seed ++ text i ∷ [] = map-range_with_len_more text 1 (i - 1) i here in
    let parts : generated_of (i - 1 + 1) seed ≡ generated_of (i - 1) seed ++ followed (text i) =
    ap (flat_map followed) more ∙ (flat_map-append followed (generated_texts (i - 1) seed) (text i ∷ []) ∙ ap (λ bs. generated_of (i - 1) seed ++ bs) (append-nil (followed (text i)))) in
    let same : generated_text i minor ≡ text i = ap (generated_text i) (amount ∙ ap generated_minor (number ∙ ap (generated_number seed) past)) in
    line ∙ (ap (λ bs. bs ++ followed (generated_text i minor)) before ∙ (ap (λ t. generated_of (i - 1) seed ++ followed t) same ∙ (sym parts ∙ ap (λ k. generated_of k seed) next)))
