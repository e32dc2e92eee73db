-- A day of one message more.
use Rattle.std.proofs.Common.{◌≡◌, ℕ, ◌+◌, List, [], ◌∷◌, ◌++◌, ap, ◌∙◌}
use Rattle.std.specs.Prelude.{codes}
use Rattle.std.specs.List.{flat_map}
use Rattle.std.proofs.lemmas.List.{append-nil}
use Rattle.std.proofs.lemmas.Grind.{flat_map-append}
use Rattle.std.proofs.lemmas.List.FromFn.{map-range_with_len_more}
use Rattle.corr_report.specs.Generated.{generated_of, generated_texts, generated_minor, generated_number, generated_text}

-- the i-th message of a day
abbrev pub text_at : ℕ → ℕ → List ℕ
text_at seed i = generated_text i (generated_minor (generated_number seed i))

pub texts_more : (count i seed : ℕ) → 1 + count ≡ i → generated_texts (count + 1) seed ≡ generated_texts count seed ++ text_at seed i ∷ []
texts_more count i seed at = map-range_with_len_more (text_at seed) 1 count i at

pub generated_more : (count i seed : ℕ) → 1 + count ≡ i → generated_of (count + 1) seed ≡ generated_of count seed ++ (text_at seed i ++ codes "$")
generated_more count i seed at =
    let followed = λ (text : List ℕ). text ++ codes "$" in
    ap (flat_map followed) (texts_more count i seed at)
    ∙ (flat_map-append followed (generated_texts count seed) (text_at seed i ∷ []) ∙ ap (λ bs. generated_of count seed ++ bs) (append-nil (followed (text_at seed i))))
