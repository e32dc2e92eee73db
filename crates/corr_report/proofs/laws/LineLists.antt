-- One line more.
use Rattle.std.proofs.Common.{◌≡◌, ℕ, ◌+◌, ◌<◌, List, [], ◌∷◌, ◌++◌, length, get_or, take, sym, ap, ◌∙◌, arith, append_assoc}
use Rattle.std.specs.List.{flat_map}
use Rattle.std.proofs.lemmas.Grind.{flat_map-append}
use Rattle.std.proofs.lemmas.List.{take_more, append-nil, length-take-le}
use Rattle.day_model.specs.declared.entry.Entry.{Entry}
use Rattle.day_model.specs.declared.pay.Side.TheVariants.{Debit, Credit}
use Rattle.day_model.specs.Laws.{turnover}
use Rattle.day_model.specs.Chart.{Chart}
use Rattle.corr_report.specs.declared.currency.Currency.{Currency}
use Rattle.corr_report.specs.Lines.{numbered, spaced}
use Rattle.corr_report.specs.Totals.{total_line, total_of}

pub flat_more : {X : Type 0} (f : X → List ℕ) (xs : List X) (i : ℕ) (d : X) → i < length xs → flat_map f (take (i + 1) xs) ≡ flat_map f (take i xs) ++ f (get_or xs i d)
flat_more f xs i d lt =
    ap (flat_map f) (take_more xs i d lt) ∙ (flat_map-append f (take i xs) (get_or xs i d ∷ []) ∙ ap (λ bs. flat_map f (take i xs) ++ bs) (append-nil (f (get_or xs i d))))

pub total_more : (chart : Chart) (entries : List Entry) (units : List Currency) (i : ℕ) (d : Currency) (old out new : List ℕ) (debits credits : ℕ) → i < length units
    → out ≡ old ++ flat_map (total_of chart entries) (take i units)
    → debits ≡ turnover chart (get_or units i d).ccy Debit entries
    → credits ≡ turnover chart (get_or units i d).ccy Credit entries
    → new ≡ out ++ total_line (get_or units i d) debits credits
    → new ≡ old ++ flat_map (total_of chart entries) (take (i + 1) units)
total_more chart entries units i d old out new debits credits lt before de ce line =
    rw (line, de, ce, before, flat_more (total_of chart entries) units i d lt) (append_assoc old (flat_map (total_of chart entries) (take i units)) (total_of chart entries (get_or units i d)))

numbered-append : {X : Type 0} (f : ℕ → X → List ℕ) (n : ℕ) (xs : List X) (y : X) → numbered f n (xs ++ y ∷ []) ≡ numbered f n xs ++ f (n + length xs) y
numbered-append f n [] y =
    let first : n ≡ n + 0 = omega arith in
    append-nil (f n y) ∙ ap (λ k. f k y) first
numbered-append f n (x ∷ xs) y =
    let next : n + 1 + length xs ≡ n + length (x ∷ xs) = omega arith in
    ap (λ bs. f n x ++ bs) (numbered-append f (n + 1) xs y) ∙ (sym (append_assoc (f n x) (numbered f (n + 1) xs) (f (n + 1 + length xs) y)) ∙ ap (λ k. f n x ++ numbered f (n + 1) xs ++ f k y) next)

-- one numbered line more
pub numbered_more : {X : Type 0} (f : ℕ → X → List ℕ) (xs : List X) (i j n : ℕ) (d : X) (old out new : List ℕ) → i < length xs → i + 1 ≡ j → i + 1 ≡ n
    → out ≡ old ++ numbered f 1 (take i xs) → new ≡ out ++ f n (get_or xs i d) → new ≡ old ++ numbered f 1 (take j xs)
numbered_more {X} f xs i j n d old out new lt next number before line =
    let long : length (take i xs) ≡ i = length-take-le i xs (omega arith) in
    let last : 1 + length (take i xs) ≡ n = omega arith in
    let whole : numbered f 1 (take j xs) ≡ numbered f 1 (take i xs) ++ f (1 + length (take i xs)) (get_or xs i d) =
    ap (λ k. numbered f 1 (take k xs)) (sym next) ∙ (ap (numbered f 1) (take_more xs i d lt) ∙ numbered-append f 1 (take i xs) (get_or xs i d)) in
    line ∙ (ap (λ bs. bs ++ f n (get_or xs i d)) before ∙ (append_assoc old (numbered f 1 (take i xs)) (f n (get_or xs i d))
    ∙ ap (λ bs. old ++ bs) (ap (λ k. numbered f 1 (take i xs) ++ f k (get_or xs i d)) (sym last) ∙ sym whole)))

-- the words of one element more
pub spaced_more : {X : Type 0} (words : X → List (List ℕ)) (xs : List X) (i : ℕ) (d : X) (old out new : List ℕ) → i < length xs
    → out ≡ old ++ spaced (flat_map words (take i xs)) → new ≡ out ++ spaced (words (get_or xs i d)) → new ≡ old ++ spaced (flat_map words (take (i + 1) xs))
spaced_more words xs i d old out new lt before line =
    let parts : flat_map words (take (i + 1) xs) ≡ flat_map words (take i xs) ++ words (get_or xs i d) =
    ap (flat_map words) (take_more xs i d lt) ∙ (flat_map-append words (take i xs) (get_or xs i d ∷ []) ∙ ap (λ ws. flat_map words (take i xs) ++ ws) (append-nil (words (get_or xs i d)))) in
    rw (line, before, parts, flat_map-append (λ word. 32 ∷ word) (flat_map words (take i xs)) (words (get_or xs i d))) (append_assoc old (spaced (flat_map words (take i xs))) (spaced (words (get_or xs i d))))
