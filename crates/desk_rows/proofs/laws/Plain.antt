-- No cell of a row needs quotes: ids, banks and currencies are capital letters and digits, and amounts are digits, a point and a minus.
use Rattle.std.proofs.Common.{◌≡◌, ℕ, suc, ◌+◌, ◌-◌, ◌<◌, ◌≤◌, ◌^◌, ◌==◌, ◌&&◌, ◌||◌, true, List, [], ◌∷◌, ◌++◌, length, take, drop, replicate, refl, sym, ap, ◌∙◌, subst, arith, append_assoc, zero, ◌%◌}
use Rattle.std.proofs.Common.{ℤ, pos, negsuc, take-append-drop}
use Rattle.std.specs.Prelude.{unsigned_abs}
use Rattle.std.specs.Char.{is_ascii_uppercase}
use Rattle.std.specs.Int.{is_negative}
use Rattle.std.specs.Fmt.{decimal}
use Rattle.std.specs.List.{AllByRecursion, list_all}
use Rattle.std.proofs.lemmas.Bool.{and_from, and_parts, cond_both}
use Rattle.std.proofs.lemmas.Bool.Decides.{nat_tests}
use Rattle.std.proofs.lemmas.Fmt.{decimal_by_steps}
use Rattle.std.proofs.lemmas.Grind.{flat_map-append}
use Rattle.std.proofs.lemmas.Int.{ints}
use Rattle.std.proofs.lemmas.List.Folds.{list_all-append}
use Rattle.std.proofs.lemmas.Option.{slice_get_within}
use Rattle.corr_text.specs.Digits.{padded}
use Rattle.corr_text.specs.Sets.{is_c_byte}
use Rattle.corr_ids.specs.Bic.{IsBic, bic_text, is_bic}
use Rattle.corr_ids.specs.declared.bic.Bic.{Bic}
use Rattle.corr_ids.proofs.laws.Spelling.{bic-printed, some_if}
use Rattle.day_model.specs.Balance.{balance_of, credits_of, debits_of}
use Rattle.day_model.specs.Chart.{IsFormed, IsSmall, accounts_of}
use Rattle.corr_ids.specs.Kinds.{is_kind}
use Rattle.day_model.proofs.laws.Changes.{list_all-then}
use Rattle.desk_rows.specs.Csv.{commaed, is_bare, point_of, pointed, row_end, signed_pointed}
use Rattle.desk_rows.specs.Plain.{RowsArePlain}
use Rattle.desk_rows.specs.Until.{entries_until}
use Rattle.desk_rows.proofs.Counted.{opening_small, small_until, totals_until_fit}

abbrev pub AreBare : List ℕ → Type 0
AreBare bs = list_all is_bare bs ≡ true

-- ---- bytes

c_bare : (b : ℕ) → is_c_byte b ≡ true → is_bare b ≡ true
c_bare b e = grind (arith, nat_tests)

letter_bare : (b : ℕ) → is_ascii_uppercase b ≡ true → is_bare b ≡ true
letter_bare b e = grind (arith, nat_tests)

kind_bare : (b : ℕ) → is_kind b ≡ true → is_bare b ≡ true
kind_bare b e = grind (arith, nat_tests)

digit_bare : (n : ℕ) → n < 10 → is_bare (48 + n) ≡ true
digit_bare n lt = grind (arith, nat_tests)

-- ---- texts

pub both_bare : (a b : List ℕ) → AreBare a → AreBare b → AreBare (a ++ b)
both_bare a b p q = list_all-append is_bare a b ∙ and_from (list_all is_bare a) (list_all is_bare b) p q

parts_bare : (a b : List ℕ) → AreBare (a ++ b) → AreBare a × AreBare b
parts_bare a b e = and_parts (list_all is_bare a) (list_all is_bare b) (sym (list_all-append is_bare a b) ∙ e)

bic_bare : (bs : List ℕ) → is_bic bs ≡ true → AreBare bs
unfolding is_bic
bic_bare bs e =
    let parts = and_parts (((length bs == 8) || (length bs == 11)) && list_all is_ascii_uppercase (take 6 bs)) (list_all is_c_byte (drop 6 bs)) e in
    let letters = (and_parts ((length bs == 8) || (length bs == 11)) (list_all is_ascii_uppercase (take 6 bs)) parts.0).1 in
    subst AreBare (take-append-drop 6 bs)
    (both_bare (take 6 bs) (drop 6 bs) (list_all-then is_ascii_uppercase is_bare (take 6 bs) letter_bare letters) (list_all-then is_c_byte is_bare (drop 6 bs) c_bare parts.1))

owner_bare : (b : Bic) → IsBic b → AreBare (bic_text b)
owner_bare b is = bic_bare (bic_text b) (some_if (is_bic (bic_text b)) _ b (bic-printed b is)).0

-- ---- amounts

decimal_bare : (n : ℕ) → n < 2 ^ 64 → AreBare (decimal n)
decimal_bare n small =
    decimal_by_steps (λ m ds. AreBare ds) (λ m lt. and_from (is_bare (48 + m)) true (digit_bare m lt) refl)
    (λ m ds some have. both_bare ds ((48 + m % 10) ∷ []) have (and_from (is_bare (48 + m % 10)) true (digit_bare (m % 10) (omega arith)) refl)) n small

zeros_bare : (k : ℕ) → AreBare (replicate k 48)
zeros_bare zero = refl
zeros_bare (suc k) = zeros_bare k

point_bare : (decimals : ℕ) → AreBare (point_of decimals)
point_bare decimals = cond_both (decimals == 0) [] (46 ∷ []) AreBare (λ _. refl) (λ _. refl)

pub padded_bare : (width n : ℕ) → n < 2 ^ 64 → AreBare (padded width n)
padded_bare width n small = both_bare (replicate (width - length (decimal n)) 48) (decimal n) (zeros_bare (width - length (decimal n))) (decimal_bare n small)

pub pointed_bare : (decimals n : ℕ) → n < 2 ^ 64 → AreBare (pointed decimals n)
unfolding pointed
pointed_bare decimals n small =
    let ds : List ℕ = padded (decimals + 1) n in
    let whole : ℕ = length ds - decimals in
    let cut = parts_bare (take whole ds) (drop whole ds) (subst AreBare (sym (take-append-drop whole ds)) (padded_bare (decimals + 1) n small)) in
    both_bare (take whole ds ++ point_of decimals) (drop whole ds) (both_bare (take whole ds) (point_of decimals) cut.0 (point_bare decimals)) cut.1

abs_small : (v : ℤ) → IsSmall v → unsigned_abs v < 2 ^ 64
abs_small (pos k) small = let high = small.1 in omega (arith, ints, high)
abs_small (negsuc k) small = let low = small.0 in omega (arith, ints, low)

pub signed_bare : (decimals : ℕ) (v : ℤ) → unsigned_abs v < 2 ^ 64 → AreBare (signed_pointed decimals v)
unfolding signed_pointed
signed_bare decimals v small =
    let amount : AreBare (pointed decimals (unsigned_abs v)) = pointed_bare decimals (unsigned_abs v) small in
    cond_both (is_negative v) (45 ∷ pointed decimals (unsigned_abs v)) (pointed decimals (unsigned_abs v)) AreBare (λ _. amount) (λ _. amount)

-- ---- rows

all_bare : (cells : List (List ℕ)) → AllByRecursion AreBare cells → list_all (list_all is_bare) cells ≡ true
all_bare [] all = refl
all_bare (cell ∷ cells) all = and_from (list_all is_bare cell) (list_all (list_all is_bare) cells) all.0 (all_bare cells all.1)

in_order : (id a b c e : List ℕ) → ((id ++ a) ++ b) ++ (c ++ e) ≡ (id ++ (a ++ (b ++ c))) ++ e
in_order id a b c e =
    let front : ((id ++ a) ++ b) ++ c ≡ id ++ (a ++ (b ++ c)) =
    ap (λ (bs : List ℕ). bs ++ c) (append_assoc id a b) ∙ append_assoc id (a ++ b) c ∙ ap (λ (bs : List ℕ). id ++ bs) (append_assoc a b c) in
    sym (append_assoc ((id ++ a) ++ b) c e) ∙ ap (λ (bs : List ℕ). bs ++ e) front

with_commas : (xs ys zs : List (List ℕ)) → commaed xs ++ (commaed ys ++ commaed zs) ≡ commaed (xs ++ (ys ++ zs))
with_commas xs ys zs =
    let comma : List ℕ → List ℕ = λ cell. 44 ∷ cell in
    sym (flat_map-append comma xs (ys ++ zs) ∙ ap (λ (bs : List ℕ). commaed xs ++ bs) (flat_map-append comma ys zs))

pub rows_are_plain : RowsArePlain
rows_are_plain chart entries until n account sound legal low at =
    let kept = entries_until until entries in
    let formed : IsFormed account = sound.rows.apart.formed (n - 1) account at in
    let ends = sound.rows.bounded (n - 1) account at in
    let within = slice_get_within (accounts_of chart) (n - 1) account at in
    let high : n ≤ length (accounts_of chart) = omega (arith, low, within) in
    let totals = totals_until_fit until chart entries n legal in
    let d = account.decimals in
    let names : List (List ℕ) = (account.kind ∷ []) ∷ bic_text account.owner ∷ account.ccy.0 ∷ [] in
    let limits : List (List ℕ) = signed_pointed d account.floor ∷ signed_pointed d account.ceil ∷ signed_pointed d account.opening ∷ [] in
    let sums : List (List ℕ) = pointed d (debits_of kept n) ∷ pointed d (credits_of kept n) ∷ signed_pointed d (balance_of chart kept n) ∷ [] in
    record {
      cells = account.id ∷ (names ++ (limits ++ sums));
      row_is = in_order account.id (commaed names) (commaed limits) (commaed sums) row_end
          ∙ ap (λ (bs : List ℕ). (account.id ++ bs) ++ row_end) (with_commas names limits sums);
      counted = refl;
      bare = all_bare (account.id ∷ (names ++ (limits ++ sums))) (
        list_all-then is_c_byte is_bare account.id c_bare formed.id_plain,
        (
          and_from (is_bare account.kind) true (kind_bare account.kind formed.kind) refl,
          (
            owner_bare account.owner formed.owner,
            (
              list_all-then is_ascii_uppercase is_bare account.ccy.0 letter_bare formed.ccy,
              (
                signed_bare d account.floor (abs_small account.floor ends.0),
                (
                  signed_bare d account.ceil (abs_small account.ceil ends.1),
                  (
                    signed_bare d account.opening (abs_small account.opening (opening_small chart entries n account sound legal (low, high) at)),
                    (
                      pointed_bare d (debits_of kept n) totals.1,
                      (
                        pointed_bare d (credits_of kept n) totals.0,
                        (signed_bare d (balance_of chart kept n) (abs_small (balance_of chart kept n) (small_until chart entries until n sound legal (low, high))), tt),
                      ),
                    ),
                  ),
                ),
              ),
            ),
          ),
        ),
      );
    }
