-- Rows in form that share a key are of one currency and one bank text.
use Rattle.std.proofs.Common.{◌≡◌, ◌⊎◌, ℕ, ◌<◌, ◌≤◌, Bool, true, false, cond, ◌&&◌, ◌||◌, ◌==◌, ◌+◌, List, [], ◌∷◌, ◌++◌, length, get_or, take, drop, replicate, Some, None, refl, sym, ap, ◌∙◌, arith, inl, inr}
use Rattle.std.specs.Prelude.{is_some, nat_lt}
use Rattle.std.specs.Char.{is_ascii_uppercase}
use Rattle.std.specs.List.{list_all}
use Rattle.std.specs.Str.{bytes_eq}
use Rattle.std.proofs.lemmas.Bool.Decides.{nat_tests}
use Rattle.std.proofs.lemmas.List.{get_or-drop, get_or-take, length-drop, length-take-le, take-append-drop, take_all}
use Rattle.std.proofs.lemmas.List.Folds.{list_all_at}
use Rattle.std.proofs.lemmas.Slice.Eq.{bytes_eq-Decides}
use Rattle.corr_text.specs.Sets.{is_c_byte}
use Rattle.corr_ids.specs.Bic.{branch_of, is_bic}
use Rattle.corr_ids.specs.declared.bic.Bic.{Bic}
use Rattle.ref_tables.specs.Columns.{is_ccy}
use Rattle.ssi_versions.specs.declared.row.SsiRow.{SsiRow}
use Rattle.ssi_versions.specs.Index.{has_bank_key, head_of, key_by_bank, tail_of}
use Rattle.ssi_versions.specs.InstructionList.{IsInForm}
use Rattle.ssi_versions.specs.Rows.{any_bank, is_bank_text}

-- what a key needs of a bank's text: any bank, or a first byte that isn't 0 and eight bytes, or eleven of which the ninth isn't 0
record IsNamed (bank : List ℕ) : Type 0 where
  pub size : (length bank ≡ 8) ⊎ (length bank ≡ 11)
  pub first : get_or bank 0 0 ≡ 0 → ⊥
  pub ninth : length bank ≡ 11 → get_or bank 8 0 ≡ 0 → ⊥

three-hold : (a b c : Bool) → (a && b && c) ≡ true → (a ≡ true) × (b ≡ true) × (c ≡ true)
three-hold a b c e = grind (arith, nat_tests)

sizes : (bank : List ℕ) → ((length bank == 8) || (length bank == 11)) ≡ true → (length bank ≡ 8) ⊎ (length bank ≡ 11)
sizes bank e = grind (arith, nat_tests)

-- a BIC is such a text
named : (bank : List ℕ) → is_bic bank ≡ true → IsNamed bank
unfolding is_bic
named bank e =
    let parts = three-hold ((length bank == 8) || (length bank == 11)) (list_all is_ascii_uppercase (take 6 bank)) (list_all is_c_byte (drop 6 bank)) e in
    let long : 8 ≤ length bank = grind (arith, nat_tests, parts.0) in
    let short : 0 < length (take 6 bank) = omega (arith, length-take-le 6 bank (omega (arith, long))) in
    let rest : 2 + 6 < length bank → 2 < length (drop 6 bank) = λ more. omega (arith, length-drop 6 bank, more) in
    record {
      size = sizes bank parts.0;
      first = λ zero. cc (sym parts.1 ∙ list_all_at is_ascii_uppercase (take 6 bank) 0 0 short (ap is_ascii_uppercase (get_or-take 6 bank 0 0 (omega arith) ∙ zero)));
      ninth = λ eleven zero. cc (sym parts.2 ∙ list_all_at is_c_byte (drop 6 bank) 2 0 (rest (omega (arith, eleven))) (ap is_c_byte (get_or-drop 6 bank 2 0 ∙ zero)));
    }

text-form : (bank : List ℕ) → is_bank_text bank ≡ true → (bank ≡ any_bank) ⊎ IsNamed bank
text-form bank e = go (bytes_eq bank any_bank) (is_bic bank) (record { head = take 8 bank; branch = branch_of bank }) refl refl e
  where
    go : (b c : Bool) (x : Bic) → bytes_eq bank any_bank ≡ b → is_bic bank ≡ c → (b || is_some (cond c (Some x) None)) ≡ true → (bank ≡ any_bank) ⊎ IsNamed bank
    go true c x is by e = inl ((bytes_eq-Decides bank any_bank).0 is)
    go false true x is by e = inr (named bank by)
    go false false x is by e = absurd (cc e)

head-eight : (bank : List ℕ) → length bank ≡ 8 → head_of bank ≡ take 8 bank
head-eight bank e = rw e refl

tail-eight : (bank : List ℕ) → length bank ≡ 8 → tail_of bank ≡ replicate 3 0
tail-eight bank e = rw e refl

head-eleven : (bank : List ℕ) → length bank ≡ 11 → head_of bank ≡ take 8 bank
head-eleven bank e = rw e refl

tail-eleven : (bank : List ℕ) → length bank ≡ 11 → tail_of bank ≡ drop 8 bank
tail-eleven bank e = rw e refl

-- the ninth byte of a text of eleven isn't the 0 of a text of eight
eight-eleven : (a b : List ℕ) → length a ≡ 8 → length b ≡ 11 → tail_of a ≡ tail_of b → get_or b 8 0 ≡ 0
eight-eleven a b eight eleven tails =
    let zeros : replicate 3 0 ≡ drop 8 b = sym (tail-eight a eight) ∙ tails ∙ tail-eleven b eleven in
    sym (get_or-drop 8 b 0 0) ∙ sym (ap (λ (xs : List ℕ). get_or xs 0 0) zeros)

-- of texts of eight and of eleven: heads and tails that are equal
both-named : (a b : List ℕ) → IsNamed a → IsNamed b → head_of a ≡ head_of b → tail_of a ≡ tail_of b → a ≡ b
both-named a b in-a in-b heads tails = elim in-a.size [
  | inl eight ↦ elim in-b.size [
    | inl other ↦ sym (take_all 8 a (omega arith)) ∙ sym (head-eight a eight) ∙ heads ∙ head-eight b other ∙ take_all 8 b (omega arith)
    | inr eleven ↦ absurd (in-b.ninth eleven (eight-eleven a b eight eleven tails))
  ]
  | inr eleven ↦ elim in-b.size [
    | inl eight ↦ absurd (in-a.ninth eleven (eight-eleven b a eight eleven (sym tails)))
    | inr other ↦
        let fronts : take 8 a ≡ take 8 b = sym (head-eleven a eleven) ∙ heads ∙ head-eleven b other in
        let backs : drop 8 a ≡ drop 8 b = sym (tail-eleven a eleven) ∙ tails ∙ tail-eleven b other in
        sym (take-append-drop 8 a) ∙ ap (λ (xs : List ℕ). xs ++ drop 8 a) fronts ∙ ap (λ (ys : List ℕ). take 8 b ++ ys) backs ∙ take-append-drop 8 b
  ]
]

-- the first byte isn't the 0 of a text that is too short
first-zero : (bank : List ℕ) → IsNamed bank → head_of bank ≡ replicate 8 0 → ⊥
first-zero bank in-form zeros = in-form.first (front in-form.size)
  where
    front : (length bank ≡ 8) ⊎ (length bank ≡ 11) → get_or bank 0 0 ≡ 0
    front (inl eight) = sym (get_or-take 8 bank 0 0 (omega arith)) ∙ ap (λ (xs : List ℕ). get_or xs 0 0) (sym (head-eight bank eight) ∙ zeros)
    front (inr eleven) = sym (get_or-take 8 bank 0 0 (omega arith)) ∙ ap (λ (xs : List ℕ). get_or xs 0 0) (sym (head-eleven bank eleven) ∙ zeros)

-- the text of a key's bank, where it is in form
text-of : (a b : List ℕ) → is_bank_text a ≡ true → is_bank_text b ≡ true → head_of a ≡ head_of b → tail_of a ≡ tail_of b → a ≡ b
text-of a b in-a in-b heads tails = elim (text-form a in-a) [
  | inl any ↦ elim (text-form b in-b) [
    | inl other ↦ any ∙ sym other
    | inr named-b ↦ absurd (first-zero b named-b (sym heads ∙ ap head_of any))
  ]
  | inr named-a ↦ elim (text-form b in-b) [
    | inl other ↦ absurd (first-zero a named-a (heads ∙ ap head_of other))
    | inr named-b ↦ both-named a b named-a named-b heads tails
  ]
]

-- lists that are equal have equal parts, where the first have one length
parts : (us vs xs ys : List ℕ) → length us ≡ length vs → us ++ xs ≡ vs ++ ys → (us ≡ vs) × (xs ≡ ys)
parts [] [] xs ys size e = (refl, e)
parts [] (v ∷ vs) xs ys size e = absurd (omega (arith, size))
parts (u ∷ us) [] xs ys size e = absurd (omega (arith, size))
parts (u ∷ us) (v ∷ vs) xs ys size e =
    let first : u ≡ v = cc e in
    let more : us ++ xs ≡ vs ++ ys = cc e in
    let rest = parts us vs xs ys (omega (arith, size)) more in
    (rw (first, rest.0) refl, rest.1)

head-long : (bank : List ℕ) (short : Bool) → nat_lt (length bank) 8 ≡ short → length (cond short (replicate 8 0) (take 8 bank)) ≡ 8
head-long bank true e = refl
head-long bank false e =
    let long : 8 ≤ length bank = grind (arith, nat_tests) in
    length-take-le 8 bank long

ccy-long : (ccy : List ℕ) → is_ccy ccy ≡ true → length ccy ≡ 3
ccy-long ccy e = grind (arith, nat_tests)

-- currencies have three bytes and heads eight, so that keys that are equal have equal parts
pub same-texts : (a b : SsiRow) → IsInForm a → IsInForm b → has_bank_key (key_by_bank a.ccy.0 a.bank) b ≡ true → (a.ccy.0 ≡ b.ccy.0) × (a.bank ≡ b.bank)
same-texts a b in-a in-b e =
    let keys = (bytes_eq-Decides (key_by_bank a.ccy.0 a.bank) (key_by_bank b.ccy.0 b.bank)).0 e in
    let ccys = parts a.ccy.0 b.ccy.0 (head_of a.bank ++ tail_of a.bank) (head_of b.bank ++ tail_of b.bank) (ccy-long a.ccy.0 in-a.ccy ∙ sym (ccy-long b.ccy.0 in-b.ccy)) keys in
    let banks = parts (head_of a.bank) (head_of b.bank) (tail_of a.bank) (tail_of b.bank) (head-long a.bank _ refl ∙ sym (head-long b.bank _ refl)) ccys.1 in
    (ccys.0, text-of a.bank b.bank in-a.bank in-b.bank banks.0 banks.1)
