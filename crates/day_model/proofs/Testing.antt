-- Rows that pass the test are those of a book.
use Rattle.std.proofs.Common.{◌≡◌, ◌≢◌, ℕ, zero, suc, ◌<◌, Bool, true, false, List, [], ◌∷◌, ◌++◌, Option, Some, None, refl, sym, ap, ◌∙◌, subst, arith, leb}
use Rattle.std.proofs.Common.{eqb, length, ℤ, pos, negsuc, ◌≤ℤ◌, inl, inr}
use Rattle.std.specs.Prelude.{◌&&◌, ◌||◌, not, int_le, slice_get}
use Rattle.std.specs.Str.{bytes_eq}
use Rattle.std.specs.List.{list_all}
use Rattle.std.specs.Char.{is_ascii_uppercase}
use Rattle.std.proofs.lemmas.Bool.{and_parts, le-leb, not-true, leb-true, eqb-true, eq-eqb, ne_eqb, cases_order, false≢true, and_from, not_from_false}
use Rattle.std.proofs.lemmas.Int.{ints}
use Rattle.std.proofs.lemmas.Option.{same_Some, none-some}
use Rattle.std.proofs.lemmas.Slice.Eq.{bytes_eq-Decides}
use Rattle.corr_text.specs.Sets.{is_c_byte}
use Rattle.corr_ids.specs.Bic.{bic_of}
use Rattle.corr_ids.specs.declared.bic.Bic.{Bic}
use Rattle.corr_money.specs.declared.amount.Ccy.{Ccy}
use Rattle.day_model.specs.declared.account.Account.{Account}
use Rattle.day_model.specs.Chart.{AreApart, AreEnds, AreRows, IsFormed, is_same_ccy}
use Rattle.corr_ids.specs.Kinds.{IsSameBank, customer, is_kind}
use Rattle.day_model.proofs.laws.Fitting.{all_at}
use Rattle.day_model.specs.RowTests.{agrees, are_ends, has_limits, is_same_bank, meets}
use Rattle.day_model.specs.inner.RowTests.{all_apart, apart, is_formed, is_row, is_same_bic, reads_itself, rows_fit}

-- each is apart from every later one
apart_at : (xs : List Account) (i j : ℕ) (a b : Account) → all_apart xs ≡ true → i < j → slice_get xs i ≡ Some a → slice_get xs j ≡ Some b
    → apart a b ≡ true
apart_at [] i j a b all lt ati atj = absurd (none-some a ati)
apart_at (x ∷ xs) i zero a b all lt ati atj = absurd (omega arith)
apart_at (x ∷ xs) zero (suc j) a b all lt ati atj =
    all_at (apart a) xs j b
    (subst (λ (z : Account). list_all (apart z) xs ≡ true) (same_Some x a ati) (and_parts (list_all (apart x) xs) (all_apart xs) all).0) atj
apart_at (x ∷ xs) (suc i) (suc j) a b all lt ati atj = apart_at xs i j a b (and_parts (list_all (apart x) xs) (all_apart xs) all).1 (omega arith) ati atj

same_bic : (o : Option Bic) (b : Bic) → is_same_bic o b ≡ true → o ≡ Some b
same_bic (Some c) b e =
    let parts = and_parts (bytes_eq c.head b.head) (bytes_eq c.branch b.branch) e in
    let head : c.head ≡ b.head = (bytes_eq-Decides c.head b.head).0 parts.0 in
    let branch : c.branch ≡ b.branch = (bytes_eq-Decides c.branch b.branch).0 parts.1 in
    λ i. Some (record { head = head i; branch = branch i })
same_bic None b e = absurd (false≢true e)

bic_same : (o : Option Bic) (b : Bic) → o ≡ Some b → is_same_bic o b ≡ true
bic_same o b e =
    subst (λ (x : Option Bic). is_same_bic x b ≡ true) (sym e)
    (and_from (bytes_eq b.head b.head) (bytes_eq b.branch b.branch) ((bytes_eq-Decides b.head b.head).1 refl)
    ((bytes_eq-Decides b.branch b.branch).1 refl))

pub formed : (a : Account) → is_formed a ≡ true → IsFormed a
formed a e =
    let decimals =
    and_parts
    (leb 1 (length a.id) && leb (length a.id) 34 && list_all is_c_byte a.id && is_kind a.kind && reads_itself a.owner
    && list_all is_ascii_uppercase a.ccy.0) (leb a.decimals 4) e in
    let ccy =
    and_parts (leb 1 (length a.id) && leb (length a.id) 34 && list_all is_c_byte a.id && is_kind a.kind && reads_itself a.owner)
    (list_all is_ascii_uppercase a.ccy.0) decimals.0 in
    let owner = and_parts (leb 1 (length a.id) && leb (length a.id) 34 && list_all is_c_byte a.id && is_kind a.kind) (reads_itself a.owner) ccy.0 in
    let kind = and_parts (leb 1 (length a.id) && leb (length a.id) 34 && list_all is_c_byte a.id) (is_kind a.kind) owner.0 in
    let plain = and_parts (leb 1 (length a.id) && leb (length a.id) 34) (list_all is_c_byte a.id) kind.0 in
    let sizes = and_parts (leb 1 (length a.id)) (leb (length a.id) 34) plain.0 in
    record {
      id_given = leb-true _ _ sizes.0;
      id_short = leb-true _ _ sizes.1;
      id_plain = plain.1;
      kind = kind.1;
      owner = same_bic (bic_of (a.owner.head ++ a.owner.branch)) a.owner owner.1;
      ccy = ccy.1;
      decimals = leb-true _ _ decimals.1;
    }

below : (x y : ℤ) → int_le x y ≡ true → x ≤ℤ y
below x y e = grind (arith, ints)

before : (x y z : ℤ) → x ≤ℤ y → y ≤ℤ z → x ≤ℤ z
before x y z p q = omega (arith, ints)

pub ends_sound : (floor ceil balance : ℤ) → are_ends floor ceil balance ≡ true → AreEnds floor ceil balance
ends_sound floor ceil balance e =
    let high = and_parts (int_le (negsuc 99999999999998) floor && int_le ceil (pos 99999999999999) && int_le floor balance) (int_le balance ceil) e in
    let low = and_parts (int_le (negsuc 99999999999998) floor && int_le ceil (pos 99999999999999)) (int_le floor balance) high.0 in
    let ends = and_parts (int_le (negsuc 99999999999998) floor) (int_le ceil (pos 99999999999999)) low.0 in
    let least = below (negsuc 99999999999998) floor ends.0 in
    let most = below ceil (pos 99999999999999) ends.1 in
    let above_floor = below floor balance low.1 in
    let below_ceil = below balance ceil high.1 in
    let between = before floor balance ceil above_floor below_ceil in
    record {
      floor_small = (least, before floor ceil (pos 99999999999999) between most);
      ceil_small = (before (negsuc 99999999999998) floor ceil least between, most);
      above_floor = above_floor;
      below_ceil = below_ceil;
    }

-- what two accounts that are apart have
pub record Apart (a b : Account) : Type 0 where
  pub ids : a.id ≢ b.id
  pub banks : IsSameBank a.kind a.owner.head a.ccy.0 b.kind b.owner.head b.ccy.0 → ⊥
  pub decimals : a.ccy ≡ b.ccy → a.decimals ≡ b.decimals

same_bytes : (xs ys : List ℕ) → xs ≡ ys → bytes_eq xs ys ≡ true
same_bytes xs ys e = (bytes_eq-Decides xs ys).1 e

same_decimals : (c d : Bool) → (not c || d) ≡ true → c ≡ true → d ≡ true
same_decimals true d e is = e
same_decimals false d e is = absurd (false≢true is)

not_either : (x y : Bool) → not (x || y) ≡ true → (x ≡ false) × (y ≡ false)
not_either true y e = absurd (false≢true e)
not_either false y e = (refl, not-true y e)

pub parted : (a b : Account) → apart a b ≡ true → Apart a b
parted a b e =
    let parts = and_parts (not (meets a b)) (agrees a b) e in
    let others = not_either (bytes_eq a.id b.id) (is_same_bank a b) parts.0 in
    record {
      ids = λ is. false≢true (sym others.0 ∙ same_bytes a.id b.id is);
      banks = λ is. false≢true
          (sym others.1
          ∙ and_from (not (eqb a.kind customer) && eqb a.kind b.kind && bytes_eq a.owner.head b.owner.head) (is_same_ccy a.ccy b.ccy)
          (and_from (not (eqb a.kind customer) && eqb a.kind b.kind) (bytes_eq a.owner.head b.owner.head)
          (and_from (not (eqb a.kind customer)) (eqb a.kind b.kind) (not_from_false (eqb a.kind customer) (ne_eqb a.kind customer is.bank))
          (eq-eqb a.kind b.kind is.kinds)) (same_bytes a.owner.head b.owner.head is.heads)) (same_bytes a.ccy.0 b.ccy.0 is.ccys));
      decimals = λ is. eqb-true _ _
          (same_decimals (is_same_ccy a.ccy b.ccy) (eqb a.decimals b.decimals) parts.1 (same_bytes a.ccy.0 b.ccy.0 (ap (λ (c : Ccy). c.0) is)));
    }

pub rows_sound : (accounts : List Account) → rows_fit accounts ≡ true → AreRows accounts
rows_sound accounts e =
    let split = and_parts (leb (length accounts) 1000 && list_all is_row accounts) (all_apart accounts) e in
    let ends = and_parts (leb (length accounts) 1000) (list_all is_row accounts) split.0 in
    let apart_rows : AreApart accounts = record {
      few = leb-true _ _ ends.0;
      formed = λ i a at. formed a (and_parts (is_formed a) (has_limits a) (all_at is_row accounts i a ends.1 at)).0;
      ids = λ i j a b ati atj is. elim (cases_order i j) [
        | inl same ↦ same
        | inr other ↦ elim other [
          | inl lt ↦ absurd ((parted a b (apart_at accounts i j a b split.1 lt ati atj)).ids is)
          | inr gt ↦ absurd ((parted b a (apart_at accounts j i b a split.1 gt atj ati)).ids (sym is))
        ]
      ];
      banks = λ i j a b ati atj is. elim (cases_order i j) [
        | inl same ↦ same
        | inr other ↦ elim other [
          | inl lt ↦ absurd ((parted a b (apart_at accounts i j a b split.1 lt ati atj)).banks is)
          | inr gt ↦ absurd
              ((parted b a (apart_at accounts j i b a split.1 gt atj ati)).banks
              (record { bank = λ z. is.bank (is.kinds ∙ z); kinds = sym is.kinds; heads = sym is.heads; ccys = sym is.ccys }))
        ]
      ];
      decimals = λ i j a b ati atj is. elim (cases_order i j) [
        | inl same ↦ ap (λ (x : Account). x.decimals) (same_Some a b (sym ati ∙ ap (slice_get accounts) same ∙ atj))
        | inr other ↦ elim other [
          | inl lt ↦ (parted a b (apart_at accounts i j a b split.1 lt ati atj)).decimals is
          | inr gt ↦ sym ((parted b a (apart_at accounts j i b a split.1 gt atj ati)).decimals (sym is))
        ]
      ];
    } in
    record {
      apart = apart_rows;
      limited = λ i a at. ends_sound a.floor a.ceil a.opening (and_parts (is_formed a) (has_limits a) (all_at is_row accounts i a ends.1 at)).1;
    }

-- what each passes, all pass
pub all_pass : {A : Type 0} (p : A → Bool) (xs : List A) → ((i : ℕ) (x : A) → slice_get xs i ≡ Some x → p x ≡ true) → list_all p xs ≡ true
all_pass p [] each = refl
all_pass p (x ∷ xs) each = and_from (p x) (list_all p xs) (each 0 x refl) (all_pass p xs (λ i y at. each (suc i) y at))

-- where each is apart from every later one, all are
all_apart_from : (xs : List Account) → ((i j : ℕ) (a b : Account) → i < j → slice_get xs i ≡ Some a → slice_get xs j ≡ Some b → apart a b ≡ true)
    → all_apart xs ≡ true
all_apart_from [] each = refl
all_apart_from (x ∷ xs) each =
    and_from (list_all (apart x) xs) (all_apart xs) (all_pass (apart x) xs (λ j b at. each 0 (suc j) x b (omega arith) refl at))
    (all_apart_from xs (λ i j a b lt ati atj. each (suc i) (suc j) a b (omega arith) ati atj))

pub formed_passes : (a : Account) → IsFormed a → is_formed a ≡ true
formed_passes a f =
    let sizes = and_from (leb 1 (length a.id)) (leb (length a.id) 34) (le-leb _ _ f.id_given) (le-leb _ _ f.id_short) in
    let plain = and_from (leb 1 (length a.id) && leb (length a.id) 34) (list_all is_c_byte a.id) sizes f.id_plain in
    let kind = and_from (leb 1 (length a.id) && leb (length a.id) 34 && list_all is_c_byte a.id) (is_kind a.kind) plain f.kind in
    let owner =
    and_from (leb 1 (length a.id) && leb (length a.id) 34 && list_all is_c_byte a.id && is_kind a.kind) (reads_itself a.owner) kind
    (bic_same (bic_of (a.owner.head ++ a.owner.branch)) a.owner f.owner) in
    let ccy =
    and_from (leb 1 (length a.id) && leb (length a.id) 34 && list_all is_c_byte a.id && is_kind a.kind && reads_itself a.owner)
    (list_all is_ascii_uppercase a.ccy.0) owner f.ccy in
    and_from
    (leb 1 (length a.id) && leb (length a.id) 34 && list_all is_c_byte a.id && is_kind a.kind && reads_itself a.owner
    && list_all is_ascii_uppercase a.ccy.0) (leb a.decimals 4) ccy (le-leb _ _ f.decimals)

not_above : (x y : ℤ) → x ≤ℤ y → int_le x y ≡ true
not_above x y e = grind (arith, ints)

pub ends_complete : (floor ceil balance : ℤ) → AreEnds floor ceil balance → are_ends floor ceil balance ≡ true
ends_complete floor ceil balance l =
    let ends =
    and_from (int_le (negsuc 99999999999998) floor) (int_le ceil (pos 99999999999999)) (not_above (negsuc 99999999999998) floor l.floor_small.0)
    (not_above ceil (pos 99999999999999) l.ceil_small.1) in
    let low =
    and_from (int_le (negsuc 99999999999998) floor && int_le ceil (pos 99999999999999)) (int_le floor balance) ends
    (not_above floor balance l.above_floor) in
    and_from (int_le (negsuc 99999999999998) floor && int_le ceil (pos 99999999999999) && int_le floor balance) (int_le balance ceil) low
    (not_above balance ceil l.below_ceil)

not_of : (b : Bool) → (b ≡ true → ⊥) → not b ≡ true
not_of true fails = absurd (fails refl)
not_of false fails = refl

either : (c d : Bool) → (c ≡ true → d ≡ true) → (not c || d) ≡ true
either true d so = so refl
either false d so = refl

ccy_of : (c d : Ccy) → is_same_ccy c d ≡ true → c ≡ d
ccy_of c d e = let digits : c.0 ≡ d.0 = (bytes_eq-Decides c.0 d.0).0 e in ap (λ (bs : List ℕ). record { 0 = bs }) digits

same_bank : (a b : Account) → (not (eqb a.kind customer) && eqb a.kind b.kind && bytes_eq a.owner.head b.owner.head && is_same_ccy a.ccy b.ccy) ≡ true
    → IsSameBank a.kind a.owner.head a.ccy.0 b.kind b.owner.head b.ccy.0
same_bank a b e =
    let ccy = and_parts (not (eqb a.kind customer) && eqb a.kind b.kind && bytes_eq a.owner.head b.owner.head) (is_same_ccy a.ccy b.ccy) e in
    let head = and_parts (not (eqb a.kind customer) && eqb a.kind b.kind) (bytes_eq a.owner.head b.owner.head) ccy.0 in
    let kind = and_parts (not (eqb a.kind customer)) (eqb a.kind b.kind) head.0 in
    record {
      bank = λ is. false≢true (sym (not-true (eqb a.kind customer) kind.0) ∙ eq-eqb a.kind customer is);
      kinds = eqb-true _ _ kind.1;
      heads = (bytes_eq-Decides a.owner.head b.owner.head).0 head.1;
      ccys = (bytes_eq-Decides a.ccy.0 b.ccy.0).0 ccy.1;
    }

neither : (x y : Bool) → x ≡ false → y ≡ false → not (x || y) ≡ true
neither true y a b = absurd (false≢true (sym a))
neither false y a b = not_from_false y b

pub apart_from : (a b : Account) → Apart a b → apart a b ≡ true
apart_from a b p =
    and_from (not (meets a b)) (agrees a b)
    (neither (bytes_eq a.id b.id) (is_same_bank a b)
    (not-true (bytes_eq a.id b.id) (not_of (bytes_eq a.id b.id) (λ is. p.ids ((bytes_eq-Decides a.id b.id).0 is))))
    (not-true (is_same_bank a b) (not_of (is_same_bank a b) (λ is. p.banks (same_bank a b is)))))
    (either (is_same_ccy a.ccy b.ccy) (eqb a.decimals b.decimals) (λ is. eq-eqb a.decimals b.decimals (p.decimals (ccy_of a.ccy b.ccy is))))

later : (i j : ℕ) → i < j → i ≡ j → ⊥
later i j lt is = omega arith

pub rows_complete : (accounts : List Account) → AreRows accounts → rows_fit accounts ≡ true
rows_complete accounts rows =
    let each =
    all_pass is_row accounts
    (λ i a at. and_from (is_formed a) (has_limits a) (formed_passes a (rows.apart.formed i a at)) (ends_complete a.floor a.ceil a.opening (rows.limited i a at))) in
    let ends = and_from (leb (length accounts) 1000) (list_all is_row accounts) (le-leb _ _ rows.apart.few) each in
    and_from (leb (length accounts) 1000 && list_all is_row accounts) (all_apart accounts) ends
    (all_apart_from accounts (λ i j a b lt ati atj. apart_from a b (record {
      ids = λ is. later i j lt (rows.apart.ids i j a b ati atj is);
      banks = λ is. later i j lt (rows.apart.banks i j a b ati atj is);
      decimals = λ is. rows.apart.decimals i j a b ati atj is;
    })))
