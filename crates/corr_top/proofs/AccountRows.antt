-- The accounts of a table are the accounts of a book.
use Rattle.std.proofs.Common.{◌≡◌, ℕ, zero, suc, ◌<◌, ◌≤◌, List, [], ◌∷◌, Some, refl, sym, ap, ◌∙◌, subst, arith, length, map, eqb, leb}
use Rattle.std.specs.Prelude.{◌&&◌, slice_get, ℤ, pos, negsuc, unsigned_abs}
use Rattle.std.specs.List.{list_all}
use Rattle.std.specs.Char.{is_ascii_uppercase}
use Rattle.std.proofs.lemmas.Bool.{and_parts, leb-true}
use Rattle.std.proofs.lemmas.Int.{ints}
use Rattle.std.proofs.lemmas.Option.{same_Some, none-some}
use Rattle.corr_text.specs.Sets.{is_c_byte}
use Rattle.corr_ids.specs.Bic.{bic_of, is_bic, IsBic}
use Rattle.corr_ids.specs.declared.bic.Bic.{Bic}
use Rattle.corr_ids.proofs.laws.Spelling.{some_if, bic-again}
use Rattle.day_model.specs.declared.account.Account.{Account}
use Rattle.day_model.specs.Chart.{AreApart, AreRows, IsFormed, IsLimited, IsSmall}
use Rattle.ref_tables.specs.AccountList.{AreAccounts, IsAccount}
use Rattle.corr_ids.specs.Kinds.{IsSameBank}
use Rattle.ref_tables.specs.Seen.{Tables}
use Rattle.ref_tables.specs.declared.account.AccountRow.{AccountRow}
use Rattle.day_model.specs.declared.fault.AccountsFault.{AccountsFault}
use Rattle.day_model.specs.declared.fault.AccountsFault.TheVariants.{Unbalanced, Memory}
use Rattle.day_model.specs.Gap.{TellsUnbalanced}
use Rattle.std.specs.Prelude.{Result, Ok, Err, IfErr}
use Rattle.corr_money.specs.Amounts.{amount_end}
use Rattle.corr_top.specs.inner.Passing.{TellsDecimals}
use Rattle.corr_top.specs.Inputs.{opened}

record Made (rows : List AccountRow) (i : ℕ) (a : Account) : Type 0 where
  pub row : AccountRow
  pub there : slice_get rows i ≡ Some row
  pub is : opened row ≡ a

made : (rows : List AccountRow) (i : ℕ) (a : Account) → slice_get (map opened rows) i ≡ Some a → Made rows i a
made [] i a at = absurd (none-some a at)
made (r ∷ rows) zero a at = record { row = r; there = refl; is = same_Some (opened r) a at }
made (r ∷ rows) (suc i) a at = let m = made rows i a at in record { row = m.row; there = m.there; is = m.is }

-- a BIC that was read meets its grammar
spelled : (text : List ℕ) (b : Bic) → bic_of text ≡ Some b → IsBic b
spelled text b read = let parts = some_if (is_bic text) _ b read in subst IsBic parts.1 (bic-again text parts.0)

small : (z : ℤ) → unsigned_abs z < amount_end → IsSmall z
small (pos n) below = (omega (arith, ints), omega (arith, ints))
small (negsuc n) below = (omega (arith, ints), omega (arith, ints))

pub formed : (home : List ℕ) (t : Tables) (r : AccountRow) → IsAccount home t r → IsFormed (opened r)
formed home t r is =
    let id = and_parts (leb 1 (length r.id) && leb (length r.id) 34) (list_all is_c_byte r.id) is.id in
    let long = and_parts (leb 1 (length r.id)) (leb (length r.id) 34) id.0 in
    record {
      id_given = leb-true _ _ long.0;
      id_short = leb-true _ _ long.1;
      id_plain = id.1;
      kind = is.kind;
      owner = spelled is.owner.0 r.owner is.owner.1;
      ccy = (and_parts (eqb (length r.ccy.0) 3) (list_all is_ascii_uppercase r.ccy.0) is.ccy).1;
      decimals = is.few_decimals;
    }

limited : (home : List ℕ) (t : Tables) (r : AccountRow) → IsAccount home t r → IsLimited (opened r)
limited home t r is = record {
  floor_small = small r.floor is.floor_small;
  ceil_small = small r.ceil is.ceil_small;
  above_floor = is.above_floor;
  below_ceil = is.below_ceil;
}

-- accounts of one bank
abbrev OfOneBank : Account → Account → Type 0
OfOneBank a b = IsSameBank a.kind a.owner.head a.ccy.0 b.kind b.owner.head b.ccy.0

pub are_rows : (home : List ℕ) (t : Tables) (rows : List AccountRow) → AreAccounts home t rows → length (map opened rows) ≡ length rows → AreRows (map opened rows)
are_rows home t rows are long = record { apart = apart; limited = λ i a at. let m = made rows i a at in subst IsLimited m.is (limited home t m.row (are.each i m.row m.there)) }
  where
    apart : AreApart (map opened rows)
    apart = record {
      few = omega (arith, are.few, long);
      formed = λ i a at. let m = made rows i a at in subst IsFormed m.is (formed home t m.row (are.each i m.row m.there));
      ids = λ i j a b at also same. let m = made rows i a at in let n = made rows j b also in
          are.ids i j m.row n.row m.there n.there (ap (λ (x : Account). x.id) m.is ∙ same ∙ sym (ap (λ (x : Account). x.id) n.is));
      banks = λ i j a b at also same. let m = made rows i a at in let n = made rows j b also in
          are.relations i j m.row n.row m.there n.there (subst (λ x. OfOneBank x (opened n.row)) (sym m.is) (subst (OfOneBank a) (sym n.is) same));
      decimals = λ i j a b at also same. let m = made rows i a at in let n = made rows j b also in
          sym (ap (λ (x : Account). x.decimals) m.is) ∙ are.decimals i j m.row n.row m.there n.there (ap (λ (x : Account). x.ccy) m.is ∙ same ∙ sym (ap (λ (x : Account). x.ccy) n.is)) ∙ ap (λ (x : Account). x.decimals) n.is;
    }

-- a gap tells the decimals of an account
pub told_decimals : (accounts : List Account) (fault : AccountsFault) → AreRows accounts → TellsUnbalanced accounts fault → TellsDecimals fault
told_decimals accounts (Unbalanced ccy decimals sum) rows first =
    subst (λ d. d ≤ 4) first.is_gap.decimals (rows.apart.formed first.place first.account first.there).decimals
told_decimals accounts Memory rows first = tt

pub refusal_decimals : {A : Type 0} (accounts : List Account) (r : Result A AccountsFault) → AreRows accounts → IfErr r (TellsUnbalanced accounts) → IfErr r TellsDecimals
refusal_decimals accounts (Ok a) rows told = tt
refusal_decimals accounts (Err fault) rows told = told_decimals accounts fault rows told
