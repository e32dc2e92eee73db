-- Accounts as fields: a header's, and a new one's.
use Rattle.std.proofs.Common.{◌≡◌, ℕ, List, [], ◌∷◌, ◌++◌, Option, Some, refl, sym, ap, subst, ◌∙◌, append_assoc, arith}
use Rattle.std.specs.Prelude.{ℤ, pos, negsuc, ◌≤ℤ◌, FitsSigned, option_and_then}
use Rattle.std.specs.Int.{w64}
use Rattle.std.proofs.lemmas.Int.{ints}
use Rattle.std.proofs.lemmas.Option.{same_Some}
use Rattle.corr_ids.specs.Bic.{IsBic}
use Rattle.corr_ids.specs.declared.bic.Bic.{Bic}
use Rattle.day_model.specs.declared.account.Account.{Account}
use Rattle.day_model.specs.Chart.{HasCode, IsFormed, IsLimited, IsSmall}
use Rattle.jrn_codec.specs.declared.header.Balances.{Balances}
use Rattle.jrn_codec.specs.Spelling.{signed_bytes, bic_bytes, short_bytes}
use Rattle.jrn_codec.specs.Header.{account_bytes}
use Rattle.jrn_codec.specs.inner.Reading.{cut, byte_at, signed_at, bic_at}
use Rattle.jrn_codec.specs.inner.HeaderReading.{balances_at, account_read}
use Rattle.jrn_codec.proofs.Fields.{IsBytes, IsField, step, resume, cut_field, byte_field, signed64_field}
use Rattle.jrn_codec.proofs.Parts.{short_field}
use Rattle.jrn_codec.proofs.Identifiers.{bic_field}

-- ---- balances

abbrev balances_bytes : Balances → List ℕ
balances_bytes balances = signed_bytes w64 balances.floor ++ signed_bytes w64 balances.ceil ++ signed_bytes w64 balances.opening

pub record FitBalances (balances : Balances) : Type 0 where
  pub floor : FitsSigned w64 balances.floor
  pub ceil : FitsSigned w64 balances.ceil
  pub opening : FitsSigned w64 balances.opening

abbrev balances_opening : ℤ → ℤ → ℤ × List ℕ → Option (Balances × List ℕ)
balances_opening floor ceil opening = Some (record { floor = floor; ceil = ceil; opening = opening.0 }, opening.1)

abbrev balances_ceil : ℤ → ℤ × List ℕ → Option (Balances × List ℕ)
balances_ceil floor ceil = option_and_then (balances_opening floor ceil.0) (signed_at w64 ceil.1)

abbrev balances_floor : ℤ × List ℕ → Option (Balances × List ℕ)
balances_floor floor = option_and_then (balances_ceil floor.0) (signed_at w64 floor.1)

balances_takes : (bytes : List ℕ) (balances : Balances) (rest : List ℕ) → IsBytes bytes → balances_at bytes ≡ Some (balances, rest) → (bytes ≡ balances_bytes balances ++ rest) × FitBalances balances
unfolding balances_at
balances_takes bytes balances rest b e =
    let floor = step signed64_field balances_floor bytes (balances, rest) b e in
    let ceil = step signed64_field (balances_ceil floor.value) floor.rest (balances, rest) floor.bytes_on floor.on in
    let opening = step signed64_field (balances_opening floor.value ceil.value) ceil.rest (balances, rest) ceil.bytes_on ceil.on in
    let made : Balances = record { floor = floor.value; ceil = ceil.value; opening = opening.value } in
    let on = floor.parts ∙ ap (λ (s : List ℕ). signed_bytes w64 floor.value ++ s) (ceil.parts ∙ ap (λ (s : List ℕ). signed_bytes w64 ceil.value ++ s) opening.parts) in
    let whole : bytes ≡ balances_bytes made ++ opening.rest = on ∙ simp append_assoc in
    subst (λ (x : Balances × List ℕ). (bytes ≡ balances_bytes x.0 ++ x.1) × FitBalances x.0) (same_Some (made, opening.rest) (balances, rest) opening.on)
    (whole, record { floor = floor.fits; ceil = ceil.fits; opening = opening.fits })

balances_again : (balances : Balances) (rest : List ℕ) → FitBalances balances → balances_at (balances_bytes balances ++ rest) ≡ Some (balances, rest)
unfolding balances_at
balances_again balances rest fits =
    let opening : List ℕ = signed_bytes w64 balances.opening ++ rest in
    let regrouped : balances_bytes balances ++ rest ≡ signed_bytes w64 balances.floor ++ (signed_bytes w64 balances.ceil ++ opening) = simp append_assoc in
    ap balances_at regrouped
    ∙ resume signed64_field balances_floor balances.floor (signed_bytes w64 balances.ceil ++ opening) (Some (balances, rest)) fits.floor
    (resume signed64_field (balances_ceil balances.floor) balances.ceil opening (Some (balances, rest)) fits.ceil
    (resume signed64_field (balances_opening balances.floor balances.ceil) balances.opening rest (Some (balances, rest)) fits.opening refl))

balances_field : IsField balances_bytes balances_at FitBalances
balances_field = record { takes = balances_takes; again = balances_again }

-- ---- accounts

abbrev pub balances_of : Account → Balances
balances_of a = record { floor = a.floor; ceil = a.ceil; opening = a.opening }

-- the parts of an account, however they are grouped
row_parts : (id : List ℕ) (kind : ℕ) (owner ccy : List ℕ) (decimals : ℕ) (floor ceil opening rest : List ℕ)
    → id ++ (kind ∷ (owner ++ (ccy ++ (decimals ∷ (floor ++ ceil ++ opening ++ rest))))) ≡ (id ++ kind ∷ [] ++ owner ++ ccy ++ decimals ∷ []) ++ (floor ++ ceil ++ opening) ++ rest
row_parts id kind owner ccy decimals floor ceil opening rest = simp append_assoc refl

-- an account whose columns have their widths
pub record FitsRow (a : Account) : Type 0 where
  pub owner : IsBic a.owner
  pub code : HasCode a
  pub balances : FitBalances (balances_of a)

abbrev account_with : List ℕ → ℕ → Bic → List ℕ → ℕ → Balances → Account
account_with id kind owner ccy decimals balances = record {
  id = id;
  kind = kind;
  owner = owner;
  ccy = record { 0 = ccy };
  decimals = decimals;
  floor = balances.floor;
  ceil = balances.ceil;
  opening = balances.opening;
}

abbrev account_balances : List ℕ → ℕ → Bic → List ℕ → ℕ → Balances × List ℕ → Option (Account × List ℕ)
account_balances id kind owner ccy decimals balances = Some (account_with id kind owner ccy decimals balances.0, balances.1)

abbrev account_decimals : List ℕ → ℕ → Bic → List ℕ → ℕ × List ℕ → Option (Account × List ℕ)
account_decimals id kind owner ccy decimals = option_and_then (account_balances id kind owner ccy decimals.0) (balances_at decimals.1)

abbrev account_ccy : List ℕ → ℕ → Bic → List ℕ × List ℕ → Option (Account × List ℕ)
account_ccy id kind owner ccy = option_and_then (account_decimals id kind owner ccy.0) (byte_at ccy.1)

abbrev account_owner : List ℕ → ℕ → Bic × List ℕ → Option (Account × List ℕ)
account_owner id kind owner = option_and_then (account_ccy id kind owner.0) (cut 3 owner.1)

abbrev account_kind : List ℕ → ℕ × List ℕ → Option (Account × List ℕ)
account_kind id kind = option_and_then (account_owner id kind.0) (bic_at kind.1)

abbrev account_id : List ℕ × List ℕ → Option (Account × List ℕ)
account_id id = option_and_then (account_kind id.0) (byte_at id.1)

account_takes : (bytes : List ℕ) (a : Account) (rest : List ℕ) → IsBytes bytes → account_read bytes ≡ Some (a, rest) → (bytes ≡ account_bytes a ++ rest) × FitsRow a
unfolding account_read account_bytes
account_takes bytes a rest b e =
    let id = step short_field account_id bytes (a, rest) b e in
    let kind = step byte_field (account_kind id.value) id.rest (a, rest) id.bytes_on id.on in
    let owner = step bic_field (account_owner id.value kind.value) kind.rest (a, rest) kind.bytes_on kind.on in
    let ccy = step (cut_field 3) (account_ccy id.value kind.value owner.value) owner.rest (a, rest) owner.bytes_on owner.on in
    let decimals = step byte_field (account_decimals id.value kind.value owner.value ccy.value) ccy.rest (a, rest) ccy.bytes_on ccy.on in
    let balances = step balances_field (account_balances id.value kind.value owner.value ccy.value decimals.value) decimals.rest (a, rest) decimals.bytes_on decimals.on in
    let made : Account = account_with id.value kind.value owner.value ccy.value decimals.value balances.value in
    let on = id.parts ∙ ap (λ (s : List ℕ). short_bytes id.value ++ s) (kind.parts ∙ ap (λ (s : List ℕ). kind.value ∷ s)
    (owner.parts ∙ ap (λ (s : List ℕ). bic_bytes owner.value ++ s) (ccy.parts ∙ ap (λ (s : List ℕ). ccy.value ++ s)
    (decimals.parts ∙ ap (λ (s : List ℕ). decimals.value ∷ s) balances.parts)))) in
    let whole : bytes ≡ account_bytes made ++ balances.rest = on ∙ row_parts (short_bytes id.value) kind.value (bic_bytes owner.value) ccy.value decimals.value
    (signed_bytes w64 balances.value.floor) (signed_bytes w64 balances.value.ceil) (signed_bytes w64 balances.value.opening) balances.rest in
    subst (λ (x : Account × List ℕ). (bytes ≡ account_bytes x.0 ++ x.1) × FitsRow x.0) (same_Some (made, balances.rest) (a, rest) balances.on)
    (whole, record { owner = owner.fits; code = ccy.fits; balances = balances.fits })

account_again : (a : Account) (rest : List ℕ) → FitsRow a → account_read (account_bytes a ++ rest) ≡ Some (a, rest)
unfolding account_read account_bytes
account_again a rest fits =
    let balances : List ℕ = balances_bytes (balances_of a) ++ rest in
    let ccy : List ℕ = a.ccy.0 ++ (a.decimals ∷ balances) in
    let owner : List ℕ = bic_bytes a.owner ++ ccy in
    let regrouped : account_bytes a ++ rest ≡ short_bytes a.id ++ (a.kind ∷ owner) =
    sym (row_parts (short_bytes a.id) a.kind (bic_bytes a.owner) a.ccy.0 a.decimals (signed_bytes w64 a.floor) (signed_bytes w64 a.ceil) (signed_bytes w64 a.opening) rest) in
    ap account_read regrouped
    ∙ resume short_field account_id a.id (a.kind ∷ owner) (Some (a, rest)) tt
    (resume bic_field (account_owner a.id a.kind) a.owner ccy (Some (a, rest)) fits.owner
    (resume (cut_field 3) (account_ccy a.id a.kind a.owner) a.ccy.0 (a.decimals ∷ balances) (Some (a, rest)) fits.code
    (resume balances_field (account_balances a.id a.kind a.owner a.ccy.0 a.decimals) (balances_of a) rest (Some (a, rest)) fits.balances refl)))

pub account_field : IsField account_bytes account_read FitsRow
account_field = record { takes = account_takes; again = account_again }

-- ---- accounts of a book

small_fits : (z : ℤ) → IsSmall z → FitsSigned w64 z
small_fits (pos n) h = record { sfits = omega (arith, ints, h.1) }
small_fits (negsuc n) h = record { sfits = omega (arith, ints, h.0) }

between_small : (low z high : ℤ) → IsSmall low → IsSmall high → low ≤ℤ z → z ≤ℤ high → IsSmall z
between_small low z high l h p q = (omega (arith, ints, l.0, p), omega (arith, ints, h.1, q))

pub row_fits : (a : Account) → IsFormed a → IsLimited a → HasCode a → FitsRow a
row_fits a formed limited code = record {
  owner = formed.owner;
  code = code;
  balances = record {
    floor = small_fits a.floor limited.floor_small;
    ceil = small_fits a.ceil limited.ceil_small;
    opening = small_fits a.opening (between_small a.floor a.opening a.ceil limited.floor_small limited.ceil_small limited.above_floor limited.below_ceil);
  };
}
