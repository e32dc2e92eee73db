-- Orders as fields.
use Rattle.std.proofs.Common.{◌≡◌, ℕ, zero, suc, cond, List, [], ◌∷◌, ◌++◌, Option, Some, None, refl, sym, ap, subst, ◌∙◌, append_assoc, arith}
use Rattle.std.specs.Prelude.{IfSome, option_and_then, nat_le}
use Rattle.std.proofs.lemmas.Option.{same_Some, none-some}
use Rattle.corr_ids.specs.Bic.{IsBic}
use Rattle.corr_ids.specs.declared.bic.Bic.{Bic}
use Rattle.day_model.specs.declared.pay.Skip.{Skip}
use Rattle.day_model.specs.declared.pay.Order.{Order}
use Rattle.day_model.specs.declared.pay.Order.TheVariants as order
use Rattle.day_model.specs.Shape.{IsNumbered, IsOrder}
use Rattle.jrn_codec.specs.Spelling.{bic_bytes, optional_bytes}
use Rattle.jrn_codec.specs.Record.{order_bytes, skip_mark}
use Rattle.jrn_codec.specs.inner.Reading.{byte_at, bic_at, mark_at, optional_at}
use Rattle.jrn_codec.specs.inner.RecordReading.{skip_marked, transfer_at, cover_at, pass_at, is_leg_number, noticed_at, debit_at, credit_at, order_at}
use Rattle.jrn_codec.proofs.Fields.{IsBytes, IsField, step, resume, tested, differs, byte_field}
use Rattle.jrn_codec.proofs.Parts.{mark_field, optional_field}
use Rattle.jrn_codec.proofs.Marks.{skip_marks}
use Rattle.jrn_codec.proofs.Identifiers.{bic_field}
use Rattle.jrn_codec.proofs.Legs.{after, both, le_true, true_le}

skip_field : IsField (λ (x : Skip). skip_mark x ∷ []) (mark_at skip_marked) (λ (x : Skip). Unit {0})
skip_field = mark_field skip_mark skip_marked skip_marks

via_field : IsField (optional_bytes bic_bytes) (optional_at bic_at) (λ (via : Option Bic). IfSome via IsBic)
via_field = optional_field bic_field

-- the bytes after the kind spell such an order
abbrev Spells : ℕ → ℕ → List ℕ → Order × List ℕ → Type 0
Spells legs kind bytes x = (kind ∷ bytes ≡ order_bytes x.0 ++ x.1) × IsOrder legs x.0

-- ---- transfers

abbrev transfer_via : Bic → Skip → Option Bic × List ℕ → Option (Order × List ℕ)
transfer_via to skip via = Some (order.Transfer to skip via.0, via.1)

abbrev transfer_skip : Bic → Skip × List ℕ → Option (Order × List ℕ)
transfer_skip to skip = option_and_then (transfer_via to skip.0) (optional_at bic_at skip.1)

abbrev transfer_to : Bic × List ℕ → Option (Order × List ℕ)
transfer_to to = option_and_then (transfer_skip to.0) (mark_at skip_marked to.1)

transfer_takes : (legs : ℕ) (bytes : List ℕ) (x : Order × List ℕ) → IsBytes bytes → transfer_at bytes ≡ Some x → Spells legs 1 bytes x
unfolding transfer_at
transfer_takes legs bytes x b e =
    let to = step bic_field transfer_to bytes x b e in
    let skip = step skip_field (transfer_skip to.value) to.rest x to.bytes_on to.on in
    let via = step via_field (transfer_via to.value skip.value) skip.rest x skip.bytes_on skip.on in
    let on = to.parts ∙ ap (λ (s : List ℕ). bic_bytes to.value ++ s) (skip.parts ∙ ap (λ (s : List ℕ). skip_mark skip.value ∷ s) via.parts) in
    let whole : 1 ∷ bytes ≡ order_bytes (order.Transfer to.value skip.value via.value) ++ via.rest = ap (λ (s : List ℕ). 1 ∷ s) on ∙ simp append_assoc in
    subst (Spells legs 1 bytes) (same_Some (order.Transfer to.value skip.value via.value, via.rest) x via.on) (whole, (to.fits, via.fits))

-- ---- covers

abbrev cover_skip : Bic → Bic → Skip × List ℕ → Option (Order × List ℕ)
cover_skip to end skip = Some (order.Cover to end skip.0, skip.1)

abbrev cover_end : Bic → Bic × List ℕ → Option (Order × List ℕ)
cover_end to end = option_and_then (cover_skip to end.0) (mark_at skip_marked end.1)

abbrev cover_to : Bic × List ℕ → Option (Order × List ℕ)
cover_to to = option_and_then (cover_end to.0) (bic_at to.1)

cover_takes : (legs : ℕ) (bytes : List ℕ) (x : Order × List ℕ) → IsBytes bytes → cover_at bytes ≡ Some x → Spells legs 2 bytes x
unfolding cover_at
cover_takes legs bytes x b e =
    let to = step bic_field cover_to bytes x b e in
    let end = step bic_field (cover_end to.value) to.rest x to.bytes_on to.on in
    let skip = step skip_field (cover_skip to.value end.value) end.rest x end.bytes_on end.on in
    let on = to.parts ∙ ap (λ (s : List ℕ). bic_bytes to.value ++ s) (end.parts ∙ ap (λ (s : List ℕ). bic_bytes end.value ++ s) skip.parts) in
    let whole : 2 ∷ bytes ≡ order_bytes (order.Cover to.value end.value skip.value) ++ skip.rest = ap (λ (s : List ℕ). 2 ∷ s) on ∙ simp append_assoc in
    subst (Spells legs 2 bytes) (same_Some (order.Cover to.value end.value skip.value, skip.rest) x skip.on) (whole, (to.fits, end.fits))

-- ---- covers that are passed on

abbrev pass_skip : Bic → Skip × List ℕ → Option (Order × List ℕ)
pass_skip to skip = Some (order.Pass to skip.0, skip.1)

abbrev pass_to : Bic × List ℕ → Option (Order × List ℕ)
pass_to to = option_and_then (pass_skip to.0) (mark_at skip_marked to.1)

pass_takes : (legs : ℕ) (bytes : List ℕ) (x : Order × List ℕ) → IsBytes bytes → pass_at bytes ≡ Some x → Spells legs 3 bytes x
unfolding pass_at
pass_takes legs bytes x b e =
    let to = step bic_field pass_to bytes x b e in
    let skip = step skip_field (pass_skip to.value) to.rest x to.bytes_on to.on in
    let on = to.parts ∙ ap (λ (s : List ℕ). bic_bytes to.value ++ s) skip.parts in
    let whole : 3 ∷ bytes ≡ order_bytes (order.Pass to.value skip.value) ++ skip.rest = ap (λ (s : List ℕ). 3 ∷ s) on ∙ simp append_assoc in
    subst (Spells legs 3 bytes) (same_Some (order.Pass to.value skip.value, skip.rest) x skip.on) (whole, to.fits)

-- ---- notices

-- a bank and one of so many legs
abbrev IsNotice : ℕ → Bic × ℕ → Type 0
IsNotice legs notice = IsBic notice.0 × IsNumbered legs notice.1

abbrev notice_bytes : Bic × ℕ → List ℕ
notice_bytes notice = bic_bytes notice.0 ++ notice.1 ∷ []

abbrev notice_leg : ℕ → Bic → ℕ × List ℕ → Option ((Bic × ℕ) × List ℕ)
notice_leg legs to leg = cond (is_leg_number legs leg.0) (Some ((to, leg.0), leg.1)) None

abbrev notice_to : ℕ → Bic × List ℕ → Option ((Bic × ℕ) × List ℕ)
notice_to legs to = option_and_then (notice_leg legs to.0) (byte_at to.1)

notice_takes : (legs : ℕ) (bytes : List ℕ) (notice : Bic × ℕ) (rest : List ℕ) → IsBytes bytes → noticed_at legs bytes ≡ Some (notice, rest) → (bytes ≡ notice_bytes notice ++ rest) × IsNotice legs notice
unfolding noticed_at
notice_takes legs bytes notice rest b e =
    let to = step bic_field (notice_to legs) bytes (notice, rest) b e in
    let leg = step byte_field (notice_leg legs to.value) to.rest (notice, rest) to.bytes_on to.on in
    let t = tested (is_leg_number legs leg.value) ((to.value, leg.value), leg.rest) (notice, rest) leg.on in
    let p = both (nat_le 1 leg.value) (nat_le leg.value legs) t.0 in
    let whole : bytes ≡ notice_bytes (to.value, leg.value) ++ leg.rest = to.parts ∙ ap (λ (s : List ℕ). bic_bytes to.value ++ s) leg.parts ∙ simp append_assoc in
    subst (λ (x : (Bic × ℕ) × List ℕ). (bytes ≡ notice_bytes x.0 ++ x.1) × IsNotice legs x.0) t.1 (whole, (to.fits, (le_true 1 leg.value p.0, le_true leg.value legs p.1)))

notice_again : (legs : ℕ) (notice : Bic × ℕ) (rest : List ℕ) → IsNotice legs notice → noticed_at legs (notice_bytes notice ++ rest) ≡ Some (notice, rest)
unfolding noticed_at
notice_again legs notice rest fits =
    let regrouped : notice_bytes notice ++ rest ≡ bic_bytes notice.0 ++ (notice.1 ∷ rest) = simp append_assoc in
    ap (noticed_at legs) regrouped
    ∙ resume bic_field (notice_to legs) notice.0 (notice.1 ∷ rest) (Some (notice, rest)) fits.0 (rw (true_le 1 notice.1 fits.1.0, true_le notice.1 legs fits.1.1) refl)

notice_field : (legs : ℕ) → IsField notice_bytes (noticed_at legs) (IsNotice legs)
notice_field legs = record { takes = notice_takes legs; again = notice_again legs }

debit_takes : (legs : ℕ) (bytes : List ℕ) (x : Order × List ℕ) → IsBytes bytes → debit_at legs bytes ≡ Some x → Spells legs 4 bytes x
unfolding debit_at
debit_takes legs bytes x b e =
    let notice = step (notice_field legs) (λ notice. Some (order.Debit notice.0.0 notice.0.1, notice.1)) bytes x b e in
    let whole : 4 ∷ bytes ≡ order_bytes (order.Debit notice.value.0 notice.value.1) ++ notice.rest = ap (λ (s : List ℕ). 4 ∷ s) notice.parts in
    subst (Spells legs 4 bytes) (same_Some (order.Debit notice.value.0 notice.value.1, notice.rest) x notice.on) (whole, notice.fits)

credit_takes : (legs : ℕ) (bytes : List ℕ) (x : Order × List ℕ) → IsBytes bytes → credit_at legs bytes ≡ Some x → Spells legs 5 bytes x
unfolding credit_at
credit_takes legs bytes x b e =
    let notice = step (notice_field legs) (λ notice. Some (order.Credit notice.0.0 notice.0.1, notice.1)) bytes x b e in
    let whole : 5 ∷ bytes ≡ order_bytes (order.Credit notice.value.0 notice.value.1) ++ notice.rest = ap (λ (s : List ℕ). 5 ∷ s) notice.parts in
    subst (Spells legs 5 bytes) (same_Some (order.Credit notice.value.0 notice.value.1, notice.rest) x notice.on) (whole, notice.fits)

-- ---- all kinds

order_takes : (legs : ℕ) (bytes : List ℕ) (o : Order) (rest : List ℕ) → IsBytes bytes → order_at legs bytes ≡ Some (o, rest) → (bytes ≡ order_bytes o ++ rest) × IsOrder legs o
unfolding order_at
order_takes legs [] o rest b e = absurd cc
order_takes legs (zero ∷ bytes) o rest b e = absurd cc
order_takes legs (suc zero ∷ bytes) o rest b e = transfer_takes legs bytes (o, rest) (after 1 bytes b) e
order_takes legs (suc (suc zero) ∷ bytes) o rest b e = cover_takes legs bytes (o, rest) (after 2 bytes b) e
order_takes legs (suc (suc (suc zero)) ∷ bytes) o rest b e = pass_takes legs bytes (o, rest) (after 3 bytes b) e
order_takes legs (suc (suc (suc (suc zero))) ∷ bytes) o rest b e = debit_takes legs bytes (o, rest) (after 4 bytes b) e
order_takes legs (suc (suc (suc (suc (suc zero)))) ∷ bytes) o rest b e = credit_takes legs bytes (o, rest) (after 5 bytes b) e
order_takes legs (suc (suc (suc (suc (suc (suc c))))) ∷ bytes) o rest b e =
    let none : order_at legs (suc (suc (suc (suc (suc (suc c))))) ∷ bytes) ≡ None = simp (differs (suc (suc (suc (suc (suc (suc c)))))) 1 (omega arith), differs (suc (suc (suc (suc (suc (suc c)))))) 2 (omega arith), differs (suc (suc (suc (suc (suc (suc c)))))) 3 (omega arith), differs (suc (suc (suc (suc (suc (suc c)))))) 4 (omega arith), differs (suc (suc (suc (suc (suc (suc c)))))) 5 (omega arith)) refl in
    absurd (none-some (o, rest) (sym none ∙ e))

transfer_again : (to : Bic) (skip : Skip) (via : Option Bic) (rest : List ℕ) → IsBic to → IfSome via IsBic
    → transfer_at (bic_bytes to ++ (skip_mark skip ∷ (optional_bytes bic_bytes via ++ rest))) ≡ Some (order.Transfer to skip via, rest)
unfolding transfer_at
transfer_again to skip via rest t v =
    let all : Option (Order × List ℕ) = Some (order.Transfer to skip via, rest) in
    resume bic_field transfer_to to (skip_mark skip ∷ (optional_bytes bic_bytes via ++ rest)) all t
    (resume skip_field (transfer_skip to) skip (optional_bytes bic_bytes via ++ rest) all tt
    (resume via_field (transfer_via to skip) via rest all v refl))

cover_again : (to end : Bic) (skip : Skip) (rest : List ℕ) → IsBic to → IsBic end → cover_at (bic_bytes to ++ (bic_bytes end ++ (skip_mark skip ∷ rest))) ≡ Some (order.Cover to end skip, rest)
unfolding cover_at
cover_again to end skip rest t u =
    let all : Option (Order × List ℕ) = Some (order.Cover to end skip, rest) in
    resume bic_field cover_to to (bic_bytes end ++ (skip_mark skip ∷ rest)) all t
    (resume bic_field (cover_end to) end (skip_mark skip ∷ rest) all u
    (resume skip_field (cover_skip to end) skip rest all tt refl))

pass_again : (to : Bic) (skip : Skip) (rest : List ℕ) → IsBic to → pass_at (bic_bytes to ++ (skip_mark skip ∷ rest)) ≡ Some (order.Pass to skip, rest)
unfolding pass_at
pass_again to skip rest t =
    let all : Option (Order × List ℕ) = Some (order.Pass to skip, rest) in
    resume bic_field pass_to to (skip_mark skip ∷ rest) all t (resume skip_field (pass_skip to) skip rest all tt refl)

debit_again : (legs : ℕ) (to : Bic) (leg : ℕ) (rest : List ℕ) → IsNotice legs (to, leg) → debit_at legs (notice_bytes (to, leg) ++ rest) ≡ Some (order.Debit to leg, rest)
unfolding debit_at
debit_again legs to leg rest fits = resume (notice_field legs) (λ notice. Some (order.Debit notice.0.0 notice.0.1, notice.1)) (to, leg) rest (Some (order.Debit to leg, rest)) fits refl

credit_again : (legs : ℕ) (to : Bic) (leg : ℕ) (rest : List ℕ) → IsNotice legs (to, leg) → credit_at legs (notice_bytes (to, leg) ++ rest) ≡ Some (order.Credit to leg, rest)
unfolding credit_at
credit_again legs to leg rest fits = resume (notice_field legs) (λ notice. Some (order.Credit notice.0.0 notice.0.1, notice.1)) (to, leg) rest (Some (order.Credit to leg, rest)) fits refl

order_again : (legs : ℕ) (o : Order) (rest : List ℕ) → IsOrder legs o → order_at legs (order_bytes o ++ rest) ≡ Some (o, rest)
unfolding order_at
order_again legs (order.Transfer to skip via) rest fits =
    let regrouped : order_bytes (order.Transfer to skip via) ++ rest ≡ 1 ∷ (bic_bytes to ++ (skip_mark skip ∷ (optional_bytes bic_bytes via ++ rest))) = simp append_assoc in
    ap (order_at legs) regrouped ∙ transfer_again to skip via rest fits.0 fits.1
order_again legs (order.Cover to end skip) rest fits =
    let regrouped : order_bytes (order.Cover to end skip) ++ rest ≡ 2 ∷ (bic_bytes to ++ (bic_bytes end ++ (skip_mark skip ∷ rest))) = simp append_assoc in
    ap (order_at legs) regrouped ∙ cover_again to end skip rest fits.0 fits.1
order_again legs (order.Pass to skip) rest fits =
    let regrouped : order_bytes (order.Pass to skip) ++ rest ≡ 3 ∷ (bic_bytes to ++ (skip_mark skip ∷ rest)) = simp append_assoc in
    ap (order_at legs) regrouped ∙ pass_again to skip rest fits
order_again legs (order.Debit to leg) rest fits = debit_again legs to leg rest fits
order_again legs (order.Credit to leg) rest fits = credit_again legs to leg rest fits

pub order_field : (legs : ℕ) → IsField order_bytes (order_at legs) (IsOrder legs)
order_field legs = record { takes = order_takes legs; again = order_again legs }
