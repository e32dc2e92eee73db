-- A history of one entry.
use Rattle.std.proofs.Common.{◌≡◌, ℕ, zero, suc, List, [], ◌∷◌, Some, refl, sym, subst, arith}
use Rattle.std.specs.Prelude.{All, slice_get, slice_index_or}
use Rattle.std.proofs.lemmas.Option.{same_Some, none-some, slice_get-get_or}
use Rattle.corr_ids.specs.declared.day.Day.{Day}
use Rattle.corr_ids.specs.Day.{InCentury}
use Rattle.day_model.specs.declared.pay.Pay.{Pay}
use Rattle.day_model.specs.declared.entry.Entry.{Entry}
use Rattle.day_model.specs.Chart.{Chart}
use Rattle.day_model.specs.Fit.{FitsAccounts}
use Rattle.day_model.specs.Next.{entry_of}
use Rattle.day_model.specs.Legal.{IsLegal}
use Rattle.day_model.proofs.laws.Growth.{empty_is_legal, one_pay_more}
use Rattle.corr_report.specs.Bookings.{AreInCentury}
use Rattle.desk_rows.specs.Entries.{AreValued}
use Rattle.desk_page.specs.Ahead.{IsDated}

-- it is legal where the pay fits accounts without changes
pub only_legal : (chart : Chart) (entries : List Entry) (pay : Pay) (day : Day) → chart.changes ≡ [] → FitsAccounts chart pay → entries ≡ entry_of chart [] pay day ∷ [] → IsLegal chart entries
only_legal chart entries pay day bare fit is =
    subst (IsLegal chart) (sym is) (one_pay_more chart [] pay day (empty_is_legal chart bare) fit (λ i e at. absurd (none-some e at)) (omega arith) refl)

-- the day of the only entry
day_of_only : (only : Entry) (i : ℕ) (e : Entry) → InCentury only.day → slice_get (only ∷ []) i ≡ Some e → InCentury e.day
day_of_only only zero e day at = subst (λ (x : Entry). InCentury x.day) (same_Some only e at) day
day_of_only only (suc i) e day at = absurd (none-some e at)

-- its day is that of the pay's entry
pub only_day : (chart : Chart) (entries : List Entry) (pay : Pay) (day : Day) → InCentury day → entries ≡ entry_of chart [] pay day ∷ [] → AreInCentury entries
only_day chart entries pay day within is =
    subst AreInCentury (sym is) (λ i e at. day_of_only (entry_of chart [] pay day) i e within at)

-- the value date of the only entry
value_of_only : (only : Entry) (i : ℕ) (e : Entry) → InCentury only.pay.value → slice_get (only ∷ []) i ≡ Some e → InCentury e.pay.value
value_of_only only zero e value at = subst (λ (x : Entry). InCentury x.pay.value) (same_Some only e at) value
value_of_only only (suc i) e value at = absurd (none-some e at)

-- its value date is the pay's
pub only_value : (chart : Chart) (entries : List Entry) (pay : Pay) (day value : Day) → InCentury value → pay.value ≡ value → entries ≡ entry_of chart [] pay day ∷ [] → AreValued entries
only_value chart entries pay day value within same is =
    subst AreValued (sym is) (λ i e at. value_of_only (entry_of chart [] pay day) i e (subst InCentury (sym same) within) at)

-- entries whose days and value dates are of these years can be dated on a page
pub dated : (entries : List Entry) → AreInCentury entries → AreValued entries → All IsDated entries
dated entries days values k d within =
    let entry = slice_index_or entries k d in
    let at = slice_get-get_or entries k d within in
    record { day = days k entry at; value = values k entry at }
