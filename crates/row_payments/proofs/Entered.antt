-- A history with one entry more.
use Rattle.std.proofs.Common.{◌≡◌, ◌<◌, false, List, [], ◌∷◌, ◌++◌, sym, subst, length, inl, inr}
use Rattle.std.specs.Prelude.{is_some}
use Rattle.corr_ids.specs.declared.day.Day.{Day}
use Rattle.corr_ids.specs.Day.{InCentury}
use Rattle.day_model.specs.declared.pay.Pay.{Pay}
use Rattle.day_model.specs.declared.entry.Entry.{Entry}
use Rattle.day_model.specs.Chart.{Chart}
use Rattle.day_model.specs.Fit.{FitsAccounts}
use Rattle.day_model.specs.Laws.{IsLatest}
use Rattle.day_model.specs.Legal.{IsLegal}
use Rattle.day_model.specs.Next.{entered_at, entry_of}
use Rattle.day_model.proofs.laws.Growth.{one_pay_more, still_latest}
use Rattle.day_model.proofs.laws.Slices.{in_pushed}
use Rattle.corr_report.specs.Bookings.{AreInCentury}
use Rattle.desk_rows.specs.Entries.{AreValued}

-- it stays legal
pub more_legal : (chart : Chart) (entries more : List Entry) (pay : Pay) (day : Day) → IsLegal chart entries → FitsAccounts chart pay → IsLatest entries day → length entries < 100000 → is_some (entered_at pay.mir entries) ≡ false → more ≡ entries ++ entry_of chart entries pay day ∷ [] → IsLegal chart more
more_legal chart entries more pay day legal fit latest room new is =
    subst (IsLegal chart) (sym is) (one_pay_more chart entries pay day legal fit latest room new)

-- no entry has a later day
pub more_latest : (chart : Chart) (entries more : List Entry) (pay : Pay) (day : Day) → IsLatest entries day → more ≡ entries ++ entry_of chart entries pay day ∷ [] → IsLatest more day
more_latest chart entries more pay day latest is =
    subst (λ (es : List Entry). IsLatest es day) (sym is) (still_latest chart entries pay day false latest)

-- each day lies in the century
pub more_days : (chart : Chart) (entries more : List Entry) (pay : Pay) (day : Day) → AreInCentury entries → InCentury day → more ≡ entries ++ entry_of chart entries pay day ∷ [] → AreInCentury more
more_days chart entries more pay day days within is =
    subst AreInCentury (sym is) (λ i e at. elim (in_pushed entries (entry_of chart entries pay day) i e at) [
      | inl old ↦ days i e old
      | inr new ↦ subst (λ (x : Entry). InCentury x.day) new.1 within
    ])

-- each value date does
pub more_values : (chart : Chart) (entries more : List Entry) (pay : Pay) (day : Day) → AreValued entries → InCentury pay.value → more ≡ entries ++ entry_of chart entries pay day ∷ [] → AreValued more
more_values chart entries more pay day values within is =
    subst AreValued (sym is) (λ i e at. elim (in_pushed entries (entry_of chart entries pay day) i e at) [
      | inl old ↦ values i e old
      | inr new ↦ subst (λ (x : Entry). InCentury x.pay.value) new.1 within
    ])
