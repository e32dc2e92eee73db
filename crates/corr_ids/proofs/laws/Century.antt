-- The days of the century and their dates, counted from 1 January 1980.
use Rattle.std.proofs.Common.{◌≡◌, ℕ, zero, suc, ◌+◌, ◌-◌, ◌<◌, ◌≤◌, inl, inr, Some, refl, sym, ap, ◌∙◌, arith, pos, ◌-ℤ◌, unsigned_abs, nat_lt}
use Rattle.std.specs.Int.{IsInRange}
use Rattle.std.proofs.lemmas.Bool.{cases_Bool, cases_order}
use Rattle.jiff_core.specs.declared.civil.date.Date.{Date}
use Rattle.jiff_core.specs.Calendar.{day_count, days_from_civil, days_in_month, IsCivilDate, IsDate}
use Rattle.jiff_core.specs.Date.{epoch_day}
use Rattle.jiff_core.proofs.SignedLemmas.{signed_arith}
use Rattle.jiff_core.proofs.MarchLemmas.{day_count-early}
use Rattle.jiff_core.proofs.CalendarLemmas.{days_from_civil-day_count, day_count-later_year, day_count-day_of_year, day_of_year_bound, day_count-day, day_count-next_month, day_count-next_year, day_count-last_of_year, days_in_month_bounds}
use Rattle.jiff_core.proofs.DateLemmas.{epoch_day_injective}
use Rattle.corr_ids.specs.declared.day.Day.{Day}
use Rattle.corr_ids.specs.Day.{Civil, InCentury, civil_day, civil_of, date_after, next_date}
use Rattle.corr_ids.proofs.laws.Civil.{civil-true}
use borrow.Author.Differences.{up, down}
use borrow.Author.Tests.{ltb-true, ltb-false}

-- the day counts of 1 January 1980 and 1 January 2080
first_count : day_count (pos 1980) 1 1 ≡ 4_375_605
first_count = day_count-early (pos 1980) 11979 1 1 refl (omega arith) (omega arith) (omega arith)

end_count : day_count (pos 2080) 1 1 ≡ 4_412_130
end_count = day_count-early (pos 2080) 12079 1 1 refl (omega arith) (omega arith) (omega arith)

-- a date from 1980 to 2079 is a day of the century
count_bounds : (y m d : ℕ) → IsInRange 1980 2079 y → IsCivilDate (pos y) m d → (4_375_605 ≤ day_count (pos y) m d) × (day_count (pos y) m d < 4_412_130)
count_bounds y m d years civil =
    let place = day_count-day_of_year (pos y) m d civil.2.0 in
    let within = day_of_year_bound (pos y) m d civil in
    let high = day_count-later_year (pos y) (pos 2080) (omega (arith, signed_arith)) (omega (arith, signed_arith)) in
    let low : 4_375_605 ≤ day_count (pos y) 1 1 =
    elim (cases_order y 1980) [
      | inl same ↦ rw same (omega (arith, first_count))
      | inr (inl below) ↦ absurd (omega arith)
      | inr (inr above) ↦ omega (arith, first_count, day_count-later_year (pos 1980) (pos y) (omega (arith, signed_arith)) (omega (arith, signed_arith)))
    ] in
    omega (arith, end_count)

pub century_from : (y m d : ℕ) → IsInRange 1980 2079 y → IsDate (pos y) (pos m) (pos d) → InCentury (record { 0 = days_from_civil (pos y) m d })
century_from y m d years date =
    let civil : IsCivilDate (pos y) m d = (date.0, omega (arith, signed_arith), omega (arith, signed_arith)) in
    let bounds = count_bounds y m d years civil in
    (omega (arith, signed_arith, days_from_civil-day_count), omega (arith, signed_arith, days_from_civil-day_count))

-- what the n-th date after 1 January 1980 has
record Counted (n : ℕ) (c : Civil) : Type 0 where
  year_in : 1980 ≤ c.year
  month_in : IsInRange 1 12 c.month
  day_in : IsInRange 1 (days_in_month (pos c.year) c.month) c.day
  count : day_count (pos c.year) c.month c.day ≡ 4_375_605 + n

-- the next day of the month, the first of the next month, and 1 January
more_days : (n : ℕ) (c : Civil) → Counted n c → c.day < days_in_month (pos c.year) c.month → Counted (suc n) (record c { day = c.day + 1 })
more_days n c h lt = record {
  year_in = h.year_in;
  month_in = h.month_in;
  day_in = (omega arith, omega arith);
  count = omega (arith, h.count, day_count-day (pos c.year) c.month c.day (c.day + 1) h.day_in.0 (omega arith));
}

more_months : (n : ℕ) (c : Civil) → Counted n c → c.day ≡ days_in_month (pos c.year) c.month → c.month < 12 → Counted (suc n) (record { year = c.year; month = c.month + 1; day = 1 })
more_months n c h last lt = record {
  year_in = h.year_in;
  month_in = (omega arith, omega arith);
  day_in = (omega arith, omega (arith, days_in_month_bounds (pos c.year) (c.month + 1)));
  count = omega (arith, h.count, day_count-day (pos c.year) c.month c.day 1 h.day_in.0 (omega arith), day_count-next_month (pos c.year) c.month h.month_in.0);
}

more_years : (n : ℕ) (c : Civil) → Counted n c → c.day ≡ 31 → c.month ≡ 12 → Counted (suc n) (record { year = c.year + 1; month = 1; day = 1 })
more_years n c h last december =
    let count : day_count (pos c.year) 12 31 ≡ 4_375_605 + n = rw (← december, ← last) h.count in
    record {
      year_in = omega arith;
      month_in = (omega arith, omega arith);
      day_in = (omega arith, omega (arith, days_in_month_bounds (pos (c.year + 1)) 1));
      count = omega (arith, count, day_count-last_of_year (pos c.year), day_count-next_year (pos c.year) (pos (c.year + 1)) (omega (arith, signed_arith)) (omega (arith, signed_arith)));
    }

next_counted : (n : ℕ) (c : Civil) → Counted n c → Counted (suc n) (next_date c)
next_counted n c h =
    elim (cases_Bool (nat_lt c.day (days_in_month (pos c.year) c.month))) [
      | inl more ↦ rw more (more_days n c h (ltb-true c.day (days_in_month (pos c.year) c.month) more))
      | inr end ↦
          let last : c.day ≡ days_in_month (pos c.year) c.month = omega (arith, h.day_in, ltb-false c.day (days_in_month (pos c.year) c.month) end) in
          rw end (elim (cases_Bool (nat_lt c.month 12)) [
            | inl more ↦ rw more (more_months n c h last (ltb-true c.month 12 more))
            | inr over ↦
                let december : c.month ≡ 12 = omega (arith, h.month_in, ltb-false c.month 12 over) in
                rw over (more_years n c h (rw december at last) december)
          ])
    ]

counted : (n : ℕ) → Counted n (date_after n)
unfolding date_after
counted zero = record { year_in = omega arith; month_in = omega arith; day_in = omega arith; count = first_count }
counted (suc n) = next_counted n (date_after n) (counted n)

-- before the century's end the year is one of it
year_bound : (n : ℕ) (c : Civil) → n < 36_525 → Counted n c → c.year ≤ 2079
year_bound n c lt h =
    let after = day_count-day_of_year (pos c.year) c.month c.day h.day_in.0 in
    elim (cases_order c.year 2080) [
      | inl same ↦
          let first : day_count (pos c.year) 1 1 ≡ 4_412_130 = rw same end_count in
          absurd (omega (arith, first, h.count, after))
      | inr (inl below) ↦ omega arith
      | inr (inr above) ↦ absurd (omega (arith, end_count, h.count, after, day_count-later_year (pos 2080) (pos c.year) (omega (arith, signed_arith)) (omega (arith, signed_arith))))
    ]

-- the days from 1 January 1980 to a day
offset : Day → ℕ
offset d = unsigned_abs (d.0 -ℤ pos 3652)

offset_is : (d : Day) → InCentury d → d.0 ≡ pos (3652 + offset d)
unfolding offset
offset_is d century =
    let difference : d.0 -ℤ pos 3652 ≡ pos (up d.0 - down d.0 - 3652) = omega (arith, signed_arith) in
    rw difference (omega (arith, signed_arith))

offset_bound : (d : Day) → InCentury d → offset d < 36_525
offset_bound d century = omega (arith, signed_arith, offset_is d century)

-- the date of a day of the century has that day's number
number_is : (d : Day) → InCentury d → days_from_civil (pos (civil_of d).year) (civil_of d).month (civil_of d).day ≡ d.0
unfolding offset
number_is d century =
    let h = counted (offset d) in
    omega (arith, signed_arith, h.count, offset_is d century, days_from_civil-day_count)

-- a date as jiff has it
dated : (y m n : ℕ) → IsDate (pos y) (pos m) (pos n) → Date
dated y m n valid = record { year = pos y; month = m; day = n; year_in = valid.0; month_in = (omega (arith, signed_arith), omega (arith, signed_arith)); day_in = (omega (arith, signed_arith), omega (arith, signed_arith)) }

counted_date : (n : ℕ) (c : Civil) → n < 36_525 → Counted n c → IsDate (pos c.year) (pos c.month) (pos c.day)
counted_date n c lt h =
    let high = year_bound n c lt h in
    (omega (arith, signed_arith), omega (arith, signed_arith), omega (arith, signed_arith))

-- the date of a day of the century
pub date_is : (d : Day) (date : Date) → InCentury d → epoch_day date ≡ d.0 → (date.year ≡ pos (civil_of d).year) × (date.month ≡ (civil_of d).month) × (date.day ≡ (civil_of d).day)
unfolding dated offset
date_is d date century e =
    let valid = counted_date (offset d) (civil_of d) (offset_bound d century) (counted (offset d)) in
    epoch_day_injective date (dated (civil_of d).year (civil_of d).month (civil_of d).day valid) (e ∙ sym (number_is d century))

-- and it is the only date with that number
pub civil_is : (y m n : ℕ) (d : Day) → IsDate (pos y) (pos m) (pos n) → InCentury d → days_from_civil (pos y) m n ≡ d.0 → ((civil_of d).year ≡ y) × ((civil_of d).month ≡ m) × ((civil_of d).day ≡ n)
unfolding dated
civil_is y m n d valid century e =
    let is = date_is d (dated y m n valid) century e in
    (omega (arith, signed_arith), sym is.1, sym is.2)

-- a day of the century has the date that the calendar gives it
pub civil-again : (d : Day) → InCentury d → civil_day (civil_of d).year (civil_of d).month (civil_of d).day ≡ Some d
unfolding offset
civil-again d century =
    let c : Civil = civil_of d in
    let date = counted_date (offset d) (civil_of d) (offset_bound d century) (counted (offset d)) in
    rw (civil-true c.year c.month c.day date) (ap (λ z. let at : Day = record { 0 = z } in Some at) (number_is d century))

-- which has two digits in each part
pub record Parted (c : Civil) : Type 0 where
  pub year_in : IsInRange 1980 2079 c.year
  pub month_in : c.month ≤ 99
  pub day_in : c.day ≤ 99

-- the year, month and day of a day of the century lie in their ranges
pub in_parts : (d : Day) → InCentury d → Parted (civil_of d)
unfolding offset
in_parts d century =
    let h = counted (offset d) in
    let high = year_bound (offset d) (civil_of d) (offset_bound d century) h in
    record {
      year_in = (h.year_in, high);
      month_in = omega (arith, h.month_in);
      day_in = omega (arith, h.day_in, days_in_month_bounds (pos (civil_of d).year) (civil_of d).month);
    }
