-- A pay that is entered leaves the ledger sound.
use Rattle.std.proofs.Common.{◌≡◌, ℕ, ◌+◌, ◌<◌, Bool, true, false, ltb, List, [], ◌∷◌, ◌++◌, Some, refl, sym, ap, ◌∙◌, subst, arith, length, take}
use Rattle.std.specs.Prelude.{◌||◌, not, slice_get, is_some, if◌then◌else◌}
use Rattle.std.proofs.lemmas.Bool.{and_parts, and_left, cond-false, ltb-true, not_from_true}
use Rattle.std.proofs.lemmas.List.{append-nil, get_or_push, length_push, take-append-le, take_all}
use Rattle.std.proofs.lemmas.Option.{slice_get-get_or}
use Rattle.day_model.specs.declared.pay.Pay.{Pay}
use Rattle.day_model.specs.declared.entry.Entry.{Entry}
use Rattle.day_model.specs.declared.core_job.Mark.{Mark}
use Rattle.day_model.specs.declared.core_job.Mark.TheVariants.{Entered, Refused}
use Rattle.day_model.specs.Fit.{FitsAccounts}
use Rattle.day_model.specs.Balance.{is_booked, outcome_of}
use Rattle.day_model.specs.Next.{entered_at, entry_of, next_history}
use Rattle.day_model.specs.CoreLedger.{AreAtBalance, IsSoundLedger, LedgerState, is_entered, ledger_after, mark_of, may_enter}
use Rattle.day_model.specs.inner.CoreLedger.{CanAddAll}
use Rattle.day_model.proofs.laws.Fitting.{fitting}
use Rattle.day_model.proofs.laws.Growth.{enters_new, next_begins, one_pay_more, still, still_latest}
use Rattle.day_model.proofs.CorePurses.{can_add_all, purses_more, purses_with}

pub can_add_now : (ledger : LedgerState) (pay : Pay) → IsSoundLedger ledger → FitsAccounts ledger.chart pay → CanAddAll ledger.purses pay.legs
can_add_now ledger pay sound fits =
    let n = length ledger.entries in
    let all : take n ledger.entries ≡ ledger.entries = take_all n ledger.entries (omega arith) in
    can_add_all ledger.chart ledger.entries ledger.purses n pay.legs sound.chart sound.legal (omega arith)
    (subst (λ (es : List Entry). AreAtBalance ledger.chart es ledger.purses) (sym all) sound.purses) (fitting ledger.chart pay.legs fits)

-- the ledger after a pay, by whether its reference is entered and whether it is booked
abbrev with_pay : LedgerState → Pay → Bool → Bool → LedgerState
with_pay ledger pay entered booked = record ledger {
  entries = if entered then ledger.entries else ledger.entries ++ entry_of ledger.chart ledger.entries pay ledger.day ∷ [];
  purses = if entered then ledger.purses else purses_with booked ledger.purses pay.legs;
}

with_pay_sound : (ledger : LedgerState) (pay : Pay) (entered booked : Bool) → IsSoundLedger ledger → FitsAccounts ledger.chart pay
    → is_entered ledger pay ≡ entered → is_booked (outcome_of ledger.chart ledger.entries pay) ≡ booked
    → (entered ≡ false → length ledger.entries < 100000) → IsSoundLedger (with_pay ledger pay entered booked)
with_pay_sound ledger pay true booked sound fits is out room = record {
  chart = sound.chart;
  legal = sound.legal;
  latest = sound.latest;
  purses = sound.purses;
}
with_pay_sound ledger pay false booked sound fits is out room =
    let e : Entry = entry_of ledger.chart ledger.entries pay ledger.day in
    let n : ℕ = length ledger.entries in
    let more : List Entry = ledger.entries ++ e ∷ [] in
    let size : length more ≡ n + 1 = length_push ledger.entries e in
    let at : slice_get more n ≡ Some e = slice_get-get_or more n e (omega arith) ∙ ap (λ (x : Entry). Some x) (get_or_push ledger.entries e e n refl) in
    let before : take n more ≡ ledger.entries = take-append-le n ledger.entries (e ∷ []) (omega arith) ∙ take_all n ledger.entries (omega arith) in
    let after : take (n + 1) more ≡ more = take_all (n + 1) more (omega arith) in
    record {
      chart = sound.chart;
      legal = one_pay_more ledger.chart ledger.entries pay ledger.day sound.legal fits sound.latest (room refl) is;
      latest = still_latest ledger.chart ledger.entries pay ledger.day false sound.latest;
      purses = subst (λ (es : List Entry). AreAtBalance ledger.chart es (purses_with booked ledger.purses pay.legs)) after
          (purses_more ledger.chart more ledger.purses n e booked (fitting ledger.chart pay.legs fits) at out
          (subst (λ (es : List Entry). AreAtBalance ledger.chart es ledger.purses) (sym before) sound.purses));
    }

has_room : (ledger : LedgerState) (pay : Pay) → may_enter ledger pay ≡ true → is_entered ledger pay ≡ false → length ledger.entries < 100000
has_room ledger pay may new =
    let parts = and_parts (not ledger.broken) (is_entered ledger pay || ltb (length ledger.entries) 100000) may in
    ltb-true (length ledger.entries) 100000 (subst (λ (b : Bool). (b || ltb (length ledger.entries) 100000) ≡ true) new parts.1)

by_entering : (ledger : LedgerState) (pay : Pay) (b : Bool) → may_enter ledger pay ≡ b → IsSoundLedger ledger → FitsAccounts ledger.chart pay
    → IsSoundLedger (if b then with_pay ledger pay (is_entered ledger pay) (is_booked (outcome_of ledger.chart ledger.entries pay)) else ledger)
by_entering ledger pay true may sound fits =
    with_pay_sound ledger pay (is_entered ledger pay) (is_booked (outcome_of ledger.chart ledger.entries pay)) sound fits refl refl
    (has_room ledger pay may)
by_entering ledger pay false may sound fits = sound

pub ledger_after_sound : (ledger : LedgerState) (pay : Pay) → IsSoundLedger ledger → FitsAccounts ledger.chart pay
    → IsSoundLedger (ledger_after ledger pay)
ledger_after_sound ledger pay sound fits = by_entering ledger pay (may_enter ledger pay) refl sound fits

entries_by : (ledger : LedgerState) (pay : Pay) (b : Bool)
    → (more : List Entry) × ((if b then next_history ledger.chart ledger.entries pay ledger.day else ledger.entries) ≡ ledger.entries ++ more)
entries_by ledger pay true = next_begins ledger.chart ledger.entries pay ledger.day
entries_by ledger pay false = ([], sym (append-nil ledger.entries))

ledger_entries : (ledger : LedgerState) (pay : Pay) (b : Bool)
    → (if b then with_pay ledger pay (is_entered ledger pay) (is_booked (outcome_of ledger.chart ledger.entries pay)) else ledger).entries
    ≡ (if b then next_history ledger.chart ledger.entries pay ledger.day else ledger.entries)
ledger_entries ledger pay true = refl
ledger_entries ledger pay false = refl

ledger_chart_by : (ledger : LedgerState) (pay : Pay) (b : Bool)
    → (if b then with_pay ledger pay (is_entered ledger pay) (is_booked (outcome_of ledger.chart ledger.entries pay)) else ledger).chart ≡ ledger.chart
ledger_chart_by ledger pay true = refl
ledger_chart_by ledger pay false = refl

pub ledger_chart : (ledger : LedgerState) (pay : Pay) → (ledger_after ledger pay).chart ≡ ledger.chart
ledger_chart ledger pay = ledger_chart_by ledger pay (may_enter ledger pay)

-- entries are added at the end
pub ledger_begins : (ledger : LedgerState) (pay : Pay) → (more : List Entry) × ((ledger_after ledger pay).entries ≡ ledger.entries ++ more)
ledger_begins ledger pay =
    let grown = entries_by ledger pay (may_enter ledger pay) in
    (grown.0, ledger_entries ledger pay (may_enter ledger pay) ∙ grown.1)

-- what is entered stays so
pub entered_still : (ledger : LedgerState) (pay other : Pay) → is_entered ledger other ≡ true → is_entered (ledger_after ledger pay) other ≡ true
entered_still ledger pay other e =
    let grown = ledger_begins ledger pay in
    subst (λ (es : List Entry). is_some (entered_at other.mir es) ≡ true) (sym grown.1) (still other.mir ledger.entries grown.0 e)

marks_by : (ledger : LedgerState) (pay : Pay) (b : Bool) → may_enter ledger pay ≡ b → ◌≡◌ {A = Mark} (if b then Entered else Refused) Entered
    → is_entered (ledger_after ledger pay) pay ≡ true
marks_by ledger pay true may is =
    let grown : (ledger_after ledger pay).entries ≡ next_history ledger.chart ledger.entries pay ledger.day =
    ledger_entries ledger pay (may_enter ledger pay)
    ∙ ap (λ (b : Bool). if b then next_history ledger.chart ledger.entries pay ledger.day else ledger.entries) may in
    subst (λ (es : List Entry). is_some (entered_at pay.mir es) ≡ true) (sym grown)
    (enters_new ledger.chart ledger.entries pay ledger.day (is_entered ledger pay) refl)
marks_by ledger pay false may is = cc

-- a pay that is marked entered is
pub entered_now : (ledger : LedgerState) (pay : Pay) → mark_of ledger pay ≡ Entered → is_entered (ledger_after ledger pay) pay ≡ true
entered_now ledger pay is = marks_by ledger pay (may_enter ledger pay) refl is

-- after a fault nothing changes
pub broken_stays : (ledger : LedgerState) (pay : Pay) → ledger.broken ≡ true → ledger_after ledger pay ≡ ledger
broken_stays ledger pay broken =
    cond-false (may_enter ledger pay) (with_pay ledger pay (is_entered ledger pay) (is_booked (outcome_of ledger.chart ledger.entries pay))) ledger
    (and_left (not ledger.broken) (is_entered ledger pay || ltb (length ledger.entries) 100000) (not_from_true ledger.broken broken))
