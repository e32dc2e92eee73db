-- What an index of a history keeps.
use Rattle.std.specs.Prelude.{◌≡◌, ◌<◌, Bool, ℕ, zero, suc, ◌+◌, ◌-◌, List, [], ◌∷◌, ◌++◌, length, map, take, slice_get, Some, ℤ, int_lt, ◌≤ℤ◌}
use Rattle.std.specs.Ordering.{int_eq}
use Rattle.std.specs.List.{filter}
use Rattle.corr_ids.specs.declared.day.Day.{Day}
use Rattle.day_model.specs.Chart.{Chart}
use Rattle.day_model.specs.declared.entry.Entry.{Entry}
use Rattle.day_model.specs.declared.pay.Leg.{Leg}
use Rattle.statement.specs.declared.ledger.Booking.{Booking}
use Rattle.statement.specs.declared.ledger.Ledger.{Ledger}
use Rattle.statement.specs.declared.movement.Movement.{Movement}
use Rattle.statement.specs.Index.{movement_of}

-- ---- ledgers that change

-- a list with its k-th element changed
abbrev pub changed_at : {A : Type 0} → ℕ → (A → A) → List A → List A
changed_at k change [] = []
changed_at zero change (x ∷ xs) = change x ∷ xs
changed_at (suc k) change (x ∷ xs) = x ∷ changed_at k change xs

-- a ledger with a movement more
abbrev pub pushed : Movement → Ledger → Ledger
pushed movement ledger = record ledger { movements = ledger.movements ++ movement ∷ [] }

-- a ledger without its last movement
abbrev pub undone : Ledger → Ledger
undone ledger = record ledger { movements = take (length ledger.movements - 1) ledger.movements }

-- a leg is on one of so many accounts
abbrev pub IsOnAccount : ℕ → Leg → Type 0
IsOnAccount count leg = (0 < leg.account.0) × (leg.account.0 - 1 < count)

-- a movement is on one of so many accounts
abbrev pub IsOnOneOf : ℕ → Booking → Type 0
IsOnOneOf count booking = (0 < booking.account.0) × (booking.account.0 - 1 < count)

-- ledgers with more movements, each on its account
abbrev pub pushed_each : List Booking → List Ledger → List Ledger
pushed_each [] ledgers = ledgers
pushed_each (booking ∷ bookings) ledgers = changed_at (booking.account.0 - 1) (pushed booking.movement) (pushed_each bookings ledgers)

-- what legs of the entry that follows these move, each on its account
abbrev pub bookings_of : Chart → List Entry → Entry → List Leg → List Booking
bookings_of chart before entry legs = map (λ leg. record { account = leg.account; movement = movement_of chart leg.account.0 before entry leg }) legs

-- ---- what a ledger tells

-- the balance after the last of movements that follow on a balance
abbrev pub last_balance : ℤ → List Movement → ℤ
last_balance balance [] = balance
last_balance balance (movement ∷ movements) = last_balance movement.balance movements

-- days of movements never fall
abbrev pub Rise : List Movement → Type 0
Rise movements =
    (i j : ℕ) (a b : Movement) → i < j → slice_get movements i ≡ Some a → slice_get movements j ≡ Some b → a.day.0 ≤ℤ b.day.0

-- a movement is of an earlier day
abbrev pub is_of_earlier_day : ℤ → Movement → Bool
is_of_earlier_day day movement = int_lt movement.day.0 day

-- the balance by the movements of earlier days
abbrev pub balance_at : Ledger → Day → ℤ
balance_at ledger day = last_balance ledger.opening (filter (is_of_earlier_day day.0) ledger.movements)

-- the movements of a day
abbrev pub on_day : Day → List Movement → List Movement
on_day day movements = filter (λ movement. int_eq movement.day.0 day.0) movements
