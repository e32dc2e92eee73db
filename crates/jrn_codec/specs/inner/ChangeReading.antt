-- Reading a change from all of the bytes.
use Rattle.std.specs.Prelude.{ℕ, ◌==◌, ◌&&◌, List, length, Option, Some, None, if◌then◌else◌}
use Rattle.std.specs.Int.{w16, w64}
use Rattle.corr_ids.specs.Day.{◌>>=◌}
use Rattle.day_model.specs.declared.change.What.{What}
use Rattle.day_model.specs.declared.change.What.TheVariants.{Opened, Limits}
use Rattle.jrn_codec.specs.inner.Reading.{byte_at, number_at, signed_at}
use Rattle.jrn_codec.specs.inner.HeaderReading.{account_read}

-- a new account
unfoldable pub opened_at : List ℕ → Option (What × List ℕ)
opened_at bytes = do
  account ← account_read bytes
  Some (Opened account.0, account.1)

-- the ends of an account
unfoldable pub ends_at : List ℕ → Option (What × List ℕ)
ends_at bytes = do
  n ← number_at w16 bytes
  floor ← signed_at w64 n.1
  ceil ← signed_at w64 floor.1
  Some (Limits (record { 0 = n.0 }) floor.0 ceil.0, ceil.1)

-- what changes, after the mark of its kind
unfoldable pub what_at : List ℕ → Option (What × List ℕ)
what_at bytes = do
  kind ← byte_at bytes
  if kind.0 == 0 then opened_at kind.1 else if kind.0 == 1 then ends_at kind.1 else None

-- the change that all of the bytes spell, whether or not a new account has the form of its columns
unfoldable pub change_read : List ℕ → Option What
change_read bytes = do
  mark ← byte_at bytes
  what ← what_at mark.1
  if (mark.0 == 1) && (length what.1 == 0) then Some what.0 else None
