-- Reading a header from all of the bytes.
use Rattle.std.specs.Prelude.{ℕ, ◌==◌, List, [], length, Option, Some, None, if◌then◌else◌}
use Rattle.std.specs.Str.{bytes_eq}
use Rattle.std.specs.Int.{w16, w64}
use Rattle.corr_ids.specs.Day.{◌>>=◌}
use Rattle.corr_ids.specs.declared.bic.Bic.{Bic}
use Rattle.day_model.specs.declared.account.Account.{Account}
use Rattle.day_model.specs.Chart.{Chart}
use Rattle.jrn_codec.specs.declared.header.Balances.{Balances}
use Rattle.jrn_codec.specs.inner.Reading.{cut, byte_at, number_at, signed_at, bic_at, short_at, items_at}

-- floor, ceiling and opening
unfoldable pub balances_at : List ℕ → Option (Balances × List ℕ)
balances_at bytes = do
  floor ← signed_at w64 bytes
  ceil ← signed_at w64 floor.1
  opening ← signed_at w64 ceil.1
  Some (record { floor = floor.0; ceil = ceil.0; opening = opening.0 }, opening.1)

-- an account, whatever its columns are
unfoldable pub account_read : List ℕ → Option (Account × List ℕ)
account_read bytes = do
  id ← short_at bytes
  kind ← byte_at id.1
  owner ← bic_at kind.1
  ccy ← cut 3 owner.1
  decimals ← byte_at ccy.1
  balances ← balances_at decimals.1
  Some (
    record {
      id = id.0;
      kind = kind.0;
      owner = owner.0;
      ccy = record { 0 = ccy.0 };
      decimals = decimals.0;
      floor = balances.0.floor;
      ceil = balances.0.ceil;
      opening = balances.0.opening;
    },
    balances.1,
  )

-- a book that begins with these accounts and has no changes
abbrev pub unchanged : Bic → List Account → Chart
unchanged home accounts = record { home = home; first = accounts; changes = [] }

-- the home bank and the accounts that its book begins with, after the version
unfoldable pub chart_read : List ℕ → Option Chart
chart_read bytes = do
  home ← bic_at bytes
  count ← number_at w16 home.1
  accounts ← items_at account_read count.0 count.1
  if length accounts.1 == 0 then Some (unchanged home.0 accounts.0) else None

-- the rows that all of the bytes spell in a version, whether or not they are accounts of a book
unfoldable pub header_read : List ℕ → List ℕ → Option Chart
header_read version bytes = do
  mark ← cut 6 bytes
  if bytes_eq mark.0 version then chart_read mark.1 else None
