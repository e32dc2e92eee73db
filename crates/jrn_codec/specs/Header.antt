-- The header of a journal: the home bank and the accounts that its book begins with.
use Rattle.std.specs.Prelude.{◌≡◌, ℕ, All, List, [], ◌∷◌, ◌++◌, length, codes}
use Rattle.std.specs.List.{flat_map}
use Rattle.std.specs.Int.{w16, w64, to_be_bytes}
use Rattle.corr_ids.specs.Bic.{IsBic}
use Rattle.corr_ids.specs.declared.bic.Bic.{Bic}
use Rattle.day_model.specs.declared.account.Account.{Account}
use Rattle.day_model.specs.Chart.{Chart, HasCode, IsChart}
use Rattle.jrn_codec.specs.Spelling.{signed_bytes, bic_bytes, short_bytes}

-- the first six bytes
abbrev pub version : List ℕ
version = codes "CORRJ2"

-- and those of a journal of version 1, whose accounts don't change
abbrev pub version_1 : List ℕ
version_1 = codes "CORRJ1"

-- id, kind, owner, currency, decimals
abbrev pub column_bytes : Account → List ℕ
column_bytes a = short_bytes a.id ++ a.kind ∷ [] ++ bic_bytes a.owner ++ a.ccy.0 ++ a.decimals ∷ []

-- floor, ceiling, opening
abbrev pub balance_bytes : Account → List ℕ
balance_bytes a = signed_bytes w64 a.floor ++ signed_bytes w64 a.ceil ++ signed_bytes w64 a.opening

-- an account's columns and balances
unfoldable pub account_bytes : Account → List ℕ
account_bytes a = column_bytes a ++ balance_bytes a

-- the version, the home bank, how many accounts in two bytes
unfoldable pub title_bytes : List ℕ → Bic → ℕ → List ℕ
title_bytes version home count = version ++ bic_bytes home ++ to_be_bytes w16 count

-- the title, then each account that the book begins with
abbrev pub headed_bytes : List ℕ → Chart → List ℕ
headed_bytes version chart = title_bytes version chart.home (length chart.first) ++ flat_map account_bytes chart.first

-- the header
abbrev pub head_bytes : Chart → List ℕ
head_bytes chart = headed_bytes version chart

-- the header of a journal of version 1
abbrev pub head_bytes_1 : Chart → List ℕ
head_bytes_1 chart = headed_bytes version_1 chart

-- what has a header: accounts of a book without changes, whose openings sum to 0, and a home bank with a BIC
pub record IsHead (chart : Chart) : Type 0 where
  pub home : IsBic chart.home
  pub book : IsChart chart
  pub codes : All HasCode chart.first
  pub unchanged : chart.changes ≡ []
