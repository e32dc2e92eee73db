-- The instruction in force.
use Rattle.std.specs.Prelude.{ℕ, ◌&&◌, Bool, List, [], ◌∷◌, ◌++◌, Option, filter, find, int_le, int_lt}
use Rattle.std.specs.Str.{bytes_eq}
use Rattle.corr_text.specs.First.{first_of}
use Rattle.corr_ids.specs.declared.bic.Bic.{Bic}
use Rattle.corr_ids.specs.declared.day.Day.{Day}
use Rattle.corr_money.specs.declared.amount.Ccy.{Ccy}
use Rattle.ssi_versions.specs.declared.row.SsiRow.{SsiRow}
use Rattle.ssi_versions.specs.Rows.{any_bank}

-- an instruction of this currency, in force on this day: from its first day on, and no more on the day that ends it
abbrev pub is_in_force : Ccy → Day → SsiRow → Bool
is_in_force ccy day r = bytes_eq ccy.0 r.ccy.0 && int_le r.from.0 day.0 && int_lt day.0 r.until.0

-- the one that names its bank by this text
abbrev pub naming : List ℕ → List SsiRow → Option SsiRow
naming bank rows = find (λ r. bytes_eq bank r.bank) rows

-- an instruction in force that names its bank by this text
abbrev pub is_asked : Ccy → List ℕ → Day → SsiRow → Bool
is_asked ccy bank day r = is_in_force ccy day r && bytes_eq bank r.bank

-- among those in force: the one of the bank's 11 characters, else of its head, else of any bank
abbrev pub instruction_at : List SsiRow → Ccy → Bic → Day → Option SsiRow
instruction_at rows ccy bank day =
    let now = filter (is_in_force ccy day) rows in
    first_of (naming (bank.head ++ bank.branch) now ∷ naming bank.head now ∷ naming any_bank now ∷ [])
