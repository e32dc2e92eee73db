-- What the append of a frame tells, and the answer to a pay that is entered.
use Rattle.std.specs.Prelude.{◌≡◌, ◌⊎◌, ℕ, ◌+◌, ◌<◌, ◌≤◌, true, false, List, Result, Ok, Err}
use Rattle.corr_text.specs.Faults.{Rose}
use Rattle.corr_disk.specs.Disk.{most_disk_bytes}
use Rattle.day_model.specs.declared.pay.Pay.{Pay}
use Rattle.day_model.specs.declared.entry.Entry.{Entry}
use Rattle.day_model.specs.Log.{most_entries}
use Rattle.jrn_book.specs.Answers.{Answer, StandsAt}
use Rattle.jrn_book.specs.declared.answer.Committed.TheVariants.{New, Kept}
use Rattle.jrn_book.specs.declared.answer.CommitFault.{CommitFault}
use Rattle.jrn_book.specs.declared.answer.CommitFault.TheVariants.{Conflict, Full, DiskFault, Broken, Memory}

-- with so many entries, a file whose closed gate stands at `end` takes `need` bytes more; or it doesn't, and the answer tells why
abbrev pub ShowsAppend : ℕ → ℕ → ℕ → ℕ → ℕ → Result (Unit {0}) CommitFault → Type 0
ShowsAppend count end need old new (Ok done) = (count ≡ most_entries → ⊥) × (end + need ≤ most_disk_bytes) × (new ≡ old)
ShowsAppend count end need old new (Err (Full entries at more)) =
    (entries ≡ count) × (at ≡ end) × (more ≡ need) × ((count ≡ most_entries) ⊎ (most_disk_bytes < end + need)) × (new ≡ old)
ShowsAppend count end need old new (Err (DiskFault before after)) =
    (count ≡ most_entries → ⊥) × (end + need ≤ most_disk_bytes) × (before ≡ old) × (after ≡ new) × Rose before after
ShowsAppend count end need old new (Err (Conflict place)) = ⊥
ShowsAppend count end need old new (Err (Broken from now)) = ⊥
ShowsAppend count end need old new (Err Memory) = ⊥

-- the answer to a pay whose reference stands in the history
abbrev pub Repeats : List Entry → Pay → Answer → Type 0
Repeats history pay (Ok (Kept place outcome)) = (stands : StandsAt history pay place true) × (stands.entry.outcome ≡ outcome)
Repeats history pay (Ok (New place outcome)) = ⊥
Repeats history pay (Err (Conflict place)) = StandsAt history pay place false
Repeats history pay (Err _) = ⊥
