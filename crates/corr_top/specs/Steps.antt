-- Steps, one after another.
use Rattle.std.specs.Prelude.{◌⊎◌, List, [], ◌∷◌}
use Rattle.ref_tables.specs.declared.fault.TableName.{TableName}

-- What a command reads, tests and does before it writes: a table, the sums of the openings, the making of a journal, the journal
-- as it is opened, the day against that of its last entry, the message file, the serving of its messages while it is read, and the received messages;
-- the file of messages that leave; a change of the journal's accounts; the second disk, a journal of version 1 as it is opened, and the
-- making of its copy; the making of the pay that takes a payment back, and its entering; that a disk which a command doesn't need is left
-- aside; and what a follower's disk holds, the packets of the received file, and the taking of these.
pub data Step : Type 0 where
  table : TableName → Step
  sums : Step
  make : Step
  open_journal : Step
  day : Step
  messages : Step
  serve : Step
  received : Step
  sent : Step
  change : Step
  second : Step
  old_journal : Step
  copy : Step
  make_return : Step
  book_return : Step
  begin : Step
  packets : Step
  take : Step
  aside : Step

-- each step has it
abbrev pub Walks : (Step → Type 0) → List Step → Type 0
Walks has [] = Unit {0}
Walks has (s ∷ steps) = has s × Walks has steps

-- one step stops; those ahead of it passed, and those after it are untouched
abbrev pub Halts : (Step → Type 0) → (Step → Type 0) → (Step → Type 0) → List Step → Type 0
Halts passes stops untouched [] = ⊥
Halts passes stops untouched (s ∷ steps) = (stops s × Walks untouched steps) ⊎ (passes s × Halts passes stops untouched steps)
