-- The command `return`: a payment is taken back.
use Rattle.std.specs.Prelude.{ℕ, ◌≡◌, ◌+◌, List, [], ◌∷◌, length}
use Rattle.corr_ids.specs.declared.day.Day.{Day}
use Rattle.corr_top.specs.Inputs.{Inputs, new_in}
use Rattle.corr_top.specs.Meaning.{Meaning}
use Rattle.corr_top.specs.Out.{booked_from}
use Rattle.corr_top.specs.Returned.{ReturnSends}
use Rattle.corr_top.specs.Run.{RunLeaves, run_out}
use Rattle.corr_top.specs.Steps.{Step}

-- the journal, the day, the making of the pay that takes the payment back, and its entering
abbrev pub return_steps : List Step
return_steps = Step.open_journal ∷ Step.day ∷ Step.make_return ∷ Step.book_return ∷ []

-- its report: the line of the entry that was added
unfoldable pub return_report : Inputs → List ℕ
return_report i = booked_from i.chart (length i.history + 1) (new_in i)

-- It is of the place and the day that the words name, sends the messages of the entry that was added, and leaves the journal as `run`
-- does; each message passes the tests of a sent message under tables that hold what it says.
abbrev pub return_meaning : ℕ → Day → Meaning
return_meaning place day = record {
  is_for = λ i. (i.place ≡ place) × (i.day ≡ day);
  steps = return_steps;
  report = return_report;
  out = run_out;
  valid = ReturnSends;
  leaves = λ D disk old new i. RunLeaves disk 1 old new i;
}
