use Rattle.std.proofs.Common.{◌≡◌, ℕ, ◌+◌, ◌-◌, ◌<◌, ◌≤◌, ◌++◌, Some, drop, take}
use Rattle.std.specs.Prelude.{slice_get}
use Rattle.corr_report.specs.Lines.{numbered}
use Rattle.day_model.specs.declared.entry.Entry.{Entry}
use Rattle.advices.specs.Messages.{messages_of}
use Rattle.advices.specs.Valid.{AreAccepted}
use Rattle.corr_top.specs.Out.{sent_from, entry_out}
use Rattle.corr_top.proofs.outgoing.outgoing.Given as goal

-- what is still to be added, and that what was sent so far is accepted
abbrev pub invariant-loop-place : goal.invariant-loop-place
invariant-loop-place l = record {
  after : l.from ≤ l.place;
  rest : sent_from l.a l.from (take l.until l.h.entries) ≡ l.out ++ numbered (entry_out l.a) l.place (drop (l.place - 1) (take l.until l.h.entries));
  accepted : (i : ℕ) (e : Entry) → l.from ≤ i + 1 → i + 1 < l.place → slice_get (take l.until l.h.entries) i ≡ Some e → AreAccepted l.a e.pay (messages_of l.a e (i + 1));
}
