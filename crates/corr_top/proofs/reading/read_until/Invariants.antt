use Rattle.std.proofs.Common.{◌≡◌, ◌-◌, ◌≤◌, length}
use Rattle.corr_top.specs.inner.Reading.{AddsRead, chunk_bytes}
use Rattle.corr_top.proofs.reading.read_until.Given as goal

-- what was read so far stands in the text
abbrev pub invariant-loop-text : goal.invariant-loop-text
invariant-loop-text g l = record {
  counted : l.before ≡ g.S.Source.faults l.fn.source;
  kept : g.S.Source.faults l.source ≡ g.S.Source.faults l.fn.source;
  sized : length l.chunk ≡ chunk_bytes;
  bound : length l.fn.text ≤ l.until → length l.text ≤ l.until;
  read : AddsRead (g.S.Source.left l.fn.source) (g.S.Source.left l.source) l.fn.text l.text;
}

abbrev pub decreases-loop-text : goal.decreases-loop-text
decreases-loop-text g l = l.until - length l.text
