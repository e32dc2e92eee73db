use Rattle.std.proofs.Common.{◌≡◌, ◌-◌, ◌≤◌, ◌++◌, All, drop, length, map}
use Rattle.jrn_codec.specs.Record.{entry_bytes}
use Rattle.corr_top.proofs.migrating.records_of.Given as goal

-- what is still to be written, and that all so far are short
abbrev pub invariant-loop-place : goal.invariant-loop-place
invariant-loop-place l = record {
  all : l.records.items ++ map entry_bytes (drop (l.place - 1) l.h.entries) ≡ map entry_bytes l.h.entries;
  short : All (λ r. length r ≤ 1048576) l.records.items;
}
