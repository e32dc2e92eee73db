use Rattle.std.proofs.Common.{◌≡◌, ◌-◌, ◌≤◌, ◌++◌, All, drop, length}
use Rattle.jrn_book.specs.Journal.{item_records}
use Rattle.corr_top.specs.inner.Ship.{AreDue, records_from}
use Rattle.corr_top.proofs.records.item_texts.Given as goal

-- what is still to be written, that the changes that are left are due, and that all so far are short
abbrev pub invariant-loop-place : goal.invariant-loop-place
invariant-loop-place l = record {
  all : l.records.items ++ records_from (l.place - 1) l.rest (drop (l.place - 1) l.h.entries) ≡ item_records l.a l.h.entries;
  due : AreDue (l.place - 1) l.rest;
  short : All (λ r. length r ≤ 1048576) l.records.items;
}
