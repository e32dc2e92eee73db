use Rattle.std.proofs.Common.{◌≡◌, ◌+◌, length, drop}
use Rattle.jrn_file.specs.Journal.{journal_bytes}
use Rattle.jrn_file.specs.Reading.{size_of}
use Rattle.jrn_file.proofs.making_with.size_of_journal.Given as goal

abbrev pub invariant-loop-record : goal.invariant-loop-record
invariant-loop-record l = l.size + size_of (drop l.record-index l.records) ≡ length (journal_bytes l.head l.records)
