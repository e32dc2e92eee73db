use Rattle.std.proofs.Common.{◌≡◌, ◌-◌}
use Rattle.jrn_codec.specs.inner.Reading.{items_at}
use Rattle.jrn_codec.specs.inner.HeaderReading.{account_read}
use Rattle.jrn_codec.proofs.Loop.{with_front}
use Rattle.jrn_codec.proofs.header.accounts_of.Given as goal

abbrev pub invariant-loop : goal.invariant-loop
invariant-loop l = with_front l.accounts (items_at account_read (l.count - l.counter) l.rest) ≡ items_at account_read l.count l.bytes
