-- A worker of a run, without the place that it reads its messages into.
use Rattle.std.specs.Prelude.{Option}
use Rattle.front_word.specs.Known.{PassKnows}
use Rattle.corr_top.specs.declared.desk.Halt.{Halt}

-- what is known of a worker: its pass, and why it stopped, if it did
pub record Worker : Type 0 where
  pub pass : PassKnows
  pub halted : Option Halt
