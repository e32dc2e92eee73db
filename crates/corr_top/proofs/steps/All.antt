-- The laws of each step.
use Rattle.corr_top.specs.Steps.{Step}
use Rattle.corr_top.proofs.steps.Aside.{of_aside}
use Rattle.corr_top.proofs.steps.Begin.{of_begin}
use Rattle.corr_top.proofs.steps.BookReturn.{of_book_return}
use Rattle.corr_top.proofs.steps.Change.{of_change}
use Rattle.corr_top.proofs.steps.Copy.{of_copy}
use Rattle.corr_top.proofs.steps.Day.{of_day}
use Rattle.corr_top.proofs.steps.Make.{of_make}
use Rattle.corr_top.proofs.steps.MakeReturn.{of_make_return}
use Rattle.corr_top.proofs.steps.Messages.{of_messages}
use Rattle.corr_top.proofs.steps.OldJournal.{of_old_journal}
use Rattle.corr_top.proofs.steps.OpenJournal.{of_open_journal}
use Rattle.corr_top.proofs.steps.Packets.{of_packets}
use Rattle.corr_top.proofs.steps.Received.{of_received}
use Rattle.corr_top.proofs.steps.Second.{of_second}
use Rattle.corr_top.proofs.steps.Sent.{of_sent}
use Rattle.corr_top.proofs.steps.Serve.{of_serve}
use Rattle.corr_top.proofs.steps.Sums.{of_sums}
use Rattle.corr_top.proofs.steps.Table.{of_table}
use Rattle.corr_top.proofs.steps.Take.{of_take}
use Rattle.corr_top.proofs.steps.Laws.{StepLaws}

pub laws_of : (step : Step) → StepLaws step
laws_of (Step.table name) = of_table name
laws_of Step.sums = of_sums
laws_of Step.make = of_make
laws_of Step.open_journal = of_open_journal
laws_of Step.day = of_day
laws_of Step.messages = of_messages
laws_of Step.serve = of_serve
laws_of Step.received = of_received
laws_of Step.sent = of_sent
laws_of Step.change = of_change
laws_of Step.second = of_second
laws_of Step.old_journal = of_old_journal
laws_of Step.copy = of_copy
laws_of Step.make_return = of_make_return
laws_of Step.book_return = of_book_return
laws_of Step.begin = of_begin
laws_of Step.packets = of_packets
laws_of Step.take = of_take
laws_of Step.aside = of_aside
