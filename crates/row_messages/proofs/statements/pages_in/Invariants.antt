use Rattle.std.proofs.Common.{◌≡◌, All, length}
use Rattle.fin_contents.specs.Writing.{IsReadable}
use Rattle.mt950.specs.Page.{mt950_of}
use Rattle.row_messages.proofs.statements.pages_in.Given as goal

abbrev pub invariant-loop-text : goal.invariant-loop-text
invariant-loop-text l = (length l.pages ≡ l.text-index) × All (IsReadable mt950_of) l.pages
