use Rattle.std.proofs.Common.{◌≡◌, map, take}
use Rattle.std.specs.Prelude.{All}
use Rattle.desk_page.specs.Row.{IsShown}
use Rattle.corr_top.specs.Shown.{row_of}
use Rattle.corr_top.proofs.showing.rows_of.Given as goal

-- the rows so far
abbrev pub invariant-loop-message : goal.invariant-loop-message
invariant-loop-message g l = record {
  said : l.rows.items ≡ map (row_of l.directory l.book.accounts l.book.history) (take l.message-index l.messages);
  shown : All (IsShown l.book.accounts) l.rows.items;
}
