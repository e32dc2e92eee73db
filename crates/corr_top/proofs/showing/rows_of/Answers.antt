use Rattle.std.proofs.Common.{List, sym, ap, ◌∙◌, subst}
use Rattle.std.specs.Prelude.{All}
use Rattle.std.proofs.lemmas.List.Elements.{All-push}
use Rattle.desk_page.specs.Row.{IsShown}
use Rattle.desk_page.specs.declared.row.Row.{Row}
use Rattle.corr_top.specs.Shown.{row_of}
use Rattle.corr_top.proofs.ShownRows.{rows_more}
use Rattle.corr_top.proofs.showing.rows_of.Goals as goal

pub loop-message-preserved : goal.loop-message-preserved
loop-message-preserved g c =
    let chart = c.args.book.now.accounts in
    let l = c.loop-message in
    let row = c.in_ok-row.row in
    record {
      said = rows_more (row_of c.args.directory.now chart c.args.book.now.history) c.args.messages.now l.message-index c.message-item.result l.rows.items _ row c.loop-message-test.true l.invariant.said
          (c.in_ok-row.ensures.value ∙ ap (row_of c.args.directory.now chart c.args.book.now.history) c.bytes.ensures.bytes) c.message-item.is c.in_ok-push.ensures.items;
      shown = subst (λ (rs : List Row). All (IsShown chart) rs) (sym c.in_ok-push.ensures.items) (All-push (IsShown chart) l.rows.items row l.invariant.shown c.in_ok-row.ensures.shown);
    }
