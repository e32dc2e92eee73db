use Rattle.std.proofs.Common.{sym, subst}
use Rattle.std.proofs.lemmas.List.{length-map}
use Rattle.day_model.specs.Chart.{AreRows}
use Rattle.std.specs.Prelude.{IfErr}
use Rattle.day_model.specs.Gap.{TellsUnbalanced}
use Rattle.corr_top.specs.Inputs.{opened}
use Rattle.corr_top.proofs.AccountRows.{are_rows, refusal_decimals}
use Rattle.corr_top.proofs.accounts.make_accounts.Goals as goal

pub new-requires : goal.new-requires
new-requires c = subst AreRows (sym c.in-Ok.ensures) (are_rows c.args.home.head c.args.known.now c.args.rows.items c.requires (length-map c.args.rows.items opened))

pub returns-in-Ok-clause-decimals : goal.returns-in-Ok-clause-decimals
returns-in-Ok-clause-decimals c =
    refusal_decimals _ c.new.result (are_rows c.args.home.head c.args.known.now c.args.rows.items c.requires (length-map c.args.rows.items opened))
    (subst (λ l. IfErr c.new.result (TellsUnbalanced l)) c.in-Ok.ensures c.new.ensures.unbalanced)
