use Rattle.std.proofs.lemmas.Result.{on_ok_weaker}
use Rattle.desk_rows.specs.Csv.{pointed}
use Rattle.desk_rows.proofs.Quoted.{bare_added}
use Rattle.desk_rows.proofs.laws.Plain.{pointed_bare}
use Rattle.desk_rows.proofs.entry_rows.put_amount.Goals as goal

pub returns : goal.returns
returns c =
    on_ok_weaker c.put_total.result (bare_added c.args.out.now _ (pointed c.args.decimals c.args.n) (pointed_bare c.args.decimals c.args.n c.ranges.n.fits)) c.put_total.ensures
