use Rattle.std.proofs.Common.{[], ◌∷◌}
use Rattle.std.proofs.lemmas.Result.{on_ok_weaker}
use Rattle.corr_ids.specs.Day.{yymmdd_of}
use Rattle.desk_rows.proofs.Added.{piece_more}
use Rattle.desk_rows.proofs.Quoted.{bare_added, day_bare}
use Rattle.desk_rows.proofs.entry_rows.put_day.Goals as goal

pub returns : goal.returns
returns c =
    let day = yymmdd_of c.args.day in
    on_ok_weaker c.put_yymmdd.result
    (λ added. bare_added c.args.out.now _ day (day_bare c.args.day) (piece_more c.args.out.now (44 ∷ []) _ _ day c.in_ok-push.ensures.ok added)) c.put_yymmdd.ensures.ok
