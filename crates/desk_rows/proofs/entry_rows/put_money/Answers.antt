use Rattle.std.proofs.Common.{[], ◌++◌}
use Rattle.std.proofs.lemmas.Result.{on_ok_weaker}
use Rattle.desk_rows.specs.Entries.{credit_cells, debit_cells, fee_cells, leg_cells}
use Rattle.desk_rows.proofs.Quoted.{cells_more}
use Rattle.desk_rows.proofs.entry_rows.put_money.Goals as goal

pub returns : goal.returns
returns c =
    let chart = c.args.a.now in
    let legs = c.args.pay.now.legs in
    let out = c.args.out.now in
    let debit = leg_cells chart legs 0 (debit_cells legs) in
    let credit = credit_cells chart legs in
    let both = cells_more out [] debit credit _ _ c.in_ok-put_debit.ensures c.in_ok-put_credit.ensures in
    on_ok_weaker c.put_fee.result (λ added. cells_more out [] (debit ++ credit) (fee_cells chart legs) _ _ both added) c.put_fee.ensures
