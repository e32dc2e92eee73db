use Rattle.std.proofs.Common.{List, ℕ, ◌++◌, sym, ap, ◌∙◌, arith}
use Rattle.std.proofs.lemmas.Result.{on_ok_weaker}
use Rattle.corr_text.specs.Digits.{padded}
use Rattle.desk_rows.specs.Csv.{next_cells, quoted, row_end}
use Rattle.desk_rows.specs.Entries.{money_cells, name_cells, outcome_cells, stamp_cells}
use Rattle.desk_rows.proofs.Added.{piece_more}
use Rattle.desk_rows.proofs.Quoted.{bare_itself, cells_more}
use Rattle.desk_rows.proofs.laws.Plain.{padded_bare}
use Rattle.desk_rows.proofs.entry_rows.put_row.Goals as goal

pub returns : goal.returns
returns c =
    let entry = c.args.entry.now in
    let chart = c.args.a.now in
    let out = c.args.out.now in
    let digits = padded 8 c.args.place in
    let place = quoted digits in
    let stamp = stamp_cells entry in
    let names = name_cells entry.pay in
    let money = money_cells chart entry.pay.legs in
    let outcome = outcome_cells chart entry.pay.legs entry.outcome in
    let bare = padded_bare 8 c.args.place (omega (arith, c.ranges.place.fits)) in
    let placed = c.in_ok-put_digits.ensures.ok ∙ ap (λ (text : List ℕ). out ++ text) (sym (bare_itself digits bare)) in
    let stamped = piece_more out place _ _ (next_cells stamp) placed c.in_ok-put_stamp.ensures in
    let named = cells_more out place stamp names _ _ stamped c.in_ok-put_names.ensures in
    let paid = cells_more out place (stamp ++ names) money _ _ named c.in_ok-put_money.ensures in
    let told = cells_more out place (stamp ++ names ++ money) outcome _ _ paid c.in_ok-put_outcome.ensures in
    on_ok_weaker c.push.result (λ added. piece_more out (place ++ next_cells (stamp ++ names ++ money ++ outcome)) _ _ row_end told added) c.push.ensures.ok
