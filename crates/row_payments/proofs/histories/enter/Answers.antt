use Rattle.std.proofs.Common.{◌≡◌, ◌<◌, false, length, sym, subst, arith, rules}
use Rattle.std.specs.Prelude.{is_some}
use Rattle.std.proofs.lemmas.Grind.{common_steps}
use Rattle.std.proofs.lemmas.Result.{on_ok_weaker}
use Rattle.corr_ids.specs.Day.{InCentury}
use Rattle.day_model.specs.Fit.{FitsAccounts}
use Rattle.day_model.specs.Next.{entered_at}
use Rattle.row_payments.specs.declared.books.TheConstants.{TODAY}
use Rattle.row_payments.proofs.Entered.{more_legal, more_latest, more_days, more_values}
use Rattle.row_payments.proofs.histories.enter.Goals as goal

pub returns-clause-legal : goal.returns-clause-legal
returns-clause-legal c =
    let a = c.args.a.now in
    let entries = c.args.h.now.entries in
    let fit : FitsAccounts a c.args.p = first_of (search rules, grind (arith, common_steps)) in
    let new : is_some (entered_at c.args.p.mir entries) ≡ false = cc in
    let room : length entries < 100000 = omega arith in
    on_ok_weaker c.enter_new.result (more_legal a entries c.enter_new.new.h.entries c.args.p TODAY c.requires.legal fit c.requires.latest room new) c.enter_new.ensures

pub returns-clause-latest : goal.returns-clause-latest
returns-clause-latest c =
    on_ok_weaker c.enter_new.result (more_latest c.args.a.now c.args.h.now.entries c.enter_new.new.h.entries c.args.p TODAY c.requires.latest) c.enter_new.ensures

pub returns-clause-days : goal.returns-clause-days
returns-clause-days c =
    let within : InCentury TODAY = search rules in
    on_ok_weaker c.enter_new.result (more_days c.args.a.now c.args.h.now.entries c.enter_new.new.h.entries c.args.p TODAY c.requires.days within) c.enter_new.ensures

pub returns-clause-values : goal.returns-clause-values
returns-clause-values c =
    let today : InCentury TODAY = search rules in
    let within : InCentury c.args.p.value = subst InCentury (sym c.requires.value) today in
    on_ok_weaker c.enter_new.result (more_values c.args.a.now c.args.h.now.entries c.enter_new.new.h.entries c.args.p TODAY c.requires.values within) c.enter_new.ensures
