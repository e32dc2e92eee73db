use Rattle.std.proofs.Common.{List, ℕ, ◌++◌, ap, subst, ◌∙◌}
use Rattle.std.proofs.lemmas.List.{take_all}
use Rattle.day_model.specs.declared.pay.Leg.{Leg}
use Rattle.day_model.specs.declared.pay.Pay.{Pay}
use Rattle.corr_books.proofs.Gathered.{Gathers, numbers_in, one_gathered, sorted_gathered}
use Rattle.corr_books.proofs.batch.accounts_of_all.Goals as goal

pub loop-p-preserved : goal.loop-p-preserved
loop-p-preserved c =
    let numbers : List ℕ = c.loop-p.numbers.items in
    one_gathered c.args.a.now c.args.pays.now numbers c.put_accounts.new.numbers.items c.loop-p.p-index c.p-item.result c.requires.fits c.loop-p-test.true c.p-item.is c.loop-p.invariant
    (c.in_ok-put_accounts.ensures ∙ ap (λ (legs : List Leg). numbers ++ numbers_in legs) c.as_slice.ensures)

pub returns : goal.returns
returns c =
    let pays = c.args.pays.now in
    let numbers : List ℕ = c.loop-p.numbers.items in
    let all = subst (λ (ps : List Pay). Gathers c.args.a.now ps numbers) (take_all c.loop-p.p-index pays c.loop-p-test.false) c.loop-p.invariant in
    record { numbers = sorted_gathered c.args.a.now pays numbers c.sort_unstable.new.self.items all c.sort_unstable.ensures.permutation c.sort_unstable.ensures.sorted }
