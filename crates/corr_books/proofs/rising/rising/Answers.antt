use Rattle.std.proofs.Common.{sym, ap, ◌∙◌, subst}
use Rattle.corr_books.specs.inner.Numbers.{AreRising, sorted_accounts}
use Rattle.corr_books.proofs.Sorting.{are_rising, two_or_three}
use Rattle.corr_books.proofs.rising.rising.Goals as goal

pub sorted-requires : goal.sorted-requires
sorted-requires c = rw c.as_slice.ensures (two_or_three c.args.a.now c.args.p.now.legs c.requires)

pub returns : goal.returns
returns c = subst (AreRising c.args.a.now c.args.p.now.legs) (sym (c.sorted.ensures ∙ ap sorted_accounts c.as_slice.ensures)) (are_rising c.args.a.now c.args.p.now.legs c.requires)
