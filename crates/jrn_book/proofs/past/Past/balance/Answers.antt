use Rattle.std.proofs.Common.{◌≡◌, ℕ, ◌≤◌, List, Some, ◌∙◌, ap, length, subst, sym, w64}
use Rattle.std.proofs.lemmas.Int.{to_z-of_z}
use Rattle.std.proofs.lemmas.Option.{same_Some}
use Rattle.day_model.specs.Balance.{balance_of}
use Rattle.day_model.specs.Chart.{IsListed}
use Rattle.day_model.specs.Totals.{Pair, pair_at, totals_of}
use Rattle.jrn_book.specs.Reading.{Read}
use Rattle.jrn_book.proofs.ByTotals.{balance_by, small_by}
use Rattle.jrn_book.proofs.past.Past.balance.Goals as goal

pub pair_of-requires : goal.pair_of-requires
pair_of-requires c =
    let n = c.args.n.0 in
    let listed : IsListed c.self.inside.accounts n = subst (λ (r : Read). IsListed r.accounts n) (sym c.self.view_is) c.requires in
    let high : n ≤ length c.self.inside.pairs.items = subst (λ (m : ℕ). n ≤ m) (sym c.self.invariant.1.size) listed.1 in
    (listed.0, subst (λ (ps : List Pair). n ≤ length ps) (sym c.as_slice.ensures.value) high)

pub balance_by-requires-clause-small : goal.balance_by-requires-clause-small
balance_by-requires-clause-small c =
    let n = c.args.n.0 in
    let h = c.self.inside.history.entries in
    let journal = c.self.invariant.0 in
    let listed : IsListed c.self.inside.accounts n = subst (λ (r : Read). IsListed r.accounts n) (sym c.self.view_is) c.requires in
    let there : pair_at c.self.inside.pairs.items n ≡ Some c.pair_of.result = subst (λ (ps : List Pair). pair_at ps n ≡ Some c.pair_of.result) c.as_slice.ensures.value c.pair_of.ensures in
    let is : c.pair_of.result ≡ totals_of n h = same_Some c.pair_of.result (totals_of n h) (sym there ∙ c.self.invariant.1.each n listed.0 listed.1) in
    small_by c.self.inside.accounts h n c.pair_of.result is journal.book journal.legal listed

pub returns : goal.returns
returns c =
    let n = c.args.n.0 in
    let h = c.self.inside.history.entries in
    let listed : IsListed c.self.inside.accounts n = subst (λ (r : Read). IsListed r.accounts n) (sym c.self.view_is) c.requires in
    let there : pair_at c.self.inside.pairs.items n ≡ Some c.pair_of.result = subst (λ (ps : List Pair). pair_at ps n ≡ Some c.pair_of.result) c.as_slice.ensures.value c.pair_of.ensures in
    let is : c.pair_of.result ≡ totals_of n h = same_Some c.pair_of.result (totals_of n h) (sym there ∙ c.self.invariant.1.each n listed.0 listed.1) in
    to_z-of_z w64 c.balance_by.result (record { sfits = c.balance_by.type_inv }) ∙ c.balance_by.ensures ∙ balance_by c.self.inside.accounts h n c.pair_of.result is ∙ ap (λ (r : Read). balance_of r.accounts r.history n) c.self.view_is
