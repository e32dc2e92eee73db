use Rattle.std.proofs.Common.{◌≡◌, List, length, ◌∙◌, subst, sym}
use Rattle.day_model.specs.declared.change.Item.TheVariants.{Changed}
use Rattle.day_model.specs.Chart.{Chart, accounts_of, with_change}
use Rattle.day_model.specs.Totals.{HasTotals, Pair}
use Rattle.jrn_book.specs.declared.version.Version.TheVariants.{Two}
use Rattle.jrn_book.specs.Journal.{IsJournal}
use Rattle.jrn_book.specs.Opening.{IsNextOf}
use Rattle.jrn_book.specs.Reading.{Read}
use Rattle.jrn_book.specs.inner.Reading.{widened}
use Rattle.jrn_book.proofs.Items.{journal_with}
use Rattle.jrn_book.proofs.Widening.{has_widened}
use Rattle.jrn_book.proofs.past.Past.change.Goals as goal

pub invariant_of-self-2 : goal.invariant_of-self-2
invariant_of-self-2 c =
    let h = c.self.inside.history.entries in
    let chart = c.self.inside.accounts in
    let what = c.args.what in
    let pairs = c.self.inside.pairs.items in
    let journal = c.self.invariant.0 in
    let next : IsNextOf Two chart h (Changed what) = subst (λ (r : Read). IsNextOf Two r.accounts r.history (Changed what)) (sym c.self.view_is) c.requires.next in
    let now : c.change.new.self ≡ with_change chart (length h) what = c.in_ok-change.ensures.ok in
    let wide : c.widen.new.pairs.items ≡ widened (length (accounts_of c.change.new.self)) pairs =
    c.widen.ensures ∙ (λ i. widened (c.count.ensures.count i) (c.reserve.ensures.items i)) in
    let Totals : Chart → Type 0 = λ x. HasTotals (widened (length (accounts_of x)) pairs) (length (accounts_of x)) h in (
      subst (λ (x : Chart). IsJournal x h) (sym now) (journal_with Two chart h (Changed what) journal next),
      subst (λ (ps : List Pair). HasTotals ps (length (accounts_of c.change.new.self)) h) (sym wide)
          (subst Totals (sym now) (has_widened chart h (length h) what pairs journal.legal c.self.invariant.1)),
      c.self.invariant.2,
    )
