use Rattle.std.proofs.Common.{◌≡◌, ◌∙◌, List, ap, subst, sym}
use Rattle.std.proofs.lemmas.Option.{same_Some}
use Rattle.acct_locks.specs.Holdings.{Holding, Holds, held_totals}
use Rattle.day_model.specs.Totals.{totals_of}
use Rattle.jrn_book.proofs.ByTotals.{holds_once, small_by, test_by}
use Rattle.jrn_book.proofs.deciding.held_outcome.Goals as goal

pub agree-requires-clause-held : goal.agree-requires-clause-held
agree-requires-clause-held g c = holds_once (g.H.Holder.held c.args.held.now) c.args.leg.now.account.0 c.requires.held

pub totals-requires : goal.totals-requires
totals-requires g c =
    let n = c.args.leg.now.account.0 in
    record { held = subst (λ (held : List Holding). Holds held n) (sym c.agree.ensures.held_same) (holds_once (g.H.Holder.held c.args.held.now) n c.requires.held) }

pub returns-clause-agreed : goal.returns-clause-agreed
returns-clause-agreed g c =
    let n = c.args.leg.now.account.0 in
    let entries = c.args.h.now.entries in
    let listed = c.requires.sound.listed in
    same_Some (held_totals (g.H.Holder.held c.args.held.now) n) (totals_of n entries) (sym c.agree.ensures.agreed ∙ c.requires.totals.each n listed.0 listed.1)

pub leg_outcome-requires-clause-small : goal.leg_outcome-requires-clause-small
leg_outcome-requires-clause-small g c =
    let n = c.args.leg.now.account.0 in
    let entries = c.args.h.now.entries in
    let listed = c.requires.sound.listed in
    let agreed : held_totals (g.H.Holder.held c.args.held.now) n ≡ totals_of n entries = same_Some _ _ (sym c.agree.ensures.agreed ∙ c.requires.totals.each n listed.0 listed.1) in
    let is : c.totals.result ≡ totals_of n entries = c.totals.ensures.value ∙ ap (λ (held : List Holding). held_totals held n) c.agree.ensures.held_same ∙ agreed in
    small_by c.args.a.now entries n c.totals.result is c.requires.chart c.requires.legal listed

pub returns-clause-value : goal.returns-clause-value
returns-clause-value g c =
    let n = c.args.leg.now.account.0 in
    let entries = c.args.h.now.entries in
    let listed = c.requires.sound.listed in
    let agreed : held_totals (g.H.Holder.held c.args.held.now) n ≡ totals_of n entries = same_Some _ _ (sym c.agree.ensures.agreed ∙ c.requires.totals.each n listed.0 listed.1) in
    let is : c.totals.result ≡ totals_of n entries = c.totals.ensures.value ∙ ap (λ (held : List Holding). held_totals held n) c.agree.ensures.held_same ∙ agreed in
    c.leg_outcome.ensures.value ∙ test_by c.args.a.now entries c.args.leg.now c.totals.result c.args.number c.requires.legal.changes.by_now is
