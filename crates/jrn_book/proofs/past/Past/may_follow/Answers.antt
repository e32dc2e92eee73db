use Rattle.std.proofs.Common.{◌≡◌, ◌<◌, true, false, length, None, rules, subst, sym}
use Rattle.day_model.specs.Balance.{outcome_of}
use Rattle.day_model.specs.Fit.{FitsAccounts}
use Rattle.day_model.specs.Laws.{IsLatest}
use Rattle.day_model.specs.Legal.{IsLegal}
use Rattle.day_model.specs.Log.{most_entries}
use Rattle.day_model.specs.Next.{entered_at}
use Rattle.jrn_book.specs.Reading.{Read}
use Rattle.jrn_book.proofs.Bools.{of_true, on_true}
use Rattle.jrn_book.proofs.Following.{legal_follows, next_is_legal}
use Rattle.jrn_book.proofs.past.Past.may_follow.Goals as goal

pub returns-then-not-has_place_for-clause-only : goal.returns-then-not-has_place_for-clause-only
returns-then-not-has_place_for-clause-only c = λ legal.
    let yes = c.has_place_for.ensures.all (legal_follows c.args.self.now.accounts c.args.self.now.history c.args.e.now legal) in
    let no : c.has_place_for.result ≡ false = search rules in
    absurd (cc (yes, no))

pub returns-then-not-is_latest-clause-only : goal.returns-then-not-is_latest-clause-only
returns-then-not-is_latest-clause-only c = λ legal.
    let follows = legal_follows c.args.self.now.accounts c.args.self.now.history c.args.e.now legal in
    let yes = c.is_latest.ensures.all (subst (λ (r : Read). IsLatest r.history c.args.e.now.day) (sym c.self.view_is) follows.latest) in
    let no : c.is_latest.result ≡ false = search rules in
    absurd (cc (yes, no))

pub returns-clause-legal : goal.returns-clause-legal
returns-clause-legal c =
    let e = c.args.e.now in
    let chart = c.args.self.now.accounts in
    let h = c.args.self.now.history in
    let placed : c.has_place_for.result ≡ true = search rules in
    let timely : c.is_latest.result ≡ true = search rules in
    let legal : IsLegal chart h = subst (λ (r : Read). IsLegal r.accounts r.history) c.self.view_is c.self.invariant.0.legal in
    let latest : IsLatest h e.day = subst (λ (r : Read). IsLatest r.history e.day) c.self.view_is (of_true c.is_latest.result _ timely c.is_latest.ensures.latest) in
    on_true c.decides.result (e.outcome ≡ outcome_of chart h e.pay) _
    (λ decided.
    next_is_legal chart h e legal (record {
      few = of_true c.has_place_for.result (length h < most_entries) placed c.has_place_for.ensures.few;
      fits = of_true c.has_place_for.result (FitsAccounts chart e.pay) placed c.has_place_for.ensures.fits;
      new = of_true c.has_place_for.result (entered_at e.pay.mir h ≡ None) placed c.has_place_for.ensures.new;
      latest = latest;
      decided = decided;
    }))
    c.decides.ensures.same

pub returns-clause-only : goal.returns-clause-only
returns-clause-only c = λ legal. c.decides.ensures.all (legal_follows c.args.self.now.accounts c.args.self.now.history c.args.e.now legal).decided
