use Rattle.std.proofs.Common.{◌≡◌, ◌⊎◌, List, [], ◌∷◌, ◌++◌, All, subst, sym}
use Rattle.std.proofs.lemmas.List.Elements.{All-nil, All-push}
use Rattle.day_model.specs.declared.pay.Leg.{Leg}
use Rattle.day_model.specs.declared.pay.Pay.{Pay}
use Rattle.day_model.specs.Fit.{FitsAccounts}
use Rattle.day_model.specs.Shape.{HasShape}
use Rattle.calls_journal.proofs.batches.pays_of.Goals as goal

-- what holds of each of three pays that are pushed into an empty list holds of all in it
three_pushed : (P : Pay → Type 0) (e p q r : List Pay) (x y z : Pay) → e ≡ [] → p ≡ e ++ x ∷ [] → q ≡ p ++ y ∷ [] → r ≡ q ++ z ∷ [] → P x → P y → P z → All P r
three_pushed P e p q r x y z none one two three of_x of_y of_z =
    let all_e : All P e = subst (All P) (sym none) (All-nil P) in
    let all_p : All P p = subst (All P) (sym one) (All-push P e x all_e of_x) in
    let all_q : All P q = subst (All P) (sym two) (All-push P p y all_p of_y) in
    subst (All P) (sym three) (All-push P q z all_q of_z)

pub returns-clause-fits : goal.returns-clause-fits
returns-clause-fits c =
    three_pushed (FitsAccounts c.args.a.now) c.new-pays.result.items c.push.new.self.items c.push-2.new.self.items c.push-3.new.self.items
    c.in_ok-first.first c.in_ok-second.second c.in_ok-third.third
    c.new-pays.ensures.items c.in_ok-push.ensures.items c.in_ok-push-2.ensures.items c.in_ok-push-3.ensures.items
    c.in_ok-first.ensures.fits c.in_ok-second.ensures.fits c.in_ok-third.ensures.fits

pub returns-clause-shape : goal.returns-clause-shape
returns-clause-shape c =
    three_pushed HasShape c.new-pays.result.items c.push.new.self.items c.push-2.new.self.items c.push-3.new.self.items
    c.in_ok-first.first c.in_ok-second.second c.in_ok-third.third
    c.new-pays.ensures.items c.in_ok-push.ensures.items c.in_ok-push-2.ensures.items c.in_ok-push-3.ensures.items
    c.in_ok-first.ensures.shape c.in_ok-second.ensures.shape c.in_ok-third.ensures.shape

pub returns-clause-between : goal.returns-clause-between
returns-clause-between c =
    three_pushed (λ (p : Pay). All (λ (leg : Leg). (leg.account.0 ≡ 1) ⊎ (leg.account.0 ≡ 2)) p.legs)
    c.new-pays.result.items c.push.new.self.items c.push-2.new.self.items c.push-3.new.self.items
    c.in_ok-first.first c.in_ok-second.second c.in_ok-third.third
    c.new-pays.ensures.items c.in_ok-push.ensures.items c.in_ok-push-2.ensures.items c.in_ok-push-3.ensures.items
    c.in_ok-first.ensures.between c.in_ok-second.ensures.between c.in_ok-third.ensures.between
