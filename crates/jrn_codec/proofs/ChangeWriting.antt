-- What the writing of a change tells.
use Rattle.std.proofs.Common.{◌≡◌, ◌≤◌, length, Result, Ok, Err, subst, sym}
use Rattle.std.specs.Prelude.{OnOk}
use Rattle.day_model.specs.declared.account.Account.{Account}
use Rattle.day_model.specs.declared.change.What.{What}
use Rattle.day_model.specs.declared.change.What.TheVariants.{Opened}
use Rattle.day_model.specs.Chart.{HasCode}
use Rattle.day_model.specs.Legal.{IsInForm}
use Rattle.jrn_codec.specs.Change.{BalancesFit, IsWhat, change_bytes}
use Rattle.jrn_codec.proofs.Lengths.{change_short}

-- a new account in form that was written is one that can be read
pub is_new : {E : Type 0} (what : What) (a : Account) (r : Result (Unit {0}) E) → what ≡ Opened a → IsInForm what → OnOk r (HasCode a) → OnOk r (BalancesFit a) → OnOk r (IsWhat what)
is_new what a (Ok done) is form code fits = subst IsWhat (sym is) (record { formed = subst IsInForm is form; code = code; balances = fits })
is_new what a (Err e) is form code fits = tt

-- what was written is short
pub is_short : {E : Type 0} (what : What) (r : Result (Unit {0}) E) → OnOk r (IsWhat what) → OnOk r (length (change_bytes what) ≤ 77)
is_short what (Ok done) is = change_short what is
is_short what (Err e) is = tt
