-- Marks and the sides that they are of.
use Rattle.std.proofs.Common.{◌≡◌, ℕ, Bool, true, false, refl}
use Rattle.corr_report.specs.Bookings.{side_letter}
use Rattle.day_model.specs.declared.pay.Side.{Side}
use Rattle.day_model.specs.declared.pay.Side.TheVariants.{Credit, Debit}
use Rattle.mt950.specs.Entry.{signed_amount}
use Rattle.statement.specs.Lines.{statement_mark}
use Rattle.reconcile.specs.inner.Keys.{added_on}
use Rattle.reconcile.specs.Lines.{side_text}

-- a mark adds what its side adds, in a return too
pub as-marked : (side : Side) (returned : Bool) (amount : ℕ) → signed_amount (statement_mark side returned) amount ≡ added_on side amount
as-marked Credit true amount = refl
as-marked Credit false amount = refl
as-marked Debit true amount = refl
as-marked Debit false amount = refl

-- the letter of a side is that of its mark
pub as_lettered : (side : Side) (returned : Bool) → side_letter side ≡ side_text (statement_mark side returned)
as_lettered Credit true = refl
as_lettered Credit false = refl
as_lettered Debit true = refl
as_lettered Debit false = refl
