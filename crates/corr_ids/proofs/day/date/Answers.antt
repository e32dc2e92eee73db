use Rattle.std.proofs.Common.{◌≡◌, arith, FitsSigned, w32, w64}
use Rattle.std.proofs.lemmas.Int.{ints, to_z-of_z}
use Rattle.jiff_core.specs.Date.{epoch_day}
use Rattle.corr_ids.proofs.laws.Century.{date_is}
use Rattle.corr_ids.proofs.day.date.Goals as goal

pub returns : goal.returns
returns c =
    let fits32 : FitsSigned w32 c.args.d.0 = omega (arith, ints) in
    let fits64 : FitsSigned w64 c.args.d.0 = omega (arith, ints) in
    let value = rw c.unwrap.ensures at c.from_unix_epoch_day.ensures.value in
    let number : epoch_day c.unwrap.result ≡ c.args.d.0 = simp (to_z-of_z w32 c.args.d.0 fits32, to_z-of_z w64 c.args.d.0 fits64) at value in
    let is = date_is c.args.d c.unwrap.result c.requires number in
    record { year = is.0; month = is.1; day = is.2 }
