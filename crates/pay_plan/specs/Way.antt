-- How a payment goes on.
use Rattle.std.specs.Prelude.{◌==◌, Option, Some, None, if◌then◌else◌}
use Rattle.day_model.specs.declared.pay.Mt.{Mt}
use Rattle.day_model.specs.declared.pay.Mt.TheVariants as mt
use Rattle.ssi_versions.specs.declared.method.Method.{Method}
use Rattle.ssi_versions.specs.declared.method.Method.TheVariants as method
use Rattle.routing.specs.declared.target.Target.{Target}
use Rattle.routing.specs.declared.target.Target.TheVariants.{Bank}
use Rattle.pay_plan.specs.declared.way.Way.{Way}
use Rattle.pay_plan.specs.declared.way.Way.TheVariants.{Covered, Credited, Ends, Onward, Passed}

-- a transfer, by the method of its instruction
abbrev pub transfer_way : Option Method → Way
transfer_way None = Ends
transfer_way (Some method.Book) = Onward
transfer_way (Some method.Serial) = Onward
transfer_way (Some method.Cover) = Covered

-- a cover ends with the bank of 58a where that has an account here
abbrev pub cover_way : Target → Option Method → Way
cover_way (Bank bank field) (Some method.Book) = if field == 58 then Credited else Passed
cover_way _ _ = Passed

-- how a payment goes on
abbrev pub way_of : Mt → Target → Option Method → Way
way_of mt.Transfer target method = transfer_way method
way_of mt.Cover target method = cover_way target method
