-- The cover and the target that lent ones stand for.
use Rattle.std.specs.Prelude.{option_map}
use Rattle.routing.specs.declared.cover.Cover.{Cover}
use Rattle.routing.specs.declared.cover.Cover.TheVariants as cover
use Rattle.routing.specs.declared.target.Target.{Target}
use Rattle.routing.specs.declared.target.Target.TheVariants as target
use Rattle.routing.specs.declared.lent.LentCover.{LentCover}
use Rattle.routing.specs.declared.lent.LentCover.TheVariants as lent_cover
use Rattle.routing.specs.declared.lent.LentTarget.{LentTarget}
use Rattle.routing.specs.declared.lent.LentTarget.TheVariants as lent_target

-- the cover of the same bank or account
abbrev pub cover_lent : LentCover → Cover
cover_lent lent_cover.Relation = cover.Relation
cover_lent (lent_cover.Bank bank) = cover.Bank bank.now
cover_lent (lent_cover.Account id) = cover.Account id.now
cover_lent lent_cover.NoBic = cover.NoBic

-- the target of the same account or bank
abbrev pub target_lent : LentTarget → Target
target_lent (lent_target.Customer account) = target.Customer (option_map (λ id. id.now) account)
target_lent (lent_target.Bank bic field) = target.Bank bic.now field
target_lent lent_target.NoBic = target.NoBic
