use Rattle.std.proofs.Common.{ap, arith, length, refl, subst}
use Rattle.std.specs.Prelude.{Err}
use Rattle.jrn_codec.specs.declared.fault.EntryFault.{EntryFault}
use Rattle.jrn_codec.proofs.laws.Records.{few_in_item}
use Rattle.jrn_book.specs.declared.version.Version.TheVariants.{Two}
use Rattle.jrn_book.specs.Reading.{FitsNext}
use Rattle.standby.proofs.Takes.{no-item-next}
use Rattle.standby.proofs.adding.read_next.Goals as goal

pub framed-requires : goal.framed-requires
framed-requires c = omega (arith, few_in_item c.in-Ok.item c.in-Ok.ensures.0.0, ap length c.in-Ok.ensures.1)

pub returns-in-Err-NoEntry-clause-refused : goal.returns-in-Err-NoEntry-clause-refused
returns-in-Err-NoEntry-clause-refused c =
    let past = c.args.past.now in
    let none = subst (λ (f : EntryFault). FitsNext Two past c.args.record.now (Err f)) c.in-Err-NoEntry.field-0-is c.in-Err-NoEntry.ensures in
    (refl, λ may. no-item-next past.accounts past.history c.args.record.now may.0 none may.1)
