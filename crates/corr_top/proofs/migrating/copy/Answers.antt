use Rattle.std.proofs.Common.{◌∙◌, ℕ, ap, refl, sym}
use mathlib.Core.Bool.{true≢false}
use Rattle.jrn_file.specs.declared.fault.MakeFault.TheVariants as making
use Rattle.corr_top.specs.Stops.{status_of_copying}
use Rattle.corr_top.proofs.CarriedOver.{copied, copy_wanted, uncopied}
use Rattle.corr_top.proofs.migrating.copy.Goals as goal

pub returns-in-Err : goal.returns-in-Err
returns-in-Err g c = record { gives = (making.Memory, refl, copy_wanted g.D.Disk c.args.disk c.args.a.now c.args.h.now.entries g.met.D.Disk.only_now) }

pub returns-in-Ok-create_with : goal.returns-in-Ok-create_with
returns-in-Ok-create_with g c =
    let made = c.in-Ok.ensures in
    let e = c.in-Ok-create_with.ensures in
    record {
      gives = (
        copied g.D.Disk c.args.disk c.in-Ok-create_with.disk c.args.a.now c.args.h.now.entries c.bytes.result.now c.as_slice.result.now (c.bytes.ensures ∙ made.head) (c.as_slice.ensures.value ∙ made.records) c.requires e.honest e.made e.durable e.kept
            (λ told first other. absurd (true≢false (sym (e.exists first told other).1))) e.any_moment,
        made.texts.0,
        made.texts.1,
      );
    }

pub returns : goal.returns
returns g c =
    let made = c.in-Ok.ensures in
    let stop = c.in-Err-create_with in
    let e = stop.ensures in
    record {
      gives = (
        stop.fault,
        c.copy_status.ensures ∙ ap (λ (n : ℕ). status_of_copying n stop.fault) c.len.ensures.count,
        uncopied g.D.Disk c.args.disk stop.disk c.args.a.now c.args.h.now.entries c.bytes.result.now c.as_slice.result.now (c.bytes.ensures ∙ made.head) (c.as_slice.ensures.value ∙ made.records) stop.fault e.honest e.cause
            (λ first told other. (e.exists first told other).0) e.untouched e.any_moment,
      );
    }
