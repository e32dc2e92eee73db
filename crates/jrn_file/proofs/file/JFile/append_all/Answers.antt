use Rattle.std.proofs.Common.{◌≡◌, ◌+◌, ◌-◌, ◌∷◌, length, sym, ap, ◌∙◌, arith}
use Rattle.corr_disk.proofs.laws.Moments.{weaker}
use Rattle.jrn_file.specs.Journal.{IsBeforeOrAll}
use Rattle.jrn_file.proofs.Readings.{stands-spelled}
use Rattle.jrn_file.proofs.Records.{gate-within, place-more, entering-stands, entered-stands}
use Rattle.jrn_file.proofs.file.JFile.append_all.Goals as goal

pub enter-requires-clause-gate : goal.enter-requires-clause-gate
enter-requires-clause-gate g c honest =
    let settled = c.requires.settled.2 in
    gate-within _ _ _ (stands-spelled _ c.requires.settled.0 c.requires.settled.1 (settled.stands honest)) _ settled.place

pub returns-in-Err-clause-any_moment : goal.returns-in-Err-clause-any_moment
returns-in-Err-clause-any_moment g c head records first more settled framed honest =
    let D = g.D.Disk in
    weaker D.moment D.left_since _ _ _ (IsBeforeOrAll head records (first ∷ more))
    (entering-stands _ head records (stands-spelled _ head records (settled.stands honest)) _ settled.place _ first more framed)
    (c.in-Err.ensures.any_moment honest (settled.durable honest))

pub returns-in-Ok-clause-any_moment : goal.returns-in-Ok-clause-any_moment
returns-in-Ok-clause-any_moment g c head records first more settled framed honest =
    let D = g.D.Disk in
    weaker D.moment D.left_since _ _ _ (IsBeforeOrAll head records (first ∷ more))
    (entering-stands _ head records (stands-spelled _ head records (settled.stands honest)) _ settled.place _ first more framed)
    (c.in-Ok.ensures.any_moment honest (settled.durable honest))

pub returns-in-Ok-clause-ok : goal.returns-in-Ok-clause-ok
returns-in-Ok-clause-ok g c head records first more settled framed =
    let after : c.args.self.now.end + (length c.args.frames.now + 1 - 1) ≡ c.args.self.now.end + length c.args.frames.now = omega arith in
    record {
      stands = λ honest.
          let was = sym c.in-Ok.ensures.honest ∙ honest in
          entered-stands _ head records (stands-spelled _ head records (settled.stands was)) _ settled.place _ first more framed _ (c.in-Ok.ensures.entered was);
      durable = λ honest. c.in-Ok.ensures.durable;
      place = ap (λ n. n + 1) after ∙ place-more head records _ settled.place _ first more framed;
    }
