use Rattle.std.proofs.Common.{◌-◌, sym, subst, arith}
use Rattle.std.specs.Prelude.{List, ℕ, ◌≡◌, IfOk}
use Rattle.std.proofs.lemmas.List.Elements.{recursion_from_All}
use Rattle.day_model.specs.Shape.{HasShape}
use Rattle.day_model.specs.declared.entry.Entry.{Entry}
use Rattle.mt940_out.proofs.Told.{all-get, note-there}
use Rattle.mt940_out.proofs.message.note_at.Goals as goal

pub note_of-requires : goal.note_of-requires
note_of-requires c =
    let Shaped : Entry → Type 0 = λ entry. HasShape entry.pay in
    let entries = c.args.h.now.entries in
    (all-get Shaped entries (c.args.place - 1) c.get.result.now (recursion_from_All Shaped entries c.requires) c.get.ensures).text

pub returns-clause-value : goal.returns-clause-value
returns-clause-value c =
    subst (λ (note : List (List ℕ)). IfOk c.note_of.result (λ n. n ≡ note))
    (sym (note-there c.args.h.now.entries c.args.place c.get.result.now (omega arith) c.get.ensures)) c.note_of.ensures.value
