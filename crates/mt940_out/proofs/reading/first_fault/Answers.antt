use Rattle.std.proofs.Common.{Some, sym, ap, ◌∙◌, subst}
use Rattle.corr_text.specs.First.{first_of}
use Rattle.corr_text.specs.declared.fault.Fault.{Fault}
use Rattle.fin_layout.specs.Reading.{Tells}
use Rattle.fin_layout.specs.declared.fault.MtFault.{MtFault}
use Rattle.mt940_out.specs.Page.{tests_940}
use Rattle.mt940_out.proofs.Outcome.{fault-told, page-told}
use Rattle.mt940_out.proofs.reading.first_fault.Goals as goal
use Rattle.mt940_out.proofs.reading.first_fault.Goals.{in-Ok, in-Err-Memory, in-Err-Bad}

pub returns : goal.returns
returns c =
    let t = c.args.t.now in
    let all = c.args.all.now in
    let beside = c.args.beside.now in
    let told : MtFault → Type 0 = λ e. Tells (first_of (tests_940 t all)) e in
    elim c.match-read_mt950_lines.branch [
      | in-Ok w ↦
          subst told (sym w.result-is)
          (page-told t all beside c.requires.beside c.requires.sound c.args.at c.requires.bad w.in-Ok.field-0 w.in-Ok.ensures.message
          ∙ ap (λ (x : Fault). Some x) (sym w.fault_at.ensures))
      | in-Err-Memory w ↦ subst told (sym w.result-is) tt
      | in-Err-Bad w ↦
          subst told (sym w.result-is)
          (fault-told t all beside c.requires.beside c.requires.sound c.args.at c.requires.bad w.in-Err-Bad.fault
          (rw w.in-Err-Bad.field-0-is at w.in-Err-Bad.ensures.message) c.read_mt950_lines.ensures.complete
          ∙ ap (λ (x : Fault). Some x) (sym w.earlier_fault.ensures))
    ]
