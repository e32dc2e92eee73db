use Rattle.std.proofs.Common.{length, subst, sym}
use Rattle.std.specs.Prelude.{IfOk, Result, Ok, Err}
use Rattle.std.proofs.lemmas.Result.{IfErr-weaker}
use Rattle.corr_disk.specs.Calls.{AtMostCalls}
use Rattle.jrn_file.specs.Pieces.{calls_to_open, piece_size}
use Rattle.jrn_book.proofs.Resuming.{resumes_here}
use Rattle.jrn_book.proofs.opening.open_book.Goals as goal

each_ok : {X E : Type 0} (r : Result X E) (P : X → Type 0) → ((x : X) → P x) → IfOk r P
each_ok (Ok x) P each = each x
each_ok (Err e) P each = tt

pub returns-in-Ok-clause-again : goal.returns-in-Ok-clause-again
returns-in-Ok-clause-again g c =
    each_ok c.give.result _ (λ r start done more day is. resumes_here r.0.accounts start r.0.history done more day is)

pub returns-in-Ok-clause-no_more_calls : goal.returns-in-Ok-clause-no_more_calls
returns-in-Ok-clause-no_more_calls g c = λ honest.
    let d = g.D.Disk in
    IfErr-weaker c.give.result _ _
    (λ e is. subst (λ x. AtMostCalls (calls_to_open piece_size (length (d.reads c.args.disk))) (d.plan c.args.disk) (d.plan x)) (sym is.0) (c.in-Ok.ensures.no_more_calls honest))
    c.give.ensures.disk
