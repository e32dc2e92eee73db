use Rattle.std.proofs.Common.{ap, ◌∙◌, [], List, ℕ, Bor, get_or}
use Rattle.std.specs.Prelude.{◌||◌}
use Rattle.std.specs.Str.{bytes_eq}
use Rattle.out_file.proofs.Standing.{stands_more}
use Rattle.out_file.proofs.mending.set_of.Goals as goal

pub loop-message-preserved : goal.loop-message-preserved
loop-message-preserved c = λ message.
    let none : Bor (List ℕ) = record { ref_ptr = (0, 0); now = [] } in
    let more = stands_more (λ (m : Bor (List ℕ)). m.now) c.args.messages.now c.loop-message.message-index none message c.loop-message-test.true in
    c.in_ok-add.ensures message ∙ ap (λ a. a || bytes_eq message (get_or c.args.messages.now c.loop-message.message-index none).now) (c.loop-message.invariant message) ∙ more
