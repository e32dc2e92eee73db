use Rattle.std.proofs.Common.{[], ◌++◌, List, ℕ, Bor, cond, get_or, ap, ◌∙◌, append_assoc}
use Rattle.std.specs.Str.{bytes_eq}
use Rattle.std.specs.List.{list_any}
use Rattle.out_file.proofs.Standing.{lack_more}
use Rattle.out_file.proofs.mending.push_lacking.Goals as goal

pub loop-message-preserved : goal.loop-message-preserved
loop-message-preserved c =
    let none : Bor (List ℕ) = record { ref_ptr = (0, 0); now = [] } in
    let l = c.loop-message in
    let stands : List ℕ → _ = λ m. list_any (λ key. bytes_eq m key.now) c.args.set.now.keys in
    let message = (get_or c.args.messages.now l.message-index none).now in
    let more = lack_more (λ (m : Bor (List ℕ)). m.now) stands c.args.messages.now l.message-index none c.loop-message-test.true in
    c.in_ok-push_unless.ensures ∙ ap (λ text. text ++ cond (stands message) [] message) l.invariant
    ∙ append_assoc c.args.text.now _ (cond (stands message) [] message) ∙ ap (λ added. c.args.text.now ++ added) more
