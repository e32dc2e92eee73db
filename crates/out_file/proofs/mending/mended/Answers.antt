use Rattle.std.proofs.Common.{◌≡◌, ◌++◌, List, ℕ, map, filter, flat_map, not, ap, ◌∙◌}
use Rattle.std.specs.Str.{bytes_eq}
use Rattle.std.specs.List.{concat, list_any}
use Rattle.out_file.specs.Mended.{lacking, messages_of, stands_in}
use Rattle.out_file.proofs.Standing.{filter_same, flat_joined}
use Rattle.out_file.proofs.mending.mended.Goals as goal

pub returns : goal.returns
returns c =
    let file = c.args.file.now in
    let whole : map (λ m. m.now) c.in_ok-whole.whole ≡ messages_of file = c.in_ok-whole.ensures in
    let tests : (m : List ℕ) → list_any (λ key. bytes_eq m key.now) c.in_ok-set.set.keys ≡ stands_in (messages_of file) m =
    λ m. c.in_ok-set.ensures m ∙ ap (λ ms. stands_in (map (λ x. x.now) ms) m) c.as_slice.ensures ∙ ap (λ ms. stands_in ms m) whole in
    let asked = ap (map (λ m. m.now)) c.as_slice-3.ensures ∙ c.in_ok-asked.ensures in
    let lack : filter (λ m. not (list_any (λ key. bytes_eq m key.now) c.in_ok-set.set.keys)) (map (λ m. m.now) c.as_slice-3.result.now) ≡ lacking (messages_of file) (messages_of c.args.sent.now) =
    ap (filter _) asked ∙ filter_same _ _ (λ m. ap not (tests m)) (messages_of c.args.sent.now) in
    let front = c.in_ok-push_all.ensures.ok ∙ (λ i. c.in_ok-text.ensures i ++ flat_map (λ m. m.now) (c.as_slice-2.ensures i))
    ∙ flat_joined (λ m. m.now) c.in_ok-whole.whole ∙ ap concat whole in
    c.in_ok-push_lacking.ensures ∙ (λ i. front i ++ concat (lack i))
