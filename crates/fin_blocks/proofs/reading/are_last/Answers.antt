use Rattle.std.proofs.Common.{◌≡◌, ◌<◌, ◌∙◌, ℕ, List, Bor, length, sym, ap, arith}
use Rattle.std.specs.Prelude.{is_some, option_map}
use Rattle.std.proofs.lemmas.Grind.{common_steps}
use Rattle.fin_blocks.proofs.Ending.{last-none, last-one, last-more, is_some-mapped}
use Rattle.fin_blocks.proofs.reading.are_last.Goals as goal

pub returns-then-is_empty : goal.returns-then-is_empty
returns-then-is_empty c =
    let none : length c.args.piece.from.now ≡ 0 = grind (arith, common_steps) in
    c.if-is_empty.true ∙ sym (last-none c.args.piece.from.now none)

pub returns-then-is_empty-2 : goal.returns-then-is_empty-2
returns-then-is_empty-2 c =
    let some : 0 < length c.args.piece.from.now = grind (arith, common_steps) in
    let none : length c.args.piece.rest.now ≡ 0 = grind (arith, common_steps) in
    c.is_some.ensures ∙ is_some-mapped (λ (b : Bor (List ℕ)). b.now) c.inside.result ∙ ap is_some c.inside.ensures
    ∙ sym (last-one c.args.piece.from.now (option_map (λ (b : Bor (List ℕ)). b.now) c.args.piece.group) c.args.piece.rest.now some c.requires none)

pub returns-else-is_empty-2 : goal.returns-else-is_empty-2
returns-else-is_empty-2 c =
    let some : 0 < length c.args.piece.from.now = grind (arith, common_steps) in
    let more : 0 < length c.args.piece.rest.now = grind (arith, common_steps) in
    c.if-is_empty-2.false ∙ sym (last-more c.args.piece.from.now (option_map (λ (b : Bor (List ℕ)). b.now) c.args.piece.group) c.args.piece.rest.now some c.requires more)
