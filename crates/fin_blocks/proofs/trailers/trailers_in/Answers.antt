use Rattle.std.proofs.Common.{◌≡◌, ◌<◌, ◌∙◌, ℕ, List, Bor, length, sym, arith}
use Rattle.std.specs.Prelude.{option_map}
use Rattle.std.proofs.lemmas.Grind.{common_steps}
use Rattle.fin_blocks.specs.Forms.{trailer_of}
use Rattle.fin_blocks.proofs.Pieces.{read-more, read-stops, read-all}
use Rattle.fin_blocks.proofs.trailers.trailers_in.Goals as goal

pub returns-in_default : goal.returns-in_default
returns-in_default c =
    let some : 0 < length c.loop-rest.rest.now = grind (arith, common_steps) in
    read-stops trailer_of c.args.b.now c.loop-rest.rest.now c.loop-rest.trailers c.loop-rest.invariant some (option_map (λ (b : Bor (List ℕ)). b.now) c.next_group-piece.result.group) c.next_group-piece.result.rest.now
    c.next_group-piece.ensures.cut (sym c.in_default.is ∙ c.trailer.ensures)

pub loop-rest-preserved : goal.loop-rest-preserved
loop-rest-preserved c =
    let some : 0 < length c.loop-rest.rest.now = grind (arith, common_steps) in
    rw c.in_ok-push.ensures.ok (read-more trailer_of c.args.b.now c.loop-rest.rest.now c.loop-rest.trailers c.loop-rest.invariant some (option_map (λ (b : Bor (List ℕ)). b.now) c.next_group-piece.result.group) c.next_group-piece.result.rest.now
    c.next_group-piece.ensures.cut c.in-Some.code c.in-Some.ensures)

pub returns : goal.returns
returns c =
    let none : length c.loop-rest.rest.now ≡ 0 = grind (arith, common_steps) in
    read-all trailer_of c.args.b.now c.loop-rest.rest.now c.loop-rest.trailers c.loop-rest.invariant none
