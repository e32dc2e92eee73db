use Rattle.std.proofs.Common.{◌≡◌, ◌<◌, ◌∙◌, ℕ, List, Bor, Some, length, ap, arith}
use Rattle.std.specs.Prelude.{option_map}
use Rattle.std.proofs.lemmas.Grind.{common_steps}
use Rattle.fin_blocks.specs.User.{subblock_of}
use Rattle.fin_blocks.proofs.Pieces.{read-more, read-stops, read-all}
use Rattle.std.proofs.lemmas.List.Elements.{All-push}
use Rattle.fin_blocks.proofs.user.subblocks.Goals as goal

pub returns-in_default-clause-value : goal.returns-in_default-clause-value
returns-in_default-clause-value c =
    let some : 0 < length c.loop-rest.rest.now = grind (arith, common_steps) in
    read-stops subblock_of c.args.b.now c.loop-rest.rest.now c.loop-rest.user c.loop-rest.invariant.read some (option_map (λ (b : Bor (List ℕ)). b.now) c.next_group-piece.result.group) c.next_group-piece.result.rest.now
    c.next_group-piece.ensures.cut (rw c.in_default.is at c.read_subblock.ensures.value)

pub loop-rest-preserved : goal.loop-rest-preserved
loop-rest-preserved c =
    let some : 0 < length c.loop-rest.rest.now = grind (arith, common_steps) in
    let number = c.in-Some.sub.number in
    let text = c.in_ok-text.text in
    rw c.in_ok-push.ensures.ok (record {
      read = read-more subblock_of c.args.b.now c.loop-rest.rest.now c.loop-rest.user c.loop-rest.invariant.read some (option_map (λ (b : Bor (List ℕ)). b.now) c.next_group-piece.result.group) c.next_group-piece.result.rest.now
          c.next_group-piece.ensures.cut (number, text) (ap (λ t. Some (number, t)) c.in_ok-text.ensures ∙ c.in-Some.ensures.value);
      bound = All-push (λ (s : ℕ × List ℕ). s.0 < 1000) c.loop-rest.user (number, text) c.loop-rest.invariant.bound c.in-Some.ensures.bound;
    })

pub returns-clause-value : goal.returns-clause-value
returns-clause-value c =
    let none : length c.loop-rest.rest.now ≡ 0 = grind (arith, common_steps) in
    read-all subblock_of c.args.b.now c.loop-rest.rest.now c.loop-rest.user c.loop-rest.invariant.read none
