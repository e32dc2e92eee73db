use Rattle.std.proofs.Common.{◌≡◌, ◌||◌, nat_lt, length, take, refl, sym, ap, ◌∙◌, arith}
use Rattle.std.proofs.lemmas.List.{length-take-le}
use Rattle.fin_frame.proofs.PieceFile.{taken-gap}
use Rattle.fin_frame.proofs.pieces.PieceCutter.pass_gap.Goals as goal
use Rattle.fin_frame.proofs.pieces.PieceCutter.pass_gap.Goals.{then-self, else-self}

pub returns-clause-took : goal.returns-clause-took
returns-clause-took c = λ file messages taken.
    let len = c.gap_len-len.result.0 in
    let gap = take len c.args.bytes.now in
    let size : length gap ≡ len = length-take-le len c.args.bytes.now c.gap_len-len.ensures.most in
    let apart : c.if-self.self ≡ (c.args.self.now.apart || nat_lt 0 len) =
    elim c.if-self.branch [
      | then-self w ↦ w.self-is ∙ w.if-self.true ∙ sym (ap (λ t. t || nat_lt 0 len) w.if-self.true)
      | else-self w ↦ w.self-is ∙ sym (ap (λ t. t || nat_lt 0 len) w.if-self.false)
    ] in
    taken-gap c.args.self.now _ file gap messages taken c.gap_len-len.ensures.gap (omega (arith, size)) refl c.gap_len-len.ensures.marked
    (apart ∙ ap (λ n. c.args.self.now.apart || nat_lt 0 n) (sym size))
