use Rattle.std.proofs.Common.{refl, arith}
use Rattle.fin_frame.proofs.PieceFile.{taken-message}
use Rattle.fin_frame.proofs.pieces.PieceCutter.pass_message.Goals as goal

pub returns-clause-took : goal.returns-clause-took
returns-clause-took c = λ file message messages taken is size.
    taken-message c.args.self.now _ file message messages taken is (omega (arith, size)) refl refl refl
