use Rattle.out_file.proofs.Cuts.{cuts_are_mended}
use Rattle.out_file.proofs.law.cuts_are_mended.Goals as goal

pub returns : goal.returns
returns c = cuts_are_mended
