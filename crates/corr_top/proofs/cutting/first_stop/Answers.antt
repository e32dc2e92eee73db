use Rattle.corr_top.specs.MessageFile.{IsMessageFile}
use Rattle.corr_top.proofs.MessageFiles.{err_of}
use Rattle.corr_top.proofs.cutting.first_stop.Goals as goal

pub unwrap_err-requires : goal.unwrap_err-requires
unwrap_err-requires c = err_of (IsMessageFile c.args.file.now) c.cut_in_pieces.result c.cut_in_pieces.ensures.ok c.requires.none
