use Rattle.jrn_file.specs.File.{disk_of}
use Rattle.jrn_book.proofs.Resuming.{all_resumable}
use Rattle.jrn_book.proofs.book.JrnBook.commit.Goals as goal

pub returns-clause-resumes : goal.returns-clause-resumes
returns-clause-resumes g c = λ start done more whole told is.
    all_resumable g.D.Disk.moment g.D.Disk.left_since (disk_of c.args.self.now.file) (disk_of c.answer-answer.new.self.file) c.args.self.now.accounts start c.args.self.now.history done more c.args.p.now c.args.day is
    (c.answer-answer.ensures.commits.any_moment whole told)
