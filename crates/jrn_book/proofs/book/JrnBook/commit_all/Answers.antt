use Rattle.jrn_file.specs.File.{disk_of}
use Rattle.jrn_book.proofs.Batched.{batch_resumable}
use Rattle.jrn_book.proofs.book.JrnBook.commit_all.Goals as goal

pub returns-clause-resumes : goal.returns-clause-resumes
returns-clause-resumes g c = λ start done more whole told is all.
    batch_resumable g.D.Disk.moment g.D.Disk.left_since (disk_of c.args.self.now.file) (disk_of c.answer_all.new.self.file) c.args.self.now.accounts start c.args.self.now.history done c.args.pays.items more c.args.day is all
    (c.answer_all.ensures.commits.any_moment whole told)
