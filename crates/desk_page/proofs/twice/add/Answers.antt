use Rattle.desk_page.proofs.Known.{known_more}
use Rattle.desk_page.proofs.twice.add.Goals as goal

pub returns : goal.returns
returns c = λ keys known key. known_more (λ k. k.now) c.args.known.now.keys _ c.args.added keys c.in_ok-insert.ensures.keys known key
