use Rattle.corr_books.proofs.stand.publish_as.Given as goal

abbrev pub ghost-publish : goal.ghost-publish
ghost-publish g a = g.A.Act.act
