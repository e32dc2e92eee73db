use Rattle.corr_books.proofs.laws.Acknowledged.{base_stands, kept_stands, new_stands, more_keep_places}
use Rattle.corr_books.proofs.law.told_stands.Goals as goal

pub returns-clause-new : goal.returns-clause-new
returns-clause-new c = new_stands

pub returns-clause-kept : goal.returns-clause-kept
returns-clause-kept c = kept_stands

pub returns-clause-base : goal.returns-clause-base
returns-clause-base c = base_stands

pub returns-clause-places : goal.returns-clause-places
returns-clause-places c = more_keep_places
