use Rattle.day_model.proofs.laws.Growth.{empty_is_legal, fold_again, fold_begins, fold_is_legal, fold_of_append, places_stay}
use Rattle.day_model.proofs.laws.Folds.{legal_fold}
use Rattle.day_model.proofs.law.fold_laws.Goals as goal

pub returns-clause-begins : goal.returns-clause-begins
returns-clause-begins c = fold_begins

pub returns-clause-legal : goal.returns-clause-legal
returns-clause-legal c = fold_is_legal

pub returns-clause-append : goal.returns-clause-append
returns-clause-append c = fold_of_append

pub returns-clause-again : goal.returns-clause-again
returns-clause-again c = fold_again

pub returns-clause-places : goal.returns-clause-places
returns-clause-places c = places_stay

pub returns-clause-empty : goal.returns-clause-empty
returns-clause-empty c = empty_is_legal

pub returns-clause-history : goal.returns-clause-history
returns-clause-history c = legal_fold
