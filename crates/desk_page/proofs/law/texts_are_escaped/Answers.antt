use Rattle.desk_page.proofs.laws.Escaping.{escapes_all}
use Rattle.desk_page.proofs.law.texts_are_escaped.Goals as goal

pub returns : goal.returns
returns c = escapes_all
