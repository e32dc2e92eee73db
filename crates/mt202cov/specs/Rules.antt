-- The rules of a cover, each with its code and the tag that it is told of.
use Rattle.std.specs.Prelude.{◌&&◌, not, List, [], ◌∷◌, Option, is_some, is_none, codes}
use Rattle.corr_text.specs.Codes.{code}
use Rattle.corr_text.specs.First.{unless}
use Rattle.corr_text.specs.declared.fault.Code.{Code}
use Rattle.corr_text.specs.declared.fault.Fault.{Fault}
use Rattle.mt202cov.specs.declared.message.Mt202Cov.{Mt202Cov}

-- 57a is missing
abbrev pub lacks_57 : Code → Fault
lacks_57 refusal = record { code = refusal; tag = codes "57 "; nth = 0 }

-- in sequence A 56a stands with 57a
abbrev pub c81 : Mt202Cov → Option Fault
c81 m = unless (not (is_some m.a56 && is_none m.a57)) (lacks_57 (code "C81"))

-- in sequence B 56a stands with 57a
abbrev pub c68 : Mt202Cov → Option Fault
c68 m = unless (not (is_some m.b56 && is_none m.b57)) (lacks_57 (code "C68"))

-- both, in the order in which they are tested
abbrev pub all_rules : Mt202Cov → List (Option Fault)
all_rules m = c81 m ∷ c68 m ∷ []
