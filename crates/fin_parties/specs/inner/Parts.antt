-- The code's parts of a field, as the definitions see them.
use Rattle.std.specs.Prelude.{option_map}
use Rattle.fin_parties.specs.declared.opening.Parts.{Parts}
use Rattle.fin_parties.specs.Party as grammar

-- what a cut in the code stands for
abbrev pub parts_in : Parts → grammar.Cut
parts_in p = record { first = option_map (λ b. b.now) p.first; rest = p.rest.now }
