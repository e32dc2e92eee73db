use Rattle.std.proofs.Common.{◌≡◌, false, take}
use Rattle.std.specs.List.{list_any}
use Rattle.std.specs.Str.{bytes_eq}
use Rattle.mt103.proofs.word.is_word_of.Given as goal

-- no word so far is the one that is looked for
abbrev pub invariant-loop-listed : goal.invariant-loop-listed
invariant-loop-listed g l = list_any (λ w. bytes_eq w l.word) (take l.listed-index l.words) ≡ false
