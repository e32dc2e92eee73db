use Rattle.std.proofs.Common.{◌≡◌, ℕ, List, map, take}
use Rattle.std.specs.Str.{bytes_eq}
use Rattle.std.specs.List.{list_any}
use Rattle.out_file.specs.Mended.{stands_in}
use Rattle.out_file.proofs.mending.set_of.Given as goal

-- what stands among the messages so far
abbrev pub invariant-loop-message : goal.invariant-loop-message
invariant-loop-message l = (message : List ℕ) → list_any (λ key. bytes_eq message key.now) l.set.keys ≡ stands_in (map (λ m. m.now) (take l.message-index l.messages)) message
