use Rattle.std.proofs.Common.{◌≡◌, ◌++◌, map, length}
use Rattle.out_file.specs.Mended.{messages_of}
use Rattle.out_file.proofs.cutting.messages_in.Given as goal

-- the messages so far, and those of the rest, are those of the file
abbrev pub invariant-loop-message : goal.invariant-loop-message
invariant-loop-message l = map (λ m. m.now) l.messages ++ messages_of l.rest ≡ messages_of l.file

-- the rest gets shorter
abbrev pub decreases-loop-message : goal.decreases-loop-message
decreases-loop-message l = length l.rest
