use Rattle.std.proofs.Common.{◌≡◌, ◌++◌, filter, map, not, take}
use Rattle.std.specs.Str.{bytes_eq}
use Rattle.std.specs.List.{concat, list_any}
use Rattle.out_file.proofs.mending.push_lacking.Given as goal

-- the text has those of the messages so far that lack
abbrev pub invariant-loop-message : goal.invariant-loop-message
invariant-loop-message l =
    l.text ≡ l.fn.text ++ concat (filter (λ message. not (list_any (λ key. bytes_eq message key.now) l.fn.set.keys)) (map (λ m. m.now) (take l.message-index l.messages)))
