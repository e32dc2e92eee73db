use Rattle.std.proofs.Common.{ap, ◌∙◌}
use Rattle.std.specs.Str.{bytes_eq}
use Rattle.std.specs.List.{list_any}
use Rattle.out_file.proofs.Standing.{any_added}
use Rattle.out_file.proofs.mending.add.Goals as goal

pub returns : goal.returns
returns c = λ other.
    ap (λ keys. list_any (λ key. bytes_eq other key.now) keys) c.in_ok-insert.ensures.keys
    ∙ any_added (λ key. key.now) c.args.set.now.keys c.args.message other
