use Rattle.std.proofs.Common.{subst, rules}
use Rattle.std.specs.Prelude.{IsTrue, IsUtf8}
use Rattle.std.specs.Str.{is_utf8}
use Rattle.std.proofs.lemmas.Str.{is_utf8-from_IsUtf8}
use Rattle.corr_io.proofs.files.open_at.Goals as goal

pub returns-in-Ok : goal.returns-in-Ok
returns-in-Ok g c =
    let named : IsTrue (is_utf8 c.args.path.now) = is_utf8-from_IsUtf8 _ (subst IsUtf8 c.bytes.ensures c.in-Ok.ensures.cases.1) in
    search rules
