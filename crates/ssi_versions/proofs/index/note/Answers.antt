use Rattle.std.proofs.Common.{◌≡◌, arith}
use Rattle.std.specs.List.{insert}
use Rattle.std.specs.Map.{lookup}
use Rattle.std.specs.Str.{bytes_eq}
use Rattle.ssi_versions.specs.Index.{places_under}
use Rattle.ssi_versions.proofs.Places.{items-else, notes_place}
use Rattle.ssi_versions.proofs.index.note.Goals as goal

-- what stood for the key, or none
was : (c : goal.In_ok-insert) → c.or_insert.result.now.items ≡ places_under c.args.groups.now.entries c.args.key
was c = rw (c.or_insert.ensures.value, c.in_ok-groups.ensures.value) (items-else (lookup (bytes_eq c.args.key) c.args.groups.now.entries) c.new.result c.new.ensures.items)

pub returns : goal.returns
returns c =
    let updated = c.in_ok-groups.ensures.update.0 c.insert.new.self in
    let written : c.insert.new.self.items ≡ insert (places_under c.args.groups.now.entries c.args.key) c.args.at c.args.place = rw (was c) at c.in_ok-insert.ensures.items in
    notes_place c.args.groups.now.entries _ c.args.key c.args.at c.args.place c.insert.new.self written (λ other. let put = updated.0 other in grind arith)
