use Rattle.std.proofs.Common.{◌≡◌, ◌≤◌, List, None, true, false, ◌∙◌, ap, sym, subst, arith, length}
use Rattle.std.specs.Prelude.{position}
use Rattle.std.specs.List.Sorted.{IsPartitionPoint}
use Rattle.std.proofs.lemmas.List.Elements.{All-push}
use Rattle.ssi_versions.specs.Index.{key_by_bank, places_under}
use Rattle.ssi_versions.specs.inner.Index.{has_begun, holds_at}
use Rattle.ssi_versions.specs.InstructionList.{IsInForm}
use Rattle.ssi_versions.specs.Rows.{overlaps}
use Rattle.ssi_versions.specs.declared.row.SsiRow.{SsiRow}
use Rattle.ssi_versions.proofs.Alone.{order_more}
use Rattle.ssi_versions.proofs.Places.{index_more}
use Rattle.ssi_versions.proofs.ssi.Ssi.enter.Goals as goal

pub begun_by-at-requires : goal.begun_by-at-requires
begun_by-at-requires c =
    let under : c.places_of.result.now ≡ places_under c.self.inside.groups.entries (key_by_bank c.args.row.ccy.0 c.args.row.bank) =
    c.places_of.ensures ∙ ap (places_under c.self.inside.groups.entries) (c.key-key.ensures ∙ ap (key_by_bank c.args.row.ccy.0) c.bytes.ensures) in
    rw (under, c.as_slice.ensures.value) (c.self.invariant.order (key_by_bank c.args.row.ccy.0 c.args.row.bank))

pub note-requires : goal.note-requires
note-requires c = rw (← c.places_of.ensures) c.begun_by-at.ensures.bound

pub invariant_of-result : goal.invariant_of-result
invariant_of-result c =
    let rows = c.self.inside.rows in
    let groups = c.self.inside.groups.entries in
    let own = key_by_bank c.args.row.ccy.0 c.args.row.bank in
    let place : c.len.result ≡ length rows.items = omega (arith, c.len.ensures, rows.ok.0) in
    let under : c.places_of.result.now ≡ places_under groups own = c.places_of.ensures ∙ ap (places_under groups) (c.key-key.ensures ∙ ap (key_by_bank c.args.row.ccy.0) c.bytes.ensures) in
    let noted = rw (c.key-key.ensures, c.bytes.ensures) at c.in_ok-note.ensures in
    let bound : c.begun_by-at.result ≤ length (places_under groups own) = rw under at c.begun_by-at.ensures.bound in
    let point : IsPartitionPoint (λ p. holds_at (has_begun c.args.row.from) rows.items p ≡ true) (λ p. holds_at (has_begun c.args.row.from) rows.items p ≡ false) (places_under groups own) c.begun_by-at.result =
    rw (under, c.as_slice.ensures.value) at c.begun_by-at.ensures.point in
    let alone : position (overlaps c.args.row) rows.items ≡ None = subst (λ (xs : List SsiRow). position (overlaps c.args.row) xs ≡ None) (sym c.self.view_is) c.requires.alone in
    rw c.in_ok-push.ensures.items (record {
      form = All-push IsInForm rows.items c.args.row c.self.invariant.form c.requires.form;
      index = λ key. index_more rows.items c.args.row groups c.note.new.groups.entries c.self.invariant.index c.begun_by-at.result c.len.result place noted key;
      order = λ key. order_more rows.items c.args.row groups c.note.new.groups.entries c.self.invariant c.requires.form c.requires.span alone c.begun_by-at.result bound point c.len.result place noted key;
    })
