use Rattle.std.proofs.Common.{◌≡◌, ◌∙◌, false, sym}
use Rattle.std.specs.List.{list_any}
use Rattle.std.specs.List.Sorted.{IsPermutation}
use Rattle.ssi_versions.specs.Index.{has_bank_key, key_by_bank, places_where}
use Rattle.ssi_versions.specs.inner.Index.{holds_at}
use Rattle.ssi_versions.specs.Rows.{shares_a_day}
use Rattle.ssi_versions.proofs.Entering.{overlaps-none}
use Rattle.ssi_versions.proofs.ssi.Ssi.first_overlap.Goals as goal

pub returns-then-not-shares_any_day : goal.returns-then-not-shares_any_day
returns-then-not-shares_any_day c =
    let row = c.args.row.now in
    let rows : c.as_slice-rows.result.now ≡ c.args.self.now = c.as_slice-rows.ensures.value ∙ c.self.view_is in
    let moved : IsPermutation (places_where (has_bank_key (key_by_bank row.ccy.0 row.bank)) 0 c.args.self.now) c.places.result.now = rw c.bytes.ensures at c.places.ensures.all in
    let none : list_any (holds_at (shares_a_day row) c.args.self.now) c.places.result.now ≡ false = rw rows at (sym c.shares_any_day.ensures ∙ c.if-not-shares_any_day.true) in
    sym (overlaps-none row c.args.self.now c.places.result.now moved none)
