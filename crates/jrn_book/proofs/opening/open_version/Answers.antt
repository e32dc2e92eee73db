use Rattle.std.proofs.Common.{◌≡◌, rules, arith, subst, sym}
use Rattle.std.proofs.lemmas.Grind.{common_steps}
use Rattle.std.specs.Prelude.{IfSome, IsTrue}
use Rattle.jrn_file.specs.Reading.{Reading, cut, opened_of, whole}
use Rattle.jrn_file.proofs.laws.Sizes.{cut-place}
use Rattle.jrn_book.specs.Opening.{IsFoundIn, found_by}
use Rattle.jrn_book.specs.Reading.{past_in}
use Rattle.jrn_book.proofs.Found.{only_told}
use Rattle.jrn_book.proofs.opening.open_version.Goals as goal

pub returns-in-Open-clause-told : goal.returns-in-Open-clause-told
returns-in-Open-clause-told g c =
    let is : IsTrue (g.D.Disk.honest c.args.disk) → opened_of (g.D.Disk.reads c.args.disk) ≡ whole c.as_slice.result.now =
    first_of (search rules, grind (arith, common_steps)) in
    λ honest. subst (λ (r : Reading). IfSome (past_in c.open_whole.result) (IsFoundIn c.args.version r)) (sym (is honest)) c.open_whole.ensures.told

pub returns-in-Open-clause-only : goal.returns-in-Open-clause-only
returns-in-Open-clause-only g c =
    let is : IsTrue (g.D.Disk.honest c.args.disk) → opened_of (g.D.Disk.reads c.args.disk) ≡ whole c.as_slice.result.now =
    first_of (search rules, grind (arith, common_steps)) in
    λ honest finding found.
    let told = subst (λ (r : Reading). IfSome (past_in c.open_whole.result) (IsFoundIn c.args.version r)) (sym (is honest)) c.open_whole.ensures.told in
    only_told c.args.version (opened_of (g.D.Disk.reads c.args.disk)) (past_in c.open_whole.result) told finding found

pub returns-in-Ok-clause-told : goal.returns-in-Ok-clause-told
returns-in-Ok-clause-told g c =
    let is : IsTrue (g.D.Disk.honest c.args.disk) → opened_of (g.D.Disk.reads c.args.disk) ≡ cut c.as_slice-in-Damaged.result.now c.in-Damaged.at =
    first_of (search rules, grind (arith, common_steps)) in
    λ honest.
    subst (λ (r : Reading). IfSome (found_by c.refusal.result) (IsFoundIn c.args.version r)) (sym (is honest))
    (c.refusal.ensures.told (cut-place (g.D.Disk.reads c.args.disk) c.as_slice-in-Damaged.result.now c.in-Damaged.at (is honest)))

pub returns-in-Ok-clause-only : goal.returns-in-Ok-clause-only
returns-in-Ok-clause-only g c =
    let is : IsTrue (g.D.Disk.honest c.args.disk) → opened_of (g.D.Disk.reads c.args.disk) ≡ cut c.as_slice-in-Damaged.result.now c.in-Damaged.at =
    first_of (search rules, grind (arith, common_steps)) in
    λ honest finding found.
    let told : IfSome (found_by c.refusal.result) (IsFoundIn c.args.version (opened_of (g.D.Disk.reads c.args.disk))) =
    subst (λ (r : Reading). IfSome (found_by c.refusal.result) (IsFoundIn c.args.version r)) (sym (is honest))
    (c.refusal.ensures.told (cut-place (g.D.Disk.reads c.args.disk) c.as_slice-in-Damaged.result.now c.in-Damaged.at (is honest))) in
    only_told c.args.version (opened_of (g.D.Disk.reads c.args.disk)) (found_by c.refusal.result) told finding found
