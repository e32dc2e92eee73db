use Rattle.std.proofs.Common.{◌≡◌, ℕ, ◌+◌, ◌++◌, List, [], ap, refl, ◌∙◌}
use Rattle.corr_report.proofs.laws.LineLists.{numbered_more}
use Rattle.corr_top.specs.Check.{check_line}
use Rattle.corr_top.proofs.checking.verdicts.Goals as goal

-- one line more: the message of the loop is that of its place (`c.index-messages-at`), as `bytes` gives it
pub loop-at-preserved : goal.loop-at-preserved
loop-at-preserved c =
    let l = c.loop-at in
    let line_of : ℕ → List ℕ → List ℕ = check_line c.args.home.now c.args.tables.now in
    let m = c.index-messages-at.result in
    let next : l.at + 1 ≡ l.at + 1 = refl in
    let line = c.in_ok-put_check_line.ensures ∙ ap (λ (bs : List ℕ). l.out ++ line_of (l.at + 1) bs) (c.bytes.ensures.bytes ∙ c.index-messages-at.is) in
    numbered_more line_of c.args.messages.now l.at (l.at + 1) (l.at + 1) m [] l.out _ c.loop-at-test.true next next l.invariant line
