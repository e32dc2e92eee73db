use Rattle.std.proofs.Common.{◌≡◌, ◌+◌, ◌-◌, ◌++◌, List, drop, sym, ap, ◌∙◌, append_assoc}
use Rattle.corr_report.proofs.laws.Rests.{rest_at}
use Rattle.day_model.specs.declared.entry.Entry.{Entry}
use Rattle.desk_page.specs.declared.leaving.Kind.{Kind}
use Rattle.desk_page.specs.inner.Books.{entries_in}
use Rattle.desk_page.specs.Leaving.{kinds_in, leaving}
use Rattle.desk_page.proofs.leaving.kinds_on.Goals as goal

pub loop-place-preserved : goal.loop-place-preserved
loop-place-preserved c =
    let l = c.loop-place in
    let day = c.args.day in
    let entry : Entry = c.get.result.now in
    let left : List Entry = drop (l.place + 1 - 1) (entries_in c.args.books) in
    let rest = rest_at (entries_in c.args.books) l.place entry l.auto.place c.get.ensures in
    ap (λ (kinds : List Kind). kinds ++ leaving day left) c.in_ok-push_entry.ensures ∙ append_assoc l.kinds.items (kinds_in day entry) (leaving day left)
    ∙ sym (ap (λ (entries : List Entry). l.kinds.items ++ leaving day entries) rest) ∙ l.invariant
