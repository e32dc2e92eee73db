use Rattle.std.proofs.Common.{◌≡◌, FitsSigned, List, map, sym, ap, ◌∙◌, subst, ◌+ℤ◌, ℤ, to_z, of_z, w64, rules}
use Rattle.std.specs.Prelude.{All}
use Rattle.std.proofs.lemmas.Int.{to_z-of_z}
use Rattle.day_model.specs.Balance.{balance_of}
use Rattle.statement.specs.Legs.{before_day}
use Rattle.statement.specs.Lines.{Placed, lines_on, up_to_day}
use Rattle.statement.specs.Running.{placed_by}
use Rattle.reconcile.specs.inner.Bounds.{IsLine}
use Rattle.reconcile.specs.Pairing.{ours_left, pairs_of, theirs_left}
use Rattle.reconcile.proofs.Bounded.{ours-keyed, received-lines, sum-before, sum-up-to}
use Rattle.reconcile.proofs.comparing.compare_with.Goals as goal

pub pair_up-requires-clause-entries : goal.pair_up-requires-clause-entries
pair_up-requires-clause-entries c =
    let book = c.requires.0 in
    ours-keyed c.args.ix.now c.args.n.0 c.args.s.now book c.requires.1 c.booked_on-entries.result.now (c.booked_on-entries.ensures book c.requires.1.has)

pub pair_up-requires-clause-lines : goal.pair_up-requires-clause-lines
pair_up-requires-clause-lines c = subst (All IsLine) (sym c.as_slice.ensures) (received-lines c.args.s.now c.requires.1.received)

pub overflow_add-result : goal.overflow_add-result
overflow_add-result c =
    let s = c.args.s.now in
    let (book, is) = c.requires in
    let fits : FitsSigned w64 s.opening = search rules in
    let before : to_z w64 (of_z w64 c.balance_before.result) ≡ balance_of book.chart (before_day s.day book.entries) c.args.n.0 =
    to_z-of_z w64 c.balance_before.result (record { sfits = c.balance_before.type_inv }) ∙ c.balance_before.ensures book is.has in
    let opening : to_z w64 (of_z w64 s.opening) ≡ s.opening = to_z-of_z w64 s.opening fits in
    subst (λ (z : ℤ). FitsSigned w64 z) (sym (λ i. before i +ℤ opening i)) (sum-before c.args.ix.now c.args.n.0 s book is)

pub overflow_add-result-2 : goal.overflow_add-result-2
overflow_add-result-2 c =
    let s = c.args.s.now in
    let (book, is) = c.requires in
    let fits : FitsSigned w64 s.closing = search rules in
    let after : to_z w64 (of_z w64 c.balance_up_to.result) ≡ balance_of book.chart (up_to_day s.day book.entries) c.args.n.0 =
    to_z-of_z w64 c.balance_up_to.result (record { sfits = c.balance_up_to.type_inv }) ∙ c.balance_up_to.ensures book is.has in
    let closing : to_z w64 (of_z w64 s.closing) ≡ s.closing = to_z-of_z w64 s.closing fits in
    subst (λ (z : ℤ). FitsSigned w64 z) (sym (λ i. after i +ℤ closing i)) (sum-up-to c.args.ix.now c.args.n.0 s book is)

pub returns : goal.returns
returns c = λ book is.
    let s = c.args.s.now in
    let n = c.args.n.0 in
    let ours : List Placed = lines_on book.chart n s.day book.entries in
    let entries : map placed_by c.booked_on-entries.result.now ≡ ours = c.booked_on-entries.ensures book is.has in
    let lines : c.as_slice.result.now ≡ s.lines = c.as_slice.ensures in
    let pairs : c.in_ok-pairs.field-0.pairs ≡ pairs_of ours s.lines = c.in_ok-pairs.ensures.pairs ∙ (λ i. pairs_of (entries i) (lines i)) in
    let theirs : c.in_ok-pairs.field-0.theirs ≡ theirs_left ours s.lines = c.in_ok-pairs.ensures.theirs ∙ (λ i. theirs_left (entries i) (lines i)) in
    let paired : c.as_slice-2.result.now ≡ pairs_of ours s.lines = c.as_slice-2.ensures ∙ pairs in
    let left : c.in_ok-ours.ours ≡ ours_left (pairs_of ours s.lines) ours = c.in_ok-ours.ensures ∙ (λ i. ours_left (paired i) (entries i)) in
    let opening_fits : FitsSigned w64 s.opening = search rules in
    let closing_fits : FitsSigned w64 s.closing = search rules in
    let before : to_z w64 (of_z w64 c.balance_before.result) ≡ balance_of book.chart (before_day s.day book.entries) n =
    to_z-of_z w64 c.balance_before.result (record { sfits = c.balance_before.type_inv }) ∙ c.balance_before.ensures book is.has in
    let after : to_z w64 (of_z w64 c.balance_up_to.result) ≡ balance_of book.chart (up_to_day s.day book.entries) n =
    to_z-of_z w64 c.balance_up_to.result (record { sfits = c.balance_up_to.type_inv }) ∙ c.balance_up_to.ensures book is.has in
    let opening : to_z w64 (of_z w64 s.opening) ≡ s.opening = to_z-of_z w64 s.opening opening_fits in
    let closing : to_z w64 (of_z w64 s.closing) ≡ s.closing = to_z-of_z w64 s.closing closing_fits in
    let opening_gap = ap (λ z. to_z w64 (of_z w64 z)) (λ i. before i +ℤ opening i) ∙ to_z-of_z w64 (balance_of book.chart (before_day s.day book.entries) n +ℤ s.opening) (sum-before c.args.ix.now n s book is) in
    let closing_gap = ap (λ z. to_z w64 (of_z w64 z)) (λ i. after i +ℤ closing i) ∙ to_z-of_z w64 (balance_of book.chart (up_to_day s.day book.entries) n +ℤ s.closing) (sum-up-to c.args.ix.now n s book is) in
    λ i. record { pairs = pairs i; ours = left i; theirs = theirs i; opening_gap = opening_gap i; closing_gap = closing_gap i }
