use Rattle.std.proofs.Common.{ℕ, ◌≡◌, ◌+◌, ◌≤◌, get_or, arith, subst, sym}
use Rattle.std.proofs.lemmas.List.{get_or_default}
use Rattle.acct_locks.specs.Holdings.{AllHand}
use Rattle.corr_books.proofs.Gathered.{HasTaken, above, none_more, none_taken, one_taken, some}
use Rattle.corr_books.proofs.batch.take_each.Goals.{then-last-n, else-last-n}
use Rattle.corr_books.proofs.batch.take_each.Goals as goal

pub loop-n-init : goal.loop-n-init
loop-n-init g c = none_taken c.args.held.now c.args.numbers.now c.requires.none c.requires.ordered

pub take-requires-clause-there : goal.take-requires-clause-there
take-requires-clause-there g c =
    let l = c.loop-n in
    let numbers = c.args.numbers.now in
    let n : ℕ = get_or numbers l.n-index 0 in
    let lt = c.loop-n-test.true in
    let one : 1 ≤ n = some c.args.held.now numbers l.n-index l.last l.held n l.invariant lt (get_or_default numbers l.n-index 0 n lt) c.requires.ordered in
    let within : n ≤ c.args.held.now.count = c.requires.there l.n-index 0 lt in
    let same = l.invariant.count in
    (omega (arith, one), omega (arith, within, same))

pub take-requires-clause-room : goal.take-requires-clause-room
take-requires-clause-room g c =
    let l = c.loop-n in
    let room = l.invariant.room in
    let most = l.invariant.most in
    omega (arith, room, most, c.requires.room, c.loop-n-test.true)

pub take-requires-clause-rising : goal.take-requires-clause-rising
take-requires-clause-rising g c =
    let l = c.loop-n in
    let numbers = c.args.numbers.now in
    let n : ℕ = get_or numbers l.n-index 0 in
    let lt = c.loop-n-test.true in
    above c.args.held.now numbers l.n-index l.last l.held n l.invariant lt (get_or_default numbers l.n-index 0 n lt) c.if-last-n.true

pub loop-n-preserved : goal.loop-n-preserved
loop-n-preserved g c =
    let l = c.loop-n in
    let numbers = c.args.numbers.now in
    let n : ℕ = get_or numbers l.n-index 0 in
    let lt = c.loop-n-test.true in
    let is : n ≡ get_or numbers l.n-index n = get_or_default numbers l.n-index 0 n lt in
    let P : ℕ × AllHand → Type 0 = λ x. HasTaken c.args.held.now numbers (l.n-index + 1) x.0 x.1 in
    elim c.if-last-n.branch [
      | then-last-n w ↦ subst P (λ i. (sym w.last-is i, sym w.held-is i))
          (one_taken c.args.held.now numbers l.n-index l.last l.held n l.invariant lt is w.take.new.self w.if-last-n.true w.take.ensures.taken w.take.ensures.once)
      | else-last-n w ↦ subst P (λ i. (sym w.last-is i, sym w.held-is i))
          (none_more c.args.held.now numbers l.n-index l.last l.held n l.invariant lt is c.requires.ordered w.if-last-n.false)
    ]
