use Rattle.std.proofs.Common.{◌≡◌, ◌+◌, ◌-◌, ◌≤◌, ℕ, IsTrue, sym, ◌∙◌, ap, subst, arith}
use Rattle.std.specs.Int.{div_ceil}
use Rattle.corr_disk.specs.Calls.{AtMostCalls, CallsMade}
use Rattle.corr_disk.proofs.laws.Counted.{at_most_weaker, calls_in_turn, calls_then}
use Rattle.jrn_file.specs.Making.{made_with_over, most_piece_bytes}
use Rattle.jrn_file.specs.inner.Making.{IsFront}
use Rattle.jrn_file.proofs.Filled.{over-one}
use Rattle.jrn_file.proofs.Fronts.{closed-filling, closed-filled, short-filling, short-filled}
use Rattle.jrn_file.proofs.making_with.make_with.Goals as goal

-- the pieces, by the length of the buffer and that of the journal
behind : (held piece size total : ℕ) → held ≡ piece → size ≡ total → div_ceil (total - 1) held ≡ div_ceil (size - 1) piece
behind held piece size total held_is size_is = ap (λ p. div_ceil (total - 1) p) held_is ∙ ap (λ n. div_ceil (n - 1) piece) (sym size_is)

same : (n : ℕ) → 2 + n ≤ 2 + n
same n = omega arith

few : (n : ℕ) → 2 ≤ 2 + (n + 3)
few n = omega arith

pub returns-in_err-fill-in-Closed-clause-no_more_calls : goal.returns-in_err-fill-in-Closed-clause-no_more_calls
returns-in_err-fill-in-Closed-clause-no_more_calls g c honest =
    let plan = g.D.Disk.plan in
    closed-filling most_piece_bytes c.args.size (g.D.Disk.reads c.args.disk.now) (plan c.args.disk.now) (plan c.look_in_front.new.disk) (plan c.fill.new.disk)
    c.in_ok-first.field-0 (c.in_ok-first.ensures.front honest) c.in_ok-first.ensures.calls c.in-Closed.is
    (subst (λ n. AtMostCalls (n + 3) (plan c.look_in_front.new.disk) (plan c.fill.new.disk))
    (behind _ most_piece_bytes c.args.size _ c.requires.sender.by.size c.requires.size) c.fill.ensures.no_more_calls)

pub returns-in_ok-fill-in-Closed-clause-no_more_calls : goal.returns-in_ok-fill-in-Closed-clause-no_more_calls
returns-in_ok-fill-in-Closed-clause-no_more_calls g c honest =
    let plan = g.D.Disk.plan in
    closed-filling most_piece_bytes c.args.size (g.D.Disk.reads c.args.disk.now) (plan c.args.disk.now) (plan c.look_in_front.new.disk) (plan c.fill.new.disk)
    c.in_ok-first.field-0 (c.in_ok-first.ensures.front honest) c.in_ok-first.ensures.calls c.in-Closed.is
    (subst (λ n. AtMostCalls (n + 3) (plan c.look_in_front.new.disk) (plan c.fill.new.disk))
    (behind _ most_piece_bytes c.args.size _ c.requires.sender.by.size c.requires.size) c.fill.ensures.no_more_calls)

pub returns-in_ok-fill-in-Closed-clause-calls : goal.returns-in_ok-fill-in-Closed-clause-calls
returns-in_ok-fill-in-Closed-clause-calls g c honest =
    let plan = g.D.Disk.plan in
    closed-filled most_piece_bytes c.args.size (g.D.Disk.reads c.args.disk.now) (plan c.args.disk.now) (plan c.look_in_front.new.disk) (plan c.fill.new.disk)
    c.in_ok-first.field-0 (c.in_ok-first.ensures.front honest) c.in_ok-first.ensures.calls c.in-Closed.is
    (subst (λ n. CallsMade (n + 3) (plan c.look_in_front.new.disk) (plan c.fill.new.disk))
    (behind _ most_piece_bytes c.args.size _ c.requires.sender.by.size c.requires.size) c.in_ok-fill-in-Closed.ensures.calls)

pub returns-in_err-blank-in-Short-clause-no_more_calls : goal.returns-in_err-blank-in-Short-clause-no_more_calls
returns-in_err-blank-in-Short-clause-no_more_calls g c honest =
    let plan = g.D.Disk.plan in
    let n = div_ceil (c.args.size - 1) most_piece_bytes in
    short-filling most_piece_bytes c.args.size (g.D.Disk.reads c.args.disk.now) (plan c.args.disk.now) (plan c.look_in_front.new.disk) (plan c.blank.new.disk)
    c.in_ok-first.field-0 (c.in_ok-first.ensures.front honest) c.in_ok-first.ensures.calls c.in-Short.is
    (at_most_weaker 2 (2 + (n + 3)) (plan c.look_in_front.new.disk) (plan c.blank.new.disk) c.blank.ensures.no_more_calls (few n))

pub returns-in_err-fill-in-Short-clause-no_more_calls : goal.returns-in_err-fill-in-Short-clause-no_more_calls
returns-in_err-fill-in-Short-clause-no_more_calls g c honest =
    let plan = g.D.Disk.plan in
    let n = div_ceil (c.args.size - 1) most_piece_bytes in
    short-filling most_piece_bytes c.args.size (g.D.Disk.reads c.args.disk.now) (plan c.args.disk.now) (plan c.look_in_front.new.disk) (plan c.fill-in-Short.new.disk)
    c.in_ok-first.field-0 (c.in_ok-first.ensures.front honest) c.in_ok-first.ensures.calls c.in-Short.is
    (calls_then 2 (n + 3) (2 + (n + 3)) (plan c.look_in_front.new.disk) (plan c.blank.new.disk) (plan c.fill-in-Short.new.disk) c.in_ok-blank-in-Short.ensures.calls
    (subst (λ k. AtMostCalls (k + 3) (plan c.blank.new.disk) (plan c.fill-in-Short.new.disk))
    (behind _ most_piece_bytes c.args.size _ c.requires.sender.by.size c.requires.size) c.fill-in-Short.ensures.no_more_calls) (same (n + 3)))

pub returns-in_ok-fill-in-Short-clause-no_more_calls : goal.returns-in_ok-fill-in-Short-clause-no_more_calls
returns-in_ok-fill-in-Short-clause-no_more_calls g c honest =
    let plan = g.D.Disk.plan in
    let n = div_ceil (c.args.size - 1) most_piece_bytes in
    short-filling most_piece_bytes c.args.size (g.D.Disk.reads c.args.disk.now) (plan c.args.disk.now) (plan c.look_in_front.new.disk) (plan c.fill-in-Short.new.disk)
    c.in_ok-first.field-0 (c.in_ok-first.ensures.front honest) c.in_ok-first.ensures.calls c.in-Short.is
    (calls_then 2 (n + 3) (2 + (n + 3)) (plan c.look_in_front.new.disk) (plan c.blank.new.disk) (plan c.fill-in-Short.new.disk) c.in_ok-blank-in-Short.ensures.calls
    (subst (λ k. AtMostCalls (k + 3) (plan c.blank.new.disk) (plan c.fill-in-Short.new.disk))
    (behind _ most_piece_bytes c.args.size _ c.requires.sender.by.size c.requires.size) c.fill-in-Short.ensures.no_more_calls) (same (n + 3)))

pub returns-in_ok-fill-in-Short-clause-calls : goal.returns-in_ok-fill-in-Short-clause-calls
returns-in_ok-fill-in-Short-clause-calls g c honest =
    let plan = g.D.Disk.plan in
    let n = div_ceil (c.args.size - 1) most_piece_bytes in
    short-filled most_piece_bytes c.args.size (g.D.Disk.reads c.args.disk.now) (plan c.args.disk.now) (plan c.look_in_front.new.disk) (plan c.fill-in-Short.new.disk)
    c.in_ok-first.field-0 (c.in_ok-first.ensures.front honest) c.in_ok-first.ensures.calls c.in-Short.is
    (calls_in_turn 2 (n + 3) (plan c.look_in_front.new.disk) (plan c.blank.new.disk) (plan c.fill-in-Short.new.disk) c.in_ok-blank-in-Short.ensures.calls
    (subst (λ k. CallsMade (k + 3) (plan c.blank.new.disk) (plan c.fill-in-Short.new.disk))
    (behind _ most_piece_bytes c.args.size _ c.requires.sender.by.size c.requires.size) c.in_ok-fill-in-Short.ensures.calls))

pub returns-in_ok-fill-in-Closed-clause-bytes : goal.returns-in_ok-fill-in-Closed-clause-bytes
returns-in_ok-fill-in-Closed-clause-bytes g c honest =
    let now = subst IsTrue (sym c.in_ok-first.ensures.honest) honest in
    c.in_ok-fill-in-Closed.ensures.bytes now ∙ ap (made_with_over c.args.head.now c.args.records.now) c.in_ok-first.ensures.untouched.same

pub returns-in_ok-fill-in-Short-clause-bytes : goal.returns-in_ok-fill-in-Short-clause-bytes
returns-in_ok-fill-in-Short-clause-bytes g c honest =
    let D = g.D.Disk in
    let looked = subst IsTrue (sym c.in_ok-first.ensures.honest) honest in
    let blank = subst IsTrue (sym c.in_ok-blank-in-Short.ensures.honest) looked in
    let short = subst (λ f. IsFront f (D.reads c.args.disk.now)) c.in-Short.is (c.in_ok-first.ensures.front honest) in
    c.in_ok-fill-in-Short.ensures.bytes blank
    ∙ ap (made_with_over c.args.head.now c.args.records.now) (c.in_ok-blank-in-Short.ensures.closed looked)
    ∙ over-one c.args.head.now c.args.records.now (D.reads c.args.disk.now) short
