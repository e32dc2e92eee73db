use Rattle.std.proofs.Common.{◌≡◌, inl, inr, ℕ, ◌+◌, ◌-◌, ◌*◌, ◌<◌, length, subst, sym, ◌∙◌, arith}
use Rattle.std.proofs.lemmas.Bool.{cases_lt}
use Rattle.std.proofs.lemmas.Grind.{common_steps}
use Rattle.corr_disk.specs.Calls.{CallsMade}
use Rattle.corr_disk.proofs.laws.Counted.{calls_in_turn, calls_then, calls_within}
use Rattle.jrn_file.specs.inner.Faults.{LoadCause}
use Rattle.jrn_file.specs.Reading.{cut, opened_of}
use Rattle.jrn_file.specs.inner.Opening.{ExplainsLoad, HasNoRecord, IsShut, IsReadAs}
use Rattle.jrn_file.specs.Pieces.{calls_to_open}
use Rattle.jrn_file.specs.inner.Pieces.{OfBytes}
use Rattle.jrn_file.proofs.Calls.{untouched-start, untouched-call, untouched-then, untouched-only}
use Rattle.jrn_file.proofs.ReadTo.{ReadTo, read-begun, piece-of, read-on, last-piece, read-end, read-none, read-refused, read-cut, read-within, held-within, gate-in-piece, calls-within, in-range}
use Rattle.jrn_file.specs.declared.loading.LoadFault.{LoadFault}
use Rattle.jrn_file.proofs.loading.load.Goals as goal

pub returns-in_err-sync-clause-no_more_calls : goal.returns-in_err-sync-clause-no_more_calls
returns-in_err-sync-clause-no_more_calls g c told =
    let plan = g.D.Disk.plan in
    calls_within 1 (calls_to_open c.args.piece (length (g.D.Disk.reads c.args.disk.now))) (plan c.args.disk.now) (plan c.sync.new.self)
    (c.sync.ensures.next) (omega arith)

pub loop-index-init : goal.loop-index-init
loop-index-init g c =
    let D = g.D.Disk in
    let old = c.args.disk.now in
    let new = c.sync.new.self in
    record {
      read = read-begun (D.honest old) (D.reads old) c.args.piece c.new-records.result.items c.new-held.result c.new-records.ensures.items c.new-held.ensures;
      stopped = subst HasNoRecord (sym c.new-held.ensures) tt;
      open_gate = subst (λ l. IsShut l → ⊥) (sym c.new-held.ensures) (λ shut. shut);
      untouched = untouched-call D.reads D.may_leave D.moment D.left_since g.met.D.Disk.only_now old old new
          (untouched-start D.reads D.may_leave D.moment D.left_since g.met.D.Disk.only_now old) c.sync.ensures.reads c.sync.ensures.crash c.sync.ensures.time;
      durable = λ b left. c.in_ok-sync.ensures.durable b left ∙ sym c.sync.ensures.reads;
      honest = c.sync.ensures.honest;
      kept = c.in_ok-sync.ensures.cause.kept;
      calls = c.sync.ensures.next;
    }

pub overflow_mul-at : goal.overflow_mul-at
overflow_mul-at g c = omega (arith, in-range c.loop-index.index c.args.piece 18446744073709551615 c.requires.some c.loop-index-test.true)

pub returns-in_err-count-clause-untouched : goal.returns-in_err-count-clause-untouched
returns-in_err-count-clause-untouched g c =
    let D = g.D.Disk in
    untouched-then D.reads D.may_leave D.moment D.left_since g.met.D.Disk.only_now c.args.disk.now c.loop-index.disk c.read_piece.new.disk c.loop-index.invariant.untouched c.read_piece.ensures.untouched

pub returns-in_err-count-clause-no_more_calls : goal.returns-in_err-count-clause-no_more_calls
returns-in_err-count-clause-no_more_calls g c told =
    let D = g.D.Disk in
    let old = c.args.disk.now in
    let mid = c.loop-index.disk in
    let new = c.read_piece.new.disk in
    let index = c.loop-index.index in
    let within = read-within (D.honest old) (D.reads old) (index * c.args.piece) c.loop-index.records.items c.loop-index.held c.loop-index.invariant.read told in
    calls_then (1 + index) 1 (calls_to_open c.args.piece (length (D.reads old))) (D.plan old) (D.plan mid) (D.plan new) c.loop-index.invariant.calls c.read_piece.ensures.no_more_calls
    (omega (arith, calls-within index c.args.piece (length (D.reads old)) c.requires.some within))

pub returns-in_err-take_records-clause-untouched : goal.returns-in_err-take_records-clause-untouched
returns-in_err-take_records-clause-untouched g c =
    let D = g.D.Disk in
    untouched-then D.reads D.may_leave D.moment D.left_since g.met.D.Disk.only_now c.args.disk.now c.loop-index.disk c.read_piece.new.disk c.loop-index.invariant.untouched c.read_piece.ensures.untouched

pub returns-in_err-take_records-clause-no_more_calls : goal.returns-in_err-take_records-clause-no_more_calls
returns-in_err-take_records-clause-no_more_calls g c told =
    let D = g.D.Disk in
    let old = c.args.disk.now in
    let mid = c.loop-index.disk in
    let new = c.read_piece.new.disk in
    let index = c.loop-index.index in
    let within = read-within (D.honest old) (D.reads old) (index * c.args.piece) c.loop-index.records.items c.loop-index.held c.loop-index.invariant.read told in
    calls_within (1 + index + 1) (calls_to_open c.args.piece (length (D.reads old))) (D.plan old) (D.plan new)
    (calls_in_turn (1 + index) 1 (D.plan old) (D.plan mid) (D.plan new) c.loop-index.invariant.calls c.in_ok-count.ensures.calls)
    (omega (arith, calls-within index c.args.piece (length (D.reads old)) c.requires.some within))

pub overflow_add-gate : goal.overflow_add-gate
overflow_add-gate g c =
    omega (arith, in-range c.loop-index.index c.args.piece 18446744073709551615 c.requires.some c.loop-index-test.true, c.in_ok-count.ensures.piece.most)

pub overflow_sub-gate : goal.overflow_sub-gate
overflow_sub-gate g c =
    let D = g.D.Disk in
    let old = c.args.disk.now in
    let at = c.loop-index.index * c.args.piece in
    let n = c.in_ok-count.count in
    let all = c.take_records.new.records.items in
    let held = c.take_records.new.held in
    let piece = piece-of (D.honest old) (D.honest c.loop-index.disk) (D.reads old) (D.reads c.loop-index.disk) at c.args.piece n c.loop-index.held c.read_piece.new.held
    c.loop-index.invariant.honest c.loop-index.invariant.untouched.same c.in_ok-count.ensures.piece in
    let now = read-on (D.honest old) (D.reads old) at c.args.piece n c.loop-index.records.items all c.loop-index.held c.read_piece.new.held held
    c.loop-index.invariant.read piece c.in_ok-take_records.ensures.taken in
    omega (arith, held-within (D.honest old) (D.reads old) (at + n) all held now, c.len.ensures)

pub returns-then-is_empty-clause-fault : goal.returns-then-is_empty-clause-fault
returns-then-is_empty-clause-fault g c =
    let D = g.D.Disk in
    let old = c.args.disk.now in
    let at = c.loop-index.index * c.args.piece in
    let n = c.in_ok-count.count in
    let all = c.take_records.new.records.items in
    let held = c.take_records.new.held in
    let piece = piece-of (D.honest old) (D.honest c.loop-index.disk) (D.reads old) (D.reads c.loop-index.disk) at c.args.piece n c.loop-index.held c.read_piece.new.held
    c.loop-index.invariant.honest c.loop-index.invariant.untouched.same c.in_ok-count.ensures.piece in
    let now = read-on (D.honest old) (D.reads old) at c.args.piece n c.loop-index.records.items all c.loop-index.held c.read_piece.new.held held
    c.loop-index.invariant.read piece c.in_ok-take_records.ensures.taken in
    let shut = subst IsShut c.bytes.ensures c.if-is_closed.ensures.shut in
    let none : length all ≡ 0 = grind (arith, common_steps) in
    read-none (D.honest old) (D.reads old) (at + n) all held now shut none

pub returns-then-is_empty-clause-untouched : goal.returns-then-is_empty-clause-untouched
returns-then-is_empty-clause-untouched g c =
    let D = g.D.Disk in
    untouched-then D.reads D.may_leave D.moment D.left_since g.met.D.Disk.only_now c.args.disk.now c.loop-index.disk c.read_piece.new.disk c.loop-index.invariant.untouched c.read_piece.ensures.untouched

pub returns-then-is_empty-clause-no_more_calls : goal.returns-then-is_empty-clause-no_more_calls
returns-then-is_empty-clause-no_more_calls g c told =
    let D = g.D.Disk in
    let old = c.args.disk.now in
    let mid = c.loop-index.disk in
    let new = c.read_piece.new.disk in
    let index = c.loop-index.index in
    let within = read-within (D.honest old) (D.reads old) (index * c.args.piece) c.loop-index.records.items c.loop-index.held c.loop-index.invariant.read told in
    calls_within (1 + index + 1) (calls_to_open c.args.piece (length (D.reads old))) (D.plan old) (D.plan new)
    (calls_in_turn (1 + index) 1 (D.plan old) (D.plan mid) (D.plan new) c.loop-index.invariant.calls c.in_ok-count.ensures.calls)
    (omega (arith, calls-within index c.args.piece (length (D.reads old)) c.requires.some within))

pub returns-then-is_closed-clause-records : goal.returns-then-is_closed-clause-records
returns-then-is_closed-clause-records g c =
    let D = g.D.Disk in
    let old = c.args.disk.now in
    let at = c.loop-index.index * c.args.piece in
    let n = c.in_ok-count.count in
    let all = c.take_records.new.records.items in
    let held = c.take_records.new.held in
    let piece = piece-of (D.honest old) (D.honest c.loop-index.disk) (D.reads old) (D.reads c.loop-index.disk) at c.args.piece n c.loop-index.held c.read_piece.new.held
    c.loop-index.invariant.honest c.loop-index.invariant.untouched.same c.in_ok-count.ensures.piece in
    let now = read-on (D.honest old) (D.reads old) at c.args.piece n c.loop-index.records.items all c.loop-index.held c.read_piece.new.held held
    c.loop-index.invariant.read piece c.in_ok-take_records.ensures.taken in
    let shut = subst IsShut c.bytes.ensures c.if-is_closed.ensures.shut in
    let some : 0 < length all = grind (arith, common_steps) in
    let P : ℕ → Type 0 = λ k. OfBytes (D.honest old) (D.reads old) (λ bytes. IsReadAs bytes (at + n - k) all) in
    subst P (sym c.len.ensures) (read-end (D.honest old) (D.reads old) (at + n) all held now shut some)

pub returns-then-is_closed-clause-calls : goal.returns-then-is_closed-clause-calls
returns-then-is_closed-clause-calls g c =
    let D = g.D.Disk in
    let old = c.args.disk.now in
    let at = c.loop-index.index * c.args.piece in
    let n = c.in_ok-count.count in
    let all = c.take_records.new.records.items in
    let held = c.take_records.new.held in
    let piece = piece-of (D.honest old) (D.honest c.loop-index.disk) (D.reads old) (D.reads c.loop-index.disk) at c.args.piece n c.loop-index.held c.read_piece.new.held
    c.loop-index.invariant.honest c.loop-index.invariant.untouched.same c.in_ok-count.ensures.piece in
    let now = read-on (D.honest old) (D.reads old) at c.args.piece n c.loop-index.records.items all c.loop-index.held c.read_piece.new.held held
    c.loop-index.invariant.read piece c.in_ok-take_records.ensures.taken in
    let shut = subst IsShut c.bytes.ensures c.if-is_closed.ensures.shut in
    let index = c.loop-index.index in
    let taken = c.in_ok-take_records.ensures.taken in
    let place = gate-in-piece (D.honest old) (D.reads old) index c.args.piece n taken.0 c.loop-index.held c.read_piece.new.held held
    c.loop-index.invariant.stopped c.loop-index.invariant.open_gate piece taken.2 shut in
    let P : ℕ → Type 0 = λ k. CallsMade (calls_to_open c.args.piece (at + n - k)) (D.plan old) (D.plan c.read_piece.new.disk) in
    subst P (sym c.len.ensures)
    (subst (λ k. CallsMade k (D.plan old) (D.plan c.read_piece.new.disk)) (omega (arith, place))
    (calls_in_turn (1 + index) 1 (D.plan old) (D.plan c.loop-index.disk) (D.plan c.read_piece.new.disk) c.loop-index.invariant.calls c.in_ok-count.ensures.calls))

pub returns-then-is_closed-clause-untouched : goal.returns-then-is_closed-clause-untouched
returns-then-is_closed-clause-untouched g c =
    let D = g.D.Disk in
    untouched-then D.reads D.may_leave D.moment D.left_since g.met.D.Disk.only_now c.args.disk.now c.loop-index.disk c.read_piece.new.disk c.loop-index.invariant.untouched c.read_piece.ensures.untouched

pub returns-then-is_closed-clause-no_more_calls : goal.returns-then-is_closed-clause-no_more_calls
returns-then-is_closed-clause-no_more_calls g c told =
    let D = g.D.Disk in
    let old = c.args.disk.now in
    let mid = c.loop-index.disk in
    let new = c.read_piece.new.disk in
    let index = c.loop-index.index in
    let within = read-within (D.honest old) (D.reads old) (index * c.args.piece) c.loop-index.records.items c.loop-index.held c.loop-index.invariant.read told in
    calls_within (1 + index + 1) (calls_to_open c.args.piece (length (D.reads old))) (D.plan old) (D.plan new)
    (calls_in_turn (1 + index) 1 (D.plan old) (D.plan mid) (D.plan new) c.loop-index.invariant.calls c.in_ok-count.ensures.calls)
    (omega (arith, calls-within index c.args.piece (length (D.reads old)) c.requires.some within))

pub returns-then-is_last-clause-fault : goal.returns-then-is_last-clause-fault
returns-then-is_last-clause-fault g c =
    let D = g.D.Disk in
    let old = c.args.disk.now in
    let at = c.loop-index.index * c.args.piece in
    let n = c.in_ok-count.count in
    let all = c.take_records.new.records.items in
    let held = c.take_records.new.held in
    let piece = piece-of (D.honest old) (D.honest c.loop-index.disk) (D.reads old) (D.reads c.loop-index.disk) at c.args.piece n c.loop-index.held c.read_piece.new.held
    c.loop-index.invariant.honest c.loop-index.invariant.untouched.same c.in_ok-count.ensures.piece in
    let now = read-on (D.honest old) (D.reads old) at c.args.piece n c.loop-index.records.items all c.loop-index.held c.read_piece.new.held held
    c.loop-index.invariant.read piece c.in_ok-take_records.ensures.taken in
    let open_gate = subst (λ l. IsShut l → ⊥) c.bytes.ensures c.if-is_closed.ensures.open in
    let stopped = c.in_ok-take_records.ensures.stopped in
    let last = last-piece (D.honest old) (D.reads old) at c.args.piece n c.loop-index.held c.read_piece.new.held c.bytes-in-loop-index.result.now held piece
    c.bytes-in-loop-index.ensures c.if-is_last.ensures.last in
    let P : LoadFault → Type 0 = λ f. ExplainsLoad (D.honest old) (D.reads old) f in
    let Q : ℕ → Type 0 = λ k. OfBytes (D.honest old) (D.reads old) (λ bytes. opened_of bytes ≡ cut all (at + n - k)) in
    elim (cases_lt 0 (length all)) [
      | inl some ↦ subst P (sym (c.refusal.ensures.some some))
          (subst Q (sym c.len.ensures) (read-cut (D.honest old) (D.reads old) (at + n) all held now last stopped open_gate some))
      | inr none ↦
          let empty : length all ≡ 0 = omega (arith, none) in
          subst P (sym (c.refusal.ensures.none empty)) (read-refused (D.honest old) (D.reads old) (at + n) all held now last stopped empty)
    ]

pub returns-then-is_last-clause-cause : goal.returns-then-is_last-clause-cause
returns-then-is_last-clause-cause g c =
    let D = g.D.Disk in
    let P : LoadFault → Type 0 = λ f. LoadCause (D.faults c.args.disk.now) (D.faults c.read_piece.new.disk) f in
    let kept = c.in_ok-count.ensures.kept ∙ c.loop-index.invariant.kept in
    elim (cases_lt 0 (length c.take_records.new.records.items)) [
      | inl some ↦ subst P (sym (c.refusal.ensures.some some)) kept
      | inr none ↦ subst P (sym (c.refusal.ensures.none (omega (arith, none)))) kept
    ]

pub returns-then-is_last-clause-untouched : goal.returns-then-is_last-clause-untouched
returns-then-is_last-clause-untouched g c =
    let D = g.D.Disk in
    untouched-then D.reads D.may_leave D.moment D.left_since g.met.D.Disk.only_now c.args.disk.now c.loop-index.disk c.read_piece.new.disk c.loop-index.invariant.untouched c.read_piece.ensures.untouched

pub returns-then-is_last-clause-no_more_calls : goal.returns-then-is_last-clause-no_more_calls
returns-then-is_last-clause-no_more_calls g c told =
    let D = g.D.Disk in
    let old = c.args.disk.now in
    let mid = c.loop-index.disk in
    let new = c.read_piece.new.disk in
    let index = c.loop-index.index in
    let within = read-within (D.honest old) (D.reads old) (index * c.args.piece) c.loop-index.records.items c.loop-index.held c.loop-index.invariant.read told in
    calls_within (1 + index + 1) (calls_to_open c.args.piece (length (D.reads old))) (D.plan old) (D.plan new)
    (calls_in_turn (1 + index) 1 (D.plan old) (D.plan mid) (D.plan new) c.loop-index.invariant.calls c.in_ok-count.ensures.calls)
    (omega (arith, calls-within index c.args.piece (length (D.reads old)) c.requires.some within))

pub loop-index-preserved : goal.loop-index-preserved
loop-index-preserved g c =
    let D = g.D.Disk in
    let old = c.args.disk.now in
    let at = c.loop-index.index * c.args.piece in
    let n = c.in_ok-count.count in
    let all = c.take_records.new.records.items in
    let held = c.take_records.new.held in
    let piece = piece-of (D.honest old) (D.honest c.loop-index.disk) (D.reads old) (D.reads c.loop-index.disk) at c.args.piece n c.loop-index.held c.read_piece.new.held
    c.loop-index.invariant.honest c.loop-index.invariant.untouched.same c.in_ok-count.ensures.piece in
    let now = read-on (D.honest old) (D.reads old) at c.args.piece n c.loop-index.records.items all c.loop-index.held c.read_piece.new.held held
    c.loop-index.invariant.read piece c.in_ok-take_records.ensures.taken in
    let mid = c.loop-index.disk in
    let new = c.read_piece.new.disk in
    let index = c.loop-index.index in
    let next : at + n ≡ (index + 1) * c.args.piece = omega (arith, piece.most, c.if-is_last.ensures.more) in
    let untouched = untouched-then D.reads D.may_leave D.moment D.left_since g.met.D.Disk.only_now old mid new c.loop-index.invariant.untouched c.read_piece.ensures.untouched in
    record {
      read = subst (λ p. ReadTo (D.honest old) (D.reads old) p all held) next now;
      stopped = c.in_ok-take_records.ensures.stopped;
      open_gate = subst (λ l. IsShut l → ⊥) c.bytes.ensures c.if-is_closed.ensures.open;
      untouched = untouched;
      durable = untouched-only D.reads D.may_leave D.moment D.left_since g.met.D.Disk.only_now mid new c.read_piece.ensures.untouched c.loop-index.invariant.durable;
      honest = c.read_piece.ensures.honest ∙ c.loop-index.invariant.honest;
      kept = c.in_ok-count.ensures.kept ∙ c.loop-index.invariant.kept;
      calls = subst (λ k. CallsMade k (D.plan old) (D.plan new)) (omega arith)
          (calls_in_turn (1 + index) 1 (D.plan old) (D.plan mid) (D.plan new) c.loop-index.invariant.calls c.in_ok-count.ensures.calls);
    }

pub returns-clause-no_more_calls : goal.returns-clause-no_more_calls
returns-clause-no_more_calls g c told =
    let D = g.D.Disk in
    let old = c.args.disk.now in
    let index = c.loop-index.index in
    let within = read-within (D.honest old) (D.reads old) (index * c.args.piece) c.loop-index.records.items c.loop-index.held c.loop-index.invariant.read told in
    calls_within (1 + index) (calls_to_open c.args.piece (length (D.reads old))) (D.plan old) (D.plan c.loop-index.disk) c.loop-index.invariant.calls
    (omega (arith, calls-within index c.args.piece (length (D.reads old)) c.requires.some within))
