use Rattle.std.proofs.Common.{◌≡◌, ◌+◌, ◌-◌, ◌<◌, ◌≤◌, ◌∷◌, [], IsTrue, inl, inr, length, List, ℕ, sym, ◌∙◌, ap, subst, arith}
use Rattle.std.specs.Int.{div_ceil}
use Rattle.std.proofs.lemmas.Result.{on_ok_weaker}
use Rattle.std.specs.Prelude.{Bool, Option}
use Rattle.corr_disk.specs.Calls.{AtMostCalls, CallsMade}
use Rattle.corr_disk.specs.Disk.{Only, written}
use Rattle.corr_disk.proofs.laws.Counted.{at_most_weaker, call_more, calls_within, calls_in_turn}
use Rattle.corr_disk.proofs.laws.Moments.{goes_on, weaker}
use Rattle.jrn_file.specs.Journal.{frames_of, journal_bytes}
use Rattle.jrn_file.specs.Making.{IsUnmadeOrMadeWith}
use Rattle.jrn_file.specs.inner.Sending.{IsShutFront, LeavesShut}
use Rattle.jrn_file.proofs.Filled.{journal-framed, filling-gate, filled-stands, filled-bytes, shut-some}
use Rattle.jrn_file.proofs.Shut.{shut-call}
use Rattle.jrn_file.proofs.filling.fill.Goals as goal

-- the only image begins with a closed gate
leaves-shut : (bytes : List ℕ) (images : List ℕ → Type 0) → IsShutFront bytes → Only bytes images → LeavesShut images
leaves-shut bytes images shut only c left = subst IsShutFront (sym (only c left)) shut

more : (n k : ℕ) → n ≤ n + k
more n k = omega arith

-- three calls follow at most
within-three : (n k : ℕ) (first last : ℕ → Option Bool) → CallsMade (n + k) first last → k ≤ 3 → AtMostCalls (n + 3) first last
within-three n k first last made few = calls_within (n + k) (n + 3) first last made (omega (arith, few))

pub send-requires-clause-some : goal.send-requires-clause-some
send-requires-clause-some g c told = shut-some _ (c.requires.shut told) c.args.head.now c.args.records.now

pub send-requires-clause-room : goal.send-requires-clause-room
send-requires-clause-room g c = omega (arith, c.requires.room, ap length (journal-framed c.args.head.now c.args.records.now))

pub returns-in_err-send-clause-any_moment : goal.returns-in_err-send-clause-any_moment
returns-in_err-send-clause-any_moment g c honest only =
    let D = g.D.Disk in
    weaker D.moment D.left_since _ _ _ (IsUnmadeOrMadeWith c.args.head.now c.args.records.now) (λ b shut. inl (inr shut))
    (c.send.ensures.shut (leaves-shut _ _ (c.requires.shut honest) only)).any_moment

pub returns-in_err-sync-clause-any_moment : goal.returns-in_err-sync-clause-any_moment
returns-in_err-sync-clause-any_moment g c honest only =
    let D = g.D.Disk in
    let old = c.args.disk.now in
    let sent = c.send.ensures.shut (leaves-shut _ _ (c.requires.shut honest) only) in
    let synced = shut-call D.may_leave D.moment D.left_since g.met.D.Disk.only_now old c.send.new.disk c.sync.new.self sent c.sync.ensures.crash c.sync.ensures.time in
    weaker D.moment D.left_since _ _ _ (IsUnmadeOrMadeWith c.args.head.now c.args.records.now) (λ b shut. inl (inr shut)) synced.any_moment

pub returns-in_err-write_at-clause-any_moment : goal.returns-in_err-write_at-clause-any_moment
returns-in_err-write_at-clause-any_moment g c honest only =
    let D = g.D.Disk in
    let old = c.args.disk.now in
    let head = c.args.head.now in
    let records = c.args.records.now in
    let shut = c.requires.shut honest in
    let sent = c.send.ensures.shut (leaves-shut _ _ shut only) in
    let synced = shut-call D.may_leave D.moment D.left_since g.met.D.Disk.only_now old c.send.new.disk c.sync.new.self sent c.sync.ensures.crash c.sync.ensures.time in
    let before = weaker D.moment D.left_since old c.sync.new.self _ (IsUnmadeOrMadeWith head records) (λ b is. inl (inr is)) synced.any_moment in
    goes_on D.moment D.left_since old c.sync.new.self c.write_at.new.self (IsUnmadeOrMadeWith head records) _ before c.write_at.ensures.time
    (λ b left.
    let from = c.write_at.ensures.crash b left in
    filling-gate _ shut head records c.requires.short from.0 b (c.in_ok-sync.ensures.durable from.0 from.1 ∙ c.in_ok-send.ensures.written honest) from.2)

pub returns-clause-any_moment : goal.returns-clause-any_moment
returns-clause-any_moment g c honest only =
    let D = g.D.Disk in
    let old = c.args.disk.now in
    let head = c.args.head.now in
    let records = c.args.records.now in
    let shut = c.requires.shut honest in
    let sent = c.send.ensures.shut (leaves-shut _ _ shut only) in
    let synced = shut-call D.may_leave D.moment D.left_since g.met.D.Disk.only_now old c.send.new.disk c.sync.new.self sent c.sync.ensures.crash c.sync.ensures.time in
    let before = weaker D.moment D.left_since old c.sync.new.self _ (IsUnmadeOrMadeWith head records) (λ b is. inl (inr is)) synced.any_moment in
    let opening : (b : List ℕ) → D.may_leave c.write_at.new.self b → IsUnmadeOrMadeWith head records b =
    λ b left.
    let from = c.write_at.ensures.crash b left in
    filling-gate _ shut head records c.requires.short from.0 b (c.in_ok-sync.ensures.durable from.0 from.1 ∙ c.in_ok-send.ensures.written honest) from.2 in
    let opened = goes_on D.moment D.left_since old c.sync.new.self c.write_at.new.self (IsUnmadeOrMadeWith head records) _ before c.write_at.ensures.time opening in
    goes_on D.moment D.left_since old c.write_at.new.self c.sync-2.new.self (IsUnmadeOrMadeWith head records) _ opened c.sync-2.ensures.time
    (λ b left. opening b (c.sync-2.ensures.crash b left))

pub returns-clause-made : goal.returns-clause-made
returns-clause-made g c honest =
    let head = c.args.head.now in
    let records = c.args.records.now in
    let here = subst IsTrue (sym (c.sync.ensures.honest ∙ c.send.ensures.honest)) honest in
    let now = c.sync-2.ensures.reads ∙ c.in_ok-write_at.ensures.answer here
    ∙ ap (written 0 (1 ∷ [])) (c.sync.ensures.reads ∙ c.in_ok-send.ensures.written honest) in
    on_ok_weaker c.sync-2.result (λ _. filled-stands _ (c.requires.shut honest) head records c.requires.short _ now) c.sync-2.ensures.cause.kept

pub returns-clause-bytes : goal.returns-clause-bytes
returns-clause-bytes g c honest =
    let head = c.args.head.now in
    let records = c.args.records.now in
    let here = subst IsTrue (sym (c.sync.ensures.honest ∙ c.send.ensures.honest)) honest in
    let now = c.sync-2.ensures.reads ∙ c.in_ok-write_at.ensures.answer here
    ∙ ap (written 0 (1 ∷ [])) (c.sync.ensures.reads ∙ c.in_ok-send.ensures.written honest) in
    on_ok_weaker c.sync-2.result (λ _. filled-bytes _ (c.requires.shut honest) head records _ now) c.sync-2.ensures.cause.kept

-- the pieces are those of all but the gate in front
behind : (head : List ℕ) (records : List (List ℕ)) (piece : ℕ) → div_ceil (length (frames_of head records)) piece ≡ div_ceil (length (journal_bytes head records) - 1) piece
behind head records piece =
    let same : length (frames_of head records) ≡ length (journal_bytes head records) - 1 = omega (arith, ap length (journal-framed head records)) in
    ap (λ n. div_ceil n piece) same

pub returns-in_err-send-clause-no_more_calls : goal.returns-in_err-send-clause-no_more_calls
returns-in_err-send-clause-no_more_calls g c =
    let plan = g.D.Disk.plan in
    let size = length c.args.sender.now.buffer.items in
    let n = div_ceil (length (frames_of c.args.head.now c.args.records.now)) size in
    subst (λ k. AtMostCalls (k + 3) (plan c.args.disk.now) (plan c.send.new.disk)) (behind c.args.head.now c.args.records.now size)
    (at_most_weaker n (n + 3) (plan c.args.disk.now) (plan c.send.new.disk) c.send.ensures.no_more_calls (more n 3))

pub returns-in_err-sync-clause-no_more_calls : goal.returns-in_err-sync-clause-no_more_calls
returns-in_err-sync-clause-no_more_calls g c =
    let plan = g.D.Disk.plan in
    let size = length c.args.sender.now.buffer.items in
    let n = div_ceil (length (frames_of c.args.head.now c.args.records.now)) size in
    let one = call_more n (plan c.args.disk.now) (plan c.send.new.disk) (plan c.sync.new.self) c.in_ok-send.ensures.calls c.sync.ensures.next in
    subst (λ k. AtMostCalls (k + 3) (plan c.args.disk.now) (plan c.sync.new.self)) (behind c.args.head.now c.args.records.now size)
    (within-three n 1 (plan c.args.disk.now) (plan c.sync.new.self) one (omega arith))

pub returns-in_err-write_at-clause-no_more_calls : goal.returns-in_err-write_at-clause-no_more_calls
returns-in_err-write_at-clause-no_more_calls g c =
    let plan = g.D.Disk.plan in
    let size = length c.args.sender.now.buffer.items in
    let n = div_ceil (length (frames_of c.args.head.now c.args.records.now)) size in
    let two = call_more 1 (plan c.send.new.disk) (plan c.sync.new.self) (plan c.write_at.new.self) c.sync.ensures.next c.write_at.ensures.next in
    subst (λ k. AtMostCalls (k + 3) (plan c.args.disk.now) (plan c.write_at.new.self)) (behind c.args.head.now c.args.records.now size)
    (within-three n 2 (plan c.args.disk.now) (plan c.write_at.new.self)
    (calls_in_turn n 2 (plan c.args.disk.now) (plan c.send.new.disk) (plan c.write_at.new.self) c.in_ok-send.ensures.calls two) (omega arith))

pub returns-clause-no_more_calls : goal.returns-clause-no_more_calls
returns-clause-no_more_calls g c =
    let plan = g.D.Disk.plan in
    let size = length c.args.sender.now.buffer.items in
    let n = div_ceil (length (frames_of c.args.head.now c.args.records.now)) size in
    let two = call_more 1 (plan c.send.new.disk) (plan c.sync.new.self) (plan c.write_at.new.self) c.sync.ensures.next c.write_at.ensures.next in
    let three = call_more 2 (plan c.send.new.disk) (plan c.write_at.new.self) (plan c.sync-2.new.self) two c.sync-2.ensures.next in
    subst (λ k. AtMostCalls (k + 3) (plan c.args.disk.now) (plan c.sync-2.new.self)) (behind c.args.head.now c.args.records.now size)
    (within-three n 3 (plan c.args.disk.now) (plan c.sync-2.new.self)
    (calls_in_turn n 3 (plan c.args.disk.now) (plan c.send.new.disk) (plan c.sync-2.new.self) c.in_ok-send.ensures.calls three) (omega arith))

pub returns-clause-calls : goal.returns-clause-calls
returns-clause-calls g c =
    let plan = g.D.Disk.plan in
    let size = length c.args.sender.now.buffer.items in
    let n = div_ceil (length (frames_of c.args.head.now c.args.records.now)) size in
    let two = call_more 1 (plan c.send.new.disk) (plan c.sync.new.self) (plan c.write_at.new.self) c.sync.ensures.next c.write_at.ensures.next in
    let three = call_more 2 (plan c.send.new.disk) (plan c.write_at.new.self) (plan c.sync-2.new.self) two c.sync-2.ensures.next in
    on_ok_weaker c.sync-2.result
    (λ _. subst (λ k. CallsMade (k + 3) (plan c.args.disk.now) (plan c.sync-2.new.self)) (behind c.args.head.now c.args.records.now size)
    (calls_in_turn n 3 (plan c.args.disk.now) (plan c.send.new.disk) (plan c.sync-2.new.self) c.in_ok-send.ensures.calls three))
    c.sync-2.ensures.cause.kept

pub returns-clause-durable : goal.returns-clause-durable
returns-clause-durable g c = on_ok_weaker c.sync-2.result (λ only b left. only b left ∙ sym c.sync-2.ensures.reads) c.sync-2.ensures.durable
