use Rattle.std.proofs.Common.{◌≡◌, ◌+◌, ◌-◌, ◌≤◌, ℕ, List, ◌++◌, length, take, drop, arith, ap, ◌∙◌, length-drop}
use Rattle.std.proofs.lemmas.List.{length-take}
use Rattle.corr_disk.proofs.laws.Counted.{calls_within}
use Rattle.jrn_file.proofs.After.{front-kept, read-after, read-gives}
use Rattle.jrn_file.proofs.held.read_piece.Goals as goal

pub returns-in_err-count-clause-no_more_calls : goal.returns-in_err-count-clause-no_more_calls
returns-in_err-count-clause-no_more_calls g c =
    let plan = g.D.Disk.plan in
    calls_within 1 1 (plan c.args.disk.now) (plan c.read_at.new.self) (c.read_at.ensures.next) (omega arith)

pub returns-clause-no_more_calls : goal.returns-clause-no_more_calls
returns-clause-no_more_calls g c =
    let plan = g.D.Disk.plan in
    calls_within 1 1 (plan c.args.disk.now) (plan c.read_at.new.self) (c.read_at.ensures.next) (omega arith)

pub returns-clause-piece : goal.returns-clause-piece
returns-clause-piece g c =
    let before = c.held.inside.buffer.items in
    let n = c.held.inside.filled in
    let held = take n before in
    let long_enough = c.lengthen.new.buffer in
    let r = c.deref_mut.result.now in
    let buf = c.read_at.new.buf in
    let piece = c.args.piece in
    let count = c.in_ok-count.count in
    let reads = g.D.Disk.reads c.args.disk.now in
    let long : n + piece ≤ length r = omega (arith, c.in_ok-lengthen.ensures.long, ap length c.deref_mut.ensures.value) in
    let asked : length buf ≡ piece = omega (arith, c.read_at.auto.buf, long, length-take (n + piece - n) (drop n r), length-drop n r) in
    let within : count ≤ length buf = omega (arith, c.in_ok-count.ensures.within, c.read_at.auto.buf) in
    let front = ap (λ (l : List ℕ). take n l) c.deref_mut.ensures.value
    ∙ front-kept n before long_enough.items c.held.invariant c.lengthen.ensures.front in
    let post = drop (n + piece - n) (drop n r) in
    let rest = drop (length (take n r ++ (buf ++ post))) long_enough.items in
    record {
      more = take count buf;
      is = read-after held r buf post rest n long_enough.len count (omega (arith, length-take n before, c.held.invariant)) front within
          (omega (arith, within, asked, c.in_ok-lengthen.ensures.long, long_enough.ok.0))
          ∙ ap (λ (l : List ℕ). l ++ take count buf) c.held.view_is;
      count = omega (arith, length-take count buf, within);
      most = omega (arith, within, asked);
      told = λ honest.
          let at = c.in_ok-count.ensures.answer honest in
          read-gives piece count (drop c.args.at reads) buf (omega (arith, at.count, asked, length-drop c.args.at reads)) at.same;
    }
