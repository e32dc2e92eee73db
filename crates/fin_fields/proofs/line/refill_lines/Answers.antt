use Rattle.std.proofs.Common.{◌≡◌, ℕ, ◌+◌, ◌<◌, ◌≤◌, List, [], ◌∷◌, ◌++◌, length, get_or, take, drop, sym, ap, ◌∙◌, arith, length-append}
use Rattle.std.proofs.Math.Seq.{take-append-add}
use Rattle.std.proofs.lemmas.List.{length-take-le, take_all, take_more}
use Rattle.fin_fields.proofs.line.refill_lines.Goals as goal

-- a front, and what was put after it
front-and : {X : Type 0} (front : List X) (x : X) (rest : List X) (n : ℕ) → length front ≡ n → take (n + 1) (front ++ x ∷ rest) ≡ front ++ x ∷ []
front-and front x rest n e = rw (← e) (take-append-add front (x ∷ rest) 1)

-- one more value is written over
more : {X : Type 0} (xs old new : List X) (x d : X) (n : ℕ) → n < length xs → n ≤ length old → take n old ≡ take n xs → x ≡ get_or xs n d → new ≡ take n old ++ x ∷ drop (n + 1) old
    → take (n + 1) new ≡ take (n + 1) xs
more {X} xs old new x d n lt le same here is =
    ap (take (n + 1)) is
    ∙ (front-and (take n old) x (drop (n + 1) old) n (length-take-le n old le)
    ∙ (ap (λ (front : List X). front ++ x ∷ []) same ∙ (ap (λ (y : X). take n xs ++ y ∷ []) here ∙ sym (take_more xs n d lt))))

longer : {X : Type 0} (old new : List X) (x : X) (n : ℕ) → n ≤ length old → new ≡ take n old ++ x ∷ drop (n + 1) old → n + 1 ≤ length new
longer old new x n le is = rw is (simp length-append (omega (arith, length-take-le n old le)))

-- all are written over, and what is left of the old ones is cut
all : {X : Type 0} (xs old : List X) (n : ℕ) → length xs ≤ n → n ≤ length old → take n old ≡ take n xs → take (length xs) old ≡ xs
all xs old n done le same =
    let whole : take n old ≡ xs = same ∙ take_all n xs done in
    let count : length xs ≡ n = sym (ap length whole) ∙ length-take-le n old le in
    ap (λ (k : ℕ). take k old) count ∙ whole

pub put_at-requires : goal.put_at-requires
put_at-requires c = c.loop-at.invariant.within

pub loop-at-preserved : goal.loop-at-preserved
loop-at-preserved c =
    record {
      written = more c.args.lines.now c.loop-at.copies c.put_at.new.self c.bytes.result.now c.index-lines-at.result c.loop-at.at c.loop-at-test.true c.loop-at.invariant.within c.loop-at.invariant.written (c.bytes.ensures ∙ c.index-lines-at.is) c.in_ok-put_at.ensures.ok;
      within = longer c.loop-at.copies c.put_at.new.self c.bytes.result.now c.loop-at.at c.loop-at.invariant.within c.in_ok-put_at.ensures.ok;
    }

pub returns : goal.returns
returns c = c.truncate.ensures ∙ all c.args.lines.now c.loop-at.copies c.loop-at.at c.loop-at-test.false c.loop-at.invariant.within c.loop-at.invariant.written
