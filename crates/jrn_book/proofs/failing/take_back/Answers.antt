use Rattle.std.proofs.Common.{◌≡◌, ◌+◌, ◌-◌, ℕ, List, [], ◌∷◌, ◌++◌, length, take, replicate, IsSome, Some, Err, ap, sym, ◌∙◌, subst, arith, append_assoc}
use Rattle.std.specs.List.{position_from}
use Rattle.jrn_book.specs.Answers.{Answer}
use Rattle.jrn_book.specs.Batches.{is_new}
use Rattle.jrn_book.specs.declared.answer.CommitFault.TheVariants.{Broken, DiskFault}
use Rattle.jrn_book.proofs.Taking.{NewAt, new_at, some_place}
use Rattle.jrn_book.proofs.failing.take_back.Goals as goal

from_nought : (k : ℕ) → Some k ≡ Some (0 + k)
from_nought k = let e : k ≡ 0 + k = omega arith in ap (λ (n : ℕ). Some n) e

pub unwrap-first-requires : goal.unwrap-first-requires
unwrap-first-requires c =
    subst IsSome (sym (c.first_new.ensures ∙ ap (position_from is_new 0) c.as_slice.ensures.value)) (some_place 0 c.args.answers.now.items c.requires.some)

pub overflow_sub-count : goal.overflow_sub-count
overflow_sub-count c =
    let at : position_from is_new 0 c.args.answers.now.items ≡ Some (0 + c.unwrap-first.result) =
    sym (c.first_new.ensures ∙ ap (position_from is_new 0) c.as_slice.ensures.value) ∙ c.unwrap-first.ensures ∙ from_nought c.unwrap-first.result in
    let found : NewAt c.args.answers.now.items c.unwrap-first.result = new_at 0 c.unwrap-first.result c.args.answers.now.items at in
    omega (arith, found.size, c.len-count.ensures, c.args.answers.now.ok.0)

pub overflow_sub-count-2 : goal.overflow_sub-count-2
overflow_sub-count-2 c =
    let at : position_from is_new 0 c.args.answers.now.items ≡ Some (0 + c.unwrap-first.result) =
    sym (c.first_new.ensures ∙ ap (position_from is_new 0) c.as_slice.ensures.value) ∙ c.unwrap-first.ensures ∙ from_nought c.unwrap-first.result in
    let found : NewAt c.args.answers.now.items c.unwrap-first.result = new_at 0 c.unwrap-first.result c.args.answers.now.items at in
    omega (arith, found.size, c.len-count.ensures, c.args.answers.now.ok.0)

pub returns-clause-taken : goal.returns-clause-taken
returns-clause-taken c =
    let answers = c.args.answers.now.items in
    let k = c.unwrap-first.result in
    let at : position_from is_new 0 answers ≡ Some (0 + k) = sym (c.first_new.ensures ∙ ap (position_from is_new 0) c.as_slice.ensures.value) ∙ c.unwrap-first.ensures ∙ from_nought k in
    let found : NewAt answers k = new_at 0 k answers at in
    let failed : Answer = Err (DiskFault c.args.before c.args.after) in
    let broken : Answer = Err (Broken c.args.at_open c.args.after) in
    let left : c.len-count.result - k - 1 ≡ length found.rest = omega (arith, found.size, c.len-count.ensures, c.args.answers.now.ok.0) in (
      take k answers,
      found.rest,
      found.first,
      c.answer_each.ensures.each
          ∙ ap (λ (l : List Answer). l ++ replicate (c.len-count.result - k - 1) broken) (c.push_reserved.ensures.items ∙ ap (λ (l : List Answer). l ++ failed ∷ []) c.truncate.ensures.items)
          ∙ append_assoc (take k answers) (failed ∷ []) (replicate (c.len-count.result - k - 1) broken)
          ∙ ap (λ (n : ℕ). take k answers ++ failed ∷ replicate n broken) left,
    )

pub push_reserved-requires : goal.push_reserved-requires
push_reserved-requires c =
    let at : position_from is_new 0 c.args.answers.now.items ≡ Some (0 + c.unwrap-first.result) =
    sym (c.first_new.ensures ∙ ap (position_from is_new 0) c.as_slice.ensures.value) ∙ c.unwrap-first.ensures ∙ from_nought c.unwrap-first.result in
    let found : NewAt c.args.answers.now.items c.unwrap-first.result = new_at 0 c.unwrap-first.result c.args.answers.now.items at in
    omega (arith, found.size, c.truncate.ensures.len, c.truncate.ensures.capacity, c.args.answers.now.ok.0, c.args.answers.now.ok.1)
