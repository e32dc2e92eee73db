use Rattle.std.proofs.Common.{◌≡◌, false, Option, Some, None, rules, subst, sym}
use Rattle.std.specs.Prelude.{IsOk, IsSome, is_some, Result, Ok, Err}
use Rattle.jrn_book.specs.Answers.{Answer}
use Rattle.jrn_book.specs.inner.Appending.{Repeats}
use Rattle.jrn_book.specs.Book.{Book, IsBook}
use Rattle.jrn_book.specs.inner.Commits.{Commits}
use Rattle.jrn_book.specs.declared.answer.CommitFault.TheVariants.{Broken, Memory}
use Rattle.jrn_book.proofs.Commits.{broken, repeats, wanting}
use Rattle.jrn_book.proofs.book.JrnBook.answer.Goals as goal

no_value : {A : Type 0} (o : Option A) → is_some o ≡ false → o ≡ None
no_value None none = λ i. None
no_value (Some x) none = absurd (cc)

not_ok : {X E : Type 0} (r : Result X E) (e : E) → r ≡ Err e → IsOk r → ⊥
not_ok (Ok x) e is ok = cc
not_ok (Err f) e is ok = cc

pub returns-then-is_some-clause-commits : goal.returns-then-is_some-clause-commits
returns-then-is_some-clause-commits g c =
    let D = g.D.Disk in
    let held = g.H.Holder.held c.args.held.now in
    let p = c.args.p.now in
    let old : Book g.row.D.Denot = record {
      accounts = c.self.inside.accounts;
      history = c.self.inside.history.entries;
      table = c.self.inside.sides.table;
      file = c.self.inside.file;
      at_open = c.self.inside.at_open;
      failed = c.self.inside.failed;
      room = c.self.inside.room;
    } in
    let failed : IsSome c.self.inside.failed = search rules in
    subst (λ (b : Book g.row.D.Denot). Commits D.honest D.reads D.may_leave D.moment D.left_since D.faults D.plan b b held held p c.args.day (Err (Broken c.self.inside.at_open c.faults.result))) c.self.view_is
    (broken D.honest D.reads D.may_leave D.moment D.left_since D.faults D.plan g.met.D.Disk.only_now old c.self.invariant.0 held p c.args.day c.faults.result c.faults.ensures failed)

pub returns-in_err-reserve-clause-commits : goal.returns-in_err-reserve-clause-commits
returns-in_err-reserve-clause-commits g c =
    let D = g.D.Disk in
    let held = g.H.Holder.held c.args.held.now in
    let p = c.args.p.now in
    let old = c.args.self.now in
    let is : IsBook D.honest D.reads D.may_leave D.faults old = subst (IsBook D.honest D.reads D.may_leave D.faults) c.self.view_is c.self.invariant.0 in
    let none : is_some c.self.inside.failed ≡ false = search rules in
    let whole : old.failed ≡ None = subst (λ (b : Book g.row.D.Denot). b.failed ≡ None) c.self.view_is (no_value c.self.inside.failed none) in
    let answer : c.from_residual.result ≡ Err Memory = search rules in
    subst (λ (a : Answer). Commits D.honest D.reads D.may_leave D.moment D.left_since D.faults D.plan old c.reserve.new.self held held p c.args.day a) (sym answer)
    (wanting D.honest D.reads D.may_leave D.moment D.left_since D.faults D.plan g.met.D.Disk.only_now old is held p c.args.day c.reserve.new.self whole c.reserve.ensures.same
    (λ room. not_ok c.reserve.result _ c.in_err-reserve.was (c.reserve.ensures.again room)))

pub returns-in-Some-clause-commits : goal.returns-in-Some-clause-commits
returns-in-Some-clause-commits g c =
    let D = g.D.Disk in
    let held = g.H.Holder.held c.args.held.now in
    let p = c.args.p.now in
    let old = c.args.self.now in
    let is : IsBook D.honest D.reads D.may_leave D.faults old = subst (IsBook D.honest D.reads D.may_leave D.faults) c.self.view_is c.self.invariant.0 in
    let none : is_some c.self.inside.failed ≡ false = search rules in
    let whole : old.failed ≡ None = subst (λ (b : Book g.row.D.Denot). b.failed ≡ None) c.self.view_is (no_value c.self.inside.failed none) in
    let shows : Repeats old.history p c.repeated.result = subst (λ (b : Book g.row.D.Denot). Repeats b.history p c.repeated.result) c.reserve.ensures.same c.repeated.ensures.shows in
    repeats D.honest D.reads D.may_leave D.moment D.left_since D.faults D.plan g.met.D.Disk.only_now old is held p c.args.day c.repeated.result c.reserve.new.self whole c.reserve.ensures.same shows
