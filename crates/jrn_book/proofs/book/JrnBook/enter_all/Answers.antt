use Rattle.std.proofs.Common.{◌≡◌, ◌∙◌, ℕ, ◌≤◌, All, false, List, [], ◌++◌, length, replicate, take, Option, None, Some, Err, IsTrue, refl, sym, ap, subst, arith, append-nil, true, ⊎_elim}
use Rattle.std.proofs.lemmas.Bool.{eqb-false, eqb-true}
use Rattle.std.proofs.lemmas.List.{nil_from_length}
use Rattle.atomic_table.specs.Seated.{TableId}
use Rattle.corr_text.specs.Faults.{Rose}
use Rattle.corr_disk.specs.Disk.{LeavesOnly, most_disk_bytes}
use Rattle.day_model.specs.declared.pay.Pay.{Pay}
use Rattle.day_model.specs.declared.entry.Entry.{Entry}
use Rattle.day_model.specs.Chart.{accounts_of}
use Rattle.day_model.specs.Laws.{IsLatest}
use Rattle.day_model.specs.Totals.{HasTotals}
use Rattle.acct_locks.specs.Sides.{Sides}
use Rattle.jrn_file.specs.File.{IsSettled, disk_of, end_of}
use Rattle.jrn_file.specs.Journal.{IsBeforeOrAll}
use Rattle.jrn_codec.specs.Header.{head_bytes}
use Rattle.jrn_codec.specs.Record.{IsEntry}
use Rattle.jrn_book.specs.declared.answer.Failed.{Failed}
use Rattle.jrn_book.specs.declared.answer.CommitFault.TheVariants.{Memory}
use Rattle.jrn_book.specs.Answers.{Answer}
use Rattle.jrn_book.specs.Batches.{AnswersInTurn, Stage, is_memory, is_new}
use Rattle.jrn_book.specs.inner.Batches.{untouched}
use Rattle.jrn_book.specs.Book.{Book, Counts, IsBook, StandsOnDisk}
use Rattle.jrn_book.specs.inner.CommitsAll.{CommitsAll}
use Rattle.jrn_book.specs.Deciding.{HoldsAll}
use Rattle.jrn_book.specs.inner.Drafting.{gated_records, records_of}
use Rattle.jrn_book.specs.Index.{references_of}
use Rattle.jrn_book.specs.Journal.{IsJournal, file_of, item_records}
use Rattle.jrn_book.proofs.Batched.{enters, fails, left_by_all, stays}
use Rattle.jrn_book.proofs.Commits.{settled}
use Rattle.jrn_book.proofs.Chains.{all_same, any_same, all_tried_apart, chain_memory, none_new, some_new}
use Rattle.jrn_book.proofs.Drafted.{end_is, from_all, grown, some_first}
use Rattle.jrn_book.proofs.Entering.{records_all, references_front}
use Rattle.jrn_book.proofs.Staying.{backed, journal_all}
use Rattle.jrn_book.proofs.book.JrnBook.enter_all.Goals as goal

-- want of memory
pub returns-in_default-clause-commits : goal.returns-in_default-clause-commits
returns-in_default-clause-commits g c =
    let D = g.D.Disk in
    let held = g.H.Holder.held c.args.held.now in
    let pays = c.args.pays.items in
    let h = c.make_room.new.history.entries in
    let b : List Entry → Book g.row.D.Denot = λ x. record {
      accounts = c.self.inside.accounts;
      history = x;
      table = c.self.inside.sides.table;
      file = c.self.inside.file;
      at_open = c.self.inside.at_open;
      failed = c.self.inside.failed;
      room = c.self.inside.room;
    } in
    let same : b h ≡ c.args.self.now = ap b c.make_room.ensures.history ∙ c.self.view_is in
    let is : IsBook D.honest D.reads D.may_leave D.faults (b h) = subst (IsBook D.honest D.reads D.may_leave D.faults) (sym (ap b c.make_room.ensures.history)) c.self.invariant.0 in
    let whole : c.self.inside.failed ≡ None = ap (λ (x : Book g.row.D.Denot). x.failed) c.self.view_is ∙ c.requires.whole in
    let count : c.len-count.result ≡ length pays = omega (arith, c.args.pays.ok.0, c.len-count.ensures) in
    let answers : c.answer_each.new.answers.items ≡ replicate (length pays) (Err Memory) =
    c.answer_each.ensures.each ∙ (λ i. c.requires.answers i ++ replicate (count i) (Err Memory)) in
    let chain = chain_memory (b h).accounts c.args.day (length pays) (b h).at_open (record { history = h; failed = (b h).failed; faults = D.faults (disk_of (b h).file) }) pays whole in
    subst (λ (x : Book g.row.D.Denot × List Answer). CommitsAll D.moment D.left_since D.honest D.faults D.plan x.0 (record (b h) { room = None }) held held pays c.args.day x.1) (λ i. (same i, sym answers i))
    (stays D.honest D.reads D.may_leave D.moment D.left_since D.faults D.plan g.met.D.Disk.only_now (b h) is held pays c.args.day (replicate (length pays) (Err Memory)) None chain
    (any_same is_new (length pays) (Err Memory) refl) (λ some. all_same is_memory (length pays) (Err Memory) refl))

-- no pay was new
pub returns-then-is_empty-clause-commits : goal.returns-then-is_empty-clause-commits
returns-then-is_empty-clause-commits g c =
    let D = g.D.Disk in
    let held = g.H.Holder.held c.args.held.now in
    let pays = c.args.pays.items in
    let h = c.make_room.new.history.entries in
    let b : List Entry → Book g.row.D.Denot = λ x. record {
      accounts = c.self.inside.accounts;
      history = x;
      table = c.self.inside.sides.table;
      file = c.self.inside.file;
      at_open = c.self.inside.at_open;
      failed = c.self.inside.failed;
      room = c.self.inside.room;
    } in
    let same : b h ≡ c.args.self.now = ap b c.make_room.ensures.history ∙ c.self.view_is in
    let is : IsBook D.honest D.reads D.may_leave D.faults (b h) = subst (IsBook D.honest D.reads D.may_leave D.faults) (sym (ap b c.make_room.ensures.history)) c.self.invariant.0 in
    let whole : c.self.inside.failed ≡ None = ap (λ (x : Book g.row.D.Denot). x.failed) c.self.view_is ∙ c.requires.whole in
    let drafted = c.draft_all.ensures in
    let none : c.draft_all.new.draft.entries.items ≡ [] = nil_from_length c.draft_all.new.draft.entries.items (omega (arith, c.draft_all.new.draft.entries.ok.0, eqb-true _ _ (sym c.is_empty.ensures ∙ c.if-is_empty.true))) in
    let still : h ++ c.draft_all.new.draft.entries.items ≡ h = ap (λ (l : List Entry). h ++ l) none ∙ append-nil h in
    let n : ℕ = D.faults (disk_of c.self.inside.file) in
    let stage : Stage = record { history = h; failed = c.self.inside.failed; faults = n } in
    let first : untouched h n ≡ stage = λ i. record { history = h; failed = sym whole i; faults = n } in
    let last : untouched (h ++ c.draft_all.new.draft.entries.items) n ≡ stage = λ i. record { history = still i; failed = sym whole i; faults = n } in
    let chain = subst (λ (x : Stage × Stage). AnswersInTurn c.self.inside.accounts c.args.day (length pays) c.self.inside.at_open x.0 pays c.draft_all.new.answers.items x.1) (λ i. (first i, last i)) (drafted.each (length pays) c.self.inside.at_open n) in
    let apart = all_tried_apart c.draft_all.new.answers.items drafted.tried in
    subst (λ (x : Book g.row.D.Denot). CommitsAll D.moment D.left_since D.honest D.faults D.plan x (record (b h) { room = None }) held held pays c.args.day c.draft_all.new.answers.items) same
    (stays D.honest D.reads D.may_leave D.moment D.left_since D.faults D.plan g.met.D.Disk.only_now (b h) is held pays c.args.day c.draft_all.new.answers.items None chain
    (none_new c.self.inside.accounts c.args.day (length pays) c.self.inside.at_open stage stage pays c.draft_all.new.answers.items chain refl) (λ some. absurd (let e : false ≡ true = sym apart.1 ∙ some in cc)))

-- the entries came to the disk
pub returns-in-Ok-append_all-clause-commits : goal.returns-in-Ok-append_all-clause-commits
returns-in-Ok-append_all-clause-commits g c =
    let D = g.D.Disk in
    let held = g.H.Holder.held c.args.held.now in
    let pays = c.args.pays.items in
    let h = c.make_room.new.history.entries in
    let b : List Entry → Book g.row.D.Denot = λ x. record {
      accounts = c.self.inside.accounts;
      history = x;
      table = c.self.inside.sides.table;
      file = c.self.inside.file;
      at_open = c.self.inside.at_open;
      failed = c.self.inside.failed;
      room = c.self.inside.room;
    } in
    let same : b h ≡ c.args.self.now = ap b c.make_room.ensures.history ∙ c.self.view_is in
    let is : IsBook D.honest D.reads D.may_leave D.faults (b h) = subst (IsBook D.honest D.reads D.may_leave D.faults) (sym (ap b c.make_room.ensures.history)) c.self.invariant.0 in
    let whole : c.self.inside.failed ≡ None = ap (λ (x : Book g.row.D.Denot). x.failed) c.self.view_is ∙ c.requires.whole in
    let drafted = c.draft_all.ensures in
    let entries = c.draft_all.new.draft.entries.items in
    let answers = c.draft_all.new.answers.items in
    let file = c.append_all.new.file in
    let some : length entries ≡ 0 → ⊥ = λ none. eqb-false _ _ (sym c.is_empty.ensures ∙ c.if-is_empty.false) (omega (arith, none, c.draft_all.new.draft.entries.ok.0)) in
    let file_is : IsSettled D.honest D.reads D.may_leave c.self.inside.file (head_bytes c.self.inside.accounts) (item_records c.self.inside.accounts h) =
    settled D.honest D.reads D.may_leave D.moment D.left_since D.faults D.plan g.met.D.Disk.only_now (b h) is whole in
    let leaves : IsTrue (D.honest (disk_of c.self.inside.file)) → LeavesOnly D.moment D.left_since (disk_of c.self.inside.file) (disk_of file) (IsBeforeOrAll (head_bytes c.self.inside.accounts) (item_records c.self.inside.accounts h) (records_of entries)) = λ honest. c.append_all.ensures.any_moment (head_bytes c.self.inside.accounts) (item_records c.self.inside.accounts h) entries file_is drafted.drafted.frames_are drafted.drafted.written honest in
    let new = some_new c.self.inside.accounts c.args.day 0 0 (untouched h 0) (untouched (h ++ entries) 0) pays answers (drafted.each 0 0 0) (grown h entries some) in
    let commits = enters D.honest D.reads D.may_leave D.moment D.left_since D.faults D.plan g.met.D.Disk.only_now (b h) is held pays c.args.day whole answers entries drafted.each drafted.tried file None
    c.append_all.ensures.honest leaves c.append_all.ensures.no_more_calls c.append_all.ensures.later (g.H.Holder.held c.settle_all.new.held) new c.settle_all.ensures.held c.in-Ok-append_all.ensures.kept c.in-Ok-append_all.ensures.calls in
    let table : c.settle_all.new.sides.table ≡ c.self.inside.sides.table = ap (λ (s : Sides). s.table) c.settle_all.ensures.sides in
    subst (λ (x : Book g.row.D.Denot × (List Entry × TableId)). CommitsAll D.moment D.left_since D.honest D.faults D.plan x.0 (record (b h) { history = x.1.0; table = x.1.1; file = file; room = None }) held (g.H.Holder.held c.settle_all.new.held) pays c.args.day answers)
    (λ i. (same i, (sym c.settle_all.ensures.history i, sym table i))) commits

-- the disk failed
pub returns-in-Err-clause-commits : goal.returns-in-Err-clause-commits
returns-in-Err-clause-commits g c =
    let D = g.D.Disk in
    let held = g.H.Holder.held c.args.held.now in
    let pays = c.args.pays.items in
    let h = c.make_room.new.history.entries in
    let b : List Entry → Book g.row.D.Denot = λ x. record {
      accounts = c.self.inside.accounts;
      history = x;
      table = c.self.inside.sides.table;
      file = c.self.inside.file;
      at_open = c.self.inside.at_open;
      failed = c.self.inside.failed;
      room = c.self.inside.room;
    } in
    let same : b h ≡ c.args.self.now = ap b c.make_room.ensures.history ∙ c.self.view_is in
    let is : IsBook D.honest D.reads D.may_leave D.faults (b h) = subst (IsBook D.honest D.reads D.may_leave D.faults) (sym (ap b c.make_room.ensures.history)) c.self.invariant.0 in
    let whole : c.self.inside.failed ≡ None = ap (λ (x : Book g.row.D.Denot). x.failed) c.self.view_is ∙ c.requires.whole in
    let drafted = c.draft_all.ensures in
    let entries = c.draft_all.new.draft.entries.items in
    let answers = c.draft_all.new.answers.items in
    let file = c.append_all.new.file in
    let file_is : IsSettled D.honest D.reads D.may_leave c.self.inside.file (head_bytes c.self.inside.accounts) (item_records c.self.inside.accounts h) =
    settled D.honest D.reads D.may_leave D.moment D.left_since D.faults D.plan g.met.D.Disk.only_now (b h) is whole in
    let leaves : IsTrue (D.honest (disk_of c.self.inside.file)) → LeavesOnly D.moment D.left_since (disk_of c.self.inside.file) (disk_of file) (IsBeforeOrAll (head_bytes c.self.inside.accounts) (item_records c.self.inside.accounts h) (records_of entries)) = λ honest. c.append_all.ensures.any_moment (head_bytes c.self.inside.accounts) (item_records c.self.inside.accounts h) entries file_is drafted.drafted.frames_are drafted.drafted.written honest in
    let counts = c.in-Err.ensures.cause in
    let opened : D.faults (disk_of c.self.inside.file) ≡ c.self.inside.at_open = subst (λ (f : Option Failed). Counts f c.self.inside.at_open (D.faults (disk_of c.self.inside.file))) whole c.self.invariant.0.counts in
    let taken = c.take_back.ensures.taken in
    let most : c.len-count.result ≡ length pays = omega (arith, c.args.pays.ok.0, c.len-count.ensures) in
    let commits = fails D.honest D.reads D.may_leave D.moment D.left_since D.faults D.plan g.met.D.Disk.only_now (b h) is held pays c.args.day whole answers entries drafted.each drafted.tried file None
    c.append_all.ensures.honest leaves c.append_all.ensures.no_more_calls c.append_all.ensures.later c.in-Err.before c.in-Err.after taken.0 taken.1 taken.2 counts.before_is counts.after_is opened counts.rose in
    subst (λ (x : Book g.row.D.Denot × (List Answer × ℕ)). CommitsAll D.moment D.left_since D.honest D.faults D.plan x.0 (record (b h) { file = file; failed = Some record { day = c.args.day; most = x.1.1 }; room = None }) held held pays c.args.day x.1.0)
    (λ i. (same i, (sym taken.3 i, sym most i))) commits

-- ---- what the calls require

pub draft_all-requires-clause-latest : goal.draft_all-requires-clause-latest
draft_all-requires-clause-latest g c =
    subst (λ (x : List Entry). IsLatest x c.args.day) (sym c.make_room.ensures.history)
    (subst (λ (x : Book g.row.D.Denot). IsLatest x.history c.args.day) (sym c.self.view_is) c.requires.latest)

pub append_all-requires-clause-frames : goal.append_all-requires-clause-frames
append_all-requires-clause-frames g c =
    let entries = c.draft_all.new.draft.entries.items in
    let some : length entries ≡ 0 → ⊥ = λ none. eqb-false _ _ (sym c.is_empty.ensures ∙ c.if-is_empty.false) (omega (arith, none, c.draft_all.new.draft.entries.ok.0)) in
    let drafted = c.draft_all.ensures.drafted in
    let first = some_first entries some in
    (first.0, first.1, drafted.frames_are ∙ ap gated_records first.2, subst (All IsEntry) first.2 drafted.written)

pub append_all-requires-clause-fits : goal.append_all-requires-clause-fits
append_all-requires-clause-fits g c =
    let D = g.D.Disk in
    let h = c.make_room.new.history.entries in
    let b : List Entry → Book g.row.D.Denot = λ x. record {
      accounts = c.self.inside.accounts;
      history = x;
      table = c.self.inside.sides.table;
      file = c.self.inside.file;
      at_open = c.self.inside.at_open;
      failed = c.self.inside.failed;
      room = c.self.inside.room;
    } in
    let chart = c.self.inside.accounts in
    let is : IsBook D.honest D.reads D.may_leave D.faults (b h) = subst (IsBook D.honest D.reads D.may_leave D.faults) (sym (ap b c.make_room.ensures.history)) c.self.invariant.0 in
    let whole : c.self.inside.failed ≡ None = ap (λ (x : Book g.row.D.Denot). x.failed) c.self.view_is ∙ c.requires.whole in
    let entries = c.draft_all.new.draft.entries.items in
    let some : length entries ≡ 0 → ⊥ = λ none. eqb-false _ _ (sym c.is_empty.ensures ∙ c.if-is_empty.false) (omega (arith, none, c.draft_all.new.draft.entries.ok.0)) in
    let drafted = c.draft_all.ensures.drafted in
    let file_is : IsSettled D.honest D.reads D.may_leave c.self.inside.file (head_bytes chart) (item_records chart h) =
    settled D.honest D.reads D.may_leave D.moment D.left_since D.faults D.plan g.met.D.Disk.only_now (b h) is whole in
    let place = file_is.place in
    let end = end_is chart h c.args.day entries c.draft_all.new.draft.frames.bytes c.draft_all.new.index.references c.draft_all.new.pairs.items (end_of c.self.inside.file) is.journal.legal.changes.by_now drafted place in
    ⊎_elim
    (λ (none : entries ≡ []). absurd (some (ap length none)))
    (λ (few : length (file_of chart (h ++ entries)) ≤ most_disk_bytes). omega (arith, end, few))
    drafted.fits

pub settle_all-requires-clause-held : goal.settle_all-requires-clause-held
settle_all-requires-clause-held g c =
    from_all (λ (p : Pay). HoldsAll (g.H.Holder.held c.args.held.now) p.legs) c.draft_all.new.draft.entries.items c.args.pays.items c.draft_all.ensures.from c.requires.held

pub take_back-requires : goal.take_back-requires
take_back-requires g c =
    let h = c.make_room.new.history.entries in
    let entries = c.draft_all.new.draft.entries.items in
    let some : length entries ≡ 0 → ⊥ = λ none. eqb-false _ _ (sym c.is_empty.ensures ∙ c.if-is_empty.false) (omega (arith, none, c.draft_all.new.draft.entries.ok.0)) in
    record { some = some_new c.self.inside.accounts c.args.day 0 0 (untouched h 0) (untouched (h ++ entries) 0) c.args.pays.items c.draft_all.new.answers.items (c.draft_all.ensures.each 0 0 0) (grown h entries some) }

-- ---- what holds of the book

pub invariant_of-self-in-Ok-append_all : goal.invariant_of-self-in-Ok-append_all
invariant_of-self-in-Ok-append_all g c =
    let D = g.D.Disk in
    let h = c.make_room.new.history.entries in
    let b : List Entry → Book g.row.D.Denot = λ x. record {
      accounts = c.self.inside.accounts;
      history = x;
      table = c.self.inside.sides.table;
      file = c.self.inside.file;
      at_open = c.self.inside.at_open;
      failed = c.self.inside.failed;
      room = c.self.inside.room;
    } in
    let chart = c.self.inside.accounts in
    let is : IsBook D.honest D.reads D.may_leave D.faults (b h) = subst (IsBook D.honest D.reads D.may_leave D.faults) (sym (ap b c.make_room.ensures.history)) c.self.invariant.0 in
    let whole : c.self.inside.failed ≡ None = ap (λ (x : Book g.row.D.Denot). x.failed) c.self.view_is ∙ c.requires.whole in
    let entries = c.draft_all.new.draft.entries.items in
    let drafted = c.draft_all.ensures.drafted in
    let file = c.append_all.new.file in
    let count = length (accounts_of chart) in
    let file_is : IsSettled D.honest D.reads D.may_leave c.self.inside.file (head_bytes chart) (item_records chart h) =
    settled D.honest D.reads D.may_leave D.moment D.left_since D.faults D.plan g.met.D.Disk.only_now (b h) is whole in
    let stands = subst (λ (rs : List (List ℕ)). IsSettled D.honest D.reads D.may_leave file (head_bytes chart) rs) (sym (records_all chart h entries is.journal.legal.changes.by_now))
    (c.in-Ok-append_all.ensures.ok (head_bytes chart) (item_records chart h) entries file_is drafted.frames_are drafted.written) in
    let opened : D.faults (disk_of c.self.inside.file) ≡ c.self.inside.at_open = subst (λ (f : Option Failed). Counts f c.self.inside.at_open (D.faults (disk_of c.self.inside.file))) whole c.self.invariant.0.counts in
    let now : c.settle_all.new.history.entries ≡ h ++ entries = c.settle_all.ensures.history in (
      record {
        journal = subst (IsJournal chart) (sym now) (journal_all chart h entries is.journal drafted.written drafted.legal);
        disk = subst (λ (x : Option Failed × List Entry). StandsOnDisk D.honest D.reads D.may_leave x.0 file chart x.1) (λ i. (sym whole i, sym now i)) stands;
        counts = subst (λ (f : Option Failed). Counts f c.self.inside.at_open (D.faults (disk_of file))) (sym whole) (c.in-Ok-append_all.ensures.kept ∙ opened);
      },
      backed chart c.settle_all.new.history c.draft_all.new.index c.settle_all.new.sides c.draft_all.new.pairs.items c.self.inside.failed None refl c.settle_all.ensures.totals
          (λ none. subst (HasTotals c.draft_all.new.pairs.items count) (sym now) drafted.totals)
          (drafted.references_are ∙ ap references_of (sym now)),
    )

pub invariant_of-self-in-Err-append_all : goal.invariant_of-self-in-Err-append_all
invariant_of-self-in-Err-append_all g c =
    let D = g.D.Disk in
    let h = c.make_room.new.history.entries in
    let b : List Entry → Book g.row.D.Denot = λ x. record {
      accounts = c.self.inside.accounts;
      history = x;
      table = c.self.inside.sides.table;
      file = c.self.inside.file;
      at_open = c.self.inside.at_open;
      failed = c.self.inside.failed;
      room = c.self.inside.room;
    } in
    let chart = c.self.inside.accounts in
    let is : IsBook D.honest D.reads D.may_leave D.faults (b h) = subst (IsBook D.honest D.reads D.may_leave D.faults) (sym (ap b c.make_room.ensures.history)) c.self.invariant.0 in
    let whole : c.self.inside.failed ≡ None = ap (λ (x : Book g.row.D.Denot). x.failed) c.self.view_is ∙ c.requires.whole in
    let entries = c.draft_all.new.draft.entries.items in
    let drafted = c.draft_all.ensures.drafted in
    let file = c.append_all.new.file in
    let file_is : IsSettled D.honest D.reads D.may_leave c.self.inside.file (head_bytes chart) (item_records chart h) =
    settled D.honest D.reads D.may_leave D.moment D.left_since D.faults D.plan g.met.D.Disk.only_now (b h) is whole in
    let leaves : IsTrue (D.honest (disk_of c.self.inside.file)) → LeavesOnly D.moment D.left_since (disk_of c.self.inside.file) (disk_of file) (IsBeforeOrAll (head_bytes chart) (item_records chart h) (records_of entries)) = λ honest. c.append_all.ensures.any_moment (head_bytes chart) (item_records chart h) entries file_is drafted.frames_are drafted.written honest in
    let opened : D.faults (disk_of c.self.inside.file) ≡ c.self.inside.at_open = subst (λ (f : Option Failed). Counts f c.self.inside.at_open (D.faults (disk_of c.self.inside.file))) whole c.self.invariant.0.counts in
    let counts = c.in-Err.ensures.cause in
    let most : c.len-count.result ≡ length c.args.pays.items = omega (arith, c.args.pays.ok.0, c.len-count.ensures) in
    let few : length entries ≤ c.len-count.result = omega (arith, most, c.draft_all.ensures.few) in
    let front : c.truncate.new.self.references ≡ references_of h = c.truncate.ensures ∙ (λ i. take (c.len-entries.ensures.count i) (drafted.references_are i)) ∙ references_front h entries in (
      record {
        journal = is.journal;
        disk = left_by_all D.honest D.may_leave D.moment D.left_since g.met.D.Disk.counts_now chart h entries c.args.day c.len-count.result c.self.inside.file file is.journal.legal.changes.by_now few drafted.days drafted.written drafted.legal
            c.append_all.ensures.honest leaves;
        counts = subst (λ (x : ℕ × ℕ). Rose x.0 x.1) (λ i. ((counts.before_is ∙ opened) i, counts.after_is i)) counts.rose;
      },
      backed chart c.make_room.new.history c.truncate.new.self c.self.inside.sides c.draft_all.new.pairs.items (Some record { day = c.args.day; most = c.len-count.result }) None refl
          (subst (HasTotals c.self.inside.sides.pairs (length (accounts_of chart))) (sym c.make_room.ensures.history) c.self.invariant.1.totals)
          (λ none. absurd (cc (none)))
          front,
    )
