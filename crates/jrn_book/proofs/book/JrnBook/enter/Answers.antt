use Rattle.std.proofs.Common.{◌≡◌, ◌<◌, ◌≤◌, ◌∙◌, ℕ, All, List, [], ◌∷◌, ◌++◌, length, IsTrue, Option, None, ap, arith, subst, sym}
use Rattle.std.proofs.Math.Seq.{take-append_seam}
use Rattle.std.proofs.lemmas.Option.{same_Some}
use Rattle.corr_ids.specs.declared.day.Day.{Day}
use Rattle.day_model.specs.Chart.{accounts_of}
use Rattle.day_model.specs.declared.pay.Leg.{Leg}
use Rattle.day_model.specs.declared.pay.Pay.{Pay}
use Rattle.day_model.specs.declared.entry.Entry.{Entry}
use Rattle.day_model.specs.declared.entry.Outcome.TheVariants.{Booked}
use Rattle.day_model.specs.Fit.{FitsAccounts}
use Rattle.day_model.specs.Log.{most_entries}
use Rattle.day_model.specs.Laws.{IsLatest}
use Rattle.day_model.specs.Legal.{IsLegal}
use Rattle.day_model.specs.Next.{entered_at, entry_of}
use Rattle.day_model.specs.Pairs.{PairsFit, pairs_with}
use Rattle.day_model.specs.Totals.{HasTotals, Pair, booked_legs, totals_of}
use Rattle.day_model.proofs.laws.Histories.{entry_fits, has_entry}
use Rattle.day_model.proofs.laws.Pairs.{booked_listed}
use Rattle.day_model.proofs.laws.Slices.{push_last}
use Rattle.acct_locks.specs.Holdings.{CanSettle, held_totals}
use Rattle.acct_locks.specs.Sides.{Sides}
use Rattle.corr_disk.specs.Calls.{AtMostCalls}
use Rattle.corr_disk.specs.Disk.{LeavesOnly}
use Rattle.jrn_file.specs.File.{IsSettled, disk_of}
use Rattle.jrn_file.specs.Journal.{IsBeforeOrAfter, record_in}
use Rattle.jrn_file.proofs.laws.Frames.{record_in-frame}
use Rattle.jrn_codec.specs.Header.{head_bytes}
use Rattle.jrn_codec.specs.Record.{entry_bytes}
use Rattle.jrn_book.specs.declared.answer.Failed.{Failed}
use Rattle.jrn_book.specs.Book.{Book, Counts, IsLeftBy, StandsOnDisk}
use Rattle.jrn_book.specs.Deciding.{HoldsAll}
use Rattle.jrn_book.specs.Index.{references_of}
use Rattle.jrn_book.specs.inner.Index.{place_in}
use Rattle.jrn_book.specs.Journal.{IsBeforeOrNext, IsJournal, item_records}
use Rattle.jrn_book.proofs.Entering.{can_settle, held_with-nil, is_frame, moments, next_legal, place_of, records_next, references_more}
use Rattle.jrn_book.proofs.laws.Items.{records_more}
use Rattle.jrn_book.proofs.Staying.{backed, counts_after, disk_after, journal_more, left_by}
use Rattle.jrn_book.proofs.book.JrnBook.enter.Goals as goal

pub returns-in-Err-clause-held : goal.returns-in-Err-clause-held
returns-in-Err-clause-held g c = c.prepare-entry.ensures.held_same.0 ∙ sym (held_with-nil (g.H.Holder.held c.args.held.now))

pub returns-in-Err-clause-no_more_calls : goal.returns-in-Err-clause-no_more_calls
returns-in-Err-clause-no_more_calls g c =
    subst (λ (b : Book g.row.D.Denot). AtMostCalls 4 (g.D.Disk.plan (disk_of b.file)) (g.D.Disk.plan (disk_of c.append.new.file))) c.self.view_is c.append.ensures.no_more_calls

pub returns-in-Err-clause-any_moment : goal.returns-in-Err-clause-any_moment
returns-in-Err-clause-any_moment g c =
    let h = c.self.inside.history.entries in
    let chart = c.self.inside.accounts in
    let p = c.args.p.now in
    let day = c.args.day in
    let e = c.prepare-entry.result.0 in
    let D = g.D.Disk in
    let whole : c.self.inside.failed ≡ None = ap (λ (b : Book g.row.D.Denot). b.failed) c.self.view_is ∙ c.requires.whole in
    let new : entered_at p.mir h ≡ None = ap (λ (b : Book g.row.D.Denot). entered_at p.mir b.history) c.self.view_is ∙ c.requires.new in
    let settled = subst (λ f. StandsOnDisk D.honest D.reads D.may_leave f c.self.inside.file chart h) whole c.self.invariant.0.disk in
    let room : c.in-Some.room ≡ p = same_Some c.in-Some.room p (sym c.in-Some.is ∙ c.take.ensures.value ∙ ap (λ (b : Book g.row.D.Denot). b.room) c.self.view_is ∙ c.requires.room) in
    let is : e ≡ entry_of chart h p day = c.prepare-entry.ensures.entry ∙ ap (λ (x : Pay). entry_of chart h x day) room in
    let r : record_in c.bytes.result.now ≡ entry_bytes e = record_in-frame (entry_bytes e) c.bytes.result.now (c.bytes.ensures ∙ c.prepare-entry.ensures.frame) in
    subst (λ (b : Book g.row.D.Denot). IsTrue (D.honest (disk_of b.file)) → LeavesOnly D.moment D.left_since (disk_of b.file) (disk_of c.append.new.file) (IsBeforeOrNext b.accounts b.history p day)) c.self.view_is
    (λ honest. moments D.moment D.left_since (disk_of c.self.inside.file) (disk_of c.append.new.file) chart h p day (item_records chart h ++ record_in c.bytes.result.now ∷ []) (records_next chart h p day e (record_in c.bytes.result.now) c.self.invariant.0.journal.legal.changes.by_now new is r)
    (c.append.ensures.any_moment (head_bytes chart) (item_records chart h) settled honest))

pub returns-clause-any_moment : goal.returns-clause-any_moment
returns-clause-any_moment g c =
    let h = c.self.inside.history.entries in
    let chart = c.self.inside.accounts in
    let p = c.args.p.now in
    let day = c.args.day in
    let e = c.prepare-entry.result.0 in
    let D = g.D.Disk in
    let whole : c.self.inside.failed ≡ None = ap (λ (b : Book g.row.D.Denot). b.failed) c.self.view_is ∙ c.requires.whole in
    let new : entered_at p.mir h ≡ None = ap (λ (b : Book g.row.D.Denot). entered_at p.mir b.history) c.self.view_is ∙ c.requires.new in
    let settled = subst (λ f. StandsOnDisk D.honest D.reads D.may_leave f c.self.inside.file chart h) whole c.self.invariant.0.disk in
    let room : c.in-Some.room ≡ p = same_Some c.in-Some.room p (sym c.in-Some.is ∙ c.take.ensures.value ∙ ap (λ (b : Book g.row.D.Denot). b.room) c.self.view_is ∙ c.requires.room) in
    let is : e ≡ entry_of chart h p day = c.prepare-entry.ensures.entry ∙ ap (λ (x : Pay). entry_of chart h x day) room in
    let r : record_in c.bytes.result.now ≡ entry_bytes e = record_in-frame (entry_bytes e) c.bytes.result.now (c.bytes.ensures ∙ c.prepare-entry.ensures.frame) in
    subst (λ (b : Book g.row.D.Denot). IsTrue (D.honest (disk_of b.file)) → LeavesOnly D.moment D.left_since (disk_of b.file) (disk_of c.append.new.file) (IsBeforeOrNext b.accounts b.history p day)) c.self.view_is
    (λ honest. moments D.moment D.left_since (disk_of c.self.inside.file) (disk_of c.append.new.file) chart h p day (item_records chart h ++ record_in c.bytes.result.now ∷ []) (records_next chart h p day e (record_in c.bytes.result.now) c.self.invariant.0.journal.legal.changes.by_now new is r)
    (c.append.ensures.any_moment (head_bytes chart) (item_records chart h) settled honest))

pub append-requires-clause-frame : goal.append-requires-clause-frame
append-requires-clause-frame g c =
    is_frame (entry_bytes c.prepare-entry.result.0) c.bytes.result.now (c.bytes.ensures ∙ c.prepare-entry.ensures.frame) c.prepare-entry.ensures.few

pub note-requires-clause-new : goal.note-requires-clause-new
note-requires-clause-new g c =
    let h = c.self.inside.history.entries in
    let p = c.args.p.now in
    let e = c.prepare-entry.result.0 in
    let new : entered_at p.mir h ≡ None = ap (λ (b : Book g.row.D.Denot). entered_at p.mir b.history) c.self.view_is ∙ c.requires.new in
    let room : c.in-Some.room ≡ p = same_Some c.in-Some.room p (sym c.in-Some.is ∙ c.take.ensures.value ∙ ap (λ (b : Book g.row.D.Denot). b.room) c.self.view_is ∙ c.requires.room) in
    let pay : e.pay ≡ p = ap (λ (x : Entry). x.pay) c.prepare-entry.ensures.entry ∙ room in
    ap (place_in e.pay.mir.0) c.self.invariant.1.references ∙ place_of e.pay.mir h ∙ ap (λ (x : Pay). entered_at x.mir h) pay ∙ new

pub settle_entry-requires-clause-can : goal.settle_entry-requires-clause-can
settle_entry-requires-clause-can g c =
    let h = c.self.inside.history.entries in
    let chart = c.self.inside.accounts in
    let p = c.args.p.now in
    let day = c.args.day in
    let e = c.prepare-entry.result.0 in
    let held = g.H.Holder.held c.args.held.now in
    let new : entered_at p.mir h ≡ None = ap (λ (b : Book g.row.D.Denot). entered_at p.mir b.history) c.self.view_is ∙ c.requires.new in
    let fits : FitsAccounts chart p = subst (λ (b : Book g.row.D.Denot). FitsAccounts b.accounts p) (sym c.self.view_is) c.requires.fits in
    let latest : IsLatest h day = subst (λ (b : Book g.row.D.Denot). IsLatest b.history day) (sym c.self.view_is) c.requires.latest in
    let few : length h < 100000 = omega (arith, c.in_default-append.ensures.shows.0, c.len-entries.ensures.count, c.len-entries.ensures.few) in
    let room : c.in-Some.room ≡ p = same_Some c.in-Some.room p (sym c.in-Some.is ∙ c.take.ensures.value ∙ ap (λ (b : Book g.row.D.Denot). b.room) c.self.view_is ∙ c.requires.room) in
    let is : e ≡ entry_of chart h p day = c.prepare-entry.ensures.entry ∙ ap (λ (x : Pay). entry_of chart h x day) room in
    let next : IsLegal chart (h ++ e ∷ []) = subst (λ (x : Entry). IsLegal chart (h ++ x ∷ [])) (sym is) (next_legal chart h p day c.self.invariant.0.journal.legal fits latest few new) in
    let all : HoldsAll held e.pay.legs = subst (λ (x : Entry). HoldsAll held x.pay.legs) (sym is) c.requires.held in
    let legs : c.in-Some.room.legs ≡ e.pay.legs = sym (ap (λ (x : Entry). x.pay.legs) c.prepare-entry.ensures.entry) in
    let Agrees : Leg → Type 0 = λ leg. held_totals held leg.account.0 ≡ totals_of leg.account.0 h in
    let agreed : e.outcome ≡ Booked → All Agrees e.pay.legs = λ booked. subst (All Agrees) legs (c.prepare-entry.ensures.agreed booked) in
    subst (CanSettle (booked_legs e)) (sym c.prepare-entry.ensures.held_same.0) (can_settle chart h e held next all agreed)

pub add_legs-requires-clause-listed : goal.add_legs-requires-clause-listed
add_legs-requires-clause-listed g c =
    let h = c.self.inside.history.entries in
    let chart = c.self.inside.accounts in
    let e = c.prepare-entry.result.0 in
    let whole : c.self.inside.failed ≡ None = ap (λ (b : Book g.row.D.Denot). b.failed) c.self.view_is ∙ c.requires.whole in
    let next : IsLegal chart (h ++ e ∷ []) = (let p = c.args.p.now in
    let day = c.args.day in
    let new : entered_at p.mir h ≡ None = ap (λ (b : Book g.row.D.Denot). entered_at p.mir b.history) c.self.view_is ∙ c.requires.new in
    let fits : FitsAccounts chart p = subst (λ (b : Book g.row.D.Denot). FitsAccounts b.accounts p) (sym c.self.view_is) c.requires.fits in
    let latest : IsLatest h day = subst (λ (b : Book g.row.D.Denot). IsLatest b.history day) (sym c.self.view_is) c.requires.latest in
    let few : length h < 100000 = omega (arith, c.in_default-append.ensures.shows.0, c.len-entries.ensures.count, c.len-entries.ensures.few) in
    let room : c.in-Some.room ≡ p = same_Some c.in-Some.room p (sym c.in-Some.is ∙ c.take.ensures.value ∙ ap (λ (b : Book g.row.D.Denot). b.room) c.self.view_is ∙ c.requires.room) in
    let is : e ≡ entry_of chart h p day = c.prepare-entry.ensures.entry ∙ ap (λ (x : Pay). entry_of chart h x day) room in
    subst (λ (x : Entry). IsLegal chart (h ++ x ∷ [])) (sym is) (next_legal chart h p day c.self.invariant.0.journal.legal fits latest few new)) in
    let listed = booked_listed chart (h ++ e ∷ []) e (length h) next (push_last h e) in
    subst (λ (x : List Leg × ℕ). All (λ (leg : Leg). (1 ≤ leg.account.0) × (leg.account.0 ≤ x.1)) x.0) (λ k. (sym c.legs_booked.ensures k, sym (c.self.invariant.1.running whole).size k)) listed

pub add_legs-requires-clause-fits : goal.add_legs-requires-clause-fits
add_legs-requires-clause-fits g c =
    let h = c.self.inside.history.entries in
    let chart = c.self.inside.accounts in
    let e = c.prepare-entry.result.0 in
    let pairs = c.self.inside.pairs.items in
    let whole : c.self.inside.failed ≡ None = ap (λ (b : Book g.row.D.Denot). b.failed) c.self.view_is ∙ c.requires.whole in
    let next : IsLegal chart (h ++ e ∷ []) = (let p = c.args.p.now in
    let day = c.args.day in
    let new : entered_at p.mir h ≡ None = ap (λ (b : Book g.row.D.Denot). entered_at p.mir b.history) c.self.view_is ∙ c.requires.new in
    let fits : FitsAccounts chart p = subst (λ (b : Book g.row.D.Denot). FitsAccounts b.accounts p) (sym c.self.view_is) c.requires.fits in
    let latest : IsLatest h day = subst (λ (b : Book g.row.D.Denot). IsLatest b.history day) (sym c.self.view_is) c.requires.latest in
    let few : length h < 100000 = omega (arith, c.in_default-append.ensures.shows.0, c.len-entries.ensures.count, c.len-entries.ensures.few) in
    let room : c.in-Some.room ≡ p = same_Some c.in-Some.room p (sym c.in-Some.is ∙ c.take.ensures.value ∙ ap (λ (b : Book g.row.D.Denot). b.room) c.self.view_is ∙ c.requires.room) in
    let is : e ≡ entry_of chart h p day = c.prepare-entry.ensures.entry ∙ ap (λ (x : Pay). entry_of chart h x day) room in
    subst (λ (x : Entry). IsLegal chart (h ++ x ∷ [])) (sym is) (next_legal chart h p day c.self.invariant.0.journal.legal fits latest few new)) in
    let totals = subst (λ (es : List Entry). HasTotals pairs (length (accounts_of chart)) es) (sym (take-append_seam h (e ∷ []))) (c.self.invariant.1.running whole) in
    subst (λ (ls : List Leg). PairsFit ls pairs) (sym c.legs_booked.ensures) (entry_fits chart (h ++ e ∷ []) e (length h) pairs next (push_last h e) totals)

pub invariant_of-self : goal.invariant_of-self
invariant_of-self g c =
    let h = c.self.inside.history.entries in
    let chart = c.self.inside.accounts in
    let p = c.args.p.now in
    let day = c.args.day in
    let e = c.prepare-entry.result.0 in
    let D = g.D.Disk in
    let old = c.self.inside.file in
    let file = c.append.new.file in
    let whole : c.self.inside.failed ≡ None = ap (λ (b : Book g.row.D.Denot). b.failed) c.self.view_is ∙ c.requires.whole in
    let new : entered_at p.mir h ≡ None = ap (λ (b : Book g.row.D.Denot). entered_at p.mir b.history) c.self.view_is ∙ c.requires.new in
    let fits : FitsAccounts chart p = subst (λ (b : Book g.row.D.Denot). FitsAccounts b.accounts p) (sym c.self.view_is) c.requires.fits in
    let latest : IsLatest h day = subst (λ (b : Book g.row.D.Denot). IsLatest b.history day) (sym c.self.view_is) c.requires.latest in
    let settled = subst (λ f. StandsOnDisk D.honest D.reads D.may_leave f old chart h) whole c.self.invariant.0.disk in
    let counts = subst (λ f. Counts f c.self.inside.at_open (D.faults (disk_of old))) whole c.self.invariant.0.counts in
    let room : c.in-Some.room ≡ p = same_Some c.in-Some.room p (sym c.in-Some.is ∙ c.take.ensures.value ∙ ap (λ (b : Book g.row.D.Denot). b.room) c.self.view_is ∙ c.requires.room) in
    let is : e ≡ entry_of chart h p day = c.prepare-entry.ensures.entry ∙ ap (λ (x : Pay). entry_of chart h x day) room in
    let r : record_in c.bytes.result.now ≡ entry_bytes e = record_in-frame (entry_bytes e) c.bytes.result.now (c.bytes.ensures ∙ c.prepare-entry.ensures.frame) in
    let leaves : IsTrue (D.honest (disk_of old)) → LeavesOnly D.moment D.left_since (disk_of old) (disk_of file) (IsBeforeOrAfter (head_bytes chart) (item_records chart h) (entry_bytes e)) = λ honest. subst (λ (x : List ℕ). LeavesOnly D.moment D.left_since (disk_of old) (disk_of file) (IsBeforeOrAfter (head_bytes chart) (item_records chart h) x)) r (c.append.ensures.any_moment (head_bytes chart) (item_records chart h) settled honest) in
    let left : (c.len-entries.result ≡ most_entries → ⊥) → IsLeftBy (D.honest (disk_of file)) (D.may_leave (disk_of file)) chart h (record { day = day; most = 1 }) = λ ne.
    let few : length h < 100000 = omega (arith, ne, c.len-entries.ensures.count, c.len-entries.ensures.few) in
    let next : IsLegal chart (h ++ e ∷ []) = subst (λ (x : Entry). IsLegal chart (h ++ x ∷ [])) (sym is) (next_legal chart h p day c.self.invariant.0.journal.legal fits latest few new) in
    subst (λ (d : Day). IsLeftBy (D.honest (disk_of file)) (D.may_leave (disk_of file)) chart h (record { day = d; most = 1 })) (ap (λ (x : Entry). x.day) is)
    (left_by D.honest D.reads D.may_leave D.moment D.left_since g.met.D.Disk.counts_now chart h e old file c.self.invariant.0.journal.legal.changes.by_now c.prepare-entry.ensures.written next c.append.ensures.honest leaves) in
    let failed = c.failed_by-self-inside.ensures in
    let disk = disk_after D.honest D.reads D.may_leave D.moment D.left_since g.met.D.Disk.counts_now chart h day old file _ _ _ _ _ c.in-Err.fault c.in-Err.ensures.shows c.in-Err.ensures.same settled left in (
      record {
        journal = c.self.invariant.0.journal;
        disk = subst (λ f. StandsOnDisk D.honest D.reads D.may_leave f file chart h) (sym failed) disk;
        counts = subst (λ f. Counts f c.self.inside.at_open (D.faults (disk_of file))) (sym failed) (counts_after day c.self.inside.at_open _ _ _ _ _ c.in-Err.fault counts c.in-Err.ensures.shows);
      },
      backed chart c.self.inside.history c.self.inside.index c.prepare-entry.new.sides c.self.inside.pairs.items c.failed_by-self-inside.result c.take.new.self c.take.ensures.after
          (subst (λ (s : Sides). HasTotals s.pairs (length (accounts_of chart)) h) (sym c.prepare-entry.ensures.sides_same) c.self.invariant.1.totals)
          (λ none. c.self.invariant.1.running whole) c.self.invariant.1.references,
    )

pub invariant_of-self-2 : goal.invariant_of-self-2
invariant_of-self-2 g c =
    let h = c.self.inside.history.entries in
    let chart = c.self.inside.accounts in
    let p = c.args.p.now in
    let day = c.args.day in
    let e = c.prepare-entry.result.0 in
    let D = g.D.Disk in
    let old = c.self.inside.file in
    let file = c.append.new.file in
    let count = length (accounts_of chart) in
    let whole : c.self.inside.failed ≡ None = ap (λ (b : Book g.row.D.Denot). b.failed) c.self.view_is ∙ c.requires.whole in
    let new : entered_at p.mir h ≡ None = ap (λ (b : Book g.row.D.Denot). entered_at p.mir b.history) c.self.view_is ∙ c.requires.new in
    let fits : FitsAccounts chart p = subst (λ (b : Book g.row.D.Denot). FitsAccounts b.accounts p) (sym c.self.view_is) c.requires.fits in
    let latest : IsLatest h day = subst (λ (b : Book g.row.D.Denot). IsLatest b.history day) (sym c.self.view_is) c.requires.latest in
    let few : length h < 100000 = omega (arith, c.in_default-append.ensures.shows.0, c.len-entries.ensures.count, c.len-entries.ensures.few) in
    let settled = subst (λ f. StandsOnDisk D.honest D.reads D.may_leave f old chart h) whole c.self.invariant.0.disk in
    let counts = subst (λ f. Counts f c.self.inside.at_open (D.faults (disk_of old))) whole c.self.invariant.0.counts in
    let room : c.in-Some.room ≡ p = same_Some c.in-Some.room p (sym c.in-Some.is ∙ c.take.ensures.value ∙ ap (λ (b : Book g.row.D.Denot). b.room) c.self.view_is ∙ c.requires.room) in
    let is : e ≡ entry_of chart h p day = c.prepare-entry.ensures.entry ∙ ap (λ (x : Pay). entry_of chart h x day) room in
    let next : IsLegal chart (h ++ e ∷ []) = subst (λ (x : Entry). IsLegal chart (h ++ x ∷ [])) (sym is) (next_legal chart h p day c.self.invariant.0.journal.legal fits latest few new) in
    let r : record_in c.bytes.result.now ≡ entry_bytes e = record_in-frame (entry_bytes e) c.bytes.result.now (c.bytes.ensures ∙ c.prepare-entry.ensures.frame) in
    let records : item_records chart h ++ record_in c.bytes.result.now ∷ [] ≡ item_records chart (h ++ e ∷ []) = ap (λ (x : List ℕ). item_records chart h ++ x ∷ []) r ∙ sym (records_more chart h e c.self.invariant.0.journal.legal.changes.by_now) in
    let stands = subst (λ (rs : List (List ℕ)). IsSettled D.honest D.reads D.may_leave file (head_bytes chart) rs) records (c.in_default-append.ensures.ok (head_bytes chart) (item_records chart h) settled) in
    let now : c.note.new.history.entries ≡ h ++ e ∷ [] = c.note.ensures.history in
    let sides : c.settle_entry.new.sides.pairs ≡ pairs_with (booked_legs e) c.self.inside.sides.pairs =
    ap (λ (s : Sides). s.pairs) c.settle_entry.ensures.sides ∙ ap (λ (s : Sides). pairs_with (booked_legs e) s.pairs) c.prepare-entry.ensures.sides_same in
    let totals = has_entry h e count c.self.inside.sides.pairs c.self.invariant.1.totals in
    let pairs : c.add_legs.new.pairs.items ≡ pairs_with (booked_legs e) c.self.inside.pairs.items = c.add_legs.ensures ∙ ap (λ (ls : List Leg). pairs_with ls c.self.inside.pairs.items) c.legs_booked.ensures in
    let Totals : List Pair × List Entry → Type 0 = λ x. HasTotals x.0 count x.1 in (
      record {
        journal = subst (IsJournal chart) (sym now) (journal_more chart h e c.self.invariant.0.journal c.prepare-entry.ensures.written next);
        disk = subst (λ (x : Option Failed × List Entry). StandsOnDisk D.honest D.reads D.may_leave x.0 file chart x.1) (λ i. (sym whole i, sym now i)) stands;
        counts = subst (λ f. Counts f c.self.inside.at_open (D.faults (disk_of file))) (sym whole) (c.in_default-append.ensures.shows.2 ∙ counts);
      },
      backed chart c.note.new.history c.note.new.index c.settle_entry.new.sides c.add_legs.new.pairs.items c.self.inside.failed c.take.new.self c.take.ensures.after
          (subst Totals (λ i. (sym sides i, sym now i)) totals)
          (λ none. subst Totals (λ i. (sym pairs i, sym now i)) (has_entry h e count c.self.inside.pairs.items (c.self.invariant.1.running whole)))
          (c.note.ensures.index ∙ ap (λ (rs : List (List ℕ)). rs ++ e.pay.mir.0 ∷ []) c.self.invariant.1.references ∙ sym (references_more h e) ∙ ap references_of (sym now)),
    )

pub returns-in-Err-clause-legal : goal.returns-in-Err-clause-legal
returns-in-Err-clause-legal g c = c.self.invariant.0.journal.legal

pub returns-clause-legal : goal.returns-clause-legal
returns-clause-legal g c =
    let h = c.self.inside.history.entries in
    let chart = c.self.inside.accounts in
    let p = c.args.p.now in
    let day = c.args.day in
    let e = c.prepare-entry.result.0 in
    let new : entered_at p.mir h ≡ None = ap (λ (b : Book g.row.D.Denot). entered_at p.mir b.history) c.self.view_is ∙ c.requires.new in
    let fits : FitsAccounts chart p = subst (λ (b : Book g.row.D.Denot). FitsAccounts b.accounts p) (sym c.self.view_is) c.requires.fits in
    let latest : IsLatest h day = subst (λ (b : Book g.row.D.Denot). IsLatest b.history day) (sym c.self.view_is) c.requires.latest in
    let few : length h < 100000 = omega (arith, c.in_default-append.ensures.shows.0, c.len-entries.ensures.count, c.len-entries.ensures.few) in
    let room : c.in-Some.room ≡ p = same_Some c.in-Some.room p (sym c.in-Some.is ∙ c.take.ensures.value ∙ ap (λ (b : Book g.row.D.Denot). b.room) c.self.view_is ∙ c.requires.room) in
    let is : e ≡ entry_of chart h p day = c.prepare-entry.ensures.entry ∙ ap (λ (x : Pay). entry_of chart h x day) room in
    let next : IsLegal chart (h ++ e ∷ []) = subst (λ (x : Entry). IsLegal chart (h ++ x ∷ [])) (sym is) (next_legal chart h p day c.self.invariant.0.journal.legal fits latest few new) in
    subst (IsLegal chart) (sym c.note.ensures.history) next

pub returns-clause-durable : goal.returns-clause-durable
returns-clause-durable g c =
    let h = c.self.inside.history.entries in
    let chart = c.self.inside.accounts in
    let p = c.args.p.now in
    let day = c.args.day in
    let e = c.prepare-entry.result.0 in
    let D = g.D.Disk in
    let file = c.append.new.file in
    let whole : c.self.inside.failed ≡ None = ap (λ (b : Book g.row.D.Denot). b.failed) c.self.view_is ∙ c.requires.whole in
    let settled = subst (λ f. StandsOnDisk D.honest D.reads D.may_leave f c.self.inside.file chart h) whole c.self.invariant.0.disk in
    let r : record_in c.bytes.result.now ≡ entry_bytes e = record_in-frame (entry_bytes e) c.bytes.result.now (c.bytes.ensures ∙ c.prepare-entry.ensures.frame) in
    let records : item_records chart h ++ record_in c.bytes.result.now ∷ [] ≡ item_records chart (h ++ e ∷ []) = ap (λ (x : List ℕ). item_records chart h ++ x ∷ []) r ∙ sym (records_more chart h e c.self.invariant.0.journal.legal.changes.by_now) in
    let stands = subst (λ (rs : List (List ℕ)). IsSettled D.honest D.reads D.may_leave file (head_bytes chart) rs) records (c.in_default-append.ensures.ok (head_bytes chart) (item_records chart h) settled) in
    let now : item_records chart (h ++ e ∷ []) ≡ item_records chart c.note.new.history.entries = ap (item_records chart) (sym c.note.ensures.history) in
    subst (λ (b : Book g.row.D.Denot). IsSettled D.honest D.reads D.may_leave file (head_bytes b.accounts) (item_records b.accounts c.note.new.history.entries)) c.self.view_is
    (subst (λ (rs : List (List ℕ)). IsSettled D.honest D.reads D.may_leave file (head_bytes chart) rs) now stands)
