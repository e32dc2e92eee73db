-- The promise of `run`.
use Rattle.std.proofs.Common.{◌≡◌, ◌⊎◌, ◌+◌, ◌≤◌, ℕ, zero, suc, All, List, [], ◌∷◌, ◌++◌, true, false, inl, inr, length, map, take, Some, refl, sym, ap, ◌∙◌, arith, subst}
use Rattle.std.proofs.lemmas.List.{append-nil, length-map}
use mathlib.Core.List.{IsPrefix, prefix-append}
use mathlib.Core.Bool.{true≢false}
use Rattle.std.specs.Prelude.{IsTrue, Option, None, Result}
use Rattle.std.specs.Io.KnownBytes.{Consumes}
use Rattle.std.specs.List.{Contains}
use Rattle.std.proofs.lemmas.List.Elements.{All-map, All-weaker}
use Rattle.corr_books.specs.Moments.{StandsBetween, StandsWithMore}
use Rattle.corr_disk.specs.declared.disk.Disk as disks
use Rattle.corr_ids.specs.declared.day.Day.{Day}
use Rattle.corr_io.specs.declared.sink.Sink as sinks
use Rattle.corr_io.specs.declared.source.Source as sources
use Rattle.corr_report.specs.Report.{report_of}
use Rattle.corr_text.specs.Faults.{Rose}
use Rattle.day_model.specs.Chart.{Chart}
use Rattle.day_model.specs.Next.{fold_of}
use Rattle.day_model.specs.declared.entry.Entry.{Entry}
use Rattle.day_model.specs.declared.pay.Pay.{Pay}
use Rattle.fin_frame.proofs.laws.Tracking.{whole-more}
use Rattle.fin_frame.specs.Shown.{ShowWhole}
use Rattle.jrn_book.specs.Book.{IsLeftBy}
use Rattle.jrn_book.specs.Journal.{IsJournal, StandsForBook}
use Rattle.ref_tables.specs.Seen.{Tables as Known}
use Rattle.ref_tables.specs.declared.fault.TableName.{TableName}
use Rattle.ref_tables.specs.declared.fault.TableName.TheVariants as names
use Rattle.day_model.proofs.laws.Folds.{legal_fold}
use Rattle.corr_top.proofs.Replying.{get_all}
use Rattle.corr_top.proofs.Told.{same_directory, took_all}
use Rattle.corr_top.proofs.Walking.{ahead_of, is_named, named_has, walks_ahead}
use Rattle.corr_top.specs.Booking.{AreAnswered, IsEnteredOn, StopsBooking}
use Rattle.corr_top.specs.Commands.{meaning_of}
use Rattle.corr_top.specs.Ends.{Ends}
use Rattle.corr_top.specs.Inputs.{Inputs, directory_in, new_in, pays_of, replies_of, tables_in}
use Rattle.corr_top.specs.Message.{message_reply, pays_in, readings_of}
use Rattle.corr_top.specs.MessageFile.{IsMessageFile, most_message_bytes}
use Rattle.corr_top.specs.OnDisk.{up_to, IsOnDisk, LeavesMidway}
use Rattle.corr_top.specs.Origin.{AreSentValid}
use Rattle.corr_top.specs.Out.{sent_from}
use Rattle.corr_top.specs.Run.{run_meaning, run_out, run_report, run_steps}
use Rattle.corr_top.specs.Steps.{Step, Walks}
use Rattle.corr_top.specs.Passing.{AreGiven, HasMessages, Passes, table_file}
use Rattle.corr_top.specs.Stops.{status_of_file}
use Rattle.corr_top.specs.declared.cutting.FileStop.{FileStop}
use Rattle.corr_top.specs.declared.cutting.FileStop.TheVariants as file
use Rattle.corr_top.specs.declared.directory.Directory.{Directory}
use Rattle.corr_top.specs.declared.message.NoPay.{NoPay}
use Rattle.corr_top.specs.declared.room.Room.{Room}
use Rattle.corr_top.specs.declared.status.Status.{Status}
use Rattle.corr_top.specs.declared.words.Command.TheVariants.{Run}
use Rattle.corr_top.specs.promises.Books.{AreBooks, AtEachMoment, Keeps, Told, Wrote, writes}
use Rattle.corr_top.specs.promises.Runs.{AnswersAll, AreOfFile, RunPromise, asked, ends_early}
use Rattle.corr_top.proofs.promise.Agreeing.{SameBooks, known_told, same_books, sound_books, table_told}
use Rattle.corr_top.proofs.promise.Finished.{came, finished}
use Rattle.corr_top.proofs.promise.Last.{CountsNow, last_leaves}
use Rattle.corr_top.proofs.promise.Lists.{contains_get, filter_map_all, get_contains}
use Rattle.corr_top.proofs.promise.Untouched.{KeepsAll, OnlyNow, stops_somewhere, unwritten_keeps}

-- a list is a front of itself
pub whole_front : (books : List Entry) → IsPrefix books books
whole_front books = ([], append-nil books)

-- a journal that stands alone on a disk that tells its bytes
pub keeps_on : {D : Type 0} (disk : disks.Ghosts D) (d : D) (chart : Chart) (books : List Entry) → IsTrue (disk.honest d) → IsJournal chart books → IsOnDisk disk d chart books → Keeps disk d chart books
keeps_on disk d chart books told journal on = record {
  told = told;
  sound = sound_books chart books journal;
  reads = on.stands told;
  crash = λ image left. subst (λ (b : List ℕ). StandsForBook b chart books) (sym (on.durable told image left)) (on.stands told);
}

-- entries of pays of a file
of_pays : (day : Day) (pays : List Pay) (added : List Entry) → All (IsEnteredOn day pays) added → All (Contains pays) (map (λ e. e.pay) added)
of_pays day pays added each =
    All-map (Contains pays) (λ (e : Entry). e.pay) added
    (All-weaker (IsEnteredOn day pays) (λ (e : Entry). Contains pays e.pay) (λ e is. get_contains pays is.place e.pay is.pay_is) added each)

-- the steps of a run ahead of the serving of its file
abbrev file_steps : List Step
file_steps = ahead_of Step.serve run_steps

-- a file of which some first bytes were read begins with them
read_front : (file bytes : List ℕ) (rest : Option (List ℕ)) → Consumes (Some file) rest bytes → (more : List ℕ) × (file ≡ bytes ++ more)
read_front file bytes None took = absurd took
read_front file bytes (Some more) took = (more, took)

-- the first bytes of a list, up to so many
front_within : (n : ℕ) (front more : List ℕ) → length front ≤ n → (rest : List ℕ) × (take n (front ++ more) ≡ front ++ rest)
front_within n [] more fits = (take n more, refl)
front_within zero (b ∷ front) more fits = absurd (omega (arith, fits))
front_within (suc n) (b ∷ front) more fits =
    let shorter = front_within n front more (omega (arith, fits)) in
    (shorter.0, ap (λ (l : List ℕ). b ∷ l) shorter.1)

-- a stop in the file is told by a status at which the file may have been served in part
file_early : (stop : FileStop) → ends_early (status_of_file stop) ≡ true
file_early (file.Fault before after) = refl
file_early (file.TooLarge bytes messages) = refl
file_early (file.Framing at) = refl
file_early file.Memory = refl

module _ {S K D : Type 0} (source : sources.Ghosts S) (sink : sinks.Ghosts K) (disk : disks.Ghosts D) (old new : Room S K D) (s : Status) (i j : Inputs) where
  -- the messages of a file that was read are those of the one that was told
  whole_file : source.left old.messages ≡ Some i.messages → (bytes : List ℕ) (cut : List (List ℕ)) → HasMessages source old.messages new.messages bytes cut → IsMessageFile i.messages cut
  whole_file messages bytes cut had =
      let same = took_all source.left source.faults 67108864 old.messages new.messages bytes i.messages messages had.are.short had.took in
      subst (λ (m : List ℕ). IsMessageFile m cut) same had.are

  -- and those that were given are its first ones
  given_of : source.left old.messages ≡ Some i.messages → ends_early s ≡ true → (bytes : List ℕ) (given : List (List ℕ)) → AreGiven source old.messages new.messages bytes given → AreOfFile s i.messages given
  given_of messages early bytes given all = elim all.are [
    | inl had ↦ inl (whole_file messages bytes given had)
    | inr shown ↦
        let after = source.left new.messages in
        let front = read_front i.messages bytes after (subst (λ (left : Option (List ℕ)). Consumes left after bytes) messages shown.0.taken) in
        let within = front_within (most_message_bytes + 1) bytes front.0 shown.0.short in
        let first : take (most_message_bytes + 1) i.messages ≡ bytes ++ within.0 = ap (λ (m : List ℕ). take (most_message_bytes + 1) m) front.1 ∙ within.1 in
        inr (early, all.few, subst (λ (m : List ℕ). ShowWhole m given) (sym first) (whole-more within.0 shown.1))
  ]

  -- what was read up to the messages is what was told
  record Reached : Type 0 where
    known : tables_in j ≡ tables_in i
    directory : directory_in j ≡ directory_in i
    books : SameBooks j i.chart i.history
    day : j.day ≡ i.day
    entries : j.entries ≡ i.entries

  reached : Told source old.tables run_steps i → Keeps disk old.disk i.chart i.history → j.day ≡ i.day → j.entries ≡ i.entries
      → Walks (Passes source disk old new j) file_steps → Reached
  reached told kept day entries passed =
      let P = Passes source disk old new j in
      let same : (name : TableName) → is_named (Step.table name) run_steps ≡ true → is_named (Step.table name) file_steps ≡ true → table_file name j ≡ table_file name i =
      table_told source sink disk old new s j i run_steps file_steps told passed in
      let known = known_told source sink disk old new s j i run_steps file_steps told passed
      (record { bics = refl; ccys = refl; countries = refl }) (record { bics = refl; ccys = refl; countries = refl }) in
      record {
        known = known;
        directory = same_directory j i known (same names.Ssi refl refl) (same names.Charges refl refl);
        books = same_books disk old.disk j i.chart i.history (named_has P Step.open_journal file_steps refl passed) kept;
        day = day;
        entries = entries;
      }

  module _ (r : Reached) where
    asked_is : readings_of (directory_in j) j.chart j.cut ≡ asked i j.cut
    asked_is = ap (λ (d : Directory). readings_of d j.chart j.cut) r.directory ∙ ap (λ (c : Chart). readings_of (directory_in i) c j.cut) r.books.chart_is

    one_fold : (pays : List Pay) → fold_of j.chart j.history pays j.day ≡ fold_of i.chart i.history pays i.day
    one_fold pays =
        ap (λ (c : Chart). fold_of c j.history pays j.day) r.books.chart_is
        ∙ ap (λ (b : List Entry). fold_of i.chart b pays j.day) r.books.books_is
        ∙ ap (λ (d : Day). fold_of i.chart i.history pays d) r.day

    of_asked : (entered : List Pay) → All (Contains (pays_of j)) entered → All (Contains (pays_in (asked i j.cut))) entered
    of_asked entered all = subst (λ (rs : List (Result Pay NoPay)). All (Contains (pays_in rs)) entered) asked_is all

    all_answered : IsMessageFile i.messages j.cut → j.workers ≡ i.workers → AreAnswered j → AreSentValid (tables_in j) j.chart (length j.history + 1) (new_in j)
        → Wrote sink old new s (report_of j.chart (new_in j) (replies_of j)) (sent_from j.chart (length j.history + 1) (new_in j)) → AnswersAll sink disk old new s i (new_in j)
    all_answered whole workers a valid wrote =
        let readings = readings_of (directory_in j) j.chart j.cut in
        let full : length (replies_of j) ≡ length readings = a.each ∙ sym (length-map j.cut _) in
        let V : Known → Chart → List Entry → Type 0 = λ k c b. AreSentValid k c (length b + 1) (new_in j) in
        let W : Chart → List Entry → Type 0 = λ c b. Wrote sink old new s (report_of c (new_in j) (replies_of j)) (sent_from c (length b + 1) (new_in j)) in
        record {
          cut = j.cut;
          file = whole;
          replies = replies_of j;
          each = filter_map_all (message_reply (new_in j)) readings full ∙ ap (λ (rs : List (Result Pay NoPay)). map (message_reply (new_in j)) rs) asked_is;
          once = λ pay c.
              let d : Contains (pays_of j) pay = subst (λ (rs : List (Result Pay NoPay)). Contains (pays_in rs) pay) (sym asked_is) c in
              a.entered d.0 pay (contains_get (pays_of j) pay d);
          alone = λ one. a.alone (workers ∙ one) ∙ one_fold (pays_of j) ∙ ap (λ (rs : List (Result Pay NoPay)). fold_of i.chart i.history (pays_in rs) i.day) asked_is;
          wrote = subst (λ (b : List Entry). W i.chart b) r.books.books_is (subst (λ (c : Chart). W c j.history) r.books.chart_is wrote);
          valid = subst (λ (b : List Entry). V (tables_in i) i.chart b) r.books.books_is
              (subst (λ (c : Chart). V (tables_in i) c j.history) r.books.chart_is (subst (λ (k : Known). V k j.chart j.history) r.known valid));
        }

    -- what a crash leaves at each moment, said of the books that the disk had
    abbrev Midway : List Entry → List Entry → Type 0
    Midway books more = AtEachMoment disk old.disk new.disk (λ image. StandsBetween i.chart i.history books image
        ⊎ (Rose (disk.faults old.disk) (disk.faults new.disk) × StandsWithMore i.chart books i.day i.entries more image))

    midway : Keeps disk old.disk i.chart i.history → (books : List Entry) → IsPrefix j.history books → LeavesMidway disk old.disk new.disk j.chart j.history books j.day i.entries → (more : List Entry) × Midway books more × (disk.moment old.disk ≤ disk.moment new.disk)
    midway kept books begins leaves =
        let same : LeavesMidway disk old.disk new.disk i.chart i.history books i.day i.entries =
        subst (λ (d : Day). LeavesMidway disk old.disk new.disk i.chart i.history books d i.entries) r.day
        (subst (λ (b : List Entry). LeavesMidway disk old.disk new.disk i.chart b books j.day i.entries) r.books.books_is
        (subst (λ (c : Chart). LeavesMidway disk old.disk new.disk c j.history books j.day i.entries) r.books.chart_is leaves)) in
        let here = same kept.told in (
          here.0,
          λ image left. elim (here.1.each image left) [
            | inl before ↦ inl (record {
              history = i.history;
              goes_on = whole_front i.history;
              begins = subst (λ (b : List Entry). IsPrefix b books) r.books.books_is begins;
              stands = kept.crash image before;
            })
            | inr since ↦ since
          ],
          here.1.later,
        )

    -- all was entered
    entered_all : IsMessageFile i.messages j.cut → Keeps disk old.disk i.chart i.history → LeavesMidway disk old.disk new.disk j.chart j.history (new_in j) j.day i.entries → IsTrue (disk.honest new.disk) → AreAnswered j → IsJournal j.chart (new_in j) → IsOnDisk disk new.disk j.chart (new_in j) → (writes s ≡ true → AnswersAll sink disk old new s i (new_in j))
        → RunPromise sink disk old new s i
    entered_all whole kept leaves sure a journal on answers =
        let left = midway kept (new_in j) (subst (λ (b : List Entry). IsPrefix j.history b) (sym a.is) (prefix-append j.history a.added)) leaves in
        let made : Keeps disk new.disk i.chart (new_in j) = subst (λ (c : Chart). Keeps disk new.disk c (new_in j)) r.books.chart_is (keeps_on disk new.disk j.chart (new_in j) sure journal on) in record {
          books = new_in j;
          entered = j.entered;
          more = left.0;
          one_clerk = one_fold j.entered;
          of_file = inr (j.cut, inl whole, of_asked j.entered (subst (λ (ps : List Pay). All (Contains (pays_of j)) ps) a.pays (of_pays j.day (pays_of j) a.added a.of_file)));
          crash = inl made;
          moments = left.1;
          last = λ image now. inl (made.crash image now);
          answers = answers;
        }

    -- the entering stopped
    entered_some : AreOfFile s i.messages j.cut → CountsNow disk → Keeps disk old.disk i.chart i.history → IsTrue (disk.honest new.disk) → {stop : _} → StopsBooking disk old.disk new.disk j stop → writes s ≡ false → RunPromise sink disk old new s i
    entered_some of_file counts kept sure st silent =
        let books = j.history ++ st.added in
        let pays = map (λ (e : Entry). e.pay) st.added in
        let sound = sound_books j.chart books st.journal in
        let M : Chart → Day → ℕ → Type 0 = λ c d n.
        Keeps disk new.disk c books ⊎ (Rose (disk.faults old.disk) (disk.faults new.disk) × AreBooks c books × IsLeftBy (disk.honest new.disk) (disk.may_leave new.disk) c books (up_to n d)) in
        let here : M j.chart j.day j.entries = elim st.left [ inl calm ↦ inl (keeps_on disk new.disk j.chart books sure st.journal calm.1) | inr rose ↦ inr (rose.0, sound, rose.1) ] in
        let left = midway kept books (prefix-append j.history st.added)
        (subst (λ (n : ℕ). LeavesMidway disk old.disk new.disk j.chart j.history books j.day n) r.entries st.any_moment) in
        let crash : M i.chart i.day i.entries = subst (λ (d : Day). M i.chart d i.entries) r.day
        (subst (λ (n : ℕ). M i.chart j.day n) r.entries (subst (λ (c : Chart). M c j.day j.entries) r.books.chart_is here)) in
        record {
          books = books;
          entered = pays;
          more = left.0;
          one_clerk = legal_fold j.chart j.history st.added j.day st.journal.legal.rules (λ k e at. (get_all (IsEnteredOn j.day (pays_of j)) st.added k e st.each at).day_is) ∙ one_fold pays;
          of_file = inr (j.cut, of_file, of_asked pays (of_pays j.day (pays_of j) st.added st.each));
          moments = left.1;
          crash = crash;
          last = last_leaves disk old.disk new.disk i.chart i.history books left.0 i.day i.entries counts sure left.2 kept.sound crash left.1;
          answers = λ some. absurd (true≢false (sym some ∙ silent));
        }

  -- none was entered
  entered_none : KeepsAll disk old.disk new.disk i.chart i.history → writes s ≡ false → RunPromise sink disk old new s i
  entered_none kept silent = record {
    books = i.history;
    entered = [];
    more = [];
    one_clerk = refl;
    of_file = inl refl;
    crash = inl kept.kept;
    moments = λ image left. inl (record { history = i.history; goes_on = whole_front i.history; begins = whole_front i.history; stands = kept.moments image left });
    last = λ image now. inl (kept.kept.crash image now);
    answers = λ some. absurd (true≢false (sym some ∙ silent));
  }

module _ {S K D : Type 0} (source : sources.Ghosts S) (sink : sinks.Ghosts K) (disk : disks.Ghosts D) (old new : Room S K D) (s : Status) (i : Inputs)
    (only : OnlyNow disk) (counts : CountsNow disk) (honest : disk.honest new.disk ≡ disk.honest old.disk) (told : Told source old.tables run_steps i)
    (messages : source.left old.messages ≡ Some i.messages) (kept : Keeps disk old.disk i.chart i.history) where
  sure : IsTrue (disk.honest new.disk)
  sure = subst IsTrue (sym honest) kept.told

  pub run_promise : Ends source disk (meaning_of (Run i.day i.workers i.entries)) old new sink s → RunPromise sink disk old new s i
  unfolding meaning_of run_report run_out
  run_promise ended =
      let m = run_meaning i.day i.workers i.entries in
      let j = ended.inputs in
      let passes = Passes source disk old new j in
      let reach = reached source sink disk old new s i j told kept ended.are_for.0 ended.are_for.2 in
      let whole = whole_file source sink disk old new s i j messages j.messages j.cut in
      elim (came source sink disk old new s m ended) [
        | inl done ↦
            let read = reach (walks_ahead passes Step.serve run_steps done.passed) in
            let answered = named_has passes Step.serve run_steps refl done.passed in
            let here = whole answered.0 in
            entered_all source sink disk old new s i j read here kept done.leaves.any_moment sure answered.1 done.leaves.journal done.leaves.entered
            (λ some. let all = finished source sink disk old new s m ended some in all_answered source sink disk old new s i j read here ended.are_for.1 answered.1 all.1 all.2)
        | inr halted ↦ elim (stops_somewhere source disk old new j s only run_steps refl halted.halts) [
          | inl unwritten ↦ entered_none source sink disk old new s i j (unwritten_keeps disk old.disk new.disk i.chart i.history honest unwritten kept) halted.silent
          | inr at ↦ elim at [
            | inl make ↦ absurd (true≢false (sym make.named))
            | inr written ↦ elim written [
              | inl serve ↦ elim serve.stops [
                | inl none ↦ entered_none source sink disk old new s i j (unwritten_keeps disk old.disk new.disk i.chart i.history honest none.unwritten kept) halted.silent
                | inr begun ↦ elim begun [
                  | inl in_file ↦
                      let early = subst (λ (t : Status). ends_early t ≡ true) (sym in_file.status_is) (file_early in_file.stop) in
                      entered_some source sink disk old new s i j (reach serve.ahead) (given_of source sink disk old new s i j messages early j.messages j.cut in_file.given) counts kept sure in_file.left halted.silent
                  | inr in_pays ↦ entered_some source sink disk old new s i j (reach serve.ahead) (inl (whole in_pays.file)) counts kept sure in_pays.left halted.silent
                ]
              ]
              | inr later ↦ elim later [
                | inl change ↦ absurd (true≢false (sym change.named))
                | inr last ↦ elim last [ inl back ↦ absurd (true≢false (sym back.named)) | inr taking ↦ absurd (true≢false (sym taking.named)) ]
              ]
            ]
          ]
        ]
      ]
