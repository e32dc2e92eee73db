-- What a bank may rely on, a field a command, over sources and a disk that tell their bytes. All of it follows from `Ends`. What a field
-- says in detail is in the file of promises/ that it is taken from. Beside the words that docs/guarantees names, these are looked up where
-- they stand, by whoever asks for their command, for the form of bytes, or for what a row of a table says:
--   the journal's bytes: `all_records` its records, the header first; `file_of` the whole file; `HasBytes` what has a record; `StandsForAll` bytes that
--     stand for records
--   `run`, `batch`: `ShowWhole` the first messages of a file, which the bytes that were read show to be whole
--   tables: `tables_of`, `charge_in_row`: what rows say of banks, currencies, countries and charges
--   `statements`: `lines_on` the lines of a day on an account; `PagesAreAccepted`, `PagesReadBack` pages that pass the tests of a sent message, or are read back
--   `return`: `MayReturn` the payment of a place, and its return, which may be made; `HoldsReturn` tables that hold what it says; `booked_from` its
--     line; `IsNotTakenBack` the first reason against it
--   `open-account`, `set-limits`: `what_of` the change that was asked; `IsLegalChange` when accounts may change so; `IsRefusedFor` the first reason against it
--   `ship`, `follow`: `shipped_out` packets of records; `ComesNext` which record may stand next; `follow_line` the line of numbers
--   `reconcile`: `IsReceived` what a received statement may be; `break_report` its report
--   `check`, `page`, `entries`, `trial`: `check_lines` the lines; `day_page` the page; `entry_rows` the rows; `trial_history` what one clerk makes of the day
use Rattle.std.specs.Prelude.{ℕ, ◌≡◌, ◌⊎◌, true, false, IsTrue, List, [], take, Option, Some}
use Rattle.corr_disk.specs.Disk.{Only}
use Rattle.corr_disk.specs.declared.disk.Disk as disks
use Rattle.corr_io.specs.declared.sink.Sink as sinks
use Rattle.corr_io.specs.declared.source.Source as sources
use Rattle.corr_ids.specs.declared.day.Day.{Day}
use Rattle.corr_report.specs.Bookings.{bookings_of}
use Rattle.corr_report.specs.Generated.{generated_of}
use Rattle.day_model.specs.Chart.{Chart}
use Rattle.day_model.specs.Laws.{BalancesCancel}
use Rattle.day_model.specs.declared.entry.Entry.{Entry}
use Rattle.desk_rows.specs.Balances.{balance_rows}
use Rattle.desk_rows.specs.Entries.{entry_rows}
use Rattle.desk_rows.specs.Until.{entries_until}
use Rattle.jrn_book.specs.Journal.{StandsForBook}
use Rattle.jrn_file.specs.Making.{IsUnmade}
use Rattle.out_file.specs.Mended.{mended_of}
use Rattle.corr_top.specs.declared.account_words.AccountChange.{AccountChange}
use Rattle.corr_top.specs.declared.owners.Owners.{Owners}
use Rattle.corr_top.specs.declared.room.Room.{Room}
use Rattle.corr_top.specs.declared.status.Status.{Status}
use Rattle.corr_top.specs.declared.words.Command.{Command}
use Rattle.corr_top.specs.declared.words.Command.TheVariants.{Run, Trial, Plain, Return}
use Rattle.corr_top.specs.declared.words.Plain.TheVariants.{Change, Check, Follow, Generate, Init, Mend, Migrate, Page, Query, Reconcile}
use Rattle.corr_top.specs.declared.words.Query.TheVariants.{Balances, Bookings, Entries, Send, Ship, Statements}
use Rattle.corr_top.specs.Change.{change_steps}
use Rattle.corr_top.specs.Check.{check_steps}
use Rattle.corr_top.specs.Init.{init_steps}
use Rattle.corr_top.specs.Inputs.{Inputs, chart_in}
use Rattle.corr_top.specs.Out.{sent_from}
use Rattle.corr_top.specs.Page.{page_steps}
use Rattle.corr_top.specs.Reconcile.{reconcile_steps}
use Rattle.corr_top.specs.Run.{run_steps}
use Rattle.corr_top.specs.Ship.{shipped_out}
use Rattle.corr_top.specs.Statements.{AreStatements, sent_statements}
use Rattle.corr_top.specs.Trial.{BooksEach, trial_report}
use Rattle.corr_top.specs.promises.Accounts.{ChangePromise, MigratePromise}
use Rattle.corr_top.specs.promises.Books.{AtEachMoment, Keeps, Told, Wrote, writes}
use Rattle.corr_top.specs.promises.Desk.{CheckPromise, PagePromise}
use Rattle.corr_top.specs.promises.Reconciling.{ReconcilePromise}
use Rattle.corr_top.specs.promises.Returns.{ReturnPromise}
use Rattle.corr_top.specs.promises.Runs.{RunPromise}
use Rattle.corr_top.specs.promises.Standby.{FollowPromise}

module _ {S K D : Type 0} (source : sources.Ghosts S) (sink : sinks.Ghosts K) (disk : disks.Ghosts D) (old new : Room S K D) (s : Status) where
  -- what a bank may rely on after a command, by its status and by what stood before it and stands after it
  pub record Promises (command : Command) : Type 0 where
    -- however it ends, the books on the disk stay, at each moment; `run`, `batch`, `return` and `follow` alone add to them, changes of accounts change
    -- the accounts alone, and `init` makes none over others
    pub keeps : (chart : Chart) (books : List Entry) → Keeps disk old.disk chart books → ((day : Day) (n entries : ℕ) → command ≡ Run day n entries → ⊥)
        → ((change : AccountChange) → command ≡ Plain (Change change) → ⊥) → ((place : ℕ) (day : Day) → command ≡ Return place day → ⊥) → (command ≡ Plain Follow → ⊥)
        → Keeps disk new.disk chart books × AtEachMoment disk old.disk new.disk (λ image. StandsForBook image chart books)
    -- at any other status than done and a fault of writing nothing is printed or sent
    pub silent : writes s ≡ false → (new.report ≡ old.report) × (new.out ≡ old.out)
    -- `run` and `batch`: the books are one clerk's; each message is answered, each pay entered once, and what is sent is valid
    pub run : (i : Inputs) → command ≡ Run i.day i.workers i.entries → Told source old.tables run_steps i → source.left old.messages ≡ Some i.messages
        → Keeps disk old.disk i.chart i.history → RunPromise sink disk old new s i
    -- `return`: a payment is taken back whole, or the books stay and the reason is told
    pub returned : (i : Inputs) → command ≡ Return i.place i.day → Keeps disk old.disk i.chart i.history → ReturnPromise sink disk old new s i
    -- `init`: where something was written the new books stand on the disk; however it ends, a crash leaves nothing made or the new books
    pub init : (i : Inputs) → command ≡ Plain (Init i.home) → Told source old.tables init_steps i → IsTrue (disk.honest old.disk) → writes s ≡ true
        → Keeps disk new.disk (chart_in i) []
    pub made_or_not : (i : Inputs) → command ≡ Plain (Init i.home) → Told source old.tables init_steps i → IsTrue (disk.honest old.disk)
        → Only (disk.reads old.disk) (disk.may_leave old.disk) → IsUnmade (disk.reads old.disk)
        → AtEachMoment disk old.disk new.disk (λ image. IsUnmade image ⊎ StandsForBook image (chart_in i) [])
    -- `open-account`, `set-limits`: the accounts change so and the books stay, or the reason against it is told
    pub change : (i : Inputs) → command ≡ Plain (Change i.change) → Told source old.tables (change_steps i.change) i → Keeps disk old.disk i.chart i.history
        → ChangePromise source disk old new s i
    -- `migrate`: a journal of version 1 is carried over whole, or not at all
    pub migrate : command ≡ Plain Migrate → MigratePromise source disk old new s
    -- `follow`: the packets are taken in their order, up to the first that is refused
    pub follow : command ≡ Plain Follow → FollowPromise source sink disk old new s
    -- `statements`: the pages of these owners' accounts: they close at the balances, and are accepted and read back, a customer's with its notes
    pub statements : (owners : Owners) (day : Day) (chart : Chart) (books : List Entry) → command ≡ Plain (Query (Statements owners day)) → Keeps disk old.disk chart books
        → writes s ≡ true → Wrote sink old new s [] (sent_statements owners chart books day) × AreStatements owners chart books day
    -- `send`: the messages of the entries at these places
    pub send : (from until : ℕ) (chart : Chart) (books : List Entry) → command ≡ Plain (Query (Send from until)) → Keeps disk old.disk chart books
        → writes s ≡ true → Wrote sink old new s [] (sent_from chart from (take until books))
    -- `ship`: the packets of the records with these numbers, header first, that there are
    pub ship : (from until : ℕ) (chart : Chart) (books : List Entry) → command ≡ Plain (Query (Ship from until)) → Keeps disk old.disk chart books
        → writes s ≡ true → Wrote sink old new s [] (shipped_out from until chart books)
    -- `mend`: the whole messages of the file of messages that leave as they stand, then those of the entries at these places that don't stand whole in it
    pub mend : (from until : ℕ) (file : List ℕ) (chart : Chart) (books : List Entry) → command ≡ Plain (Mend from until) → source.left old.sent ≡ Some file
        → Keeps disk old.disk chart books → writes s ≡ true → Wrote sink old new s (mended_of file (sent_from chart from (take until books))) []
    -- `bookings`: a line for each entry
    pub bookings : (chart : Chart) (books : List Entry) → command ≡ Plain (Query Bookings) → Keeps disk old.disk chart books → writes s ≡ true
        → Wrote sink old new s (bookings_of chart books) []
    -- `balances`: a row for each account, with the balance by the model; the balances of a currency sum to 0
    pub balances : (until : Option Day) (chart : Chart) (books : List Entry) → command ≡ Plain (Query (Balances until)) → Keeps disk old.disk chart books
        → writes s ≡ true → Wrote sink old new s (balance_rows chart (entries_until until books)) [] × BalancesCancel chart (entries_until until books)
    -- `entries`: a row for each entry of the days, exactly
    pub entries : (from until : Day) (chart : Chart) (books : List Entry) → command ≡ Plain (Query (Entries from until)) → Keeps disk old.disk chart books
        → writes s ≡ true → Wrote sink old new s (entry_rows chart from until books) []
    -- `reconcile`: received statements are compared with the books, line by line
    pub reconcile : (i : Inputs) → command ≡ Plain Reconcile → Told source old.tables reconcile_steps i → source.left old.received ≡ Some i.messages
        → Keeps disk old.disk i.chart i.history → writes s ≡ true → ReconcilePromise sink old new s i
    -- `check`: a line for each message, by the verdict on it
    pub check : (i : Inputs) → command ≡ Plain (Check i.home) → Told source old.tables check_steps i → source.left old.messages ≡ Some i.messages → writes s ≡ true
        → CheckPromise sink old new s i
    -- `page`: the page of a day, of a message file and the books
    pub page : (i : Inputs) → command ≡ Plain (Page i.day) → Told source old.tables page_steps i → source.left old.messages ≡ Some i.messages
        → Keeps disk old.disk i.chart i.history → writes s ≡ true → PagePromise sink old new s i
    -- `generate` and `trial`: a made-up day of messages; and what one clerk makes of it, whatever the number of workers, where each is booked
    pub generate : (count seed : ℕ) → command ≡ Plain (Generate count seed) → writes s ≡ true → Wrote sink old new s [] (generated_of count seed)
    pub trial : (count seed workers : ℕ) → command ≡ Trial count seed workers → writes s ≡ true
        → Wrote sink old new s (trial_report count seed) [] × BooksEach count seed
