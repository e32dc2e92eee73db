-- The commands: which words spell them, and what each means.
use Rattle.std.specs.Prelude.{ℕ, ◌&&◌, nat_le, List, [], ◌∷◌, Option, Some, None, codes, option_and_then, if◌then◌else◌}
use Rattle.std.specs.Option.{option_map}
use Rattle.std.specs.Str.{bytes_eq}
use Rattle.corr_text.specs.Digits.{number_of}
use Rattle.corr_ids.specs.Bic.{bic_of}
use Rattle.corr_ids.specs.Day.{day_of}
use Rattle.day_model.specs.Log.{most_entries}
use Rattle.corr_report.specs.Generated.{most_generated}
use Rattle.ref_tables.specs.Columns.{signed_of}
use Rattle.jrn_book.specs.Batches.{most_batch}
use Rattle.work_pool.specs.Served.{most_workers}
use Rattle.corr_top.specs.declared.account_words.AccountChange.TheVariants.{Open, Limit}
use Rattle.corr_top.specs.declared.owners.Owners.{Owners}
use Rattle.corr_top.specs.declared.owners.Owners.TheVariants.{Banks, Customers}
use Rattle.corr_top.specs.declared.words.Command.{Command}
use Rattle.corr_top.specs.declared.words.Command.TheVariants.{Return, Run, Trial, Plain}
use Rattle.corr_top.specs.declared.words.Plain.{Plain as PlainCommand}
use Rattle.corr_top.specs.declared.words.Plain.TheVariants.{Change, Follow, Init, Query, Reconcile, Generate, Mend, Migrate, Check, Page}
use Rattle.corr_top.specs.declared.words.Query.TheVariants.{Balances, Send, Ship, Bookings, Statements, Entries}
use Rattle.corr_top.specs.Change.{change_meaning}
use Rattle.corr_top.specs.Follow.{follow_meaning}
use Rattle.corr_top.specs.Check.{check_meaning}
use Rattle.corr_top.specs.Generate.{generate_meaning}
use Rattle.corr_top.specs.Init.{init_meaning}
use Rattle.corr_top.specs.Meaning.{Meaning}
use Rattle.corr_top.specs.Mend.{mend_meaning}
use Rattle.corr_top.specs.Migrate.{migrate_meaning}
use Rattle.corr_top.specs.Page.{page_meaning}
use Rattle.corr_top.specs.Query.{query_meaning}
use Rattle.corr_top.specs.Reconcile.{reconcile_meaning}
use Rattle.corr_top.specs.Return.{return_meaning}
use Rattle.corr_top.specs.Run.{run_meaning}
use Rattle.corr_top.specs.Ship.{most_shipped}
use Rattle.corr_top.specs.Trial.{trial_meaning}

-- two numbers from 1 to the most, the second not before the first
abbrev pub two_numbers : ℕ → List ℕ → List ℕ → Option (ℕ × ℕ)
two_numbers most from until =
    option_and_then (λ first. option_and_then (λ last. if nat_le 1 first && nat_le first last && nat_le last most then Some (first, last) else None) (number_of until)) (number_of from)

-- two places of a journal, the second not before the first
abbrev pub two_places : List ℕ → List ℕ → Option (ℕ × ℕ)
two_places from until = two_numbers most_entries from until

-- a number of workers
abbrev pub workers_of : List ℕ → Option ℕ
workers_of number = option_and_then (λ n. if nat_le 1 n && nat_le n most_workers then Some n else None) (number_of number)

-- `run DATE WORKERS` with a day of the calendar and 1 to 16 workers: one entry comes under one sync
abbrev pub run_command : List ℕ → List ℕ → Option Command
run_command date workers = option_and_then (λ day. option_map (λ n. Run day n 1) (workers_of workers)) (day_of date)

-- a number of entries under one sync
abbrev pub batch_of : List ℕ → Option ℕ
batch_of number = option_and_then (λ n. if nat_le 1 n && nat_le n most_batch then Some n else None) (number_of number)

-- `batch DATE WORKERS ENTRIES` with these and 1 to 1,024 entries under one sync
abbrev pub batch_command : List ℕ → List ℕ → List ℕ → Option Command
batch_command date workers entries =
    option_and_then (λ day. option_and_then (λ n. option_map (λ most. Run day n most) (batch_of entries)) (workers_of workers)) (day_of date)

-- a place of a journal
abbrev pub place_of : List ℕ → Option ℕ
place_of number = option_and_then (λ n. if nat_le 1 n && nat_le n most_entries then Some n else None) (number_of number)

-- `return PLACE DATE` with a place and a day of the calendar
abbrev pub return_command : List ℕ → List ℕ → Option Command
return_command place date = option_and_then (λ n. option_map (λ day. Return n day) (day_of date)) (place_of place)

-- `init HOME` with a BIC
abbrev pub init_of : List ℕ → Option PlainCommand
init_of home = option_map Init (bic_of home)

-- `check HOME` with a BIC
abbrev pub check_of : List ℕ → Option PlainCommand
check_of home = option_map Check (bic_of home)

-- `statements DATE` and `customer-statements DATE` with a day of the calendar
abbrev pub statements_of : Owners → List ℕ → Option PlainCommand
statements_of owners date = option_map (λ day. Query (Statements owners day)) (day_of date)

-- `balances DATE` with a day of the calendar
abbrev pub balances_of : List ℕ → Option PlainCommand
balances_of date = option_map (λ day. Query (Balances (Some day))) (day_of date)

-- `entries FROM UNTIL` with two days of the calendar
abbrev pub entries_of : List ℕ → List ℕ → Option PlainCommand
entries_of from until = option_and_then (λ first. option_map (λ last. Query (Entries first last)) (day_of until)) (day_of from)

-- `page DATE` with a day of the calendar
abbrev pub page_command : List ℕ → Option PlainCommand
page_command date = option_map (λ day. Page day) (day_of date)

-- a number of messages of a generated day
abbrev pub count_of : List ℕ → Option ℕ
count_of number = option_and_then (λ n. if nat_le 1 n && nat_le n most_generated then Some n else None) (number_of number)

-- `generate COUNT SEED` with 1 to 50,000 messages and any number
abbrev pub generate_of : List ℕ → List ℕ → Option PlainCommand
generate_of messages seed = option_and_then (λ count. option_map (λ n. Generate count n) (number_of seed)) (count_of messages)

-- `trial COUNT SEED WORKERS` with these and 1 to 16 workers
abbrev pub trial_of : List ℕ → List ℕ → List ℕ → Option Command
trial_of messages seed workers =
    option_and_then (λ count. option_and_then (λ n. option_map (λ w. Trial count n w) (workers_of workers)) (number_of seed)) (count_of messages)

-- `send FROM UNTIL` with two places
abbrev pub send_of : List ℕ → List ℕ → Option PlainCommand
send_of from until = option_map (λ places. Query (Send places.0 places.1)) (two_places from until)

-- `ship FROM UNTIL` with two numbers of records
abbrev pub ship_of : List ℕ → List ℕ → Option PlainCommand
ship_of from until = option_map (λ numbers. Query (Ship numbers.0 numbers.1)) (two_numbers most_shipped from until)

-- `mend FROM UNTIL` with two places
abbrev pub mend_of : List ℕ → List ℕ → Option PlainCommand
mend_of from until = option_map (λ places. Mend places.0 places.1) (two_places from until)

-- `set-limits ID FLOOR CEIL` with any word and two signed numbers
abbrev pub limits_of : List ℕ → List ℕ → List ℕ → Option PlainCommand
limits_of id floor ceil = option_and_then (λ least. option_map (λ most. Change (Limit id (record { floor = least; ceil = most }))) (signed_of ceil)) (signed_of floor)

-- the words of a command; other words are none
abbrev pub command_of : List (List ℕ) → Option Command
command_of [] = None
command_of (word ∷ []) =
    if bytes_eq word (codes "bookings") then Some (Plain (Query Bookings))
    else if bytes_eq word (codes "balances") then Some (Plain (Query (Balances None)))
    else if bytes_eq word (codes "reconcile") then Some (Plain Reconcile)
    else if bytes_eq word (codes "migrate") then Some (Plain Migrate)
    else if bytes_eq word (codes "follow") then Some (Plain Follow)
    else None
command_of (word ∷ one ∷ []) =
    if bytes_eq word (codes "init") then option_map Plain (init_of one)
    else if bytes_eq word (codes "check") then option_map Plain (check_of one)
    else if bytes_eq word (codes "statements") then option_map Plain (statements_of Banks one)
    else if bytes_eq word (codes "customer-statements") then option_map Plain (statements_of Customers one)
    else if bytes_eq word (codes "balances") then option_map Plain (balances_of one)
    else if bytes_eq word (codes "page") then option_map Plain (page_command one)
    else None
command_of (word ∷ one ∷ two ∷ []) =
    if bytes_eq word (codes "send") then option_map Plain (send_of one two)
    else if bytes_eq word (codes "entries") then option_map Plain (entries_of one two)
    else if bytes_eq word (codes "ship") then option_map Plain (ship_of one two)
    else if bytes_eq word (codes "run") then run_command one two
    else if bytes_eq word (codes "generate") then option_map Plain (generate_of one two)
    else if bytes_eq word (codes "mend") then option_map Plain (mend_of one two)
    else if bytes_eq word (codes "return") then return_command one two
    else None
command_of (word ∷ one ∷ two ∷ three ∷ []) =
    if bytes_eq word (codes "trial") then trial_of one two three
    else if bytes_eq word (codes "batch") then batch_command one two three
    else if bytes_eq word (codes "set-limits") then option_map Plain (limits_of one two three)
    else None
command_of (word ∷ one ∷ two ∷ three ∷ four ∷ []) = None
command_of (word ∷ one ∷ two ∷ three ∷ four ∷ five ∷ []) = None
command_of (word ∷ id ∷ kind ∷ owner ∷ ccy ∷ floor ∷ ceil ∷ []) =
    if bytes_eq word (codes "open-account")
    then Some (Plain (Change (Open (record { id = id; kind = kind; owner = owner; ccy = ccy; floor = floor; ceil = ceil }))))
    else None
command_of (word ∷ one ∷ two ∷ three ∷ four ∷ five ∷ six ∷ seven ∷ more) = None

-- a command that waits for nobody
abbrev pub plain_in : Command → Option PlainCommand
plain_in (Run day workers entries) = None
plain_in (Trial count seed workers) = None
plain_in (Return place day) = None
plain_in (Plain command) = Some command

-- the words of such a command
abbrev pub plain_of : List (List ℕ) → Option PlainCommand
plain_of words = option_and_then plain_in (command_of words)

-- what each command means
unfoldable pub meaning_of : Command → Meaning
meaning_of (Run day workers entries) = run_meaning day workers entries
meaning_of (Trial count seed workers) = trial_meaning count seed
meaning_of (Return place day) = return_meaning place day
meaning_of (Plain (Init home)) = init_meaning home
meaning_of (Plain (Query asked)) = query_meaning asked
meaning_of (Plain Reconcile) = reconcile_meaning
meaning_of (Plain (Check home)) = check_meaning home
meaning_of (Plain (Generate count seed)) = generate_meaning count seed
meaning_of (Plain (Change change)) = change_meaning change
meaning_of (Plain (Mend from until)) = mend_meaning from until
meaning_of (Plain Migrate) = migrate_meaning
meaning_of (Plain Follow) = follow_meaning
meaning_of (Plain (Page day)) = page_meaning day
