-- The commands: which words spell them, and what each means.
use Rattle.std.specs.Prelude.{◌≤◌}
use Rattle.corr_ids.specs.Bic.{IsBic}
use Rattle.corr_ids.specs.Day.{InCentury}
use Rattle.day_model.specs.Log.{most_entries}
use Rattle.corr_report.specs.Generated.{most_generated}
use Rattle.jrn_book.specs.Batches.{most_batch}
use Rattle.work_pool.specs.Served.{most_workers}
use Rattle.corr_top.specs.declared.words.Command.{Command}
use Rattle.corr_top.specs.declared.words.Command.TheVariants.{Return, Run, Trial, Plain}
use Rattle.corr_top.specs.declared.words.Plain.TheVariants.{Change, Follow, Init, Query, Reconcile, Generate, Mend, Migrate, Check, Page}
use Rattle.corr_top.specs.declared.words.Query.TheVariants.{Balances, Send, Ship, Bookings, Statements, Entries}
use Rattle.corr_top.specs.Ship.{most_shipped}

-- what the words name is in its range: days of 1980 to 2079, 1 to 16 workers, 1 to 1,024 entries, a BIC, two places, two numbers of
-- records, 1 to 50,000 messages
abbrev pub IsSpelled : Command → Type 0
IsSpelled (Run day workers entries) = InCentury day × (1 ≤ workers) × (workers ≤ most_workers) × (1 ≤ entries) × (entries ≤ most_batch)
IsSpelled (Trial count seed workers) = (1 ≤ count) × (count ≤ most_generated) × (1 ≤ workers) × (workers ≤ most_workers)
IsSpelled (Return place day) = (1 ≤ place) × (place ≤ most_entries) × InCentury day
IsSpelled (Plain (Init home)) = IsBic home
IsSpelled (Plain (Check home)) = IsBic home
IsSpelled (Plain (Query (Send from until))) = (1 ≤ from) × (from ≤ until) × (until ≤ most_entries)
IsSpelled (Plain (Query (Ship from until))) = (1 ≤ from) × (from ≤ until) × (until ≤ most_shipped)
IsSpelled (Plain (Query Bookings)) = Unit {0}
IsSpelled (Plain (Query (Balances until))) = Unit {0}
IsSpelled (Plain (Query (Entries from until))) = Unit {0}
IsSpelled (Plain (Query (Statements owners day))) = InCentury day
IsSpelled (Plain Reconcile) = Unit {0}
IsSpelled (Plain (Generate count seed)) = (1 ≤ count) × (count ≤ most_generated)
IsSpelled (Plain (Change change)) = Unit {0}
IsSpelled (Plain (Mend from until)) = (1 ≤ from) × (from ≤ until) × (until ≤ most_entries)
IsSpelled (Plain Migrate) = Unit {0}
IsSpelled (Plain Follow) = Unit {0}
IsSpelled (Plain (Page day)) = InCentury day
