-- What is proved of the promise.
use Rattle.std.proofs.Common.{◌≡◌, Option, IfSome, subst}
use Rattle.std.proofs.lemmas.Option.{IfSome_then}
use Rattle.corr_disk.specs.declared.disk.Disk as disks
use Rattle.corr_io.specs.declared.sink.Sink as sinks
use Rattle.corr_io.specs.declared.source.Source as sources
use Rattle.desk_rows.proofs.laws.Cancelling.{balances_cancel_until}
use Rattle.corr_top.specs.Commands.{meaning_of}
use Rattle.corr_top.specs.Ends.{Ends}
use Rattle.corr_top.specs.declared.room.Room.{Room}
use Rattle.corr_top.specs.declared.status.Status.{Status}
use Rattle.corr_top.specs.declared.words.Command.{Command}
use Rattle.corr_top.specs.declared.words.Query.TheVariants.{Balances, Bookings, Send, Ship, Statements, Entries}
use Rattle.corr_top.specs.Promise.{Promises}
use Rattle.corr_top.proofs.promise.Changing.{change_promise}
use Rattle.corr_top.proofs.promise.Finished.{generate_promise, query_promise, silent, trial_promise}
use Rattle.corr_top.proofs.promise.Following.{follow_promise}
use Rattle.corr_top.proofs.promise.Kept.{all_keep}
use Rattle.corr_top.proofs.promise.Last.{CountsNow}
use Rattle.corr_top.proofs.promise.Making.{made_promise}
use Rattle.corr_top.proofs.promise.Mending.{mend_promise}
use Rattle.corr_top.proofs.promise.Migrating.{migrate_promise}
use Rattle.corr_top.proofs.promise.Promising.{check_promise, init_promise, reconcile_promise}
use Rattle.corr_top.proofs.promise.Paged.{page_promise}
use Rattle.corr_top.proofs.promise.Returning.{return_promise}
use Rattle.corr_top.proofs.promise.Running.{run_promise}
use Rattle.corr_top.proofs.promise.Untouched.{OnlyNow}

pub promised : {S K D : Type 0} (source : sources.Ghosts S) (sink : sinks.Ghosts K) (disk : disks.Ghosts D) (command : Command) (old new : Room S K D) (s : Status)
    → OnlyNow disk → CountsNow disk → disk.honest new.disk ≡ disk.honest old.disk → Ends source disk (meaning_of command) old new sink s
    → Promises source sink disk old new s command
promised source sink disk command old new s only counts honest ended =
    let of : (c : Command) → command ≡ c → Ends source disk (meaning_of c) old new sink s = λ c is. subst (λ (x : Command). Ends source disk (meaning_of x) old new sink s) is ended in
    record {
      keeps = λ chart books kept no_run no_change no_return no_follow. let all = all_keep source sink disk old new s chart books only honest kept command ended no_run no_change no_return no_follow in (all.kept, all.moments);
      run = λ i is told messages kept. run_promise source sink disk old new s i only counts honest told messages kept (of _ is);
      returned = λ i is kept. return_promise source sink disk old new s i only counts honest kept (of _ is);
      change = λ i is told kept. change_promise source sink disk old new s i only honest kept (of _ is) told;
      migrate = λ is. migrate_promise source sink disk old new s only (of _ is);
      follow = λ is. follow_promise source sink disk old new s honest (of _ is);
      init = λ i is told sure some. init_promise source sink disk old new s i honest (of _ is) told sure some;
      made_or_not = λ i is told sure alone unmade. made_promise source sink disk old new s i only (of _ is) told sure alone unmade;
      statements = λ owners day chart books is kept some. query_promise source sink disk old new s (Statements owners day) chart books (of _ is) kept some;
      send = λ from until chart books is kept some. (query_promise source sink disk old new s (Send from until) chart books (of _ is) kept some).0;
      ship = λ from until chart books is kept some. (query_promise source sink disk old new s (Ship from until) chart books (of _ is) kept some).0;
      mend = λ from until file chart books is told kept some. mend_promise source sink disk old new s from until file chart books (of _ is) told kept some;
      bookings = λ chart books is kept some. (query_promise source sink disk old new s Bookings chart books (of _ is) kept some).0;
      balances = λ until chart books is kept some. ((query_promise source sink disk old new s (Balances until) chart books (of _ is) kept some).0, balances_cancel_until chart books until kept.sound.journal.book kept.sound.journal.legal);
      entries = λ from until chart books is kept some. (query_promise source sink disk old new s (Entries from until) chart books (of _ is) kept some).0;
      generate = λ count seed is some. generate_promise source sink disk old new s count seed (of _ is) some;
      trial = λ count seed workers is some. trial_promise source sink disk old new s count seed workers (of _ is) some;
      reconcile = λ i is told received kept some. reconcile_promise source sink disk old new s i (of _ is) told received kept some;
      check = λ i is told messages some. check_promise source sink disk old new s i (of _ is) told messages some;
      page = λ i is told messages kept some. page_promise source sink disk old new s i (of _ is) told messages kept some;
      silent = silent source sink disk old new s (meaning_of command) ended;
    }

-- the same where the words may name no command
pub promised_if : {S K D X : Type 0} (source : sources.Ghosts S) (sink : sinks.Ghosts K) (disk : disks.Ghosts D) (make : X → Command) (named : Option X) (old new : Room S K D) (s : Status)
    → OnlyNow disk → CountsNow disk → disk.honest new.disk ≡ disk.honest old.disk
    → IfSome named (λ x. Ends source disk (meaning_of (make x)) old new sink s) → IfSome named (λ x. Promises source sink disk old new s (make x))
promised_if source sink disk make named old new s only counts honest ended = IfSome_then named ended (λ x is. promised source sink disk (make x) old new s only counts honest is)
