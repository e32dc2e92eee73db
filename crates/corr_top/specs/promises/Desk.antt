-- What `check` and `page` promise.
use Rattle.std.specs.Prelude.{ℕ, List, []}
use Rattle.corr_io.specs.declared.sink.Sink as sinks
use Rattle.corr_top.specs.declared.room.Room.{Room}
use Rattle.corr_top.specs.declared.status.Status.{Status}
use Rattle.corr_top.specs.Check.{check_lines}
use Rattle.corr_top.specs.Inputs.{Inputs, directory_in, tables_in}
use Rattle.corr_top.specs.MessageFile.{IsMessageFile}
use Rattle.corr_top.specs.Page.{day_page}
use Rattle.corr_top.specs.promises.Books.{Wrote}

module _ {S K D : Type 0} (sink : sinks.Ghosts K) (old new : Room S K D) (s : Status) where
  -- check: a line for each message of the file, by the verdict on it as one to the home bank
  pub record CheckPromise (i : Inputs) : Type 0 where
    pub cut : List (List ℕ)
    pub file : IsMessageFile i.messages cut
    pub wrote : Wrote sink old new s (check_lines i.home (tables_in i) cut) []

  -- page: the messages of the file, each by its verdict, its route and the entry under its reference in the journal as it is, and the
  -- books, on the page of the day. Of a payment that isn't entered it says that alone: not whether funds will suffice
  pub record PagePromise (i : Inputs) : Type 0 where
    pub cut : List (List ℕ)
    pub file : IsMessageFile i.messages cut
    pub wrote : Wrote sink old new s (day_page (directory_in i) i.chart i.history i.day cut) []
