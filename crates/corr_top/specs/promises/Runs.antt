-- What `run` and `batch` promise.
use Rattle.std.specs.Prelude.{ℕ, ◌≡◌, ◌⊎◌, ◌+◌, ◌≤◌, Bool, true, false, All, IsSome, List, [], length, map, take, Some, Result}
use Rattle.std.specs.List.{Contains}
use Rattle.corr_books.specs.Moments.{StandsBetween, StandsWithMore}
use Rattle.corr_disk.specs.declared.disk.Disk as disks
use Rattle.corr_io.specs.declared.sink.Sink as sinks
use Rattle.corr_report.specs.Report.{report_of}
use Rattle.corr_text.specs.Faults.{Rose}
use Rattle.day_model.specs.Next.{entered_at, fold_of}
use Rattle.day_model.specs.declared.entry.Entry.{Entry}
use Rattle.day_model.specs.declared.pay.Pay.{Pay}
use Rattle.day_model.specs.declared.reply.Reply.{Reply}
use Rattle.fin_frame.specs.Shown.{ShowWhole}
use Rattle.jrn_book.specs.Book.{IsLeftBy}
use Rattle.jrn_book.specs.Journal.{IsWithOrWithout}
use Rattle.corr_top.specs.declared.message.NoPay.{NoPay}
use Rattle.corr_top.specs.declared.room.Room.{Room}
use Rattle.corr_top.specs.declared.status.Status.{Status}
use Rattle.corr_top.specs.declared.status.Status.TheVariants.{Framing, Memory, ReadFault, TooLarge}
use Rattle.corr_top.specs.Inputs.{Inputs, directory_in, tables_in}
use Rattle.corr_top.specs.Message.{message_reply, pays_in, readings_of}
use Rattle.corr_top.specs.MessageFile.{IsMessageFile, most_message_bytes, most_messages}
use Rattle.corr_top.specs.OnDisk.{up_to}
use Rattle.corr_top.specs.Origin.{AreSentValid}
use Rattle.corr_top.specs.Out.{sent_from}
use Rattle.corr_top.specs.promises.Books.{AreBooks, AtEachMoment, Keeps, Wrote, writes}

-- what each message asks: a pay, by its verdict and its plan, or the name of what is wrong with it
abbrev pub asked : Inputs → List (List ℕ) → List (Result Pay NoPay)
asked i cut = readings_of (directory_in i) i.chart cut

-- the statuses at which a message file may have been served in part: its source failed, it passes a limit, it can't be cut, or memory ran out
abbrev pub ends_early : Status → Bool
ends_early (ReadFault before after) = true
ends_early (TooLarge bytes messages) = true
ends_early (Framing at) = true
ends_early Memory = true
ends_early _ = false

-- these are the messages of a file; or, at such a status, its first ones, which it shows to be whole within the bytes that one may have, and
-- one, and no more than one may have
abbrev pub AreOfFile : Status → List ℕ → List (List ℕ) → Type 0
AreOfFile s file cut = IsMessageFile file cut
    ⊎ ((ends_early s ≡ true) × (length cut ≤ most_messages) × ShowWhole (take (most_message_bytes + 1) file) cut)

module _ {S K D : Type 0} (sink : sinks.Ghosts K) (disk : disks.Ghosts D) (old new : Room S K D) (s : Status) where
  -- each message of the file has its reply, each pay its entry; one worker books in the file's order; what is sent is valid
  pub record AnswersAll (i : Inputs) (books : List Entry) : Type 0 where
    pub cut : List (List ℕ)
    pub file : IsMessageFile i.messages cut
    pub replies : List Reply
    pub each : map Some replies ≡ map (message_reply books) (asked i cut)
    pub once : (pay : Pay) → Contains (pays_in (asked i cut)) pay → IsSome (entered_at pay.mir books)
    pub alone : i.workers ≡ 1 → books ≡ fold_of i.chart i.history (pays_in (asked i cut)) i.day
    pub wrote : Wrote sink old new s (report_of i.chart books replies) (sent_from i.chart (length i.history + 1) books)
    pub valid : AreSentValid (tables_in i) i.chart (length i.history + 1) books

  -- whatever the status: the books are those of one clerk who entered pays of the file, one after another, or, where the file stops it, of
  -- the messages that stand whole ahead of the stop; a crash keeps them, or, after a fault, them or them and all of the legal entries that
  -- one call was writing, at most as many as the words name, which is one in `run`; at each moment it leaves the old books and a front part
  -- of what was entered, or, after a fault, all of it and legal entries of that day more, at most so many (`more`), the same ones whenever it
  -- comes, at the end too (`last`)
  pub record RunPromise (i : Inputs) : Type 0 where
    pub books : List Entry
    pub entered : List Pay
    pub more : List Entry
    pub one_clerk : books ≡ fold_of i.chart i.history entered i.day
    pub of_file : (entered ≡ []) ⊎ ((cut : List (List ℕ)) × AreOfFile s i.messages cut × All (Contains (pays_in (asked i cut))) entered)
    pub crash : Keeps disk new.disk i.chart books
        ⊎ (Rose (disk.faults old.disk) (disk.faults new.disk) × AreBooks i.chart books × IsLeftBy (disk.honest new.disk) (disk.may_leave new.disk) i.chart books (up_to i.entries i.day))
    pub moments : AtEachMoment disk old.disk new.disk (λ image. StandsBetween i.chart i.history books image
        ⊎ (Rose (disk.faults old.disk) (disk.faults new.disk) × StandsWithMore i.chart books i.day i.entries more image))
    pub last : (image : List ℕ) → disk.may_leave new.disk image → IsWithOrWithout i.chart books more image
    pub answers : writes s ≡ true → AnswersAll i books
