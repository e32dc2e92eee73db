-- The books on a disk stay, whatever the command, but `run`, `return` and changes of accounts.
use Rattle.std.proofs.Common.{◌≡◌, ℕ, List, true, false, inl, inr, refl, sym}
use mathlib.Core.Bool.{true≢false}
use Rattle.corr_disk.specs.declared.disk.Disk as disks
use Rattle.corr_ids.specs.declared.bic.Bic.{Bic}
use Rattle.corr_ids.specs.declared.day.Day.{Day}
use Rattle.corr_io.specs.declared.sink.Sink as sinks
use Rattle.corr_io.specs.declared.source.Source as sources
use Rattle.day_model.specs.Chart.{Chart}
use Rattle.day_model.specs.declared.entry.Entry.{Entry}
use Rattle.jrn_book.specs.Journal.{item_records}
use Rattle.jrn_codec.specs.Header.{head_bytes}
use Rattle.corr_top.specs.Commands.{meaning_of}
use Rattle.corr_top.specs.Ends.{Ends, HasPassed}
use Rattle.corr_top.specs.Init.{init_meaning, init_steps}
use Rattle.corr_top.specs.Meaning.{Meaning}
use Rattle.corr_top.specs.OnDisk.{IsMakeable, IsUnwritten}
use Rattle.corr_top.specs.Passing.{Passes}
use Rattle.corr_top.specs.Steps.{Step}
use Rattle.corr_top.specs.declared.account_words.AccountChange.{AccountChange}
use Rattle.corr_top.specs.declared.room.Room.{Room}
use Rattle.corr_top.specs.declared.status.Status.{Status}
use Rattle.corr_top.specs.declared.words.Command.{Command}
use Rattle.corr_top.specs.declared.words.Command.TheVariants.{Run, Trial, Plain, Return}
use Rattle.corr_top.specs.declared.words.Plain.TheVariants.{Change, Follow, Generate, Init, Mend, Migrate, Query, Reconcile, Check, Page}
use Rattle.corr_top.specs.promises.Books.{Keeps}
use Rattle.corr_top.proofs.Journals.{same_unwritten}
use Rattle.corr_top.proofs.Walking.{is_named, named_has}
use Rattle.corr_top.proofs.promise.Finished.{came}
use Rattle.corr_top.proofs.promise.Standing.{stands_other}
use Rattle.corr_top.proofs.promise.Untouched.{KeepsAll, OnlyNow, are_told, stops_somewhere, stops_unwritten, unwritten_keeps}

module _ {S K D : Type 0} (source : sources.Ghosts S) (sink : sinks.Ghosts K) (disk : disks.Ghosts D) (old new : Room S K D) (s : Status) (chart : Chart) (books : List Entry)
    (only : OnlyNow disk) (honest : disk.honest new.disk ≡ disk.honest old.disk) (kept : Keeps disk old.disk chart books) where
  by_unwritten : IsUnwritten disk old.disk new.disk → KeepsAll disk old.disk new.disk chart books
  by_unwritten unwritten = unwritten_keeps disk old.disk new.disk chart books honest unwritten kept

  -- a command that neither makes a journal, nor enters pays or a return, nor changes accounts, nor takes packets, and writes nothing where it comes to its end
  reads_only : (m : Meaning) (ended : Ends source disk m old new sink s) → (HasPassed source disk m old new ended.inputs → IsUnwritten disk old.disk new.disk)
      → are_told m.steps ≡ true → is_named Step.make m.steps ≡ false → is_named Step.serve m.steps ≡ false → is_named Step.change m.steps ≡ false → is_named Step.book_return m.steps ≡ false → is_named Step.take m.steps ≡ false → KeepsAll disk old.disk new.disk chart books
  reads_only m ended at_end told no_make no_book no_change no_return no_take = by_unwritten (elim (came source sink disk old new s m ended) [
    | inl passed ↦ at_end passed
    | inr halted ↦ stops_unwritten source disk old new ended.inputs s only m.steps told no_make no_book no_change no_return no_take halted.halts
  ])

  -- no journal may be made over these books
  unmakeable : IsMakeable disk old.disk → ⊥
  unmakeable free =
      let other = stands_other (disk.reads old.disk) (head_bytes chart) (item_records chart books) kept.reads in
      free kept.told other.0 other.1

  init_keeps : (home : Bic) → Ends source disk (init_meaning home) old new sink s → KeepsAll disk old.disk new.disk chart books
  init_keeps home ended = elim (came source sink disk old new s (init_meaning home) ended) [
    | inl passed ↦ absurd (unmakeable (named_has (Passes source disk old new ended.inputs) Step.make init_steps refl passed.passed))
    | inr halted ↦ elim (stops_somewhere source disk old new ended.inputs s only init_steps refl halted.halts) [
      | inl unwritten ↦ by_unwritten unwritten
      | inr at ↦ elim at [
        | inl make ↦
            let other = stands_other (disk.reads old.disk) (head_bytes chart) (item_records chart books) kept.reads in
            by_unwritten (make.stops.2.untouched other.0 kept.told other.1)
        | inr written ↦ elim written [
          | inl book ↦ absurd (true≢false (sym book.named))
          | inr later ↦ elim later [
            | inl change ↦ absurd (true≢false (sym change.named))
            | inr last ↦ elim last [ inl back ↦ absurd (true≢false (sym back.named)) | inr taking ↦ absurd (true≢false (sym taking.named)) ]
          ]
        ]
      ]
    ]
  ]

  same_disk : new.disk ≡ old.disk → IsUnwritten disk old.disk new.disk
  same_disk same = same_unwritten disk only old.disk new.disk same

  pub all_keep : (command : Command) → Ends source disk (meaning_of command) old new sink s → ((day : Day) (n entries : ℕ) → command ≡ Run day n entries → ⊥)
      → ((change : AccountChange) → command ≡ Plain (Change change) → ⊥) → ((place : ℕ) (day : Day) → command ≡ Return place day → ⊥) → (command ≡ Plain Follow → ⊥) → KeepsAll disk old.disk new.disk chart books
  unfolding meaning_of
  all_keep (Run day workers entries) ended no_run no_change no_return no_follow = absurd (no_run day workers entries refl)
  all_keep (Return place day) ended no_run no_change no_return no_follow = absurd (no_return place day refl)
  all_keep (Trial count seed workers) ended no_run no_change no_return no_follow = reads_only (meaning_of (Trial count seed workers)) ended (λ passed. same_disk passed.leaves) refl refl refl refl refl refl
  all_keep (Plain (Init home)) ended no_run no_change no_return no_follow = init_keeps home ended
  all_keep (Plain (Query asked)) ended no_run no_change no_return no_follow = reads_only (meaning_of (Plain (Query asked))) ended (λ passed. passed.leaves.unwritten) refl refl refl refl refl refl
  all_keep (Plain Reconcile) ended no_run no_change no_return no_follow = reads_only (meaning_of (Plain Reconcile)) ended (λ passed. passed.leaves.unwritten) refl refl refl refl refl refl
  all_keep (Plain (Check home)) ended no_run no_change no_return no_follow = reads_only (meaning_of (Plain (Check home))) ended (λ passed. same_disk passed.leaves) refl refl refl refl refl refl
  all_keep (Plain (Generate count seed)) ended no_run no_change no_return no_follow = reads_only (meaning_of (Plain (Generate count seed))) ended (λ passed. same_disk passed.leaves) refl refl refl refl refl refl
  all_keep (Plain (Change change)) ended no_run no_change no_return no_follow = absurd (no_change change refl)
  all_keep (Plain (Mend from until)) ended no_run no_change no_return no_follow = reads_only (meaning_of (Plain (Mend from until))) ended (λ passed. passed.leaves.unwritten) refl refl refl refl refl refl
  all_keep (Plain Migrate) ended no_run no_change no_return no_follow = reads_only (meaning_of (Plain Migrate)) ended (λ passed. passed.leaves.unwritten) refl refl refl refl refl refl
  all_keep (Plain Follow) ended no_run no_change no_return no_follow = absurd (no_follow refl)
  all_keep (Plain (Page day)) ended no_run no_change no_return no_follow = reads_only (meaning_of (Plain (Page day))) ended (λ passed. passed.leaves.unwritten) refl refl refl refl refl refl
