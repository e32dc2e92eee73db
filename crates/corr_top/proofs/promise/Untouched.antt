-- What a stop says of the disk, and that a disk to which nothing was written keeps its books.
use Rattle.std.proofs.Common.{◌≡◌, ◌⊎◌, ◌||◌, ◌&&◌, ℕ, List, [], ◌∷◌, Bool, true, false, IsTrue, inl, inr, refl, sym, ◌∙◌, subst}
use mathlib.Core.Bool.{true≢false}
use Rattle.std.specs.List.{list_any}
use Rattle.corr_disk.specs.declared.disk.Disk as disks
use Rattle.corr_io.specs.declared.source.Source as sources
use Rattle.day_model.specs.Chart.{Chart}
use Rattle.day_model.specs.declared.entry.Entry.{Entry}
use Rattle.jrn_book.specs.Journal.{StandsForBook}
use Rattle.corr_top.specs.Inputs.{Inputs}
use Rattle.corr_top.specs.OnDisk.{IsUnwritten}
use Rattle.corr_top.specs.Passing.{Passes, StepIsUntouched, StopsAt}
use Rattle.corr_top.specs.Steps.{Halts, Step, Walks}
use Rattle.corr_top.specs.declared.room.Room.{Room}
use Rattle.corr_top.specs.declared.status.Status.{Status}
use Rattle.corr_top.specs.promises.Books.{Keeps}
use Rattle.corr_top.proofs.Journals.{same_unwritten}
use Rattle.corr_top.proofs.Walking.{ahead_of, is_named, walks_more}

-- a disk keeps its books, at each moment too
pub record KeepsAll {D : Type 0} (disk : disks.Ghosts D) (old new : D) (chart : Chart) (books : List Entry) : Type 0 where
  pub kept : Keeps disk new chart books
  pub moments : (image : List ℕ) → disk.left_since new (disk.moment old) image → StandsForBook image chart books

-- a law of disks: since this moment there is no other
abbrev pub OnlyNow : {D : Type 0} → disks.Ghosts D → Type 0
OnlyNow {D = D} disk = (d : D) (c : List ℕ) → disk.left_since d (disk.moment d) c → disk.may_leave d c

-- a disk to which nothing was written keeps its books
pub unwritten_keeps : {D : Type 0} (disk : disks.Ghosts D) (old new : D) (chart : Chart) (books : List Entry)
    → disk.honest new ≡ disk.honest old → IsUnwritten disk old new → Keeps disk old chart books → KeepsAll disk old new chart books
unwritten_keeps disk old new chart books honest unwritten kept = record {
  kept = record {
    told = subst IsTrue (sym honest) kept.told;
    sound = kept.sound;
    reads = subst (λ bytes. StandsForBook bytes chart books) (sym unwritten.same) kept.reads;
    crash = λ image left. kept.crash image (unwritten.no_more image left);
  };
  moments = λ image left. kept.crash image (unwritten.any_moment.each image left);
}

-- ---- where a command stopped

-- a step that isn't reached says that the disk is as it was
abbrev leaves_disk : Step → Bool
leaves_disk Step.make = true
leaves_disk Step.open_journal = true
leaves_disk Step.serve = true
leaves_disk Step.change = true
leaves_disk Step.old_journal = true
leaves_disk Step.book_return = true
leaves_disk Step.begin = true
leaves_disk Step.take = true
leaves_disk Step.aside = true
leaves_disk _ = false

-- a stop at this step says itself what was done to the disk
abbrev tells_disk : Step → Bool
tells_disk Step.make = true
tells_disk Step.open_journal = true
tells_disk Step.serve = true
tells_disk Step.received = true
tells_disk Step.sent = true
tells_disk Step.change = true
tells_disk Step.old_journal = true
tells_disk Step.copy = true
tells_disk Step.book_return = true
tells_disk Step.begin = true
tells_disk Step.packets = true
tells_disk Step.take = true
tells_disk Step.aside = true
tells_disk _ = false

-- of each step, a stop there tells it, or a step after it does
abbrev pub are_told : List Step → Bool
are_told [] = true
are_told (step ∷ steps) = (tells_disk step || list_any leaves_disk steps) && are_told steps

both_true : (a b : Bool) → (a && b) ≡ true → (a ≡ true) × (b ≡ true)
both_true true b e = (refl, e)
both_true false b e = absurd (true≢false (sym e))

or_true : (a b : Bool) → b ≡ true → (a || b) ≡ true
or_true true b e = refl
or_true false b e = e

module _ {S K D : Type 0} (source : sources.Ghosts S) (disk : disks.Ghosts D) (old new : Room S K D) (i : Inputs) (s : Status) (only : OnlyNow disk) where
  -- it stopped at the first step of this name, and those ahead of it passed
  pub record StopsNamed (step : Step) (steps : List Step) : Type 0 where
    pub named : is_named step steps ≡ true
    pub stops : StopsAt source disk old new i s step
    pub ahead : Walks (Passes source disk old new i) (ahead_of step steps)

  -- nothing was written to the disk, or it stopped at the making of a journal, at the entering of pays, at a change of accounts, at
  -- the entering of a return, or at the taking of packets
  abbrev pub StopsSomewhere : List Step → Type 0
  StopsSomewhere steps = IsUnwritten disk old.disk new.disk ⊎ (StopsNamed Step.make steps ⊎ (StopsNamed Step.serve steps ⊎ (StopsNamed Step.change steps ⊎ (StopsNamed Step.book_return steps ⊎ StopsNamed Step.take steps))))

  unreached : (step : Step) → leaves_disk step ≡ true → StepIsUntouched disk old new step → IsUnwritten disk old.disk new.disk
  unreached Step.make told same = same_unwritten disk only old.disk new.disk same
  unreached Step.open_journal told same = same_unwritten disk only old.disk new.disk same
  unreached Step.serve told same = same.1
  unreached Step.change told unwritten = unwritten
  unreached Step.book_return told unwritten = unwritten
  unreached Step.begin told same = same_unwritten disk only old.disk new.disk same
  unreached Step.take told unwritten = unwritten
  unreached Step.aside told same = same_unwritten disk only old.disk new.disk same
  unreached Step.old_journal told same = same_unwritten disk only old.disk new.disk same
  unreached _ told same = absurd (true≢false (sym told))

  unreached_if : (b : Bool) (step : Step) (steps : List Step) → leaves_disk step ≡ b → (b || list_any leaves_disk steps) ≡ true → StepIsUntouched disk old new step
      → (list_any leaves_disk steps ≡ true → IsUnwritten disk old.disk new.disk) → IsUnwritten disk old.disk new.disk
  unreached_if true step steps is told here later = unreached step is here
  unreached_if false step steps is told here later = later told

  rest_unwritten : (steps : List Step) → list_any leaves_disk steps ≡ true → Walks (StepIsUntouched disk old new) steps → IsUnwritten disk old.disk new.disk
  rest_unwritten [] told all = absurd (true≢false (sym told))
  rest_unwritten (step ∷ steps) told all = unreached_if (leaves_disk step) step steps refl told all.0 (λ more. rest_unwritten steps more all.1)

  stops_here : (step : Step) (steps : List Step) → (tells_disk step || list_any leaves_disk steps) ≡ true → StopsAt source disk old new i s step → Walks (StepIsUntouched disk old new) steps
      → StopsSomewhere (step ∷ steps)
  stops_here Step.make steps told stops all = inr (inl (record { named = refl; stops = stops; ahead = tt }))
  stops_here Step.serve steps told stops all = inr (inr (inl (record { named = refl; stops = stops; ahead = tt })))
  stops_here Step.change steps told stops all = inr (inr (inr (inl (record { named = refl; stops = stops; ahead = tt }))))
  stops_here Step.book_return steps told stops all = inr (inr (inr (inr (inl (record { named = refl; stops = stops; ahead = tt })))))
  stops_here Step.take steps told stops all = inr (inr (inr (inr (inr (record { named = refl; stops = stops; ahead = tt })))))
  stops_here Step.begin steps told stops all = inl stops.2.untouched
  stops_here Step.packets steps told stops all = inl stops.4
  stops_here Step.open_journal steps told stops all = inl stops.2.untouched
  stops_here Step.received steps told stops all = inl stops.4
  stops_here Step.sent steps told stops all = inl stops.4
  stops_here Step.old_journal steps told stops all = inl stops.2.untouched
  stops_here Step.copy steps told stops all = inl stops.4
  stops_here Step.aside steps told stops all = absurd stops
  stops_here _ steps told stops all = inl (rest_unwritten steps told all)

  with_more : (at step : Step) (steps : List Step) → Passes source disk old new i step → StopsNamed at steps → StopsNamed at (step ∷ steps)
  with_more at step steps passed stop = record {
    named = or_true _ (is_named at steps) stop.named;
    stops = stop.stops;
    ahead = walks_more (Passes source disk old new i) at step steps passed stop.ahead;
  }

  stops_later : (step : Step) (steps : List Step) → Passes source disk old new i step → StopsSomewhere steps → StopsSomewhere (step ∷ steps)
  stops_later step steps passed stop = elim stop [
    | inl unwritten ↦ inl unwritten
    | inr at ↦ elim at [
      | inl make ↦ inr (inl (with_more Step.make step steps passed make))
      | inr written ↦ elim written [
        | inl book ↦ inr (inr (inl (with_more Step.serve step steps passed book)))
        | inr later ↦ elim later [
          | inl change ↦ inr (inr (inr (inl (with_more Step.change step steps passed change))))
          | inr last ↦ elim last [
            | inl back ↦ inr (inr (inr (inr (inl (with_more Step.book_return step steps passed back)))))
            | inr taking ↦ inr (inr (inr (inr (inr (with_more Step.take step steps passed taking)))))
          ]
        ]
      ]
    ]
  ]

  pub stops_somewhere : (steps : List Step) → are_told steps ≡ true → Halts (Passes source disk old new i) (StopsAt source disk old new i s) (StepIsUntouched disk old new) steps → StopsSomewhere steps
  stops_somewhere [] told halts = absurd halts
  stops_somewhere (step ∷ steps) told (inl here) = stops_here step steps (both_true (tells_disk step || list_any leaves_disk steps) (are_told steps) told).0 here.0 here.1
  stops_somewhere (step ∷ steps) told (inr later) =
      stops_later step steps later.0 (stops_somewhere steps (both_true (tells_disk step || list_any leaves_disk steps) (are_told steps) told).1 later.1)

  -- a command that neither makes a journal, nor enters pays or a return, nor changes accounts, nor takes packets wrote nothing where it stopped
  pub stops_unwritten : (steps : List Step) → are_told steps ≡ true → is_named Step.make steps ≡ false → is_named Step.serve steps ≡ false
      → is_named Step.change steps ≡ false → is_named Step.book_return steps ≡ false → is_named Step.take steps ≡ false → Halts (Passes source disk old new i) (StopsAt source disk old new i s) (StepIsUntouched disk old new) steps → IsUnwritten disk old.disk new.disk
  stops_unwritten steps told no_make no_book no_change no_return no_take halts = elim (stops_somewhere steps told halts) [
    | inl unwritten ↦ unwritten
    | inr at ↦ elim at [
      | inl make ↦ absurd (true≢false (sym make.named ∙ no_make))
      | inr written ↦ elim written [
        | inl book ↦ absurd (true≢false (sym book.named ∙ no_book))
        | inr later ↦ elim later [
          | inl change ↦ absurd (true≢false (sym change.named ∙ no_change))
          | inr last ↦ elim last [
            | inl back ↦ absurd (true≢false (sym back.named ∙ no_return))
            | inr taking ↦ absurd (true≢false (sym taking.named ∙ no_take))
          ]
        ]
      ]
    ]
  ]
