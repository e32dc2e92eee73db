-- Where nothing is wrong, a command is done or wants memory.
use Rattle.std.proofs.Common.{◌≡◌, ℕ, ◌⊎◌, inl, inr, true, List, [], ◌∷◌, Option, Some, None, refl, sym, ◌∙◌, subst}
use Rattle.std.specs.Prelude.{IfSome}
use Rattle.corr_disk.specs.declared.disk.Disk as disks
use Rattle.corr_io.specs.declared.sink.Sink as sinks
use Rattle.corr_io.specs.declared.source.Source as sources
use Rattle.corr_text.specs.Faults.{Rose}
use Rattle.ref_tables.specs.declared.fault.TableName.TheVariants as names
use Rattle.corr_top.specs.declared.account_words.AccountChange.{AccountChange}
use Rattle.corr_top.specs.declared.account_words.AccountChange.TheVariants.{Open, Limit}
use Rattle.corr_top.specs.declared.room.Room.{Room}
use Rattle.corr_top.specs.declared.status.Status.{Status}
use Rattle.corr_top.specs.declared.status.Status.TheVariants as status
use Rattle.corr_top.specs.declared.words.Command.{Command}
use Rattle.corr_top.specs.declared.words.Command.TheVariants.{Run, Trial, Plain, Return}
use Rattle.corr_top.specs.declared.words.Plain.TheVariants.{Change, Follow, Generate, Init, Mend, Migrate, Query, Reconcile, Check, Page}
use Rattle.corr_top.specs.Change.{change_steps}
use Rattle.corr_top.specs.Commands.{meaning_of}
use Rattle.corr_top.specs.Complete.{IsFaultless}
use Rattle.corr_top.specs.Ends.{Ends, HasStopped}
use Rattle.corr_top.specs.Follow.{follow_steps}
use Rattle.corr_top.specs.Init.{init_steps}
use Rattle.corr_top.specs.Inputs.{Inputs}
use Rattle.corr_top.specs.Mend.{mend_steps}
use Rattle.corr_top.specs.Migrate.{migrate_steps}
use Rattle.corr_top.specs.Page.{page_steps}
use Rattle.corr_top.specs.Passing.{IsReady, StepIsUntouched, Passes, StopsAt}
use Rattle.corr_top.specs.Query.{query_steps}
use Rattle.corr_top.specs.Reconcile.{reconcile_steps}
use Rattle.corr_top.specs.Check.{check_steps}
use Rattle.corr_top.specs.Return.{return_steps}
use Rattle.corr_top.specs.Run.{run_steps}
use Rattle.corr_top.specs.Steps.{Halts, Step, Walks}
use Rattle.corr_top.specs.Writing.{FailsWriting}
use Rattle.corr_top.proofs.FaultCounts.{same_rose}
use Rattle.corr_top.proofs.Walking.{find, is_named}
use Rattle.corr_top.proofs.steps.All.{laws_of}
use Rattle.corr_top.proofs.steps.Laws.{Agrees, HasBooked, HasThree, IsAfter, Setting}

-- ---- steps in their order

-- each step has those that it needs before it
abbrev AreOrdered : AccountChange → List Step → List Step → Type 0
AreOrdered change done [] = Unit {0}
AreOrdered change done (s ∷ steps) = IsAfter change done s × AreOrdered change (s ∷ done) steps

-- where one of them stops, it wants memory
halts_memory : (x : Setting) (s : Status) (done steps : List Step) → AreOrdered x.told.change done steps → Walks (Agrees x.read x.told) done → Walks (IsReady x.source x.disk x.old x.new x.told) steps
    → Halts (Passes x.source x.disk x.old x.new x.read) (StopsAt x.source x.disk x.old x.new x.read s) (StepIsUntouched x.disk x.old x.new) steps → s ≡ status.Memory
halts_memory x s done [] ordered all ready halts = absurd halts
halts_memory x s done (step ∷ steps) ordered all ready (inl here) = (laws_of step).memory x s done ordered.0 all ready.0 here.0
halts_memory x s done (step ∷ steps) ordered all ready (inr later) =
    halts_memory x s (step ∷ done) steps ordered.1 ((laws_of step).agrees x ready.0 later.0, all) ready.1 later.1

-- the tables of banks, currencies and countries stand in a list
three_in : (done : List Step) → is_named (Step.table names.Bics) done ≡ true → is_named (Step.table names.Ccys) done ≡ true
    → is_named (Step.table names.Countries) done ≡ true → HasThree done
three_in done bics ccys countries = record {
  bics = find (Step.table names.Bics) done bics;
  ccys = find (Step.table names.Ccys) done ccys;
  countries = find (Step.table names.Countries) done countries;
}

-- what a run has behind it after the tables of banks, currencies and countries; after the journal; and after the day
abbrev after_banks : List Step
after_banks = Step.table names.Countries ∷ Step.table names.Ccys ∷ Step.table names.Bics ∷ []

abbrev after_journal : List Step
after_journal = Step.open_journal ∷ Step.table names.Charges ∷ Step.table names.Ssi ∷ after_banks

abbrev after_day : List Step
after_day = Step.day ∷ after_journal

all_read : HasBooked after_day
all_read = record {
  three = three_in after_day refl refl refl;
  ssi = find (Step.table names.Ssi) after_day refl;
  charges = find (Step.table names.Charges) after_day refl;
  journal = find Step.open_journal after_day refl;
}

run_ordered : (change : AccountChange) → AreOrdered change [] run_steps
run_ordered change =
    let ssi = three_in after_banks refl refl refl in
    let charges = three_in (Step.table names.Ssi ∷ after_banks) refl refl refl in
    (tt, (tt, (tt, (ssi, (charges, (tt, (find Step.open_journal after_journal refl, (all_read, tt))))))))

return_ordered : (change : AccountChange) → AreOrdered change [] return_steps
return_ordered change =
    let done = Step.day ∷ Step.open_journal ∷ [] in
    (tt, (find Step.open_journal (Step.open_journal ∷ []) refl, (find Step.open_journal done refl, (find Step.open_journal (Step.make_return ∷ done) refl, tt))))

init_ordered : (change : AccountChange) → AreOrdered change [] init_steps
init_ordered change =
    let accounts = Step.table names.Accounts ∷ after_banks in
    let three = three_in accounts refl refl refl in
    (tt, (tt, (tt, (three_in after_banks refl refl refl, ((three, find (Step.table names.Accounts) accounts refl), (tt, tt))))))

change_ordered : (change : AccountChange) → AreOrdered change [] (change_steps change)
change_ordered (Open words) =
    let done = Step.open_journal ∷ Step.table names.Ccys ∷ Step.table names.Bics ∷ [] in
    (tt, (tt, (tt, ((find Step.open_journal done refl, (find (Step.table names.Bics) done refl, find (Step.table names.Ccys) done refl)), tt))))
change_ordered (Limit id ends) = (tt, ((find Step.open_journal (Step.open_journal ∷ []) refl, tt), tt))

-- the change that was told is the one that the words name
asked_ordered : (told asked : AccountChange) → told ≡ asked → AreOrdered told [] (change_steps asked)
asked_ordered told asked is = subst (λ (x : AccountChange). AreOrdered x [] (change_steps asked)) (sym is) (change_ordered asked)

migrate_ordered : (change : AccountChange) → AreOrdered change [] migrate_steps
migrate_ordered change = (tt, (tt, (find Step.old_journal (Step.old_journal ∷ Step.second ∷ []) refl, tt)))

follow_ordered : (change : AccountChange) → AreOrdered change [] follow_steps
follow_ordered change =
    let done = Step.packets ∷ Step.begin ∷ [] in
    (tt, (tt, ((find Step.begin done refl, find Step.packets done refl), tt)))

page_ordered : (change : AccountChange) → AreOrdered change [] page_steps
page_ordered change =
    let ssi = three_in after_banks refl refl refl in
    let charges = three_in (Step.table names.Ssi ∷ after_banks) refl refl refl in
    (tt, (tt, (tt, (ssi, (charges, (tt, (tt, tt)))))))

-- ---- the commands

no_write_fault : {K : Type 0} (sink : sinks.Ghosts K) (old new : K) (report : List ℕ) (from to : K) (out : List ℕ) (then now : ℕ) → (Rose (sink.faults old) (sink.faults new) → ⊥) → (Rose (sink.faults from) (sink.faults to) → ⊥)
    → FailsWriting sink.held sink.faults old new report from to out then now → ⊥
no_write_fault sink old new report from to out then now sound sent (inl f) = sound (same_rose sink.faults old new then now f.0.failed)
no_write_fault sink old new report from to out then now sound sent (inr f) = sent (same_rose sink.faults from to then now f.1.failed)

module _ {S K D : Type 0} (source : sources.Ghosts S) (d : disks.Ghosts D) (sink : sinks.Ghosts K) (old new : Room S K D) (j i : Inputs) (s : Status) where
  -- what was read beside what was told, where the words say the same
  abbrev beside : (told : Inputs) → j.home ≡ told.home → j.day ≡ told.day → j.change ≡ told.change → j.place ≡ told.place → Setting
  beside told home day change place =
      record { S = S; K = K; D = D; source = source; disk = d; old = old; new = new; read = j; told = told; home = home; day = day; change = change; place = place }

  -- A command that stopped wants memory. What its words don't name is taken as it was read.
  stopped_memory : (command : Command) → (meaning_of command).is_for j → IsFaultless source sink d (meaning_of command) old new i → HasStopped source d (meaning_of command) old new s j → s ≡ status.Memory
  unfolding meaning_of
  stopped_memory (Run day workers entries) is sound (inl halts) =
      halts_memory (beside (record i { home = j.home; change = j.change; place = j.place }) refl (is.0 ∙ sym sound.are_for.0) refl refl) s [] run_steps (run_ordered j.change) tt sound.ready halts
  stopped_memory (Trial count seed workers) is sound (inl halts) = absurd halts
  stopped_memory (Return place day) is sound (inl halts) =
      halts_memory (beside (record i { home = j.home; change = j.change }) refl (is.1 ∙ sym sound.are_for.1) refl (is.0 ∙ sym sound.are_for.0)) s [] return_steps (return_ordered j.change) tt sound.ready halts
  stopped_memory (Plain (Init home)) is sound (inl halts) =
      halts_memory (beside (record i { day = j.day; change = j.change; place = j.place }) (is ∙ sym sound.are_for) refl refl refl) s [] init_steps (init_ordered j.change) tt sound.ready halts
  stopped_memory (Plain (Query asked)) is sound (inl halts) =
      halts_memory (beside (record i { home = j.home; day = j.day; change = j.change; place = j.place }) refl refl refl refl) s [] query_steps (tt, tt) tt sound.ready halts
  stopped_memory (Plain Reconcile) is sound (inl halts) =
      halts_memory (beside (record i { home = j.home; day = j.day; change = j.change; place = j.place }) refl refl refl refl) s [] reconcile_steps (tt, (tt, (tt, (tt, (tt, tt))))) tt sound.ready halts
  stopped_memory (Plain (Check home)) is sound (inl halts) =
      halts_memory (beside (record i { day = j.day; change = j.change; place = j.place }) (is ∙ sym sound.are_for) refl refl refl) s [] check_steps (tt, (tt, (tt, (tt, (tt, tt))))) tt sound.ready halts
  stopped_memory (Plain (Generate count seed)) is sound (inl halts) = absurd halts
  stopped_memory (Plain (Change (Open words))) is sound (inl halts) =
      halts_memory (beside (record i { home = j.home; day = j.day; place = j.place }) refl refl (is ∙ sym sound.are_for) refl) s [] (change_steps (Open words)) (asked_ordered i.change (Open words) sound.are_for) tt sound.ready halts
  stopped_memory (Plain (Change (Limit id ends))) is sound (inl halts) =
      halts_memory (beside (record i { home = j.home; day = j.day; place = j.place }) refl refl (is ∙ sym sound.are_for) refl) s [] (change_steps (Limit id ends)) (asked_ordered i.change (Limit id ends) sound.are_for) tt sound.ready halts
  stopped_memory (Plain (Mend from until)) is sound (inl halts) =
      halts_memory (beside (record i { home = j.home; day = j.day; change = j.change; place = j.place }) refl refl refl refl) s [] mend_steps (tt, (tt, tt)) tt sound.ready halts
  stopped_memory (Plain Migrate) is sound (inl halts) =
      halts_memory (beside (record i { home = j.home; day = j.day; change = j.change; place = j.place }) refl refl refl refl) s [] migrate_steps (migrate_ordered j.change) tt sound.ready halts
  stopped_memory (Plain Follow) is sound (inl halts) =
      halts_memory (beside (record i { home = j.home; day = j.day; change = j.change; place = j.place }) refl refl refl refl) s [] follow_steps (follow_ordered j.change) tt sound.ready halts
  stopped_memory (Plain (Page day)) is sound (inl halts) =
      halts_memory (beside (record i { home = j.home; change = j.change; place = j.place }) refl (is ∙ sym sound.are_for) refl refl) s [] page_steps (page_ordered j.change) tt sound.ready halts
  stopped_memory command is sound (inr memory) = memory.1

pub done_or_memory : {S K D : Type 0} (source : sources.Ghosts S) (d : disks.Ghosts D) (sink : sinks.Ghosts K) (command : Command) (old new : Room S K D) (s : Status) (i : Inputs)
    → Ends source d (meaning_of command) old new sink s → IsFaultless source sink d (meaning_of command) old new i → (s ≡ status.Done) ⊎ (s ≡ status.Memory)
done_or_memory source d sink command old new s i e sound = elim e.ends [
  | inl done ↦ inl done.status_is
  | inr rest ↦ elim rest [
    | inl writing ↦ absurd (no_write_fault sink old.report new.report _ old.out new.out _ writing.then writing.now sound.report sound.out writing.failed)
    | inr stopped ↦ inr (stopped_memory source d sink old new e.inputs i s command e.are_for sound stopped.stopped)
  ]
]

-- the same of a command that words may spell
pub complete_if : {S K D C : Type 0} (source : sources.Ghosts S) (d : disks.Ghosts D) (sink : sinks.Ghosts K) (of : C → Command) (spelled : Option C) (old new : Room S K D) (s : Status)
    → IfSome spelled (λ command. Ends source d (meaning_of (of command)) old new sink s)
    → IfSome spelled (λ command. (i : Inputs) → IsFaultless source sink d (meaning_of (of command)) old new i → (s ≡ status.Done) ⊎ (s ≡ status.Memory))
complete_if source d sink of None old new s ends = ends
complete_if source d sink of (Some command) old new s ends = λ i sound. done_or_memory source d sink (of command) old new s i ends sound
