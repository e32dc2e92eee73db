-- A generated day, and a trial of one.
use Rattle.std.proofs.Common.{ℕ, inr, [], Result, Ok, Err, refl}
use Rattle.corr_disk.specs.declared.disk.Disk as disks
use Rattle.corr_io.specs.declared.source.Source as sources
use Rattle.corr_top.specs.declared.room.Room.{Room}
use Rattle.corr_top.specs.declared.status.Status.{Status}
use Rattle.corr_top.specs.declared.words.Command.TheVariants.{Plain, Trial}
use Rattle.corr_top.specs.declared.words.Plain.TheVariants.{Generate}
use Rattle.corr_top.specs.declared.writing.Texts.{Texts}
use Rattle.corr_top.specs.Commands.{meaning_of}
use Rattle.corr_top.specs.inner.Ends.{HasTexts}
use Rattle.corr_top.specs.inner.Generate.{GivesGenerated}
use Rattle.corr_top.specs.Meaning.{KeepsRest}
use Rattle.corr_top.specs.inner.Trial.{GivesTrial}
use Rattle.corr_top.proofs.TableFiles.{no_inputs}

-- a room keeps itself
keeps_all : {S K D : Type 0} (room : Room S K D) → KeepsRest [] room room
keeps_all room = record { tables = λ name unread. refl; messages = λ unread unserved. refl; received = λ unread unpacked. refl; sent = λ unread. refl; disk2 = λ unread. refl }

-- it touches nothing of its room
pub generated_texts : {S K D : Type 0} (source : sources.Ghosts S) (d : disks.Ghosts D) (count seed : ℕ) (room : Room S K D) (r : Result Texts Status) → GivesGenerated count seed r
    → HasTexts source d (meaning_of (Plain (Generate count seed))) room room r
unfolding meaning_of
generated_texts source d count seed room (Ok texts) gives = record {
  inputs = no_inputs;
  are_for = tt;
  gives = (record { passed = tt; leaves = refl }, gives.0, gives.1, tt);
  rest = keeps_all room;
  report = refl;
  out = refl;
}
generated_texts source d count seed room (Err s) gives = record {
  inputs = no_inputs;
  are_for = tt;
  gives = inr (record { passed = tt; leaves = refl }, gives);
  rest = keeps_all room;
  report = refl;
  out = refl;
}

-- a trial touches nothing of its room
pub tried_texts : {S K D : Type 0} (source : sources.Ghosts S) (d : disks.Ghosts D) (count seed workers : ℕ) (room : Room S K D) (r : Result Texts Status) → GivesTrial count seed r
    → HasTexts source d (meaning_of (Trial count seed workers)) room room r
unfolding meaning_of
tried_texts source d count seed workers room (Ok texts) gives = record {
  inputs = no_inputs;
  are_for = tt;
  gives = (record { passed = tt; leaves = refl }, gives.0, gives.1, gives.2);
  rest = keeps_all room;
  report = refl;
  out = refl;
}
tried_texts source d count seed workers room (Err s) gives = record {
  inputs = no_inputs;
  are_for = tt;
  gives = inr (record { passed = tt; leaves = refl }, gives);
  rest = keeps_all room;
  report = refl;
  out = refl;
}
