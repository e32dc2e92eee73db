-- A journal that is read and printed.
use Rattle.std.proofs.Common.{◌≡◌, inl, inr, Result, Ok, Err, ap}
use Rattle.corr_disk.specs.declared.disk.Disk as disks
use Rattle.corr_io.specs.declared.source.Source as sources
use Rattle.corr_top.specs.declared.room.Room.{Room}
use Rattle.corr_top.specs.declared.status.Status.{Status}
use Rattle.corr_top.specs.declared.words.Command.TheVariants.{Plain}
use Rattle.corr_top.specs.declared.words.Plain.TheVariants as plain
use Rattle.corr_top.specs.declared.words.Query.{Query}
use Rattle.corr_top.specs.declared.writing.Texts.{Texts}
use Rattle.corr_top.specs.Commands.{meaning_of}
use Rattle.corr_top.specs.inner.Ends.{HasTexts}
use Rattle.corr_top.specs.Meaning.{KeepsRest}
use Rattle.corr_top.specs.Passing.{table_at}
use Rattle.corr_top.specs.Query.{query_steps}
use Rattle.corr_top.specs.inner.Query.{GivesAsked}
use Rattle.corr_top.proofs.TableFiles.{no_inputs}

-- the disk alone was used
disk_alone : {S K D : Type 0} (old new : Room S K D) → (new ≡ record old { disk = new.disk }) → KeepsRest query_steps old new
disk_alone {S} {K} {D} old new rest = record {
  tables = λ name unread. ap (λ (r : Room S K D). table_at name r.tables) rest;
  messages = λ unread unserved. ap (λ (r : Room S K D). r.messages) rest;
  received = λ unread unpacked. ap (λ (r : Room S K D). r.received) rest;
  sent = λ unread. ap (λ (r : Room S K D). r.sent) rest;
  disk2 = λ unread. ap (λ (r : Room S K D). r.disk2) rest;
}

-- a query ends as asking the disk of its room does
pub query_texts : {S K D : Type 0} (source : sources.Ghosts S) (d : disks.Ghosts D) (asked : Query) (old new : Room S K D) (r : Result Texts Status) → GivesAsked d old.disk new.disk asked r
    → (new ≡ record old { disk = new.disk }) → HasTexts source d (meaning_of (Plain (plain.Query asked))) old new r
unfolding meaning_of
query_texts {S} {K} {D} source d asked old new (Ok texts) gives rest = record {
  inputs = record no_inputs { chart = gives.0; history = gives.1 };
  are_for = tt;
  gives = (record { passed = (gives.2.holds, tt); leaves = gives.2.leaves }, gives.3, gives.4, gives.5);
  rest = disk_alone old new rest;
  report = ap (λ (r : Room S K D). r.report) rest;
  out = ap (λ (r : Room S K D). r.out) rest;
}
query_texts {S} {K} {D} source d asked old new (Err s) (inl stops) rest = record {
  inputs = no_inputs;
  are_for = tt;
  gives = inl (inl (stops, tt));
  rest = disk_alone old new rest;
  report = ap (λ (r : Room S K D). r.report) rest;
  out = ap (λ (r : Room S K D). r.out) rest;
}
query_texts {S} {K} {D} source d asked old new (Err s) (inr memory) rest = record {
  inputs = record no_inputs { chart = memory.0; history = memory.1 };
  are_for = tt;
  gives = inr (record { passed = (memory.2.holds, tt); leaves = memory.2.leaves }, memory.3);
  rest = disk_alone old new rest;
  report = ap (λ (r : Room S K D). r.report) rest;
  out = ap (λ (r : Room S K D). r.out) rest;
}
