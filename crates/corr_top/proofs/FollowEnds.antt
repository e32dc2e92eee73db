-- Packets that were received, taken into the journal of a second machine: how that ends before anything is written.
use Rattle.std.proofs.Common.{◌≡◌, ◌∙◌, ℕ, List, Result, Ok, Err, ap, inl, inr, refl, subst, sym}
use Rattle.std.specs.Prelude.{IsTrue, false}
use Rattle.corr_disk.specs.declared.disk.Disk as disks
use Rattle.corr_disk.specs.Disk.{LeavesOnly}
use Rattle.corr_disk.proofs.laws.Moments.{then_on, weaker}
use Rattle.corr_io.specs.declared.source.Source as sources
use Rattle.jrn_file.specs.declared.fault.OpenFault.{OpenFault}
use Rattle.standby.specs.declared.answer.TakeFault.{TakeFault}
use Rattle.standby.specs.declared.packet.Packet.{Packet}
use Rattle.standby.specs.Held.{Held, IsOnDisk as IsHeldOn, StandsForAll, records_of}
use Rattle.standby.specs.Taking.{TakeShows}
use Rattle.corr_top.specs.declared.room.Room.{Room}
use Rattle.corr_top.specs.declared.room.Tables.{Tables}
use Rattle.corr_top.specs.declared.status.Status.{Status}
use Rattle.corr_top.specs.declared.words.Command.TheVariants.{Plain}
use Rattle.corr_top.specs.declared.words.Plain.TheVariants.{Follow}
use Rattle.corr_top.specs.declared.writing.Texts.{Texts}
use Rattle.corr_top.specs.Commands.{meaning_of}
use Rattle.corr_top.specs.inner.Ends.{CommandGives, HasTexts}
use Rattle.corr_top.specs.Follow.{follow_steps}
use Rattle.corr_top.specs.Followed.{HasTaken, HoldsRecords, IsTakenPart, LeavesRecords, StopsBeginning, StopsTaking, TakesInTurn, packet_bytes}
use Rattle.corr_top.specs.inner.Followed.{GivesFollowed}
use Rattle.corr_top.specs.Inputs.{Inputs}
use Rattle.corr_top.specs.Meaning.{KeepsRest}
use Rattle.corr_top.specs.OnDisk.{HasNotFailed, IsUnwritten}
use Rattle.corr_top.specs.Passing.{table_at}
use Rattle.corr_top.specs.Steps.{Step}
use Rattle.corr_top.specs.Stops.{status_of_opening}
use Rattle.corr_top.proofs.AccountChanges.{unwritten_then}
use Rattle.corr_top.proofs.TableFiles.{no_inputs}
use Rattle.corr_top.proofs.Walking.{contained}

-- ---- the beginning writes nothing, so what is said since then holds since before it

module _ {D : Type 0} (d : disks.Ghosts D) (old mid : D) (held : Held) (unwritten : IsUnwritten d old mid) (sure : HasNotFailed d old mid) (honest : d.honest mid ≡ d.honest old)
    (on : IsHeldOn d.honest d.reads d.may_leave mid held) where
  first_part : (packets : List Packet) → LeavesRecords d old held → LeavesOnly d.moment d.left_since old mid (IsTakenPart held packets)
  first_part packets alone = weaker d.moment d.left_since old mid (d.may_leave old) (IsTakenPart held packets) (λ c left. (0, alone c left)) unwritten.any_moment

  in_turn : (new : D) (packets : List Packet) → TakesInTurn d mid new held packets → TakesInTurn d old new held packets
  in_turn new packets later = λ told alone.
      let now = subst IsTrue (sym honest) told in
      let here : LeavesRecords d mid held = λ c left. subst (λ (b : List ℕ). StandsForAll (records_of held) b) (sym (on.alone now c left)) (on.stands now) in
      then_on d.moment d.left_since old mid new (IsTakenPart held packets) (first_part packets alone) (later now here)

  taken_since : (new : D) (packets : List Packet) → HasTaken d mid new held packets → HasTaken d old new held packets
  taken_since new packets taken = record {
    after = taken.after;
    good = taken.good;
    ships = taken.ships;
    durable = taken.durable;
    sure = taken.sure ∙ sure;
    any_moment = in_turn new packets taken.any_moment;
  }

  stops_since : (new : D) (packets : List Packet) (fault : TakeFault) (entries : ℕ) → StopsTaking d mid new held packets fault entries → StopsTaking d old new held packets fault entries
  stops_since new packets fault entries stops = record {
    taken = stops.taken;
    packet = stops.packet;
    at = stops.at;
    short = stops.short;
    after = stops.after;
    good = stops.good;
    ships = stops.ships;
    shows = subst (λ (n : ℕ). TakeShows stops.after false n n (d.faults new) (packet_bytes stops.packet) stops.after (Err fault)) sure stops.shows;
    durable = stops.durable;
    entries_are = stops.entries_are;
    any_moment = in_turn new packets stops.any_moment;
  }

  pub followed_since : {S : Type 0} (source : sources.Ghosts S) (from to : S) (new : D) (r : Result Texts Status) → GivesFollowed source d from to mid new held r → GivesFollowed source d from to old new held r
  followed_since source from to new (Ok texts) gives = (gives.0, gives.1, gives.2, taken_since new gives.1 gives.3, gives.4, gives.5)
  followed_since source from to new (Err s) (inl stops) =
      inl (stops.0, stops.1, stops.2, stops.3, stops.4 ∙ sure, unwritten_then d old mid new unwritten stops.5)
  followed_since source from to new (Err s) (inr (bytes, packets, had, inl stops)) = inr (bytes, packets, had, inl (stops.0, stops.1, stops.2, stops_since new packets stops.0 stops.1 stops.3))
  followed_since source from to new (Err s) (inr (bytes, packets, had, inr memory)) = inr (bytes, packets, had, inr (taken_since new packets memory.0, memory.1))

-- what it leaves as it is
pub record IsRest {S K D : Type 0} (old new : Room S K D) : Type 0 where
  pub tables : new.tables ≡ old.tables
  pub messages : new.messages ≡ old.messages
  pub sent : new.sent ≡ old.sent
  pub disk2 : new.disk2 ≡ old.disk2
  pub report : new.report ≡ old.report
  pub out : new.out ≡ old.out

module _ {S K D : Type 0} (source : sources.Ghosts S) (d : disks.Ghosts D) (old new : Room S K D) (rest : IsRest old new) where
  keeps_rest : KeepsRest follow_steps old new
  keeps_rest = record {
    tables = λ name unread. ap (λ (t : Tables S). table_at name t) rest.tables;
    messages = λ unread unserved. rest.messages;
    received = λ unread unpacked. absurd (unpacked (contained Step.packets follow_steps refl));
    sent = λ unread. rest.sent;
    disk2 = λ unread. rest.disk2;
  }

  gives_follow : (r : Result Texts Status) (i : Inputs) → CommandGives source d (meaning_of (Plain Follow)) old new r i → HasTexts source d (meaning_of (Plain Follow)) old new r
  unfolding meaning_of
  gives_follow r i gives = record { inputs = i; are_for = tt; gives = gives; rest = keeps_rest; report = rest.report; out = rest.out }

  -- the follower didn't begin
  pub begin_stop : (fault : OpenFault) → StopsBeginning d old.disk new.disk fault → new.received ≡ old.received → HasTexts source d (meaning_of (Plain Follow)) old new (Err (status_of_opening fault))
  unfolding meaning_of
  begin_stop fault stops received = gives_follow (Err (status_of_opening fault)) no_inputs (inl (inl ((fault, refl, stops), (received, (stops.untouched, tt)))))

  -- it did, and the packets were read and taken; or the file isn't packets; or one wasn't taken; or memory ran out
  pub follow_texts : (held : Held) (r : Result Texts Status) → HoldsRecords d old.disk held → GivesFollowed source d old.received new.received old.disk new.disk held r
      → HasTexts source d (meaning_of (Plain Follow)) old new r
  unfolding meaning_of
  follow_texts held (Ok texts) holds gives =
      let i = record no_inputs { held = held; messages = gives.0; packets = gives.1 } in
      gives_follow (Ok texts) i (record { passed = (holds, (gives.2, (gives.3, tt))); leaves = gives.3 }, gives.4, gives.5, tt)
  follow_texts held (Err s) holds (inl stops) =
      let i = record no_inputs { held = held; messages = stops.1 } in
      gives_follow (Err s) i (inl (inr (holds, inl ((stops.0, stops.2, stops.3, stops.4, stops.5), (stops.5, tt)))))
  follow_texts held (Err s) holds (inr (bytes, packets, had, inl stops)) =
      let i = record no_inputs { held = held; messages = bytes; packets = packets } in
      gives_follow (Err s) i (inl (inr (holds, inr (had, inl (stops, tt)))))
  follow_texts held (Err s) holds (inr (bytes, packets, had, inr memory)) =
      let i = record no_inputs { held = held; messages = bytes; packets = packets } in
      gives_follow (Err s) i (inr (record { passed = (holds, (had, (memory.0, tt))); leaves = memory.0 }, memory.1))
