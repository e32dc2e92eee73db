-- Packets that are taken one after another: what is held after some of them, and what a stop on the way leaves.
use Rattle.std.proofs.Common.{◌≡◌, ◌+◌, ◌-◌, ◌∙◌, ℕ, List, [], ◌∷◌, ◌++◌, Bool, true, false, Ok, Err, Some, ap, append-nil, append_assoc, arith, inl, inr, length, length-append, refl, subst, sym, take}
use mathlib.Core.Bool.{true≢false}
use Rattle.std.specs.Prelude.{IsTrue, slice_get}
use Rattle.std.proofs.lemmas.List.{take_at}
use Rattle.corr_disk.specs.declared.disk.Disk as disks
use Rattle.corr_disk.specs.Disk.{LeavesOnly}
use Rattle.corr_disk.proofs.laws.Moments.{started, then_on, weaker}
use Rattle.standby.specs.declared.answer.TakeFault.{TakeFault}
use Rattle.standby.specs.declared.answer.TakeFault.TheVariants as taking
use Rattle.standby.specs.declared.answer.Took.{Took}
use Rattle.standby.specs.declared.answer.Took.TheVariants.{Added, Skipped}
use Rattle.standby.specs.declared.packet.Packet.{Packet}
use Rattle.standby.specs.Held.{Held, IsHeld, IsOnDisk as IsHeldOn, StandsForAll, entries_of, records_of}
use Rattle.standby.specs.Packets.{BeginsWithPacket}
use Rattle.standby.specs.Shipping.{shipped, taken_in}
use Rattle.standby.specs.Taking.{IsBeforeOrTaken, Ships, TakeShows, is_disk_fault, leaves_all}
use Rattle.standby.proofs.laws.Packets.{one_packet}
use Rattle.standby.proofs.laws.Shipped.{taken_next}
use Rattle.corr_top.specs.Followed.{ArePackets, HasTaken, FitsFourBytes, IsTakenPart, StopsTaking, TakesInTurn, packet_bytes}
use Rattle.corr_top.specs.OnDisk.{HasNotFailed}
use Rattle.corr_top.proofs.FollowedDisk.{next_cut, no_first, whole}

-- ---- lists of packets

-- one packet more makes of the records what it makes of those after the others
shipped_more : (records : List (List ℕ)) (packets : List Packet) (p : Packet) → shipped records (packets ++ p ∷ []) ≡ taken_in (shipped records packets) p
shipped_more records [] p = refl
shipped_more records (q ∷ packets) p = shipped_more (taken_in records q) packets p

-- the first of those behind others
behind_get : (done : List Packet) (p : Packet) (others : List Packet) → slice_get (done ++ p ∷ others) (length done) ≡ Some p
behind_get [] p others = refl
behind_get (q ∷ done) p others = behind_get done p others

-- the bytes in front of the rest
pub front_bytes : (p : Packet) (bytes more : List ℕ) → bytes ≡ packet_bytes p ++ more → take (length bytes - length more) bytes ≡ packet_bytes p
front_bytes p bytes more is =
    let size : length bytes - length more ≡ length (packet_bytes p) = omega (arith, ap length is, length-append (packet_bytes p) more) in
    ap (λ (l : List ℕ). take (length bytes - length more) l) is ∙ take_at (packet_bytes p) more (length bytes - length more) (sym size)

-- ---- while a file of packets is taken

-- of packets, these are behind, and what is held now is what they make of what was held; the rest of the bytes is the others
pub record AreBehind (held now : Held) (packets : List Packet) (rest : List ℕ) : Type 0 where
  pub done : List Packet
  pub others : List Packet
  pub are : packets ≡ done ++ others
  pub rest_are : ArePackets rest others
  pub ships : records_of now ≡ shipped (records_of held) done

-- those behind are the first
done_first : (held now : Held) (packets : List Packet) (rest : List ℕ) (b : AreBehind held now packets rest) → take (length b.done) packets ≡ b.done
done_first held now packets rest b = ap (λ (l : List Packet). take (length b.done) l) b.are ∙ take_at b.done b.others (length b.done) refl

-- whatever packets the bytes are, some are behind; what is held now is on the disk, no call failed, and a stop on the way leaves what is held
-- after some of them
pub record IsTaking {D : Type 0} (d : disks.Ghosts D) (first last : D) (held now : Held) (bytes rest : List ℕ) : Type 0 where
  pub good : IsHeld now
  pub durable : IsHeldOn d.honest d.reads d.may_leave last now
  pub sure : HasNotFailed d first last
  pub behind : (packets : List Packet) → ArePackets bytes packets → AreBehind held now packets rest
  pub any_moment : (packets : List Packet) → ArePackets bytes packets → TakesInTurn d first last held packets

module _ {D : Type 0} (d : disks.Ghosts D) where
  -- before the first
  pub taking_starts : ((disk : D) (c : List ℕ) → d.left_since disk (d.moment disk) c → d.may_leave disk c) → (disk : D) (held : Held) (bytes : List ℕ) → IsHeld held
      → IsHeldOn d.honest d.reads d.may_leave disk held → IsTaking d disk disk held held bytes bytes
  taking_starts only_now disk held bytes good durable = record {
    good = good;
    durable = durable;
    sure = refl;
    behind = λ packets are. record { done = []; others = packets; are = refl; rest_are = are; ships = refl };
    any_moment = λ packets are told alone.
        started d.moment d.left_since disk (IsTakenPart held packets) (λ c left. (0, alone c (only_now disk c left)));
  }

  -- after the last
  module _ (first last : D) (held now : Held) (bytes rest : List ℕ) (packets : List Packet) (t : IsTaking d first last held now bytes rest)
      (none : (number : ℕ) (r more : List ℕ) → BeginsWithPacket rest number r more → ⊥) (are : ArePackets bytes packets) where
    pub all_ship : records_of now ≡ shipped (records_of held) packets
    all_ship =
        let b = t.behind packets are in
        let over : b.others ≡ [] = no_first rest b.others b.rest_are none in
        let all : b.done ≡ packets = sym (b.are ∙ ap (λ (l : List Packet). b.done ++ l) over ∙ append-nil b.done) in
        b.ships ∙ ap (λ (l : List Packet). shipped (records_of held) l) all

    pub all_taken : HasTaken d first last held packets
    all_taken = record { after = now; good = t.good; ships = all_ship; durable = t.durable; sure = t.sure; any_moment = t.any_moment packets are }

-- ---- one packet

-- an answer that takes it shows that no call of the disk failed
ok_sure : (held : Held) (broken : Bool) (at_open old new : ℕ) (packet : List ℕ) (after : Held) (took : Took) → TakeShows held broken at_open old new packet after (Ok took) → new ≡ old
ok_sure held broken at_open old new packet after (Added have) shows = shows.4.2
ok_sure held broken at_open old new packet after (Skipped have) shows = shows.6

-- one that doesn't leaves what was held; and where the disk hadn't failed, its count at the beginning isn't told
stop_held : (held : Held) (at_open old new : ℕ) (packet : List ℕ) (after : Held) (fault : TakeFault) → TakeShows held false at_open old new packet after (Err fault) → after ≡ held
stop_held held at_open old new packet after taking.NotAPacket shows = shows.3
stop_held held at_open old new packet after (taking.NotNext number) shows = shows.4.3
stop_held held at_open old new packet after (taking.Full end need) shows = shows.3.3
stop_held held at_open old new packet after (taking.DiskFault from to) shows = shows.3.3
stop_held held at_open old new packet after (taking.Broken from now) shows = absurd (true≢false (sym shows.0))
stop_held held at_open old new packet after taking.Memory shows = shows.2

stop_shows : (held : Held) (at_open other old new : ℕ) (packet : List ℕ) (after : Held) (fault : TakeFault) → TakeShows held false at_open old new packet after (Err fault)
    → TakeShows held false other old new packet after (Err fault)
stop_shows held at_open other old new packet after taking.NotAPacket shows = shows
stop_shows held at_open other old new packet after (taking.NotNext number) shows = shows
stop_shows held at_open other old new packet after (taking.Full end need) shows = shows
stop_shows held at_open other old new packet after (taking.DiskFault from to) shows = shows
stop_shows held at_open other old new packet after (taking.Broken from now) shows = absurd (true≢false (sym shows.0))
stop_shows held at_open other old new packet after taking.Memory shows = shows

-- a fault but that of the disk leaves the disk as it was
pub leaves_still : (fault : TakeFault) → is_disk_fault fault ≡ false → leaves_all (Err fault) ≡ true
leaves_still taking.NotAPacket fine = refl
leaves_still (taking.NotNext number) fine = refl
leaves_still (taking.Full end need) fine = refl
leaves_still (taking.DiskFault from to) fine = absurd (true≢false fine)
leaves_still (taking.Broken from now) fine = refl
leaves_still taking.Memory fine = refl

-- A packet stands in front of the rest, and is handed to the follower, whose disk and records were these and are those: a crash at any moment leaves what was
-- held, or that with its record.
pub record IsHanded {D : Type 0} (d : disks.Ghosts D) (first last next : D) (now : Held) (rest more : List ℕ) (p : Packet) : Type 0 where
  pub begins : BeginsWithPacket rest p.number p.body more
  pub honest : d.honest last ≡ d.honest first
  pub moments : IsTrue (d.honest last) → LeavesOnly d.moment d.left_since last next (IsBeforeOrTaken now (packet_bytes p))

module _ {D : Type 0} (d : disks.Ghosts D) (first last next : D) (held now : Held) (bytes rest more : List ℕ) (p : Packet) (t : IsTaking d first last held now bytes rest)
    (h : IsHanded d first last next now rest more p) where
  short : FitsFourBytes p
  short = record { few = h.begins.few; short = h.begins.short }

  module _ (packets : List Packet) (are : ArePackets bytes packets) where
    b : AreBehind held now packets rest
    b = t.behind packets are

    -- it is the first of the others
    cut : (others : List Packet) × (b.others ≡ p ∷ others) × ArePackets more others
    cut = next_cut rest more b.others p b.rest_are h.begins

    split : packets ≡ b.done ++ p ∷ cut.0
    split = b.are ∙ ap (λ (l : List Packet). b.done ++ l) cut.1

    one_more : take (length b.done + 1) packets ≡ b.done ++ p ∷ []
    one_more =
        let size : length b.done + 1 ≡ length (b.done ++ p ∷ []) = omega (arith, length-append b.done (p ∷ [])) in
        ap (λ (l : List Packet). take (length b.done + 1) l) (split ∙ sym (append_assoc b.done (p ∷ []) cut.0)) ∙ take_at (b.done ++ p ∷ []) cut.0 (length b.done + 1) (sym size)

    -- what it makes of what is held is what one packet more does
    ships_more : taken_in (records_of now) p ≡ shipped (records_of held) (b.done ++ p ∷ [])
    ships_more = ap (λ (l : List (List ℕ)). taken_in l p) b.ships ∙ sym (shipped_more (records_of held) b.done p)

    -- a stop while it is taken leaves what is held after those behind it, or after it too
    part : (c : List ℕ) → IsBeforeOrTaken now (packet_bytes p) c → IsTakenPart held packets c
    part c (inl stands) =
        (length b.done, subst (λ (l : List (List ℕ)). StandsForAll l c) (b.ships ∙ ap (λ (l : List Packet). shipped (records_of held) l) (sym (done_first held now packets rest b))) stands)
    part c (inr (r, is, may, stands)) =
        let same = one_packet (packet_bytes p) _ p.number r p.body [] [] is (whole p short) in
        let added : records_of now ++ r ∷ [] ≡ taken_in (records_of now) p =
        ap (λ (body : List ℕ). records_of now ++ body ∷ []) same.1 ∙ sym (taken_next (records_of now) p (sym same.0)) in
        (length b.done + 1, subst (λ (l : List (List ℕ)). StandsForAll l c) (added ∙ ships_more ∙ ap (λ (l : List Packet). shipped (records_of held) l) (sym one_more)) stands)

    in_turn : TakesInTurn d first next held packets
    in_turn = λ told alone.
        then_on d.moment d.left_since first last next (IsTakenPart held packets) (t.any_moment packets are told alone)
        (weaker d.moment d.left_since last next (IsBeforeOrTaken now (packet_bytes p)) (IsTakenPart held packets) part (h.moments (subst IsTrue (sym h.honest) told)))

  -- it was taken
  pub takes_one : (after : Held) (at_open : ℕ) (took : Took) → TakeShows now false at_open (d.faults last) (d.faults next) (packet_bytes p) after (Ok took) → Ships now (packet_bytes p) after → IsHeld after
      → IsHeldOn d.honest d.reads d.may_leave next after → IsTaking d first next held after bytes more
  takes_one after at_open took shows ships good durable =
      let same = one_packet (packet_bytes p) ships.number p.number ships.body p.body [] [] ships.is (whole p short) in
      let one : taken_in (records_of now) (record { number = ships.number; body = ships.body }) ≡ taken_in (records_of now) p =
      ap (λ (q : Packet). taken_in (records_of now) q) (λ i. record { number = same.0 i; body = same.1 i }) in
      record {
        good = good;
        durable = durable;
        sure = ok_sure now false at_open (d.faults last) (d.faults next) (packet_bytes p) after took shows ∙ t.sure;
        behind = λ packets are. record {
          done = (b packets are).done ++ p ∷ [];
          others = (cut packets are).0;
          are = split packets are ∙ sym (append_assoc (b packets are).done (p ∷ []) (cut packets are).0);
          rest_are = (cut packets are).2;
          ships = ships.taken ∙ one ∙ ships_more packets are;
        };
        any_moment = in_turn;
      }

  -- it was not
  pub stops_at_one : (after : Held) (at_open : ℕ) (fault : TakeFault) (entries : ℕ) (packets : List Packet) → ArePackets bytes packets
      → TakeShows now false at_open (d.faults last) (d.faults next) (packet_bytes p) after (Err fault) → entries ≡ length (entries_of after)
      → (is_disk_fault fault ≡ false → IsTrue (d.honest last) → next ≡ last) → d.honest next ≡ d.honest last → StopsTaking d first next held packets fault entries
  stops_at_one after at_open fault entries packets are shows count untouched honest =
      let own : after ≡ now = stop_held now at_open (d.faults last) (d.faults next) (packet_bytes p) after fault shows in
      let same = stop_shows now at_open (d.faults first) (d.faults last) (d.faults next) (packet_bytes p) after fault shows in
      let from : TakeShows now false (d.faults first) (d.faults first) (d.faults next) (packet_bytes p) after (Err fault) =
      subst (λ (n : ℕ). TakeShows now false (d.faults first) n (d.faults next) (packet_bytes p) after (Err fault)) t.sure same in
      let place = (b packets are).done in
      record {
        taken = length place;
        packet = p;
        at = ap (λ (l : List Packet). slice_get l (length place)) (split packets are) ∙ behind_get place p (cut packets are).0;
        short = short;
        after = now;
        good = t.good;
        ships = (b packets are).ships ∙ ap (λ (l : List Packet). shipped (records_of held) l) (sym (done_first held now packets rest (b packets are)));
        shows = subst (λ (x : Held). TakeShows now false (d.faults first) (d.faults first) (d.faults next) (packet_bytes p) x (Err fault)) own from;
        durable = λ fine. record {
          stands = λ told.
              let before = subst IsTrue honest told in
              subst (λ (x : D). StandsForAll (records_of now) (d.reads x)) (sym (untouched fine before)) (t.durable.stands before);
          alone = λ told.
              let before = subst IsTrue honest told in
              subst (λ (x : D). (c : List ℕ) → d.may_leave x c → c ≡ d.reads x) (sym (untouched fine before)) (t.durable.alone before);
        };
        entries_are = count ∙ ap (λ (x : Held). length (entries_of x)) own;
        any_moment = in_turn packets are;
      }
