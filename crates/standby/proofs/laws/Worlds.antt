-- What holds of a leader and a follower after every list of events.
use Rattle.std.proofs.Common.{◌≡◌, ℕ, ◌-◌, ◌≤◌, ◌&&◌, true, List, [], ◌∷◌, ◌++◌, length, take, drop, leb, refl, sym, ap, ◌∙◌, subst, arith, append_assoc}
use Rattle.std.specs.Prelude.{Option, Some, None, Result, Ok, Err, OnOk, OnErr}
use Rattle.std.specs.Option.{option_map_or}
use Rattle.std.proofs.lemmas.Bool.{and_parts, cond_both, leb-true}
use Rattle.std.proofs.lemmas.List.{length-take-le, take-append-drop, take-append-le, take-take}
use Rattle.std.proofs.lemmas.List.Elements.{All-nil, All-push}
use Rattle.standby.specs.declared.packet.Packet.{Packet}
use Rattle.standby.specs.declared.event.WorldEvent.{WorldEvent}
use Rattle.standby.specs.declared.event.WorldEvent.TheVariants.{Add, Send, Deliver, Reopen}
use Rattle.standby.specs.Shipping.{IsSentBy, nth, taken_in}
use Rattle.standby.specs.Worlds.{IsSoundWorld, KeepsConfirmed, KeepsLeader, RunsAreSound, WorldState, first_state, reopened, step_of, with_delivery, with_packet, with_record}
use Rattle.standby.proofs.laws.Shipped.{front_same, front_short, nth_there, sent_more, sent_nth, taken_few, taken_front, taken_keeps}

pub first_sound : IsSoundWorld first_state
first_sound = record { front = ([], refl); sent = All-nil (IsSentBy []); confirmed = omega arith; last = omega arith }

-- ---- one event

pub record_sound : (s : WorldState) (r : List ℕ) → IsSoundWorld s → IsSoundWorld (with_record s r)
record_sound s r sound = record {
  front = (sound.front.0 ++ r ∷ [], ap (λ (l : List (List ℕ)). l ++ r ∷ []) sound.front.1 ∙ append_assoc s.follower sound.front.0 (r ∷ []));
  sent = sent_more s.leader r s.sent sound.sent;
  confirmed = omega arith;
  last = omega arith;
}

send_sound : (s : WorldState) (k : ℕ) (o : Option (List ℕ)) → nth s.leader k ≡ o → IsSoundWorld s → IsSoundWorld (option_map_or (λ r. with_packet s k r) o s)
send_sound s k None is sound = sound
send_sound s k (Some r) is sound = record {
  front = sound.front;
  sent = All-push (IsSentBy s.leader) s.sent (record { number = k; body = r }) sound.sent is;
  confirmed = omega arith;
  last = omega arith;
}

deliver_sound : (s : WorldState) (n : ℕ) (o : Option Packet) → nth s.sent n ≡ o → IsSoundWorld s → IsSoundWorld (option_map_or (λ p. with_delivery s p) o s)
deliver_sound s n None is sound = sound
deliver_sound s n (Some p) is sound = record {
  front = taken_front s.leader s.follower p sound.front (sent_nth s.leader s.sent (n - 1) p sound.sent (nth_there s.sent n p is).1);
  sent = sound.sent;
  confirmed = front_short s.follower (taken_in s.follower p) (taken_keeps s.follower p);
  last = taken_few s.follower p;
}

cut_sound : (s : WorldState) (n : ℕ) → n ≤ length s.follower → IsSoundWorld s → IsSoundWorld (record s { follower = take n s.follower; confirmed = n })
cut_sound s n within sound = record {
  front = (
    drop n s.follower ++ sound.front.0,
    sound.front.1 ∙ ap (λ (l : List (List ℕ)). l ++ sound.front.0) (sym (take-append-drop n s.follower)) ∙ append_assoc (take n s.follower) (drop n s.follower) sound.front.0,
  );
  sent = sound.sent;
  confirmed = omega (arith, length-take-le n s.follower within);
  last = omega (arith, length-take-le n s.follower within);
}

-- what a possible opening shows
may_reopen : (s : WorldState) (n : ℕ) → (leb s.confirmed n && leb n (length s.follower)) ≡ true → (s.confirmed ≤ n) × (n ≤ length s.follower)
may_reopen s n both =
    let parts = and_parts (leb s.confirmed n) (leb n (length s.follower)) both in
    (leb-true s.confirmed n parts.0, leb-true n (length s.follower) parts.1)

reopen_sound : (s : WorldState) (n : ℕ) → IsSoundWorld s → IsSoundWorld (reopened s n)
reopen_sound s n sound =
    cond_both (leb s.confirmed n && leb n (length s.follower)) (record s { follower = take n s.follower; confirmed = n }) s (λ (t : WorldState). IsSoundWorld t)
    (λ may. cut_sound s n (may_reopen s n may).1 sound) (λ other. sound)

pub step_sound : (s : WorldState) (e : WorldEvent) → IsSoundWorld s → IsSoundWorld (step_of s e)
step_sound s (Add r) sound = record_sound s r sound
step_sound s (Send k) sound = send_sound s k (nth s.leader k) refl sound
step_sound s (Deliver n) sound = deliver_sound s n (nth s.sent n) refl sound
step_sound s (Reopen n) sound = reopen_sound s n sound

-- ---- every list of events

pub runs_sound : (s : WorldState) → IsSoundWorld s → RunsAreSound s
runs_sound s sound [] = sound
runs_sound s sound (e ∷ es) = runs_sound (step_of s e) (step_sound s e sound) es

-- ---- what is kept

pub keeps_same : (s : WorldState) → IsSoundWorld s → KeepsConfirmed s s
keeps_same s sound = record { held = sound.confirmed; same = refl }

keeps_send : (s : WorldState) (k : ℕ) (o : Option (List ℕ)) → IsSoundWorld s → KeepsConfirmed s (option_map_or (λ r. with_packet s k r) o s)
keeps_send s k None sound = keeps_same s sound
keeps_send s k (Some r) sound = record { held = sound.confirmed; same = refl }

keeps_deliver : (s : WorldState) (o : Option Packet) → IsSoundWorld s → KeepsConfirmed s (option_map_or (λ p. with_delivery s p) o s)
keeps_deliver s None sound = keeps_same s sound
keeps_deliver s (Some p) sound =
    let kept = taken_keeps s.follower p in
    record {
      held = omega (arith, sound.confirmed, front_short s.follower (taken_in s.follower p) kept);
      same = ap (λ (l : List (List ℕ)). take s.confirmed l) kept.1 ∙ take-append-le s.confirmed s.follower kept.0 sound.confirmed;
    }

keeps_cut : (s : WorldState) (n : ℕ) → s.confirmed ≤ n → n ≤ length s.follower → KeepsConfirmed s (record s { follower = take n s.follower; confirmed = n })
keeps_cut s n no_less within = record {
  held = omega (arith, no_less, length-take-le n s.follower within);
  same = take-take s.confirmed n s.follower no_less;
}

pub keeps_step : (s : WorldState) (e : WorldEvent) → IsSoundWorld s → KeepsConfirmed s (step_of s e)
keeps_step s (Add r) sound = record { held = sound.confirmed; same = refl }
keeps_step s (Send k) sound = keeps_send s k (nth s.leader k) sound
keeps_step s (Deliver n) sound = keeps_deliver s (nth s.sent n) sound
keeps_step s (Reopen n) sound =
    cond_both (leb s.confirmed n && leb n (length s.follower)) (record s { follower = take n s.follower; confirmed = n }) s (λ (t : WorldState). KeepsConfirmed s t)
    (λ may. keeps_cut s n (may_reopen s n may).0 (may_reopen s n may).1) (λ other. keeps_same s sound)

leads_send : (s : WorldState) (k : ℕ) (o : Option (List ℕ)) → KeepsLeader s (option_map_or (λ r. with_packet s k r) o s)
leads_send s k None = front_same s.leader
leads_send s k (Some r) = front_same s.leader

leads_deliver : (s : WorldState) (o : Option Packet) → KeepsLeader s (option_map_or (λ p. with_delivery s p) o s)
leads_deliver s None = front_same s.leader
leads_deliver s (Some p) = front_same s.leader

pub leads_step : (s : WorldState) (e : WorldEvent) → KeepsLeader s (step_of s e)
leads_step s (Add r) = (r ∷ [], refl)
leads_step s (Send k) = leads_send s k (nth s.leader k)
leads_step s (Deliver n) = leads_deliver s (nth s.sent n)
leads_step s (Reopen n) =
    cond_both (leb s.confirmed n && leb n (length s.follower)) (record s { follower = take n s.follower; confirmed = n }) s (λ (t : WorldState). KeepsLeader s t)
    (λ may. front_same s.leader) (λ other. front_same s.leader)

-- ---- by the answer to an event

module _ {A E : Type 0} (s new : WorldState) (e : WorldEvent) (sound : IsSoundWorld s) where
  pub answer_sound : (r : Result A E) → OnOk r (new ≡ step_of s e) → OnErr r (new ≡ s) → IsSoundWorld new
  answer_sound (Ok done) ok err = subst (λ (t : WorldState). IsSoundWorld t) (sym ok) (step_sound s e sound)
  answer_sound (Err fault) ok err = subst (λ (t : WorldState). IsSoundWorld t) (sym err) sound

  pub answer_keeps : (r : Result A E) → OnOk r (new ≡ step_of s e) → OnErr r (new ≡ s) → KeepsConfirmed s new
  answer_keeps (Ok done) ok err = subst (λ (t : WorldState). KeepsConfirmed s t) (sym ok) (keeps_step s e sound)
  answer_keeps (Err fault) ok err = subst (λ (t : WorldState). KeepsConfirmed s t) (sym err) (keeps_same s sound)

  pub answer_leads : (r : Result A E) → OnOk r (new ≡ step_of s e) → OnErr r (new ≡ s) → KeepsLeader s new
  answer_leads (Ok done) ok err = subst (λ (t : WorldState). KeepsLeader s t) (sym ok) (leads_step s e)
  answer_leads (Err fault) ok err = subst (λ (t : WorldState). KeepsLeader s t) (sym err) (front_same s.leader)
