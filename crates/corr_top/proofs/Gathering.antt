-- The replies of messages, gathered one after another, and the first message that found no room.
use Rattle.std.proofs.Common.{◌≡◌, ℕ, zero, suc, ◌+◌, ◌<◌, All, List, [], ◌∷◌, ◌++◌, length, get_or, take, Option, Some, None, refl, sym, ap, ◌∙◌, subst, arith}
use Rattle.std.specs.Prelude.{if◌then◌else◌, is_none}
use Rattle.std.proofs.lemmas.List.{map-append, take-append-le, take_more}
use Rattle.std.proofs.lemmas.List.Elements.{All-append, All-nil}
use Rattle.std.proofs.lemmas.Option.{none-some, same_Some, slice_get-get_or}
use Rattle.corr_text.specs.Faults.{Rose}
use Rattle.day_model.specs.declared.reply.Reply.{Reply}
use Rattle.front_word.proofs.laws.Prefixes.{get_below}
use Rattle.corr_books.proofs.laws.Histories.{take_front}
use Rattle.corr_top.specs.declared.answers.BookStop.{BookStop}
use Rattle.corr_top.specs.declared.answers.BookStop.TheVariants as booking
use Rattle.corr_top.specs.declared.desk.Halt.TheVariants as halt
use Rattle.corr_top.specs.declared.desk.Served.{Served}
use Rattle.corr_top.specs.declared.desk.Served.TheVariants as served
use Rattle.corr_top.specs.inner.Collecting.{StopsAsServed, disk_fault_of}
use Rattle.corr_top.specs.inner.Serving.{IsFirstFull, IsTried, SaysFailed, are_replies}
use Rattle.corr_top.proofs.Replying.{all_one, get_stays}
use Rattle.day_model.proofs.laws.Folds.{get_at}

-- each has a reply so far, or this is the first that found no room
abbrev pub IsFullAt : List Served → List Reply → Option BookStop → Type 0
IsFullAt made replies None = made ≡ are_replies replies
IsFullAt made replies (Some (booking.Full entries end need)) = IsFirstFull made entries end need
IsFullAt made replies (Some (booking.DiskFault before after)) = ⊥
IsFullAt made replies (Some booking.Memory) = ⊥

-- what was gathered so far
pub record IsGathered (made : List Served) (replies : List Reply) (full : Option BookStop) : Type 0 where
  pub tried : All IsTried made
  pub full_is : IsFullAt made replies full

pub gathered_none : IsGathered [] [] None
gathered_none = record { tried = All-nil IsTried; full_is = refl }

first_stays : (made more : List Served) (entries end need : ℕ) → IsFirstFull made entries end need → IsFirstFull (made ++ more) entries end need
first_stays made more entries end need first =
    let below = get_below made first.at (served.Full entries end need) first.there in
    record {
      at = first.at;
      replies = first.replies;
      ahead = take-append-le first.at made more (omega (arith, below)) ∙ first.ahead;
      there = get_stays made more first.at (served.Full entries end need) first.there;
    }

-- one reply more
pub gathered_reply : (made : List Served) (replies : List Reply) (full : Option BookStop) (reply : Reply) → IsGathered made replies full → IsGathered (made ++ served.Reply reply ∷ []) (replies ++ reply ∷ []) full
gathered_reply made replies full reply so_far = record { tried = All-append IsTried made (served.Reply reply ∷ []) so_far.tried (all_one IsTried (served.Reply reply) tt); full_is = more full so_far.full_is }
  where
    more : (full : Option BookStop) → IsFullAt made replies full → IsFullAt (made ++ served.Reply reply ∷ []) (replies ++ reply ∷ []) full
    more None is = ap (λ (l : List Served). l ++ served.Reply reply ∷ []) is ∙ sym (map-append served.Reply replies (reply ∷ []))
    more (Some (booking.Full entries end need)) is = first_stays made (served.Reply reply ∷ []) entries end need is
    more (Some (booking.DiskFault before after)) is = is
    more (Some booking.Memory) is = is

-- one more that found no room
pub gathered_full : (made : List Served) (replies : List Reply) (full : Option BookStop) (entries end need : ℕ) → IsGathered made replies full
    → IsGathered (made ++ served.Full entries end need ∷ []) replies (if is_none full then Some (booking.Full entries end need) else full)
gathered_full made replies full entries end need so_far =
    record { tried = All-append IsTried made (served.Full entries end need ∷ []) so_far.tried (all_one IsTried (served.Full entries end need) tt); full_is = more full so_far.full_is }
  where
    more : (full : Option BookStop) → IsFullAt made replies full → IsFullAt (made ++ served.Full entries end need ∷ []) replies (if is_none full then Some (booking.Full entries end need) else full)
    more None is = record { at = length made; replies = replies; ahead = take_front made (served.Full entries end need) ∙ is; there = get_at made (served.Full entries end need) [] }
    more (Some (booking.Full n e x)) is = first_stays made (served.Full entries end need ∷ []) n e x is
    more (Some (booking.DiskFault before after)) is = is
    more (Some booking.Memory) is = is

-- ---- a step of the loop over what was made

-- what was gathered of the messages ahead of a place
abbrev pub IsGatheredTo : List Served → ℕ → Option BookStop → Type 0
IsGatheredTo made at full = (replies : List Reply) × IsGathered (take at made) replies full

pub gathered_next-reply : (made : List Served) (at : ℕ) (d : Served) (told : Reply) (full after : Option BookStop) → at < length made → get_or made at d ≡ served.Reply told → after ≡ full
    → IsGatheredTo made at full → IsGatheredTo made (at + 1) after
gathered_next-reply made at d told full after within is same so_far =
    let grown : take (at + 1) made ≡ take at made ++ served.Reply told ∷ [] = take_more made at d within ∙ ap (λ (one : Served). take at made ++ one ∷ []) is in (
      so_far.0 ++ told ∷ [],
      subst (λ (x : List Served × Option BookStop). IsGathered x.0 (so_far.0 ++ told ∷ []) x.1) (λ i. (sym grown i, sym same i)) (gathered_reply (take at made) so_far.0 full told so_far.1),
    )

pub gathered_next-full : (made : List Served) (at : ℕ) (d : Served) (entries end need : ℕ) (full after : Option BookStop) → at < length made → get_or made at d ≡ served.Full entries end need
    → after ≡ (if is_none full then Some (booking.Full entries end need) else full) → IsGatheredTo made at full → IsGatheredTo made (at + 1) after
gathered_next-full made at d entries end need full after within is first so_far =
    let grown : take (at + 1) made ≡ take at made ++ served.Full entries end need ∷ [] = take_more made at d within ∙ ap (λ (one : Served). take at made ++ one ∷ []) is in (
      so_far.0,
      subst (λ (x : List Served × Option BookStop). IsGathered x.0 so_far.0 x.1) (λ i. (sym grown i, sym first i)) (gathered_full (take at made) so_far.0 full entries end need so_far.1),
    )

-- ---- the first message that says that the disk failed

-- no message ahead of a place says so
abbrev pub NoneFailedTo : List Served → ℕ → Type 0
NoneFailedTo made at = SaysFailed (take at made) → ⊥

none_with : (made : List Served) (one : Served) → (SaysFailed made → ⊥) → ((from to : ℕ) → one ≡ served.Stopped (halt.Disk from to) → ⊥) → SaysFailed (made ++ one ∷ []) → ⊥
none_with [] one none other (zero, from, to, there) = other from to (same_Some one (served.Stopped (halt.Disk from to)) there)
none_with [] one none other (suc at, from, to, there) = none-some (served.Stopped (halt.Disk from to)) there
none_with (first ∷ made) one none other (zero, from, to, there) = none (0, from, to, there)
none_with (first ∷ made) one none other (suc at, from, to, there) = none_with made one (λ says. none (suc says.0, says.1, says.2, says.3)) other (at, from, to, there)

pub none_failed : (made : List Served) → NoneFailedTo made 0
none_failed made (at, from, to, there) = none-some (served.Stopped (halt.Disk from to)) there

pub failed_next : (made : List Served) (at : ℕ) (d : Served) → at < length made → disk_fault_of (get_or made at d) ≡ None → NoneFailedTo made at → NoneFailedTo made (at + 1)
failed_next made at d within other none says =
    none_with (take at made) (get_or made at d) none (λ from to is. none-some (booking.DiskFault from to) (sym other ∙ ap disk_fault_of is)) (subst (λ (l : List Served). SaysFailed l) (take_more made at d within) says)

-- what a message tells of the disk
told_by : (one : Served) (stop : BookStop) → disk_fault_of one ≡ Some stop → (from : ℕ) × (to : ℕ) × (one ≡ served.Stopped (halt.Disk from to)) × (booking.DiskFault from to ≡ stop)
told_by (served.Stopped (halt.Disk from to)) stop is = (from, to, refl, same_Some (booking.DiskFault from to) stop is)
told_by (served.Stopped halt.Broken) stop is = absurd (none-some stop is)
told_by (served.Stopped halt.Memory) stop is = absurd (none-some stop is)
told_by (served.Full entries end need) stop is = absurd (none-some stop is)
told_by (served.Reply told) stop is = absurd (none-some stop is)

pub failed_here : (made : List Served) (at : ℕ) (d : Served) (stop : BookStop) (before after : ℕ) → Rose before after → at < length made → disk_fault_of (get_or made at d) ≡ Some stop → NoneFailedTo made at
    → StopsAsServed before after made stop
failed_here made at d stop before after rose within tells none =
    let t = told_by (get_or made at d) stop tells in
    subst (StopsAsServed before after made) t.3 (rose, record { at = at; there = slice_get-get_or made at d within ∙ ap (λ (one : Served). Some one) t.2; ahead = none })
