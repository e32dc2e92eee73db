-- Message files: what their bytes show, and what a cutter that was fed them knows.
use Rattle.std.proofs.Common.{◌≡◌, ℕ, ◌+◌, ◌-◌, ◌<◌, ◌≤◌, ◌⊎◌, inl, inr, List, [], ◌∷◌, ◌++◌, length, take, drop, Some, None, Result, Ok, Err, refl, sym, ap, ◌∙◌, subst, arith, append_assoc, length-append}
use Rattle.std.specs.Prelude.{All, IfOk, IsErr}
use Rattle.std.specs.List.{position, position_or_len}
use Rattle.std.proofs.lemmas.List.{append-nil, length-take-le, take-append-drop}
use Rattle.std.proofs.lemmas.Bool.{cases_lt}
use Rattle.std.proofs.lemmas.Bool.Decides.{nat_tests}
use Rattle.std.proofs.lemmas.List.Elements.{All-append, All-cons}
use Rattle.std.proofs.lemmas.List.Quantifiers.{position-Some}
use Rattle.std.proofs.lemmas.List.Sums.{fails_before_first}
use Rattle.std.proofs.lemmas.Option.{none-some}
use Rattle.fin_frame.specs.Cutting.{EndsInput, Knows, WasFed}
use Rattle.fin_frame.specs.File.{IsCutInto, IsFileOf, lead}
use Rattle.fin_frame.specs.File.IsFileOf.{start as file_start, more as file_more}
use Rattle.fin_frame.specs.inner.Machine.{State, at_start, run}
use Rattle.fin_frame.specs.Shown.{HasBegun, HaveBegun}
use Rattle.fin_frame.specs.inner.Shown.{HasNoColon, is_colon}
use Rattle.fin_frame.specs.Shown.HasBegun.{begun as has_begun}
use Rattle.fin_frame.specs.declared.cutter.Cutter.{Cutter}
use Rattle.fin_frame.specs.declared.fault.FrameFault.{FrameFault}
use Rattle.fin_frame.proofs.laws.Counting.{begun-few, begun-quiet}
use Rattle.fin_frame.proofs.laws.Led.{Rests, file-run, message-leads}
use Rattle.fin_frame.proofs.laws.Led.Rests.{rests_apart, rests_after}
use Rattle.fin_frame.proofs.laws.Running.{run-append, run-failed}
use Rattle.fin_frame.proofs.laws.Showing.{begun-comes, cut-comes, ends-come, shown-comes}
use Rattle.fin_frame.proofs.laws.Tracking.{begun-more}
use Rattle.corr_io.specs.declared.source.Source as sources
use Rattle.corr_top.specs.declared.cutting.FileStop.{FileStop}
use Rattle.corr_top.specs.declared.cutting.FileStop.TheVariants as stop_of
use Rattle.corr_top.specs.inner.Feeding.{HasPassed, StopsFeeding}
use Rattle.corr_top.specs.MessageFile.{IsMessageFile, IsPassed, IsPast, IsTooLarge, IsUncut, StopsCutting, most_message_bytes}
use Rattle.corr_top.specs.Passing.{StopsAtMessages}
use Rattle.corr_top.specs.Reading.{Took}
use Rattle.corr_top.specs.inner.Reading.{IsStopped}
use Rattle.corr_top.specs.inner.Stops.{file_stop_of_read}
use Rattle.corr_top.specs.declared.reading.ReadStop.{ReadStop}
use Rattle.corr_top.specs.declared.reading.ReadStop.TheVariants as reading

-- ---- limits

past-more : (bytes more : List ℕ) → IsPast bytes → IsPast (bytes ++ more)
past-more bytes more (inl long) = inl (let e = length-append bytes more in omega arith)
past-more bytes more (inr begun) = inr (begun.0, begun.1, begun-more more begun.2)

-- ---- what a call of the cutter tells

-- a cutter that was made now
pub starts : (c : Cutter) (given : List (List ℕ)) → WasFed c [] [] → c.failed ≡ None → given ≡ [] → HasPassed c [] given
starts c given was sound none = record { was = subst (λ g. WasFed c [] g) (sym none) was; sound = sound; within = nothing }
  where
    nothing : IsPast [] → ⊥
    nothing (inl long) = omega arith
    nothing (inr begun) = let k = begun-comes begun.2 in let over = begun.1 in omega arith

-- ---- how cutting in pieces stops

-- a piece and what is after it
pub parted : (n : ℕ) (rest piece after : List ℕ) → piece ≡ take n rest → after ≡ drop n rest → piece ++ after ≡ rest
parted n rest piece after front back = ap (λ l. l ++ after) front ∙ ap (λ l. take n rest ++ l) back ∙ take-append-drop n rest

-- how many bytes of a file there are up to and with a piece
pub counted : (fed piece after rest file : List ℕ) → piece ++ after ≡ rest → fed ++ rest ≡ file → length file - length after ≡ length (fed ++ piece)
counted fed piece after rest file parts whole =
    let a = ap length whole in let b = length-append fed rest in let d = ap length parts in let e = length-append piece after in let f = length-append fed piece in omega arith

is-passed : (c : Cutter) (fed : List ℕ) (given : List (List ℕ)) → HasPassed c fed given → IsPassed fed
is-passed c fed given so_far = record { sound = (subst (λ o. Knows o fed given c.begun) so_far.sound so_far.was.knows).0; within = so_far.within }

large-here : (c : Cutter) (file fed rest : List ℕ) (given : List (List ℕ)) (bytes messages : ℕ) → HasPassed c fed given → fed ++ rest ≡ file → 0 < length rest → StopsFeeding (fed ++ take 1 rest) (stop_of.TooLarge bytes messages) → IsTooLarge file bytes messages
large-here c file fed [] given bytes messages so_far whole some stop = absurd (omega arith)
large-here c file fed (b ∷ rest) given bytes messages so_far whole some stop = record {
  passed = fed;
  byte = b;
  rest = rest;
  file_is = sym whole;
  before = is-passed c fed given so_far;
  past = stop.1;
  bytes_are = stop.0 ∙ length-append fed (b ∷ []);
  begun = stop.2;
}

-- where the bytes pass no limit, no message past the last that is allowed has begun
few-so-far : (fed : List ℕ) (begun : ℕ) → (IsPast fed → ⊥) → HaveBegun fed begun → 50000 < begun → ⊥
few-so-far fed begun within have over = by have.last
  where
    by : (begun ≡ 0) ⊎ HasBegun fed begun → ⊥
    by (inl none) = omega (arith, none, over)
    by (inr has) = within (inr (begun, over, has))

-- a piece of so few bytes passes no limit
within-limits : (fed rest : List ℕ) (n begun : ℕ) → (IsPast fed → ⊥) → HaveBegun fed begun → length (take n rest) ≡ n → length fed + n ≤ 67108864 → (begun < 50000 → begun + n ≤ 50000) → (50000 ≤ begun → HasNoColon n rest)
    → IsPast (fed ++ take n rest) → ⊥
within-limits fed rest n begun within have size short few quiet (inl long) = let e = length-append fed (take n rest) in omega (arith, e, size, short, long)
within-limits fed rest n begun within have size short few quiet (inr more) =
    elim (cases_lt begun 50000) [
      | inl less ↦ let most = begun-few fed (take n rest) have more.2 in omega (arith, most, more.1, size, few less)
      | inr all ↦ few-so-far fed begun within have (omega (arith, begun-quiet fed rest n (quiet all) have more.2, more.1))
    ]

-- what a cutter that passed tells of the messages begun
pub have-begun : (c : Cutter) (fed : List ℕ) (given : List (List ℕ)) (begun : ℕ) → HasPassed c fed given → Knows c.failed fed given begun → HaveBegun fed begun
have-begun c fed given begun so_far knows = (subst (λ o. Knows o fed given begun) so_far.sound knows).2

-- a piece stops: one of one byte at it, and a longer one by a fault alone
pub stops-here : (c : Cutter) (file fed rest : List ℕ) (n begun : ℕ) (given : List (List ℕ)) (s : FileStop) → HasPassed c fed given → fed ++ rest ≡ file → HaveBegun fed begun → 0 < n → n ≤ length rest
    → (1 < n → (length fed + n ≤ 67108864) × (begun < 50000 → begun + n ≤ 50000) × (50000 ≤ begun → HasNoColon n rest)) → StopsFeeding (fed ++ take n rest) s → StopsCutting file s
stops-here c file fed rest n begun given (stop_of.TooLarge bytes messages) so_far whole have some fits within stop =
    elim (cases_lt 1 n) [
      | inl long ↦
          let size : length (take n rest) ≡ n = length-take-le n rest fits in
          absurd (within-limits fed rest n begun so_far.within have size (within long).0 (within long).1 (within long).2 stop.1)
      | inr short ↦
          let one : n ≡ 1 = omega (arith, some, short) in
          large-here c file fed rest given bytes messages so_far whole (omega (arith, some, fits)) (subst (λ k. StopsFeeding (fed ++ take k rest) (stop_of.TooLarge bytes messages)) one stop)
    ]
stops-here c file fed rest n begun given (stop_of.Framing at) so_far whole have some fits within stop = inl (record { front = fed ++ take n rest; rest = drop n rest; file_is = parts; fault = stop })
  where
    parts : file ≡ (fed ++ take n rest) ++ drop n rest
    parts = sym whole ∙ ap (λ l. fed ++ l) (sym (take-append-drop n rest)) ∙ sym (append_assoc fed (take n rest) (drop n rest))
stops-here c file fed rest n begun given stop_of.Memory so_far whole have some fits within stop = tt
stops-here c file fed rest n begun given (stop_of.Fault x y) so_far whole have some fits within stop = stop

-- ---- the first colon

pub colon-ahead : (xs : List ℕ) (at : ℕ) → Some at ≡ position is_colon xs → HasNoColon at xs
colon-ahead xs at found = (position-Some is_colon xs at 0 (sym found)).2

pub no-colon : (xs : List ℕ) → None ≡ position is_colon xs → HasNoColon (length xs) xs
no-colon xs none =
    let all : length xs ≤ position_or_len is_colon xs = grind (arith, nat_tests) in
    λ k l. fails_before_first is_colon xs k 0 (omega (arith, all, l))

-- ---- the end of the file

whole-so : (fed rest file : List ℕ) → fed ++ rest ≡ file → length rest ≡ 0 → fed ≡ file
whole-so fed [] file whole none = sym (append-nil fed) ∙ whole
whole-so fed (b ∷ rest) file whole none = absurd (omega arith)

-- the messages of a file begin in it
messages-begin : {file : List ℕ} {messages : List (List ℕ)} {gap : List ℕ} → IsFileOf file messages gap → (length messages ≡ 0) ⊎ HasBegun file (length messages)
messages-begin (file_start gap) = inl refl
messages-begin (file_more file message gap messages front is after) =
    inr (subst (λ k. HasBegun (file ++ message ++ gap) k) (sym (length-append messages (message ∷ [])))
    (subst (λ x. HasBegun x (length messages + 1)) parts (has_begun file (drop 3 message ++ gap) messages front)))
  where
    parts : file ++ lead ++ (drop 3 message ++ gap) ≡ file ++ message ++ gap
    parts = sym (append_assoc (file ++ lead) (drop 3 message) gap) ∙ ap (λ l. l ++ gap) (append_assoc file lead (drop 3 message)) ∙ ap (λ l. file ++ l ++ gap) (sym (message-leads is.0))

few-messages : (file : List ℕ) (messages : List (List ℕ)) → (IsPast file → ⊥) → (length messages ≡ 0) ⊎ HasBegun file (length messages) → (50000 < length messages) ⊎ (length messages ≤ 50000) → length messages ≤ 50000
few-messages file messages within begin (inr few) = few
few-messages file messages within (inl none) (inl many) = omega arith
few-messages file messages within (inr has) (inl many) = absurd (within (inr (length messages, many, has)))

short-file : (file : List ℕ) → (IsPast file → ⊥) → (67108864 < length file) ⊎ (length file ≤ 67108864) → length file ≤ 67108864
short-file file within (inr short) = short
short-file file within (inl long) = absurd (within (inl long))

message-file : (file : List ℕ) (messages : List (List ℕ)) → IsCutInto file messages → (IsPast file → ⊥) → IsMessageFile file messages
message-file file messages cut within = record {
  cut = cut;
  short = short-file file within (cases_lt 67108864 (length file));
  few = few-messages file messages within (messages-begin cut.1) (cases_lt 50000 (length messages));
}

pub cut-at-end : (c : Cutter) (file fed rest : List ℕ) (given all : List (List ℕ)) → HasPassed c fed given → fed ++ rest ≡ file → length rest ≡ 0 → EndsInput c.failed (Ok tt) fed all → IsMessageFile file all
cut-at-end c file fed rest given all so_far whole none ends =
    let same = whole-so fed rest file whole none in
    let cut = (subst (λ o. EndsInput o (Ok tt) fed all) so_far.sound ends).cut in
    subst (λ f. IsMessageFile f all) same (message-file fed all cut so_far.within)

-- ---- how taking a file stops

-- a file that couldn't be read stops its command so, whatever its bytes are
pub stops_reading : {S : Type 0} (source : sources.Ghosts S) (old new : S) (bytes : List ℕ) (stop : ReadStop) → IsStopped source.faults old new stop → StopsAtMessages source old new bytes (file_stop_of_read stop)
stops_reading source old new bytes (reading.Fault then now) stopped = stopped
stops_reading source old new bytes reading.Memory stopped = stopped

-- a file that was read stops its command as cutting it stops
pub stops_cutting : {S : Type 0} (source : sources.Ghosts S) (old new : S) (bytes : List ℕ) (stop : FileStop) → Took source.left source.faults most_message_bytes old new bytes → StopsCutting bytes stop
    → StopsAtMessages source old new bytes stop
stops_cutting source old new bytes (stop_of.TooLarge count messages) took stops = (took, stops)
stops_cutting source old new bytes (stop_of.Framing at) took stops = (took, stops)
stops_cutting source old new bytes stop_of.Memory took stops = took.kept
stops_cutting source old new bytes (stop_of.Fault then now) took stops = absurd stops

-- ---- the messages of a file are short

pub short-messages : {file : List ℕ} {messages : List (List ℕ)} {gap : List ℕ} → IsFileOf file messages gap → All (λ m. length m ≤ 16384) messages
short-messages (file_start gap) = λ k d within. absurd (omega arith)
short-messages (file_more file message gap messages front is after) =
    All-append (λ m. length m ≤ 16384) messages (message ∷ []) (short-messages front) (All-cons (λ m. length m ≤ 16384) message [] is.1 (λ k d within. absurd (omega arith)))

pub all-short : (file : List ℕ) (messages : List (List ℕ)) → IsMessageFile file messages → All (λ m. length m ≤ 16384) messages
all-short file messages is = short-messages is.cut.1

-- ---- a file of messages has no fault

rests-begun : {n : ℕ} {messages : List (List ℕ)} {gap : List ℕ} {s : State} → Rests n messages gap s → s.begun ≡ length messages
rests-begun (rests_apart n messages gap far) = refl
rests-begun (rests_after n from messages message) = sym (length-append messages (message ∷ []))

few-begun : (file : List ℕ) (messages : List (List ℕ)) (n : ℕ) → IsCutInto file messages → HasBegun file n → n ≤ length messages
few-begun file messages n cut has = let k = begun-comes has in let same = rests-begun (file-run cut.1) in omega arith

not-large : (file : List ℕ) (messages : List (List ℕ)) → IsMessageFile file messages → IsPast file → ⊥
not-large file messages is (inl long) = let short = is.short in omega arith
not-large file messages is (inr begun) = let k = few-begun file messages begun.0 is.cut begun.2 in let over = begun.1 in let few = is.few in omega arith

still-failed : (front rest : List ℕ) (fault : FrameFault) → (run (at_start []) front).failed ≡ Some fault → (run (at_start []) (front ++ rest)).failed ≡ Some fault
still-failed front rest fault failed =
    ap (λ t. t.failed) (run-append (at_start []) front rest ∙ run-failed (run (at_start []) front) fault rest failed) ∙ failed

not-uncut : (file : List ℕ) (messages : List (List ℕ)) (at : ℕ) → IsCutInto file messages → IsUncut file at → ⊥
not-uncut file messages at cut (inl shows) =
    let f = shows.fault in
    let failed : (run (at_start []) file).failed ≡ Some f.fault = subst (λ x. (run (at_start []) x).failed ≡ Some f.fault) (sym shows.file_is) (still-failed shows.front shows.rest f.fault (shown-comes f.shown)) in
    none-some f.fault (sym (cut-comes cut).sound ∙ failed)
not-uncut file messages at cut (inr ends) =
    none-some at (sym (cut-comes cut).balanced ∙ ends-come ends.ends (cut-comes cut).sound)

pub no-fault : (file : List ℕ) (messages : List (List ℕ)) (s : FileStop) → IsMessageFile file messages → StopsCutting file s → s ≡ stop_of.Memory
no-fault file messages (stop_of.TooLarge bytes n) is large =
    absurd (not-large file messages is (subst IsPast (append_assoc large.passed (large.byte ∷ []) large.rest ∙ sym large.file_is) (past-more (large.passed ++ large.byte ∷ []) large.rest large.past)))
no-fault file messages (stop_of.Framing at) is uncut = absurd (not-uncut file messages at is.cut uncut)
no-fault file messages stop_of.Memory is stop = refl
no-fault file messages (stop_of.Fault x y) is stop = absurd stop

-- what can't have an answer fails
pub err_of : {A E : Type 0} (P : A → Type 0) (r : Result A E) → IfOk r P → ((x : A) → P x → ⊥) → IsErr r
err_of P (Ok x) holds none = absurd (none x holds)
err_of P (Err e) holds none = refl
