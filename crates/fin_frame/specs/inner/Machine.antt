-- A cutter as a machine that takes one byte at a time: how its functions hand on to each other. What it promises is in
-- Cutting.
use Rattle.std.specs.Prelude.{◌≡◌, ◌<◌, ◌≤◌, Result, Ok, Err, ℕ, zero, suc, ◌+◌, ◌-◌, ◌==◌, Bool, true, nat_le, List, [], ◌∷◌, ◌++◌, length, take, get_or, Option, Some, None, is_some, unwrap_or, if◌then◌else◌}
use Rattle.corr_text.specs.Braces.{depth_after}
use Rattle.fin_frame.specs.File.{lead, is_blank, is_gap_byte, most_bytes}
use Rattle.fin_frame.specs.Shown.{Begins}
use Rattle.fin_frame.specs.declared.cutter.Cutter.{Cutter}
use Rattle.fin_frame.specs.declared.fault.FrameFault.{FrameFault}
use Rattle.fin_frame.specs.declared.fault.FrameFault.TheVariants.{Stray, TooLong, Memory}
use Rattle.fin_frame.specs.declared.stage.Stage.{Stage}
use Rattle.fin_frame.specs.declared.stage.Stage.TheVariants.{Between, Opening, Within, After}

-- where the bytes led: the message that is open, how many bytes came, how many messages began, a fault, the messages given
pub record State : Type 0 where
  pub stage : Stage
  pub held : Option (List ℕ)
  pub fed : ℕ
  pub begun : ℕ
  pub failed : Option FrameFault
  pub given : List (List ℕ)

-- a cutter beside the messages that it gave
abbrev pub state_of : Cutter → List (List ℕ) → State
state_of c given = record { stage = c.stage; held = c.held; fed = c.fed; begun = c.begun; failed = c.failed; given = given }

-- before the first byte, no `$` may come
abbrev pub at_start : List (List ℕ) → State
at_start given = record { stage = Between true; held = None; fed = 0; begun = 0; failed = None; given = given }

-- one more byte, and nothing else but the stage
abbrev pub to : Stage → State → State
to stage s = record s { stage = stage; fed = s.fed + 1 }

-- the same with a fault
abbrev pub fails : FrameFault → State → State
fails fault s = record s { failed = Some fault }

-- messages given, and one more where one is open
abbrev pub with_open : List (List ℕ) → Option (List ℕ) → List (List ℕ)
with_open given None = given
with_open given (Some message) = given ++ message ∷ []

-- the open message is whole
abbrev pub gives : State → State
gives s = record s { held = None; given = with_open s.given s.held }

-- the open message is given, and one begins with the three bytes up to this one
abbrev pub begins : State → State
begins s = record (gives s) { stage = Within (s.fed - 2) 1; held = Some lead; fed = s.fed + 1; begun = s.begun + 1 }

-- the bytes of the open message
abbrev pub held_bytes : State → List ℕ
held_bytes s = unwrap_or s.held []

-- where a group of the message that begins here leaves so many groups open
abbrev pub landed : ℕ → ℕ → Stage
landed from zero = After from 0
landed from (suc d) = Within from (suc d)

-- the open message goes on by these bytes, which leave d groups open
abbrev pub grows : ℕ → ℕ → List ℕ → State → State
grows from d bytes s = record s { stage = landed from d; held = Some (held_bytes s ++ bytes); fed = s.fed + length bytes }

-- a byte within d groups of the open message
abbrev pub within : ℕ → ℕ → State → ℕ → State
within from d s b = if nat_le most_bytes (length (held_bytes s)) then fails (TooLong from) s else grows from (depth_after d b) (b ∷ []) s

-- bytes of `{1:` that another byte follows are the open message's own
abbrev pub resumes : ℕ → ℕ → State → State
resumes from matched s = record s { stage = Within from 1; held = Some (held_bytes s ++ take matched lead) }

-- where the byte after one between messages stands, none where that one can't come
abbrev pub stage_between : Bool → ℕ → Option Stage
stage_between marked b =
    if b == 123 then Some (Opening 1)
    else if b == 36 then (if marked then None else Some (Between true))
    else if is_blank b then Some (Between marked)
    else None

-- on to that stage
abbrev pub moves : Option Stage → State → State
moves (Some stage) s = to stage s
moves None s = fails (Stray s.fed) s

-- a byte between messages
abbrev pub next_between : Bool → State → ℕ → State
next_between marked s b = moves (stage_between marked b) s

-- the second or third byte of a `{1:` that stands apart
abbrev pub next_opening : ℕ → State → ℕ → State
next_opening matched s b =
    if b == get_or lead matched 0 then (if matched == 2 then begins s else to (Opening (matched + 1)) s)
    else fails (Stray (s.fed - matched)) s

-- the byte after a message that is whole
abbrev pub next_close : State → ℕ → State
next_close s b = if is_gap_byte b then to (Between (b == 36)) (gives s) else fails (Stray s.fed) s

-- a byte after a group of the open message
abbrev pub next_after : ℕ → ℕ → State → ℕ → State
next_after from matched s b =
    if b == get_or lead matched 0 then (if matched == 2 then begins s else to (After from (matched + 1)) s)
    else if matched == 0 then next_close s b
    else within from 1 (resumes from matched s) b

-- a byte at this stage
abbrev pub next_at : Stage → State → ℕ → State
next_at (Between marked) s b = next_between marked s b
next_at (Opening matched) s b = next_opening matched s b
next_at (Within from d) s b = within from d s b
next_at (After from matched) s b = next_after from matched s b

-- one byte; after a fault nothing changes
abbrev pub next : State → ℕ → State
next s b = if is_some s.failed then s else next_at s.stage s b

-- the place of the message within a group of which the input would end here
abbrev pub unbalanced_at : Stage → ℕ → Option ℕ
unbalanced_at (Between marked) fed = None
unbalanced_at (Opening matched) fed = Some (fed - matched)
unbalanced_at (Within from d) fed = Some from
unbalanced_at (After from zero) fed = None
unbalanced_at (After from (suc matched)) fed = Some from

-- bytes in turn
abbrev pub run : State → List ℕ → State
run s [] = s
run s (b ∷ bytes) = run (next s b) bytes

-- what a call that took bytes from the front of rest left
abbrev pub HasTaken : Result ℕ FrameFault → State → List ℕ → State → Type 0
HasTaken (Ok n) old rest now = (0 < n) × (n ≤ length rest) × (now ≡ run old (take n rest))
HasTaken (Err Memory) old rest now = (now.given ≡ old.given) × (now.begun ≡ old.begun)
HasTaken (Err fault) old rest now = run old (take 1 rest) ≡ fails fault now

-- the same of a call that took one byte, where this is the state after it
abbrev pub HasTakenByte : Result ℕ FrameFault → State → State → State → Type 0
HasTakenByte (Ok n) old after now = (n ≡ 1) × (now ≡ after)
HasTakenByte (Err Memory) old after now = (now.given ≡ old.given) × (now.begun ≡ old.begun)
HasTakenByte (Err fault) old after now = after ≡ fails fault now

-- as many messages given and begun as in a state without a fault
pub record HasCome (now there : State) : Type 0 where
  pub sound : there.failed ≡ None
  pub given : now.given ≡ there.given
  pub begun : now.begun ≡ there.begun

-- what a call that took all these bytes left
abbrev pub HasTakenAll : Result (Unit {0}) FrameFault → State → List ℕ → State → Type 0
HasTakenAll (Ok _) old bytes now = now ≡ run old bytes
HasTakenAll (Err Memory) old bytes now = (front : List ℕ) × Begins front bytes × HasCome now (run old front)
HasTakenAll (Err fault) old bytes now = run old bytes ≡ fails fault now
