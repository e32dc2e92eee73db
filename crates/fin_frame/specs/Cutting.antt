-- A cutter, seen as the bytes that it was fed and the messages that it gave.
use Rattle.std.specs.Prelude.{◌≡◌, ◌≤◌, ℕ, suc, true, List, ◌++◌, length, take, Option, Some, None, Result, Ok, Err}
use Rattle.fin_frame.specs.File.{IsCutInto, IsFileOf, IsMessage, IsMessageTo, lead, most_bytes}
use Rattle.fin_frame.specs.Shown.{Shows, ShowsNoFault, AreWhole, HaveBegun, EndsWithin, Begins, is_marked, stands_apart}
use Rattle.fin_frame.specs.declared.cutter.Cutter.{Cutter}
use Rattle.fin_frame.specs.declared.fault.FrameFault.{FrameFault}
use Rattle.fin_frame.specs.declared.fault.FrameFault.TheVariants.{Unbalanced, Memory}
use Rattle.fin_frame.specs.declared.stage.Stage.{Stage}
use Rattle.fin_frame.specs.declared.stage.Stage.TheVariants.{Between, Opening, Within, After}

-- Where bytes leave off that show no fault, after the messages that are given: in a gap, after one or two bytes of a
-- `{1:` that stands apart, within a message, or after a whole one and up to two bytes of `{1:`. The last two leave a
-- message open.
pub data LeavesOff : List ℕ → List (List ℕ) → Stage → Option (List ℕ) → Type 0 where
  between : (file gap : List ℕ) (given : List (List ℕ)) → IsFileOf file given gap → stands_apart given gap ≡ true → LeavesOff file given (Between (is_marked given gap)) None
  opening : (file gap : List ℕ) (given : List (List ℕ)) (n : ℕ) → IsFileOf file given gap → stands_apart given gap ≡ true → n ≤ 1 → LeavesOff (file ++ take (suc n) lead) given (Opening (suc n)) None
  inside : (file gap message : List ℕ) (given : List (List ℕ)) (d : ℕ) → IsFileOf file given gap → IsMessageTo (suc d) message → length message ≤ most_bytes → LeavesOff (file ++ message) given (Within (length file) (suc d)) (Some message)
  after : (file gap message : List ℕ) (given : List (List ℕ)) (n : ℕ) → IsFileOf file given gap → IsMessage message → n ≤ 2 → LeavesOff (file ++ message ++ take n lead) given (After (length file) n) (Some message)

-- The bytes show this fault and no other. The messages given are the first ones of those before its place.
pub record IsShown (fault : FrameFault) (fed : List ℕ) (given : List (List ℕ)) : Type 0 where
  pub messages : List (List ℕ)
  pub shown : Shows fed messages fault
  pub before : Begins given messages
  pub only : (messages : List (List ℕ)) (other : FrameFault) → Shows fed messages other → other ≡ fault

-- What is known where a call failed so, or didn't. All messages that the bytes show to be whole are given, and all that
-- begun are counted. Where memory was wanting, these are those of some first bytes, which show no fault.
abbrev pub Knows : Option FrameFault → List ℕ → List (List ℕ) → ℕ → Type 0
Knows None fed given begun = ShowsNoFault fed × AreWhole fed given × HaveBegun fed begun
Knows (Some Memory) fed given begun = (front : List ℕ) × Begins front fed × ShowsNoFault front × AreWhole front given × HaveBegun front begun
Knows (Some fault) fed given begun = IsShown fault fed given × AreWhole fed given × HaveBegun fed begun

-- The cutter was fed these bytes since it was made, and gave these messages. Until a fault it has counted the bytes, and
-- stands where they leave off.
pub record WasFed (c : Cutter) (fed : List ℕ) (given : List (List ℕ)) : Type 0 where
  pub count : c.failed ≡ None → c.fed ≡ length fed
  pub place : c.failed ≡ None → LeavesOff fed given c.stage c.held
  pub knows : Knows c.failed fed given c.begun

-- the bytes are a file of these messages, and of no others
pub record IsWholeFile (fed : List ℕ) (messages : List (List ℕ)) : Type 0 where
  pub cut : IsCutInto fed messages
  pub only : (others : List (List ℕ)) → IsCutInto fed others → others ≡ messages
  pub balanced : (at : ℕ) → EndsWithin fed at → ⊥

-- the bytes end within a group of the message at this place, and are no file
pub record IsUnbalanced (fed : List ℕ) (at : ℕ) : Type 0 where
  pub ends : EndsWithin fed at
  pub only : (other : ℕ) → EndsWithin fed other → other ≡ at
  pub no_file : (messages : List (List ℕ)) → IsCutInto fed messages → ⊥

-- what the end of the input comes to, after a fault or none
abbrev pub EndsInput : Option FrameFault → Result (Unit {0}) FrameFault → List ℕ → List (List ℕ) → Type 0
EndsInput (Some fault) result fed all = result ≡ Err fault
EndsInput None (Ok _) fed all = IsWholeFile fed all
EndsInput None (Err Memory) fed all = Unit {0}
EndsInput None (Err (Unbalanced at)) fed all = IsUnbalanced fed at
EndsInput None (Err fault) fed all = ⊥
