-- What a cutter knows of the bytes that it was fed.
use Rattle.std.proofs.Common.{◌≡◌, ℕ, zero, suc, ◌+◌, ◌-◌, List, [], ◌∷◌, ◌++◌, length, take, Option, Some, None, refl, ap, sym, ◌∙◌, arith, subst}
use Rattle.std.proofs.lemmas.List.{append-nil}
use Rattle.fin_frame.specs.File.{lead, IsFileOf, IsCutInto}
use Rattle.fin_frame.specs.File.IsFileOf.{more as file_more}
use Rattle.fin_frame.specs.Shown.{Shows, ShowsNoFault, EndsWithin, AreWhole, Begins, HaveBegun}
use Rattle.fin_frame.specs.Shown.EndsWithin.{inside as ends_inside, after as ends_after, apart as ends_apart}
use Rattle.fin_frame.specs.inner.Machine.{State, at_start, state_of, with_open, run, unbalanced_at, HasCome}
use Rattle.fin_frame.specs.Cutting.{IsShown, Knows, LeavesOff, WasFed, IsWholeFile, IsUnbalanced}
use Rattle.fin_frame.specs.Cutting.LeavesOff.{between as leaves_between, opening as leaves_opening, inside as leaves_inside, after as leaves_after}
use Rattle.fin_frame.specs.declared.cutter.Cutter.{Cutter}
use Rattle.fin_frame.specs.declared.fault.FrameFault.{FrameFault}
use Rattle.fin_frame.specs.declared.fault.FrameFault.TheVariants.{Stray, TooLong, Unbalanced, Memory}
use Rattle.fin_frame.specs.declared.stage.Stage.TheVariants.{After}
use Rattle.fin_frame.proofs.laws.Showing.{shown-comes, whole-comes, begun-comes, cut-comes, ends-come}
use Rattle.fin_frame.proofs.laws.Tracking.{Tracks, tracks-whole, tracks-begun}
use Rattle.fin_frame.proofs.laws.Tracking.Tracks.{tracks_gap, tracks_opening, tracks_message, tracks_after, tracks_failed}
use Rattle.fin_frame.proofs.Tracked.{all-tracks}

-- where the machine is after the bytes, or, where memory was wanting, after some first ones of them
abbrev pub IsAfter : Option FrameFault → State → List ℕ → Type 0
IsAfter (Some Memory) now fed = (front : List ℕ) × Begins front fed × HasCome now (run (at_start []) front)
IsAfter failed now fed = now ≡ run (at_start []) fed

-- the messages given are all that the bytes show to be whole
pub are-whole : (fed : List ℕ) → AreWhole fed (run (at_start []) fed).given
are-whole fed = record { shown = tracks-whole (all-tracks fed); all = λ others shown. whole-comes shown }

-- all that began are counted
pub have-begun : (fed : List ℕ) → HaveBegun fed (run (at_start []) fed).begun
have-begun fed = record { last = tracks-begun (all-tracks fed); most = λ k begun. begun-comes begun }

-- the fault that the machine came to
tracks-shown : {bytes : List ℕ} {s : State} (fault : FrameFault) → Tracks bytes s → s.failed ≡ Some fault
    → (messages : List (List ℕ)) × Shows bytes messages fault × Begins s.given messages
tracks-shown fault (tracks_gap file gap messages front far) is = cc
tracks-shown fault (tracks_opening file gap messages matched front far le) is = cc
tracks-shown fault (tracks_message file gap message messages d front closed fits) is = cc
tracks-shown fault (tracks_after file gap message messages matched front closed le) is = cc
tracks-shown fault (tracks_failed bytes s messages other shown failed begins whole last) is =
    let same : other ≡ fault = cc in
    (messages, subst (λ f. Shows bytes messages f) same shown, begins)

is-shown : (fed : List ℕ) (fault : FrameFault) → (run (at_start []) fed).failed ≡ Some fault → IsShown fault fed (run (at_start []) fed).given
is-shown fed fault is =
    let found = tracks-shown fault (all-tracks fed) is in
    record {
      messages = found.0;
      shown = found.1;
      before = found.2;
      only = λ messages other shown. let came : Some other ≡ Some fault = sym (shown-comes shown) ∙ is in cc;
    }

-- what is known where the machine came to a fault
pub knows-fault : (fed : List ℕ) (now : State) (fault : FrameFault) → now.failed ≡ Some fault → now ≡ run (at_start []) fed
    → IsShown fault fed now.given × AreWhole fed now.given × HaveBegun fed now.begun
knows-fault fed now fault is same =
    subst (λ t. IsShown fault fed t.given × AreWhole fed t.given × HaveBegun fed t.begun) (sym same)
    (is-shown fed fault (sym (ap (λ t. t.failed) same) ∙ is), are-whole fed, have-begun fed)

pub knows : (failed : Option FrameFault) (fed : List ℕ) (now : State) → now.failed ≡ failed → IsAfter failed now fed → Knows failed fed now.given now.begun
knows None fed now is same =
    subst (λ t. ShowsNoFault fed × AreWhole fed t.given × HaveBegun fed t.begun) (sym same) (
      (λ messages fault shown. let e : Some fault ≡ None = sym (shown-comes shown) ∙ sym (ap (λ t. t.failed) same) ∙ is in cc),
      are-whole fed,
      have-begun fed,
    )
knows (Some (Stray at)) fed now is same = knows-fault fed now (Stray at) is same
knows (Some (TooLong at)) fed now is same = knows-fault fed now (TooLong at) is same
knows (Some (Unbalanced at)) fed now is same = knows-fault fed now (Unbalanced at) is same
knows (Some Memory) fed now is lags = (
  lags.0,
  lags.1,
  (λ messages fault shown. let e : Some fault ≡ None = sym (shown-comes shown) ∙ lags.2.sound in cc),
  subst (λ g. AreWhole lags.0 g) (sym lags.2.given) (are-whole lags.0),
  subst (λ n. HaveBegun lags.0 n) (sym lags.2.begun) (have-begun lags.0),
)

-- where the machine is tells where the bytes leave off
tracks-leave : {bytes : List ℕ} {s : State} → Tracks bytes s → s.failed ≡ None → LeavesOff bytes s.given s.stage s.held
tracks-leave (tracks_gap file gap messages front far) sound = leaves_between file gap messages front far
tracks-leave (tracks_opening file gap messages matched front far le) sound = leaves_opening file gap messages matched front far le
tracks-leave (tracks_message file gap message messages zero front closed fits) sound =
    subst (λ x. LeavesOff x messages (After (length file) 0) (Some message)) (append-nil (file ++ message))
    (leaves_after file gap message messages 0 front (closed, fits) (omega arith))
tracks-leave (tracks_message file gap message messages (suc d) front inside fits) sound = leaves_inside file gap message messages d front inside fits
tracks-leave (tracks_after file gap message messages matched front closed le) sound =
    leaves_after file gap message messages (suc matched) front closed (omega arith)
tracks-leave (tracks_failed bytes s messages fault shown failed begins whole last) sound =
    absurd (let e : None ≡ Some fault = sym sound ∙ failed in cc)

leaves-so : (fed : List ℕ) (now : State) → now ≡ run (at_start []) fed → now.failed ≡ None → LeavesOff fed now.given now.stage now.held
leaves-so fed now same sound =
    subst (λ t. LeavesOff fed t.given t.stage t.held) (sym same) (tracks-leave (all-tracks fed) (sym (ap (λ t. t.failed) same) ∙ sound))

pub was-fed : (c : Cutter) (fed : List ℕ) (given : List (List ℕ)) → (c.failed ≡ None → c.fed ≡ length fed) → IsAfter c.failed (state_of c given) fed
    → WasFed c fed given
was-fed c fed given count stands = record {
  count = count;
  place = λ sound. leaves-so fed (state_of c given) (subst (λ o. IsAfter o (state_of c given) fed) sound stands) sound;
  knows = knows c.failed fed (state_of c given) refl stands;
}

-- the end of the input

tracks-balanced : {bytes : List ℕ} {s : State} → Tracks bytes s → s.failed ≡ None → unbalanced_at s.stage s.fed ≡ None
    → IsCutInto bytes (with_open s.given s.held)
tracks-balanced (tracks_gap file gap messages front far) sound balanced = (gap, front)
tracks-balanced (tracks_opening file gap messages matched front far le) sound balanced = cc
tracks-balanced (tracks_message file gap message messages zero front closed fits) sound balanced = (
  [],
  subst (λ x. IsFileOf x (messages ++ message ∷ []) []) (append-nil (file ++ message))
      (file_more file message [] messages front (closed, fits) (refl, omega arith)),
)
tracks-balanced (tracks_message file gap message messages (suc d) front closed fits) sound balanced = cc
tracks-balanced (tracks_after file gap message messages matched front closed le) sound balanced = cc
tracks-balanced (tracks_failed bytes s messages fault shown failed begins whole last) sound balanced =
    absurd (let e : None ≡ Some fault = sym sound ∙ failed in cc)

tracks-unbalanced : {bytes : List ℕ} {s : State} (at : ℕ) → Tracks bytes s → s.failed ≡ None → unbalanced_at s.stage s.fed ≡ Some at → EndsWithin bytes at
tracks-unbalanced at (tracks_gap file gap messages front far) sound is = cc
tracks-unbalanced at (tracks_opening file gap messages matched front far le) sound is =
    let place : (length file + suc matched) - suc matched ≡ at = cc in
    let same : length file ≡ at = omega arith in
    subst (λ k. EndsWithin (file ++ take (suc matched) lead) k) same (ends_apart matched file front far le)
tracks-unbalanced at (tracks_message file gap message messages zero front closed fits) sound is = cc
tracks-unbalanced at (tracks_message file gap message messages (suc d) front closed fits) sound is =
    let same : length file ≡ at = cc in subst (λ k. EndsWithin (file ++ message) k) same (ends_inside file message front closed)
tracks-unbalanced at (tracks_after file gap message messages matched front closed le) sound is =
    let same : length file ≡ at =
    cc in subst (λ k. EndsWithin (file ++ message ++ take (suc matched) lead) k) same (ends_after matched file message front closed le)
tracks-unbalanced at (tracks_failed bytes s messages fault shown failed begins whole last) sound is =
    absurd (let e : None ≡ Some fault = sym sound ∙ failed in cc)

pub whole-file : (fed : List ℕ) → (run (at_start []) fed).failed ≡ None
    → unbalanced_at (run (at_start []) fed).stage (run (at_start []) fed).fed ≡ None
    → IsWholeFile fed (with_open (run (at_start []) fed).given (run (at_start []) fed).held)
whole-file fed sound balanced = record {
  cut = tracks-balanced (all-tracks fed) sound balanced;
  only = λ others cut. sym (cut-comes cut).all;
  balanced = λ at ends. let e : None ≡ Some at = sym balanced ∙ ends-come ends sound in cc;
}

pub is-unbalanced : (fed : List ℕ) (at : ℕ) → (run (at_start []) fed).failed ≡ None
    → unbalanced_at (run (at_start []) fed).stage (run (at_start []) fed).fed ≡ Some at → IsUnbalanced fed at
is-unbalanced fed at sound is = record {
  ends = tracks-unbalanced at (all-tracks fed) sound is;
  only = λ other ends. let e : Some other ≡ Some at = sym (ends-come ends sound) ∙ is in cc;
  no_file = λ messages cut. let e : None ≡ Some at = sym (cut-comes cut).balanced ∙ is in cc;
}

-- a file has one cut at most
pub one-cut : (file : List ℕ) (a b : List (List ℕ)) → IsCutInto file a → IsCutInto file b → a ≡ b
one-cut file a b cut_a cut_b = sym (cut-comes cut_a).all ∙ (cut-comes cut_b).all
