-- From where bytes leave off to where the machine is.
use Rattle.std.proofs.Common.{◌≡◌, ◌≤◌, ◌⊎◌, ℕ, zero, suc, ◌+◌, ◌||◌, Bool, true, false, List, [], ◌∷◌, ◌++◌, length, take, Option, Some, None, refl, ap, sym, ◌∙◌, arith, subst, inl, inr, append_assoc, length-append}
use Rattle.std.proofs.lemmas.List.{append-nil}
use Rattle.fin_frame.specs.File.{lead}
use Rattle.fin_frame.specs.Shown.{is_marked, stands_apart, ShowsNoFault, AreWhole, Begins, HasBegun, HaveBegun}
use Rattle.fin_frame.specs.inner.Machine.{State, at_start, run, state_of}
use Rattle.fin_frame.specs.Cutting.{IsShown, Knows, LeavesOff, WasFed}
use Rattle.fin_frame.specs.Cutting.LeavesOff.{between as leaves_between, opening as leaves_opening, inside as leaves_inside, after as leaves_after}
use Rattle.fin_frame.specs.declared.cutter.Cutter.{Cutter}
use Rattle.fin_frame.specs.declared.fault.FrameFault.{FrameFault}
use Rattle.fin_frame.specs.declared.fault.FrameFault.TheVariants.{Stray, TooLong, Unbalanced, Memory}
use Rattle.fin_frame.specs.declared.stage.Stage.{Stage}
use Rattle.fin_frame.specs.declared.stage.Stage.TheVariants.{Between, Opening, Within, After}
use Rattle.fin_frame.proofs.laws.Led.{at_gap, in_message, Rests, file-run, message-run, no-more-joined}
use Rattle.fin_frame.proofs.laws.Led.Rests.{rests_apart, rests_after}
use Rattle.fin_frame.proofs.laws.Running.{run-append, run-failed, state-same}
use Rattle.fin_frame.proofs.laws.Showing.{shown-comes}
use Rattle.fin_frame.proofs.Known.{are-whole, have-begun, knows-fault}
use Rattle.fin_frame.proofs.Steps.{run-fed}

-- the machine is at this stage, with this message open and these given, and without a fault
record Comes (stage : Stage) (held : Option (List ℕ)) (given : List (List ℕ)) (s : State) : Type 0 where
  at : s.stage ≡ stage
  open_is : s.held ≡ held
  gave : s.given ≡ given
  sound : s.failed ≡ None

comes-by : (stage : Stage) (held : Option (List ℕ)) (given : List (List ℕ)) (s t : State) → s ≡ t → Comes stage held given t → Comes stage held given s
comes-by stage held given s t same there = subst (λ x. Comes stage held given x) (sym same) there

-- after a gap that stands apart
pub gap-so : {n : ℕ} {messages : List (List ℕ)} {gap : List ℕ} {s : State} → Rests n messages gap s → stands_apart messages gap ≡ true
    → s ≡ at_gap n messages (is_marked messages gap)
gap-so (rests_apart n messages gap far) apart = refl
gap-so (rests_after n from messages message) apart =
    absurd (let e : false ≡ true = sym (ap (λ x. x || false) (no-more-joined messages message)) ∙ apart in cc)

-- after one or two bytes of a `{1:` that stands apart
opens : (k n : ℕ) (messages : List (List ℕ)) (marked : Bool) → k ≤ 1
    → Comes (Opening (suc k)) None messages (run (at_gap n messages marked) (take (suc k) lead))
opens zero n messages marked le = record { at = refl; open_is = refl; gave = refl; sound = refl }
opens (suc zero) n messages marked le = record { at = refl; open_is = refl; gave = refl; sound = refl }
opens (suc (suc k)) n messages marked le = absurd (omega arith)

-- after a whole message and up to two bytes of `{1:`
follows : (k from n : ℕ) (message : List ℕ) (messages : List (List ℕ)) → k ≤ 2
    → Comes (After from k) (Some message) messages (run (in_message from 0 message messages n) (take k lead))
follows zero from n message messages le = record { at = refl; open_is = refl; gave = refl; sound = refl }
follows (suc zero) from n message messages le = record { at = refl; open_is = refl; gave = refl; sound = refl }
follows (suc (suc zero)) from n message messages le = record { at = refl; open_is = refl; gave = refl; sound = refl }
follows (suc (suc (suc k))) from n message messages le = absurd (omega arith)

leaves-come : {bytes : List ℕ} {given : List (List ℕ)} {stage : Stage} {held : Option (List ℕ)} → LeavesOff bytes given stage held
    → Comes stage held given (run (at_start []) bytes)
leaves-come (leaves_between file gap given front far) =
    comes-by (Between (is_marked given gap)) None given (run (at_start []) file) (at_gap (length file) given (is_marked given gap))
    (gap-so (file-run front) far)
    (record { at = refl; open_is = refl; gave = refl; sound = refl })
leaves-come (leaves_opening file gap given n front far le) =
    let s = at_gap (length file) given (is_marked given gap) in
    comes-by (Opening (suc n)) None given (run (at_start []) (file ++ take (suc n) lead)) (run s (take (suc n) lead))
    (run-append (at_start []) file (take (suc n) lead) ∙ ap (λ t. run t (take (suc n) lead)) (gap-so (file-run front) far))
    (opens n (length file) given (is_marked given gap) le)
leaves-come (leaves_inside file gap message given d front inside fits) =
    let s = in_message (length file) (suc d) message given (length file + length message) in
    comes-by (Within (length file) (suc d)) (Some message) given (run (at_start []) (file ++ message)) s
    (run-append (at_start []) file message ∙ message-run inside (file-run front) fits)
    (record { at = refl; open_is = refl; gave = refl; sound = refl })
leaves-come (leaves_after file gap message given n front closed le) =
    let s = in_message (length file) 0 message given (length file + length message) in
    comes-by (After (length file) n) (Some message) given (run (at_start []) (file ++ message ++ take n lead)) (run s (take n lead))
    (run-append (at_start []) (file ++ message) (take n lead)
    ∙ ap (λ t. run t (take n lead)) (run-append (at_start []) file message ∙ message-run closed.0 (file-run front) closed.1))
    (follows n (length file) (length file + length message) message given le)

-- what bytes show that leave off there
pub leaves-show : {bytes : List ℕ} {given : List (List ℕ)} {stage : Stage} {held : Option (List ℕ)} → LeavesOff bytes given stage held
    → ShowsNoFault bytes × AreWhole bytes given
leaves-show {bytes} {given} leaves =
    let there = leaves-come leaves in (
      (λ messages fault shown. let e : Some fault ≡ None = sym (shown-comes shown) ∙ there.sound in cc),
      subst (λ g. AreWhole bytes g) there.gave (are-whole bytes),
    )

-- ---- what bytes show is one

begins-both : (xs ys : List (List ℕ)) → Begins xs ys → Begins ys xs → xs ≡ ys
begins-both xs ys front back = by-rest front.0 front.1
  where
    by-rest : (rest : List (List ℕ)) → ys ≡ xs ++ rest → xs ≡ ys
    by-rest [] same = sym (append-nil xs) ∙ sym same
    by-rest (x ∷ rest) same =
        let there : length ys ≡ length xs + length (x ∷ rest) = ap length same ∙ length-append xs (x ∷ rest) in
        let here : length xs ≡ length ys + length back.0 = ap length back.1 ∙ length-append ys back.0 in
        absurd (omega arith)

-- the messages that bytes show to be whole
whole-same : (bytes : List ℕ) (xs ys : List (List ℕ)) → AreWhole bytes xs → AreWhole bytes ys → xs ≡ ys
whole-same bytes xs ys a b = begins-both xs ys (b.all xs a.shown) (a.all ys b.shown)

begun-most : (bytes : List ℕ) (m n : ℕ) → (m ≡ 0) ⊎ HasBegun bytes m → HaveBegun bytes n → m ≤ n
begun-most bytes m n (inl none) all = omega arith
begun-most bytes m n (inr has) all = all.most m has

-- how many messages have begun in bytes
begun-same : (bytes : List ℕ) (m n : ℕ) → HaveBegun bytes m → HaveBegun bytes n → m ≡ n
begun-same bytes m n a b =
    let le : m ≤ n = begun-most bytes m n a.last b in
    let ge : n ≤ m = begun-most bytes n m b.last a in
    omega arith

-- ---- a cutter and the machine

-- the machine after the bytes that a cutter was fed
pub stands-so : (c : Cutter) (fed : List ℕ) (given : List (List ℕ)) → WasFed c fed given → c.failed ≡ None → state_of c given ≡ run (at_start []) fed
stands-so c fed given was sound =
    let s = run (at_start []) fed in
    let there = leaves-come (was.place sound) in
    let known : Knows None fed given c.begun = subst (λ o. Knows o fed given c.begun) sound was.knows in
    let counted : s.fed ≡ 0 + length fed = run-fed (at_start []) fed there.sound in
    let count : c.fed ≡ length fed = was.count sound in
    let fed_same : c.fed ≡ s.fed = omega arith in
    state-same (state_of c given) s (sym there.at) (sym there.open_is) fed_same (begun-same fed c.begun s.begun known.2 (have-begun fed))
    (sound ∙ sym there.sound) (sym there.gave)

-- ---- after a fault

still-shown : (fault : FrameFault) (fed piece : List ℕ) (given : List (List ℕ)) (begun : ℕ)
    → IsShown fault fed given × AreWhole fed given × HaveBegun fed begun
    → IsShown fault (fed ++ piece) given × AreWhole (fed ++ piece) given × HaveBegun (fed ++ piece) begun
still-shown fault fed piece given begun known =
    let s = run (at_start []) fed in
    let failed : s.failed ≡ Some fault = shown-comes known.0.shown in
    let same : s ≡ run (at_start []) (fed ++ piece) = sym (run-append (at_start []) fed piece ∙ run-failed s fault piece failed) in
    let gave : s.given ≡ given = whole-same fed s.given given (are-whole fed) known.1 in
    let count : s.begun ≡ begun = begun-same fed s.begun begun (have-begun fed) known.2 in
    subst (λ n. IsShown fault (fed ++ piece) given × AreWhole (fed ++ piece) given × HaveBegun (fed ++ piece) n) count
    (subst (λ g. IsShown fault (fed ++ piece) g × AreWhole (fed ++ piece) g × HaveBegun (fed ++ piece) s.begun) gave
    (knows-fault (fed ++ piece) s fault failed same))

-- what is known at a fault stays so, whatever is fed
pub knows-again : (fault : FrameFault) (fed piece : List ℕ) (given : List (List ℕ)) (begun : ℕ) → Knows (Some fault) fed given begun
    → Knows (Some fault) (fed ++ piece) given begun
knows-again (Stray at) fed piece given begun known = still-shown (Stray at) fed piece given begun known
knows-again (TooLong at) fed piece given begun known = still-shown (TooLong at) fed piece given begun known
knows-again (Unbalanced at) fed piece given begun known = still-shown (Unbalanced at) fed piece given begun known
knows-again Memory fed piece given begun known =
    (known.0, (known.1.0 ++ piece, ap (λ x. x ++ piece) known.1.1 ∙ append_assoc known.0 known.1.0 piece), known.2, known.3, known.4)
