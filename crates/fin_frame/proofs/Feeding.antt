-- Pieces of a file, one after another.
use Rattle.std.proofs.Common.{◌≡◌, ◌≤◌, ℕ, ◌+◌, List, [], ◌++◌, length, take, drop, Some, None, Err, refl, ap, sym, ◌∙◌, arith, subst, append_assoc, length-append}
use Rattle.std.proofs.lemmas.List.{append-nil, take-append-drop, length-take-le}
use Rattle.fin_frame.specs.Shown.{Begins}
use Rattle.fin_frame.specs.inner.Machine.{State, at_start, fails, run, state_of, HasCome, HasTaken, HasTakenAll}
use Rattle.fin_frame.specs.Cutting.{Knows, WasFed}
use Rattle.fin_frame.specs.declared.cutter.Cutter.{Cutter}
use Rattle.fin_frame.specs.declared.fault.FrameFault.{FrameFault}
use Rattle.fin_frame.specs.declared.fault.FrameFault.TheVariants.{Stray, TooLong, Unbalanced, Memory}
use Rattle.fin_frame.proofs.laws.Running.{run-append, run-failed}
use Rattle.fin_frame.proofs.Steps.{run-after, run-fed, after}
use Rattle.fin_frame.proofs.Known.{IsAfter, was-fed}
use Rattle.fin_frame.proofs.Leaving.{knows-again, stands-so}

run-parts : (s : State) (n : ℕ) (rest : List ℕ) → run s rest ≡ run (run s (take n rest)) (drop n rest)
run-parts s n rest = ap (λ x. run s x) (sym (take-append-drop n rest)) ∙ run-append s (take n rest) (drop n rest)

pub took-fed : (s now : State) (n : ℕ) (rest : List ℕ) → n ≤ length rest → now ≡ run s (take n rest) → now.failed ≡ None → now.fed ≡ s.fed + n
took-fed s now n rest fits took sound =
    let counted : (run s (take n rest)).fed ≡ s.fed + length (take n rest) = run-fed s (take n rest) (sym (ap (λ t. t.failed) took) ∙ sound) in
    let size : length (take n rest) ≡ n = length-take-le n rest fits in
    ap (λ t. t.fed) took ∙ counted ∙ ap (λ k. s.fed + k) size

took-fault : (fault : FrameFault) (s all now : State) (rest : List ℕ) → run s (take 1 rest) ≡ fails fault now → run s rest ≡ all → all ≡ fails fault now
took-fault fault s all now rest took later =
    sym later ∙ run-parts s 1 rest ∙ ap (λ t. run t (drop 1 rest)) took ∙ run-failed (fails fault now) fault (drop 1 rest) refl

pub took-later : (old s : State) (piece taken rest : List ℕ) → piece ≡ taken ++ rest → s ≡ run old taken → run s rest ≡ run old piece
took-later old s piece taken rest parts is = ap (λ t. run t rest) is ∙ sym (run-append old taken rest) ∙ ap (λ x. run old x) (sym parts)

pub took-err : (fault : FrameFault) (old s now : State) (piece taken rest : List ℕ) → HasTaken (Err fault) s rest now → piece ≡ taken ++ rest
    → s ≡ run old taken → s.failed ≡ None → HasTakenAll (Err fault) old piece now
took-err (Stray at) old s now piece taken rest took parts is sound =
    took-fault (Stray at) s (run old piece) now rest took (took-later old s piece taken rest parts is)
took-err (TooLong at) old s now piece taken rest took parts is sound =
    took-fault (TooLong at) s (run old piece) now rest took (took-later old s piece taken rest parts is)
took-err (Unbalanced at) old s now piece taken rest took parts is sound =
    took-fault (Unbalanced at) s (run old piece) now rest took (took-later old s piece taken rest parts is)
took-err Memory old s now piece taken rest took parts is sound = (
  taken,
  (rest, parts),
  record { sound = sym (ap (λ t. t.failed) is) ∙ sound; given = took.0 ∙ ap (λ t. t.given) is; begun = took.1 ∙ ap (λ t. t.begun) is },
)

-- bytes taken before, and those that were taken now
pub took-on : (old s now : State) (n : ℕ) (piece taken rest : List ℕ) → piece ≡ taken ++ rest → s ≡ run old taken → now ≡ run s (take n rest)
    → (piece ≡ (taken ++ take n rest) ++ drop n rest) × (now ≡ run old (taken ++ take n rest))
took-on old s now n piece taken rest parts is took = (
  parts ∙ ap (λ x. taken ++ x) (sym (take-append-drop n rest)) ∙ sym (append_assoc taken (take n rest) (drop n rest)),
  took ∙ ap (λ t. run t (take n rest)) is ∙ sym (run-append old taken (take n rest)),
)

abbrev with_given : List (List ℕ) → State → State
with_given given s = record s { given = given }

-- messages that others gave before don't matter
shifted : (c : Cutter) (out : List (List ℕ)) (piece : List ℕ) → run (state_of c out) piece ≡ after out (run (state_of c []) piece)
shifted c out piece = ap (λ g. run (state_of c g) piece) (sym (append-nil out)) ∙ run-after out (state_of c []) piece

further : (c : Cutter) (fed piece : List ℕ) (given : List (List ℕ)) → WasFed c fed given → c.failed ≡ None
    → run (at_start []) (fed ++ piece) ≡ after given (run (state_of c []) piece)
further c fed piece given was sound =
    run-append (at_start []) fed piece ∙ ap (λ t. run t piece) (sym (stands-so c fed given was sound)) ∙ shifted c given piece

abbrev Fed : List (List ℕ) → List (List ℕ) → Cutter → List ℕ → List (List ℕ) → Type 0
Fed out out' c fed given = (gained : List (List ℕ)) × (out' ≡ out ++ gained) × WasFed c fed (given ++ gained)

pub fed-ok : (c c' : Cutter) (out out' : List (List ℕ)) (fed : List ℕ) (given : List (List ℕ)) (piece : List ℕ) → WasFed c fed given → c.failed ≡ None
    → c'.failed ≡ None → state_of c' out' ≡ run (state_of c out) piece → Fed out out' c' (fed ++ piece) given
fed-ok c c' out out' fed given piece was sound sound' same =
    let r = run (state_of c []) piece in
    let there : state_of c' out' ≡ after out r = same ∙ shifted c out piece in
    let moved : state_of c' (given ++ r.given) ≡ run (at_start []) (fed ++ piece) =
    ap (with_given (given ++ r.given)) there ∙ sym (further c fed piece given was sound) in
    let counted : c'.fed ≡ length (fed ++ piece) =
    (let ran : (run (state_of c out) piece).fed ≡ c.fed + length piece = run-fed (state_of c out) piece (sym (ap (λ t. t.failed) same) ∙ sound') in
    let before : c.fed ≡ length fed = was.count sound in
    let now : c'.fed ≡ (run (state_of c out) piece).fed = ap (λ t. t.fed) same in
    omega (arith, length-append fed piece)) in (
      r.given,
      ap (λ t. t.given) there,
      was-fed c' (fed ++ piece) (given ++ r.given) (λ e. counted)
          (subst (λ o. IsAfter o (state_of c' (given ++ r.given)) (fed ++ piece)) (sym sound') moved),
    )

-- a fault that the bytes show: the messages up to it are given
fed-fault : (fault : FrameFault) (c c' d : Cutter) (out out' : List (List ℕ)) (fed : List ℕ) (given : List (List ℕ)) (piece : List ℕ)
    → WasFed c fed given → c.failed ≡ None → ((x : List (List ℕ)) → state_of d x ≡ fails fault (state_of c' x))
    → run (state_of c out) piece ≡ fails fault (state_of c' out')
    → (out' ≡ out ++ (run (state_of c []) piece).given) × (state_of d (given ++ (run (state_of c []) piece).given) ≡ run (at_start []) (fed ++ piece))
fed-fault fault c c' d out out' fed given piece was sound stored took =
    let r = run (state_of c []) piece in
    let there : fails fault (state_of c' out') ≡ after out r = sym took ∙ shifted c out piece in
    (ap (λ t. t.given) there, stored (given ++ r.given) ∙ ap (with_given (given ++ r.given)) there ∙ sym (further c fed piece given was sound))

counts-none : (fault : FrameFault) (d : Cutter) (n : ℕ) → d.failed ≡ Some fault → d.failed ≡ None → d.fed ≡ n
counts-none fault d n failed sound = absurd (let e : Some fault ≡ None = sym failed ∙ sound in cc)

-- a fault that the bytes show: all of them were taken
fed-shown : (fault : FrameFault) (c c' d : Cutter) (out out' : List (List ℕ)) (fed : List ℕ) (given : List (List ℕ)) (piece : List ℕ)
    → WasFed c fed given → c.failed ≡ None → ((x : List (List ℕ)) → state_of d x ≡ fails fault (state_of c' x))
    → run (state_of c out) piece ≡ fails fault (state_of c' out')
    → ((s : State) (bytes : List ℕ) → s ≡ run (at_start []) bytes → IsAfter (Some fault) s bytes) → Fed out out' d (fed ++ piece) given
fed-shown fault c c' d out out' fed given piece was sound stored took is_after =
    let both = fed-fault fault c c' d out out' fed given piece was sound stored took in
    let failed : d.failed ≡ Some fault = ap (λ t. t.failed) (stored []) in
    let gained = (run (state_of c []) piece).given in
    let s = state_of d (given ++ gained) in
    let after_all : IsAfter d.failed s (fed ++ piece) = subst (λ o. IsAfter o s (fed ++ piece)) (sym failed) (is_after s (fed ++ piece) both.1) in
    (gained, both.0, was-fed d (fed ++ piece) (given ++ gained) (counts-none fault d (length (fed ++ piece)) failed) after_all)

pub fed-err : (fault : FrameFault) (c c' d : Cutter) (out out' : List (List ℕ)) (fed : List ℕ) (given : List (List ℕ)) (piece : List ℕ)
    → WasFed c fed given → c.failed ≡ None → ((x : List (List ℕ)) → state_of d x ≡ fails fault (state_of c' x))
    → HasTakenAll (Err fault) (state_of c out) piece (state_of c' out') → Fed out out' d (fed ++ piece) given
fed-err (Stray at) c c' d out out' fed given piece was sound stored took =
    fed-shown (Stray at) c c' d out out' fed given piece was sound stored took (λ s bytes e. e)
fed-err (TooLong at) c c' d out out' fed given piece was sound stored took =
    fed-shown (TooLong at) c c' d out out' fed given piece was sound stored took (λ s bytes e. e)
fed-err (Unbalanced at) c c' d out out' fed given piece was sound stored took =
    fed-shown (Unbalanced at) c c' d out out' fed given piece was sound stored took (λ s bytes e. e)
fed-err Memory c c' d out out' fed given piece was sound stored took =
    let front = took.0 in
    let begins = took.1 in
    let come = took.2 in
    let r = run (state_of c []) front in
    let ahead = further c fed front given was sound in
    let beside = shifted c out front in
    let failed : d.failed ≡ Some Memory = ap (λ t. t.failed) (stored []) in
    let there : HasCome (state_of d (given ++ r.given)) (run (at_start []) (fed ++ front)) = record {
      sound = ap (λ t. t.failed) ahead ∙ sym (ap (λ t. t.failed) beside) ∙ come.sound;
      given = sym (ap (λ t. t.given) ahead);
      begun = ap (λ t. t.begun) (stored []) ∙ come.begun ∙ ap (λ t. t.begun) beside ∙ sym (ap (λ t. t.begun) ahead);
    } in
    let all : Begins (fed ++ front) (fed ++ piece) = (begins.0, ap (λ x. fed ++ x) begins.1 ∙ sym (append_assoc fed front begins.0)) in (
      r.given,
      come.given ∙ ap (λ t. t.given) beside,
      was-fed d (fed ++ piece) (given ++ r.given) (counts-none Memory d (length (fed ++ piece)) failed)
          (subst (λ o. IsAfter o (state_of d (given ++ r.given)) (fed ++ piece)) (sym failed) (fed ++ front, all, there)),
    )

-- after a fault nothing more is known
pub fed-again : (fault : FrameFault) (c : Cutter) (out : List (List ℕ)) (fed : List ℕ) (given : List (List ℕ)) (piece : List ℕ) → WasFed c fed given
    → c.failed ≡ Some fault → Fed out out c (fed ++ piece) given
fed-again fault c out fed given piece was failed =
    let before : Knows (Some fault) fed given c.begun = subst (λ o. Knows o fed given c.begun) failed was.knows in
    let kept : WasFed c (fed ++ piece) given = record {
      count = counts-none fault c (length (fed ++ piece)) failed;
      place = λ sound. absurd (let e : Some fault ≡ None = sym failed ∙ sound in cc);
      knows = subst (λ o. Knows o (fed ++ piece) given c.begun) (sym failed) (knows-again fault fed piece given c.begun before);
    } in
    ([], sym (append-nil out), subst (λ g. WasFed c (fed ++ piece) g) (sym (append-nil given)) kept)
