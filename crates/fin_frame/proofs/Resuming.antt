-- A cutter that goes on where a cutter of pieces stands.
use Rattle.std.proofs.Common.{◌≡◌, ℕ, ◌+◌, true, List, [], ◌++◌, length, take, Some, None, refl, ap, sym, ◌∙◌, arith, subst, length-append}
use Rattle.std.proofs.lemmas.List.{append-nil}
use Rattle.fin_frame.specs.File.{lead}
use Rattle.fin_frame.specs.inner.Machine.{State, at_start, run, state_of}
use Rattle.fin_frame.specs.Cutting.{WasFed}
use Rattle.fin_frame.specs.Pieces.{HasTakenFile}
use Rattle.fin_frame.specs.Whole.{is_led}
use Rattle.fin_frame.specs.declared.cutter.Cutter.{Cutter}
use Rattle.fin_frame.specs.declared.pieces.PieceCutter.{PieceCutter}
use Rattle.fin_frame.specs.declared.stage.Stage.TheVariants.{Between, Within}
use Rattle.fin_frame.proofs.laws.Led.{at_gap, in_message, file-run, lead-run}
use Rattle.fin_frame.proofs.laws.Running.{run-append, state-same}
use Rattle.fin_frame.proofs.Known.{IsAfter, was-fed}
use Rattle.fin_frame.proofs.Leaving.{gap-so}
use Rattle.fin_frame.proofs.WholeFile.{led-bytes}

-- it stands where the machine is after these bytes
stands-fed : (d : Cutter) (fed : List ℕ) (messages : List (List ℕ)) (s : State) → d.failed ≡ None → d.fed ≡ length fed → state_of d messages ≡ s
    → run (at_start []) fed ≡ s → WasFed d fed messages
stands-fed d fed messages s sound count is ran =
    was-fed d fed messages (λ e. count) (subst (λ o. IsAfter o (state_of d messages) fed) (sym sound) (is ∙ sym ran))

-- after a gap
pub gap-resumed : (c : PieceCutter) (d : Cutter) (file : List ℕ) (messages : List (List ℕ)) → HasTakenFile c file messages → c.apart ≡ true
    → d.stage ≡ Between c.marked → d.held ≡ None → d.fed ≡ c.fed → d.begun ≡ c.begun → d.failed ≡ None → WasFed d (file ++ []) messages
gap-resumed c d file messages t apart stage held fed begun failed =
    let s = at_gap (length file) messages c.marked in
    subst (λ x. WasFed d x messages) (sym (append-nil file))
    (stands-fed d file messages s failed (fed ∙ t.fed)
    (state-same (state_of d messages) s stage held (fed ∙ t.fed) (begun ∙ t.begun) failed refl)
    (gap-so (file-run t.is) (sym t.apart ∙ apart) ∙ ap (λ m. at_gap (length file) messages m) (sym t.marked)))

-- with the `{1:` that follows
pub lead-resumed : (c : PieceCutter) (d : Cutter) (file piece : List ℕ) (messages : List (List ℕ)) → HasTakenFile c file messages → is_led piece ≡ true
    → d.stage ≡ Within c.fed 1 → d.held ≡ Some lead → d.fed ≡ c.fed + 3 → d.begun ≡ c.begun + 1 → d.failed ≡ None → WasFed d (file ++ take 3 piece) messages
lead-resumed c d file piece messages t led stage held fed begun failed =
    let s = in_message (length file) 1 lead messages (length file + 3) in
    let size : length (file ++ lead) ≡ length file + 3 = length-append file lead in
    let front : take 3 piece ≡ lead = ap (take 3) (led-bytes piece led) in
    subst (λ x. WasFed d (file ++ x) messages) (sym front)
    (stands-fed d (file ++ lead) messages s failed (omega (arith, fed, t.fed, size))
    (state-same (state_of d messages) s (stage ∙ ap (λ n. Within n 1) t.fed) held (omega (arith, fed, t.fed)) (omega (arith, begun, t.begun)) failed refl)
    (run-append (at_start []) file lead ∙ lead-run (file-run t.is)))
