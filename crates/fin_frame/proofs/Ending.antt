-- The end of a file.
use Rattle.std.proofs.Common.{◌≡◌, ℕ, List, [], ◌++◌, Option, Some, None, Result, Ok, Err, refl, ap, sym, ◌∙◌, subst}
use Rattle.std.proofs.lemmas.List.{append-nil}
use Rattle.fin_frame.specs.inner.Machine.{with_open, unbalanced_at}
use Rattle.fin_frame.specs.Cutting.{WasFed, EndsInput, IsWholeFile, IsUnbalanced}
use Rattle.fin_frame.specs.declared.cutter.Cutter.{Cutter}
use Rattle.fin_frame.specs.declared.fault.FrameFault.{FrameFault}
use Rattle.fin_frame.specs.declared.fault.FrameFault.TheVariants.{Unbalanced}
use Rattle.fin_frame.proofs.Known.{whole-file, is-unbalanced}
use Rattle.fin_frame.proofs.Leaving.{stands-so}

with_open-after : (given : List (List ℕ)) (held : Option (List ℕ)) → with_open given held ≡ given ++ with_open [] held
with_open-after given None = sym (append-nil given)
with_open-after given (Some message) = refl

abbrev Ended : Cutter → List (List ℕ) → List (List ℕ) → Result (Unit {0}) FrameFault → List ℕ → List (List ℕ) → Type 0
Ended c out out' result fed given = (gained : List (List ℕ)) × (out' ≡ out ++ gained) × EndsInput c.failed result fed (given ++ gained)

pub ends-unbalanced : (c : Cutter) (out : List (List ℕ)) (fed : List ℕ) (given : List (List ℕ)) (at : ℕ) → WasFed c fed given → c.failed ≡ None
    → unbalanced_at c.stage c.fed ≡ Some at → Ended c out out (Err (Unbalanced at)) fed given
ends-unbalanced c out fed given at was sound is =
    let same = stands-so c fed given was sound in
    let ends : IsUnbalanced fed at =
    is-unbalanced fed at (sym (ap (λ t. t.failed) same) ∙ sound) (sym (ap (λ t. unbalanced_at t.stage t.fed) same) ∙ is) in
    ([], sym (append-nil out), subst (λ o. EndsInput o (Err (Unbalanced at)) fed (given ++ [])) (sym sound) ends)

pub ends-whole : (c : Cutter) (out out' : List (List ℕ)) (fed : List ℕ) (given : List (List ℕ)) → WasFed c fed given → c.failed ≡ None
    → unbalanced_at c.stage c.fed ≡ None → out' ≡ with_open out c.held → Ended c out out' (Ok tt) fed given
ends-whole c out out' fed given was sound is given_so =
    let same = stands-so c fed given was sound in
    let file : IsWholeFile fed (with_open given c.held) =
    subst (λ t. IsWholeFile fed (with_open t.given t.held)) (sym same)
    (whole-file fed (sym (ap (λ t. t.failed) same) ∙ sound) (sym (ap (λ t. unbalanced_at t.stage t.fed) same) ∙ is)) in
    let all : IsWholeFile fed (given ++ with_open [] c.held) = subst (λ g. IsWholeFile fed g) (with_open-after given c.held) file in
    (with_open [] c.held, given_so ∙ with_open-after out c.held, subst (λ o. EndsInput o (Ok tt) fed (given ++ with_open [] c.held)) (sym sound) all)
