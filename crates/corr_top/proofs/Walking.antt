-- Lists of steps, put together.
use Rattle.std.proofs.Common.{◌≡◌, ◌⊎◌, ◌||◌, ◌==◌, ℕ, suc, Bool, true, false, cond, List, [], ◌∷◌, ◌++◌, Some, inl, inr, refl, sym, ap, ◌∙◌, subst}
use mathlib.Core.Bool.{true≢false}
use Rattle.std.specs.Prelude.{slice_get}
use Rattle.std.specs.List.{Contains}
use Rattle.std.proofs.lemmas.Bool.{eqb-true}
use Rattle.ref_tables.specs.declared.fault.TableName.TheVariants as names
use Rattle.corr_top.specs.Steps.{Halts, Step, Walks}
use Rattle.corr_top.proofs.promise.Lists.{get_contains}

-- ---- the steps of a list

-- a step stands in a list
abbrev pub Has : List Step → Step → Type 0
Has [] s = ⊥
Has (d ∷ steps) s = (d ≡ s) ⊎ Has steps s

-- what each step of a list has, this one has
pub walked : (has : Step → Type 0) (steps : List Step) (s : Step) → Walks has steps → Has steps s → has s
walked has [] s all at = absurd at
walked has (d ∷ steps) s all (inl is) = subst has is all.0
walked has (d ∷ steps) s all (inr at) = walked has steps s all.1 at

-- ---- a step by its name

-- the kinds of steps
abbrev all_steps : List Step
all_steps =
    Step.sums ∷ Step.make ∷ Step.open_journal ∷ Step.day ∷ Step.messages ∷ Step.serve ∷ Step.received
    ∷ Step.table names.Bics ∷ Step.table names.Ccys ∷ Step.table names.Countries ∷ Step.table names.Accounts ∷ Step.table names.Ssi
    ∷ Step.table names.Charges ∷ Step.change ∷ Step.second ∷ Step.old_journal ∷ Step.copy ∷ Step.sent ∷ Step.make_return ∷ Step.book_return ∷ Step.aside
    ∷ Step.begin ∷ Step.packets ∷ Step.take ∷ []

-- the place of a step among them
abbrev step_place : Step → ℕ
step_place Step.sums = 0
step_place Step.make = 1
step_place Step.open_journal = 2
step_place Step.day = 3
step_place Step.messages = 4
step_place Step.serve = 5
step_place Step.received = 6
step_place (Step.table names.Bics) = 7
step_place (Step.table names.Ccys) = 8
step_place (Step.table names.Countries) = 9
step_place (Step.table names.Accounts) = 10
step_place (Step.table names.Ssi) = 11
step_place (Step.table names.Charges) = 12
step_place Step.change = 13
step_place Step.second = 14
step_place Step.old_journal = 15
step_place Step.copy = 16
step_place Step.sent = 17
step_place Step.make_return = 18
step_place Step.book_return = 19
step_place Step.aside = 20
step_place Step.begin = 21
step_place Step.packets = 22
step_place Step.take = 23

at_place : (s : Step) → slice_get all_steps (step_place s) ≡ Some s
at_place Step.sums = refl
at_place Step.make = refl
at_place Step.open_journal = refl
at_place Step.day = refl
at_place Step.messages = refl
at_place Step.serve = refl
at_place Step.received = refl
at_place (Step.table names.Bics) = refl
at_place (Step.table names.Ccys) = refl
at_place (Step.table names.Countries) = refl
at_place (Step.table names.Accounts) = refl
at_place (Step.table names.Ssi) = refl
at_place (Step.table names.Charges) = refl
at_place Step.change = refl
at_place Step.second = refl
at_place Step.old_journal = refl
at_place Step.copy = refl
at_place Step.sent = refl
at_place Step.make_return = refl
at_place Step.book_return = refl
at_place Step.begin = refl
at_place Step.packets = refl
at_place Step.take = refl
at_place Step.aside = refl

same_step : (d s : Step) → step_place d ≡ step_place s → d ≡ s
same_step d s same = let both : Some d ≡ Some s = sym (at_place d) ∙ ap (λ (n : ℕ). slice_get all_steps n) same ∙ at_place s in cc

-- a list names a step: it computes where both are written out
abbrev pub is_named : Step → List Step → Bool
is_named s [] = false
is_named s (d ∷ steps) = step_place d == step_place s || is_named s steps

named_first : (b : Bool) (s d : Step) (steps : List Step) → (step_place d == step_place s) ≡ b → (b || is_named s steps) ≡ true → (is_named s steps ≡ true → Has steps s) → Has (d ∷ steps) s
named_first true s d steps is named later = inl (same_step d s (eqb-true (step_place d) (step_place s) is))
named_first false s d steps is named later = inr (later named)

pub find : (s : Step) (steps : List Step) → is_named s steps ≡ true → Has steps s
find s [] named = absurd (true≢false (sym named))
find s (d ∷ steps) named = named_first (step_place d == step_place s) s d steps refl named (find s steps)

has_get : (s : Step) (steps : List Step) → Has steps s → (k : ℕ) × (slice_get steps k ≡ Some s)
has_get s [] at = absurd at
has_get s (d ∷ steps) (inl is) = (0, ap (λ (x : Step). Some x) is)
has_get s (d ∷ steps) (inr at) = let later = has_get s steps at in (suc later.0, later.1)

-- what a list names stands in it
pub contained : (s : Step) (steps : List Step) → is_named s steps ≡ true → Contains steps s
contained s steps named = let place = has_get s steps (find s steps named) in get_contains steps place.0 s place.1

-- what each step of a list has, a step that it names has
pub named_has : (has : Step → Type 0) (s : Step) (steps : List Step) → is_named s steps ≡ true → Walks has steps → has s
named_has has s steps named all = walked has steps s all (find s steps named)

-- the steps ahead of the first one of this name
abbrev pub ahead_of : Step → List Step → List Step
ahead_of s [] = []
ahead_of s (d ∷ steps) = cond (step_place d == step_place s) [] (d ∷ ahead_of s steps)

walks_cond : (has : Step → Type 0) (b : Bool) (d : Step) (steps : List Step) → has d → Walks has steps → Walks has (cond b [] (d ∷ steps))
walks_cond has true d steps first all = tt
walks_cond has false d steps first all = (first, all)

pub walks_ahead : (has : Step → Type 0) (s : Step) (steps : List Step) → Walks has steps → Walks has (ahead_of s steps)
walks_ahead has s [] all = tt
walks_ahead has s (d ∷ steps) all = walks_cond has (step_place d == step_place s) d (ahead_of s steps) all.0 (walks_ahead has s steps all.1)

-- with one more step before them
pub walks_more : (has : Step → Type 0) (s d : Step) (steps : List Step) → has d → Walks has (ahead_of s steps) → Walks has (ahead_of s (d ∷ steps))
walks_more has s d steps first all = walks_cond has (step_place d == step_place s) d (ahead_of s steps) first all

-- ---- a front part and the rest

pub walks_both : (has : Step → Type 0) (front back : List Step) → Walks has front → Walks has back → Walks has (front ++ back)
walks_both has [] back first rest = rest
walks_both has (s ∷ front) back first rest = (first.0, walks_both has front back first.1 rest)

-- a front part stops, and what is after it is untouched
pub halts_front : (passes stops untouched : Step → Type 0) (front back : List Step) → Halts passes stops untouched front → Walks untouched back → Halts passes stops untouched (front ++ back)
halts_front passes stops untouched [] back halts rest = absurd halts
halts_front passes stops untouched (s ∷ front) back (inl here) rest = inl (here.0, walks_both untouched front back here.1 rest)
halts_front passes stops untouched (s ∷ front) back (inr later) rest = inr (later.0, halts_front passes stops untouched front back later.1 rest)

-- a front part passed, and a step after it stops
pub halts_back : (passes stops untouched : Step → Type 0) (front back : List Step) → Walks passes front → Halts passes stops untouched back → Halts passes stops untouched (front ++ back)
halts_back passes stops untouched [] back passed halts = halts
halts_back passes stops untouched (s ∷ front) back passed halts = inr (passed.0, halts_back passes stops untouched front back passed.1 halts)

-- both parts of what was passed
pub walks_parts : (has : Step → Type 0) (front back : List Step) → Walks has (front ++ back) → Walks has front × Walks has back
walks_parts has [] back all = (tt, all)
walks_parts has (s ∷ front) back all = let parts = walks_parts has front back all.1 in ((all.0, parts.0), parts.1)

-- what stops does so in the front part, and the rest is untouched; or that passed, and it stops after it
pub halts_parts : (passes stops untouched : Step → Type 0) (front back : List Step) → Halts passes stops untouched (front ++ back)
    → (Halts passes stops untouched front × Walks untouched back) ⊎ (Walks passes front × Halts passes stops untouched back)
halts_parts passes stops untouched [] back halts = inr (tt, halts)
halts_parts passes stops untouched (s ∷ front) back (inl here) = let parts = walks_parts untouched front back here.1 in inl (inl (here.0, parts.0), parts.1)
halts_parts passes stops untouched (s ∷ front) back (inr later) = elim (halts_parts passes stops untouched front back later.1) [
  | inl first ↦ inl (inr (later.0, first.0), first.1)
  | inr second ↦ inr ((later.0, second.0), second.1)
]
