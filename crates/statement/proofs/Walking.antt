-- The lines of a day lead from the balance before it to the balance after it.
use Rattle.std.proofs.Common.{◌≡◌, ℕ, ◌+◌, Bool, true, false, List, [], ◌∷◌, ◌++◌, map, length, take, refl, sym, ap, ◌∙◌, subst, arith, inl, inr, pos, ◌+ℤ◌, ℤ, append_assoc, length-append}
use Rattle.std.specs.Prelude.{◌⊎◌}
use Rattle.std.specs.Ordering.{int_eq}
use Rattle.std.specs.List.{AllByRecursion}
use Rattle.std.proofs.lemmas.Bool.{cases_Bool}
use Rattle.std.proofs.lemmas.Int.{ints}
use Rattle.std.proofs.lemmas.List.{append-nil, take_at}
use Rattle.corr_ids.specs.declared.day.Day.{Day}
use Rattle.day_model.specs.Balance.{balance_of, changed, is_booked}
use Rattle.day_model.specs.Chart.{Chart}
use Rattle.day_model.specs.Fit.{FitsAccounts}
use Rattle.day_model.specs.declared.entry.Entry.{Entry}
use Rattle.day_model.specs.declared.pay.Leg.{Leg}
use Rattle.day_model.specs.declared.pay.Side.{Side}
use Rattle.day_model.specs.declared.pay.Side.TheVariants.{Credit, Debit}
use Rattle.day_model.proofs.laws.Fitting.{fitting}
use Rattle.mt950.specs.Entry.{effect_of, signed_amount}
use Rattle.mt950.specs.Joining.{effects_of}
use Rattle.statement.specs.Legs.{before_day, legs_on}
use Rattle.statement.specs.Lines.{Placed, entry_lines, entry_line, lines_from, statement_mark}
use Rattle.statement.specs.Pages.{balance_after}
use Rattle.statement.proofs.Distinct.{on-one}
use Rattle.statement.proofs.Legs.{one-moves, unmoved}

-- ---- an entry has one leg on an account at most

-- what an entry books on an account: nothing, or one leg
abbrev pub OneLeg : ℕ → Entry → Type 0
OneLeg n entry = (legs_on n entry ≡ []) ⊎ ((leg : Leg) × (leg.account.0 ≡ n) × (legs_on n entry ≡ leg ∷ []))

pub one-leg : (chart : Chart) (n : ℕ) (entry : Entry) → FitsAccounts chart entry.pay → OneLeg n entry
one-leg chart n entry fits =
    elim (cases_Bool (is_booked entry.outcome)) [
      | inl met ↦ rw met (on-one n entry.pay.legs (fitting chart entry.pay.legs fits).apart)
      | inr unmet ↦ inl (rw unmet refl)
    ]

-- ---- a walk along lines

regroup : (a b c : ℤ) → a +ℤ (b +ℤ c) ≡ (a +ℤ b) +ℤ c
regroup a b c = omega (arith, ints)

nothing-more : (a : ℤ) → a +ℤ pos 0 ≡ a
nothing-more a = omega (arith, ints)

-- a side changes a balance as its mark says
as-marked : (side : Side) (returned : Bool) (amount : ℕ) (balance : ℤ) → changed side amount balance ≡ balance +ℤ signed_amount (statement_mark side returned) amount
as-marked Credit true amount balance = refl
as-marked Credit false amount balance = refl
as-marked Debit true amount balance = omega (arith, ints)
as-marked Debit false amount balance = omega (arith, ints)

module _ (chart : Chart) (entries : List Entry) (n : ℕ) where
  -- the balance after the entry at a place
  abbrev pub balance_at : ℕ → ℤ
  balance_at place = balance_of chart (take place entries) n

  -- each line changes the balance by its effect
  abbrev pub Walks : ℤ → List Placed → Type 0
  Walks balance [] = Unit {0}
  Walks balance (p ∷ ps) = (balance_at p.place ≡ balance +ℤ effect_of p.line) × Walks (balance_at p.place) ps

  -- the balance after the last line
  abbrev pub end_of : ℤ → List Placed → ℤ
  end_of balance [] = balance
  end_of balance (p ∷ ps) = end_of (balance_at p.place) ps

  -- lines that lead from one balance to another
  pub record Leads (from : ℤ) (ps : List Placed) (to : ℤ) : Type 0 where
    pub walks : Walks from ps
    pub end : end_of from ps ≡ to

  moves : (before : List Entry) (e : Entry) (m : ℕ) (leg : Leg) → leg.account.0 ≡ m → legs_on m e ≡ leg ∷ [] → balance_of chart (before ++ e ∷ []) m ≡ changed leg.side leg.amount.0 (balance_of chart before m)
  moves before e m leg is only =
      subst (λ (k : ℕ). legs_on k e ≡ leg ∷ [] → balance_of chart (before ++ e ∷ []) k ≡ changed leg.side leg.amount.0 (balance_of chart before k)) is (one-moves chart before e leg) only

  leads-as : (a b : ℤ) (ps qs : List Placed) (c d : ℤ) → a ≡ b → ps ≡ qs → c ≡ d → Leads b qs d → Leads a ps c
  leads-as a b ps qs c d e f g leads = rw (e, f, g) leads

  -- their effects are the difference of these balances
  pub effects-add : (balance : ℤ) (ps : List Placed) → Walks balance ps → balance +ℤ effects_of (map (λ p. p.line) ps) ≡ end_of balance ps
  effects-add balance [] walks = nothing-more balance
  effects-add balance (p ∷ ps) walks =
      let rest : ℤ = effects_of (map (λ p. p.line) ps) in
      regroup balance (effect_of p.line) rest ∙ ap (λ (b : ℤ). b +ℤ rest) (sym walks.0) ∙ effects-add (balance_at p.place) ps walks.1

  pub after-is : (day : Day) (ps : List Placed) → balance_after chart entries n day ps ≡ end_of (balance_of chart (before_day day entries) n) ps
  after-is day [] = refl
  after-is day (p ∷ []) = refl
  after-is day (p ∷ next ∷ ps) = after-is day (next ∷ ps)

  -- the lines of entries of a day lead from the balance before them to that after them
  pub lines-lead : (returned : ℕ → Bool) (day : Day) (before here after : List Entry) → entries ≡ (before ++ here) ++ after → AllByRecursion (λ e. int_eq e.day.0 day.0 ≡ true) here → AllByRecursion (OneLeg n) here
      → Leads (balance_of chart before n) (lines_from returned n day (length before + 1) here) (balance_of chart (before ++ here) n)
  lines-lead returned day before [] after whole on legs = record { walks = tt; end = ap (λ (es : List Entry). balance_of chart es n) (sym (append-nil before)) }
  lines-lead returned day before (e ∷ here) after whole on legs =
      let next : before ++ e ∷ here ≡ (before ++ e ∷ []) ++ here = sym (append_assoc before (e ∷ []) here) in
      let place : length (before ++ e ∷ []) + 1 ≡ length before + 1 + 1 = omega (arith, length-append before (e ∷ [])) in
      let rest : Leads (balance_of chart (before ++ e ∷ []) n) (lines_from returned n day (length (before ++ e ∷ []) + 1) here) (balance_of chart ((before ++ e ∷ []) ++ here) n) =
      lines-lead returned day (before ++ e ∷ []) here after (whole ∙ ap (λ (es : List Entry). es ++ after) next) on.1 legs.1 in
      let lines : entry_lines returned n day (length before + 1) e ≡ map (λ leg. record { place = length before + 1; line = entry_line day (length before + 1) (returned (length before + 1)) e leg }) (legs_on n e) = rw on.0 refl in
      let more : List Placed = lines_from returned n day (length before + 1 + 1) here in
      let same : lines_from returned n day (length (before ++ e ∷ []) + 1) here ≡ more = ap (λ (k : ℕ). lines_from returned n day k here) place in
      let end : balance_of chart (before ++ e ∷ here) n ≡ balance_of chart ((before ++ e ∷ []) ++ here) n = ap (λ (es : List Entry). balance_of chart es n) next in
      elim legs.0 [
        | inl none ↦
            leads-as _ _ _ _ _ _ (sym (unmoved chart before e n none)) (rw (lines, none) (sym same)) end rest
        | inr one ↦
            let leg : Leg = one.0 in
            let line : Placed = record { place = length before + 1; line = entry_line day (length before + 1) (returned (length before + 1)) e leg } in
            let front : take (length before + 1) entries ≡ before ++ e ∷ [] =
            ap (take (length before + 1)) (whole ∙ ap (λ (es : List Entry). es ++ after) next ∙ append_assoc (before ++ e ∷ []) here after)
            ∙ take_at (before ++ e ∷ []) (here ++ after) (length before + 1) (length-append before (e ∷ [])) in
            let there : balance_at (length before + 1) ≡ balance_of chart (before ++ e ∷ []) n = ap (λ (es : List Entry). balance_of chart es n) front in
            let moved : balance_of chart (before ++ e ∷ []) n ≡ balance_of chart before n +ℤ effect_of line.line =
            moves before e n leg one.1 one.2 ∙ as-marked leg.side (returned (length before + 1)) leg.amount.0 (balance_of chart before n) in
            let tail : Leads (balance_at (length before + 1)) more (balance_of chart (before ++ e ∷ here) n) = leads-as _ _ _ _ _ _ there (sym same) end rest in
            leads-as _ _ _ (line ∷ more) _ _ refl (rw (lines, one.2) refl) refl (record { walks = (there ∙ moved, tail.walks); end = tail.end })
      ]
