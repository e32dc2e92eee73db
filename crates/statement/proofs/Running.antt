-- The movements of a day are the lines of its statement, and the balances after them those of its pages.
use Rattle.std.proofs.Common.{◌≡◌, ℕ, zero, suc, ◌+◌, Bool, true, false, List, [], ◌∷◌, ◌++◌, map, length, take, refl, sym, ap, ◌∙◌, arith, append_assoc, inl, inr, length-append}
use Rattle.std.specs.Ordering.{int_eq}
use Rattle.std.specs.List.{filter}
use Rattle.std.proofs.lemmas.Bool.{cases_Bool}
use Rattle.std.proofs.lemmas.Int.{ints}
use Rattle.std.proofs.lemmas.List.{take_at}
use Rattle.corr_ids.specs.declared.day.Day.{Day}
use Rattle.day_model.specs.Balance.{balance_of}
use Rattle.day_model.specs.Chart.{Chart}
use Rattle.day_model.specs.declared.entry.Entry.{Entry}
use Rattle.day_model.specs.declared.pay.Leg.{Leg}
use Rattle.statement.specs.Index.{is_next_return, movement_of, movements_from}
use Rattle.statement.specs.inner.Index.{last_balance, on_day}
use Rattle.statement.specs.Legs.{before_day, legs_on}
use Rattle.statement.specs.Lines.{Placed, entry_line, is_return, lines_from}
use Rattle.statement.specs.Pages.{balance_after}
use Rattle.statement.specs.Running.{placed_by}
use Rattle.statement.specs.declared.movement.Movement.{Movement}
use Rattle.statement.proofs.Payments.{next-return}

same-day : (a b : Day) → int_eq a.0 b.0 ≡ true → a ≡ b
same-day a b e = let same : a.0 ≡ b.0 = grind (arith, ints) in λ i. record { 0 = same i }

module _ (chart : Chart) (n : ℕ) (day : Day) where
  legs-here : (returned : Bool) (before : List Entry) (entry : Entry) (legs : List Leg) (more : List Movement) → int_eq entry.day.0 day.0 ≡ true → is_next_return chart before entry ≡ returned
      → map placed_by (on_day day (map (movement_of chart n before entry) legs ++ more))
      ≡ map (λ leg. record { place = length before + 1; line = entry_line day (length before + 1) returned entry leg }) legs ++ map placed_by (on_day day more)
  legs-here returned before entry [] more e is = refl
  legs-here returned before entry (leg ∷ legs) more e is =
      let same : entry.day ≡ day = same-day entry.day day e in
      let line : placed_by (movement_of chart n before entry leg) ≡ record { place = length before + 1; line = entry_line day (length before + 1) returned entry leg } =
      λ i. record { place = length before + 1; line = entry_line (same i) (length before + 1) (is i) entry leg } in
      rw e (λ i. line i ∷ legs-here returned before entry legs more e is i)

  legs-away : (before : List Entry) (entry : Entry) (legs : List Leg) (more : List Movement) → int_eq entry.day.0 day.0 ≡ false
      → on_day day (map (movement_of chart n before entry) legs ++ more) ≡ on_day day more
  legs-away before entry [] more e = refl
  legs-away before entry (leg ∷ legs) more e = rw e (legs-away before entry legs more e)

  pub lines-are : (all before entries : List Entry) → all ≡ before ++ entries
      → map placed_by (on_day day (movements_from chart n before entries)) ≡ lines_from (is_return chart all) n day (length before + 1) entries
  lines-are all before [] whole = refl
  lines-are all before (entry ∷ entries) whole =
      let legs : List Leg = legs_on n entry in
      let more : List Movement = movements_from chart n (before ++ entry ∷ []) entries in
      let place : length (before ++ entry ∷ []) + 1 ≡ length before + 1 + 1 = omega (arith, length-append before (entry ∷ [])) in
      let next : all ≡ (before ++ entry ∷ []) ++ entries = whole ∙ sym (append_assoc before (entry ∷ []) entries) in
      let returned : Bool = is_return chart all (length before + 1) in
      let is : is_next_return chart before entry ≡ returned = next-return chart before entries entry all whole in
      let rest : map placed_by (on_day day more) ≡ lines_from (is_return chart all) n day (length before + 1 + 1) entries =
      lines-are all (before ++ entry ∷ []) entries next ∙ ap (λ (k : ℕ). lines_from (is_return chart all) n day k entries) place in
      elim (cases_Bool (int_eq entry.day.0 day.0)) [
        | inl met ↦
            legs-here returned before entry legs more met is
            ∙ ap (λ (ls : List Placed). map (λ leg. record { place = length before + 1; line = entry_line day (length before + 1) returned entry leg }) legs ++ ls) rest
            ∙ rw met refl
        | inr unmet ↦ ap (map placed_by) (legs-away before entry legs more unmet) ∙ rest ∙ rw unmet refl
      ]

-- ---- movements that tell the balance after their place

module _ (chart : Chart) (entries : List Entry) (n : ℕ) where
  abbrev pub Tells : List Movement → Type 0
  Tells [] = Unit {0}
  Tells (movement ∷ movements) = (movement.balance ≡ balance_of chart (take movement.place entries) n) × Tells movements

  pub tells-take : (k : ℕ) (ms : List Movement) → Tells ms → Tells (take k ms)
  tells-take zero ms all = tt
  tells-take (suc k) [] all = tt
  tells-take (suc k) (m ∷ ms) all = (all.0, tells-take k ms all.1)

  pub tells-filter : (p : Movement → Bool) (ms : List Movement) → Tells ms → Tells (filter p ms)
  tells-filter p [] all = tt
  tells-filter p (m ∷ ms) all =
      elim (cases_Bool (p m)) [
        | inl met ↦ rw met (all.0, tells-filter p ms all.1)
        | inr unmet ↦ rw unmet (tells-filter p ms all.1)
      ]

  legs-tell : (before after : List Entry) (entry : Entry) (legs : List Leg) (more : List Movement) → entries ≡ (before ++ entry ∷ []) ++ after → Tells more → Tells (map (movement_of chart n before entry) legs ++ more)
  legs-tell before after entry [] more whole all = all
  legs-tell before after entry (leg ∷ legs) more whole all =
      let front : take (length before + 1) entries ≡ before ++ entry ∷ [] =
      ap (take (length before + 1)) whole ∙ take_at (before ++ entry ∷ []) after (length before + 1) (length-append before (entry ∷ [])) in
      (ap (λ (es : List Entry). balance_of chart es n) (sym front), legs-tell before after entry legs more whole all)

  pub moves-tell : (before after : List Entry) → entries ≡ before ++ after → Tells (movements_from chart n before after)
  moves-tell before [] whole = tt
  moves-tell before (entry ∷ after) whole =
      let next : entries ≡ (before ++ entry ∷ []) ++ after = whole ∙ sym (append_assoc before (entry ∷ []) after) in
      legs-tell before after entry (legs_on n entry) (movements_from chart n (before ++ entry ∷ []) after) next (moves-tell (before ++ entry ∷ []) after next)

  -- the last of them tells the balance
  pub balance-by : (day : Day) (ms : List Movement) → Tells ms → balance_after chart entries n day (map placed_by ms) ≡ last_balance (balance_of chart (before_day day entries) n) ms
  balance-by day [] all = refl
  balance-by day (m ∷ []) all = sym all.0
  balance-by day (m ∷ next ∷ ms) all = balance-by day (next ∷ ms) all.1
