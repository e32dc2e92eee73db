-- The places of the lines of a day rise.
use Rattle.std.proofs.Common.{ℕ, ◌+◌, ◌≤◌, Bool, List, [], ◌∷◌, ◌++◌, map, arith, inl, inr}
use Rattle.std.specs.Ordering.{int_eq}
use Rattle.std.specs.List.{AllByRecursion}
use Rattle.std.proofs.lemmas.Bool.{cond_both}
use Rattle.corr_ids.specs.declared.day.Day.{Day}
use Rattle.day_model.specs.Chart.{Chart}
use Rattle.day_model.specs.declared.entry.Entry.{Entry}
use Rattle.day_model.specs.declared.pay.Leg.{Leg}
use Rattle.statement.specs.Legs.{legs_on}
use Rattle.statement.specs.Lines.{Placed, entry_line, is_return, lines_from, lines_on}
use Rattle.statement.specs.inner.Lines.{PlacesFrom}
use Rattle.statement.specs.Seen.{IsFront}
use Rattle.statement.proofs.laws.Fronts.{front-fits}
use Rattle.statement.proofs.Walking.{OneLeg, one-leg}
use Rattle.statement.proofs.laws.Closing.{all-at}

places-later : (low more : ℕ) (ps : List Placed) → low ≤ more → PlacesFrom more ps → PlacesFrom low ps
places-later low more [] le up = tt
places-later low more (p ∷ ps) le up = (omega (arith, le, up.0), up.1)

module _ (returned : ℕ → Bool) (n : ℕ) (day : Day) where
  abbrev of_legs : ℕ → Entry → List Leg → List Placed
  of_legs place entry legs = map (λ leg. record { place = place; line = entry_line day place (returned place) entry leg }) legs

  entry-places : (place : ℕ) (entry : Entry) (more : List Placed) → OneLeg n entry → PlacesFrom (place + 1) more → PlacesFrom place (of_legs place entry (legs_on n entry) ++ more)
  entry-places place entry more one up =
      elim one [
        | inl none ↦ rw none (places-later place (place + 1) more (omega arith) up)
        | inr some ↦ rw some.2 (omega arith, up)
      ]

  lines-rise : (place : ℕ) (entries : List Entry) → AllByRecursion (OneLeg n) entries → PlacesFrom place (lines_from returned n day place entries)
  lines-rise place [] all = tt
  lines-rise place (entry ∷ entries) all =
      let more : List Placed = lines_from returned n day (place + 1) entries in
      let up : PlacesFrom (place + 1) more = lines-rise (place + 1) entries all.1 in
      cond_both (int_eq entry.day.0 day.0) (of_legs place entry (legs_on n entry)) [] (λ (ps : List Placed). PlacesFrom place (ps ++ more))
      (λ _. entry-places place entry more all.0 up) (λ _. places-later place (place + 1) more (omega arith) up)

-- the lines of a day name the places of their entries in rising order
pub places-rise : (chart : Chart) (entries : List Entry) (n : ℕ) (day : Day) → IsFront chart entries → PlacesFrom 1 (lines_on chart n day entries)
places-rise chart entries n day legal = lines-rise (is_return chart entries) n day 1 entries (all-at (OneLeg n) entries (λ i e at. one-leg chart n e (front-fits chart entries legal i e at)))
