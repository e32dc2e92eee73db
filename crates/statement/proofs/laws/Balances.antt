-- The balances around a day are small, and its lines lead from the one to the other.
use Rattle.std.proofs.Common.{◌≡◌, ℕ, List, map, ◌∙◌, ◌+ℤ◌}
use Rattle.corr_ids.specs.declared.day.Day.{Day}
use Rattle.day_model.specs.Balance.{balance_of}
use Rattle.day_model.specs.Chart.{Chart, IsChart, IsListed, IsSmall}
use Rattle.day_model.specs.declared.entry.Entry.{Entry}
use Rattle.mt950.specs.Joining.{effects_of}
use Rattle.statement.specs.Legs.{before_day}
use Rattle.statement.specs.Lines.{lines_on, up_to_day}
use Rattle.statement.specs.Seen.{IsFront}
use Rattle.statement.proofs.Fine.{before-small, up-to-small}
use Rattle.statement.proofs.Walking.{effects-add}
use Rattle.statement.proofs.laws.Closing.{day-leads}

module _ (chart : Chart) (entries : List Entry) (n : ℕ) (day : Day) where
  -- the balance before a day is below 10^14 in size
  pub small-before : IsChart chart → IsFront chart entries → IsListed chart n → IsSmall (balance_of chart (before_day day entries) n)
  small-before is legal listed = before-small chart entries n day is legal listed

  -- so is the balance after it
  pub small-up-to : IsChart chart → IsFront chart entries → IsListed chart n → IsSmall (balance_of chart (up_to_day day entries) n)
  small-up-to is legal listed = up-to-small chart entries n day is legal listed

  -- the balance before a day and its lines give the balance after it
  pub lines-add : IsFront chart entries → balance_of chart (before_day day entries) n +ℤ effects_of (map (λ p. p.line) (lines_on chart n day entries)) ≡ balance_of chart (up_to_day day entries) n
  lines-add legal =
      let lead = day-leads chart entries n day legal in
      effects-add chart entries n (balance_of chart (before_day day entries) n) (lines_on chart n day entries) lead.walks ∙ lead.end
