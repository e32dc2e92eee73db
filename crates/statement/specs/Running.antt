-- A page by its ledger's movements and a running balance.
use Rattle.std.specs.Prelude.{Some, None}
use Rattle.mt950.specs.declared.entry.Line61.{Line61}
use Rattle.pay_returns.specs.References.{own_reference}
use Rattle.statement.specs.Lines.{Placed, transaction_type, statement_mark, mmdd_of}
use Rattle.statement.specs.declared.movement.Movement.{Movement}

-- a movement as a line
abbrev pub line_by : Movement → Line61
line_by movement = record {
  value = movement.value;
  entry = Some (mmdd_of movement.day);
  mark = statement_mark movement.side movement.returned;
  funds = None;
  amount = movement.amount;
  kind = transaction_type movement.mt;
  reference = movement.reference;
  servicer = Some (own_reference movement.place);
  detail = None;
}

-- a movement as a line with its place
abbrev pub placed_by : Movement → Placed
placed_by movement = record { place = movement.place; line = line_by movement }
