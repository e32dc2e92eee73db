-- One opening of books: what its name names.
use Rattle.std.specs.Prelude.{ℕ, false, List, [], pos}
use Rattle.acct_locks.specs.Sides.{no_table}
use Rattle.corr_books.specs.Opening.{Opening}

-- what a name of an opening is where no call has picked one
abbrev pub no_opening : Opening
no_opening = record {
  accounts = record { home = record { head = []; branch = [] }; first = []; changes = [] };
  base = [];
  day = record { 0 = pos 0 };
  at_open = 0;
  since = 0;
  honest = false;
  made = 0;
  word = no_table;
  most = 1;
}

-- and what a crash before it might have left
abbrev pub no_past : ℕ → List ℕ → Type 0
no_past t image = ⊥
