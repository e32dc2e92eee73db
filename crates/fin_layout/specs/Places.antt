-- Words in which the orders of the message types are written.
use Rattle.std.specs.Prelude.{ℕ, List, true, false, codes}
use Rattle.fin_layout.specs.declared.place.Place.{Place}

-- a place that must be taken once
abbrev pub one : ℕ → List ℕ → Place
one tag options = record { tag = tag; options = options; many = false; must = true }

-- one that may be taken once
abbrev pub may : ℕ → List ℕ → Place
may tag options = record { tag = tag; options = options; many = false; must = false }

-- one that may be taken more than once
abbrev pub any : ℕ → List ℕ → Place
any tag options = record { tag = tag; options = options; many = true; must = false }

-- no letter after the number
abbrev pub bare : List ℕ
bare = codes "    "
