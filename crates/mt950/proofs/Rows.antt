-- The rows of the order of an MT950.
use Rattle.std.specs.Prelude.{codes}
use Rattle.fin_layout.specs.declared.place.Place.{Place}
use Rattle.fin_layout.specs.Places.{any, bare, may, one}

-- the row of each field
abbrev pub row_20 : Place
row_20 = one 20 bare

abbrev pub row_25 : Place
row_25 = one 25 bare

abbrev pub row_28 : Place
row_28 = one 28 (codes "CCCC")

abbrev pub row_60 : Place
row_60 = one 60 (codes "FMMM")

abbrev pub row_61 : Place
row_61 = any 61 bare

abbrev pub row_62 : Place
row_62 = one 62 (codes "FMMM")

abbrev pub row_64 : Place
row_64 = may 64 bare
