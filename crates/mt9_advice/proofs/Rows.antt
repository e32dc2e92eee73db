-- The rows of the orders of an MT900 and an MT910.
use Rattle.std.specs.Prelude.{codes}
use Rattle.fin_layout.specs.declared.place.Place.{Place}
use Rattle.fin_layout.specs.Places.{bare, may, one}

-- the row of each field
abbrev pub row_20 : Place
row_20 = one 20 bare

abbrev pub row_21 : Place
row_21 = one 21 bare

abbrev pub row_25 : Place
row_25 = one 25 bare

abbrev pub row_13 : Place
row_13 = may 13 (codes "DDDD")

abbrev pub row_32 : Place
row_32 = one 32 (codes "AAAA")

abbrev pub row_50 : Place
row_50 = may 50 (codes "AFKK")

abbrev pub row_52 : Place
row_52 = may 52 (codes "ADDD")

abbrev pub row_56 : Place
row_56 = may 56 (codes "ADDD")

abbrev pub row_72 : Place
row_72 = may 72 bare
