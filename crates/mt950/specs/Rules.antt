-- The rules on the currencies of a page's balances.
use Rattle.std.specs.Prelude.{◌&&◌, Bool, true, List, [], ◌∷◌, take, codes, Option}
use Rattle.std.specs.Option.{option_map_or}
use Rattle.std.specs.Str.{bytes_eq}
use Rattle.corr_text.specs.Codes.{code}
use Rattle.corr_text.specs.First.{unless}
use Rattle.corr_text.specs.declared.fault.Fault.{Fault}
use Rattle.corr_money.specs.declared.amount.Ccy.{Ccy}
use Rattle.mt950.specs.declared.said.Said.{Said}

-- two currencies begin with the same two letters
abbrev pub same_two_letters : Ccy → Ccy → Bool
same_two_letters a b = bytes_eq (take 2 a.0) (take 2 b.0)

-- two currencies are the same
abbrev pub is_same : Ccy → Ccy → Bool
is_same a b = bytes_eq a.0 b.0

-- the currency of 64, where there is one, stands so to that of 60a
abbrev pub of_available : (Ccy → Ccy → Bool) → Said → Bool
of_available test said = option_map_or (λ stated. test said.opening.ccy stated.ccy) said.available true

-- C27: the first two letters of the currencies of 60a, 62a and 64 differ
abbrev pub c27 : Said → Option Fault
c27 said = unless (same_two_letters said.opening.ccy said.closing.ccy && of_available same_two_letters said) (record { code = code "C27"; tag = codes "62 "; nth = 1 })

-- P24: the whole currency of 62a is another than that of 60a
abbrev pub other_closing : Said → Option Fault
other_closing said = unless (is_same said.opening.ccy said.closing.ccy) (record { code = code "P24"; tag = codes "62 "; nth = 1 })

-- P24: that of 64 is
abbrev pub other_available : Said → Option Fault
other_available said = unless (of_available is_same said) (record { code = code "P24"; tag = codes "64 "; nth = 1 })

-- the rules in their order
abbrev pub currency_rules : Said → List (Option Fault)
currency_rules said = c27 said ∷ other_closing said ∷ other_available said ∷ []
