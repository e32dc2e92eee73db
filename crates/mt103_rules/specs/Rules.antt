-- The rules of a customer transfer, each with its code, the tag that it is told of, and which of that tag (0 where it is missing).
use Rattle.std.specs.Prelude.{ℕ, ◌+◌, ◌==◌, ◌&&◌, ◌||◌, not, Bool, false, List, [], ◌∷◌, ◌++◌, take, drop, Option, Some, None, option_map, is_some, is_none, length, codes, if◌then◌else◌}
use Rattle.std.specs.Str.{bytes_eq}
use Rattle.corr_text.specs.Codes.{code}
use Rattle.corr_text.specs.declared.fault.Code.{Code}
use Rattle.corr_text.specs.declared.fault.Fault.{Fault}
use Rattle.corr_ids.specs.declared.bic.Bic.{Bic}
use Rattle.corr_money.specs.declared.amount.Amount.{Amount}
use Rattle.ref_tables.specs.Seen.{Tables, is_listed_country}
use Rattle.mt103.specs.declared.message.Mt103.{Mt103}
use Rattle.mt103_rules.specs.Instructions.{first_barred, has_instr}
use Rattle.mt103_rules.specs.Parties.{has_account, is_b, is_bare_b, is_bare_d, is_d, is_not_a, is_uncleared_c}

-- ---- words

-- a fault of a rule, with the tag and the occurrence that it is told of
abbrev pub fault_of_rule : Code → List ℕ → ℕ → Fault
fault_of_rule refusal tag nth = record { code = refusal; tag = tag; nth = nth }

-- the fault of a rule that is broken where this holds
abbrev pub broken : Bool → Code → List ℕ → ℕ → Option Fault
broken here refusal tag nth = if here then Some (fault_of_rule refusal tag nth) else None

-- a field that may stand more than once is there
abbrev pub is_given : {A : Type 0} → List A → Bool
is_given xs = not (length xs == 0)

-- 23B
abbrev pub is_op : Mt103 → List ℕ → Bool
is_op m op = bytes_eq m.op op

-- 71A
abbrev pub is_charge : Mt103 → List ℕ → Bool
is_charge m charge = bytes_eq m.charge charge

-- 23B is SSTD or SPAY
abbrev pub is_standard : Mt103 → Bool
is_standard m = is_op m (codes "SSTD") || is_op m (codes "SPAY")

-- 23B names a service level
abbrev pub has_level : Mt103 → Bool
has_level m = is_op m (codes "SPRI") || is_standard m

-- an amount is there in another currency than that of 32A
abbrev pub is_foreign : Mt103 → Option Amount → Bool
is_foreign m (Some a) = not (bytes_eq a.ccy.0 m.amount.ccy.0)
is_foreign m None = false

-- the country of a BIC: its characters 5 and 6
abbrev pub country_of : Bic → List ℕ
country_of b = take 2 (drop 4 b.head)

-- a bank's country is listed
abbrev pub is_listed_bank : Tables → Bic → Bool
is_listed_bank t b = is_listed_country t (country_of b)

-- ---- amounts

-- 36 is there exactly where 33B has another currency than 32A
unfoldable pub d75 : Mt103 → Option Fault
d75 m = if is_foreign m m.ordered then broken (is_none m.rate) (code "D75") (codes "36 ") 0 else broken (is_some m.rate) (code "D75") (codes "36 ") 1

-- between two listed countries 33B is there
unfoldable pub d49 : Bic → Bic → Tables → Mt103 → Option Fault
d49 sender receiver t m = broken (is_listed_bank t sender && is_listed_bank t receiver && is_none m.ordered) (code "D49") (codes "33B") 0

-- ---- service levels

-- SPRI: 23E is SDVA, TELB, PHOB or INTC
unfoldable pub e01 : Mt103 → Option Fault
e01 m = if is_op m (codes "SPRI") then option_map (λ i. fault_of_rule (code "E01") (codes "23E") (i + 1)) (first_barred m.instrs) else None

-- SSTD and SPAY: no 23E
unfoldable pub e02 : Mt103 → Option Fault
e02 m = broken (is_standard m && is_given m.instrs) (code "E02") (codes "23E") 1

-- at a service level: no 53D
unfoldable pub e03 : Mt103 → Option Fault
e03 m = broken (has_level m && is_d m.p53) (code "E03") (codes "53 ") 1

-- at a service level: 53B has a party line
unfoldable pub e04 : Mt103 → Option Fault
e04 m = broken (has_level m && is_bare_b m.p53) (code "E04") (codes "53 ") 1

-- at a service level: 54a by option A
unfoldable pub e05 : Mt103 → Option Fault
e05 m = broken (has_level m && is_not_a m.p54) (code "E05") (codes "54 ") 1

-- at a service level: 55a by option A
unfoldable pub e07 : Mt103 → Option Fault
e07 m = broken (has_level m && is_not_a m.p55) (code "E07") (codes "55 ") 1

-- at a service level: 59a has an account
unfoldable pub e10 : Mt103 → Option Fault
e10 m = broken (has_level m && not (has_account m.payee)) (code "E10") (codes "59 ") 1

-- ---- institutions

-- 55a stands with both 53a and 54a
unfoldable pub e06 : Mt103 → Option Fault
e06 m = broken (is_some m.p55 && (is_none m.p53 || is_none m.p54)) (code "E06") (codes "55 ") 1

-- 56a stands with 57a
unfoldable pub c81 : Mt103 → Option Fault
c81 m = broken (is_some m.p56 && is_none m.p57) (code "C81") (codes "57 ") 0

-- SPRI: no 56a
unfoldable pub e16 : Mt103 → Option Fault
e16 m = broken (is_op m (codes "SPRI") && is_some m.p56) (code "E16") (codes "56 ") 1

-- SSTD and SPAY: 56a by option A, or by option C with a clearing code
unfoldable pub e17 : Mt103 → Option Fault
e17 m = broken (is_standard m && (is_d m.p56 || is_uncleared_c m.p56)) (code "E17") (codes "56 ") 1

-- at a service level: no 57B, and 57D has a party line
unfoldable pub e09 : Mt103 → Option Fault
e09 m = broken (has_level m && (is_b m.p57 || is_bare_d m.p57)) (code "E09") (codes "57 ") 1

-- ---- the cheque, charges

-- CHQB: 59a has no account
unfoldable pub e18 : Mt103 → Option Fault
e18 m = broken (has_instr (codes "CHQB") m.instrs && has_account m.payee) (code "E18") (codes "59 ") 1

-- OUR: no 71F
unfoldable pub e13 : Mt103 → Option Fault
e13 m = broken (is_charge m (codes "OUR") && is_given m.taken) (code "E13") (codes "71F") 1

-- SHA: no 71G
unfoldable pub d50 : Mt103 → Option Fault
d50 m = broken (is_charge m (codes "SHA") && is_some m.given) (code "D50") (codes "71G") 1

-- BEN: 71F is there
unfoldable pub e15_taken : Mt103 → Option Fault
e15_taken m = broken (is_charge m (codes "BEN") && not (is_given m.taken)) (code "E15") (codes "71F") 0

-- BEN: no 71G
unfoldable pub e15_given : Mt103 → Option Fault
e15_given m = broken (is_charge m (codes "BEN") && is_some m.given) (code "E15") (codes "71G") 1

-- 71F and 71G stand with 33B
unfoldable pub d51 : Mt103 → Option Fault
d51 m = broken ((is_given m.taken || is_some m.given) && is_none m.ordered) (code "D51") (codes "33B") 0

-- 71G has the currency of 32A
unfoldable pub c02 : Mt103 → Option Fault
c02 m = broken (is_foreign m m.given) (code "C02") (codes "71G") 1

-- ---- whom to tell

-- TELI and PHOI stand with 56a
unfoldable pub e44 : Mt103 → Option Fault
e44 m = broken ((has_instr (codes "TELI") m.instrs || has_instr (codes "PHOI") m.instrs) && is_none m.p56) (code "E44") (codes "56 ") 0

-- TELE and PHON stand with 57a
unfoldable pub e45 : Mt103 → Option Fault
e45 m = broken ((has_instr (codes "TELE") m.instrs || has_instr (codes "PHON") m.instrs) && is_none m.p57) (code "E45") (codes "57 ") 0

-- ---- all

-- the rules of amounts and countries
unfoldable pub amount_rules : Bic → Bic → Tables → Mt103 → List (Option Fault)
amount_rules sender receiver t m = d75 m ∷ d49 sender receiver t m ∷ []

-- the rules of service levels
unfoldable pub level_rules : Mt103 → List (Option Fault)
level_rules m = e01 m ∷ e02 m ∷ e03 m ∷ e04 m ∷ e05 m ∷ e07 m ∷ e10 m ∷ []

-- the rules of institutions
unfoldable pub institution_rules : Mt103 → List (Option Fault)
institution_rules m = e06 m ∷ c81 m ∷ e16 m ∷ e17 m ∷ e09 m ∷ []

-- the rules of the cheque and of charges
unfoldable pub charge_rules : Mt103 → List (Option Fault)
charge_rules m = e18 m ∷ e13 m ∷ d50 m ∷ e15_taken m ∷ e15_given m ∷ d51 m ∷ c02 m ∷ []

-- the rules of whom to tell
unfoldable pub contact_rules : Mt103 → List (Option Fault)
contact_rules m = e44 m ∷ e45 m ∷ []

-- all rules, in the order in which they are tested
unfoldable pub all_rules : Bic → Bic → Tables → Mt103 → List (Option Fault)
all_rules sender receiver t m =
    amount_rules sender receiver t m ++ level_rules m ++ institution_rules m ++ charge_rules m ++ contact_rules m
