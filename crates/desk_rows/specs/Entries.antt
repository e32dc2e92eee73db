-- The entries of some days as rows.
use Rattle.std.specs.Prelude.{◌≡◌, ℕ, ◌-◌, ◌&&◌, Bool, false, List, [], ◌∷◌, ◌++◌, Option, Some, None, codes, int_le, slice_get, if◌then◌else◌}
use Rattle.corr_text.specs.Digits.{padded}
use Rattle.corr_ids.specs.Day.{InCentury, yymmdd_of}
use Rattle.corr_ids.specs.declared.day.Day.{Day}
use Rattle.corr_ids.specs.declared.uetr.Uetr.{Uetr}
use Rattle.corr_report.specs.Lines.{numbered, said}
use Rattle.day_model.specs.Chart.{Chart, account_at}
use Rattle.day_model.specs.Fit.{is_side, side_sum}
use Rattle.day_model.specs.declared.account.Account.{Account}
use Rattle.day_model.specs.declared.entry.Entry.{Entry}
use Rattle.day_model.specs.declared.entry.Outcome.{Outcome}
use Rattle.day_model.specs.declared.entry.Outcome.TheVariants.{Booked, Unfunded}
use Rattle.day_model.specs.declared.pay.Leg.{Leg}
use Rattle.day_model.specs.declared.pay.Mt.{Mt}
use Rattle.day_model.specs.declared.pay.Mt.TheVariants.{Transfer, Cover}
use Rattle.day_model.specs.declared.pay.Pay.{Pay}
use Rattle.day_model.specs.declared.pay.Quote.{Quote}
use Rattle.day_model.specs.declared.pay.Quote.TheVariants.{Theirs, Ours}
use Rattle.day_model.specs.declared.pay.Side.{Side}
use Rattle.day_model.specs.declared.pay.Side.TheVariants.{Debit, Credit}
use Rattle.desk_rows.specs.Csv.{pointed, row_end, row_of_cells, signed_pointed}

-- each entry has a value date from 1980 to 2079
abbrev pub AreValued : List Entry → Type 0
AreValued entries = (i : ℕ) (entry : Entry) → slice_get entries i ≡ Some entry → InCentury entry.pay.value

-- an entry is of one of the days from the first to the last
abbrev pub is_between : Day → Day → Entry → Bool
is_between from until entry = int_le from.0 entry.day.0 && int_le entry.day.0 until.0

-- the type of the message
abbrev pub type_text : Mt → List ℕ
type_text Transfer = codes "103"
type_text Cover = codes "202COV"

-- the reference that another bank gave; none for an order of ours
abbrev pub theirs_of : Quote → List ℕ
theirs_of (Theirs text) = text
theirs_of (Ours order) = []

-- the payment's UETR, if it has one
abbrev pub uetr_text : Option Uetr → List ℕ
uetr_text (Some uetr) = uetr.0
uetr_text None = []

-- cells of what is said of leg k, counted from 0, and its account
abbrev pub leg_cells : Chart → List Leg → ℕ → (Account → Leg → List (List ℕ)) → List (List ℕ)
leg_cells chart legs k cells = said (slice_get legs k) (λ leg. said (account_at chart leg.account.0) (λ account. cells account leg))

-- the reference in the sender's message, as the first leg quotes it
abbrev pub reference_cells : List Leg → List (List ℕ)
reference_cells legs = said (slice_get legs 0) (λ leg. theirs_of leg.quote ∷ [])

-- the currency, what is debited, and the account of the first leg
abbrev pub debit_cells : List Leg → Account → Leg → List (List ℕ)
debit_cells legs account leg = account.ccy.0 ∷ pointed account.decimals (side_sum Debit legs) ∷ account.id ∷ []

-- the second leg is a credit: so in each pay but the return of one with a charge, whose debits are two
abbrev pub is_second_credit : List Leg → Bool
is_second_credit (first ∷ second ∷ legs) = is_side Credit second.side
is_second_credit _ = false

-- where the leg stands that credits, counted from 0
abbrev pub credit_place : List Leg → ℕ
credit_place legs = if is_second_credit legs then 1 else 2

-- where the charge's does
abbrev pub fee_place : List Leg → ℕ
fee_place legs = if is_second_credit legs then 2 else 1

-- a cell of a leg and its account; an empty one where there is no leg
abbrev pub cell_of : Chart → Option Leg → (Account → Leg → List ℕ) → List (List ℕ)
cell_of chart (Some leg) cell = said (account_at chart leg.account.0) (λ account. cell account leg ∷ [])
cell_of chart None cell = [] ∷ []

-- the account that is credited
abbrev pub credit_cells : Chart → List Leg → List (List ℕ)
credit_cells chart legs = cell_of chart (slice_get legs (credit_place legs)) (λ account leg. account.id)

-- a charge that is given back has a minus
abbrev pub sign_of : Side → List ℕ
sign_of Debit = 45 ∷ []
sign_of Credit = []

-- the charge, empty where there is none
abbrev pub fee_cells : Chart → List Leg → List (List ℕ)
fee_cells chart legs = cell_of chart (slice_get legs (fee_place legs)) (λ account leg. sign_of leg.side ++ pointed account.decimals leg.amount.0)

-- whether the entry is booked, with an empty cell; or the balance then of the account that couldn't take its leg
abbrev pub outcome_cells : Chart → List Leg → Outcome → List (List ℕ)
outcome_cells chart legs Booked = codes "BOOKED" ∷ [] ∷ []
outcome_cells chart legs (Unfunded k balance) = codes "UNFUNDED" ∷ leg_cells chart legs (k - 1) (λ account leg. signed_pointed account.decimals balance ∷ [])

-- which message the entry is of: its day, its value date, its MIR and its type
abbrev pub stamp_cells : Entry → List (List ℕ)
stamp_cells entry = yymmdd_of entry.day ∷ yymmdd_of entry.pay.value ∷ entry.pay.mir.0 ∷ type_text entry.pay.mt ∷ []

-- its references
abbrev pub name_cells : Pay → List (List ℕ)
name_cells pay = reference_cells pay.legs ++ uetr_text pay.uetr ∷ []

-- its amount, its accounts and its charge
abbrev pub money_cells : Chart → List Leg → List (List ℕ)
money_cells chart legs = leg_cells chart legs 0 (debit_cells legs) ++ credit_cells chart legs ++ fee_cells chart legs

-- what is said of the entry at a place
abbrev pub entry_cells : Chart → ℕ → Entry → List (List ℕ)
entry_cells chart place entry =
    padded 8 place ∷ stamp_cells entry ++ name_cells entry.pay ++ money_cells chart entry.pay.legs ++ outcome_cells chart entry.pay.legs entry.outcome

-- its row
abbrev pub entry_row : Chart → ℕ → Entry → List ℕ
entry_row chart place entry = row_of_cells (entry_cells chart place entry)

-- its row where it is of one of the days, else none
abbrev pub row_between : Chart → Day → Day → ℕ → Entry → List ℕ
row_between chart from until place entry = if is_between from until entry then entry_row chart place entry else []

-- the names of the columns
abbrev pub entry_header : List ℕ
entry_header = codes "place,day,value_date,mir,type,reference,uetr,currency,amount,debit,credit,fee,outcome,balance" ++ row_end

-- a header, and a row for each entry of the days, in the order of their places
abbrev pub entry_rows : Chart → Day → Day → List Entry → List ℕ
entry_rows chart from until entries = entry_header ++ numbered (row_between chart from until) 1 entries
