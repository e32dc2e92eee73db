-- A day of messages, made from a number.
use Rattle.std.specs.Prelude.{ℕ, zero, suc, ◌+◌, ◌*◌, ◌/◌, ◌%◌, ◌^◌, ◌==◌, List, [], ◌∷◌, ◌++◌, codes, map, if◌then◌else◌}
use Rattle.std.specs.List.{flat_map, range_with_len}
use Rattle.corr_text.specs.Digits.{padded}
use Rattle.corr_money.specs.Amounts.{amount_text}
use Rattle.corr_report.specs.declared.generator.Kind.{Kind}
use Rattle.corr_report.specs.declared.generator.Kind.TheVariants.{Euros, PassedOn, Yen}

-- the most messages of a generated day
abbrev pub most_generated : ℕ
most_generated = 50000

-- the number after another
abbrev pub next_number : ℕ → ℕ
next_number x = (x * 6364136223846793005 + 1442695040888963407) % 2 ^ 64

-- the number of the i-th message, from 1; the seed stands before the first
abbrev pub generated_number : ℕ → ℕ → ℕ
generated_number seed zero = seed
generated_number seed (suc i) = next_number (generated_number seed i)

-- the amount of a message of this number, in minor units
abbrev pub generated_minor : ℕ → ℕ
generated_minor x = x / 2 ^ 33 % 100 + 1

-- the kind of the i-th message: the three in turn
unfoldable pub generated_kind : ℕ → Kind
generated_kind i = if i % 3 == 0 then Euros else if i % 3 == 1 then PassedOn else Yen

-- the bank that sends it
abbrev pub generated_sender : Kind → List ℕ
generated_sender Euros = codes "ALPHDEFF"
generated_sender PassedOn = codes "ALPHDEFF"
generated_sender Yen = codes "DELTJPJT"

-- the currency of its amount
abbrev pub generated_ccy : Kind → List ℕ
generated_ccy Euros = codes "EUR"
generated_ccy PassedOn = codes "EUR"
generated_ccy Yen = codes "JPY"

-- the decimals of that currency
abbrev pub generated_decimals : Kind → ℕ
generated_decimals Euros = 2
generated_decimals PassedOn = 2
generated_decimals Yen = 0

-- the account of its payee
abbrev pub generated_payee : Kind → List ℕ
generated_payee Euros = codes "CUST1"
generated_payee PassedOn = codes "CUST9"
generated_payee Yen = codes "CUST2"

-- a line and its end
abbrev pub with_line_end : List ℕ → List ℕ
with_line_end line = line ++ 13 ∷ 10 ∷ []

-- the line of the payee's bank, where it is another one
abbrev pub generated_bank : Kind → List ℕ
generated_bank Euros = []
generated_bank PassedOn = with_line_end (codes ":57A:BETAFRPP")
generated_bank Yen = []

-- what stands ahead of the fields: the receiver, the sender, and the message's number in both sequences
unfoldable pub generated_heading : ℕ → Kind → List ℕ
generated_heading i kind =
    with_line_end (codes "{1:F01HOMEUS33AXXX0001" ++ padded 6 i ++ codes "}{2:O1031200240603" ++ generated_sender kind ++ codes "AXXX0001" ++ padded 6 i ++ codes "2406031205N}{4:")

-- the reference, the kind of operation, and an amount in minor units on a day
unfoldable pub generated_terms : ℕ → Kind → ℕ → List ℕ
generated_terms i kind minor =
    with_line_end (codes ":20:G" ++ padded 6 i) ++ with_line_end (codes ":23B:CRED") ++ with_line_end (codes ":32A:240603" ++ generated_ccy kind ++ amount_text (generated_decimals kind) minor)

-- the payer, the payee with its bank, and who bears the charges
unfoldable pub generated_parties : Kind → List ℕ
generated_parties kind =
    with_line_end (codes ":50K:A PAYER") ++ generated_bank kind ++ with_line_end (codes ":59:/" ++ generated_payee kind) ++ (with_line_end (codes "A PAYEE") ++ with_line_end (codes ":71A:SHA"))

-- the i-th message, of an amount in minor units
unfoldable pub generated_text : ℕ → ℕ → List ℕ
generated_text i minor = generated_heading i (generated_kind i) ++ generated_terms i (generated_kind i) minor ++ generated_parties (generated_kind i) ++ codes "-}"

-- the messages of a day of so many, made from a seed
abbrev pub generated_texts : ℕ → ℕ → List (List ℕ)
generated_texts count seed = map (λ i. generated_text i (generated_minor (generated_number seed i))) (range_with_len 1 count)

-- the day as one text: `$` follows each message
abbrev pub generated_of : ℕ → ℕ → List ℕ
generated_of count seed = flat_map (λ text. text ++ codes "$") (generated_texts count seed)
