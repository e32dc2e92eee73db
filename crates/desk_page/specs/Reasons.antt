-- The reasons of codes, in words.
use Rattle.std.specs.Prelude.{ℕ, Bool, List, [], codes, if◌then◌else◌}
use Rattle.std.specs.Str.{bytes_eq}
use Rattle.corr_text.specs.declared.fault.Code.{Code}

-- a code is this one
abbrev pub is_code : Code → List ℕ → Bool
is_code code letters = bytes_eq code.0 letters

-- of the forms of contents
unfoldable pub form_reason : Code → List ℕ
form_reason code =
    if is_code code (codes "T08") then codes "the details of charges are none of OUR, SHA and BEN"
    else if is_code code (codes "T26") then codes "a reference with a slash at an end, or two in a row"
    else if is_code code (codes "T36") then codes "the operation code is none of its codes"
    else if is_code code (codes "T40") then codes "an amount or a rate is not digits with one comma"
    else if is_code code (codes "T43") then codes "an amount or a rate is too long"
    else if is_code code (codes "T50") then codes "no day of the calendar"
    else if is_code code (codes "T52") then codes "a currency that is not in the table of currencies"
    else []

-- of the other rules that begin with E
unfoldable pub telling_reason : Code → List ℕ
telling_reason code =
    if is_code code (codes "E15") then codes "the beneficiary bears the charges, and they do not fit that"
    else if is_code code (codes "E16") then codes "service level SPRI with an intermediary"
    else if is_code code (codes "E17") then codes "service level SSTD or SPAY, and 56a that does not fit it"
    else if is_code code (codes "E18") then codes "payment by cheque, and the beneficiary has an account"
    else if is_code code (codes "E44") then codes "tell the intermediary, and there is none"
    else if is_code code (codes "E45") then codes "tell the bank of the account, and there is none"
    else if is_code code (codes "E46") then codes "an instruction twice"
    else form_reason code

-- of the rules of a service level and of charges
unfoldable pub service_reason : Code → List ℕ
service_reason code =
    if is_code code (codes "E01") then codes "service level SPRI with an instruction that it may not have"
    else if is_code code (codes "E02") then codes "service level SSTD or SPAY with an instruction"
    else if is_code code (codes "E03") then codes "a service level, and 53a by name and address"
    else if is_code code (codes "E04") then codes "a service level, and 53a by place without a party line"
    else if is_code code (codes "E05") then codes "a service level, and 54a without its BIC"
    else if is_code code (codes "E06") then codes "a third institution without both correspondents"
    else if is_code code (codes "E07") then codes "a service level, and 55a without its BIC"
    else if is_code code (codes "E09") then codes "a service level, and 57a without its bank or party line"
    else if is_code code (codes "E10") then codes "a service level without an account of the beneficiary"
    else if is_code code (codes "E13") then codes "sender charges where the payer bears all charges"
    else telling_reason code

-- of the rules that begin with C and D
unfoldable pub rule_reason : Code → List ℕ
rule_reason code =
    if is_code code (codes "C02") then codes "the charges have another currency than the amount"
    else if is_code code (codes "C03") then codes "more decimals than the currency has"
    else if is_code code (codes "C06") then codes "nobody is named who ordered it"
    else if is_code code (codes "C08") then codes "a precious metal in place of a currency"
    else if is_code code (codes "C27") then codes "the balances have two currencies"
    else if is_code code (codes "C68") then codes "an intermediary without a bank of the account, sequence B"
    else if is_code code (codes "C81") then codes "an intermediary without a bank of the account"
    else if is_code code (codes "D49") then codes "no ordered amount between these two countries"
    else if is_code code (codes "D50") then codes "receiver charges where charges are shared"
    else if is_code code (codes "D51") then codes "charges without the ordered amount"
    else if is_code code (codes "D75") then codes "the exchange rate is missing, or there without cause"
    else if is_code code (codes "D97") then codes "a text after an instruction that may have none"
    else if is_code code (codes "D98") then codes "an instruction out of its order"
    else service_reason code

-- of the accounts of a payment
unfoldable pub plan_reason : Code → List ℕ
plan_reason code =
    if is_code code (codes "P30") then codes "no settlement instruction is in force on the value date"
    else if is_code code (codes "P31") then codes "no account between the sender and the home bank"
    else if is_code code (codes "P32") then codes "the correspondent in 53a or 54a leads to no account"
    else if is_code code (codes "P33") then codes "no account of the beneficiary in this currency"
    else if is_code code (codes "P34") then codes "a cover for the home bank"
    else if is_code code (codes "P35") then codes "a bank that decides the accounts has no BIC"
    else if is_code code (codes "P36") then codes "the account of the settlement instruction does not fit"
    else if is_code code (codes "P38") then codes "debit and credit would be on one account"
    else if is_code code (codes "P39") then codes "the charge is not below the amount"
    else if is_code code (codes "P40") then codes "no account of fees in this currency"
    else rule_reason code

-- of the fields of a message
unfoldable pub content_reason : Code → List ℕ
content_reason code =
    if is_code code (codes "P20") then codes "a line of block 4 is misplaced"
    else if is_code code (codes "P21") then codes "a character that no field may have"
    else if is_code code (codes "P22") then codes "a field out of order, one too many, or not of this type"
    else if is_code code (codes "P23") then codes "a mandatory field is missing"
    else if is_code code (codes "P24") then codes "a content is not of its form"
    else if is_code code (codes "P25") then codes "a bank is not in the table of banks"
    else if is_code code (codes "P26") then codes "the amount is zero"
    else if is_code code (codes "P27") then codes "the amount is too large for this program"
    else if is_code code (codes "P28") then codes "an instruction that is not in the list"
    else plan_reason code

-- of the blocks of a message and who it is from
unfoldable pub frame_reason : Code → List ℕ
frame_reason code =
    if is_code code (codes "P01") then codes "block 1 is not of its form"
    else if is_code code (codes "P02") then codes "block 1 has another version than 01, as an acknowledgement"
    else if is_code code (codes "P03") then codes "block 2 is not of its form"
    else if is_code code (codes "P04") then codes "block 3 is not of its form"
    else if is_code code (codes "P05") then codes "block 4 is not of its form, or not there"
    else if is_code code (codes "P06") then codes "block 5 is not of its form, or more comes after it"
    else if is_code code (codes "P07") then codes "it was sent, not received"
    else if is_code code (codes "P08") then codes "it is for another bank"
    else if is_code code (codes "P09") then codes "a training message"
    else if is_code code (codes "P10") then codes "possibly sent before: look for its field 20, ask the sender"
    else if is_code code (codes "P11") then codes "a type that is not read"
    else if is_code code (codes "P12") then codes "the sender is not in the table of banks"
    else if is_code code (codes "P13") then codes "the validation flag is not as the type wants it"
    else content_reason code

-- what a code says; nothing of a code that no message gets
unfoldable pub reason_of : Code → List ℕ
reason_of code = frame_reason code
