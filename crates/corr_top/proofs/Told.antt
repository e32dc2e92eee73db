-- What was read is what was told, and equal files say the same.
use Rattle.std.proofs.Common.{◌≡◌, ◌≤◌, ◌+◌, ℕ, List, [], ◌++◌, Bool, true, false, cond, Option, Some, None, length, map, refl, sym, ap, ◌∙◌, subst, arith, length-append}
use Rattle.std.specs.Prelude.{nat_le}
use Rattle.std.specs.Option.{option_map_or}
use Rattle.std.proofs.lemmas.List.{append-nil}
use Rattle.std.proofs.lemmas.Bool.Decides.{nat_tests}
use Rattle.ref_tables.specs.Accounts.{account_of}
use Rattle.ref_tables.specs.Charges.{charge_in_row}
use Rattle.ref_tables.specs.Refusals.{RowTest, first_bad_row, first_fault, named}
use Rattle.ref_tables.specs.Rows.{Cells, rows_of, up_to}
use Rattle.ref_tables.specs.Seen.{Tables}
use Rattle.ref_tables.specs.Tables.{bank_in_row, ccy_of, tables_of}
use Rattle.ref_tables.specs.declared.fault.TableName.{TableName}
use Rattle.ref_tables.specs.declared.fault.TableName.TheVariants as names
use Rattle.ref_tables.specs.declared.fault.Why.{Why}
use Rattle.ref_tables.specs.declared.fault.Why.TheVariants.{Rows}
use Rattle.ssi_versions.specs.Rows.{instruction_of}
use Rattle.corr_top.specs.Changed.{lent_in}
use Rattle.corr_top.specs.Inputs.{Inputs, accounts_in, chart_in, directory_in, opened, tables_in}
use Rattle.corr_top.specs.Passing.{table_fault, table_file}
use Rattle.corr_top.specs.Reading.{IsRead, Took}

-- ---- files that are told whole

-- a file within the limit is read whole
whole_of : (limit : ℕ) (after : Option (List ℕ)) (bytes file : List ℕ) → length file ≤ limit → IsRead limit (Some file) after bytes → bytes ≡ file
whole_of limit None bytes file short read = absurd read.taken
whole_of limit (Some rest) bytes file short read =
    let sizes : length file ≡ length bytes + length rest = ap length read.taken ∙ length-append bytes rest in
    let none : rest ≡ [] = read.ended (omega arith) in
    sym (read.taken ∙ ap (λ l. bytes ++ l) none ∙ append-nil bytes)

pub took_whole : {S : Type 0} (left : S → Option (List ℕ)) (faults : S → ℕ) (limit : ℕ) (old new : S) (bytes file : List ℕ) → left old ≡ Some file → length file ≤ limit → Took left faults limit old new bytes → bytes ≡ file
took_whole left faults limit old new bytes file told short took = whole_of limit (left new) bytes file short (subst (λ o. IsRead limit o (left new) bytes) told took.read)

-- bytes within the limit are all that was told
all_of : (limit : ℕ) (after : Option (List ℕ)) (bytes file : List ℕ) → length bytes ≤ limit → IsRead limit (Some file) after bytes → bytes ≡ file
all_of limit None bytes file short read = absurd read.taken
all_of limit (Some rest) bytes file short read = sym (read.taken ∙ ap (λ (l : List ℕ). bytes ++ l) (read.ended short) ∙ append-nil bytes)

pub took_all : {S : Type 0} (left : S → Option (List ℕ)) (faults : S → ℕ) (limit : ℕ) (old new : S) (bytes file : List ℕ) → left old ≡ Some file → length bytes ≤ limit → Took left faults limit old new bytes → bytes ≡ file
took_all left faults limit old new bytes file told short took = all_of limit (left new) bytes file short (subst (λ o. IsRead limit o (left new) bytes) told took.read)

-- a table past its limit has a fault
small_if : (b : Bool) (name : TableName) (test : List Cells → Option (ℕ × Why)) (rows : Option (List Cells))
    → named name (option_map_or test (cond b rows None) (Some (0, Rows))) ≡ None → b ≡ true
small_if true name test rows e = refl
small_if false name test rows e = absurd (cc e)

small : (name : TableName) (most : ℕ) (test : RowTest) (file : List ℕ) → named name (first_fault most test file) ≡ None → length file ≤ 8388608
small name most test file e =
    let b : nat_le (length file) 8388608 ≡ true = small_if (nat_le (length file) 8388608) name (first_bad_row test []) (up_to most (rows_of file)) e in
    grind (arith, nat_tests)

pub small_table : (name : TableName) (i : Inputs) → table_fault name i ≡ None → length (table_file name i) ≤ 8388608
small_table names.Bics i none = small _ _ _ i.bics none
small_table names.Ccys i none = small _ _ _ i.ccys none
small_table names.Countries i none = small _ _ _ i.countries none
small_table names.Accounts i none = small _ _ _ i.accounts none
small_table names.Ssi i none = small _ _ _ i.ssi none
small_table names.Charges i none = small _ _ _ i.charges none

-- ---- equal files say the same

pub same_tables : (j i : Inputs) → j.bics ≡ i.bics → j.ccys ≡ i.ccys → j.countries ≡ i.countries → tables_in j ≡ tables_in i
same_tables j i bics ccys countries =
    ap (λ (b : List ℕ). tables_of b j.ccys j.countries) bics
    ∙ ap (λ (c : List ℕ). tables_of i.bics c j.countries) ccys
    ∙ ap (λ (c : List ℕ). tables_of i.bics i.ccys c) countries

pub same_lent : (j i : Inputs) → j.bics ≡ i.bics → j.ccys ≡ i.ccys → lent_in j ≡ lent_in i
same_lent j i bics ccys =
    ap (λ (b : List ℕ). record { bics = map bank_in_row (rows_of b); ccys = map ccy_of (rows_of j.ccys); countries = [] }) bics
    ∙ ap (λ (c : List ℕ). record { bics = map bank_in_row (rows_of i.bics); ccys = map ccy_of (rows_of c); countries = [] }) ccys

pub same_accounts : (j i : Inputs) → tables_in j ≡ tables_in i → j.accounts ≡ i.accounts → accounts_in j ≡ accounts_in i
same_accounts j i tables accounts =
    ap (λ (t : Tables). map opened (map (account_of t) (rows_of j.accounts))) tables
    ∙ ap (λ (f : List ℕ). map opened (map (account_of (tables_in i)) (rows_of f))) accounts

pub same_chart : (j i : Inputs) → j.home ≡ i.home → accounts_in j ≡ accounts_in i → chart_in j ≡ chart_in i
same_chart j i home accounts = λ k. record { home = home k; first = accounts k; changes = [] }

pub same_directory : (j i : Inputs) → tables_in j ≡ tables_in i → j.ssi ≡ i.ssi → j.charges ≡ i.charges → directory_in j ≡ directory_in i
same_directory j i tables ssi charges =
    ap (λ (t : Tables). record { tables = t; ssi = map instruction_of (rows_of j.ssi); charges = map charge_in_row (rows_of j.charges) }) tables
    ∙ ap (λ (f : List ℕ). record { tables = tables_in i; ssi = map instruction_of (rows_of f); charges = map charge_in_row (rows_of j.charges) }) ssi
    ∙ ap (λ (f : List ℕ). record { tables = tables_in i; ssi = map instruction_of (rows_of i.ssi); charges = map charge_in_row (rows_of f) }) charges
