-- The bank of a trial: its tables.
use Rattle.std.specs.Prelude.{ℕ, List, [], ◌∷◌, ◌++◌, codes, pos}
use Rattle.std.specs.List.{flat_map}
use Rattle.corr_ids.specs.declared.bic.Bic.{Bic}
use Rattle.corr_ids.specs.declared.day.Day.{Day}

-- the bank
abbrev pub sample_home : Bic
sample_home = record { head = codes "HOMEUS33"; branch = codes "XXX" }

-- the day: 3 June 2024
abbrev pub sample_day : Day
sample_day = record { 0 = pos 19877 }

-- rows, each ended by a line feed
abbrev pub file_of_rows : List (List ℕ) → List ℕ
file_of_rows rows = flat_map (λ row. row ++ 10 ∷ []) rows

-- the banks that it knows
abbrev pub sample_bics : List ℕ
sample_bics = file_of_rows (codes "HOMEUS33" ∷ codes "ALPHDEFF" ∷ codes "BETAFRPP" ∷ codes "GAMMGB2L" ∷ codes "CORRBEBB" ∷ codes "DELTJPJT" ∷ [])

-- the currencies
abbrev pub sample_ccys : List ℕ
sample_ccys = file_of_rows (codes "EUR,2" ∷ codes "USD,2" ∷ codes "JPY,0" ∷ codes "KWD,3" ∷ [])

-- the countries
abbrev pub sample_countries : List ℕ
sample_countries = file_of_rows (codes "DE,Y" ∷ codes "FR,Y" ∷ codes "BE,Y" ∷ codes "GB,N" ∷ codes "US,N" ∷ codes "JP,N" ∷ [])

-- the accounts
abbrev pub sample_accounts : List ℕ
sample_accounts = file_of_rows (
    codes "VALPHEUR,V,ALPHDEFF,EUR,-10000000,90000000000,5000000"
    ∷ codes "VBETAEUR,V,BETAFRPP,EUR,0,90000000000,1000000"
    ∷ codes "CUST1,C,HOMEUS33,EUR,0,90000000000,0"
    ∷ codes "NCORREUR,N,CORRBEBB,EUR,-90000000000,90000000000,-6000000"
    ∷ codes "VDELTJPY,V,DELTJPJT,JPY,0,90000000000,9000000"
    ∷ codes "NCORRJPY,N,CORRBEBB,JPY,-90000000000,90000000000,-9000000"
    ∷ codes "CUST2,C,HOMEUS33,JPY,0,90000000000,0"
    ∷ [])

-- the instructions
abbrev pub sample_ssi : List ℕ
sample_ssi = file_of_rows (
    codes "EUR,BETAFRPP,BOOK,,VBETAEUR,240101,240701"
    ∷ codes "EUR,BETAFRPP,SERIAL,CORRBEBB,NCORREUR,240701,791231"
    ∷ codes "EUR,ALPHDEFF,BOOK,,VALPHEUR,240101,791231"
    ∷ codes "EUR,GAMMGB2L,COVER,CORRBEBB,NCORREUR,240101,791231"
    ∷ [])
