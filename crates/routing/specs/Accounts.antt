-- The accounts that a payment may be booked on.
use Rattle.std.specs.Prelude.{◌≢◌, ℕ, ◌==◌, ◌&&◌, ◌||◌, Bool, false, List, Option, IsTrue}
use Rattle.std.specs.Option.{option_map_or}
use Rattle.corr_ids.specs.declared.bic.Bic.{Bic}
use Rattle.corr_money.specs.declared.amount.Amount.{Amount}
use Rattle.day_model.specs.declared.account.Account.{Account}
use Rattle.day_model.specs.declared.account.AcctNo.{AcctNo}
use Rattle.day_model.specs.Chart.{Chart, account_at, accounts_of, has_id, is_owned, is_same_ccy, number_of_first}
use Rattle.corr_ids.specs.Kinds.{customer, nostro, vostro}
use Rattle.day_model.specs.Fit.{accounts_fit, is_listed}
use Rattle.routing.specs.declared.ledger.Wanted.{Wanted}
use Rattle.routing.specs.declared.ledger.Wanted.TheVariants.{Customer, Relation, Vostro, Nostro}
use Rattle.routing.specs.declared.routed.Routed.{Routed}

-- an account fits an amount where currency and decimals agree
abbrev pub fits_amount : Amount → Account → Bool
fits_amount amount account = is_same_ccy account.ccy amount.ccy && (account.decimals == amount.decimals)

-- it fits, and it is a customer's, or of or with the bank that is wanted
abbrev pub serves : Wanted → Amount → Account → Bool
serves Customer amount account = (account.kind == customer) && fits_amount amount account
serves (Relation bank) amount account =
    is_owned vostro bank.head amount.ccy amount.decimals account || is_owned nostro bank.head amount.ccy amount.decimals account
serves (Vostro bank) amount account = is_owned vostro bank.head amount.ccy amount.decimals account
serves (Nostro bank) amount account = is_owned nostro bank.head amount.ccy amount.decimals account

-- the account with this id, if it is what is wanted
abbrev pub account_named : List ℕ → Wanted → Amount → Chart → Option AcctNo
account_named id wanted amount chart = number_of_first (λ account. has_id id account && serves wanted amount account) (accounts_of chart)

-- the account of this kind that this bank owns, if it has one that fits
abbrev pub account_with : ℕ → Bic → Amount → Chart → Option AcctNo
account_with kind bank amount chart = number_of_first (is_owned kind bank.head amount.ccy amount.decimals) (accounts_of chart)

-- there is an account with this number, and it fits
abbrev pub fits_at : Chart → Amount → AcctNo → Bool
fits_at chart amount n = is_listed chart n.0 && option_map_or (fits_amount amount) (account_at chart n.0) false

-- two distinct accounts of the book that fit an amount
pub record AreBetween (chart : Chart) (amount : Amount) (routed : Routed) : Type 0 where
  pub debit : IsTrue (fits_at chart amount routed.debit)
  pub credit : IsTrue (fits_at chart amount routed.credit)
  pub distinct : routed.debit.0 ≢ routed.credit.0
  pub fit : IsTrue (accounts_fit chart routed.debit.0 routed.credit.0)
