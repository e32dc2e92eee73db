-- Each account stands in the table of one currency alone.
use Rattle.std.proofs.Common.{◌≡◌, true, refl, ap}
use Rattle.std.proofs.lemmas.Slice.Eq.{bytes_eq-Decides}
use Rattle.corr_money.specs.declared.amount.Ccy.{Ccy}
use Rattle.day_model.specs.Chart.{is_same_ccy}
use Rattle.desk_page.specs.Laws.{EachAccountOnce}
use Rattle.desk_page.proofs.Tallies.{each_once}

same_ccy : (c d : Ccy) → is_same_ccy c d ≡ true → c ≡ d
same_ccy c d is = let letters : c.0 ≡ d.0 = (bytes_eq-Decides c.0 d.0).0 is in ap (λ bs. record { 0 = bs }) letters

same_itself : (c : Ccy) → is_same_ccy c c ≡ true
same_itself c = (bytes_eq-Decides c.0 c.0).1 refl

pub account_once : EachAccountOnce
account_once accounts = each_once is_same_ccy same_ccy same_itself (λ account. account.ccy) accounts
