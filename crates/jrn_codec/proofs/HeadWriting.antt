-- What the writing of a header tells.
use Rattle.std.proofs.Common.{◌≡◌, List, All, Result, Ok, Err, get_or, refl, sym, ap, ◌∙◌}
use Rattle.std.specs.Prelude.{OnOk, slice_get}
use Rattle.std.proofs.lemmas.Option.{slice_get-get_or}
use Rattle.corr_ids.specs.Bic.{IsBic}
use Rattle.day_model.specs.declared.account.Account.{Account}
use Rattle.day_model.specs.Chart.{Chart, HasCode, IsChart, IsFormed, bare}
use Rattle.day_model.proofs.laws.Changing.{chart_of_first}
use Rattle.jrn_codec.specs.Header.{IsHead}

-- each of the accounts that a book begins with has the form of its columns
pub all_formed : (chart : Chart) (accounts : List Account) → accounts ≡ chart.first → IsChart chart → All IsFormed accounts
all_formed chart accounts is book k d lt =
    book.first.apart.formed k (get_or accounts k d) (ap (λ (xs : List Account). slice_get xs k) (sym is) ∙ slice_get-get_or accounts k d lt)

-- what was written is a header, where the home is a BIC
pub is_written : {E : Type 0} (chart : Chart) (r : Result (Unit {0}) E) → IsBic chart.home → OnOk r (IsChart chart) → OnOk r (All HasCode chart.first)
    → OnOk r (IsHead (bare chart))
is_written chart (Ok done) home book codes = record {
  home = home;
  book = chart_of_first (bare chart) refl book.first book.first_balanced;
  codes = codes;
  unchanged = refl;
}
is_written chart (Err e) home book codes = tt
