-- Why a change is refused, by the balances of now.
use Rattle.std.proofs.Common.{◌≡◌, ℕ, Bool, true, false, List, [], ◌∷◌, Option, Some, None, refl, sym, ap, ◌∙◌, arith, inl, inr, ℤ}
use Rattle.std.specs.Prelude.{IsTrue, is_none, length, nat_le}
use Rattle.std.specs.Bool.{OnTrue}
use Rattle.std.proofs.lemmas.Bool.{and_parts, cases_Bool, leb-true}
use Rattle.corr_text.specs.First.{first_of, unless}
use Rattle.day_model.specs.declared.account.Account.{Account}
use Rattle.day_model.specs.declared.change.Refusal.{Refusal}
use Rattle.day_model.specs.declared.change.Refusal.TheVariants as refusal
use Rattle.day_model.specs.declared.change.What.{What}
use Rattle.day_model.specs.declared.change.What.TheVariants.{Opened, Limits}
use Rattle.day_model.specs.declared.entry.Entry.{Entry}
use Rattle.day_model.specs.Balance.{balance_of}
use Rattle.day_model.specs.Chart.{AreApart, Chart, accounts_of}
use Rattle.day_model.specs.Fit.{is_in}
use Rattle.day_model.specs.Legal.{IsInForm, IsLegalChange, balance_named}
use Rattle.day_model.specs.Refusals.{refusal_of}
use Rattle.day_model.specs.RowTests.{are_ends}
use Rattle.day_model.proofs.laws.Refusing.{legal_or_refused}
use Rattle.jrn_codec.specs.Change.{IsWhat, NumberFits}
use Rattle.jrn_book.specs.Changing.{refused_now}
use Rattle.jrn_book.specs.inner.Following.{IsBalanceFor}

-- limits of an account that isn't there are refused whatever its balance is
limits_by : (accounts : List Account) (n : ℕ) (floor ceil b c : ℤ) → (is_in accounts n ≡ true → b ≡ c)
    → first_of (unless (is_in accounts n) refusal.Unknown ∷ unless (are_ends floor ceil b) (refusal.Limits n) ∷ [])
    ≡ first_of (unless (is_in accounts n) refusal.Unknown ∷ unless (are_ends floor ceil c) (refusal.Limits n) ∷ [])
limits_by accounts n floor ceil b c same =
    elim (cases_Bool (is_in accounts n)) [
      | inl there ↦ ap (λ (x : ℤ). first_of (unless (is_in accounts n) refusal.Unknown ∷ unless (are_ends floor ceil x) (refusal.Limits n) ∷ [])) (same there)
      | inr none ↦
          ap (λ (x : Bool). first_of (unless x refusal.Unknown ∷ unless (are_ends floor ceil b) (refusal.Limits n) ∷ [])) none
          ∙ sym (ap (λ (x : Bool). first_of (unless x refusal.Unknown ∷ unless (are_ends floor ceil c) (refusal.Limits n) ∷ [])) none)
    ]

-- so the refusal is that of now
pub refused_by : (chart : Chart) (history : List Entry) (what : What) (b : ℤ) → IsBalanceFor chart history what b
    → refusal_of (accounts_of chart) b what ≡ refused_now chart history what
refused_by chart history (Opened account) b is = refl
refused_by chart history (Limits n floor ceil) b is = limits_by (accounts_of chart) n.0 floor ceil b (balance_of chart history n.0) is

-- none is told where the change is legal, and only there
none_of : (o : Option Refusal) (b : Bool) → b ≡ is_none o → b ≡ true → o ≡ None
none_of None b is passed = refl
none_of (Some reason) b is passed = absurd (cc (is, passed))

pub legal_where_none : (chart : Chart) (history : List Entry) (what : What) (o : Option Refusal) (b : Bool) → AreApart (accounts_of chart) → IsInForm what
    → o ≡ refused_now chart history what → b ≡ is_none o → OnTrue b (IsLegalChange (accounts_of chart) (balance_named (balance_of chart history) what) what)
legal_where_none chart history what o true apart formed is none =
    (legal_or_refused (accounts_of chart) (balance_named (balance_of chart history) what) what apart formed).0 (sym is ∙ none_of o true none refl)
legal_where_none chart history what o false apart formed is none = tt

pub none_where_legal : (chart : Chart) (history : List Entry) (what : What) (o : Option Refusal) (b : Bool) → AreApart (accounts_of chart) → IsInForm what
    → o ≡ refused_now chart history what → b ≡ is_none o → IsLegalChange (accounts_of chart) (balance_named (balance_of chart history) what) what → IsTrue b
none_where_legal chart history what o b apart formed is none legal =
    let nothing : o ≡ None = is ∙ (legal_or_refused (accounts_of chart) (balance_named (balance_of chart history) what) what apart formed).1 legal in
    none ∙ ap (λ (x : Option Refusal). is_none x) nothing

-- what has a record has the form of its columns
pub written_in_form : (what : What) → IsWhat what → IsInForm what
written_in_form (Opened account) written = written.formed
written_in_form (Limits n floor ceil) written = tt

-- limits that are not refused are of an account that is there, whose number has two bytes
pub number_fits : (chart : Chart) (history : List Entry) (what : What) → AreApart (accounts_of chart) → IsInForm what → refused_now chart history what ≡ None → NumberFits what
number_fits chart history (Opened account) apart formed none = tt
number_fits chart history (Limits n floor ceil) apart formed none =
    let legal = (legal_or_refused (accounts_of chart) (balance_of chart history n.0) (Limits n floor ceil) apart formed).0 none in
    let parts = and_parts (nat_le 1 n.0) (nat_le n.0 (length (accounts_of chart))) legal.listed in
    let high = leb-true n.0 (length (accounts_of chart)) parts.1 in
    let few = apart.few in
    omega (arith, high, few)
