-- The statements of a day, account by account.
use Rattle.std.proofs.Common.{◌≡◌, ℕ, ◌+◌, ◌-◌, ◌<◌, ◌≤◌, ◌++◌, Bool, true, List, [], Some, sym, ap, ◌∙◌, subst, arith, drop, inl, inr, length}
use Rattle.std.specs.Prelude.{slice_get, if◌then◌else◌}
use Rattle.std.proofs.Math.Nat.{eq-or-lt_of_le}
use Rattle.std.proofs.lemmas.Bool.{eq-eqb}
use Rattle.std.proofs.lemmas.Option.{same_Some, slice_get_cases}
use Rattle.corr_ids.specs.declared.day.Day.{Day}
use Rattle.corr_report.specs.Lines.{numbered}
use Rattle.corr_report.proofs.laws.Rests.{rest_at}
use Rattle.day_model.specs.Chart.{Chart, account_at, accounts_of}
use Rattle.day_model.specs.declared.account.Account.{Account}
use Rattle.day_model.specs.declared.entry.Entry.{Entry}
use Rattle.corr_top.specs.declared.owners.Owners.{Owners}
use Rattle.corr_top.specs.Out.{parted_all}
use Rattle.corr_top.specs.Statements.{IsStatementOfDay, is_theirs, kind_of, owner_pages, pages_sent}
use Rattle.corr_top.specs.inner.Statements.{Adds}
use Rattle.corr_top.proofs.Adding.{numbered_next}

module _ (owners : Owners) (chart : Chart) (entries : List Entry) (day : Day) (n : ℕ) (there : Account) (at : account_at chart n ≡ Some there) where
  same_there : (account : Account) → account_at chart n ≡ Some account → there ≡ account
  same_there account here = same_Some there account (sym at ∙ here)

  -- of an account of theirs its pages are sent
  pub shows : (old new : List ℕ) → there.kind ≡ kind_of owners → new ≡ old ++ parted_all (owner_pages owners chart entries n day) → IsStatementOfDay owners chart entries day n
      → Adds owners chart entries day n old new
  shows old new same added is = record {
    text = λ account here.
        subst (λ (a : Account). new ≡ old ++ pages_sent owners chart entries day n a) (same_there account here)
        (added ∙ ap (λ (v : Bool). old ++ (if v then parted_all (owner_pages owners chart entries n day) else [])) (sym (eq-eqb there.kind (kind_of owners) same)));
    valid = λ account here _. is;
  }

-- what stands where a number of a list points to
pub there_is : {A : Type 0} (xs : List A) (n : ℕ) → 1 ≤ n → n ≤ length xs → (x : A) × (slice_get xs (n - 1) ≡ Some x)
there_is xs n first last = elim (slice_get_cases xs (n - 1)).1 [
  | inl here ↦ (here.0, here.2)
  | inr past ↦ absurd (omega (arith, first, last, past.0))
]

-- ---- the accounts in turn

module _ (owners : Owners) (chart : Chart) (entries : List Entry) (day : Day) where
  -- the statements of the accounts ahead of number n are as they are to be
  abbrev pub AreSoFar : ℕ → Type 0
  AreSoFar n = (i : ℕ) (account : Account) → i + 1 < n → slice_get (accounts_of chart) i ≡ Some account → is_theirs owners account ≡ true → IsStatementOfDay owners chart entries day (i + 1)

  pub next-text : (n : ℕ) (all old new : List ℕ) → 1 ≤ n → n ≤ length (accounts_of chart) → all ≡ old ++ numbered (pages_sent owners chart entries day) n (drop (n - 1) (accounts_of chart)) → Adds owners chart entries day n old new
      → all ≡ new ++ numbered (pages_sent owners chart entries day) (n + 1) (drop (n + 1 - 1) (accounts_of chart))
  next-text n all old new first last so_far adds =
      let account = there_is (accounts_of chart) n first last in
      numbered_next (pages_sent owners chart entries day) n all old new account.0 (drop (n - 1) (accounts_of chart)) (drop (n + 1 - 1) (accounts_of chart))
      (rest_at (accounts_of chart) n account.0 first account.1) so_far (adds.text account.0 account.1)

  pub next-valid : (n : ℕ) (old new : List ℕ) → 1 ≤ n → AreSoFar n → Adds owners chart entries day n old new → AreSoFar (n + 1)
  next-valid n old new first so_far adds i account below at theirs = elim (eq-or-lt_of_le {n = i + 1} {m = n} (omega (arith, below))) [
    | inl last ↦
        subst (IsStatementOfDay owners chart entries day) (sym last)
        (adds.valid account (ap (slice_get (accounts_of chart)) (let p : n - 1 ≡ i = omega (arith, last) in p) ∙ at) theirs)
    | inr less ↦ so_far i account less at theirs
  ]
