-- What workers make of a generated day. A trial whose entries are all booked, and would be in every order, reports what one
-- thread makes of its pays.
use Rattle.std.proofs.Common.{◌≡◌, ◌⊎◌, inl, inr, ℕ, zero, suc, ◌+◌, ◌-◌, ◌<◌, ◌≤◌, All, List, [], ◌∷◌, ◌++◌, length, map, Result, Ok, Err, Some, get_or, refl, sym, ap, ◌∙◌, subst, arith}
use Rattle.std.specs.Prelude.{slice_get}
use Rattle.std.proofs.lemmas.List.{length-map}
use Rattle.std.proofs.lemmas.List.Elements.{All-append, All-nil}
use Rattle.std.proofs.lemmas.List.FromFn.{length-map-range_with_len}
use Rattle.std.proofs.lemmas.List.Sorted.{length_permutation}
use Rattle.std.proofs.lemmas.Option.{same_Some, slice_get-get_or, slice_get_within}
use Rattle.corr_books.specs.Closing.{LeavesClosed}
use Rattle.corr_books.specs.Opening.{Opening}
use Rattle.corr_disk.specs.declared.disk.Disk as disks
use Rattle.corr_ids.specs.declared.day.Day.{Day}
use Rattle.corr_report.specs.Generated.{generated_texts, generated_minor, generated_number, generated_text}
use Rattle.corr_report.specs.Summary.{summary_of}
use Rattle.corr_text.specs.Faults.{Rose}
use Rattle.day_model.specs.declared.account.Account.{Account}
use Rattle.day_model.specs.declared.entry.Entry.{Entry}
use Rattle.day_model.specs.declared.pay.Pay.{Pay}
use Rattle.day_model.specs.Balance.{credits_of, debits_of}
use Rattle.day_model.specs.Chart.{AreBy, Chart, account_at, accounts_of}
use Rattle.day_model.specs.Legal.{IsLegal}
use Rattle.day_model.specs.Totals.{HasTotals, Pair, pair_at, totals_of}
use Rattle.corr_top.specs.declared.directory.Directory.{Directory}
use Rattle.corr_top.specs.declared.message.NoPay.{NoPay}
use Rattle.corr_top.specs.declared.writing.Texts.{Texts}
use Rattle.corr_top.specs.Booking.{IsEnteredOn}
use Rattle.corr_top.specs.Message.{pay_asked_of, pays_in, readings_of}
use Rattle.corr_top.specs.OnDisk.{IsOnDisk}
use Rattle.corr_top.specs.Samples.{sample_day}
use Rattle.corr_top.specs.inner.Serving.{HasServed}
use Rattle.corr_top.specs.Trial.{BooksEach, IsBooked, sample_chart, sample_directory, trial_history, trial_pays, trial_report}
use Rattle.corr_top.specs.inner.Trial.{IsBearable, IsTrial, IsWholeDay, ServesTrial, StaysWithin}
use Rattle.corr_report.proofs.laws.Reordered.{summary_reordered}
use Rattle.corr_top.proofs.Replying.{all_one, get_all}
use Rattle.corr_report.proofs.laws.Settled.{AreBorne, booked_on}
use Rattle.corr_top.proofs.Trials.{reordered}

few : (readings : List (Result Pay NoPay)) → length (pays_in readings) ≤ length readings
few [] = omega arith
few (Ok pay ∷ readings) = omega (arith, few readings)
few (Err why ∷ readings) = omega (arith, few readings)

nat_cases : (k n : ℕ) → (k ≡ n) ⊎ (k ≡ n → ⊥)
nat_cases zero zero = inl refl
nat_cases zero (suc n) = inr (λ same. omega (arith, same))
nat_cases (suc k) zero = inr (λ same. omega (arith, same))
nat_cases (suc k) (suc n) = elim (nat_cases k n) [
  | inl same ↦ inl (ap suc same)
  | inr other ↦ inr (λ same. other (omega (arith, same)))
]

-- a day asks for no more pays than it has messages
few_pays : (count seed : ℕ) → length (trial_pays count seed) ≤ count
few_pays count seed =
    let readings = readings_of sample_directory sample_chart (generated_texts count seed) in
    let each = length-map (generated_texts count seed) (pay_asked_of sample_directory sample_chart) in
    let texts = length-map-range_with_len (λ i. generated_text i (generated_minor (generated_number seed i))) 1 count in
    omega (arith, few readings, each, texts)

all_booked : (day : Day) (pays : List Pay) → All IsBooked (map (booked_on day) pays)
all_booked day [] = All-nil IsBooked
all_booked day (pay ∷ pays) = All-append IsBooked (booked_on day pay ∷ []) (map (booked_on day) pays) (all_one IsBooked (booked_on day pay) refl) (all_booked day pays)

-- no change comes to the accounts of the sample bank
no_change : AreBy 0 sample_chart
unfolding sample_chart
no_change = refl

-- what a trial reports, and that one thread books each message
pub record IsTried (count seed : ℕ) (entries : List Entry) : Type 0 where
  pub report : summary_of sample_chart entries ≡ trial_report count seed
  pub books : BooksEach count seed

pub tried : (count seed : ℕ) (entries : List Entry) → ServesTrial count seed sample_chart entries → length entries ≡ count → All IsBooked entries → IsBearable sample_chart entries → IsTried count seed entries
unfolding trial_report
tried count seed entries serves whole booked settled =
    let pays = trial_pays count seed in
    let borne : AreBorne sample_chart entries = λ n account from at. let s = settled n account from at in record { floor = s.floor; ceil = s.ceil } in
    let r = reordered sample_chart sample_day pays entries no_change serves.legal (λ k e at. get_all (IsEnteredOn sample_day pays) entries k e serves.each at) (λ k e at. get_all IsBooked entries k e booked at)
    (omega (arith, few_pays count seed, whole)) borne in
    record {
      report = sym (summary_reordered sample_chart entries (trial_history count seed) r.moved);
      books = record {
        each = length_permutation entries (trial_history count seed) r.moved ∙ whole;
        booked = subst (All IsBooked) (sym r.fold_is) (all_booked sample_day pays);
      };
    }

-- so the texts of its whole history are those of a trial
pub trial_told : (count seed : ℕ) (accounts : Chart) (entries : List Entry) (texts : Texts) → ServesTrial count seed accounts entries → IsWholeDay count accounts entries
    → texts.report ≡ summary_of accounts entries → texts.out ≡ [] → IsTrial count seed texts
trial_told count seed accounts entries texts serves whole report out =
    let is = serves.accounts_are in
    let known = subst (λ (c : Chart). ServesTrial count seed c entries) is serves in
    let t = tried count seed entries known whole.each whole.booked (subst (λ (c : Chart). IsBearable c entries) is whole.settled) in
    (report ∙ (ap (λ (c : Chart). summary_of c entries) is ∙ t.report), out, t.books)

-- the entries ahead of a place are booked
abbrev pub AreBookedTo : ℕ → List Entry → Type 0
AreBookedTo place entries = (k : ℕ) (e : Entry) → k + 1 < place → slice_get entries k ≡ Some e → IsBooked e

pub booked_next : (place : ℕ) (entries : List Entry) (e : Entry) → 1 ≤ place → slice_get entries (place - 1) ≡ Some e → IsBooked e → AreBookedTo place entries → AreBookedTo (place + 1) entries
booked_next place entries e from at booked before = λ k x less there. elim (nat_cases k (place - 1)) [
  | inl same ↦ subst IsBooked (same_Some e x (sym at ∙ ap (slice_get entries) (sym same) ∙ there)) booked
  | inr other ↦ before k x (omega (arith, from, less, other)) there
]

pub booked_all : (place : ℕ) (entries : List Entry) → length entries + 1 ≤ place → AreBookedTo place entries → All IsBooked entries
booked_all place entries past booked = λ k d within. booked k (get_or entries k d) (omega (arith, past, within)) (slice_get-get_or entries k d within)

-- the accounts ahead of a number stay within their limits
abbrev pub AreSettledTo : ℕ → Chart → List Entry → Type 0
AreSettledTo n chart entries = (k : ℕ) (account : Account) → 1 ≤ k → k < n → account_at chart k ≡ Some account → StaysWithin account (credits_of entries k) (debits_of entries k)

pub settled_next : (n : ℕ) (chart : Chart) (entries : List Entry) (pairs : List Pair) (account : Account) (pair : Pair) → 1 ≤ n → n ≤ length (accounts_of chart) → HasTotals pairs (length (accounts_of chart)) entries
    → pair_at pairs n ≡ Some pair → account_at chart n ≡ Some account → StaysWithin account pair.0 pair.1 → AreSettledTo n chart entries → AreSettledTo (n + 1) chart entries
settled_next n chart entries pairs account pair from there totals is at within before = λ k x low less found. elim (nat_cases k n) [
  | inl same ↦
      let pair_is : pair ≡ totals_of n entries = same_Some pair (totals_of n entries) (sym is ∙ totals.each n from there) in
      let account_is : account ≡ x = same_Some account x (sym at ∙ (ap (λ m. account_at chart m) (sym same) ∙ found)) in
      let here : StaysWithin x (credits_of entries n) (debits_of entries n) = subst (λ (a : Account). StaysWithin a (credits_of entries n) (debits_of entries n)) account_is (subst (λ (p : Pair). StaysWithin account p.0 p.1) pair_is within) in
      subst (λ m. StaysWithin x (credits_of entries m) (debits_of entries m)) (sym same) here
  | inr other ↦ before k x low (omega (arith, low, less, other)) found
]

pub settled_all : (n : ℕ) (chart : Chart) (entries : List Entry) → length (accounts_of chart) + 1 ≤ n → AreSettledTo n chart entries → IsBearable chart entries
settled_all n chart entries past before = λ k account low at. before k account low (omega (arith, past, low, slice_get_within (accounts_of chart) (k - 1) account at)) at

-- ---- workers over a new journal of the sample bank

module _ {D : Type 0} (d : disks.Ghosts D) (o : Opening) (accounts : o.accounts ≡ sample_chart) where
  -- what they make of the messages of a day
  pub served_trial : (past : ℕ → List ℕ → Type 0) (count seed : ℕ) (directory : Directory) (cut : List (List ℕ)) (chart : Chart) (entries : List Entry) (left : D) → directory ≡ sample_directory → cut ≡ generated_texts count seed → o.base ≡ [] → o.day ≡ sample_day
      → HasServed d o past (readings_of directory o.accounts cut) chart entries left → ServesTrial count seed chart entries
  served_trial past count seed directory cut chart entries left known texts base day has =
      let pays : pays_in (readings_of directory o.accounts cut) ≡ trial_pays count seed = λ k. pays_in (readings_of (known k) (accounts k) (texts k)) in
      let alone : entries ≡ has.added = has.is ∙ ap (λ (es : List Entry). es ++ has.added) base in
      record {
        accounts_are = has.accounts ∙ accounts;
        legal = subst (λ (c : Chart). IsLegal c entries) accounts has.journal.legal;
        each = subst (λ (es : List Entry). All (IsEnteredOn sample_day (trial_pays count seed)) es) (sym alone)
            (subst (λ (x : List Pay × Day). All (IsEnteredOn x.1 x.0) has.added) (λ k. (pays k, day k)) has.each);
      }

  -- the disk holds it, or has failed
  pub stands_trial : (entries : List Entry) (left : D) → o.at_open ≡ 0 → LeavesClosed d o entries left → Rose 0 (d.faults left) ⊎ IsOnDisk d left sample_chart entries
  stands_trial entries left none (inl alone) = inr (subst (λ (c : Chart). IsOnDisk d left c entries) accounts (record { stands = alone.stands; durable = alone.durable }))
  stands_trial entries left none (inr failed) = inl (subst (λ n. Rose n (d.faults left)) none failed.0)
