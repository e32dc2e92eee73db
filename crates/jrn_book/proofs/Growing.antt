-- Accounts and a history that are read record by record.
use Rattle.std.proofs.Common.{◌≡◌, ℕ, ◌+◌, ◌-◌, ◌<◌, ◌≤◌, ◌^◌, List, [], ◌∷◌, ◌++◌, length, take, drop, get_or, sym, ap, ◌∙◌, subst, arith}
use Rattle.std.specs.Prelude.{min}
use Rattle.std.proofs.lemmas.List.{append_assoc, take_all, take_more, take-append-drop}
use Rattle.day_model.specs.declared.entry.Entry.{Entry}
use Rattle.day_model.specs.Chart.{Chart}
use Rattle.jrn_file.specs.Reading.{size_of, whole}
use Rattle.jrn_file.proofs.laws.Sizes.{size_of-append}
use Rattle.jrn_codec.specs.Header.{IsHead}
use Rattle.jrn_book.specs.declared.version.Version.{Version}
use Rattle.jrn_book.specs.declared.version.Version.TheVariants.{One, Two}
use Rattle.jrn_book.specs.Journal.{IsJournalIn, all_records_in}
use Rattle.jrn_book.specs.Opening.{IsFaultyAt, IsNoNext}
use Rattle.jrn_book.specs.Reading.{IsReadNext, Read, chart_with, entries_with}
use Rattle.jrn_book.specs.Versions.{head_in}
use Rattle.jrn_book.proofs.Items.{journal_with}
use Rattle.jrn_book.proofs.laws.Items.{records_with}

-- a header has one record, and nothing more
pub head_alone : (version : Version) (chart : Chart) → IsHead chart → all_records_in version chart [] ≡ head_in version chart ∷ []
head_alone One chart head = λ i. all_records_in One (record { home = chart.home; first = chart.first; changes = head.unchanged i }) []
head_alone Two chart head = λ i. all_records_in Two (record { home = chart.home; first = chart.first; changes = head.unchanged i }) []

-- with the rest of records whose first is the header
pub all_from_head : (version : Version) (all : List (List ℕ)) (r : List ℕ) (accounts chart : Chart) (history : List Entry) → 1 ≤ length all → r ≡ get_or all 0 r → IsHead accounts
    → r ≡ head_in version accounts → chart ≡ accounts → history ≡ [] → all_records_in version chart history ++ take (length all - 1) (drop 1 all) ≡ all
all_from_head version [] r accounts chart history some first head is same none = absurd (omega (arith, some))
all_from_head version (x ∷ records) r accounts chart history some first head is same none =
    let one : all_records_in version chart history ≡ x ∷ [] =
    (λ i. all_records_in version (same i) (none i)) ∙ head_alone version accounts head ∙ ap (λ (b : List ℕ). b ∷ []) (sym is ∙ first) in
    let rest : take (length (x ∷ records) - 1) records ≡ records = take_all (length (x ∷ records) - 1) records (omega arith) in
    λ i. one i ++ rest i

-- what is kept while records are read, of which so many are: the place after them, where it has 64 bits
pub record IsSoFar (version : Version) (first : Read) (rest : List (List ℕ)) (count at : ℕ) (now : Read) : Type 0 where
  pub read : all_records_in version now.accounts now.history ≡ all_records_in version first.accounts first.history ++ take count rest
  pub good : IsJournalIn version now.accounts now.history
  pub place : size_of (all_records_in version now.accounts now.history) < 2 ^ 64 → at ≡ size_of (all_records_in version now.accounts now.history)

module _ (version : Version) (first : Read) (rest : List (List ℕ)) (count at : ℕ) (old : Read) (so_far : IsSoFar version first rest count at old) (r : List ℕ) (within : count < length rest)
    (is : r ≡ get_or rest count r) where
  abbrev begun : List (List ℕ)
  begun = all_records_in version first.accounts first.history

  abbrev before : List (List ℕ)
  before = all_records_in version old.accounts old.history

  taken : take (count + 1) rest ≡ take count rest ++ r ∷ []
  taken = take_more rest count r within ∙ ap (λ (x : List ℕ). take count rest ++ x ∷ []) (sym is)

  -- after the next record
  pub one_more_read : (new : Read) (next : ℕ) → IsReadNext version old r new → next ≡ min (at + (5 + length r)) (2 ^ 64 - 1) → IsSoFar version first rest (count + 1) next new
  one_more_read new next added sum =
      let chart : Chart = chart_with old.accounts old.history added.item in
      let history : List Entry = entries_with old.history added.item in
      let records : all_records_in version chart history ≡ before ++ r ∷ [] =
      records_with version old.accounts old.history added.item so_far.good.legal ∙ ap (λ (x : List ℕ). before ++ x ∷ []) (sym added.is) in
      let size : size_of (all_records_in version chart history) ≡ size_of before + (5 + length r) =
      ap size_of records ∙ size_of-append before (r ∷ []) ∙ (let one : size_of before + size_of (r ∷ []) ≡ size_of before + (5 + length r) = omega arith in one) in
      let so : IsSoFar version first rest (count + 1) next (record new { accounts = chart; history = history }) = record {
        read = records ∙ ap (λ (rs : List (List ℕ)). rs ++ r ∷ []) so_far.read ∙ append_assoc begun (take count rest) (r ∷ []) ∙ ap (λ (rs : List (List ℕ)). begun ++ rs) (sym taken);
        good = journal_with version old.accounts old.history added.item so_far.good added.next;
        place = λ small.
            let earlier : size_of before < 2 ^ 64 = omega (arith, small, size) in
            let here = so_far.place earlier in
            omega (arith, small, size, here, sum);
      } in
      subst (λ (x : Read). IsSoFar version first rest (count + 1) next x)
      (λ i. record { accounts = (sym added.grows.accounts) i; history = (sym added.grows.history) i; spare = new.spare }) so

  -- where the next record is refused
  pub refused_next : IsNoNext version old.accounts old.history r → (all : List (List ℕ)) → all ≡ begun ++ rest → size_of all < 2 ^ 64 → IsFaultyAt version (whole all) at
  refused_next refused all whole_is small =
      let more : List (List ℕ) = drop (count + 1) rest in
      let split : rest ≡ (take count rest ++ r ∷ []) ++ more = sym (take-append-drop (count + 1) rest) ∙ ap (λ (rs : List (List ℕ)). rs ++ more) taken in
      let parts : all ≡ before ++ r ∷ more =
      whole_is ∙ ap (λ (rs : List (List ℕ)). begun ++ rs) (split ∙ append_assoc (take count rest) (r ∷ []) more)
      ∙ sym (append_assoc begun (take count rest) (r ∷ more)) ∙ ap (λ (rs : List (List ℕ)). rs ++ r ∷ more) (sym so_far.read) in
      let sizes : size_of all ≡ size_of before + size_of (r ∷ more) = ap size_of parts ∙ size_of-append before (r ∷ more) in
      record {
        chart = old.accounts;
        history = old.history;
        good = so_far.good;
        fault = record { next = r; more = more; is = parts; refused = refused; place = so_far.place (omega (arith, small, sizes)) };
      }
