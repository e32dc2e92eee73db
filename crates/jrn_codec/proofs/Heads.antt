-- What is read is the header of accounts, and each header of accounts is read.
use Rattle.std.proofs.Common.{◌≡◌, ℕ, suc, ◌==◌, Bool, true, false, cond, List, [], ◌∷◌, ◌++◌, length, All, Option, Some, None, Result, Ok, Err, refl, sym, ap, subst, ◌∙◌, append_assoc, arith}
use Rattle.std.specs.Prelude.{IfOk, flat_map, option_and_then, slice_get}
use Rattle.std.specs.Str.{bytes_eq}
use Rattle.std.specs.List.{AllByRecursion}
use Rattle.std.specs.Int.{w16, to_be_bytes}
use Rattle.std.proofs.lemmas.Bool.{eqb-true}
use Rattle.std.proofs.lemmas.Slice.Eq.{bytes_eq-Decides}
use Rattle.std.proofs.lemmas.Option.{same_Some, none-some, option_and_then_some}
use Rattle.std.proofs.lemmas.List.{append-nil, nil_from_length}
use Rattle.std.proofs.lemmas.List.Elements.{All-from_recursion, recursion_from_All}
use Rattle.corr_ids.specs.Bic.{IsBic}
use Rattle.corr_ids.specs.declared.bic.Bic.{Bic}
use Rattle.day_model.specs.declared.account.Account.{Account}
use Rattle.day_model.specs.declared.change.Change.{Change}
use Rattle.day_model.specs.Chart.{Chart, HasCode, IsChart, IsFormed, IsLimited, bare}
use Rattle.jrn_codec.specs.declared.fault.EntryFault.{EntryFault}
use Rattle.jrn_codec.specs.declared.fault.EntryFault.TheVariants as faults
use Rattle.jrn_codec.specs.Answers.{IsGiven}
use Rattle.jrn_codec.specs.inner.Answers.{FailsToRead}
use Rattle.jrn_codec.specs.Spelling.{bic_bytes}
use Rattle.jrn_codec.specs.Header.{account_bytes, headed_bytes, title_bytes, IsHead}
use Rattle.jrn_codec.specs.inner.Reading.{number_at, items_at}
use Rattle.jrn_codec.specs.inner.HeaderReading.{account_read, chart_read, header_read}
use Rattle.jrn_codec.proofs.Accounts.{FitsRow, account_field, row_fits}
use Rattle.jrn_codec.proofs.Fields.{IsBytes, step, resume, tested, cut_field, field16}
use Rattle.jrn_codec.proofs.Parts.{items_take, items_again}
use Rattle.jrn_codec.proofs.Identifiers.{bic_field}

-- ---- the whole header

-- a test that chose a reading
chosen : (b : Bool) (read : Option Chart) (chart : Chart) → cond b read None ≡ Some chart → (b ≡ true) × (read ≡ Some chart)
chosen true read chart e = (refl, e)
chosen false read chart e = absurd cc

weaker : {A : Type 0} (P Q : A → Type 0) → ((x : A) → P x → Q x) → (xs : List A) → AllByRecursion P xs → AllByRecursion Q xs
weaker P Q f [] h = tt
weaker P Q f (x ∷ xs) h = (f x h.0, weaker P Q f xs h.1)

abbrev chart_accounts : Bic → List Account × List ℕ → Option Chart
chart_accounts home accounts = cond (length accounts.1 == 0) (Some (record { home = home; first = accounts.0; changes = [] })) None

abbrev chart_count : Bic → ℕ × List ℕ → Option Chart
chart_count home count = option_and_then (chart_accounts home) (items_at account_read count.0 count.1)

abbrev chart_home : Bic × List ℕ → Option Chart
chart_home home = option_and_then (chart_count home.0) (number_at w16 home.1)

-- what stands behind the version
abbrev chart_bytes : Chart → List ℕ
chart_bytes chart = bic_bytes chart.home ++ to_be_bytes w16 (length chart.first) ++ flat_map account_bytes chart.first

-- what reading finds of rows, whether or not they are accounts of a book
pub record IsRows (chart : Chart) : Type 0 where
  pub home : IsBic chart.home
  pub codes : All HasCode chart.first
  pub unchanged : chart.changes ≡ []

chart_takes : (bytes : List ℕ) (chart : Chart) → IsBytes bytes → chart_read bytes ≡ Some chart → (bytes ≡ chart_bytes chart) × IsRows chart
unfolding chart_read
chart_takes bytes chart b e =
    let home = step bic_field chart_home bytes chart b e in
    let count = step field16 (chart_count home.value) home.rest chart home.bytes_on home.on in
    option_and_then_some (chart_accounts home.value) (items_at account_read count.value count.rest) chart count.on (λ accounts is on.
    let more = items_take account_field count.value count.rest accounts.0 accounts.1 count.bytes_on is in
    let made : Chart = record { home = home.value; first = accounts.0; changes = [] } in
    let t = tested (length accounts.1 == 0) made chart on in
    let ended : accounts.1 ≡ [] = nil_from_length accounts.1 (eqb-true (length accounts.1) 0 t.0) in
    let last : count.rest ≡ flat_map account_bytes accounts.0 = more.0 ∙ ap (λ (s : List ℕ). flat_map account_bytes accounts.0 ++ s) ended ∙ append-nil (flat_map account_bytes accounts.0) in
    let counted : home.rest ≡ to_be_bytes w16 (length accounts.0) ++ flat_map account_bytes accounts.0 = rw more.1 (count.parts ∙ ap (λ (s : List ℕ). to_be_bytes w16 count.value ++ s) last) in
    let whole : bytes ≡ chart_bytes made = home.parts ∙ ap (λ (s : List ℕ). bic_bytes home.value ++ s) counted ∙ simp append_assoc in
    let rows : IsRows made = record {
      home = home.fits;
      codes = All-from_recursion HasCode accounts.0 (weaker FitsRow HasCode (λ a h. h.code) accounts.0 more.2);
      unchanged = refl;
    } in
    subst (λ (x : Chart). (bytes ≡ chart_bytes x) × IsRows x) t.1 (whole, rows))

-- the parts of a header, however they are grouped
titled : (a b c d : List ℕ) → a ++ (b ++ c ++ d) ≡ (a ++ b ++ c) ++ d
titled a b c d = simp append_assoc

-- the version in front
regrouped : (version : List ℕ) (chart : Chart) → version ++ chart_bytes chart ≡ headed_bytes version chart
unfolding title_bytes
regrouped version chart = titled version (bic_bytes chart.home) (to_be_bytes w16 (length chart.first)) (flat_map account_bytes chart.first)

abbrev head_mark : List ℕ → List ℕ × List ℕ → Option Chart
head_mark version mark = cond (bytes_eq mark.0 version) (chart_read mark.1) None

head_takes : (version bytes : List ℕ) (chart : Chart) → IsBytes bytes → header_read version bytes ≡ Some chart → (bytes ≡ headed_bytes version chart) × IsRows chart
unfolding header_read
head_takes version bytes chart b e =
    let mark = step (cut_field 6) (head_mark version) bytes chart b e in
    let c = chosen (bytes_eq mark.value version) (chart_read mark.rest) chart mark.on in
    let t = chart_takes mark.rest chart mark.bytes_on c.1 in
    let is : mark.value ≡ version = (bytes_eq-Decides mark.value version).0 c.0 in
    let whole : bytes ≡ version ++ chart_bytes chart = mark.parts ∙ ap (λ (s : List ℕ). s ++ mark.rest) is ∙ ap (λ (s : List ℕ). version ++ s) t.0 in
    (whole ∙ regrouped version chart, t.1)

-- ---- headers of accounts

rows_fit : (accounts : List Account) → ((i : ℕ) (a : Account) → slice_get accounts i ≡ Some a → IsFormed a × IsLimited a) → AllByRecursion HasCode accounts → AllByRecursion FitsRow accounts
rows_fit [] h codes = tt
rows_fit (a ∷ accounts) h codes =
    let first = h 0 a refl in
    (row_fits a first.0 first.1 codes.0, rows_fit accounts (λ i x e. h (suc i) x e) codes.1)

chart_again : (chart : Chart) → IsHead chart → chart_read (chart_bytes chart) ≡ Some (bare chart)
unfolding chart_read
chart_again chart h =
    let accounts : List ℕ = flat_map account_bytes chart.first ++ [] in
    let rows = rows_fit chart.first (λ i a e. (h.book.first.apart.formed i a e, h.book.first.limited i a e)) (recursion_from_All HasCode chart.first h.codes) in
    let parts : chart_bytes chart ≡ bic_bytes chart.home ++ (to_be_bytes w16 (length chart.first) ++ accounts) = simp (append_assoc, append-nil) in
    ap chart_read parts
    ∙ resume bic_field chart_home chart.home (to_be_bytes w16 (length chart.first) ++ accounts) (Some (bare chart)) h.home
    (resume field16 (chart_count chart.home) (length chart.first) accounts (Some (bare chart)) (omega (arith, h.book.first.apart.few))
    (ap (option_and_then (chart_accounts chart.home)) (items_again account_field chart.first [] rows)))

-- a chart without changes is what is left without its changes
is_bare : (chart : Chart) → chart.changes ≡ [] → bare chart ≡ chart
is_bare chart unchanged = ap (λ (changes : List Change). record chart { changes = changes }) (sym unchanged)

head_again : (version : List ℕ) (chart : Chart) → length version ≡ 6 → IsHead chart → header_read version (headed_bytes version chart) ≡ Some chart
unfolding header_read
head_again version chart six h =
    let same : bytes_eq version version ≡ true = (bytes_eq-Decides version version).1 refl in
    ap (header_read version) (sym (regrouped version chart))
    ∙ resume (cut_field 6) (head_mark version) version (chart_bytes chart) (Some chart) six
    (rw same (chart_again chart h ∙ ap (λ (x : Chart). Some x) (is_bare chart h.unchanged)))

-- ---- what the reader answers

found_rows : (version bytes : List ℕ) (chart : Chart) → IsBytes bytes → header_read version bytes ≡ Some chart → IsChart chart
    → IsHead chart × (bytes ≡ headed_bytes version chart)
found_rows version bytes chart b e book =
    let t = head_takes version bytes chart b e in
    (record { home = t.1.home; book = book; codes = t.1.codes; unchanged = t.1.unchanged }, t.0)

pub read_again : (version bytes : List ℕ) (chart : Chart) → length version ≡ 6 → IsHead chart → bytes ≡ headed_bytes version chart
    → header_read version bytes ≡ Some chart
read_again version bytes chart six h e = ap (header_read version) e ∙ head_again version chart six h

pub is_found : (version bytes : List ℕ) (rows : Chart) (r : Result Chart EntryFault) → IsBytes bytes → header_read version bytes ≡ Some rows
    → IfOk r (λ a. (a ≡ rows) × IsChart a) → IfOk r (λ a. IsHead a × (bytes ≡ headed_bytes version a))
is_found version bytes rows (Ok a) b e h = found_rows version bytes a b (e ∙ ap (λ (x : Chart). Some x) (sym h.0)) h.1
is_found version bytes rows (Err fault) b e h = tt

pub is_only : (version bytes : List ℕ) (rows : Chart) (r : Result Chart EntryFault) → length version ≡ 6 → header_read version bytes ≡ Some rows
    → (IsChart rows → IsGiven rows r) → (chart : Chart) → IsHead chart → bytes ≡ headed_bytes version chart → IsGiven chart r
is_only version bytes rows r six e only chart h is =
    let same = same_Some rows chart (sym e ∙ read_again version bytes chart six h is) in
    subst (λ (x : Chart). IsGiven x r) same (only (subst IsChart (sym same) h.book))

pub is_refused : (version bytes : List ℕ) (fault : EntryFault) → length version ≡ 6 → FailsToRead fault (header_read version bytes)
    → (chart : Chart) → IsHead chart → bytes ≡ headed_bytes version chart → IsGiven {X = Chart} chart (Err fault)
is_refused version bytes faults.NoEntry six none chart h is = none-some chart (sym none ∙ read_again version bytes chart six h is)
is_refused version bytes faults.Memory six none chart h is = tt
