-- Each line of a statement can be written, and stands for an entry of the history.
use Rattle.std.proofs.Common.{◌≡◌, ℕ, ◌+◌, ◌<◌, ◌≤◌, ◌==◌, Bool, true, List, [], ◌∷◌, ◌++◌, map, length, get_or, take, None, refl, sym, ap, ◌∙◌, subst, arith, inl, inr, ℤ, pos, negsuc, length-append, append_assoc}
use Rattle.std.specs.Prelude.{All, unsigned_abs}
use Rattle.std.specs.Ordering.{int_eq}
use Rattle.std.specs.List.{AllByRecursion, list_all}
use Rattle.std.proofs.lemmas.Bool.{cond_both}
use Rattle.std.proofs.lemmas.Int.{ints}
use Rattle.std.proofs.lemmas.List.{length-map, take_at}
use Rattle.std.proofs.lemmas.List.Elements.{All-filter, recursion_from_All}
use Rattle.std.proofs.lemmas.Option.{slice_get-get_or}
use Rattle.corr_text.specs.Sets.{is_in}
use Rattle.corr_text.specs.declared.set.Set.TheVariants.{N}
use Rattle.corr_ids.specs.Day.{InCentury, yymmdd_of}
use Rattle.corr_ids.specs.declared.day.Day.{Day}
use Rattle.corr_money.specs.Amounts.{amount_end}
use Rattle.day_model.specs.Balance.{balance_of, is_booked}
use Rattle.day_model.specs.Chart.{Chart, IsChart, IsListed, IsSmall}
use Rattle.day_model.specs.Fit.{FitsAccounts}
use Rattle.day_model.specs.Shape.{HasShape, IsQuote}
use Rattle.day_model.specs.Totals.{booked_legs}
use Rattle.day_model.specs.declared.entry.Entry.{Entry}
use Rattle.day_model.specs.declared.pay.Leg.{Leg}
use Rattle.day_model.specs.declared.pay.Mt.{Mt}
use Rattle.day_model.specs.declared.pay.Mt.TheVariants.{Transfer, Cover}
use Rattle.day_model.specs.declared.pay.Quote.{Quote}
use Rattle.day_model.specs.declared.pay.Quote.TheVariants.{Ours, Theirs}
use Rattle.day_model.proofs.laws.Fitting.{fitting, leg_sound}
use Rattle.advices.proofs.laws.Bytes.{day-digits}
use Rattle.mt950.specs.Parts.{is_entry_type}
use Rattle.mt950.specs.Writing.{IsWritableLine}
use Rattle.pay_returns.specs.References.{IsByteQuote, quote_text}
use Rattle.statement.specs.Legs.{HasQuotes, before_day, legs_on}
use Rattle.statement.specs.Lines.{Placed, entry_lines, transaction_type, entry_line, lines_from, mmdd_of, up_to_day}
use Rattle.statement.specs.Pages.{balance_after}
use Rattle.statement.proofs.DayParts.{before-is, parts, up-to-is}
use Rattle.statement.proofs.Days.{entry_day, rising}
use Rattle.statement.specs.Seen.{IsFront}
use Rattle.statement.proofs.laws.Fronts.{front-rules, front-small}
use Rattle.statement.proofs.Walking.{OneLeg}
use Rattle.statement.proofs.Words.{IsQuoted, dropped, ended, quoted-ours, quoted-own, quoted-theirs}

-- ---- what a line needs of its entry

-- a leg with a small amount and a quote that can be written
pub record IsSound (leg : Leg) : Type 0 where
  pub small : leg.amount.0 < amount_end
  pub quote : IsQuote leg.quote
  pub byte : IsByteQuote leg.quote

-- an entry whose legs on an account are so, and of which there is one at most
pub record IsFit (n : ℕ) (entry : Entry) : Type 0 where
  pub value : InCentury entry.pay.value
  pub legs : AllByRecursion IsSound (legs_on n entry)
  pub one : OneLeg n entry

booked : (P : Leg → Type 0) (entry : Entry) → All P entry.pay.legs → All P (booked_legs entry)
booked P entry all = cond_both (is_booked entry.outcome) entry.pay.legs [] (All P) (λ _. all) (λ _. λ k d lt. absurd (omega (arith, lt)))

pub entry-fit : (chart : Chart) (n : ℕ) (entry : Entry) → FitsAccounts chart entry.pay → HasShape entry.pay → HasQuotes entry → OneLeg n entry → IsFit n entry
entry-fit chart n entry fits shape quotes one =
    let fit = fitting chart entry.pay.legs fits in
    let on : Leg → Bool = λ leg. leg.account.0 == n in
    let Small : Leg → Type 0 = λ leg. leg.amount.0 < amount_end in
    let Quotes : Leg → Type 0 = λ leg. IsQuote leg.quote in
    let Bytes : Leg → Type 0 = λ leg. IsByteQuote leg.quote in
    let a : All Small (legs_on n entry) =
    All-filter on Small (booked_legs entry) (booked Small entry (λ k d lt. (leg_sound chart entry.pay.legs k (get_or entry.pay.legs k d) fit (slice_get-get_or entry.pay.legs k d lt)).below)) in
    let b : All Quotes (legs_on n entry) = All-filter on Quotes (booked_legs entry) (booked Quotes entry (λ k d lt. (shape.each_leg k d lt).quote)) in
    let c : All Bytes (legs_on n entry) = All-filter on Bytes (booked_legs entry) quotes in
    record {
      value = shape.value;
      legs = recursion_from_All IsSound (legs_on n entry) (λ k d lt. record { small = a k d lt; quote = b k d lt; byte = c k d lt });
      one = one;
    }

-- ---- a line

kind-four : (mt : Mt) → length (transaction_type mt) ≡ 4
kind-four Transfer = refl
kind-four Cover = refl

kind-is : (mt : Mt) → is_entry_type (transaction_type mt) ≡ true
kind-is Transfer = refl
kind-is Cover = refl

quote-quoted : (place : ℕ) (quote : Quote) → place ≤ 100000 → IsQuote quote → IsByteQuote quote → IsQuoted (quote_text place quote)
quote-quoted place (Theirs text) small is byte = quoted-theirs text is
quote-quoted place (Ours k) small is byte = quoted-ours place small k byte

month-and-day : (day : Day) → InCentury day → list_all (is_in N) (mmdd_of day) ≡ true
month-and-day day century = dropped (is_in N) 2 (yymmdd_of day) (day-digits day century)

-- a line that can be written, of the entry at a place among so many, and without a further line
pub record IsFine (decimals most : ℕ) (p : Placed) : Type 0 where
  pub entry : IsWritableLine decimals p.line
  pub place : p.place ≤ most
  pub plain : p.line.detail ≡ None

module _ (n : ℕ) (day : Day) (decimals most : ℕ) (few : decimals ≤ 4) (century : InCentury day) (bound : most ≤ 100000) where
  line-fine : (place : ℕ) (returned : Bool) (entry : Entry) (leg : Leg) → place ≤ most → InCentury entry.pay.value → IsSound leg → IsFine decimals most (record { place = place; line = entry_line day place returned entry leg })
  line-fine place returned entry leg low value sound =
      let small : place ≤ 100000 = omega (arith, low, bound) in
      let quoted = quote-quoted place leg.quote small sound.quote sound.byte in
      record {
        entry = record {
          value = value;
          entry = (refl, month-and-day day century);
          funds = tt;
          small = sound.small;
          few = few;
          four = kind-four entry.pay.mt;
          kind = kind-is entry.pay.mt;
          reference = quoted.run;
          ended = ended (quote_text place leg.quote) quoted.stray;
          servicer = (quoted-own place small).run;
          detail = tt;
        };
        place = low;
        plain = refl;
      }

  legs-fine : (place : ℕ) (returned : Bool) (entry : Entry) (legs : List Leg) → place ≤ most → InCentury entry.pay.value → AllByRecursion IsSound legs → AllByRecursion (IsFine decimals most) (map (λ leg. record { place = place; line = entry_line day place returned entry leg }) legs)
  legs-fine place returned entry [] low value all = tt
  legs-fine place returned entry (leg ∷ legs) low value all = (line-fine place returned entry leg low value all.0, legs-fine place returned entry legs low value all.1)

  both-fine : (xs ys : List Placed) → AllByRecursion (IsFine decimals most) xs → AllByRecursion (IsFine decimals most) ys → AllByRecursion (IsFine decimals most) (xs ++ ys)
  both-fine [] ys all more = more
  both-fine (x ∷ xs) ys all more = (all.0, both-fine xs ys all.1 more)

  -- each line of entries in turn
  pub lines-fine : (returned : ℕ → Bool) (place : ℕ) (entries : List Entry) → place + length entries ≤ most + 1 → AllByRecursion (IsFit n) entries → AllByRecursion (IsFine decimals most) (lines_from returned n day place entries)
  lines-fine returned place [] low all = tt
  lines-fine returned place (e ∷ entries) low all =
      let here = legs-fine place (returned place) e (legs_on n e) (omega (arith, low)) all.0.value all.0.legs in
      let this = cond_both (int_eq e.day.0 day.0) (map (λ leg. record { place = place; line = entry_line day place (returned place) e leg }) (legs_on n e)) [] (AllByRecursion (IsFine decimals most)) (λ _. here) (λ _. tt) in
      both-fine (entry_lines returned n day place e) (lines_from returned n day (place + 1) entries) this (lines-fine returned (place + 1) entries (omega (arith, low)) all.1)

-- there is one line at most for each entry
module _ (returned : ℕ → Bool) (n : ℕ) (day : Day) where
  legs-few : (entry : Entry) → OneLeg n entry → length (legs_on n entry) ≤ 1
  legs-few entry one =
      elim one [
        | inl none ↦ rw none (omega arith)
        | inr some ↦ rw some.2 (omega arith)
      ]

  entry-few : (place : ℕ) (entry : Entry) → OneLeg n entry → length (entry_lines returned n day place entry) ≤ 1
  entry-few place entry one =
      let f : Leg → Placed = λ leg. record { place = place; line = entry_line day place (returned place) entry leg } in
      let few = legs-few entry one in
      let same = length-map (legs_on n entry) f in
      cond_both (int_eq entry.day.0 day.0) (map f (legs_on n entry)) [] (λ (ls : List Placed). length ls ≤ 1) (λ _. omega (arith, few, same)) (λ _. omega arith)

  pub lines-few : (place : ℕ) (entries : List Entry) → AllByRecursion (IsFit n) entries → length (lines_from returned n day place entries) ≤ length entries
  lines-few place [] all = omega arith
  lines-few place (e ∷ entries) all =
      let here = entry-few place e all.0.one in
      let rest = lines-few (place + 1) entries all.1 in
      let size = length-append (entry_lines returned n day place e) (lines_from returned n day (place + 1) entries) in
      omega (arith, here, rest, size)

-- ---- balances

pub abs-small : (b : ℤ) → IsSmall b → unsigned_abs b < amount_end
abs-small (pos k) small = grind (arith, ints)
abs-small (negsuc k) small = grind (arith, ints)

module _ (chart : Chart) (entries : List Entry) (n : ℕ) (day : Day) (is : IsChart chart) (legal : IsFront chart entries) (listed : IsListed chart n) where
  pub before-small : IsSmall (balance_of chart (before_day day entries) n)
  before-small =
      let (earlier, here, later, are) = parts day entries (rising entry_day entries (front-rules chart entries legal).days) in
      let front : take (length earlier) entries ≡ earlier = ap (take (length earlier)) (are.whole ∙ append_assoc earlier here later) ∙ take_at earlier (here ++ later) (length earlier) refl in
      let size = length-append earlier (here ++ later) in
      let whole = ap length (are.whole ∙ append_assoc earlier here later) in
      subst (λ (es : List Entry). IsSmall (balance_of chart es n)) (front ∙ sym (before-is day entries earlier here later are)) (front-small chart entries legal n (length earlier) is listed (omega (arith, size, whole)))

  pub up-to-small : IsSmall (balance_of chart (up_to_day day entries) n)
  up-to-small =
      let (earlier, here, later, are) = parts day entries (rising entry_day entries (front-rules chart entries legal).days) in
      let front : take (length (earlier ++ here)) entries ≡ earlier ++ here = ap (take (length (earlier ++ here))) are.whole ∙ take_at (earlier ++ here) later (length (earlier ++ here)) refl in
      let size = length-append (earlier ++ here) later in
      let whole = ap length are.whole in
      subst (λ (es : List Entry). IsSmall (balance_of chart es n)) (front ∙ sym (up-to-is day entries earlier here later are))
      (front-small chart entries legal n (length (earlier ++ here)) is listed (omega (arith, size, whole)))

  pub after-small : (decimals : ℕ) (ps : List Placed) → AllByRecursion (IsFine decimals (length entries)) ps → IsSmall (balance_after chart entries n day ps)
  after-small decimals [] all = before-small
  after-small decimals (p ∷ []) all = front-small chart entries legal n p.place is listed all.0.place
  after-small decimals (p ∷ next ∷ ps) all = after-small decimals (next ∷ ps) all.1
