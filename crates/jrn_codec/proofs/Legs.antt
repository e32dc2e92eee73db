-- Outcomes, quotes and legs as fields.
use Rattle.std.proofs.Common.{◌≡◌, ℕ, zero, suc, ◌<◌, ◌≤◌, ◌^◌, ◌&&◌, Bool, true, cond, List, [], ◌∷◌, ◌++◌, length, Option, Some, None, refl, sym, ap, subst, ◌∙◌, append_assoc, arith}
use Rattle.std.specs.Prelude.{All, ℤ, nat_le, nat_lt, not, option_and_then}
use Rattle.std.specs.List.{AllByRecursion, list_all}
use Rattle.std.specs.Int.{w16, w64, to_be_bytes}
use Rattle.std.proofs.lemmas.Bool.Decides.{nat_tests}
use Rattle.std.proofs.lemmas.List.Elements.{recursion_from_All}
use Rattle.std.proofs.lemmas.Option.{same_Some, none-some}
use Rattle.corr_text.specs.declared.set.Set.TheVariants.{X}
use Rattle.corr_text.specs.Sets.{is_in}
use Rattle.corr_text.specs.Slashes.{has_stray_slash}
use Rattle.day_model.specs.declared.pay.Side.{Side}
use Rattle.day_model.specs.declared.pay.Quote.{Quote}
use Rattle.day_model.specs.declared.pay.Quote.TheVariants.{Ours, Theirs}
use Rattle.day_model.specs.declared.pay.Leg.{Leg}
use Rattle.day_model.specs.declared.entry.Outcome.{Outcome}
use Rattle.day_model.specs.declared.entry.Outcome.TheVariants.{Booked, Unfunded}
use Rattle.day_model.specs.Fit.{are_apart, are_even, are_legs, begin_with_debit, has_amount}
use Rattle.day_model.specs.Shape.{IsReference, IsQuote, IsLeg}
use Rattle.jrn_codec.specs.Spelling.{signed_bytes}
use Rattle.jrn_codec.specs.Record.{IsOutcome, outcome_bytes, quote_bytes, leg_bytes, posting_bytes, side_mark}
use Rattle.jrn_codec.specs.inner.Reading.{number_at, signed_at, mark_at}
use Rattle.jrn_codec.specs.inner.RecordReading.{unfunded_at, outcome_at, is_reference, theirs_at, ours_at, quote_at, is_account_number, side_of, leg_with, leg_at}
use Rattle.jrn_codec.proofs.Fields.{IsBytes, IsBytes-after, IsField, step, resume, tested, differs, byte_field, field16, field64, signed64_field}
use Rattle.jrn_codec.proofs.Parts.{mark_field, short_field}
use Rattle.jrn_codec.proofs.Marks.{side_marks}

-- what stands after one byte
pub after : (b : ℕ) (bytes : List ℕ) → IsBytes (b ∷ bytes) → IsBytes bytes
after b bytes h = IsBytes-after (b ∷ bytes) (b ∷ []) bytes refl h

-- ---- outcomes

unfunded_takes : (bytes : List ℕ) (o : Outcome) (rest : List ℕ) → IsBytes bytes → unfunded_at bytes ≡ Some (o, rest) → (1 ∷ bytes ≡ outcome_bytes o ++ rest) × IsOutcome o
unfolding unfunded_at
unfunded_takes bytes o rest b e =
    let leg = step byte_field (λ leg. option_and_then (λ (balance : ℤ × List ℕ). Some (Unfunded leg.0 balance.0, balance.1)) (signed_at w64 leg.1)) bytes (o, rest) b e in
    let balance = step signed64_field (λ balance. Some (Unfunded leg.value balance.0, balance.1)) leg.rest (o, rest) leg.bytes_on leg.on in
    let whole : 1 ∷ bytes ≡ 1 ∷ leg.value ∷ signed_bytes w64 balance.value ++ balance.rest = ap (λ (t : List ℕ). 1 ∷ t) (leg.parts ∙ ap (λ (t : List ℕ). leg.value ∷ t) balance.parts) in
    subst (λ (x : Outcome × List ℕ). (1 ∷ bytes ≡ outcome_bytes x.0 ++ x.1) × IsOutcome x.0) (same_Some (Unfunded leg.value balance.value, balance.rest) (o, rest) balance.on) (whole, (leg.fits, balance.fits))

outcome_takes : (bytes : List ℕ) (o : Outcome) (rest : List ℕ) → IsBytes bytes → outcome_at bytes ≡ Some (o, rest) → (bytes ≡ outcome_bytes o ++ rest) × IsOutcome o
unfolding outcome_at
outcome_takes [] o rest b e = absurd cc
outcome_takes (zero ∷ bytes) o rest b e = subst (λ (x : Outcome × List ℕ). (0 ∷ bytes ≡ outcome_bytes x.0 ++ x.1) × IsOutcome x.0) (same_Some (Booked, bytes) (o, rest) e) (refl, tt)
outcome_takes (suc zero ∷ bytes) o rest b e = unfunded_takes bytes o rest (after 1 bytes b) e
outcome_takes (suc (suc c) ∷ bytes) o rest b e =
    let none : outcome_at (suc (suc c) ∷ bytes) ≡ None = simp (differs (suc (suc c)) 0 (omega arith), differs (suc (suc c)) 1 (omega arith)) refl in
    absurd (none-some (o, rest) (sym none ∙ e))

outcome_again : (o : Outcome) (rest : List ℕ) → IsOutcome o → outcome_at (outcome_bytes o ++ rest) ≡ Some (o, rest)
unfolding outcome_at unfunded_at
outcome_again Booked rest fits = refl
outcome_again (Unfunded leg balance) rest fits = resume signed64_field (λ n. Some (Unfunded leg n.0, n.1)) balance rest (Some (Unfunded leg balance, rest)) fits.1 refl

pub outcome_field : IsField outcome_bytes outcome_at IsOutcome
outcome_field = record { takes = outcome_takes; again = outcome_again }

-- ---- quotes

pub both : (p q : Bool) → (p && q) ≡ true → (p ≡ true) × (q ≡ true)
both p q e = grind (arith, nat_tests)

pub le_true : (m n : ℕ) → nat_le m n ≡ true → m ≤ n
le_true m n e = grind (arith, nat_tests)

pub true_le : (m n : ℕ) → m ≤ n → nat_le m n ≡ true
true_le m n h = grind (arith, nat_tests)

reference_from : (text : List ℕ) → is_reference text ≡ true → IsReference text
reference_from text e =
    let a = both (nat_le 1 (length text) && nat_le (length text) 16 && list_all (is_in X) text) (not (has_stray_slash text)) e in
    let c = both (nat_le 1 (length text) && nat_le (length text) 16) (list_all (is_in X) text) a.0 in
    let d = both (nat_le 1 (length text)) (nat_le (length text) 16) c.0 in
    record { given = le_true 1 (length text) d.0; short = le_true (length text) 16 d.1; plain = c.1; slashes = a.1 }

reference_is : (text : List ℕ) → IsReference text → is_reference text ≡ true
reference_is text r = rw (true_le 1 (length text) r.given, true_le (length text) 16 r.short, r.plain, r.slashes) refl

theirs_takes : (bytes : List ℕ) (q : Quote) (rest : List ℕ) → IsBytes bytes → theirs_at bytes ≡ Some (q, rest) → (0 ∷ bytes ≡ quote_bytes q ++ rest) × IsQuote q
unfolding theirs_at
theirs_takes bytes q rest b e =
    let text = step short_field (λ text. cond (is_reference text.0) (Some (Theirs text.0, text.1)) None) bytes (q, rest) b e in
    let t = tested (is_reference text.value) (Theirs text.value, text.rest) (q, rest) text.on in
    subst (λ (x : Quote × List ℕ). (0 ∷ bytes ≡ quote_bytes x.0 ++ x.1) × IsQuote x.0) t.1 (ap (λ (s : List ℕ). 0 ∷ s) text.parts, reference_from text.value t.0)

ours_takes : (bytes : List ℕ) (q : Quote) (rest : List ℕ) → IsBytes bytes → ours_at bytes ≡ Some (q, rest) → (1 ∷ bytes ≡ quote_bytes q ++ rest) × IsQuote q
unfolding ours_at
ours_takes bytes q rest b e =
    let k = step byte_field (λ k. Some (Ours k.0, k.1)) bytes (q, rest) b e in
    subst (λ (x : Quote × List ℕ). (1 ∷ bytes ≡ quote_bytes x.0 ++ x.1) × IsQuote x.0) (same_Some (Ours k.value, k.rest) (q, rest) k.on) (ap (λ (s : List ℕ). 1 ∷ s) k.parts, tt)

quote_takes : (bytes : List ℕ) (q : Quote) (rest : List ℕ) → IsBytes bytes → quote_at bytes ≡ Some (q, rest) → (bytes ≡ quote_bytes q ++ rest) × IsQuote q
unfolding quote_at
quote_takes [] q rest b e = absurd cc
quote_takes (zero ∷ bytes) q rest b e = theirs_takes bytes q rest (after 0 bytes b) e
quote_takes (suc zero ∷ bytes) q rest b e = ours_takes bytes q rest (after 1 bytes b) e
quote_takes (suc (suc c) ∷ bytes) q rest b e =
    let none : quote_at (suc (suc c) ∷ bytes) ≡ None = simp (differs (suc (suc c)) 0 (omega arith), differs (suc (suc c)) 1 (omega arith)) refl in
    absurd (none-some (q, rest) (sym none ∙ e))

quote_again : (q : Quote) (rest : List ℕ) → IsQuote q → quote_at (quote_bytes q ++ rest) ≡ Some (q, rest)
unfolding quote_at theirs_at ours_at
quote_again (Theirs text) rest fits =
    resume short_field (λ t. cond (is_reference t.0) (Some (Theirs t.0, t.1)) None) text rest (Some (Theirs text, rest)) tt (rw (reference_is text fits) refl)
quote_again (Ours k) rest fits = refl

quote_field : IsField quote_bytes quote_at IsQuote
quote_field = record { takes = quote_takes; again = quote_again }

-- ---- legs

-- a pay has at most three legs, each with an amount
legs_parts : (legs : List Leg) → are_legs legs ≡ true → (length legs ≤ 3) × (list_all has_amount legs ≡ true)
legs_parts legs e =
    let n : ℕ = length legs in
    let even = both (nat_le 2 n && nat_le n 3 && begin_with_debit legs && list_all has_amount legs && are_apart legs) (are_even legs) e in
    let apart = both (nat_le 2 n && nat_le n 3 && begin_with_debit legs && list_all has_amount legs) (are_apart legs) even.0 in
    let amounts = both (nat_le 2 n && nat_le n 3 && begin_with_debit legs) (list_all has_amount legs) apart.0 in
    let first = both (nat_le 2 n && nat_le n 3) (begin_with_debit legs) amounts.0 in
    (le_true n 3 (both (nat_le 2 n) (nat_le n 3) first.0).1, amounts.1)

pub few_legs : (legs : List Leg) → are_legs legs ≡ true → length legs ≤ 3
few_legs legs e = (legs_parts legs e).0

-- which is below 10^14, and so fits
small_amount : (m : ℕ) → (nat_lt 0 m && nat_lt m 100000000000000) ≡ true → m < 2 ^ 64
small_amount m e = let small : m < 100000000000000 = grind (arith, nat_tests) in omega (arith, small)

-- a leg whose amount fits eight bytes
abbrev pub FitsLeg : Leg → Type 0
FitsLeg leg = IsLeg leg × (leg.amount.0 < 2 ^ 64)

with_amounts : (legs : List Leg) → list_all has_amount legs ≡ true → AllByRecursion IsLeg legs → AllByRecursion FitsLeg legs
with_amounts [] e each = tt
with_amounts (leg ∷ legs) e each =
    let parts = both (has_amount leg) (list_all has_amount legs) e in
    ((each.0, small_amount leg.amount.0 parts.0), with_amounts legs parts.1 each.1)

-- so it fits for each leg of a pay
pub legs_fit : (legs : List Leg) → are_legs legs ≡ true → All IsLeg legs → AllByRecursion FitsLeg legs
legs_fit legs e each = with_amounts legs (legs_parts legs e).1 (recursion_from_All IsLeg legs each)

-- the parts of a leg, however they are grouped
leg_parts : (account : List ℕ) (side : ℕ) (amount quote rest : List ℕ) → account ++ (side ∷ (amount ++ (quote ++ rest))) ≡ (account ++ side ∷ [] ++ amount) ++ quote ++ rest
leg_parts account side amount quote rest = simp append_assoc refl

side_field : IsField (λ (x : Side). side_mark x ∷ []) (mark_at side_of) (λ (x : Side). Unit {0})
side_field = mark_field side_mark side_of side_marks

abbrev leg_end : ℕ → Side → ℕ → Quote × List ℕ → Option (Leg × List ℕ)
leg_end account side amount quote = cond (is_account_number account) (Some (leg_with account side amount quote.0, quote.1)) None

abbrev leg_amount : ℕ → Side → ℕ × List ℕ → Option (Leg × List ℕ)
leg_amount account side amount = option_and_then (leg_end account side amount.0) (quote_at amount.1)

abbrev leg_side : ℕ → Side × List ℕ → Option (Leg × List ℕ)
leg_side account side = option_and_then (leg_amount account side.0) (number_at w64 side.1)

leg_takes : (bytes : List ℕ) (leg : Leg) (rest : List ℕ) → IsBytes bytes → leg_at bytes ≡ Some (leg, rest) → (bytes ≡ leg_bytes leg ++ rest) × FitsLeg leg
unfolding leg_at leg_bytes posting_bytes
leg_takes bytes leg rest b e =
    let account = step field16 (λ account. option_and_then (leg_side account.0) (mark_at side_of account.1)) bytes (leg, rest) b e in
    let side = step side_field (leg_side account.value) account.rest (leg, rest) account.bytes_on account.on in
    let amount = step field64 (leg_amount account.value side.value) side.rest (leg, rest) side.bytes_on side.on in
    let quote = step quote_field (leg_end account.value side.value amount.value) amount.rest (leg, rest) amount.bytes_on amount.on in
    let t = tested (is_account_number account.value) (leg_with account.value side.value amount.value quote.value, quote.rest) (leg, rest) quote.on in
    let p = both (nat_le 1 account.value) (nat_le account.value 1000) t.0 in
    let amount_on = amount.parts ∙ ap (λ (s : List ℕ). to_be_bytes w64 amount.value ++ s) quote.parts in
    let side_on = side.parts ∙ ap (λ (s : List ℕ). side_mark side.value ∷ s) amount_on in
    let whole : bytes ≡ leg_bytes (leg_with account.value side.value amount.value quote.value) ++ quote.rest = account.parts ∙ ap (λ (s : List ℕ). to_be_bytes w16 account.value ++ s) side_on ∙ leg_parts (to_be_bytes w16 account.value) (side_mark side.value) (to_be_bytes w64 amount.value) (quote_bytes quote.value) quote.rest in
    let is_leg : IsLeg (leg_with account.value side.value amount.value quote.value) = record { account = (le_true 1 account.value p.0, le_true account.value 1000 p.1); quote = quote.fits } in
    subst (λ (x : Leg × List ℕ). (bytes ≡ leg_bytes x.0 ++ x.1) × FitsLeg x.0) t.1 (whole, (is_leg, amount.fits))

leg_again : (leg : Leg) (rest : List ℕ) → FitsLeg leg → leg_at (leg_bytes leg ++ rest) ≡ Some (leg, rest)
unfolding leg_at leg_bytes posting_bytes
leg_again leg rest fits =
    let regrouped : leg_bytes leg ++ rest ≡ to_be_bytes w16 leg.account.0 ++ (side_mark leg.side ∷ (to_be_bytes w64 leg.amount.0 ++ (quote_bytes leg.quote ++ rest))) =
    sym (leg_parts (to_be_bytes w16 leg.account.0) (side_mark leg.side) (to_be_bytes w64 leg.amount.0) (quote_bytes leg.quote) rest) in
    let account : is_account_number leg.account.0 ≡ true = rw (true_le 1 leg.account.0 fits.0.account.0, true_le leg.account.0 1000 fits.0.account.1) refl in
    ap leg_at regrouped
    ∙ resume field16 (λ account. option_and_then (leg_side account.0) (mark_at side_of account.1)) leg.account.0 (side_mark leg.side ∷ (to_be_bytes w64 leg.amount.0 ++ (quote_bytes leg.quote ++ rest))) (Some (leg, rest)) (omega (arith, fits.0.account.1))
    (resume side_field (leg_side leg.account.0) leg.side (to_be_bytes w64 leg.amount.0 ++ (quote_bytes leg.quote ++ rest)) (Some (leg, rest)) tt
    (resume field64 (leg_amount leg.account.0 leg.side) leg.amount.0 (quote_bytes leg.quote ++ rest) (Some (leg, rest)) fits.1
    (resume quote_field (leg_end leg.account.0 leg.side leg.amount.0) leg.quote rest (Some (leg, rest)) fits.0.quote
    (rw account refl))))

pub leg_field : IsField leg_bytes leg_at FitsLeg
leg_field = record { takes = leg_takes; again = leg_again }
