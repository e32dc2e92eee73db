-- Entries that are settled one after another.
use Rattle.std.proofs.Common.{◌≡◌, ℕ, ◌+◌, ◌≤◌, All, List, [], ◌∷◌, ◌++◌, length, get_or, reverse, IsTrue, Some, refl, sym, ap, ◌∙◌, arith, inl, inr, append_assoc, append-nil, length-append}
use Rattle.std.proofs.lemmas.List.{length-reverse, reverse-append, reverse-reverse}
use Rattle.day_model.specs.declared.pay.Leg.{Leg}
use Rattle.day_model.specs.declared.pay.Side.TheVariants.{Credit, Debit}
use Rattle.day_model.specs.declared.entry.Entry.{Entry}
use Rattle.day_model.specs.Balance.{moved}
use Rattle.day_model.specs.Chart.{Chart, accounts_of}
use Rattle.day_model.specs.Fit.{legs_fit}
use Rattle.day_model.specs.Totals.{HasTotals, Pair, booked_legs, legs_pair, pair_at, plus, totals_of}
use Rattle.day_model.proofs.laws.Pairs.{plus_assoc}
use Rattle.std.proofs.lemmas.List.Sums.{sum_by-append}
use Rattle.std.proofs.lemmas.Option.{same_Some}
use Rattle.acct_locks.specs.Holdings.{Holding, Holds, HoldsOnce, held_totals, held_with}
use Rattle.jrn_book.specs.Batches.{all_booked}
use Rattle.jrn_book.specs.Deciding.{HoldsAll}
use Rattle.jrn_book.proofs.ByTotals.{sound_legs}
use Rattle.jrn_book.proofs.Entering.{held_with-nil}

-- legs after others
legs_pair-append : (n : ℕ) (xs ys : List Leg) → legs_pair n (xs ++ ys) ≡ plus (legs_pair n xs) (legs_pair n ys)
legs_pair-append n xs ys = λ i. (sum_by-append (moved Credit n) xs ys i, sum_by-append (moved Debit n) xs ys i)

pub held_with-append : (xs ys : List Leg) (held : List Holding) → held_with (xs ++ ys) held ≡ held_with ys (held_with xs held)
held_with-append xs ys [] = refl
held_with-append xs ys (h ∷ held) =
    let one : plus h.pair (legs_pair h.number (xs ++ ys)) ≡ plus (plus h.pair (legs_pair h.number xs)) (legs_pair h.number ys) =
    ap (plus h.pair) (legs_pair-append h.number xs ys) ∙ sym (plus_assoc h.pair (legs_pair h.number xs) (legs_pair h.number ys)) in
    let rest = held_with-append xs ys held in
    λ i. record { table = h.table; number = h.number; pair = one i } ∷ rest i

-- who is held stays held, once
holds_before : (legs : List Leg) (held : List Holding) (n : ℕ) → Holds (held_with legs held) n → Holds held n
holds_before legs [] n it = it
holds_before legs (h ∷ held) n (inl here) = inl here
holds_before legs (h ∷ held) n (inr below) = inr (holds_before legs held n below)

once_still : (legs : List Leg) (held : List Holding) (n : ℕ) → HoldsOnce held n → HoldsOnce (held_with legs held) n
once_still legs [] n it = it
once_still legs (h ∷ held) n (inl here) = inl (here.0, λ below. here.1 (holds_before legs held n below))
once_still legs (h ∷ held) n (inr below) = inr (below.0, once_still legs held n below.1)

pub all_still : (more : List Leg) (held : List Holding) (legs : List Leg) → HoldsAll held legs → HoldsAll (held_with more held) legs
all_still more held legs all k d lt = once_still more held _ (all k d lt)

-- the legs of entries, with an entry more
pub booked_more : (entries : List Entry) (e : Entry) → all_booked (entries ++ e ∷ []) ≡ all_booked entries ++ booked_legs e
booked_more [] e = append-nil (booked_legs e)
booked_more (x ∷ entries) e = ap (λ (l : List Leg). booked_legs x ++ l) (booked_more entries e) ∙ sym (append_assoc (booked_legs x) (all_booked entries) (booked_legs e))

-- where the sides have the totals of a history, an account that agrees with them has its
pub agreed_totals : (chart : Chart) (history : List Entry) (pairs : List Pair) (held : List Holding) (n : ℕ) → HasTotals pairs (length (accounts_of chart)) history → 1 ≤ n → n ≤ length (accounts_of chart)
    → pair_at pairs n ≡ Some (held_totals held n) → held_totals held n ≡ totals_of n history
agreed_totals chart history pairs held n totals low high agreed = same_Some (held_totals held n) (totals_of n history) (sym agreed ∙ totals.each n low high)

-- what holds while entries are settled, of which these are done and those are left, the last one first
pub record IsSettling (chart : Chart) (before : List Entry) (entries : List Entry) (held : List Holding) (rest : List Entry) (spare : ℕ) (now : List Entry) (after : List Holding) (pairs : List Pair) : Type 0 where
  pub done : List Entry
  pub left : entries ≡ done ++ reverse rest
  pub now_is : now ≡ before ++ done
  pub held_is : after ≡ held_with (all_booked done) held
  pub totals : HasTotals pairs (length (accounts_of chart)) now
  pub room : length rest ≤ spare

-- the totals of held accounts that agree with the sides are those of the history
pub all_agreed : (chart : Chart) (history : List Entry) (pairs : List Pair) (held : List Holding) (legs : List Leg) → HasTotals pairs (length (accounts_of chart)) history → IsTrue (legs_fit chart legs)
    → All (λ (leg : Leg). pair_at pairs leg.account.0 ≡ Some (held_totals held leg.account.0)) legs → All (λ (leg : Leg). held_totals held leg.account.0 ≡ totals_of leg.account.0 history) legs
all_agreed chart history pairs held legs totals fits agreed k d lt =
    let n : ℕ = (get_or legs k d).account.0 in
    let listed = (sound_legs chart legs fits k d lt).listed in
    agreed_totals chart history pairs held n totals listed.0 listed.1 (agreed k d lt)

-- ---- one entry more

module _ (chart : Chart) (before entries : List Entry) (held : List Holding) (rest new_rest : List Entry) (spare new_spare : ℕ) (now : List Entry) (after : List Holding) (pairs new_pairs : List Pair) (e : Entry)
    (so_far : IsSettling chart before entries held rest spare now after pairs) (is : rest ≡ new_rest ++ e ∷ []) where
  -- it stands next
  pub all_then : before ++ entries ≡ (now ++ e ∷ []) ++ reverse new_rest
  all_then =
      let split : entries ≡ so_far.done ++ e ∷ reverse new_rest = so_far.left ∙ ap (λ (l : List Entry). so_far.done ++ reverse l) is ∙ ap (λ (l : List Entry). so_far.done ++ l) (reverse-append new_rest (e ∷ [])) in
      ap (λ (l : List Entry). before ++ l) split
      ∙ sym (append_assoc before so_far.done (e ∷ reverse new_rest))
      ∙ ap (λ (l : List Entry). l ++ e ∷ reverse new_rest) (sym so_far.now_is)
      ∙ sym (append_assoc now (e ∷ []) (reverse new_rest))

  pub settle_more : HasTotals new_pairs (length (accounts_of chart)) (now ++ e ∷ []) → spare ≤ new_spare + 1
      → IsSettling chart before entries held new_rest new_spare (now ++ e ∷ []) (held_with (booked_legs e) after) new_pairs
  settle_more totals room = record {
    done = so_far.done ++ e ∷ [];
    left = so_far.left ∙ ap (λ (l : List Entry). so_far.done ++ reverse l) is ∙ ap (λ (l : List Entry). so_far.done ++ l) (reverse-append new_rest (e ∷ [])) ∙ sym (append_assoc so_far.done (e ∷ []) (reverse new_rest));
    now_is = ap (λ (l : List Entry). l ++ e ∷ []) so_far.now_is ∙ append_assoc before so_far.done (e ∷ []);
    held_is = ap (held_with (booked_legs e)) so_far.held_is ∙ sym (held_with-append (all_booked so_far.done) (booked_legs e) held)
        ∙ ap (λ (l : List Leg). held_with l held) (sym (booked_more so_far.done e));
    totals = totals;
    room = let r = so_far.room in omega (arith, r, room, ap length is, length-append new_rest (e ∷ []));
  }

-- at first
pub settle_none : (chart : Chart) (before entries : List Entry) (held : List Holding) (rest : List Entry) (spare : ℕ) (pairs : List Pair) → rest ≡ reverse entries → length entries ≤ spare → HasTotals pairs (length (accounts_of chart)) before
    → IsSettling chart before entries held rest spare before held pairs
settle_none chart before entries held rest spare pairs turned room totals = record {
  done = [];
  left = sym (reverse-reverse entries) ∙ ap reverse (sym turned);
  now_is = sym (append-nil before);
  held_is = sym (held_with-nil held);
  totals = totals;
  room = omega (arith, room, ap length turned, length-reverse entries);
}

-- at the end
pub settled_all : (chart : Chart) (before entries : List Entry) (held : List Holding) (rest : List Entry) (spare : ℕ) (now : List Entry) (after : List Holding) (pairs : List Pair)
    → IsSettling chart before entries held rest spare now after pairs → rest ≡ [] → (now ≡ before ++ entries) × (after ≡ held_with (all_booked entries) held)
settled_all chart before entries held rest spare now after pairs so_far none =
    let all : so_far.done ≡ entries = sym (so_far.left ∙ ap (λ (l : List Entry). so_far.done ++ reverse l) none ∙ append-nil so_far.done) in (
      so_far.now_is ∙ ap (λ (l : List Entry). before ++ l) all,
      so_far.held_is ∙ ap (λ (l : List Entry). held_with (all_booked l) held) all,
    )
