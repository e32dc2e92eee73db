-- A history in which each of some pays is booked, in whatever order, is that of one thread but for the order.
use Rattle.std.proofs.Common.{◌≡◌, inl, inr, ℕ, zero, suc, ◌+◌, ◌≤◌, Bool, true, false, List, [], ◌∷◌, ◌++◌, length, map, Some, pos, ◌+ℤ◌, ◌-ℤ◌, ◌≤ℤ◌, refl, sym, ap, ap₂, subst, arith}
use Rattle.std.specs.Prelude.{is_some, slice_get}
use Rattle.std.specs.List.{AllByRecursion, position_from}
use Rattle.std.specs.List.Sorted.{IsPermutation}
use Rattle.std.proofs.lemmas.List.{append-nil, length-map}
use Rattle.std.proofs.lemmas.List.Sorted.{sum_by-IsPermutation}
use Rattle.std.proofs.lemmas.Option.{none-some, same_Some}
use Rattle.std.proofs.lemmas.Slice.Eq.{bytes_eq-Decides}
use Rattle.corr_ids.specs.declared.day.Day.{Day}
use Rattle.corr_ids.specs.declared.mir.Mir.{Mir}
use Rattle.day_model.specs.declared.entry.Entry.{Entry}
use Rattle.day_model.proofs.laws.Fronts.{fits_now}
use Rattle.day_model.specs.declared.entry.Outcome.{Outcome}
use Rattle.day_model.specs.declared.entry.Outcome.TheVariants.{Booked}
use Rattle.day_model.specs.declared.pay.Pay.{Pay}
use Rattle.day_model.specs.declared.pay.Side.TheVariants.{Debit, Credit}
use Rattle.day_model.specs.Balance.{moved_by}
use Rattle.day_model.specs.Chart.{AreBy, Chart}
use Rattle.day_model.specs.Fit.{FitsAccounts}
use Rattle.day_model.specs.Legal.{IsLegal}
use Rattle.day_model.specs.Next.{fold_of, has_mir}
use Rattle.corr_top.specs.Booking.{IsEnteredOn}
use Rattle.corr_top.specs.Trial.{IsBooked}
use Rattle.corr_report.proofs.laws.Settled.{AreBorne, AreFresh, booked_on, settled_fold}
use Rattle.corr_top.proofs.Spread.{AllIn, AreDistinct, Has, StandsIn, has_either, spread}

-- the reference of an entry
abbrev pub mir_of : Entry → Mir
mir_of e = e.pay.mir

-- ---- entries, as those of pays

-- an element at a place stands in the list
stands_at : {X : Type 0} (xs : List X) (k : ℕ) (x : X) → slice_get xs k ≡ Some x → StandsIn x xs
stands_at [] k x at = absurd (none-some x at)
stands_at (y ∷ xs) zero x at = inl (sym (same_Some y x at))
stands_at (y ∷ xs) (suc k) x at = inr (stands_at xs k x at)

-- and what stands in it has a place
place_of : {X : Type 0} (xs : List X) (x : X) → StandsIn x xs → (k : ℕ) × (slice_get xs k ≡ Some x)
place_of [] x stands = absurd stands
place_of (y ∷ xs) x (inl same) = (0, ap Some (sym same))
place_of (y ∷ xs) x (inr later) = let found = place_of xs x later in (suc found.0, found.1)

key_at : (es : List Entry) (k : Mir) → Has mir_of k es → (n : ℕ) × (e : Entry) × (slice_get es n ≡ Some e) × (k ≡ e.pay.mir)
key_at [] k has = absurd has
key_at (e ∷ es) k (inl same) = (0, e, refl, same)
key_at (e ∷ es) k (inr later) = let found = key_at es k later in (suc found.0, found.1, found.2, found.3)

-- entries of different references, by their places
abbrev pub AreSingle : List Entry → Type 0
AreSingle es = (i j : ℕ) (d e : Entry) → slice_get es i ≡ Some d → slice_get es j ≡ Some e → d.pay.mir ≡ e.pay.mir → i ≡ j

distinct_entries : (es : List Entry) → AreSingle es → AreDistinct mir_of es
distinct_entries [] single = tt
distinct_entries (e ∷ es) single = (
  λ has. let found = key_at es e.pay.mir has in absurd (omega (arith, single 0 (suc found.0) e found.1 refl found.2 found.3)),
  distinct_entries es (λ i j d f at there same. omega (arith, single (suc i) (suc j) d f at there same)),
)

booked_in : (day : Day) (pays : List Pay) (pay : Pay) → StandsIn pay pays → StandsIn (booked_on day pay) (map (booked_on day) pays)
booked_in day [] pay stands = absurd stands
booked_in day (p ∷ pays) pay (inl same) = inl (ap (booked_on day) same)
booked_in day (p ∷ pays) pay (inr later) = inr (booked_in day pays pay later)

-- a booked entry of a day is that of its pay
entry_is : (day : Day) (pay : Pay) (on : Day) (outcome : Outcome) → on ≡ day → outcome ≡ Booked → record { pay = pay; day = on; outcome = outcome } ≡ booked_on day pay
entry_is day pay on outcome is booked = ap₂ (λ (d : Day) (o : Outcome). record { pay = pay; day = d; outcome = o }) is booked

entry_in : (day : Day) (pays : List Pay) (e : Entry) → IsEnteredOn day pays e → IsBooked e → StandsIn e (map (booked_on day) pays)
entry_in day pays e added booked =
    subst (λ (x : Entry). StandsIn x (map (booked_on day) pays)) (sym (entry_is day e.pay e.day e.outcome added.day_is booked)) (booked_in day pays e.pay (stands_at pays added.place e.pay added.pay_is))

-- what holds of all elements, one by one
abbrev pub Each : (Entry → Type 0) → List Entry → Type 0
Each P es = (k : ℕ) (e : Entry) → slice_get es k ≡ Some e → P e

entries_in : (day : Day) (pays : List Pay) (es : List Entry) → Each (IsEnteredOn day pays) es → Each IsBooked es → AllIn (map (booked_on day) pays) es
entries_in day pays [] added booked = tt
entries_in day pays (e ∷ es) added booked =
    (entry_in day pays e (added 0 e refl) (booked 0 e refl), entries_in day pays es (λ k x at. added (suc k) x at) (λ k x at. booked (suc k) x at))

-- ---- what settles the pays

-- neither an entry nor those after it
not_here : (mir : Mir) (n : ℕ) (e : Entry) (es : List Entry) (b : Bool) → has_mir mir e ≡ b → (mir ≡ e.pay.mir → ⊥) → is_some (position_from (has_mir mir) (n + 1) es) ≡ false → is_some (position_from (has_mir mir) n (e ∷ es)) ≡ false
not_here mir n e es true is other after = absurd (other (ap (λ (bs : List ℕ). record { 0 = bs }) (sym ((bytes_eq-Decides e.pay.mir.0 mir.0).0 is))))
not_here mir n e es false is other after = rw is after

-- no entry has the reference of a pay
not_entered : (mir : Mir) (n : ℕ) (es : List Entry) → (Has mir_of mir es → ⊥) → is_some (position_from (has_mir mir) n es) ≡ false
not_entered mir n [] new = refl
not_entered mir n (e ∷ es) new = not_here mir n e es (has_mir mir e) refl (λ same. new (inl same)) (not_entered mir (n + 1) es (λ has. new (inr has)))

are_fresh : (day : Day) (done : List Entry) (pays : List Pay) → AreDistinct mir_of (map (booked_on day) pays) → ((mir : Mir) → Has mir_of mir (map (booked_on day) pays) → Has mir_of mir done → ⊥) → AreFresh done day pays
are_fresh day done [] distinct apart = tt
are_fresh day done (pay ∷ pays) distinct apart = (
  not_entered pay.mir 1 done (apart pay.mir (inl refl)),
  are_fresh day (done ++ booked_on day pay ∷ []) pays distinct.1 (λ mir has had. elim (has_either mir_of done [] (booked_on day pay) mir had) [
    | inl same ↦ distinct.0 (subst (λ (m : Mir). Has mir_of m (map (booked_on day) pays)) same has)
    | inr older ↦ apart mir (inr has) (subst (λ (es : List Entry). Has mir_of mir es) (append-nil done) older)
  ]),
)

all_from : (P : Pay → Type 0) (pays : List Pay) → ((pay : Pay) → StandsIn pay pays → P pay) → AllByRecursion P pays
all_from P [] each = tt
all_from P (pay ∷ pays) each = (each pay (inl refl), all_from P pays (λ p stands. each p (inr stands)))

all_fit : (chart : Chart) (day : Day) (pays : List Pay) (es : List Entry) → IsLegal chart es → ((e : Entry) → StandsIn e (map (booked_on day) pays) → StandsIn e es) → AllByRecursion (FitsAccounts chart) pays
all_fit chart day pays es legal back = all_from (FitsAccounts chart) pays (λ pay stands.
    let at = place_of es (booked_on day pay) (back (booked_on day pay) (booked_in day pays pay stands)) in
    fits_now chart es at.0 (booked_on day pay) legal at.1)

borne_moved : (chart : Chart) (xs ys : List Entry) → IsPermutation xs ys → AreBorne chart xs → AreBorne chart ys
borne_moved chart xs ys moved borne = λ n account from at.
    let b = borne n account from at in
    record {
      floor = subst (λ (d : ℕ). account.floor ≤ℤ (account.opening -ℤ pos d)) (sym (sum_by-IsPermutation (moved_by Debit n) xs ys moved)) b.floor;
      ceil = subst (λ (c : ℕ). (account.opening +ℤ pos c) ≤ℤ account.ceil) (sym (sum_by-IsPermutation (moved_by Credit n) xs ys moved)) b.ceil;
    }

-- ---- the history

-- one thread makes the same entries, each booked
pub record IsReordered (chart : Chart) (day : Day) (pays : List Pay) (es : List Entry) : Type 0 where
  pub fold_is : fold_of chart [] pays day ≡ map (booked_on day) pays
  pub moved : IsPermutation es (fold_of chart [] pays day)

-- a legal history of booked entries, each of one of no more pays, where each account bears all of them, and changes came before all
pub reordered : (chart : Chart) (day : Day) (pays : List Pay) (es : List Entry) → AreBy 0 chart → IsLegal chart es → Each (IsEnteredOn day pays) es → Each IsBooked es → length pays ≤ length es → AreBorne chart es → IsReordered chart day pays es
reordered chart day pays es by legal added booked few borne =
    let all = map (booked_on day) pays in
    let spreads = spread mir_of es all (entries_in day pays es added booked) (distinct_entries es legal.rules.single) (omega (arith, length-map pays (booked_on day), few)) in
    let fresh = are_fresh day [] pays spreads.distinct (λ mir has had. had) in
    let fold = settled_fold chart day pays by (all_fit chart day pays es legal spreads.back) fresh (borne_moved chart es all spreads.moved borne) in
    record { fold_is = fold; moved = subst (IsPermutation es) (sym fold) spreads.moved }
