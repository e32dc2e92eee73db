-- The accounts of pays, gathered, sorted and held.
use Rattle.std.proofs.Common.{◌≡◌, ◌⊎◌, ⊎_elim, inl, inr, ℕ, suc, ◌+◌, ◌<◌, ◌≤◌, All, List, [], ◌∷◌, ◌++◌, length, map, take, drop, get_or, refl, sym, ap, ◌∙◌, subst, arith, length-append}
use Rattle.std.specs.Prelude.{IsPermutation, IsSorted}
use Rattle.std.specs.List.Sorted.{IsNonDecreasingBy}
use Rattle.std.specs.Ordering.{nat_cmp}
use Rattle.std.proofs.lemmas.List.{drop_more}
use Rattle.std.proofs.lemmas.List.Elements.{All-append, All-cons, All-head, All-map, All-more, All-nil, All-push, All-tail, All-weaker}
use Rattle.std.proofs.lemmas.List.Sorted.{All-permutation, IsNonDecreasingBy-drop, IsNonDecreasingBy-from_sort, IsPermutation-sym}
use Rattle.std.proofs.lemmas.Option.{slice_get-get_or}
use Rattle.day_model.specs.declared.pay.Leg.{Leg}
use Rattle.day_model.specs.declared.pay.Pay.{Pay}
use Rattle.day_model.specs.Chart.{Chart, accounts_of}
use Rattle.day_model.specs.Fit.{FitsAccounts}
use Rattle.day_model.proofs.laws.Fitting.{fitting}
use Rattle.acct_locks.specs.Holdings.{AllHand, EachOnce, Holding, Holds, HoldsOnce, TakesNext}
use Rattle.jrn_book.specs.Deciding.{HoldsAll}
use Rattle.corr_books.specs.inner.Numbers.{IsOneOf}
use Rattle.corr_books.specs.inner.TellingAll.{HasAccountsOf, RiseOrStay}

-- a number of a list is there when more follow, and so is one of those that follow
stays_one : (numbers more : List ℕ) (n : ℕ) → IsOneOf numbers n → IsOneOf (numbers ++ more) n
stays_one [] more n it = absurd it
stays_one (m ∷ numbers) more n it = ⊎_elim (λ (is : m ≡ n). inl is) (λ (on : IsOneOf numbers n). inr (stays_one numbers more n on)) it

joins_one : (numbers more : List ℕ) (n : ℕ) → IsOneOf more n → IsOneOf (numbers ++ more) n
joins_one [] more n it = it
joins_one (m ∷ numbers) more n it = inr (joins_one numbers more n it)

-- each number of a list is one of them
all_themselves : (numbers : List ℕ) → All (IsOneOf numbers) numbers
all_themselves [] = All-nil (IsOneOf [])
all_themselves (n ∷ numbers) =
    All-cons (IsOneOf (n ∷ numbers)) n numbers (inl refl) (All-weaker (IsOneOf numbers) (IsOneOf (n ∷ numbers)) (λ m it. inr it) numbers (all_themselves numbers))

-- what holds of all numbers of a list holds of one of them
of_one : (P : ℕ → Type 0) (numbers : List ℕ) (n : ℕ) → All P numbers → IsOneOf numbers n → P n
of_one P [] n all it = absurd it
of_one P (m ∷ numbers) n all it =
    ⊎_elim (λ (is : m ≡ n). subst P is (All-head P m numbers all)) (λ (on : IsOneOf numbers n). of_one P numbers n (All-tail P m numbers all) on) it

-- the accounts of legs
abbrev pub numbers_in : List Leg → List ℕ
numbers_in legs = map (λ leg. leg.account.0) legs

each_in : (legs : List Leg) → All (λ leg. IsOneOf (numbers_in legs) leg.account.0) legs
each_in [] = All-nil (λ (leg : Leg). IsOneOf [] leg.account.0)
each_in (leg ∷ legs) =
    let P : Leg → Type 0 = λ x. IsOneOf (numbers_in legs) x.account.0 in
    let Q : Leg → Type 0 = λ x. IsOneOf (numbers_in (leg ∷ legs)) x.account.0 in
    All-cons Q leg legs (inl refl) (All-weaker P Q (λ x it. inr it) legs (each_in legs))

module _ (chart : Chart) where
  -- an account of the chart
  abbrev There : ℕ → Type 0
  There n = (1 ≤ n) × (n ≤ length (accounts_of chart))

  -- accounts of the chart, among them those of all legs of these pays
  pub record Gathers (pays : List Pay) (numbers : List ℕ) : Type 0 where
    pub there : All (λ n. (1 ≤ n) × (n ≤ length (accounts_of chart))) numbers
    pub are : All (λ pay. All (λ leg. IsOneOf numbers leg.account.0) pay.legs) pays

  -- the accounts of a pay that fits are there
  legs_there : (pay : Pay) → FitsAccounts chart pay → All There (numbers_in pay.legs)
  legs_there pay fits =
      let fit = fitting chart pay.legs fits in
      All-map There (λ (leg : Leg). leg.account.0) pay.legs (λ k d lt. (fit.each k (get_or pay.legs k d) (slice_get-get_or pay.legs k d lt)).listed)

  -- with those of one pay more
  pub one_gathered : (pays : List Pay) (numbers next : List ℕ) (k : ℕ) (pay : Pay) → All (FitsAccounts chart) pays → k < length pays → pay ≡ get_or pays k pay → Gathers (take k pays) numbers
      → next ≡ numbers ++ numbers_in pay.legs → Gathers (take (k + 1) pays) next
  one_gathered pays numbers next k pay fits lt here g is =
      let of : List ℕ → Pay → Type 0 = λ ns p. All (λ leg. IsOneOf ns leg.account.0) p.legs in
      let grown = numbers ++ numbers_in pay.legs in
      let fit : FitsAccounts chart pay = subst (FitsAccounts chart) (sym here) (fits k pay lt) in
      let own : of grown pay = All-weaker (λ leg. IsOneOf (numbers_in pay.legs) leg.account.0) (λ leg. IsOneOf grown leg.account.0) (λ leg it. joins_one numbers (numbers_in pay.legs) leg.account.0 it) pay.legs (each_in pay.legs) in
      let before : All (of grown) (take k pays) = All-weaker (of numbers) (of grown)
      (λ p all. All-weaker (λ leg. IsOneOf numbers leg.account.0) (λ leg. IsOneOf grown leg.account.0) (λ leg it. stays_one numbers (numbers_in pay.legs) leg.account.0 it) p.legs all) (take k pays) g.are in
      subst (Gathers (take (k + 1) pays)) (sym is) (record {
        there = All-append There numbers (numbers_in pay.legs) g.there (legs_there pay fit);
        are = All-more (of grown) pays k pay lt before (subst (of grown) here own);
      })

  -- numbers that don't fall
  rise_from : (low : ℕ) (numbers : List ℕ) → IsNonDecreasingBy (λ n. n) numbers → All (λ n. low ≤ n) numbers → RiseOrStay low numbers
  rise_from low [] up all = tt
  rise_from low (n ∷ numbers) up all = (
    All-head (λ m. low ≤ m) n numbers all,
    rise_from n numbers (IsNonDecreasingBy-drop (λ m. m) 1 (n ∷ numbers) up)
        (λ k d lt. up 0 (suc k) d (omega arith) (omega (arith, lt))),
  )

  -- sorted, they are as they should be
  pub sorted_gathered : (pays : List Pay) (numbers sorted : List ℕ) → Gathers pays numbers → IsPermutation numbers sorted → IsSorted nat_cmp sorted → HasAccountsOf chart pays sorted
  sorted_gathered pays numbers sorted g moved up =
      let there : All There sorted = All-permutation There numbers sorted moved g.there in
      let back : All (IsOneOf sorted) numbers = All-permutation (IsOneOf sorted) sorted numbers (IsPermutation-sym numbers sorted moved) (all_themselves sorted) in
      record {
        ordered = rise_from 1 sorted (IsNonDecreasingBy-from_sort (λ n. n) sorted up) (All-weaker There (λ n. 1 ≤ n) (λ n it. it.0) sorted there);
        there = All-weaker There (λ n. n ≤ length (accounts_of chart)) (λ n it. it.1) sorted there;
        are = All-weaker (λ pay. All (λ leg. IsOneOf numbers leg.account.0) pay.legs) (λ pay. All (λ leg. IsOneOf sorted leg.account.0) pay.legs)
            (λ pay all. All-weaker (λ leg. IsOneOf numbers leg.account.0) (λ leg. IsOneOf sorted leg.account.0) (λ leg it. of_one (IsOneOf sorted) numbers leg.account.0 back it) pay.legs all) pays g.are;
      }

-- an account stays held when another is taken, and that one is held too
stays_held : (held more : List Holding) (n : ℕ) → Holds held n → Holds (held ++ more) n
stays_held [] more n it = absurd it
stays_held (h ∷ held) more n it = ⊎_elim (λ (is : h.number ≡ n). inl is) (λ (on : Holds held n). inr (stays_held held more n on)) it

last_held : (held : List Holding) (h : Holding) (n : ℕ) → h.number ≡ n → Holds (held ++ h ∷ []) n
last_held [] h n is = inl is
last_held (g ∷ held) h n is = inr (last_held held h n is)

-- numbers that don't fall are all at least the first
all_above : (low : ℕ) (numbers : List ℕ) → RiseOrStay low numbers → All (λ n. low ≤ n) numbers
all_above low [] rise = All-nil (λ n. low ≤ n)
all_above low (n ∷ numbers) rise =
    let first : low ≤ n = rise.0 in
    All-cons (λ m. low ≤ m) n numbers first (All-weaker (λ m. n ≤ m) (λ m. low ≤ m) (λ m le. omega (arith, first, le)) numbers (all_above n numbers rise.1))

lower : (low less : ℕ) (numbers : List ℕ) → less ≤ low → RiseOrStay low numbers → RiseOrStay less numbers
lower low less [] le rise = tt
lower low less (n ∷ numbers) le rise = let first : low ≤ n = rise.0 in (omega (arith, first, le), rise.1)

-- So many of the numbers are held, the last of them, or none, was taken last, and nothing else has changed.
pub record HasTaken (start : AllHand) (numbers : List ℕ) (k last : ℕ) (hand : AllHand) : Type 0 where
  pub has : All (λ n. Holds hand.held n) (take k numbers)
  pub below : All (λ h. h.number ≤ last) hand.held
  pub at : (last ≡ 0) ⊎ Holds hand.held last
  pub room : length hand.held ≤ k
  pub once : EachOnce hand.held
  pub rise : RiseOrStay last (drop k numbers)
  pub table : hand.table ≡ start.table
  pub count : hand.count ≡ start.count
  pub most : hand.most ≡ start.most

pub none_taken : (start : AllHand) (numbers : List ℕ) → start.held ≡ [] → RiseOrStay 1 numbers → HasTaken start numbers 0 0 start
none_taken start numbers none rise = record {
  has = All-nil (λ n. Holds start.held n);
  below = subst (All (λ h. h.number ≤ 0)) (sym none) (All-nil (λ h. h.number ≤ 0));
  at = inl refl;
  room = omega (arith, ap length none);
  once = λ n it. absurd (subst (λ (held : List Holding). Holds held n) none it);
  rise = lower 1 0 numbers (omega arith) rise;
  table = refl;
  count = refl;
  most = refl;
}

module _ (start : AllHand) (numbers : List ℕ) (k last : ℕ) (hand : AllHand) (n : ℕ) (t : HasTaken start numbers k last hand) (lt : k < length numbers) (is : n ≡ get_or numbers k n) where
  -- what is left
  left : RiseOrStay last (n ∷ drop (k + 1) numbers)
  left = subst (RiseOrStay last) (drop_more numbers k n lt ∙ ap (λ m. m ∷ drop (k + 1) numbers) (sym is)) t.rise

  -- each of the numbers is at least 1
  pub some : RiseOrStay 1 numbers → 1 ≤ n
  some rise = subst (λ m. 1 ≤ m) (sym is) (all_above 1 numbers rise k n lt)

  -- one that is taken is above all others
  pub above : last < n → All (λ h. h.number < n) hand.held
  above less = All-weaker (λ h. h.number ≤ last) (λ h. h.number < n) (λ h le. omega (arith, le, less)) hand.held t.below

  pub one_taken : (next : AllHand) → last < n → TakesNext hand n next → EachOnce next.held → HasTaken start numbers (k + 1) n next
  one_taken next less taken once =
      let h : Holding = taken.0 in
      let held : next.held ≡ hand.held ++ h ∷ [] = ap (λ (x : AllHand). x.held) taken.2 in
      let P : List Holding → Type 0 = λ hs. All (λ m. Holds hs m) (take (k + 1) numbers) in
      let has : P (hand.held ++ h ∷ []) =
      All-more (λ m. Holds (hand.held ++ h ∷ []) m) numbers k n lt (All-weaker (λ m. Holds hand.held m) (λ m. Holds (hand.held ++ h ∷ []) m) (λ m it. stays_held hand.held (h ∷ []) m it) (take k numbers) t.has)
      (subst (λ m. Holds (hand.held ++ h ∷ []) m) is (last_held hand.held h n taken.1)) in
      record {
        has = subst P (sym held) has;
        below = subst (All (λ x. x.number ≤ n)) (sym held)
            (All-push (λ (x : Holding). x.number ≤ n) hand.held h (All-weaker (λ x. x.number ≤ last) (λ x. x.number ≤ n) (λ x le. omega (arith, le, less)) hand.held t.below) (omega (arith, taken.1)));
        at = inr (subst (λ (hs : List Holding). Holds hs n) (sym held) (last_held hand.held h n taken.1));
        room = let room = t.room in omega (arith, room, ap length held, length-append hand.held (h ∷ []));
        once = once;
        rise = left.1;
        table = ap (λ (x : AllHand). x.table) taken.2 ∙ t.table;
        count = ap (λ (x : AllHand). x.count) taken.2 ∙ t.count;
        most = ap (λ (x : AllHand). x.most) taken.2 ∙ t.most;
      }

  -- one that was taken is held
  pub none_more : RiseOrStay 1 numbers → n ≤ last → HasTaken start numbers (k + 1) last hand
  none_more rise le =
      let least : last ≤ n = left.0 in
      let one : 1 ≤ n = some rise in
      let same : last ≡ n = omega (arith, le, least) in
      let there : Holds hand.held last = ⊎_elim (λ (none : last ≡ 0). absurd (omega (arith, none, same, one))) (λ (it : Holds hand.held last). it) t.at in
      record {
        has = All-more (λ m. Holds hand.held m) numbers k n lt t.has (subst (λ m. Holds hand.held m) (same ∙ is) there);
        below = t.below;
        at = t.at;
        room = let room = t.room in omega (arith, room);
        once = t.once;
        rise = lower n last (drop (k + 1) numbers) least left.1;
        table = t.table;
        count = t.count;
        most = t.most;
      }

-- the accounts of pays, all of them held, hold all of their legs
pub holds_pays : (chart : Chart) (pays : List Pay) (numbers : List ℕ) (held : List Holding) → HasAccountsOf chart pays numbers → All (λ n. Holds held n) numbers → EachOnce held → All (λ p. HoldsAll held p.legs) pays
holds_pays chart pays numbers held has all once =
    All-weaker (λ pay. All (λ leg. IsOneOf numbers leg.account.0) pay.legs) (λ pay. HoldsAll held pay.legs)
    (λ pay are. All-weaker (λ leg. IsOneOf numbers leg.account.0) (λ leg. HoldsOnce held leg.account.0) (λ leg it. once leg.account.0 (of_one (λ n. Holds held n) numbers leg.account.0 all it)) pay.legs are) pays has.are
