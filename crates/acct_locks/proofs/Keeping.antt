-- Each step keeps the rule.
use Rattle.std.proofs.Common.{◌≡◌, ◌≢◌, ◌⊎◌, ◌<◌, ◌≤◌, ℕ, zero, suc, List, [], ◌∷◌, ◌++◌, length, set, Some, None, refl, sym, ap, ◌∙◌, subst, inl, inr, ⊎_elim}
use Rattle.std.specs.Prelude.{slice_index}
use mathlib.Core.Option.{none, some, some-injective, some-ne-none}
use lib.ListN.{get_elem?}
use Rattle.atomic_table.specs.Table.{State, Me, keeps, Allows, Splits, Joins, opening, step}
use Rattle.atomic_table.proofs.Lists.{at_set, set_here, set_else, set_again, at_longer}
use Rattle.acct_locks.specs.declared.seats.View.{View}
use Rattle.acct_locks.specs.declared.seats.View.TheVariants.{Book, Purse, Spent}
use Rattle.day_model.specs.Totals.{Pair, pair_at}
use Rattle.day_model.specs.inner.Pairs.{with_pair}
use Rattle.acct_locks.specs.Seats.{IsBookSeat, pairs_in}
use Rattle.acct_locks.specs.inner.Seats.{IsIn, without, IsPurse, away_in, handed_out, took_back, KeepsRight, KeptBy, RuleIsKept, Looked}
use Rattle.day_model.proofs.laws.PairLists.{there_is}
use Rattle.acct_locks.proofs.Places.{get_within, get_snoc, pair_here, pair_else, not_without, without_else}

-- who has a book's view sees the rule from there
seen : (s : State ℕ View) → RuleIsKept s → (id : ℕ) (v : View) → IsBookSeat v → get_elem? s.views id ≡ some v → KeptBy s.words s.views id v
seen s h id v isb at =
    let same : id ≡ h.0 = h.2.one_book id v at isb in
    let view : h.1 ≡ v = some-injective _ _ (sym h.2.there ∙ ap (λ (j : ℕ). get_elem? s.views j) (sym same) ∙ at) in
    subst (λ (y : ℕ × View). KeptBy s.words s.views y.0 y.1) (λ i. (sym same i, view i)) h.2

pub opens : (first : List Pair) → RuleIsKept (opening (0 ∷ []) [] (Book first [] None))
opens first = (
  0,
  Book first [] None,
  record {
    zero_word = refl;
    is_book = tt;
    there = refl;
    one_book = only;
    one_purse = λ i j n p q e f. absurd (none i n p e);
    is_away = λ j n p e. absurd (none j n p e);
    agrees = λ j n p e. absurd (none j n p e);
    right = tt;
  },
)
  where
    only : (j : ℕ) (w : View) → get_elem? (Book first [] None ∷ []) j ≡ some w → IsBookSeat w → j ≡ 0
    only zero w e b = refl
    only (suc j) w e b = absurd (some-ne-none w (sym e))

    none : (j n : ℕ) (p : Pair) → get_elem? (Book first [] None ∷ []) j ≡ some (Purse n p) → ⊥
    none zero n p e = (let f : Book first [] None ≡ Purse n p = some-injective _ _ e in cc)
    none (suc j) n p e = some-ne-none _ (sym e)

pub hands_out : (id n : ℕ) (p : Pair) (v : View) → IsBookSeat v → (IsIn n (away_in v) → ⊥) → 0 < n → n ≤ length (pairs_in v) → Splits RuleIsKept id v (handed_out n p v) (Purse n p)
hands_out id n p (Purse a b) isb home pos le s h at = absurd isb
hands_out id n p Spent isb home pos le s h at = absurd isb
hands_out id n p (Book ps aw k) isb home pos le s h at = (
  id,
  left,
  record {
    zero_word = r.zero_word;
    is_book = tt;
    there = at_longer (set s.views id left) (Purse n p ∷ []) id left (set_here s.views id left (get_within s.views id (Book ps aw k) at));
    one_book = only;
    one_purse = one;
    is_away = λ j m q e. ⊎_elim (λ old. inr (r.is_away j m q old)) (λ new. inl (sym new.1)) (purse j m q e);
    agrees = λ j m q e. ⊎_elim (λ old. pair_else ps n m p (other j m q old) ∙ r.agrees j m q old) (λ new. subst (λ (y : ℕ × Pair). pair_at (with_pair ps n p) y.0 ≡ Some y.1) (λ i. (sym new.1 i, sym new.2 i)) (pair_here ps n p pos le)) (purse j m q e);
    right = tt;
  },
)
  where
    r : KeptBy s.words s.views id (Book ps aw k)
    r = seen s h id (Book ps aw k) tt at

    left : View
    left = Book (with_pair ps n p) (n ∷ aw) None

    -- a purse's seat is one that was there, or the new one
    purse : (j m : ℕ) (q : Pair) → get_elem? (set s.views id left ++ Purse n p ∷ []) j ≡ some (Purse m q) → (get_elem? s.views j ≡ some (Purse m q)) ⊎ ((j ≡ length (set s.views id left)) × (m ≡ n) × (q ≡ p))
    purse j m q e =
        ⊎_elim
        (λ old. ⊎_elim (λ (t : (j ≡ id) × (left ≡ Purse m q)). absurd (cc (t.1))) (λ (t : (j ≢ id) × (get_elem? s.views j ≡ some (Purse m q))). inl t.1) (at_set s.views id j left (Purse m q) old))
        (λ (t : (j ≡ length (set s.views id left)) × (Purse n p ≡ Purse m q)). inr (t.0, cc (t.1), cc (t.1)))
        (get_snoc (set s.views id left) (Purse n p) (Purse m q) j e)

    -- the account of a seat that was there is another
    other : (j m : ℕ) (q : Pair) → get_elem? s.views j ≡ some (Purse m q) → m ≢ n
    other j m q e is = home (subst (λ (a : ℕ). IsIn a aw) is (r.is_away j m q e))

    only : (j : ℕ) (w : View) → get_elem? (set s.views id left ++ Purse n p ∷ []) j ≡ some w → IsBookSeat w → j ≡ id
    only j w e b =
        ⊎_elim
        (λ old. ⊎_elim (λ (t : (j ≡ id) × (left ≡ w)). t.0) (λ (t : (j ≢ id) × (get_elem? s.views j ≡ some w)). r.one_book j w t.1 b) (at_set s.views id j left w old))
        (λ (t : (j ≡ length (set s.views id left)) × (Purse n p ≡ w)). absurd (subst IsBookSeat (sym t.1) b))
        (get_snoc (set s.views id left) (Purse n p) w j e)

    one : (i j m : ℕ) (q q' : Pair) → get_elem? (set s.views id left ++ Purse n p ∷ []) i ≡ some (Purse m q) → get_elem? (set s.views id left ++ Purse n p ∷ []) j ≡ some (Purse m q') → i ≡ j
    one i j m q q' e f =
        ⊎_elim
        (λ old. ⊎_elim (λ old'. r.one_purse i j m q q' old old') (λ new. absurd (other i m q old new.1)) (purse j m q' f))
        (λ new. ⊎_elim (λ old'. absurd (other j m q' old' new.1)) (λ new'. new.0 ∙ sym new'.0) (purse j m q' f))
        (purse i m q e)

pub takes_back : (id : ℕ) (v : View) (by n : ℕ) (p : Pair) → IsBookSeat v → Joins RuleIsKept id v by (Purse n p) (took_back v (Purse n p)) Spent
takes_back id (Purse a b) by n p isb s h at apart there = absurd isb
takes_back id Spent by n p isb s h at apart there = absurd isb
takes_back id (Book ps aw k) by n p isb s h at apart there = (
  id,
  both,
  record {
    zero_word = r.zero_word;
    is_book = tt;
    there = set_else (set s.views id both) by id Spent (λ e. apart (sym e)) ∙ set_here s.views id both (get_within s.views id (Book ps aw k) at);
    one_book = λ j w e b. ⊎_elim (λ (t : (j ≡ by) × (Spent ≡ w)). absurd (subst IsBookSeat (sym t.1) b)) (λ (t : (j ≢ by) × (get_elem? (set s.views id both) j ≡ some w)). ⊎_elim (λ (u : (j ≡ id) × (both ≡ w)). u.0) (λ (u : (j ≢ id) × (get_elem? s.views j ≡ some w)). r.one_book j w u.1 b) (at_set s.views id j both w t.1)) (at_set (set s.views id both) by j Spent w e);
    one_purse = λ i j m q q' e f. r.one_purse i j m q q' (purse i m q e).1 (purse j m q' f).1;
    is_away = λ j m q e. without_else n m aw (λ is. (purse j m q e).0 (r.one_purse j by m q p (purse j m q e).1 (subst (λ (a : ℕ). get_elem? s.views by ≡ some (Purse a p)) (sym is) theirs))) (r.is_away j m q (purse j m q e).1);
    agrees = λ j m q e. r.agrees j m q (purse j m q e).1;
    right = r.agrees by n p theirs;
  },
)
  where
    r : KeptBy s.words s.views id (Book ps aw k)
    r = seen s h id (Book ps aw k) tt at

    both : View
    both = Book ps (without n aw) (Some (n, p))

    theirs : get_elem? s.views by ≡ some (Purse n p)
    theirs = ⊎_elim (λ (t : (by ≡ id) × (both ≡ Purse n p)). absurd (apart t.0)) (λ (t : (by ≢ id) × (get_elem? s.views by ≡ some (Purse n p))). t.1) (at_set s.views id by both (Purse n p) there)

    purse : (j m : ℕ) (q : Pair) → get_elem? (set (set s.views id both) by Spent) j ≡ some (Purse m q) → (j ≢ by) × (get_elem? s.views j ≡ some (Purse m q))
    purse j m q e =
        ⊎_elim
        (λ (t : (j ≡ by) × (Spent ≡ Purse m q)). absurd (cc (t.1)))
        (λ (t : (j ≢ by) × (get_elem? (set s.views id both) j ≡ some (Purse m q))). ⊎_elim (λ (u : (j ≡ id) × (both ≡ Purse m q)). absurd (cc (u.1))) (λ (u : (j ≢ id) × (get_elem? s.views j ≡ some (Purse m q))). (t.0, u.1)) (at_set s.views id j both (Purse m q) t.1))
        (at_set (set s.views id both) by j Spent (Purse m q) e)

pub looks : (slots id : ℕ) (me : Me ℕ View) → IsBookSeat me.0 → Allows RuleIsKept slots id me 0 (λ n. n) (Looked (step slots 0 0 0 none) me)
looks slots id me isb s h len at small =
    let r = seen s h id me.0 isb at in
    (me.0, keeps, tt, (id, me.0, subst (λ (y : List ℕ × List View). KeptBy y.0 y.1 id me.0) (λ i. (words r.zero_word i, sym (views_same at) i)) r), (refl, refl, r.right))
  where
    words : s.words ≡ 0 ∷ [] → s.words ≡ set s.words 0 (slice_index s.words 0)
    words e = subst (λ (ws : List ℕ). ws ≡ set ws 0 (slice_index ws 0)) (sym e) refl

    views_same : get_elem? s.views id ≡ some me.0 → set s.views id me.0 ≡ s.views
    views_same e = set_again s.views id me.0 e

pub takes_back_any : (id : ℕ) (v : View) (by : ℕ) (w : View) → IsBookSeat v → IsPurse w → Joins RuleIsKept id v by w (took_back v w) Spent
takes_back_any id v by (Purse n p) isb isp = takes_back id v by n p isb
takes_back_any id v by (Book ps aw k) isb isp = absurd isp
takes_back_any id v by Spent isb isp = absurd isp

pub still_book : (v w : View) → IsBookSeat v → IsBookSeat (took_back v w)
still_book (Book ps aw k) (Purse n p) isb = tt
still_book (Book ps aw k) (Book a b c) isb = tt
still_book (Book ps aw k) Spent isb = tt
still_book (Purse a b) w isb = absurd isb
still_book Spent w isb = absurd isb

-- after a take back the account is home, and it is one of the list
pub back_home : (v : View) (n : ℕ) (p : Pair) → IsBookSeat v → IsIn n (away_in (took_back v (Purse n p))) → ⊥
back_home (Book ps aw k) n p isb h = not_without n aw h
back_home (Purse a b) n p isb h = isb
back_home Spent n p isb h = isb

pub back_there : (v : View) (n : ℕ) (p : Pair) → IsBookSeat v → KeepsRight (took_back v (Purse n p)) → (0 < n) × (n ≤ length (pairs_in (took_back v (Purse n p))))
back_there (Book ps aw k) n p isb h = there_is ps n p h
back_there (Purse a b) n p isb h = absurd isb
back_there Spent n p isb h = absurd isb
