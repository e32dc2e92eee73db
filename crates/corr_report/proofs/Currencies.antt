-- The currencies of accounts: in byte order, each once, and those of the accounts.
use Rattle.std.proofs.Common.{◌≡◌, ℕ, zero, suc, ◌+◌, Bool, true, false, cond, Ordering, Less, Equal, Greater, List, [], ◌∷◌, ◌++◌, refl, sym, ap, ◌∙◌, subst, arith, append_assoc}
use Rattle.std.specs.Prelude.{◌||◌, not}
use Rattle.std.specs.Cmp.{IsTotalOrder}
use Rattle.std.specs.Cmp.Lexicographic.{slice_cmp}
use Rattle.std.specs.List.{All, AllByRecursion, Contains, insert, list_any, position_or_len}
use Rattle.std.specs.List.Sorted.{IsStrictlySortedBy}
use Rattle.std.specs.Ordering.{is_eq, is_lt, nat_cmp, ordering_reverse}
use Rattle.std.proofs.lemmas.Bool.{cond_both, or_parts, true≢false}
use Rattle.std.proofs.lemmas.Cmp.{nat_list_cmp_total, on_total, tied_itself}
use Rattle.std.proofs.lemmas.List.{append-nil}
use Rattle.std.proofs.lemmas.List.Elements.{All-from_recursion, All-push, All-weaker, Contains-append_left, Contains-push, recursion_from_All}
use Rattle.std.proofs.lemmas.Map.Text.{is_eq-slice_cmp}
use Rattle.day_model.specs.declared.account.Account.{Account}
use Rattle.day_model.specs.Chart.{is_same_ccy}
use Rattle.corr_money.specs.declared.amount.Ccy.{Ccy}
use Rattle.corr_report.specs.declared.currency.Currency.{Currency}
use Rattle.corr_report.specs.Totals.{AreCurrencies, currencies_of, currency_of, entered}
use Rattle.day_model.specs.Gap.{is_before}

-- byte order
abbrev ccy_order : Currency → Currency → Ordering
ccy_order c d = slice_cmp nat_cmp c.ccy.0 d.ccy.0

order_total : IsTotalOrder ccy_order
order_total = on_total (λ (unit : Currency). unit.ccy.0) nat_list_cmp_total

same_ccy : (c : Ccy) → is_same_ccy c c ≡ true
same_ccy c = sym (is_eq-slice_cmp c.0 c.0) ∙ ap is_eq (tied_itself nat_list_cmp_total c.0)

-- one more element
all_insert : (P : Currency → Type 0) (xs : List Currency) (i : ℕ) (x : Currency) → P x → AllByRecursion P xs → AllByRecursion P (insert xs i x)
all_insert P xs zero x p a = (p, a)
all_insert P [] (suc i) x p a = (p, tt)
all_insert P (y ∷ xs) (suc i) x p a = (a.0, all_insert P xs i x p a.1)

weaker : (P Q : Currency → Type 0) → ((x : Currency) → P x → Q x) → (xs : List Currency) → AllByRecursion P xs → AllByRecursion Q xs
weaker P Q f [] a = tt
weaker P Q f (x ∷ xs) a = (f x a.0, weaker P Q f xs a.1)

or_more : (a b c : Bool) → (b ≡ true → c ≡ true) → (a || b) ≡ true → (a || c) ≡ true
or_more true b c f h = refl
or_more false b c f h = f h

or_right : (a b : Bool) → b ≡ true → (a || b) ≡ true
or_right true b h = refl
or_right false b h = h

any_insert : (p : Currency → Bool) (xs : List Currency) (i : ℕ) (x : Currency) → list_any p xs ≡ true → list_any p (insert xs i x) ≡ true
any_insert p xs zero x h = or_right (p x) (list_any p xs) h
any_insert p [] (suc i) x h = absurd (true≢false (sym h))
any_insert p (y ∷ xs) (suc i) x h = or_more (p y) (list_any p xs) (list_any p (insert xs i x)) (any_insert p xs i x) h

any_inserted : (p : Currency → Bool) (xs : List Currency) (i : ℕ) (x : Currency) → p x ≡ true → list_any p (insert xs i x) ≡ true
any_inserted p xs zero x h = ap (λ b. b || list_any p xs) h
any_inserted p [] (suc i) x h = ap (λ b. b || false) h
any_inserted p (y ∷ xs) (suc i) x h = or_right (p y) (list_any p (insert xs i x)) (any_inserted p xs i x h)

-- a new currency goes before the first that is greater
placed : (new u : Currency) (units : List Currency) (o : Ordering) → ccy_order new u ≡ o → is_same_ccy u.ccy new.ccy ≡ false → IsStrictlySortedBy ccy_order (u ∷ units)
    → IsStrictlySortedBy ccy_order (insert units (position_or_len (λ unit. is_before new.ccy unit.ccy) units) new)
    → IsStrictlySortedBy ccy_order (insert (u ∷ units) (cond (not (is_lt o)) (suc (position_or_len (λ unit. is_before new.ccy unit.ccy) units)) 0) new)
unfolding IsStrictlySortedBy
placed new u units Less e other s rest =
    ((e, weaker (λ y. ccy_order u y ≡ Less) (λ y. ccy_order new y ≡ Less) (λ y h. order_total.trans new u y e h) units s.0), s)
placed new u units Equal e other s rest =
    let same : ccy_order u new ≡ Equal = order_total.antisymm u new ∙ ap ordering_reverse e in
    absurd (true≢false (sym (sym (is_eq-slice_cmp u.ccy.0 new.ccy.0) ∙ ap is_eq same) ∙ other))
placed new u units Greater e other s rest =
    let under : ccy_order u new ≡ Less = order_total.antisymm u new ∙ ap ordering_reverse e in
    (all_insert (λ y. ccy_order u y ≡ Less) units (position_or_len (λ unit. is_before new.ccy unit.ccy) units) new under s.0, rest)

insert_rising : (new : Currency) (units : List Currency) → list_any (λ unit. is_same_ccy unit.ccy new.ccy) units ≡ false → IsStrictlySortedBy ccy_order units
    → IsStrictlySortedBy ccy_order (insert units (position_or_len (λ unit. is_before new.ccy unit.ccy) units) new)
unfolding IsStrictlySortedBy
insert_rising new [] none s = (tt, tt)
insert_rising new (u ∷ units) none s =
    let others = or_parts (is_same_ccy u.ccy new.ccy) (list_any (λ unit. is_same_ccy unit.ccy new.ccy) units) none in
    let at = position_or_len (λ unit. is_before new.ccy unit.ccy) units in
    let next : suc at ≡ 1 + at = omega arith in
    subst (λ (k : ℕ). IsStrictlySortedBy ccy_order (insert (u ∷ units) (cond (not (is_lt (ccy_order new u))) k 0) new)) next
    (placed new u units (ccy_order new u) refl others.0 s (insert_rising new units others.1 s.1))

-- one account more
one_more : (seen : List Account) (a : Account) (units : List Currency) → AreCurrencies seen units → AreCurrencies (seen ++ a ∷ []) (entered (currency_of a) units)
one_more seen a units are =
    let new = currency_of a in
    let at = position_or_len (λ unit. is_before new.ccy unit.ccy) units in
    let OfSeen : List Account → Currency → Type 0 = λ accounts unit. (x : Account) × Contains accounts x × (currency_of x ≡ unit) in
    let Has : List Currency → Account → Type 0 = λ units x. list_any (λ unit. is_same_ccy unit.ccy x.ccy) units ≡ true in
    let each : All (OfSeen (seen ++ a ∷ [])) units =
    All-weaker (OfSeen seen) (OfSeen (seen ++ a ∷ [])) (λ unit of. (of.0, Contains-append_left seen (a ∷ []) of.0 of.1, of.2)) units are.each in
    cond_both (list_any (λ unit. is_same_ccy unit.ccy new.ccy) units) units (insert units at new) (AreCurrencies (seen ++ a ∷ []))
    (λ known. record { rising = are.rising; each = each; all = All-push (Has units) seen a are.all known })
    (λ none. record {
      rising = insert_rising new units none are.rising;
      each = All-from_recursion (OfSeen (seen ++ a ∷ [])) (insert units at new)
          (all_insert (OfSeen (seen ++ a ∷ [])) units at new (a, Contains-push seen a, refl) (recursion_from_All (OfSeen (seen ++ a ∷ [])) units each));
      all = All-push (Has (insert units at new)) seen a
          (All-weaker (Has units) (Has (insert units at new)) (λ x h. any_insert (λ unit. is_same_ccy unit.ccy x.ccy) units at new h) seen are.all)
          (any_inserted (λ unit. is_same_ccy unit.ccy a.ccy) units at new (same_ccy a.ccy));
    })

more : (seen accounts : List Account) (units : List Currency) → AreCurrencies seen units → AreCurrencies (seen ++ accounts) (currencies_of units accounts)
more seen [] units are = subst (λ l. AreCurrencies l units) (sym (append-nil seen)) are
more seen (a ∷ accounts) units are =
    subst (λ l. AreCurrencies l (currencies_of (entered (currency_of a) units) accounts)) (append_assoc seen (a ∷ []) accounts)
    (more (seen ++ a ∷ []) accounts (entered (currency_of a) units) (one_more seen a units are))

none_yet : AreCurrencies [] []
unfolding IsStrictlySortedBy
none_yet = record { rising = tt; each = λ k d within. absurd (omega arith); all = λ k d within. absurd (omega arith) }

pub currencies_are : (accounts : List Account) → AreCurrencies accounts (currencies_of [] accounts)
currencies_are accounts = more [] accounts [] none_yet
