-- Accounts that are found fit, and an id names one account.
use Rattle.std.proofs.Common.{◌≡◌, ℕ, ◌-◌, Bool, true, false, List, length, Option, Some, None, IsTrue, IfSome, refl, sym, ap, ◌∙◌, subst, arith, leb, eqb}
use Rattle.std.specs.Prelude.{◌&&◌, ◌||◌, option_map, slice_get}
use Rattle.std.specs.List.{position_from}
use Rattle.std.specs.Str.{bytes_eq}
use Rattle.std.proofs.lemmas.Bool.{and_parts, eqb-true, le-leb}
use Rattle.std.proofs.lemmas.Option.{same_Some}
use Rattle.std.proofs.lemmas.Slice.Eq.{bytes_eq-Decides}
use Rattle.corr_money.specs.declared.amount.Amount.{Amount}
use Rattle.day_model.specs.declared.account.Account.{Account}
use Rattle.day_model.specs.declared.account.AcctNo.{AcctNo}
use Rattle.day_model.specs.Chart.{AreAccounts, Chart, IsListed, account_at, accounts_of, has_id, is_owned, is_same_ccy, number_of_first}
use Rattle.corr_ids.specs.Kinds.{customer, nostro, vostro}
use Rattle.day_model.proofs.laws.Places.{listed, place-of}
use Rattle.routing.specs.Accounts.{fits_amount, fits_at, account_named, serves}
use Rattle.routing.specs.declared.ledger.Wanted.{Wanted}
use Rattle.routing.specs.declared.ledger.Wanted.TheVariants.{Customer, Relation, Vostro, Nostro}
use Rattle.routing.proofs.Numbers.{StandsAt, found, none-both, none-such, some-both}

pub stands : (t : Account → Bool) (chart : Chart) (n : AcctNo) → number_of_first t (accounts_of chart) ≡ Some n → StandsAt t (accounts_of chart) (n.0 - 1)
stands t chart n e =
    let l : IsListed chart n.0 = listed t chart n e in
    found t 1 (n.0 - 1) n.0 (accounts_of chart) (place-of t (accounts_of chart) n e) (omega arith)

-- the first account that passes a test that only fitting ones pass fits
first-fits : (t : Account → Bool) (chart : Chart) (amount : Amount) (n : AcctNo) → ((x : Account) → t x ≡ true → fits_amount amount x ≡ true) → number_of_first t (accounts_of chart) ≡ Some n → fits_at chart amount n ≡ true
first-fits t chart amount n only e =
    let l : IsListed chart n.0 = listed t chart n e in
    let s : StandsAt t (accounts_of chart) (n.0 - 1) = stands t chart n e in
    let first : leb 1 n.0 ≡ true = le-leb 1 n.0 l.0 in
    let last : leb n.0 (length (accounts_of chart)) ≡ true = le-leb n.0 (length (accounts_of chart)) l.1 in
    rw (first, last, s.there) (only s.item s.passes)

last-two : (a b c d : Bool) → a && b && c && d ≡ true → c && d ≡ true
last-two true true c d e = e
last-two true false c d e = cc
last-two false b c d e = cc

pub owned-fits : (kind : ℕ) (head : List ℕ) (amount : Amount) (x : Account) → is_owned kind head amount.ccy amount.decimals x ≡ true → fits_amount amount x ≡ true
owned-fits kind head amount x e = last-two (eqb x.kind kind) (bytes_eq x.owner.head head) (is_same_ccy x.ccy amount.ccy) (eqb x.decimals amount.decimals) e

either : (a b c : Bool) → (a ≡ true → c ≡ true) → (b ≡ true → c ≡ true) → a || b ≡ true → c ≡ true
either true b c f g e = f refl
either false b c f g e = g e

pub serves-fits : (w : Wanted) (amount : Amount) (x : Account) → serves w amount x ≡ true → fits_amount amount x ≡ true
serves-fits Customer amount x e = (and_parts (eqb x.kind customer) (fits_amount amount x) e).1
serves-fits (Relation bank) amount x e =
    either (is_owned vostro bank.head amount.ccy amount.decimals x) (is_owned nostro bank.head amount.ccy amount.decimals x) (fits_amount amount x)
    (owned-fits vostro bank.head amount x) (owned-fits nostro bank.head amount x) e
serves-fits (Vostro bank) amount x e = owned-fits vostro bank.head amount x e
serves-fits (Nostro bank) amount x e = owned-fits nostro bank.head amount x e

pub owned-Fits : (kind : ℕ) (head : List ℕ) (amount : Amount) (chart : Chart) (o : Option AcctNo) → o ≡ number_of_first (is_owned kind head amount.ccy amount.decimals) (accounts_of chart) → IfSome o (λ n. IsTrue (fits_at chart amount n))
owned-Fits kind head amount chart (Some n) e = first-fits (is_owned kind head amount.ccy amount.decimals) chart amount n (owned-fits kind head amount) (sym e)
owned-Fits kind head amount chart None e = tt

-- the account that is found is of the kind
pub owned-kind : (kind : ℕ) (head : List ℕ) (amount : Amount) (chart : Chart) (o : Option AcctNo) → o ≡ number_of_first (is_owned kind head amount.ccy amount.decimals) (accounts_of chart)
    → IfSome o (λ n. (x : Account) → account_at chart n.0 ≡ Some x → x.kind ≡ kind)
owned-kind kind head amount chart (Some n) e = λ x at.
    let s = stands (is_owned kind head amount.ccy amount.decimals) chart n (sym e) in
    let same : s.item ≡ x = same_Some _ _ (sym s.there ∙ at) in
    let is = subst (λ (y : Account). is_owned kind head amount.ccy amount.decimals y ≡ true) same s.passes in
    let money = and_parts (eqb x.kind kind && bytes_eq x.owner.head head && is_same_ccy x.ccy amount.ccy) (eqb x.decimals amount.decimals) is in
    let bank = and_parts (eqb x.kind kind && bytes_eq x.owner.head head) (is_same_ccy x.ccy amount.ccy) money.0 in
    eqb-true x.kind kind (and_parts (eqb x.kind kind) (bytes_eq x.owner.head head) bank.0).0
owned-kind kind head amount chart None e = tt

abbrev numbered : ℕ → AcctNo
numbered k = record { 0 = k }

not-found : (o : Option ℕ) → option_map numbered o ≡ None → o ≡ None
not-found (Some k) h = cc
not-found None h = refl

pub named-None : (id : List ℕ) (w : Wanted) (amount : Amount) (chart : Chart) → number_of_first (has_id id) (accounts_of chart) ≡ None → account_named id w amount chart ≡ None
named-None id w amount chart e =
    ap (option_map numbered) (none-both (has_id id) (serves w amount) 1 (accounts_of chart) (not-found (position_from (has_id id) 1 (accounts_of chart)) e))

pub named-Some : (id : List ℕ) (w : Wanted) (amount : Amount) (chart : Chart) (n : AcctNo) (x : Account) →
    number_of_first (has_id id) (accounts_of chart) ≡ Some n → account_at chart n.0 ≡ Some x → serves w amount x ≡ true → account_named id w amount chart ≡ Some n
named-Some id w amount chart n x e there passes =
    let l : IsListed chart n.0 = listed (has_id id) chart n e in
    let both = some-both (has_id id) (serves w amount) 1 (n.0 - 1) n.0 (accounts_of chart) x (place-of (has_id id) (accounts_of chart) n e) (omega arith) there passes in
    ap (option_map numbered) both

pub named-Fits : (id : List ℕ) (w : Wanted) (amount : Amount) (chart : Chart) (n : AcctNo) → account_named id w amount chart ≡ Some n → fits_at chart amount n ≡ true
named-Fits id w amount chart n e =
    first-fits (λ x. has_id id x && serves w amount x) chart amount n (λ x both. serves-fits w amount x (and_parts (has_id id x) (serves w amount x) both).1) e

-- ids are distinct: no other account has the id
pub named-other : (id : List ℕ) (w : Wanted) (amount : Amount) (chart : Chart) (n : AcctNo) (x : Account) → AreAccounts (accounts_of chart) →
    number_of_first (has_id id) (accounts_of chart) ≡ Some n → account_at chart n.0 ≡ Some x → serves w amount x ≡ false → account_named id w amount chart ≡ None
named-other id w amount chart n x rows e there fails =
    let s : StandsAt (has_id id) (accounts_of chart) (n.0 - 1) = stands (has_id id) chart n e in
    let mine : s.item.id ≡ id = (bytes_eq-Decides s.item.id id).0 s.passes in
    ap (option_map numbered) (none-such (λ y. has_id id y && serves w amount y) 1 (accounts_of chart) (λ k y at.
    elim (has_id id y) as (λ b. (has_id id y ≡ b) → b && serves w amount y ≡ false) [
      | true ↦ λ was.
          let theirs : y.id ≡ id = (bytes_eq-Decides y.id id).0 was in
          let place : k ≡ n.0 - 1 = rows.apart.ids k (n.0 - 1) y s.item at s.there (theirs ∙ sym mine) in
          let same : y ≡ x = same_Some _ _ (sym at ∙ ap (slice_get (accounts_of chart)) place ∙ there) in
          ap (serves w amount) same ∙ fails
      | false ↦ λ was. refl
    ] refl))
