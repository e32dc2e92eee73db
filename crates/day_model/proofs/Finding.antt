-- Where accounts are found, as their list grows and as their limits change.
use Rattle.std.proofs.Common.{◌≡◌, ℕ, suc, zero, ◌+◌, ◌-◌, ◌==◌, ◌&&◌, Bool, true, false, cond, List, [], ◌∷◌, ◌++◌, length, Option, Some, None, refl, sym, ap, ◌∙◌, arith, ℤ, is_some, if◌then◌else◌}
use Rattle.std.specs.Prelude.{slice_get, slice_set}
use Rattle.std.specs.Cmp.{nat_eq_equiv}
use Rattle.std.specs.Cmp.Lexicographic.{nat_list_eq_equiv}
use Rattle.std.specs.Global.{Vec}
use Rattle.std.specs.List.{position_from}
use Rattle.std.specs.Map.{lookup}
use Rattle.std.specs.Option.{option_map_or}
use Rattle.std.specs.Str.{bytes_eq}
use Rattle.std.proofs.lemmas.Bool.{and_parts, eqb-true}
use Rattle.std.proofs.lemmas.Option.{same_Some}
use Rattle.std.proofs.lemmas.Slice.Eq.{bytes_eq-Decides}
use Rattle.day_model.specs.declared.account.Account.{Account}
use Rattle.day_model.specs.declared.account.AcctNo.{AcctNo}
use Rattle.day_model.specs.declared.change.What.TheVariants.{Limits}
use Rattle.day_model.specs.declared.listed.Owner.{Owner}
use Rattle.day_model.specs.Changes.{changed_by, with_ends}
use Rattle.day_model.specs.Chart.{has_id}
use Rattle.day_model.specs.inner.Listed.{AreFound, Finds, has_owner, is_id, is_owner, noted, owner_of}

-- ---- one more

-- a place, or else another one
abbrev or_else : Option ℕ → Option ℕ → Option ℕ
or_else (Some n) o = Some n
or_else None o = o

or_none : (o : Option ℕ) → o ≡ or_else o None
or_none None = refl
or_none (Some n) = refl

or_some : (o later : Option ℕ) → is_some o ≡ true → o ≡ or_else o later
or_some None later e = absurd (cc e)
or_some (Some n) later e = refl

looked_up : {K : Type 0} (test : K → Bool) (places : List (K × ℕ)) (key : K) (place : ℕ)
    → lookup test (places ++ (key, place) ∷ []) ≡ or_else (lookup test places) (cond (test key) (Some place) None)
looked_up test [] key place = refl
looked_up test (e ∷ places) key place =
    elim (test e.0) as (λ b. cond b (Some e.1) (lookup test (places ++ (key, place) ∷ [])) ≡ or_else (cond b (Some e.1) (lookup test places)) (cond (test key) (Some place) None)) [
      | true ↦ refl
      | false ↦ looked_up test places key place
    ]

placed : (test : Account → Bool) (i n : ℕ) (accounts : List Account) (account : Account) → n ≡ i + length accounts
    → or_else (position_from test i accounts) (cond (test account) (Some n) None) ≡ position_from test i (accounts ++ account ∷ [])
placed test i n [] account at = let same : n ≡ i = omega (arith, at) in ap (λ (k : ℕ). cond (test account) (Some k) None) same
placed test i n (x ∷ accounts) account at =
    elim (test x) as (λ b. or_else (cond b (Some i) (position_from test (i + 1) accounts)) (cond (test account) (Some n) None) ≡ cond b (Some i) (position_from test (i + 1) (accounts ++ account ∷ []))) [
      | true ↦ refl
      | false ↦ placed test (i + 1) n accounts account (omega (arith, at))
    ]

module _ {K Q : Type 0} (eq : K → K → Bool) (is : Q → K → Bool) (has : Q → Account → Bool) (alike : (q : Q) (key : K) → is q key ≡ true → (k : K) → is q k ≡ eq key k) where
  module _ (places : List (K × ℕ)) (accounts : List Account) (key : K) (account : Account) (same : (q : Q) → is q key ≡ has q account) where
    -- what stood there, or else the new one
    one_more : Finds is has places accounts → (q : Q)
        → or_else (lookup (is q) places) (cond (is q key) (Some (length accounts)) None) ≡ position_from (has q) 0 (accounts ++ account ∷ [])
    one_more finds q =
        ap (λ (o : Option ℕ). or_else o (cond (is q key) (Some (length accounts)) None)) (finds q)
        ∙ ap (λ (b : Bool). or_else (position_from (has q) 0 accounts) (cond b (Some (length accounts)) None)) (same q)
        ∙ placed (has q) 0 (length accounts) accounts account (omega arith)

    -- a key that is there finds what it did
    known : is_some (lookup (eq key) places) ≡ true → (q : Q) → lookup (is q) places ≡ or_else (lookup (is q) places) (cond (is q key) (Some (length accounts)) None)
    known there q = by (is q key) refl
      where
        by : (b : Bool) → is q key ≡ b → lookup (is q) places ≡ or_else (lookup (is q) places) (cond b (Some (length accounts)) None)
        by false e = or_none (lookup (is q) places)
        by true e =
            let tests : lookup (is q) places ≡ lookup (eq key) places = λ i. lookup (λ (k : K). alike q key e k i) places in
            or_some (lookup (is q) places) (Some (length accounts)) (ap is_some tests ∙ there)

    -- with the place of one account more
    pub finds_more : Finds is has places accounts → Finds is has (noted eq key (length accounts) places) (accounts ++ account ∷ [])
    finds_more finds = by (is_some (lookup (eq key) places)) refl
      where
        by : (b : Bool) → is_some (lookup (eq key) places) ≡ b → Finds is has (if b then places else places ++ (key, length accounts) ∷ []) (accounts ++ account ∷ [])
        by true there = λ q. known there q ∙ one_more finds q
        by false there = λ q. looked_up (is q) places key (length accounts) ∙ one_more finds q

id_alike : (id : List ℕ) (key : Vec ℕ) → is_id id key ≡ true → (k : Vec ℕ) → is_id id k ≡ bytes_eq key.items k.items
id_alike id key e k = nat_list_eq_equiv.congr id key.items k.items e

same_owner : (a b : Owner) → is_owner a b ≡ true → a ≡ b
same_owner a b e =
    let first = and_parts (a.kind == b.kind) (bytes_eq a.head b.head && (bytes_eq a.ccy b.ccy && (a.decimals == b.decimals))) e in
    let second = and_parts (bytes_eq a.head b.head) (bytes_eq a.ccy b.ccy && (a.decimals == b.decimals)) first.1 in
    let third = and_parts (bytes_eq a.ccy b.ccy) (a.decimals == b.decimals) second.1 in
    let kind : a.kind ≡ b.kind = eqb-true a.kind b.kind first.0 in
    let head : a.head ≡ b.head = (bytes_eq-Decides a.head b.head).0 second.0 in
    let ccy : a.ccy ≡ b.ccy = (bytes_eq-Decides a.ccy b.ccy).0 third.0 in
    let decimals : a.decimals ≡ b.decimals = eqb-true a.decimals b.decimals third.1 in
    λ i. record { kind = kind i; head = head i; ccy = ccy i; decimals = decimals i }

owner_alike : (o key : Owner) → is_owner o key ≡ true → (k : Owner) → is_owner o k ≡ is_owner key k
owner_alike o key e k = ap (λ (x : Owner). is_owner x k) (same_owner o key e)

four : (a b c d : Bool) → (a && (b && (c && d))) ≡ (a && b && c && d)
four true true c d = refl
four true false c d = refl
four false b c d = refl

-- a key is that of an account which has it
own_key : (o : Owner) (account : Account) → is_owner o (owner_of account) ≡ has_owner o account
own_key o account =
    (λ i. nat_eq_equiv.symm o.kind account.kind i && (nat_list_eq_equiv.symm o.head account.owner.head i && (nat_list_eq_equiv.symm o.ccy account.ccy.0 i && nat_eq_equiv.symm o.decimals account.decimals i)))
    ∙ four (account.kind == o.kind) (bytes_eq account.owner.head o.head) (bytes_eq account.ccy.0 o.ccy) (account.decimals == o.decimals)

-- with an account more, noted under its id and its owner
pub found_more : (accounts : List Account) (ids : List (Vec ℕ × ℕ)) (owners : List (Owner × ℕ)) (account : Account) (id : Vec ℕ) (place : ℕ) → id.items ≡ account.id → place ≡ length accounts
    → AreFound accounts ids owners
    → AreFound (accounts ++ account ∷ []) (noted (λ a b. bytes_eq a.items b.items) id place ids) (noted is_owner (owner_of account) place owners)
found_more accounts ids owners account id place same at found = rw at (record {
  by_id =
      finds_more (λ (a b : Vec ℕ). bytes_eq a.items b.items) is_id has_id id_alike ids accounts id account
      (λ q. nat_list_eq_equiv.symm q id.items ∙ ap (λ (bs : List ℕ). bytes_eq bs q) same) found.by_id;
  by_owner =
      finds_more is_owner is_owner has_owner owner_alike owners accounts (owner_of account) account (λ o. own_key o account) found.by_owner;
})

-- ---- limits

position_set : (test : Account → Bool) (i k : ℕ) (accounts : List Account) (x y : Account) → slice_get accounts k ≡ Some x → test y ≡ test x
    → position_from test i accounts ≡ position_from test i (slice_set accounts k y)
position_set test i k [] x y at same = refl
position_set test i zero (z ∷ accounts) x y at same =
    ap (λ (b : Bool). cond b (Some i) (position_from test (i + 1) accounts)) (ap test (same_Some z x at) ∙ sym same)
position_set test i (suc k) (z ∷ accounts) x y at same = ap (λ (o : Option ℕ). cond (test z) (Some i) o) (position_set test (i + 1) k accounts x y at same)

-- where limits leave what is looked for, the same account is found
limited_place : (test : Account → Bool) (accounts : List Account) (k : ℕ) (floor ceil : ℤ) (o : Option Account) → slice_get accounts k ≡ o
    → ((x : Account) → test (with_ends floor ceil x) ≡ test x)
    → position_from test 0 accounts ≡ position_from test 0 (option_map_or (λ x. slice_set accounts k (with_ends floor ceil x)) o accounts)
limited_place test accounts k floor ceil None at same = refl
limited_place test accounts k floor ceil (Some x) at same = position_set test 0 k accounts x (with_ends floor ceil x) at (same x)

-- with other limits each account is found where it was
pub found_limits : (accounts : List Account) (ids : List (Vec ℕ × ℕ)) (owners : List (Owner × ℕ)) (n : AcctNo) (floor ceil : ℤ) → AreFound accounts ids owners
    → AreFound (changed_by (Limits n floor ceil) accounts) ids owners
found_limits accounts ids owners n floor ceil found = record {
  by_id = λ id. found.by_id id ∙ limited_place (has_id id) accounts (n.0 - 1) floor ceil (slice_get accounts (n.0 - 1)) refl (λ x. refl);
  by_owner = λ o. found.by_owner o ∙ limited_place (has_owner o) accounts (n.0 - 1) floor ceil (slice_get accounts (n.0 - 1)) refl (λ x. refl);
}
