-- A change is refused exactly where it isn't legal.
use Rattle.std.proofs.Common.{◌≡◌, ℕ, ◌<◌, Bool, true, false, List, [], ◌∷◌, ◌++◌, Option, Some, None, refl, sym, ap, ◌∙◌, subst, arith, inl, inr, length, length-append, ltb, ℤ, pos}
use Rattle.std.specs.Prelude.{◌↔◌, IsNone, is_some, not, option_map, slice_get}
use Rattle.std.specs.List.{list_all, position_from}
use Rattle.std.specs.Ordering.{int_eq}
use Rattle.std.proofs.lemmas.Bool.Decides.{Decides-int_eq}
use Rattle.std.proofs.lemmas.Bool.{and_from, and_parts, false≢true, lt-ltb, ltb-true, not-true, not_from_false}
use Rattle.std.proofs.lemmas.Option.{none-some, slice_get_within}
use Rattle.corr_text.specs.First.{first_of, unless}
use Rattle.day_model.specs.declared.account.Account.{Account}
use Rattle.day_model.specs.declared.account.AcctNo.{AcctNo}
use Rattle.day_model.specs.declared.change.Refusal.{Refusal}
use Rattle.day_model.specs.declared.change.Refusal.TheVariants as refusal
use Rattle.day_model.specs.declared.change.What.{What}
use Rattle.day_model.specs.declared.change.What.TheVariants.{Opened, Limits}
use Rattle.day_model.specs.Chart.{AreApart, IsFormed}
use Rattle.day_model.specs.Fit.{is_in}
use Rattle.day_model.specs.Legal.{IsInForm, IsLegalChange, MayLimit, MayOpen}
use Rattle.day_model.specs.Refusals.{begins_empty, met_by, refusal_of}
use Rattle.day_model.specs.RowTests.{agrees, are_ends, has_limits, meets}
use Rattle.day_model.specs.inner.RowTests.{apart}
use Rattle.day_model.proofs.Testing.{Apart, all_pass, apart_from, ends_complete, ends_sound, parted}
use Rattle.day_model.proofs.laws.Fitting.{all_at}
use Rattle.day_model.proofs.laws.Folds.{none_found}
use Rattle.day_model.proofs.laws.Growth.{none_passes}
use Rattle.day_model.proofs.laws.Slices.{in_pushed, push_before, push_last}

-- ---- tests in a row

first_none : {F : Type 0} (o : Option F) (more : List (Option F)) → first_of (o ∷ more) ≡ None → (o ≡ None) × (first_of more ≡ None)
first_none None more e = (refl, e)
first_none (Some x) more e = absurd (none-some x (sym e))

none_first : {F : Type 0} (o : Option F) (more : List (Option F)) → o ≡ None → first_of more ≡ None → first_of (o ∷ more) ≡ None
none_first None more is e = e
none_first (Some x) more is e = absurd (none-some x (sym is))

unless_none : {F : Type 0} (b : Bool) (x : F) → unless b x ≡ None → b ≡ true
unless_none true x e = refl
unless_none false x e = absurd (none-some x (sym e))

none_unless : {F : Type 0} (b : Bool) (x : F) → b ≡ true → unless b x ≡ None
none_unless true x e = refl
none_unless false x e = absurd (false≢true e)

-- ---- a new account beside others

apart_push : (accounts : List Account) (account : Account) → AreApart accounts → length accounts < 1000 → IsFormed account
    → ((k : ℕ) (x : Account) → slice_get accounts k ≡ Some x → Apart account x) → AreApart (accounts ++ account ∷ [])
apart_push accounts account apart room formed beside = record {
  few = omega (arith, length-append accounts (account ∷ []), room);
  formed = λ i a at. elim (in_pushed accounts account i a at) [
    | inl old ↦ apart.formed i a old
    | inr is ↦ subst IsFormed is.1 formed
  ];
  ids = λ i j a b at_i at_j same. elim (in_pushed accounts account i a at_i) [
    | inl old_i ↦ elim (in_pushed accounts account j b at_j) [
      | inl old_j ↦ apart.ids i j a b old_i old_j same
      | inr is_j ↦ absurd ((beside i a old_i).ids (ap (λ (x : Account). x.id) is_j.1 ∙ sym same))
    ]
    | inr is_i ↦ elim (in_pushed accounts account j b at_j) [
      | inl old_j ↦ absurd ((beside j b old_j).ids (ap (λ (x : Account). x.id) is_i.1 ∙ same))
      | inr is_j ↦ is_i.0 ∙ sym is_j.0
    ]
  ];
  banks = λ i j a b at_i at_j same. elim (in_pushed accounts account i a at_i) [
    | inl old_i ↦ elim (in_pushed accounts account j b at_j) [
      | inl old_j ↦ apart.banks i j a b old_i old_j same
      | inr is_j ↦ absurd ((beside i a old_i).banks (record {
        bank = λ z. same.bank (same.kinds ∙ ap (λ (x : Account). x.kind) (sym is_j.1) ∙ z);
        kinds = ap (λ (x : Account). x.kind) is_j.1 ∙ sym same.kinds;
        heads = ap (λ (x : Account). x.owner.head) is_j.1 ∙ sym same.heads;
        ccys = ap (λ (x : Account). x.ccy.0) is_j.1 ∙ sym same.ccys;
      }))
    ]
    | inr is_i ↦ elim (in_pushed accounts account j b at_j) [
      | inl old_j ↦ absurd ((beside j b old_j).banks (record {
        bank = λ z. same.bank (ap (λ (x : Account). x.kind) (sym is_i.1) ∙ z);
        kinds = ap (λ (x : Account). x.kind) is_i.1 ∙ same.kinds;
        heads = ap (λ (x : Account). x.owner.head) is_i.1 ∙ same.heads;
        ccys = ap (λ (x : Account). x.ccy.0) is_i.1 ∙ same.ccys;
      }))
      | inr is_j ↦ is_i.0 ∙ sym is_j.0
    ]
  ];
  decimals = λ i j a b at_i at_j same. elim (in_pushed accounts account i a at_i) [
    | inl old_i ↦ elim (in_pushed accounts account j b at_j) [
      | inl old_j ↦ apart.decimals i j a b old_i old_j same
      | inr is_j ↦ sym ((beside i a old_i).decimals (ap (λ (x : Account). x.ccy) is_j.1 ∙ sym same)) ∙ ap (λ (x : Account). x.decimals) is_j.1
    ]
    | inr is_i ↦ elim (in_pushed accounts account j b at_j) [
      | inl old_j ↦ ap (λ (x : Account). x.decimals) (sym is_i.1) ∙ (beside j b old_j).decimals (ap (λ (x : Account). x.ccy) is_i.1 ∙ same)
      | inr is_j ↦ ap (λ (x : Account). x.decimals) (sym is_i.1) ∙ ap (λ (x : Account). x.decimals) is_j.1
    ]
  ];
}

push_apart : (accounts : List Account) (account : Account) → AreApart (accounts ++ account ∷ []) → (k : ℕ) (x : Account) → slice_get accounts k ≡ Some x
    → Apart account x
push_apart accounts account apart k x at =
    let n = length accounts in
    let lt = slice_get_within accounts k x at in
    let last = push_last accounts account in
    let there = push_before accounts account k x at in
    record {
      ids = λ same. absurd (let place = apart.ids n k account x last there same in omega (arith, place, lt));
      banks = λ same. absurd (let place = apart.banks n k account x last there same in omega (arith, place, lt));
      decimals = λ same. apart.decimals n k account x last there same;
    }

-- ---- opening

apart_by_tests : (accounts : List Account) (account : Account) (k : ℕ) (x : Account) → met_by account accounts ≡ None
    → list_all (agrees account) accounts ≡ true → slice_get accounts k ≡ Some x → Apart account x
apart_by_tests accounts account k x met agree at =
    let found : is_some (position_from (meets account) 1 accounts) ≡ false = nothing (position_from (meets account) 1 accounts) met in
    parted account x
    (and_from (not (meets account x)) (agrees account x) (not_from_false (meets account x) (none_passes (meets account) 1 k accounts x found at))
    (all_at (agrees account) accounts k x agree at))
  where
    nothing : (o : Option ℕ) → option_map (λ n. refusal.Double n) o ≡ None → is_some o ≡ false
    nothing None e = refl
    nothing (Some n) e = absurd (none-some _ (sym e))

opening_sound : (accounts : List Account) (b : ℤ) (account : Account) → AreApart accounts → IsFormed account
    → refusal_of accounts b (Opened account) ≡ None → MayOpen accounts account
opening_sound accounts b account apart formed none =
    let rows = first_none (unless (ltb (length accounts) 1000) refusal.Rows) _ none in
    let double = first_none (met_by account accounts) _ rows.1 in
    let currency = first_none (unless (list_all (agrees account) accounts) refusal.Currency) _ double.1 in
    let limits = first_none (unless (begins_empty account) (refusal.Limits 0)) [] currency.1 in
    let room : length accounts < 1000 = ltb-true _ _ (unless_none (ltb (length accounts) 1000) refusal.Rows rows.0) in
    let agree = unless_none (list_all (agrees account) accounts) refusal.Currency currency.0 in
    let empty = and_parts (int_eq account.opening (pos 0)) (has_limits account) (unless_none (begins_empty account) (refusal.Limits 0) limits.0) in
    record {
      apart = apart_push accounts account apart room formed (λ k x at. apart_by_tests accounts account k x double.0 agree at);
      empty = (Decides-int_eq account.opening (pos 0)).0 empty.0;
      limited = ends_sound account.floor account.ceil account.opening empty.1;
    }

opening_complete : (accounts : List Account) (b : ℤ) (account : Account) → MayOpen accounts account → refusal_of accounts b (Opened account) ≡ None
opening_complete accounts b account may =
    let beside = push_apart accounts account may.apart in
    let room : length accounts < 1000 = omega (arith, may.apart.few, length-append accounts (account ∷ [])) in
    let each : (k : ℕ) (x : Account) → slice_get accounts k ≡ Some x → (not (meets account x) ≡ true) × (agrees account x ≡ true) =
    λ k x at. and_parts (not (meets account x)) (agrees account x) (apart_from account x (beside k x at)) in
    let met : met_by account accounts ≡ None =
    ap (λ (o : Option ℕ). option_map (λ n. refusal.Double n) o)
    (none_found (meets account) 1 accounts (λ k x at. not-true (meets account x) (each k x at).0)) in
    let agree = all_pass (agrees account) accounts (λ k x at. (each k x at).1) in
    let empty : begins_empty account ≡ true =
    and_from (int_eq account.opening (pos 0)) (has_limits account) ((Decides-int_eq account.opening (pos 0)).1 may.empty)
    (ends_complete account.floor account.ceil account.opening may.limited) in
    none_first (unless (ltb (length accounts) 1000) refusal.Rows) _ (none_unless (ltb (length accounts) 1000) refusal.Rows (lt-ltb _ _ room))
    (none_first (met_by account accounts) _ met
    (none_first (unless (list_all (agrees account) accounts) refusal.Currency) _
    (none_unless (list_all (agrees account) accounts) refusal.Currency agree)
    (none_first (unless (begins_empty account) (refusal.Limits 0)) [] (none_unless (begins_empty account) (refusal.Limits 0) empty) refl)))

-- ---- limits

limits_sound : (accounts : List Account) (b : ℤ) (n : AcctNo) (floor ceil : ℤ) → refusal_of accounts b (Limits n floor ceil) ≡ None
    → MayLimit accounts n.0 floor ceil b
limits_sound accounts b n floor ceil none =
    let unknown = first_none (unless (is_in accounts n.0) refusal.Unknown) _ none in
    let limits = first_none (unless (are_ends floor ceil b) (refusal.Limits n.0)) [] unknown.1 in
    record {
      listed = unless_none (is_in accounts n.0) refusal.Unknown unknown.0;
      ends = ends_sound floor ceil b (unless_none (are_ends floor ceil b) (refusal.Limits n.0) limits.0);
    }

limits_complete : (accounts : List Account) (b : ℤ) (n : AcctNo) (floor ceil : ℤ) → MayLimit accounts n.0 floor ceil b
    → refusal_of accounts b (Limits n floor ceil) ≡ None
limits_complete accounts b n floor ceil may =
    none_first (unless (is_in accounts n.0) refusal.Unknown) _ (none_unless (is_in accounts n.0) refusal.Unknown may.listed)
    (none_first (unless (are_ends floor ceil b) (refusal.Limits n.0)) []
    (none_unless (are_ends floor ceil b) (refusal.Limits n.0) (ends_complete floor ceil b may.ends)) refl)

-- a change in form is refused for no reason exactly where it is legal
pub legal_or_refused : (accounts : List Account) (b : ℤ) (what : What) → AreApart accounts → IsInForm what
    → (refusal_of accounts b what ≡ None → IsLegalChange accounts b what) × (IsLegalChange accounts b what → refusal_of accounts b what ≡ None)
legal_or_refused accounts b (Opened account) apart formed = (opening_sound accounts b account apart formed, opening_complete accounts b account)
legal_or_refused accounts b (Limits n floor ceil) apart formed = (limits_sound accounts b n floor ceil, limits_complete accounts b n floor ceil)

is_none : {A : Type 0} (o : Option A) → is_some o ≡ false → o ≡ None
is_none None e = refl
is_none (Some x) e = absurd (false≢true (sym e))

-- so of an answer that is the refusal
pub refused_iff : (accounts : List Account) (b : ℤ) (what : What) (o : Option Refusal) → AreApart accounts → o ≡ refusal_of accounts b what → IsInForm what
    → (IsNone o ↔ IsLegalChange accounts b what)
refused_iff accounts b what o apart is formed =
    let both = legal_or_refused accounts b what apart formed in
    (λ none. both.0 (sym is ∙ is_none o none), λ legal. ap is_some (is ∙ both.1 legal))
