-- The rules of a transfer: one that is sent on breaks none, since the one that came broke none.
use Rattle.std.proofs.Common.{◌≡◌, ℕ, ◌==◌, ◌&&◌, ◌||◌, ◌⊎◌, not, Bool, true, false, cond, List, [], ◌∷◌, ◌++◌, length, option_map, Option, Some, None, refl, ap, append-nil, arith, inl, inr}
use Rattle.std.specs.Prelude.{IfSome, codes, filter, is_none, is_some, option_to_list}
use Rattle.std.specs.List.{list_any}
use Rattle.std.specs.Str.{bytes_eq}
use Rattle.std.proofs.lemmas.Bool.{eqb-true}
use Rattle.std.proofs.lemmas.Slice.Eq.{bytes_eq-Decides}
use Rattle.corr_text.specs.First.{first_of}
use Rattle.corr_text.specs.declared.fault.Fault.{Fault}
use Rattle.corr_ids.specs.declared.bic.Bic.{Bic}
use Rattle.corr_money.specs.declared.amount.Amount.{Amount}
use Rattle.corr_money.specs.declared.amount.Ccy.{Ccy}
use Rattle.ref_tables.specs.Seen.{Tables}
use Rattle.fin_layout.proofs.laws.Fine.{first-none, map-none}
use Rattle.fin_parties.specs.declared.party.Party.{Party}
use Rattle.mt103.specs.Codes.{is_charged}
use Rattle.mt103.specs.declared.message.Mt103.{Mt103}
use Rattle.mt103_rules.specs.Instructions.{has_instr, is_priority_instruction}
use Rattle.mt103_rules.specs.Parties.{has_account, is_b, is_bare_b, is_bare_d, is_d, is_uncleared_c}
use Rattle.mt103_rules.specs.Rules.{all_rules, amount_rules, c02, c81, charge_rules, contact_rules, d49, d50, d51, d75, e01, e02, e03, e04, e05, e06, e07, e09, e10, e13, e15_given, e15_taken, e16, e17, e18, e44, e45, has_level, institution_rules, is_foreign, is_given, is_listed_bank, is_op, is_standard, level_rules}
use Rattle.day_model.specs.declared.pay.Skip.{Skip}
use Rattle.day_model.specs.declared.pay.Skip.TheVariants.{Keep, Mid, Both}
use Rattle.advices.proofs.laws.Instructions.{and-false, any-kept, none-kept, none-tells-56, none-tells-57, stays}

-- ---- a transfer that is sent on

-- 56a and 57a of what is sent on
abbrev pub kept_56 : Skip → Option Party → Option Party
kept_56 Keep p = p
kept_56 Mid p = None
kept_56 Both p = None

abbrev pub kept_57 : Skip → Option Party → Option Party
kept_57 Keep p = p
kept_57 Mid p = p
kept_57 Both p = None

-- 33B as it came, or one of 32A's currency in place of none
pub record IsOrdered (ccy : Ccy) (came sent : Option Amount) : Type 0 where
  pub amount : Amount
  pub there : sent ≡ Some amount
  pub same : (came ≡ Some amount) ⊎ ((came ≡ None) × (amount.ccy ≡ ccy))

-- what the one that is sent, n, has of the one that came, m, out of which our own charge may be taken
pub record IsSentOn (skip : Skip) (own : Option Amount) (m n : Mt103) : Type 0 where
  pub op : n.op ≡ m.op
  pub instrs : n.instrs ≡ filter (stays (is_some n.p56) (is_some n.p57)) m.instrs
  pub ccy : n.amount.ccy ≡ m.amount.ccy
  pub ordered : IsOrdered m.amount.ccy m.ordered n.ordered
  pub rate : n.rate ≡ m.rate
  pub by_name : is_d n.p53 ≡ false
  pub by_place : is_bare_b n.p53 ≡ false
  pub p54 : n.p54 ≡ None
  pub p55 : n.p55 ≡ None
  pub p56 : n.p56 ≡ kept_56 skip m.p56
  pub p57 : n.p57 ≡ kept_57 skip m.p57
  pub payee : n.payee ≡ m.payee
  pub charge : n.charge ≡ m.charge
  pub taken : n.taken ≡ m.taken ++ option_to_list own
  pub bears : IfSome own (λ a. is_charged m.charge ≡ true)
  pub given : n.given ≡ m.given

-- ---- tests

both-false : (a b : Bool) → (a && b && false) ≡ false
both-false true b = and-false b
both-false false b = refl

if-true : {X : Type 0} (b : Bool) (x : X) → cond b (Some x) None ≡ None → b ≡ false
if-true true x e = absurd (cc e)
if-true false x e = refl

if-false : {X : Type 0} (b : Bool) (x : X) → b ≡ false → cond b (Some x) None ≡ None
if-false b x e = rw e refl

-- no test of a list fails
abbrev AllNone : List (Option Fault) → Type 0
AllNone [] = Unit {0}
AllNone (o ∷ os) = (o ≡ None) × AllNone os

none-all : (os : List (Option Fault)) → first_of os ≡ None → AllNone os
none-all [] e = tt
none-all (o ∷ os) e = let both = first-none o os e in (both.0, none-all os both.1)

all-none : (os : List (Option Fault)) → AllNone os → first_of os ≡ None
all-none [] e = refl
all-none (o ∷ os) e = rw (e.0) (all-none os e.1)

both-none : (os more : List (Option Fault)) → AllNone os → AllNone more → AllNone (os ++ more)
both-none [] more h k = k
both-none (o ∷ os) more h k = (h.0, both-none os more h.1 k)

none-parts : (os more : List (Option Fault)) → AllNone (os ++ more) → AllNone os × AllNone more
none-parts [] more h = (tt, h)
none-parts (o ∷ os) more h = let parts = none-parts os more h.1 in ((h.0, parts.0), parts.1)

-- where no test of what came fails, none fails of what is sent
record Kept (came sent : List (Option Fault)) : Type 0 where
  on : AllNone came → AllNone sent

kept-both : {came sent more further : List (Option Fault)} → Kept came sent → Kept more further → Kept (came ++ more) (sent ++ further)
kept-both {came = came} {sent = sent} {more = more} {further = further} first second =
    record { on = λ h. let parts = none-parts came more h in both-none sent further (first.on parts.0) (second.on parts.1) }

pub same-bytes : (bs : List ℕ) → bytes_eq bs bs ≡ true
same-bytes bs = (bytes_eq-Decides bs bs).1 refl

-- a list of which nothing is given has nothing
none-given : {X : Type 0} (xs : List X) → is_given xs ≡ false → xs ≡ []
none-given [] e = refl
none-given (x ∷ xs) e =
    let none : (length (x ∷ xs) == 0) ≡ true = not-false (length (x ∷ xs) == 0) e in
    absurd (omega (arith, eqb-true (length (x ∷ xs)) 0 none))
  where
    not-false : (b : Bool) → not b ≡ false → b ≡ true
    not-false true e = refl
    not-false false e = absurd (cc e)

-- and one that has something is given, whatever follows
some-given : {X : Type 0} (x : X) (xs : List X) → is_given (x ∷ xs) ≡ true
some-given x xs = go (length (x ∷ xs) == 0) refl
  where
    go : (b : Bool) → (length (x ∷ xs) == 0) ≡ b → not b ≡ true
    go true e = absurd (omega (arith, eqb-true (length (x ∷ xs)) 0 e))
    go false e = refl

given-on : {X : Type 0} (b : Bool) (xs ys : List X) → (b && not (is_given xs)) ≡ false → (b && not (is_given (xs ++ ys))) ≡ false
given-on false xs ys e = refl
given-on true [] ys e = absurd (cc e)
given-on true (x ∷ xs) ys e = ap (λ (b : Bool). not b) (some-given x (xs ++ ys))

-- charges that are shared, or borne by the beneficiary, aren't the payer's
not-ours : (whose : List ℕ) → (bytes_eq whose (codes "SHA") || bytes_eq whose (codes "BEN")) ≡ true → bytes_eq whose (codes "OUR") ≡ false
not-ours whose e = go (bytes_eq whose (codes "SHA")) refl e
  where
    go : (b : Bool) → bytes_eq whose (codes "SHA") ≡ b → (b || bytes_eq whose (codes "BEN")) ≡ true → bytes_eq whose (codes "OUR") ≡ false
    go true is h = let same : whose ≡ codes "SHA" = (bytes_eq-Decides whose (codes "SHA")).0 is in rw same refl
    go false is h = let same : whose ≡ codes "BEN" = (bytes_eq-Decides whose (codes "BEN")).0 h in rw same refl

-- ---- each rule

-- the one answer or the other, each the fault of a test
either-none : {X : Type 0} (b one two : Bool) (x y : X) → cond b (cond one (Some x) None) (cond two (Some y) None) ≡ None → cond b one two ≡ false
either-none true one two x y e = if-true one x e
either-none false one two x y e = if-true two y e

either-false : {X : Type 0} (b one two : Bool) (x y : X) → cond b one two ≡ false → cond b (cond one (Some x) None) (cond two (Some y) None) ≡ None
either-false true one two x y e = if-false one x e
either-false false one two x y e = if-false two y e

-- where this is told of the one place, it is told of the other
told-on : {X : Type 0} (b : Bool) (told : ℕ → X) (came sent : Option ℕ) → (came ≡ None → sent ≡ None) → cond b (option_map told came) None ≡ None
    → cond b (option_map told sent) None ≡ None
told-on true told came sent on e = rw (on (map-none told came e)) refl
told-on false told came sent on e = refl

and-given : {X : Type 0} (b : Bool) (p : X → Bool) (xs : List X) → (b && is_given xs) ≡ false → (b && is_given (filter p xs)) ≡ false
and-given false p xs e = refl
and-given true p xs e = rw (none-given xs e) refl

and-any : {X : Type 0} (b : Bool) (p q : X → Bool) (xs : List X) → (list_any q xs && b) ≡ false → (list_any q (filter p xs) && b) ≡ false
and-any true p q xs e = go (list_any q xs) refl e
  where
    go : (c : Bool) → list_any q xs ≡ c → (c && true) ≡ false → (list_any q (filter p xs) && true) ≡ false
    go true h e = absurd (cc e)
    go false h e = rw (any-kept p q xs h) refl
and-any false p q xs e = and-false (list_any q (filter p xs))

module _ (skip : Skip) (own : Option Amount) (m n : Mt103) (s : IsSentOn skip own m n) where
  -- 36 and 33B
  rate-fits : cond (is_foreign m m.ordered) (is_none m.rate) (is_some m.rate) ≡ false
      → cond (is_foreign n n.ordered) (is_none n.rate) (is_some n.rate) ≡ false
  rate-fits e = go s.ordered.same
    where
      go : ((m.ordered ≡ Some s.ordered.amount) ⊎ ((m.ordered ≡ None) × (s.ordered.amount.ccy ≡ m.amount.ccy)))
          → cond (is_foreign n n.ordered) (is_none n.rate) (is_some n.rate) ≡ false
      go (inl came) = rw (s.ordered.there, s.ccy, s.rate) (rw came at e)
      go (inr new) =
          let no_rate : is_some m.rate ≡ false = rw (new.0) at e in
          rw (s.ordered.there, new.1, s.ccy, s.rate, same-bytes m.amount.ccy.0) no_rate

  d75-on : d75 m ≡ None → d75 n ≡ None
  unfolding d75
  d75-on e = either-false _ _ _ _ _ (rate-fits (either-none _ _ _ _ _ e))

  d49-on : (t : Tables) (sender receiver : Bic) → d49 sender receiver t n ≡ None
  unfolding d49
  d49-on t sender receiver = if-false _ _ (rw (s.ordered.there) (both-false (is_listed_bank t sender) (is_listed_bank t receiver)))

  -- levels of service
  e01-on : e01 m ≡ None → e01 n ≡ None
  unfolding e01
  e01-on e = rw (s.op, s.instrs) (told-on _ _ _ _ (none-kept (stays (is_some n.p56) (is_some n.p57)) (λ i. not (is_priority_instruction i)) m.instrs) e)

  e02-on : e02 m ≡ None → e02 n ≡ None
  unfolding e02
  e02-on e = rw (s.op, s.instrs) (if-false _ _ (and-given _ (stays (is_some n.p56) (is_some n.p57)) m.instrs (if-true _ _ e)))

  e03-on : e03 n ≡ None
  unfolding e03
  e03-on = if-false _ _ (rw (s.by_name) (and-false (has_level n)))

  e04-on : e04 n ≡ None
  unfolding e04
  e04-on = if-false _ _ (rw (s.by_place) (and-false (has_level n)))

  e05-on : e05 n ≡ None
  unfolding e05
  e05-on = if-false _ _ (rw (s.p54) (and-false (has_level n)))

  e07-on : e07 n ≡ None
  unfolding e07
  e07-on = if-false _ _ (rw (s.p55) (and-false (has_level n)))

  e10-on : e10 m ≡ None → e10 n ≡ None
  unfolding e10
  e10-on e = rw (s.op, s.payee) e

  -- institutions
  e06-on : e06 n ≡ None
  unfolding e06
  e06-on = rw (s.p55) refl

  c81-on : c81 m ≡ None → c81 n ≡ None
  unfolding c81
  c81-on e = rw (s.p56, s.p57) (if-false _ _ (go skip (if-true _ _ e)))
    where
      go : (skip : Skip) → (is_some m.p56 && is_none m.p57) ≡ false → (is_some (kept_56 skip m.p56) && is_none (kept_57 skip m.p57)) ≡ false
      go Keep e = e
      go Mid e = refl
      go Both e = refl

  -- what no 56a breaks
  kept-56 : (test : Option Party → Bool) (b : Bool) → test None ≡ false → (b && test m.p56) ≡ false → (b && test n.p56) ≡ false
  kept-56 test b none e = rw (s.p56) (go skip)
    where
      go : (skip : Skip) → (b && test (kept_56 skip m.p56)) ≡ false
      go Keep = e
      go Mid = rw none (and-false b)
      go Both = rw none (and-false b)

  -- and what no 57a
  kept-57 : (test : Option Party → Bool) (b : Bool) → test None ≡ false → (b && test m.p57) ≡ false → (b && test n.p57) ≡ false
  kept-57 test b none e = rw (s.p57) (go skip)
    where
      go : (skip : Skip) → (b && test (kept_57 skip m.p57)) ≡ false
      go Keep = e
      go Mid = e
      go Both = rw none (and-false b)

  e16-on : e16 m ≡ None → e16 n ≡ None
  unfolding e16
  e16-on e = rw (s.op) (if-false _ _ (kept-56 (λ p. is_some p) (is_op m (codes "SPRI")) refl (if-true _ _ e)))

  e17-on : e17 m ≡ None → e17 n ≡ None
  unfolding e17
  e17-on e = rw (s.op) (if-false _ _ (kept-56 (λ p. is_d p || is_uncleared_c p) (is_standard m) refl (if-true _ _ e)))

  e09-on : e09 m ≡ None → e09 n ≡ None
  unfolding e09
  e09-on e = rw (s.op) (if-false _ _ (kept-57 (λ p. is_b p || is_bare_d p) (has_level m) refl (if-true _ _ e)))

  -- the cheque and charges
  e18-on : e18 m ≡ None → e18 n ≡ None
  unfolding e18
  e18-on e =
      let still = and-any (has_account m.payee) (stays (is_some n.p56) (is_some n.p57)) (λ i. bytes_eq i.code (codes "CHQB")) m.instrs (if-true _ _ e) in
      rw (s.payee, s.instrs) (if-false _ _ still)

  e13-on : e13 m ≡ None → e13 n ≡ None
  unfolding e13
  e13-on e = rw (s.charge, s.taken) (if-false _ _ (go own s.bears (if-true _ _ e)))
    where
      go : (o : Option Amount) → IfSome o (λ a. is_charged m.charge ≡ true) → (bytes_eq m.charge (codes "OUR") && is_given m.taken) ≡ false
          → (bytes_eq m.charge (codes "OUR") && is_given (m.taken ++ option_to_list o)) ≡ false
      go None bears e = rw (append-nil m.taken) e
      go (Some a) bears e = rw (not-ours m.charge bears) refl

  d50-on : d50 m ≡ None → d50 n ≡ None
  unfolding d50
  d50-on e = rw (s.charge, s.given) e

  e15-taken-on : e15_taken m ≡ None → e15_taken n ≡ None
  unfolding e15_taken
  e15-taken-on e = rw (s.charge, s.taken) (if-false _ _ (given-on _ m.taken (option_to_list own) (if-true _ _ e)))

  e15-given-on : e15_given m ≡ None → e15_given n ≡ None
  unfolding e15_given
  e15-given-on e = rw (s.charge, s.given) e

  d51-on : d51 n ≡ None
  unfolding d51
  d51-on = if-false _ _ (rw (s.ordered.there) (and-false (is_given n.taken || is_some n.given)))

  c02-on : c02 m ≡ None → c02 n ≡ None
  unfolding c02
  c02-on e = if-false _ _ (rw (s.given) (go m.given (if-true _ _ e)))
    where
      go : (given : Option Amount) → is_foreign m given ≡ false → is_foreign n given ≡ false
      go None e = refl
      go (Some a) e = rw (s.ccy) e

  -- whom to tell

  -- an instruction of the one code or the other is among those that are sent where 56a and 57a are there or not
  abbrev tells : List ℕ → List ℕ → Bool → Bool → Bool
  tells one other has_56 has_57 = has_instr one (filter (stays has_56 has_57) m.instrs) || has_instr other (filter (stays has_56 has_57) m.instrs)

  e44-on : e44 n ≡ None
  unfolding e44
  e44-on = if-false _ _ (rw (s.instrs) (go (is_some n.p56) n.p56 refl))
    where
      go : (b : Bool) (p : Option Party) → is_some p ≡ b
          → (tells (codes "TELI") (codes "PHOI") b (is_some n.p57) && is_none p) ≡ false
      go b (Some x) e = and-false (tells (codes "TELI") (codes "PHOI") b (is_some n.p57))
      go true None e = absurd (cc e)
      go false None e = rw (none-tells-56 (is_some n.p57) m.instrs) refl

  e45-on : e45 n ≡ None
  unfolding e45
  e45-on = if-false _ _ (rw (s.instrs) (go (is_some n.p57) n.p57 refl))
    where
      go : (b : Bool) (p : Option Party) → is_some p ≡ b
          → (tells (codes "TELE") (codes "PHON") (is_some n.p56) b && is_none p) ≡ false
      go b (Some x) e = and-false (tells (codes "TELE") (codes "PHON") (is_some n.p56) b)
      go true None e = absurd (cc e)
      go false None e = rw (none-tells-57 (is_some n.p56) m.instrs) refl

  -- ---- all

  amounts-kept : (t : Tables) (sender receiver from to : Bic) → Kept (amount_rules sender receiver t m) (amount_rules from to t n)
  unfolding amount_rules
  amounts-kept t sender receiver from to = record { on = λ h. (d75-on h.0, (d49-on t from to, tt)) }

  levels-kept : Kept (level_rules m) (level_rules n)
  unfolding level_rules
  levels-kept = record {
    on = λ h.
        let (e01, (e02, (e03, (e04, (e05, (e07, (e10, end))))))) = h in
        (e01-on e01, (e02-on e02, (e03-on, (e04-on, (e05-on, (e07-on, (e10-on e10, tt)))))));
  }

  institutions-kept : Kept (institution_rules m) (institution_rules n)
  unfolding institution_rules
  institutions-kept = record {
    on = λ h.
        let (e06, (c81, (e16, (e17, (e09, end))))) = h in
        (e06-on, (c81-on c81, (e16-on e16, (e17-on e17, (e09-on e09, tt)))));
  }

  charges-kept : Kept (charge_rules m) (charge_rules n)
  unfolding charge_rules
  charges-kept = record {
    on = λ h.
        let (e18, (e13, (d50, (taken, (given, (d51, (c02, end))))))) = h in
        (e18-on e18, (e13-on e13, (d50-on d50, (e15-taken-on taken, (e15-given-on given, (d51-on, (c02-on c02, tt)))))));
  }

  contacts-kept : Kept (contact_rules m) (contact_rules n)
  unfolding contact_rules
  contacts-kept = record { on = λ h. (e44-on, (e45-on, tt)) }

  pub rules-kept : (t : Tables) (sender receiver : Bic) (from to : Bic) → first_of (all_rules sender receiver t m) ≡ None
      → first_of (all_rules from to t n) ≡ None
  unfolding all_rules amount_rules level_rules institution_rules charge_rules contact_rules
  rules-kept t sender receiver from to e =
      let later = kept-both levels-kept (kept-both institutions-kept (kept-both charges-kept contacts-kept)) in
      let kept = kept-both (amounts-kept t sender receiver from to) later in
      all-none (all_rules from to t n) (kept.on (none-all (all_rules sender receiver t m) e))

-- a transfer that breaks no rule has 57a where it has 56a
pub c81-of : (t : Tables) (sender receiver : Bic) (m : Mt103) → first_of (all_rules sender receiver t m) ≡ None → (is_some m.p56 && is_none m.p57) ≡ false
unfolding all_rules amount_rules level_rules institution_rules charge_rules contact_rules c81
c81-of t sender receiver m e =
    let after_levels = institution_rules m ++ charge_rules m ++ contact_rules m in
    let all = none-parts (amount_rules sender receiver t m) (level_rules m ++ after_levels) (none-all (all_rules sender receiver t m) e) in
    let later = none-parts (level_rules m) after_levels all.1 in
    let (e06, (c81, more)) = (none-parts (institution_rules m) (charge_rules m ++ contact_rules m) later.1).0 in
    if-true _ _ c81
