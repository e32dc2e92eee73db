-- The shape of a pay that is planned.
use Rattle.std.proofs.Common.{◌≡◌, ℕ, ◌≤◌, ◌==◌, ◌&&◌, Bool, true, false, cond, IfSome, List, [], ◌∷◌, length, Option, Some, None, refl, arith, leb}
use Rattle.std.specs.Prelude.{All, IsSome, unwrap_or}
use Rattle.std.specs.Option.{option_map_or}
use Rattle.std.proofs.lemmas.Bool.{and_parts, leb-true}
use Rattle.std.proofs.lemmas.List.{length-append}
use Rattle.std.proofs.lemmas.List.Elements.{All-append, All-cons, All-nil, All-weaker}
use Rattle.corr_text.specs.First.{first_of}
use Rattle.corr_ids.specs.Bic.{IsBic}
use Rattle.corr_ids.specs.Day.{InCentury}
use Rattle.corr_ids.specs.Mir.{IsMir}
use Rattle.corr_ids.specs.declared.bic.Bic.{Bic}
use Rattle.corr_ids.specs.declared.envelope.Envelope.{Envelope}
use Rattle.corr_ids.specs.declared.mir.Mir.{Mir}
use Rattle.day_model.specs.Chart.{Chart, IsChart, account_at, accounts_of}
use Rattle.corr_ids.specs.Kinds.{vostro}
use Rattle.day_model.specs.Fit.{are_legs, is_listed}
use Rattle.day_model.specs.Shape.{HasShape, IsLeg, IsOrder, IsQuote, IsReference}
use Rattle.day_model.specs.declared.account.Account.{Account}
use Rattle.day_model.specs.declared.pay.Leg.{Leg}
use Rattle.day_model.specs.declared.pay.Order.{Order}
use Rattle.day_model.specs.declared.pay.Order.TheVariants as order
use Rattle.day_model.specs.declared.pay.Quote.TheVariants.{Theirs}
use Rattle.day_model.specs.declared.pay.Side.TheVariants.{Credit, Debit}
use Rattle.ref_tables.specs.Seen.{Tables, IsKnown}
use Rattle.fin_parties.specs.declared.party.Party.{Party}
use Rattle.fin_parties.specs.declared.party.Party.TheVariants as party
use Rattle.routing.specs.Accounts.{fits_amount}
use Rattle.routing.specs.Route.{is_bank}
use Rattle.routing.specs.declared.routed.Routed.{Routed}
use Rattle.routing.specs.declared.target.Target.{Target}
use Rattle.routing.specs.declared.target.Target.TheVariants.{Bank, Customer, NoBic}
use Rattle.pay_plan.specs.declared.ask.Ask.{Ask}
use Rattle.pay_plan.specs.declared.ask.Ask.TheVariants.{Cover, Transfer}
use Rattle.pay_plan.specs.declared.charging.Charge.{Charge}
use Rattle.pay_plan.specs.declared.charging.Charged.{Charged}
use Rattle.pay_plan.specs.Asked.{Asked}
use Rattle.pay_plan.specs.Charging.{AreCharged, IsTaken}
use Rattle.pay_plan.specs.declared.way.Way.{Way}
use Rattle.pay_plan.specs.declared.way.Way.TheVariants.{Covered, Credited, Ends, Onward, Passed}
use Rattle.pay_plan.specs.Asked.{asked_of}
use Rattle.pay_plan.specs.Orders.{next_orders, notices_of, orders_by, orders_of, receiver, skip_of}
use Rattle.pay_plan.specs.Pay.{charge_legs, legs_of, quote_of, rest_after}
use Rattle.pay_plan.specs.Plan.{orders_in, pay_of}
use Rattle.pay_plan.specs.Readable.{IsReadBy, IsWritable}
use Rattle.pay_plan.specs.Target.{aimed, bank_target, customer_target, names_home}
use Rattle.pay_plan.specs.Way.{way_of}
use Rattle.pay_plan.proofs.CoverForm.{cover-form}
use Rattle.pay_plan.proofs.Fitting.{with_charge}
use Rattle.pay_plan.proofs.Parties.{HasBank}
use Rattle.pay_plan.proofs.TransferForm.{transfer-form}

-- ---- what is asked

-- the BIC of a target that has one meets its grammar, and the tables hold its head
abbrev pub TargetForm : Tables → Target → Type 0
TargetForm t (Bank bic field) = IsBic bic × IsKnown t bic
TargetForm t _ = Unit {0}

pub record AskedForm (t : Tables) (asked : Asked) : Type 0 where
  pub reference : IsReference asked.reference
  pub last_reference : IsReference asked.last_reference
  pub value : InCentury asked.value
  pub target : TargetForm t asked.target

bank-target : (t : Tables) (field : ℕ) (p : Party) → HasBank t p → TargetForm t (bank_target field p)
bank-target t field (party.A line bic) h = h
bank-target t field (party.B line place) h = tt
bank-target t field (party.C line) h = tt
bank-target t field (party.D line lines) h = tt
bank-target t field (party.K account lines) h = tt
bank-target t field (party.F line lines) h = tt

unless-home : (t : Tables) (home : Bool) (target : Target) → TargetForm t target → IfSome (cond home None (Some target)) (TargetForm t)
unless-home t true target h = tt
unless-home t false target h = h

aimed-form : (t : Tables) (home : Bic) (field : ℕ) (o : Option Party) → IfSome o (HasBank t) → IfSome (aimed home field o) (TargetForm t)
aimed-form t home field None h = tt
aimed-form t home field (Some p) h = unless-home t (names_home home p) (bank_target field p) (bank-target t field p h)

first-form : (t : Tables) (a b : Option Target) (last : Target) → IfSome a (TargetForm t) → IfSome b (TargetForm t) → TargetForm t last → TargetForm t (unwrap_or (first_of (a ∷ b ∷ [])) last)
first-form t (Some x) b last f g h = f
first-form t None (Some y) last f g h = g
first-form t None None last f g h = h

pub asked-form : (t : Tables) (home : Bic) (ask : Ask) → IsReadBy t ask → AskedForm t (asked_of home ask)
asked-form t home (Transfer m) is =
    let x = transfer-form t m.now is in
    let first = aimed-form t home 56 m.now.p56 x.p56 in
    let second = aimed-form t home 57 m.now.p57 x.p57 in
    record {
      reference = x.reference;
      last_reference = x.reference;
      value = x.value;
      target = first-form t (aimed home 56 m.now.p56) (aimed home 57 m.now.p57) (customer_target m.now.payee) first second tt;
    }
asked-form t home (Cover m) is =
    let x = cover-form t m.now is in
    let first = aimed-form t home 56 m.now.a56 x.a56 in
    let second = aimed-form t home 57 m.now.a57 x.a57 in
    record {
      reference = x.reference;
      last_reference = x.related;
      value = x.value;
      target = first-form t (aimed home 56 m.now.a56) (aimed home 57 m.now.a57) (bank_target 58 m.now.a58) first second (bank-target t 58 m.now.a58 x.a58);
    }

-- ---- the legs

quote-form : (t : Tables) (way : Way) (asked : Asked) → AskedForm t asked → IsQuote (quote_of way asked)
quote-form t Ends asked h = h.last_reference
quote-form t Onward asked h = tt
quote-form t Covered asked h = tt
quote-form t Credited asked h = h.last_reference
quote-form t Passed asked h = tt

number-form : (chart : Chart) (n : ℕ) (more : Bool) → IsChart chart → (is_listed chart n && more) ≡ true → (1 ≤ n) × (n ≤ 1000)
number-form chart n more sound e =
    let listed = (and_parts (is_listed chart n) more e).0 in
    let parts = and_parts (leb 1 n) (leb n (length (accounts_of chart))) listed in
    let low = leb-true 1 n parts.0 in
    let high = leb-true n (length (accounts_of chart)) parts.1 in
    (low, omega (arith, high, sound.rows.apart.few))

charge-leg : (t : Tables) (chart : Chart) (asked : Asked) (charge : Option Charge) → IsChart chart → AskedForm t asked → IfSome charge (IsTaken chart asked.amount) → All IsLeg (charge_legs asked charge)
charge-leg t chart asked None sound h taken = All-nil IsLeg
charge-leg t chart asked (Some charge) sound h taken =
    let third : Leg = record { account = charge.account; side = Credit; amount = charge.amount; quote = Theirs asked.reference } in
    let number = number-form chart charge.account.0 (option_map_or (fits_amount asked.amount) (account_at chart charge.account.0) false) sound taken.fits in
    All-cons IsLeg third [] (record { account = number; quote = h.reference }) (All-nil IsLeg)

each-leg : (t : Tables) (chart : Chart) (way : Way) (asked : Asked) (charged : Charged) → IsChart chart → AskedForm t asked → AreCharged chart asked.amount charged → All IsLeg (legs_of way asked charged)
each-leg t chart way asked charged sound h are =
    let routed = charged.routed in
    let debit = number-form chart routed.debit.0 (option_map_or (fits_amount asked.amount) (account_at chart routed.debit.0) false) sound are.between.debit in
    let credit = number-form chart routed.credit.0 (option_map_or (fits_amount asked.amount) (account_at chart routed.credit.0) false) sound are.between.credit in
    let first : Leg = record { account = routed.debit; side = Debit; amount = asked.amount.minor; quote = Theirs asked.reference } in
    let second : Leg = record { account = routed.credit; side = Credit; amount = rest_after asked.amount.minor charged.charge; quote = quote_of way asked } in
    let last = charge_legs asked charged.charge in
    All-cons IsLeg first (second ∷ last) (record { account = debit; quote = h.reference })
    (All-cons IsLeg second last (record { account = credit; quote = quote-form t way asked h }) (charge-leg t chart asked charged.charge sound h are.taken))

-- ---- the orders

receiver-form : (bank : Bic) (via : Option Bic) → IsBic bank → IfSome via IsBic → IsBic (receiver bank via)
receiver-form bank None h v = h
receiver-form bank (Some b) h v = v

one : (x : Order) → IsOrder 2 x → All (IsOrder 2) (x ∷ [])
one x h = All-cons (IsOrder 2) x [] h (All-nil (IsOrder 2))

-- orders in form, and so many at most
record AreOrders (most : ℕ) (orders : List Order) : Type 0 where
  each : All (IsOrder 2) orders
  few : length orders ≤ most

none : AreOrders 2 []
none = record { each = All-nil (IsOrder 2); few = omega arith }

next-form : (way : Way) (bank : Bic) (field : ℕ) (via : Option Bic) → IsBic bank → IfSome via IsBic → AreOrders 2 (next_orders way bank field via)
next-form Ends bank field via h v = none
next-form Onward bank field via h v =
    let x = order.Transfer (receiver bank via) (skip_of field (is_bank (receiver bank via) bank)) None in
    record { each = one x (receiver-form bank via h v, tt); few = omega arith }
next-form Covered bank field via h v =
    let x = order.Transfer bank (skip_of field true) via in
    let y = order.Cover (receiver bank via) bank (skip_of field true) in
    record { each = All-cons (IsOrder 2) x (y ∷ []) (h, v) (one y (receiver-form bank via h v, h)); few = omega arith }
next-form Credited bank field via h v = record { each = one (order.Credit bank 2) (h, (omega arith, omega arith)); few = omega arith }
next-form Passed bank field via h v =
    let x = order.Pass (receiver bank via) (skip_of field (is_bank (receiver bank via) bank)) in
    record { each = one x (receiver-form bank via h v); few = omega arith }

target-form : (t : Tables) (way : Way) (target : Target) (via : Option Bic) → TargetForm t target → IfSome via IsBic → AreOrders 2 (orders_by way target via)
target-form t way (Bank bank field) via h v = next-form way bank field via h.0 v
target-form t way (Customer account) via h v = none
target-form t way NoBic via h v = none

if-vostro : (is : Bool) (owner : Bic) → IsBic owner → AreOrders 1 (cond is (order.Debit owner 1 ∷ []) [])
if-vostro true owner h = record { each = one (order.Debit owner 1) (h, (omega arith, omega arith)); few = omega arith }
if-vostro false owner h = record { each = All-nil (IsOrder 2); few = omega arith }

notice-form : (a : Account) → IsBic a.owner → AreOrders 1 (notices_of a)
notice-form a h = if-vostro (a.kind == vostro) a.owner h

both-form : (t : Tables) (way : Way) (target : Target) (via : Option Bic) (a : Account) → TargetForm t target → IfSome via IsBic → IsBic a.owner → AreOrders 3 (orders_of way target via a)
both-form t way target via a h v o =
    let first = target-form t way target via h v in
    let last = notice-form a o in
    record {
      each = All-append (IsOrder 2) (orders_by way target via) (notices_of a) first.each last.each;
      few = omega (arith, first.few, last.few, length-append (orders_by way target via) (notices_of a));
    }

there-form : (t : Tables) (way : Way) (target : Target) (via : Option Bic) (o : Option Account) → TargetForm t target → IfSome via IsBic → ((a : Account) → o ≡ Some a → IsBic a.owner)
    → AreOrders 3 (option_map_or (orders_of way target via) o [])
there-form t way target via None h v owner = record { each = All-nil (IsOrder 2); few = omega arith }
there-form t way target via (Some a) h v owner = both-form t way target via a h v (owner a refl)

-- orders that name one of two legs name one of three
order-more : (o : Order) → IsOrder 2 o → IsOrder 3 o
order-more (order.Transfer to skip via) h = h
order-more (order.Cover to end skip) h = h
order-more (order.Pass to skip) h = h
order-more (order.Debit to leg) h = (h.0, (h.1.0, omega (arith, h.1.1)))
order-more (order.Credit to leg) h = (h.0, (h.1.0, omega (arith, h.1.1)))

orders-of-legs : (way : Way) (asked : Asked) (routed : Routed) (charge : Option Charge) (orders : List Order) → All (IsOrder 2) orders
    → All (IsOrder (length (legs_of way asked (with_charge routed charge)))) orders
orders-of-legs way asked routed None orders each = each
orders-of-legs way asked routed (Some charge) orders each = All-weaker (IsOrder 2) (IsOrder 3) order-more orders each

-- ---- the pay

given : (o : Option Mir) (d : Mir) → IsSome o → IfSome o IsMir → IsMir (unwrap_or o d)
given (Some m) d some h = h
given None d some h = absurd (cc some)

pub shaped : (t : Tables) (env : Envelope) (text : List ℕ) (asked : Asked) (charged : Charged) (chart : Chart) → IsSome env.mir → IsWritable env text
    → AskedForm t asked → AreCharged chart asked.amount charged → IfSome charged.routed.via IsBic → are_legs (legs_of (way_of asked.mt asked.target charged.routed.method) asked charged) ≡ true
    → IsChart chart → ((a : Account) → account_at chart charged.routed.debit.0 ≡ Some a → IsBic a.owner) → HasShape (pay_of env text asked charged chart)
shaped t env text asked charged chart received writable form between via are sound owner =
    let routed = charged.routed in
    let way = way_of asked.mt asked.target routed.method in
    let orders = there-form t way asked.target routed.via (account_at chart routed.debit.0) form.target via owner in
    record {
      mir = given env.mir (record { 0 = [] }) received writable.mir;
      uetr = writable.uetr;
      text = writable.short;
      value = form.value;
      legs = are;
      each_leg = each-leg t chart way asked charged sound form between;
      few_orders = omega (arith, orders.few);
      each_order = orders-of-legs way asked routed charged.charge (orders_in chart way asked.target routed) orders.each;
    }
