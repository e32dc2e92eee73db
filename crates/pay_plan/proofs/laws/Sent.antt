-- The pay of a message, under the tables by which that was read: its accounts fit the amount, a third leg is the charge of a
-- transfer under SHA or BEN, and its orders go to banks that the tables hold.
use Rattle.std.proofs.Common.{◌≡◌, ℕ, zero, suc, ◌==◌, not, true, false, cond, IfSome, List, [], ◌∷◌, Option, Some, None, Ok, refl, sym, subst}
use Rattle.std.specs.Prelude.{All, IsTrue, nat_lt, slice_get}
use Rattle.std.specs.Option.{option_map_or}
use Rattle.std.proofs.lemmas.Bool.{eqb-true}
use Rattle.std.proofs.lemmas.List.Elements.{All-append, All-cons, All-nil}
use Rattle.std.proofs.lemmas.Option.{none-some, same_Some}
use Rattle.corr_text.specs.Codes.{code}
use Rattle.corr_ids.specs.declared.bic.Bic.{Bic}
use Rattle.corr_ids.specs.declared.envelope.Envelope.{Envelope}
use Rattle.corr_money.specs.declared.amount.Amount.{Amount}
use Rattle.corr_money.specs.declared.amount.Minor.{Minor}
use Rattle.ref_tables.specs.Seen.{Tables, charge_in, has_head, IsKnown}
use Rattle.day_model.specs.Chart.{Chart, account_at}
use Rattle.corr_ids.specs.Kinds.{fee, vostro}
use Rattle.day_model.specs.declared.account.Account.{Account}
use Rattle.day_model.specs.declared.pay.Leg.{Leg}
use Rattle.day_model.specs.declared.pay.Mt.{Mt}
use Rattle.day_model.specs.declared.pay.Mt.TheVariants as mt
use Rattle.day_model.specs.declared.pay.Order.{Order}
use Rattle.day_model.specs.declared.pay.Order.TheVariants as order
use Rattle.day_model.specs.declared.pay.Pay.{Pay}
use Rattle.day_model.specs.declared.pay.Quote.TheVariants.{Theirs}
use Rattle.day_model.specs.declared.pay.Side.TheVariants.{Credit, Debit}
use Rattle.fin_contents.proofs.laws.Steps.{checked, read-then, there}
use Rattle.ssi_versions.specs.declared.method.Method.{Method}
use Rattle.ssi_versions.specs.declared.method.Method.TheVariants as method
use Rattle.ssi_versions.specs.declared.row.SsiRow.{SsiRow}
use Rattle.routing.specs.Accounts.{account_with, fits_amount}
use Rattle.routing.specs.Route.{is_bank}
use Rattle.routing.specs.declared.routed.Routed.{Routed}
use Rattle.routing.specs.declared.target.Target.{Target}
use Rattle.routing.specs.declared.target.Target.TheVariants.{Bank, Customer, NoBic}
use Rattle.routing.proofs.laws.Routes.{IsFound, IsRouted, KnowsVia, found-is, route-is}
use Rattle.pay_plan.specs.declared.ask.Ask.{Ask}
use Rattle.pay_plan.specs.declared.ask.Ask.TheVariants.{Transfer, Cover}
use Rattle.pay_plan.specs.declared.charging.Charge.{Charge}
use Rattle.pay_plan.specs.declared.charging.Charged.{Charged}
use Rattle.pay_plan.specs.declared.way.Way.{Way}
use Rattle.pay_plan.specs.declared.way.Way.TheVariants.{Credited, Onward, Passed}
use Rattle.pay_plan.specs.Asked.{Asked, amount_in, asked_of, is_for_home}
use Rattle.mt103.specs.Codes.{is_charged}
use Rattle.pay_plan.specs.Charging.{ChargeRows, charge_asked, charge_of, charge_on, may_be_charged}
use Rattle.pay_plan.specs.Orders.{next_orders, notices_of, orders_by, orders_of, receiver, skip_of}
use Rattle.pay_plan.specs.Pay.{legs_of, quote_of, rest_after}
use Rattle.pay_plan.specs.Plan.{accounts_of, pay_of, plan_of, route_asked}
use Rattle.pay_plan.specs.Readable.{IsReadBy}
use Rattle.pay_plan.specs.inner.Sends.{FollowsMessage, IsChargeOf, IsPayOf}
use Rattle.pay_plan.specs.Way.{cover_way, transfer_way, way_of}
use Rattle.pay_plan.proofs.Fitting.{with_charge}
use Rattle.pay_plan.proofs.Parties.{ok-is}
use Rattle.pay_plan.proofs.Planned.{amount-asked}
use Rattle.pay_plan.proofs.Shaped.{AskedForm, TargetForm, asked-form}

-- ---- the orders

receiver-known : (t : Tables) (bank : Bic) (via : Option Bic) → IsKnown t bank → IfSome via (IsKnown t) → IsKnown t (receiver bank via)
receiver-known t bank None h v = h
receiver-known t bank (Some b) h v = v

one : (t : Tables) (mt : Mt) (x : Order) → FollowsMessage t mt x → All (FollowsMessage t mt) (x ∷ [])
one t mt x h = All-cons (FollowsMessage t mt) x [] h (All-nil (FollowsMessage t mt))

onward : (t : Tables) (bank : Bic) (field : ℕ) (via : Option Bic) → IsKnown t bank → IfSome via (IsKnown t) → All (FollowsMessage t mt.Transfer) (next_orders Onward bank field via)
onward t bank field via h v = one t mt.Transfer (order.Transfer (receiver bank via) (skip_of field (is_bank (receiver bank via) bank)) None) (receiver-known t bank via h v, tt)

passed : (t : Tables) (bank : Bic) (field : ℕ) (via : Option Bic) → IsKnown t bank → IfSome via (IsKnown t) → All (FollowsMessage t mt.Cover) (next_orders Passed bank field via)
passed t bank field via h v = one t mt.Cover (order.Pass (receiver bank via) (skip_of field (is_bank (receiver bank via) bank))) (receiver-known t bank via h v)

-- those that follow a transfer
after-transfer : (t : Tables) (how : Option Method) (bank : Bic) (field : ℕ) (via : Option Bic) → IsKnown t bank → IfSome via (IsKnown t) → All (FollowsMessage t mt.Transfer) (next_orders (transfer_way how) bank field via)
after-transfer t None bank field via h v = All-nil (FollowsMessage t mt.Transfer)
after-transfer t (Some method.Book) bank field via h v = onward t bank field via h v
after-transfer t (Some method.Serial) bank field via h v = onward t bank field via h v
after-transfer t (Some method.Cover) bank field via h v =
    let y = order.Cover (receiver bank via) bank (skip_of field true) in
    All-cons (FollowsMessage t mt.Transfer) (order.Transfer bank (skip_of field true) via) (y ∷ []) (h, v) (one t mt.Transfer y (receiver-known t bank via h v, h))

-- those that follow a cover
after-cover : (t : Tables) (how : Option Method) (bank : Bic) (field : ℕ) (via : Option Bic) → IsKnown t bank → IfSome via (IsKnown t) → All (FollowsMessage t mt.Cover) (next_orders (cover_way (Bank bank field) how) bank field via)
after-cover t None bank field via h v = passed t bank field via h v
after-cover t (Some method.Serial) bank field via h v = passed t bank field via h v
after-cover t (Some method.Cover) bank field via h v = passed t bank field via h v
after-cover t (Some method.Book) bank field via h v =
    elim (field == 58) as (λ b. All (FollowsMessage t mt.Cover) (next_orders (cond b Credited Passed) bank field via)) [
      | true ↦ one t mt.Cover (order.Credit bank 2) h
      | false ↦ passed t bank field via h v
    ]

onward-orders : (t : Tables) (mt : Mt) (target : Target) (how : Option Method) (via : Option Bic) → TargetForm t target → IfSome via (IsKnown t) → All (FollowsMessage t mt) (orders_by (way_of mt target how) target via)
onward-orders t mt.Transfer (Bank bank field) how via h v = after-transfer t how bank field via h.1 v
onward-orders t mt.Cover (Bank bank field) how via h v = after-cover t how bank field via h.1 v
onward-orders t mt (Customer account) how via h v = All-nil (FollowsMessage t mt)
onward-orders t mt NoBic how via h v = All-nil (FollowsMessage t mt)

told : (t : Tables) (mt : Mt) (owner : Bic) → IsKnown t owner → FollowsMessage t mt (order.Debit owner 1)
told t mt.Transfer owner h = h
told t mt.Cover owner h = h

-- the notice to the owner of a vostro account
notices : (t : Tables) (mt : Mt) (x : Account) → (x.kind ≡ vostro → IsKnown t x.owner) → All (FollowsMessage t mt) (notices_of x)
notices t mt x known =
    elim (x.kind == vostro) as (λ b. (x.kind == vostro ≡ b) → All (FollowsMessage t mt) (cond b (order.Debit x.owner 1 ∷ []) [])) [
      | true ↦ λ is. one t mt (order.Debit x.owner 1) (told t mt x.owner (known (eqb-true x.kind vostro is)))
      | false ↦ λ is. All-nil (FollowsMessage t mt)
    ] refl

all-orders : (t : Tables) (mt : Mt) (target : Target) (how : Option Method) (via : Option Bic) (o : Option Account) → TargetForm t target → IfSome via (IsKnown t)
    → ((x : Account) → o ≡ Some x → x.kind ≡ vostro → IsKnown t x.owner) → All (FollowsMessage t mt) (option_map_or (orders_of (way_of mt target how) target via) o [])
all-orders t mt target how via None h v owner = All-nil (FollowsMessage t mt)
all-orders t mt target how via (Some x) h v owner =
    All-append (FollowsMessage t mt) (orders_by (way_of mt target how) target via) (notices_of x) (onward-orders t mt target how via h v) (notices t mt x (owner x refl))

-- ---- the accounts

on-account : (chart : Chart) (amount : Asked) (a b : Leg) (x : Account) → a ≡ b → ((y : Account) → account_at chart a.account.0 ≡ Some y → fits_amount amount.amount y ≡ true) → account_at chart b.account.0 ≡ Some x
    → fits_amount amount.amount x ≡ true
on-account chart asked a b x same fit at = fit x (subst (λ (l : Leg). account_at chart l.account.0 ≡ Some x) (sym same) at)

-- the charge of a message: that may be charged, and the account is one of fees that fits the amount
record IsChargeFor (chart : Chart) (ask : Ask) (charge : Charge) : Type 0 where
  asked : IsTrue (may_be_charged ask)
  found : IsFound fee (amount_in ask) chart charge.account

rows-asked : (ask : Ask) (charges : ChargeRows) (m : Minor) → charge_asked ask charges ≡ Some m → may_be_charged ask ≡ true
rows-asked (Transfer m) charges c e =
    elim (is_charged m.now.charge) as (λ b. cond b (charge_in charges m.now.amount.ccy.0) None ≡ Some c → b ≡ true) [
      | true ↦ λ h. refl
      | false ↦ λ h. absurd (none-some c h)
    ] e
rows-asked (Cover m) charges c e = absurd (none-some c e)

charge-by : (chart : Chart) (ask : Ask) (o : Option Minor) (charge : Option Charge) → ((m : Minor) → o ≡ Some m → may_be_charged ask ≡ true)
    → charge_on (amount_in ask) chart o ≡ Ok charge → IfSome charge (IsChargeFor chart ask)
charge-by chart ask None charge asked e = subst (λ (c : Option Charge). IfSome c (IsChargeFor chart ask)) (ok-is None charge e) tt
charge-by chart ask (Some m) charge asked e =
    let amount = amount_in ask in
    let below = checked (nat_lt m.0 amount.minor.0) (code "P39") _ charge e in
    let n = there (account_with fee chart.home amount chart) (code "P40") _ charge below.1 in
    let is : IsChargeFor chart ask (record { account = n.0; amount = m }) = record { asked = asked m refl; found = found-is fee chart.home amount chart n.0 n.1 } in
    subst (λ (c : Option Charge). IfSome c (IsChargeFor chart ask)) (ok-is _ charge n.2) is

charge-is : (chart : Chart) (ask : Ask) (charges : ChargeRows) (charge : Option Charge) → charge_of ask charges chart ≡ Ok charge → IfSome charge (IsChargeFor chart ask)
charge-is chart ask charges charge e = charge-by chart ask (charge_asked ask charges) charge (rows-asked ask charges) e

each-fits : (t : Tables) (sender : Bic) (chart : Chart) (way : Way) (asked : Asked) (routed : Routed) (charge : Option Charge) (n : ℕ) (leg : Leg) (x : Account)
    → IsRouted t sender asked.amount chart routed → IfSome charge (λ c. IsFound fee asked.amount chart c.account)
    → slice_get (legs_of way asked (with_charge routed charge)) n ≡ Some leg → account_at chart leg.account.0 ≡ Some x → fits_amount asked.amount x ≡ true
each-fits t sender chart way asked routed charge zero leg x is found at there =
    let debit : Leg = record { account = routed.debit; side = Debit; amount = asked.amount.minor; quote = Theirs asked.reference } in
    on-account chart asked debit leg x (same_Some debit leg at) is.debit there
each-fits t sender chart way asked routed charge (suc zero) leg x is found at there =
    let credit : Leg = record { account = routed.credit; side = Credit; amount = rest_after asked.amount.minor charge; quote = quote_of way asked } in
    on-account chart asked credit leg x (same_Some credit leg at) is.credit there
each-fits t sender chart way asked routed None (suc (suc n)) leg x is found at there = absurd (none-some leg at)
each-fits t sender chart way asked routed (Some c) (suc (suc zero)) leg x is found at there =
    let third : Leg = record { account = c.account; side = Credit; amount = c.amount; quote = Theirs asked.reference } in
    on-account chart asked third leg x (same_Some third leg at) found.fit there
each-fits t sender chart way asked routed (Some c) (suc (suc (suc n))) leg x is found at there = absurd (none-some leg at)

-- a third leg is the charge
third-is : (chart : Chart) (ask : Ask) (way : Way) (asked : Asked) (routed : Routed) (charge : Option Charge) (leg : Leg) → IfSome charge (IsChargeFor chart ask)
    → slice_get (legs_of way asked (with_charge routed charge)) 2 ≡ Some leg → IsChargeOf chart ask leg
third-is chart ask way asked routed None leg is at = absurd (none-some leg at)
third-is chart ask way asked routed (Some c) leg is at =
    let third : Leg = record { account = c.account; side = Credit; amount = c.amount; quote = Theirs asked.reference } in
    subst (IsChargeOf chart ask) (same_Some third leg at) (record { asked = is.asked; kind = is.found.kind_is })

-- ---- the plan

found-asked : (chart : Chart) (ask : Ask) (charge : Option Charge) → IfSome charge (IsChargeFor chart ask) → IfSome charge (λ c. IsFound fee (asked_of chart.home ask).amount chart c.account)
found-asked chart ask None is = tt
found-asked chart (Transfer m) (Some c) is = is.found
found-asked chart (Cover m) (Some c) is = is.found

routed-pay : (t : Tables) (env : Envelope) (text : List ℕ) (ask : Ask) (charged : Charged) (chart : Chart) → AskedForm t (asked_of chart.home ask) → IsKnown t env.sender
    → IsRouted t env.sender (asked_of chart.home ask).amount chart charged.routed → IfSome charged.charge (IsChargeFor chart ask)
    → IsPayOf t chart env text ask (pay_of env text (asked_of chart.home ask) charged chart)
routed-pay t env text ask charged chart form known is charge =
    let asked = asked_of chart.home ask in
    let routed = charged.routed in
    let way = way_of asked.mt asked.target routed.method in
    record {
      mir_is = refl;
      mt_is = refl;
      text_is = refl;
      accounts = λ n leg x at there. subst (λ (amount : Amount). fits_amount amount x ≡ true) (sym (amount-asked chart.home ask))
          (each-fits t env.sender chart way asked routed charged.charge n leg x is (found-asked chart ask charged.charge charge) at there);
      charge = λ leg at. third-is chart ask way asked routed charged.charge leg charge at;
      orders = all-orders t asked.mt asked.target routed.method routed.via (account_at chart routed.debit.0) form.target is.via
          (λ x at kind. subst (λ (head : List ℕ). has_head t head ≡ true) (sym (is.owner x at kind)) known);
    }

-- the accounts of a message and its charge
accounts-are : (t : Tables) (env : Envelope) (ask : Ask) (rows : List SsiRow) (charges : ChargeRows) (chart : Chart) (charged : Charged) → All (KnowsVia t) rows
    → accounts_of env ask rows charges chart ≡ Ok charged → IsRouted t env.sender (asked_of chart.home ask).amount chart charged.routed × IfSome charged.charge (IsChargeFor chart ask)
accounts-are t env ask rows charges chart charged rows_know e =
    let asked = asked_of chart.home ask in
    let apart = checked (not (is_for_home chart.home ask)) (code "P34") _ charged e in
    let routed = read-then (route_asked env asked rows chart) _ charged apart.1 in
    let charge = read-then (charge_of ask charges chart) _ charged routed.2 in
    subst (λ (c : Charged). IsRouted t env.sender asked.amount chart c.routed × IfSome c.charge (IsChargeFor chart ask)) (ok-is (with_charge routed.0 charge.0) charged charge.2)
    (route-is t env.sender asked.amount asked.value asked.cover asked.target rows chart routed.0 rows_know routed.1, charge-is chart ask charges charge.0 charge.1)

-- the pay of a message that was read under these tables, which hold its sender's head and the banks between of the instructions
pub plan-is : (t : Tables) (env : Envelope) (text : List ℕ) (ask : Ask) (rows : List SsiRow) (charges : ChargeRows) (chart : Chart) (pay : Pay) → IsReadBy t ask → IsKnown t env.sender
    → All (KnowsVia t) rows → plan_of env text ask rows charges chart ≡ Ok pay → IsPayOf t chart env text ask pay
unfolding plan_of
plan-is t env text ask rows charges chart pay read known rows_know e =
    let charged = read-then (accounts_of env ask rows charges chart) _ pay e in
    let same : pay_of env text (asked_of chart.home ask) charged.0 chart ≡ pay = ok-is _ pay charged.2 in
    let are = accounts-are t env ask rows charges chart charged.0 rows_know charged.1 in
    subst (IsPayOf t chart env text ask) same (routed-pay t env text ask charged.0 chart (asked-form t chart.home ask read) known are.0 are.1)
