-- The fields of each order of a pay that fits and has its shape may stand in a text.
use Rattle.std.proofs.Common.{◌≡◌, ◌≢◌, ℕ, zero, suc, ◌-◌, ◌<◌, ◌≤◌, ◌^◌, Bool, true, false, cond, List, [], ◌∷◌, length, take, drop, Option, Some, None, Result, Ok, Err, refl, sym, ap, ◌∙◌, subst, arith, ◌==◌, nat_lt, nat_le}
use Rattle.std.specs.Prelude.{codes, find, is_some, option_and_then, option_map, slice_get, unwrap_or, IfSome}
use Rattle.std.specs.List.{All, list_all}
use Rattle.std.proofs.lemmas.Bool.{eqb-true}
use Rattle.std.proofs.lemmas.Bool.Decides.{nat_tests}
use Rattle.std.proofs.lemmas.Option.{IfSome_then, none-some, same_Some, slice_get_within}
use Rattle.corr_text.specs.Sets.{is_in}
use Rattle.corr_text.specs.declared.set.Set.TheVariants.{X, N, A}
use Rattle.corr_ids.specs.declared.bic.Bic.{Bic}
use Rattle.corr_ids.specs.Mir.{sender_text}
use Rattle.corr_ids.proofs.laws.Spelling.{lt-bank, mir-form, mir-sender}
use Rattle.corr_money.specs.Amounts.{amount_of, decimals_of, is_comma_number, minor_of}
use Rattle.corr_money.specs.declared.amount.Amount.{Amount}
use Rattle.corr_money.specs.declared.amount.Minor.{Minor}
use Rattle.corr_money.specs.declared.fault.AmountFault.{AmountFault}
use Rattle.corr_money.specs.declared.fault.AmountFault.TheVariants.{T40, T43, C03, TooLarge}
use Rattle.fin_fields.specs.Faults.{field_fault}
use Rattle.fin_fields.specs.Fields.{fields_of}
use Rattle.fin_fields.specs.declared.fault.FieldFault.{FieldFault}
use Rattle.fin_fields.specs.declared.field.Field.{Field}
use Rattle.fin_fields.specs.Writing.{IsField}
use Rattle.fin_fields.proofs.laws.Cut.{cut-fit}
use Rattle.fin_contents.specs.Money.{is_ccy_amount, is_dated_amount}
use Rattle.fin_contents.specs.Plain.{one_line}
use Rattle.fin_contents.specs.declared.value.Value.{Value}
use Rattle.fin_contents.proofs.laws.Bytes.{and-three}
use Rattle.fin_contents.proofs.laws.Steps.{checked}
use Rattle.day_model.specs.Chart.{Chart, IsChart, IsFormed, account_at, accounts_of}
use Rattle.corr_ids.specs.Kinds.{fee}
use Rattle.day_model.specs.Fit.{FitsAccounts, side_sum}
use Rattle.day_model.specs.Shape.{HasShape, IsNumbered, IsOrder}
use Rattle.day_model.specs.declared.account.Account.{Account}
use Rattle.day_model.specs.declared.pay.Order.{Order}
use Rattle.day_model.specs.declared.pay.Order.TheVariants.{Transfer, Cover, Pass, Debit, Credit}
use Rattle.day_model.specs.declared.pay.Leg.{Leg}
use Rattle.day_model.specs.declared.pay.Pay.{Pay}
use Rattle.day_model.specs.declared.pay.Side.TheVariants.{Debit}
use Rattle.day_model.specs.declared.pay.Skip.{Skip}
use Rattle.day_model.proofs.laws.Fitting.{fitting, leg_sound, sides_small}
use Rattle.advices.specs.declared.received.Received.{Received}
use Rattle.advices.specs.Advice.{credit_fields, debit_fields}
use Rattle.advices.specs.Cover.{cover_fields}
use Rattle.advices.specs.Fields.{is_named, ours}
use Rattle.advices.specs.Legs.{amount_on, charge_of, debited_amount, leg_account, leg_amount, value_of_pay}
use Rattle.advices.specs.Messages.{order_fields}
use Rattle.advices.specs.Pass.{pass_fields}
use Rattle.advices.specs.Received.{amount_if, amount_in, minor_if, ordered_of, received_of}
use Rattle.advices.specs.inner.Spelled.{IsReceivedWhole, IsMoved, IsWritableAmount}
use Rattle.advices.specs.Transfer.{transfer_fields}
use Rattle.advices.proofs.laws.Bytes.{c-plain, ours-plain}
use Rattle.advices.proofs.laws.Fit.{cover-fit, credit-fit, debit-fit, pass-fit, transfer-fit}

-- ---- the message that came

cut-all : (text : List ℕ) (fault : Option FieldFault) → field_fault text ≡ fault → All IsField (cond (is_some fault) [] (fields_of text))
cut-all text None e = cut-fit text e
cut-all text (Some fault) e = λ k d lt. absurd (omega arith)

pub received-cut : (pay : Pay) → HasShape pay → IsReceivedWhole (received_of pay)
received-cut pay shape = record {
  fields = cut-all pay.text (field_fault pay.text) refl;
  sender = lt-bank (sender_text pay.mir.0) (mir-sender pay.mir.0 (mir-form pay.mir shape.mir));
}

-- ---- what it ordered

below-end : (n : ℕ) → nat_lt n 100000000000000 ≡ true → n < 10 ^ 14
below-end n e = grind (arith, nat_tests)

amount-small : (decimals : ℕ) (bs : List ℕ) (m : Minor) → amount_of decimals bs ≡ Ok m → m.0 < 10 ^ 14
unfolding amount_of
amount-small decimals bs m e =
    let number = checked (is_comma_number bs) T40 _ m e in
    let short = checked (nat_le (length bs) 15) T43 _ m number.1 in
    let few = checked (nat_le (length (decimals_of bs)) decimals) C03 _ m short.1 in
    let small = checked (nat_lt (minor_of decimals bs) 100000000000000) TooLarge _ m few.1 in
    let same : record { 0 = minor_of decimals bs } ≡ m = cc small.1 in
    rw (← same) (below-end (minor_of decimals bs) small.0)

minor-spelled : (decimals : ℕ) (line : List ℕ) (r : Result Minor AmountFault) → decimals ≤ 4 → amount_of decimals (drop 9 line) ≡ r
    → list_all (is_in A) (take 3 (drop 6 line)) ≡ true
    → IfSome
    (option_map (λ (minor : Minor). let a : Amount = record { ccy = record { 0 = take 3 (drop 6 line) }; minor = minor; decimals = decimals } in a)
    (minor_if r)) IsWritableAmount
minor-spelled decimals line (Ok m) few e letters = record {
  amount = record { small = amount-small decimals (drop 9 line) m e; few = few };
  letters = letters;
}
minor-spelled decimals line (Err fault) few e letters = tt

pub amount_if-spelled : (decimals : ℕ) (line : List ℕ) → decimals ≤ 4 → IfSome (amount_if decimals line) IsWritableAmount
amount_if-spelled decimals line few = go (is_dated_amount line) refl
  where
    go : (b : Bool) → is_dated_amount line ≡ b
        → IfSome
        (cond b
        (option_map (λ (minor : Minor). let a : Amount = record { ccy = record { 0 = take 3 (drop 6 line) }; minor = minor; decimals = decimals } in a)
        (minor_if (amount_of decimals (drop 9 line)))) None) IsWritableAmount
    go false e = tt
    go true e =
        let parts = and-three (nat_le 10 (length line)) (list_all (is_in N) (take 6 line)) (is_ccy_amount (drop 6 line)) e in
        let form =
        and-three (nat_le 4 (length (drop 6 line))) (list_all (is_in A) (take 3 (drop 6 line))) (list_all (is_in X) (drop 3 (drop 6 line))) parts.2 in
        minor-spelled decimals line (amount_of decimals (drop 9 line)) few refl form.1

line-spelled : (decimals : ℕ) (o : Option (List ℕ)) → decimals ≤ 4 → IfSome (option_and_then (amount_if decimals) o) IsWritableAmount
line-spelled decimals None few = tt
line-spelled decimals (Some line) few = amount_if-spelled decimals line few

field-spelled : (decimals : ℕ) (o : Option Field) → decimals ≤ 4
    → IfSome (option_and_then (λ f. option_and_then (amount_if decimals) (one_line f)) o) IsWritableAmount
field-spelled decimals None few = tt
field-spelled decimals (Some f) few = line-spelled decimals (one_line f) few

or-own : (o : Option Amount) (own : Amount) → IfSome o IsWritableAmount → IsWritableAmount own → IsWritableAmount (unwrap_or o own)
or-own None own is other = other
or-own (Some a) own is other = is

pub ordered-spelled : (r : Received) (own : Amount) → IsWritableAmount own → IsWritableAmount (ordered_of r own)
ordered-spelled r own is =
    or-own (amount_in own.decimals r.fields) own (field-spelled own.decimals (find (is_named 32 (codes "A")) r.fields) is.amount.few) is

-- ---- what is moved

-- a leg with its account
pub record Moved (chart : Chart) (pay : Pay) (n : ℕ) : Type 0 where
  pub account : Account
  pub amount : Amount
  pub on_account : leg_account chart pay n ≡ Some account
  pub of_amount : leg_amount chart pay n ≡ Some amount
  pub formed : IsFormed account
  pub spelled : IsWritableAmount amount
  pub in_ccy : amount.ccy ≡ account.ccy
  pub in_decimals : amount.decimals ≡ account.decimals
  pub above : 0 < amount.minor.0

there : {X : Type 0} (xs : List X) (i : ℕ) → i < length xs → (x : X) × (slice_get xs i ≡ Some x)
there [] i lt = absurd (omega arith)
there (x ∷ xs) zero lt = (x, refl)
there (x ∷ xs) (suc i) lt = there xs i (omega arith)

pub leg-moved : (chart : Chart) (pay : Pay) (n : ℕ) → IsChart chart → FitsAccounts chart pay → IsNumbered (length pay.legs) n → Moved chart pay n
leg-moved chart pay n sound fits numbered =
    let (leg, at) = there pay.legs (n - 1) (omega (arith, numbered.0, numbered.1)) in
    let leg_is = leg_sound chart pay.legs (n - 1) leg (fitting chart pay.legs fits) at in
    let (account, own) = there (accounts_of chart) (leg.account.0 - 1) (omega (arith, leg_is.listed.0, leg_is.listed.1)) in
    let formed = sound.rows.apart.formed (leg.account.0 - 1) account own in
    record {
      account = account;
      amount = amount_on leg account;
      on_account = rw (at, own) refl;
      of_amount = rw (at, own) refl;
      formed = formed;
      spelled = record { amount = record { small = leg_is.below; few = formed.decimals }; letters = formed.ccy };
      in_ccy = refl;
      in_decimals = refl;
      above = leg_is.above;
    }

-- a charge that a pay takes is what its third leg moves, on an account for charges
pub record IsTakenBy (chart : Chart) (pay : Pay) (charge : Amount) : Type 0 where
  pub third : Moved chart pay 3
  pub kind : third.account.kind ≡ fee
  pub same : third.amount ≡ charge

third-there : (chart : Chart) (legs : List Leg) (account : Account) (o : Option Leg) → slice_get legs 2 ≡ o
    → option_and_then (λ leg. account_at chart leg.account.0) o ≡ Some account → 3 ≤ length legs
third-there chart legs account None at e = absurd (none-some account e)
third-there chart legs account (Some leg) at e = omega (arith, slice_get_within legs 2 leg at)

module _ (chart : Chart) (pay : Pay) (sound : IsChart chart) (fits : FitsAccounts chart pay) where
  by-kind : (third : Moved chart pay 3) (b : Bool) → (third.account.kind == fee) ≡ b → IfSome (cond b (leg_amount chart pay 3) None) (IsTakenBy chart pay)
  by-kind third false e = tt
  by-kind third true e =
      subst (λ (o : Option Amount). IfSome o (IsTakenBy chart pay)) (sym third.of_amount)
      (record { third = third; kind = eqb-true third.account.kind fee e; same = refl })

  of-third : (o : Option Account) → leg_account chart pay 3 ≡ o
      → IfSome (option_and_then (λ account. cond (account.kind == fee) (leg_amount chart pay 3) None) o) (IsTakenBy chart pay)
  of-third None e = tt
  of-third (Some account) e =
      let many : 3 ≤ length pay.legs = third-there chart pay.legs account (slice_get pay.legs 2) refl e in
      let third = leg-moved chart pay 3 sound fits (omega arith, many) in
      let same : third.account ≡ account = same_Some third.account account (sym third.on_account ∙ e) in
      by-kind third (account.kind == fee) (ap (λ (a : Account). a.kind == fee) same)

  pub charge-taken : IfSome (charge_of chart pay) (IsTakenBy chart pay)
  charge-taken = of-third (leg_account chart pay 3) refl

  -- so it can be written
  pub charge-spelled : IfSome (charge_of chart pay) IsWritableAmount
  charge-spelled = IfSome_then (charge_of chart pay) charge-taken (λ a is. subst IsWritableAmount is.same is.third.spelled)

-- what is debited, in the currency of the first leg
pub record Debited (chart : Chart) (pay : Pay) (account : Account) : Type 0 where
  pub amount : Amount
  pub of_amount : debited_amount chart pay ≡ Some amount
  pub spelled : IsWritableAmount amount
  pub in_ccy : amount.ccy ≡ account.ccy
  pub in_decimals : amount.decimals ≡ account.decimals

pub debits : (chart : Chart) (pay : Pay) (account : Account) → FitsAccounts chart pay → leg_account chart pay 1 ≡ Some account → IsFormed account → Debited chart pay account
debits chart pay account fits on formed = record {
  amount = record { ccy = account.ccy; minor = record { 0 = side_sum Debit pay.legs }; decimals = account.decimals };
  of_amount = rw on refl;
  spelled = record { amount = record { small = sides_small chart pay.legs Debit (fitting chart pay.legs fits); few = formed.decimals }; letters = formed.ccy };
  in_ccy = refl;
  in_decimals = refl;
}

-- ---- each order

-- fields that may stand in a text, and are some
pub record AreWritable (fs : List Field) : Type 0 where
  pub some : fs ≢ []
  pub fit : All IsField fs

transfer-some : (r : Received) (reference : List ℕ) (v : Value) (ordered : Amount) (charge : Option Amount) (skip : Skip) (via : Option Bic)
    → transfer_fields r reference v ordered charge skip via ≢ []
unfolding transfer_fields
transfer-some r reference v ordered charge skip via e = absurd (cc e)

cover-some : (r : Received) (reference related : List ℕ) (v : Value) (ordered : Amount) (end : Bic) (skip : Skip)
    → cover_fields r reference related v ordered end skip ≢ []
unfolding cover_fields
cover-some r reference related v ordered end skip e = absurd (cc e)

pass-some : (r : Received) (reference : List ℕ) (v : Value) (skip : Skip) → pass_fields r reference v skip ≢ []
unfolding pass_fields
pass-some r reference v skip e = absurd (cc e)

debit-some : (r : Received) (reference account : List ℕ) (v : Value) → debit_fields r reference account v ≢ []
unfolding debit_fields
debit-some r reference account v e = absurd (cc e)

credit-some : (r : Received) (reference account : List ℕ) (v : Value) → credit_fields r reference account v ≢ []
unfolding credit_fields
credit-some r reference account v e = absurd (cc e)

module _ (chart : Chart) (pay : Pay) (place k : ℕ) (sound : IsChart chart) (fits : FitsAccounts chart pay) (shape : HasShape pay)
    (small : place < 10 ^ 19) (few : k < 10 ^ 19) where
  on-day : (amount : Amount) → IsWritableAmount amount → IsMoved (value_of_pay pay amount)
  on-day amount is = record { day = shape.value; amount = is }

  numbered : (n : ℕ) → 1 ≤ n → n ≤ 2 → Moved chart pay n
  numbered n from to = leg-moved chart pay n sound fits (from, omega (arith, to, (fitting chart pay.legs fits).many))

  pub order-writable : (order : Order) → IsOrder (length pay.legs) order → AreWritable (order_fields chart pay place k order)
  order-writable (Transfer to skip via) o =
      let r = received_of pay in
      let first = numbered 1 (omega arith) (omega arith) in
      let one = debits chart pay first.account fits first.on_account first.formed in
      let two = numbered 2 (omega arith) (omega arith) in
      let v = value_of_pay pay two.amount in
      let ordered = ordered_of r one.amount in
      rw (one.of_amount, two.of_amount) (record {
        some = transfer-some r (ours place k) v ordered (charge_of chart pay) skip via;
        fit = transfer-fit r (ours place k) v ordered (charge_of chart pay) skip via (received-cut pay shape) (ours-plain place k small few)
            (on-day two.amount two.spelled) (ordered-spelled r one.amount one.spelled) (charge-spelled chart pay sound fits) o.1;
      })
  order-writable (Cover to end skip) o =
      let r = received_of pay in
      let first = numbered 1 (omega arith) (omega arith) in
      let one = debits chart pay first.account fits first.on_account first.formed in
      let two = numbered 2 (omega arith) (omega arith) in
      let v = value_of_pay pay two.amount in
      let ordered = ordered_of r one.amount in
      rw (one.of_amount, two.of_amount) (record {
        some = cover-some r (ours place k) (ours place 1) v ordered end skip;
        fit = cover-fit r (ours place k) (ours place 1) v ordered end skip (received-cut pay shape) (ours-plain place k small few)
            (ours-plain place 1 small (omega arith)) (on-day two.amount two.spelled) (ordered-spelled r one.amount one.spelled) o.1;
      })
  order-writable (Pass to skip) o =
      let r = received_of pay in
      let two = numbered 2 (omega arith) (omega arith) in
      let v = value_of_pay pay two.amount in
      rw (two.of_amount) (record {
        some = pass-some r (ours place k) v skip;
        fit = pass-fit r (ours place k) v skip (received-cut pay shape) (ours-plain place k small few) (on-day two.amount two.spelled);
      })
  order-writable (Debit to leg) o =
      let r = received_of pay in
      let m = leg-moved chart pay leg sound fits o.1 in
      let v = value_of_pay pay m.amount in
      rw (m.on_account, m.of_amount) (record {
        some = debit-some r (ours place k) m.account.id v;
        fit = debit-fit r (ours place k) m.account.id v (received-cut pay shape) (ours-plain place k small few) (c-plain m.account.id m.formed.id_plain)
            (on-day m.amount m.spelled);
      })
  order-writable (Credit to leg) o =
      let r = received_of pay in
      let m = leg-moved chart pay leg sound fits o.1 in
      let v = value_of_pay pay m.amount in
      rw (m.on_account, m.of_amount) (record {
        some = credit-some r (ours place k) m.account.id v;
        fit = credit-fit r (ours place k) m.account.id v (received-cut pay shape) (ours-plain place k small few) (c-plain m.account.id m.formed.id_plain)
            (on-day m.amount m.spelled);
      })
