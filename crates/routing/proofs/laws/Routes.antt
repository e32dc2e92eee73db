-- What a route rests on: its accounts fit the amount, a vostro account that is debited is the sender's, and the bank between
-- stands in the table of banks where those of the instructions do.
use Rattle.std.proofs.Common.{◌≡◌, ◌≢◌, arith, ℕ, Bool, true, false, List, [], ◌∷◌, IfSome, IsTrue, Option, Some, None, Result, Ok, Err, refl, sym, ap, ◌∙◌, subst, eqb}
use Rattle.std.specs.Prelude.{◌&&◌, ◌||◌, ◌==◌, ◌++◌, cond, filter, find, not}
use Rattle.std.specs.List.{All}
use Rattle.std.specs.Option.{option_or}
use Rattle.std.specs.Str.{bytes_eq}
use Rattle.std.proofs.lemmas.Bool.{and_parts, eqb-true}
use Rattle.std.proofs.lemmas.List.Elements.{All-filter, All-head, All-tail}
use Rattle.std.proofs.lemmas.Option.{same_Some}
use Rattle.std.proofs.lemmas.Slice.Eq.{bytes_eq-Decides}
use Rattle.corr_text.specs.Codes.{code}
use Rattle.corr_text.specs.First.{check, first_of, or_fault, ◌>>=◌}
use Rattle.corr_ids.specs.declared.bic.Bic.{Bic}
use Rattle.corr_ids.specs.declared.day.Day.{Day}
use Rattle.corr_money.specs.declared.amount.Amount.{Amount}
use Rattle.ref_tables.specs.Seen.{Tables, has_head}
use Rattle.day_model.specs.declared.account.Account.{Account}
use Rattle.day_model.specs.declared.account.AcctNo.{AcctNo}
use Rattle.day_model.specs.Chart.{Chart, account_at, accounts_of, has_id, is_owned, is_same_ccy, number_of_first}
use Rattle.corr_ids.specs.Kinds.{customer, fee, nostro, vostro}
use Rattle.ssi_versions.specs.declared.method.Method.{Method}
use Rattle.ssi_versions.specs.declared.method.Method.TheVariants as method
use Rattle.ssi_versions.specs.declared.row.SsiRow.{SsiRow}
use Rattle.ssi_versions.specs.Instruction.{instruction_at, is_in_force, naming}
use Rattle.ssi_versions.specs.Rows.{any_bank, knows_via}
use Rattle.routing.specs.Accounts.{account_with, fits_amount, account_named, serves}
use Rattle.routing.specs.Route.{booked_credit, carried_credit, credit_by, credit_of, customer_credit, debit_of, is_bank, relation_of, route_of}
use Rattle.routing.specs.declared.cover.Cover.{Cover}
use Rattle.routing.specs.declared.cover.Cover.TheVariants as cover
use Rattle.routing.specs.declared.credit.Credit.{Credit}
use Rattle.routing.specs.declared.ledger.Wanted.{Wanted}
use Rattle.routing.specs.declared.ledger.Wanted.TheVariants as wanted
use Rattle.routing.specs.declared.routed.Routed.{Routed}
use Rattle.routing.specs.declared.target.Target.{Target}
use Rattle.routing.specs.declared.target.Target.TheVariants as target
use Rattle.routing.proofs.Fitting.{owned-fits, serves-fits, stands}

-- ---- steps of a reading

there : {A B F : Type 0} (o : Option A) (fault : F) (next : A → Result B F) (y : B) → (or_fault o fault >>= next) ≡ Ok y → (x : A) × (o ≡ Some x) × (next x ≡ Ok y)
there (Some x) fault next y e = (x, refl, e)
there None fault next y e = absurd (cc e)

read-then : {A B F : Type 0} (r : Result A F) (next : A → Result B F) (y : B) → (r >>= next) ≡ Ok y → (x : A) × (r ≡ Ok x) × (next x ≡ Ok y)
read-then (Ok x) next y e = (x, refl, e)
read-then (Err f) next y e = absurd (cc e)

checked : {A F : Type 0} (b : Bool) (fault : F) (next : Result A F) (x : A) → (check b fault >>= λ _. next) ≡ Ok x → next ≡ Ok x
checked true fault next x e = e
checked false fault next x e = absurd (cc e)

ok-is : {A F : Type 0} (x y : A) → ◌≡◌ {A = Result A F} (Ok x) (Ok y) → x ≡ y
ok-is x y e = cc e

given : {A F : Type 0} (o : Option A) (fault : F) (x : A) → or_fault o fault ≡ Ok x → o ≡ Some x
given (Some y) fault x e = ap Some (cc e)
given None fault x e = absurd (cc e)

-- ---- the account that is found

-- the account with the number of the first that passes a test passes it
passes : (t : Account → Bool) (chart : Chart) (n : AcctNo) (x : Account) → number_of_first t (accounts_of chart) ≡ Some n → account_at chart n.0 ≡ Some x → t x ≡ true
passes t chart n x e at =
    let s = stands t chart n e in
    subst (λ (y : Account). t y ≡ true) (same_Some _ _ (sym s.there ∙ at)) s.passes

-- the account with a number, where it is there, has this
abbrev AccountIs : Chart → (Account → Type 0) → AcctNo → Type 0
AccountIs chart P n = (x : Account) → account_at chart n.0 ≡ Some x → P x

-- it fits an amount
abbrev Fits : Amount → Account → Type 0
Fits amount x = fits_amount amount x ≡ true

-- it fits, it is none of fees, and a vostro account is this bank's
record IsOwn (bank : Bic) (amount : Amount) (x : Account) : Type 0 where
  fit : fits_amount amount x ≡ true
  kind : x.kind ≢ fee
  owner : x.kind ≡ vostro → x.owner.head ≡ bank.head

-- the kind and the owner of an account that is owned
owned-parts : (kind : ℕ) (head : List ℕ) (amount : Amount) (x : Account) → is_owned kind head amount.ccy amount.decimals x ≡ true → (eqb x.kind kind ≡ true) × (bytes_eq x.owner.head head ≡ true)
owned-parts kind head amount x e =
    let money = and_parts (eqb x.kind kind && bytes_eq x.owner.head head && is_same_ccy x.ccy amount.ccy) (eqb x.decimals amount.decimals) e in
    let bank = and_parts (eqb x.kind kind && bytes_eq x.owner.head head) (is_same_ccy x.ccy amount.ccy) money.0 in
    and_parts (eqb x.kind kind) (bytes_eq x.owner.head head) bank.0

-- what an account of a kind has that was found for an amount
pub record IsFound (kind : ℕ) (amount : Amount) (chart : Chart) (n : AcctNo) : Type 0 where
  pub fit : (x : Account) → account_at chart n.0 ≡ Some x → fits_amount amount x ≡ true
  pub kind_is : (x : Account) → account_at chart n.0 ≡ Some x → x.kind ≡ kind

pub found-is : (kind : ℕ) (bank : Bic) (amount : Amount) (chart : Chart) (n : AcctNo) → account_with kind bank amount chart ≡ Some n → IsFound kind amount chart n
found-is kind bank amount chart n e = record {
  fit = λ x at. owned-fits kind bank.head amount x (passes (is_owned kind bank.head amount.ccy amount.decimals) chart n x e at);
  kind_is = λ x at. eqb-true x.kind kind (owned-parts kind bank.head amount x (passes (is_owned kind bank.head amount.ccy amount.decimals) chart n x e at)).0;
}

-- an account of a kind that isn't that of fees is none of fees
other-kind : (kind : ℕ) (head : List ℕ) (amount : Amount) (x : Account) → kind ≢ fee → is_owned kind head amount.ccy amount.decimals x ≡ true → x.kind ≢ fee
other-kind kind head amount x other e = λ is. other (sym (eqb-true x.kind kind (owned-parts kind head amount x e).0) ∙ is)

vostro-other : vostro ≢ fee
vostro-other e = omega (arith, e)

nostro-other : nostro ≢ fee
nostro-other e = omega (arith, e)

customer-other : customer ≢ fee
customer-other e = omega (arith, e)

owned-own : (kind : ℕ) (bank : Bic) (amount : Amount) (x : Account) → kind ≢ fee → is_owned kind bank.head amount.ccy amount.decimals x ≡ true → IsOwn bank amount x
owned-own kind bank amount x other e =
    record { fit = owned-fits kind bank.head amount x e; kind = other-kind kind bank.head amount x other e; owner = λ _. (bytes_eq-Decides x.owner.head bank.head).0 (owned-parts kind bank.head amount x e).1 }

not-vostro : (kind : ℕ) → eqb kind nostro ≡ true → kind ≡ vostro → ⊥
not-vostro kind e same = let false_is : eqb vostro nostro ≡ true = subst (λ (k : ℕ). eqb k nostro ≡ true) same e in cc false_is

-- a nostro account may be another bank's
nostro-own : (sender bank : Bic) (amount : Amount) (x : Account) → is_owned nostro bank.head amount.ccy amount.decimals x ≡ true → IsOwn sender amount x
nostro-own sender bank amount x e =
    record { fit = owned-fits nostro bank.head amount x e; kind = other-kind nostro bank.head amount x nostro-other e; owner = λ same. absurd (not-vostro x.kind (owned-parts nostro bank.head amount x e).0 same) }

either-own : (sender : Bic) (amount : Amount) (x : Account) (a b : Bool) → (a ≡ true → IsOwn sender amount x) → (b ≡ true → IsOwn sender amount x) → (a || b) ≡ true → IsOwn sender amount x
either-own sender amount x true b f g e = f refl
either-own sender amount x false b f g e = g e

relation-own : (sender : Bic) (amount : Amount) (x : Account) → serves (wanted.Relation sender) amount x ≡ true → IsOwn sender amount x
relation-own sender amount x e =
    either-own sender amount x (is_owned vostro sender.head amount.ccy amount.decimals x) (is_owned nostro sender.head amount.ccy amount.decimals x)
    (owned-own vostro sender amount x vostro-other) (owned-own nostro sender amount x nostro-other) e

-- ---- the account that is debited

either-of : {A : Type 0} (P : A → Type 0) (a b : Option A) (x : A) → ((y : A) → a ≡ Some y → P y) → ((y : A) → b ≡ Some y → P y) → option_or a b ≡ Some x → P x
either-of P (Some y) b x f g e = f x e
either-of P None b x f g e = g x e

relation-debit : (sender : Bic) (amount : Amount) (chart : Chart) (n : AcctNo) → relation_of sender amount chart ≡ Ok n → AccountIs chart (IsOwn sender amount) n
relation-debit sender amount chart n e =
    either-of (AccountIs chart (IsOwn sender amount)) (account_with vostro sender amount chart) (account_with nostro sender amount chart) n
    (λ m is x at. owned-own vostro sender amount x vostro-other (passes (is_owned vostro sender.head amount.ccy amount.decimals) chart m x is at))
    (λ m is x at. owned-own nostro sender amount x nostro-other (passes (is_owned nostro sender.head amount.ccy amount.decimals) chart m x is at))
    (given (option_or (account_with vostro sender amount chart) (account_with nostro sender amount chart)) (code "P31") n e)

bank-debit : (bank sender : Bic) (amount : Amount) (chart : Chart) (n : AcctNo) (related : Bool)
    → cond related (relation_of sender amount chart) (or_fault (account_with nostro bank amount chart) (code "P32")) ≡ Ok n → AccountIs chart (IsOwn sender amount) n
bank-debit bank sender amount chart n true e = relation-debit sender amount chart n e
bank-debit bank sender amount chart n false e =
    let is = given (account_with nostro bank amount chart) (code "P32") n e in
    λ x at. nostro-own sender bank amount x (passes (is_owned nostro bank.head amount.ccy amount.decimals) chart n x is at)

debit-own : (sender : Bic) (amount : Amount) (c : Cover) (chart : Chart) (n : AcctNo) → debit_of sender amount c chart ≡ Ok n → AccountIs chart (IsOwn sender amount) n
debit-own sender amount cover.Relation chart n e = relation-debit sender amount chart n e
debit-own sender amount (cover.Bank bank) chart n e = bank-debit bank sender amount chart n (is_bank bank sender || is_bank bank chart.home) e
debit-own sender amount (cover.Account id) chart n e =
    let is = given (account_named id (wanted.Relation sender) amount chart) (code "P32") n e in
    λ x at. relation-own sender amount x
    (and_parts (has_id id x) (serves (wanted.Relation sender) amount x) (passes (λ y. has_id id y && serves (wanted.Relation sender) amount y) chart n x is at)).1
debit-own sender amount cover.NoBic chart n e = absurd (cc e)

-- ---- the account that is credited, and the bank between

-- the bank between of each instruction stands in the table of banks
abbrev pub KnowsVia : Tables → SsiRow → Type 0
KnowsVia t row = IsTrue (knows_via t row.via)

-- a credit's account fits, and the tables hold the head of the bank between
record IsCredit (t : Tables) (amount : Amount) (chart : Chart) (credit : Credit) : Type 0 where
  fit : AccountIs chart (Fits amount) credit.account
  via : IfSome credit.via (λ b. has_head t b.head ≡ true)

named-fit : (id : List ℕ) (w : Wanted) (amount : Amount) (chart : Chart) (n : AcctNo) → account_named id w amount chart ≡ Some n → AccountIs chart (Fits amount) n
named-fit id w amount chart n is = λ x at.
    serves-fits w amount x (and_parts (has_id id x) (serves w amount x) (passes (λ y. has_id id y && serves w amount y) chart n x is at)).1

customer-is : (t : Tables) (account : Option (List ℕ)) (amount : Amount) (chart : Chart) (credit : Credit) → customer_credit account amount chart ≡ Ok credit → IsCredit t amount chart credit
customer-is t account amount chart credit e =
    let id = there account (code "P33") _ credit e in
    let n = there (account_named id.0 wanted.Customer amount chart) (code "P33") _ credit id.2 in
    let same : record { account = n.0; method = None; via = None } ≡ credit = ok-is _ credit n.2 in
    subst (IsCredit t amount chart) same (record { fit = named-fit id.0 wanted.Customer amount chart n.0 n.1; via = tt })

booked-is : (t : Tables) (bank : Bic) (id : List ℕ) (amount : Amount) (chart : Chart) (credit : Credit) → booked_credit bank id amount chart ≡ Ok credit → IsCredit t amount chart credit
booked-is t bank id amount chart credit e =
    let n = there (account_named id (wanted.Vostro bank) amount chart) (code "P36") _ credit e in
    let same : record { account = n.0; method = Some method.Book; via = None } ≡ credit = ok-is _ credit n.2 in
    subst (IsCredit t amount chart) same (record { fit = named-fit id (wanted.Vostro bank) amount chart n.0 n.1; via = tt })

carried-is : (t : Tables) (row : SsiRow) (amount : Amount) (chart : Chart) (credit : Credit) → KnowsVia t row → carried_credit row amount chart ≡ Ok credit → IsCredit t amount chart credit
carried-is t row amount chart credit known e =
    let via = there row.via (code "P36") _ credit e in
    let n = there (account_named row.account (wanted.Nostro via.0) amount chart) (code "P36") _ credit via.2 in
    let head = subst (λ (o : Option Bic). IsTrue (knows_via t o)) via.1 known in
    let same : record { account = n.0; method = Some row.method; via = Some via.0 } ≡ credit = ok-is _ credit n.2 in
    subst (IsCredit t amount chart) same (record { fit = named-fit row.account (wanted.Nostro via.0) amount chart n.0 n.1; via = head })

instructed-is : (t : Tables) (m : Method) (bank : Bic) (row : SsiRow) (amount : Amount) (chart : Chart) (credit : Credit) → KnowsVia t row → credit_by m bank row amount chart ≡ Ok credit → IsCredit t amount chart credit
instructed-is t method.Book bank row amount chart credit known e = booked-is t bank row.account amount chart credit e
instructed-is t method.Serial bank row amount chart credit known e = carried-is t row amount chart credit known e
instructed-is t method.Cover bank row amount chart credit known e = carried-is t row amount chart credit known e

-- what each has is had by the one that is found
find-has : {A : Type 0} (P : A → Type 0) (test : A → Bool) (xs : List A) (x : A) → All P xs → find test xs ≡ Some x → P x
find-has P test [] x each e = absurd (cc e)
find-has P test (y ∷ ys) x each e =
    elim (test y) as (λ b. cond b (Some y) (find test ys) ≡ Some x → P x) [
      | true ↦ λ h. subst P (same_Some _ _ h) (All-head P y ys each)
      | false ↦ λ h. find-has P test ys x (All-tail P y ys each) h
    ] e

first-has : {A : Type 0} (P : A → Type 0) (a b c : Option A) (x : A) → ((y : A) → a ≡ Some y → P y) → ((y : A) → b ≡ Some y → P y) → ((y : A) → c ≡ Some y → P y)
    → first_of (a ∷ b ∷ c ∷ []) ≡ Some x → P x
first-has P (Some y) b c x f g h e = f x e
first-has P None (Some y) c x f g h e = g x e
first-has P None None (Some y) x f g h e = h x e
first-has P None None None x f g h e = absurd (cc e)

instruction-has : (P : SsiRow → Type 0) (rows : List SsiRow) (amount : Amount) (bank : Bic) (day : Day) (row : SsiRow) → All P rows → instruction_at rows amount.ccy bank day ≡ Some row → P row
instruction-has P rows amount bank day row each e =
    let now = filter (is_in_force amount.ccy day) rows in
    let kept = All-filter (is_in_force amount.ccy day) P rows each in
    let one : (text : List ℕ) (y : SsiRow) → naming text now ≡ Some y → P y = λ text y is. find-has P (λ r. bytes_eq text r.bank) now y kept is in
    first-has P (naming (bank.head ++ bank.branch) now) (naming bank.head now) (naming any_bank now) row (one (bank.head ++ bank.branch)) (one bank.head) (one any_bank) e

credit-is : (t : Tables) (amount : Amount) (value : Day) (aim : Target) (rows : List SsiRow) (chart : Chart) (credit : Credit) → All (KnowsVia t) rows
    → credit_of amount value aim rows chart ≡ Ok credit → IsCredit t amount chart credit
credit-is t amount value (target.Customer account) rows chart credit known e = customer-is t account amount chart credit e
credit-is t amount value (target.Bank bank field) rows chart credit known e =
    let row = there (instruction_at rows amount.ccy bank value) (code "P30") _ credit e in
    instructed-is t row.0.method bank row.0 amount chart credit (instruction-has (KnowsVia t) rows amount bank value row.0 known row.1) row.2
credit-is t amount value target.NoBic rows chart credit known e = absurd (cc e)

-- ---- the route

-- what a route for an amount of this sender rests on
pub record IsRouted (t : Tables) (sender : Bic) (amount : Amount) (chart : Chart) (routed : Routed) : Type 0 where
  pub debit : (x : Account) → account_at chart routed.debit.0 ≡ Some x → fits_amount amount x ≡ true
  pub credit : (x : Account) → account_at chart routed.credit.0 ≡ Some x → fits_amount amount x ≡ true
  pub owner : (x : Account) → account_at chart routed.debit.0 ≡ Some x → x.kind ≡ vostro → x.owner.head ≡ sender.head
  pub via : IfSome routed.via (λ b. has_head t b.head ≡ true)

-- each route is so where the banks between of the instructions are known
pub route-is : (t : Tables) (sender : Bic) (amount : Amount) (value : Day) (c : Cover) (aim : Target) (rows : List SsiRow) (chart : Chart) (routed : Routed) → All (KnowsVia t) rows
    → route_of sender amount value c aim rows chart ≡ Ok routed → IsRouted t sender amount chart routed
unfolding route_of
route-is t sender amount value c aim rows chart routed known e =
    let debit = read-then (debit_of sender amount c chart) _ routed e in
    let credit = read-then (credit_of amount value aim rows chart) _ routed debit.2 in
    let last = checked (not (debit.0.0 == credit.0.account.0)) (code "P38") _ routed credit.2 in
    let own = debit-own sender amount c chart debit.0 debit.1 in
    let is = credit-is t amount value aim rows chart credit.0 known credit.1 in
    let same : record { debit = debit.0; credit = credit.0.account; method = credit.0.method; via = credit.0.via } ≡ routed = ok-is _ routed last in
    subst (IsRouted t sender amount chart) same (record {
      debit = λ x at. (own x at).fit;
      credit = is.fit;
      owner = λ x at. (own x at).owner;
      via = is.via;
    })

-- ---- no account of a route is one of fees

serves-other : (w : Wanted) (amount : Amount) (x : Account) → serves w amount x ≡ true → x.kind ≢ fee
serves-other wanted.Customer amount x e =
    λ is. customer-other (sym (eqb-true x.kind customer (and_parts (eqb x.kind customer) (fits_amount amount x) e).0) ∙ is)
serves-other (wanted.Relation bank) amount x e = (relation-own bank amount x e).kind
serves-other (wanted.Vostro bank) amount x e = other-kind vostro bank.head amount x vostro-other e
serves-other (wanted.Nostro bank) amount x e = other-kind nostro bank.head amount x nostro-other e

-- an account is none of fees
abbrev IsOther : Account → Type 0
IsOther x = x.kind ≢ fee

named-other : (id : List ℕ) (w : Wanted) (amount : Amount) (chart : Chart) (n : AcctNo) → account_named id w amount chart ≡ Some n → AccountIs chart IsOther n
named-other id w amount chart n is = λ x at.
    serves-other w amount x (and_parts (has_id id x) (serves w amount x) (passes (λ y. has_id id y && serves w amount y) chart n x is at)).1

abbrev CreditIsOther : Chart → Credit → Type 0
CreditIsOther chart credit = AccountIs chart IsOther credit.account

customer-credit : (account : Option (List ℕ)) (amount : Amount) (chart : Chart) (credit : Credit) → customer_credit account amount chart ≡ Ok credit → CreditIsOther chart credit
customer-credit account amount chart credit e =
    let id = there account (code "P33") _ credit e in
    let n = there (account_named id.0 wanted.Customer amount chart) (code "P33") _ credit id.2 in
    subst (CreditIsOther chart) (ok-is _ credit n.2) (named-other id.0 wanted.Customer amount chart n.0 n.1)

booked-credit : (bank : Bic) (id : List ℕ) (amount : Amount) (chart : Chart) (credit : Credit) → booked_credit bank id amount chart ≡ Ok credit → CreditIsOther chart credit
booked-credit bank id amount chart credit e =
    let n = there (account_named id (wanted.Vostro bank) amount chart) (code "P36") _ credit e in
    subst (CreditIsOther chart) (ok-is _ credit n.2) (named-other id (wanted.Vostro bank) amount chart n.0 n.1)

carried-credit : (row : SsiRow) (amount : Amount) (chart : Chart) (credit : Credit) → carried_credit row amount chart ≡ Ok credit → CreditIsOther chart credit
carried-credit row amount chart credit e =
    let via = there row.via (code "P36") _ credit e in
    let n = there (account_named row.account (wanted.Nostro via.0) amount chart) (code "P36") _ credit via.2 in
    subst (CreditIsOther chart) (ok-is _ credit n.2) (named-other row.account (wanted.Nostro via.0) amount chart n.0 n.1)

instructed-credit : (m : Method) (bank : Bic) (row : SsiRow) (amount : Amount) (chart : Chart) (credit : Credit) → credit_by m bank row amount chart ≡ Ok credit → CreditIsOther chart credit
instructed-credit method.Book bank row amount chart credit e = booked-credit bank row.account amount chart credit e
instructed-credit method.Serial bank row amount chart credit e = carried-credit row amount chart credit e
instructed-credit method.Cover bank row amount chart credit e = carried-credit row amount chart credit e

other-credit : (amount : Amount) (value : Day) (aim : Target) (rows : List SsiRow) (chart : Chart) (credit : Credit) → credit_of amount value aim rows chart ≡ Ok credit → CreditIsOther chart credit
other-credit amount value (target.Customer account) rows chart credit e = customer-credit account amount chart credit e
other-credit amount value (target.Bank bank field) rows chart credit e =
    let row = there (instruction_at rows amount.ccy bank value) (code "P30") _ credit e in
    instructed-credit row.0.method bank row.0 amount chart credit row.2
other-credit amount value target.NoBic rows chart credit e = absurd (cc e)

-- the accounts that a route has are none of fees
pub record AreNoFees (chart : Chart) (routed : Routed) : Type 0 where
  pub debit : (x : Account) → account_at chart routed.debit.0 ≡ Some x → x.kind ≢ fee
  pub credit : (x : Account) → account_at chart routed.credit.0 ≡ Some x → x.kind ≢ fee

pub route-no-fees : (sender : Bic) (amount : Amount) (value : Day) (c : Cover) (aim : Target) (rows : List SsiRow) (chart : Chart) (routed : Routed)
    → route_of sender amount value c aim rows chart ≡ Ok routed → AreNoFees chart routed
unfolding route_of
route-no-fees sender amount value c aim rows chart routed e =
    let debit = read-then (debit_of sender amount c chart) _ routed e in
    let credit = read-then (credit_of amount value aim rows chart) _ routed debit.2 in
    let last = checked (not (debit.0.0 == credit.0.account.0)) (code "P38") _ routed credit.2 in
    let own = debit-own sender amount c chart debit.0 debit.1 in
    let same : record { debit = debit.0; credit = credit.0.account; method = credit.0.method; via = credit.0.via } ≡ routed = ok-is _ routed last in
    subst (AreNoFees chart) same (record { debit = λ x at. (own x at).kind; credit = other-credit amount value aim rows chart credit.0 credit.1 })
