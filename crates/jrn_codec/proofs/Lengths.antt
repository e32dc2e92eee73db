-- How long records and headers are at most.
use Rattle.std.proofs.Common.{◌≡◌, ℕ, suc, ◌+◌, ◌*◌, ◌≤◌, Bool, true, false, cond, ltb, List, [], ◌∷◌, ◌++◌, length, take, drop, Option, Some, None, refl, sym, ap, ◌∙◌, arith}
use Rattle.std.specs.Prelude.{IfSome, ℤ, slice_get, option_and_then}
use Rattle.std.specs.List.{AllByRecursion, flat_map}
use Rattle.std.specs.Int.{w16, w32, w64, to_be_bytes}
use Rattle.std.proofs.lemmas.Bool.{ltb-false}
use Rattle.std.proofs.lemmas.Option.{none-some, option_and_then_some, same_Some}
use Rattle.std.proofs.lemmas.List.{append-nil, length-append, length-drop}
use Rattle.std.proofs.lemmas.List.Elements.{recursion_from_All}
use Rattle.corr_ids.specs.Bic.{bic_of, IsBic}
use Rattle.corr_ids.specs.Mir.{mir_of, IsMir}
use Rattle.corr_ids.specs.Uetr.{uetr_of, IsUetr}
use Rattle.corr_ids.specs.declared.bic.Bic.{Bic}
use Rattle.corr_ids.specs.declared.mir.Mir.{Mir}
use Rattle.corr_ids.specs.declared.uetr.Uetr.{Uetr}
use Rattle.corr_ids.specs.declared.day.Day.{Day}
use Rattle.day_model.specs.declared.pay.Leg.{Leg}
use Rattle.day_model.specs.declared.pay.Quote.{Quote}
use Rattle.day_model.specs.declared.pay.Quote.TheVariants.{Ours, Theirs}
use Rattle.day_model.specs.declared.pay.Order.{Order}
use Rattle.day_model.specs.declared.pay.Order.TheVariants as order
use Rattle.day_model.specs.declared.pay.Pay.{Pay}
use Rattle.day_model.specs.declared.entry.Outcome.{Outcome}
use Rattle.day_model.specs.declared.entry.Outcome.TheVariants.{Booked, Unfunded}
use Rattle.day_model.specs.declared.entry.Entry.{Entry}
use Rattle.day_model.specs.declared.account.Account.{Account}
use Rattle.day_model.specs.declared.change.What.{What}
use Rattle.day_model.specs.declared.change.What.TheVariants.{Opened, Limits}
use Rattle.day_model.specs.Chart.{Chart, HasCode, IsFormed}
use Rattle.day_model.specs.Shape.{HasShape, IsLeg, IsOrder, IsQuote}
use Rattle.jrn_codec.specs.Spelling.{signed_bytes, bic_bytes, short_bytes, optional_bytes, long_bytes, listed_bytes}
use Rattle.jrn_codec.specs.Record.{skip_mark, mt_mark, day_bytes, outcome_bytes, quote_bytes, posting_bytes, leg_bytes, order_bytes, stamp_bytes, fate_bytes, front_bytes, back_bytes, entry_bytes, entry_bytes_1}
use Rattle.jrn_codec.specs.Header.{column_bytes, balance_bytes, account_bytes, title_bytes, headed_bytes, IsHead}
use Rattle.jrn_codec.specs.Change.{IsWhat, change_bytes, ends_bytes}
use Rattle.jrn_codec.specs.inner.Reading.{cut, spelled_at}
use Rattle.jrn_codec.proofs.Identifiers.{bic_field, mir_field, uetr_field}
use Rattle.jrn_codec.proofs.Legs.{few_legs}

-- ---- parts one after another

pub long3 : (a b c : List ℕ) → length (a ++ b ++ c) ≡ length a + length b + length c
long3 a b c = rw (length-append (a ++ b) c, length-append a b) refl

pub long4 : (a b c d : List ℕ) → length (a ++ b ++ c ++ d) ≡ length a + length b + length c + length d
long4 a b c d = rw (length-append (a ++ b ++ c) d, long3 a b c) refl

pub long5 : (a b c d e : List ℕ) → length (a ++ b ++ c ++ d ++ e) ≡ length a + length b + length c + length d + length e
long5 a b c d e = rw (length-append (a ++ b ++ c ++ d) e, long4 a b c d) refl

-- so many parts, each of which is short
all_short : {A : Type 0} (spell : A → List ℕ) (most : ℕ) (P : A → Type 0) → ((x : A) → P x → length (spell x) ≤ most) → (xs : List A) → AllByRecursion P xs
    → length (flat_map spell xs) ≤ length xs * most
all_short spell most P short [] h = omega arith
all_short spell most P short (x ∷ xs) h = omega (arith, length-append (spell x) (flat_map spell xs), short x h.0, all_short spell most P short xs h.1)

-- ---- identifiers

-- a test that didn't hold, and what was taken then
taken : (b : Bool) (x y : List ℕ × List ℕ) → cond b None (Some x) ≡ Some y → (b ≡ false) × (x ≡ y)
taken true x y e = absurd cc
taken false x y e = (refl, cc)

-- a cut that leaves nothing took n bytes
cut_all : (n : ℕ) (bytes text : List ℕ) → cut n bytes ≡ Some (text, []) → length bytes ≡ n
cut_all n bytes text e =
    let t = taken (ltb (length bytes) n) (take n bytes, drop n bytes) (text, []) e in
    let long : n ≤ length bytes = ltb-false _ _ t.0 in
    let rest : drop n bytes ≡ [] = ap (λ (p : List ℕ × List ℕ). p.1) t.1 in
    omega (arith, long, length-drop n bytes, ap length rest)

-- what n bytes spell has n bytes
spelled_long : {A : Type 0} (n : ℕ) (value : List ℕ → Option A) (bytes : List ℕ) (x : A) → spelled_at n value bytes ≡ Some (x, []) → length bytes ≡ n
unfolding spelled_at
spelled_long {A} n value bytes x e =
    option_and_then_some (λ part. option_and_then (λ (y : A). Some (y, part.1)) (value part.0)) (cut n bytes) (x, []) e (λ part is on.
    option_and_then_some (λ (y : A). Some (y, part.1)) (value part.0) (x, []) on (λ y has last.
    let rest : part.1 ≡ [] = ap (λ (p : A × List ℕ). p.1) (same_Some (y, part.1) (x, []) last) in
    cut_all n bytes part.0 (is ∙ ap (λ (s : List ℕ). Some (part.0, s)) rest)))

pub bic_long : (b : Bic) → IsBic b → length (bic_bytes b) ≡ 11
bic_long b h = spelled_long 11 bic_of (bic_bytes b) b (ap (spelled_at 11 bic_of) (sym (append-nil (bic_bytes b))) ∙ bic_field.again b [] h)

pub mir_long : (m : Mir) → IsMir m → length m.0 ≡ 28
mir_long m h = spelled_long 28 mir_of m.0 m (ap (spelled_at 28 mir_of) (sym (append-nil m.0)) ∙ mir_field.again m [] h)

pub uetr_long : (u : Uetr) → IsUetr u → length u.0 ≡ 36
uetr_long u h = spelled_long 36 uetr_of u.0 u (ap (spelled_at 36 uetr_of) (sym (append-nil u.0)) ∙ uetr_field.again u [] h)

-- ---- the front

uetr_short : (uetr : Option Uetr) → IfSome uetr IsUetr → length (optional_bytes (λ u. u.0) uetr) ≤ 37
uetr_short None h = omega arith
uetr_short (Some u) h = omega (arith, uetr_long u h)

pub signed64_long : (n : ℤ) → length (signed_bytes w64 n) ≡ 8
unfolding signed_bytes
signed64_long n = refl

pub day_long : (d : Day) → length (day_bytes d) ≡ 4
unfolding signed_bytes
day_long d = refl

pub outcome_short : (o : Outcome) → length (outcome_bytes o) ≤ 10
outcome_short Booked = omega arith
outcome_short (Unfunded leg balance) = omega (arith, signed64_long balance)

stamp_short : (pay : Pay) → HasShape pay → length (stamp_bytes pay.mir pay.mt pay.uetr) ≤ 66
unfolding stamp_bytes
stamp_short pay h =
    let uetr : List ℕ = optional_bytes (λ (u : Uetr). u.0) pay.uetr in
    let mark : List ℕ = mt_mark pay.mt ∷ [] in
    let whole : length (stamp_bytes pay.mir pay.mt pay.uetr) ≡ length pay.mir.0 + length mark + length uetr = long3 pay.mir.0 mark uetr in
    let one : length mark ≡ 1 = refl in
    omega (arith, whole, one, mir_long pay.mir h.mir, uetr_short pay.uetr h.uetr)

fate_short : (day value : Day) (o : Outcome) → length (fate_bytes day value o) ≤ 18
unfolding fate_bytes
fate_short day value o =
    let whole : length (fate_bytes day value o) ≡ length (day_bytes day) + length (day_bytes value) + length (outcome_bytes o) = long3 (day_bytes day) (day_bytes value) (outcome_bytes o) in
    omega (arith, whole, day_long day, day_long value, outcome_short o)

-- ---- the lists

pub quote_short : (q : Quote) → IsQuote q → length (quote_bytes q) ≤ 18
quote_short (Theirs text) h = omega (arith, h.short)
quote_short (Ours k) h = omega arith

pub posting_long : (leg : Leg) → length (posting_bytes leg) ≡ 11
unfolding posting_bytes
posting_long leg = refl

leg_short : (leg : Leg) → IsLeg leg → length (leg_bytes leg) ≤ 29
unfolding leg_bytes
leg_short leg h =
    let whole : length (leg_bytes leg) ≡ length (posting_bytes leg) + length (quote_bytes leg.quote) = length-append (posting_bytes leg) (quote_bytes leg.quote) in
    omega (arith, whole, posting_long leg, quote_short leg.quote h.quote)

pub via_short : (via : Option Bic) → IfSome via IsBic → length (optional_bytes bic_bytes via) ≤ 12
via_short None h = omega arith
via_short (Some b) h = omega (arith, bic_long b h)

-- a kind, a bank, and one byte that the kind adds
pub noticed_long : (kind : ℕ) (to : Bic) (last : ℕ) → IsBic to → length (kind ∷ [] ++ bic_bytes to ++ last ∷ []) ≡ 13
noticed_long kind to last h = omega (arith, long3 (kind ∷ []) (bic_bytes to) (last ∷ []), bic_long to h)

order_short : (legs : ℕ) (o : Order) → IsOrder legs o → length (order_bytes o) ≤ 25
order_short legs (order.Transfer to skip via) h =
    omega (arith, long4 (1 ∷ []) (bic_bytes to) (skip_mark skip ∷ []) (optional_bytes bic_bytes via), bic_long to h.0, via_short via h.1)
order_short legs (order.Cover to end skip) h =
    omega (arith, long4 (2 ∷ []) (bic_bytes to) (bic_bytes end) (skip_mark skip ∷ []), bic_long to h.0, bic_long end h.1)
order_short legs (order.Pass to skip) h = omega (arith, noticed_long 3 to (skip_mark skip) h)
order_short legs (order.Debit to leg) h = omega (arith, noticed_long 4 to leg h.0)
order_short legs (order.Credit to leg) h = omega (arith, noticed_long 5 to leg h.0)

legs_short : (pay : Pay) → HasShape pay → length (listed_bytes leg_bytes pay.legs) ≤ 88
legs_short pay h =
    let each = all_short leg_bytes 29 IsLeg leg_short pay.legs (recursion_from_All IsLeg pay.legs h.each_leg) in
    omega (arith, each, few_legs pay.legs h.legs)

orders_short : (pay : Pay) → HasShape pay → length (listed_bytes order_bytes pay.orders) ≤ length pay.orders * 25 + 1
orders_short pay h =
    let fits = IsOrder (length pay.legs) in
    let each = all_short order_bytes 25 fits (order_short (length pay.legs)) pay.orders (recursion_from_All fits pay.orders h.each_order) in
    omega (arith, each)

pub text_long : (text : List ℕ) → length (long_bytes text) ≡ length text + 4
unfolding long_bytes
text_long text =
    let count : List ℕ = to_be_bytes w32 (length text) in
    let whole : length (long_bytes text) ≡ length count + length text = length-append count text in
    let four : length count ≡ 4 = refl in
    omega (arith, whole, four)

-- ---- an entry

-- the parts of a record that have no fixed length
pub entry_long : (e : Entry) → IsMir e.pay.mir → length (entry_bytes e)
    ≡ 44 + length (optional_bytes (λ (u : Uetr). u.0) e.pay.uetr) + length (outcome_bytes e.outcome) + length (flat_map leg_bytes e.pay.legs) + length (flat_map order_bytes e.pay.orders) + length e.pay.text
unfolding stamp_bytes fate_bytes
entry_long e mir =
    let uetr : List ℕ = optional_bytes (λ (u : Uetr). u.0) e.pay.uetr in
    let mark : List ℕ = mt_mark e.pay.mt ∷ [] in
    let stamp : length (stamp_bytes e.pay.mir e.pay.mt e.pay.uetr) ≡ length e.pay.mir.0 + length mark + length uetr = long3 e.pay.mir.0 mark uetr in
    let one : length mark ≡ 1 = refl in
    let fate : length (fate_bytes e.day e.pay.value e.outcome) ≡ length (day_bytes e.day) + length (day_bytes e.pay.value) + length (outcome_bytes e.outcome) =
    long3 (day_bytes e.day) (day_bytes e.pay.value) (outcome_bytes e.outcome) in
    let legs : List ℕ = listed_bytes leg_bytes e.pay.legs in
    let orders : List ℕ = listed_bytes order_bytes e.pay.orders in
    let front : length (front_bytes e) ≡ length (stamp_bytes e.pay.mir e.pay.mt e.pay.uetr) + length (fate_bytes e.day e.pay.value e.outcome) =
    length-append (stamp_bytes e.pay.mir e.pay.mt e.pay.uetr) (fate_bytes e.day e.pay.value e.outcome) in
    let back : length (back_bytes e) ≡ length legs + length orders + length (long_bytes e.pay.text) = long3 legs orders (long_bytes e.pay.text) in
    let whole : length (entry_bytes_1 e) ≡ length (front_bytes e) + length (back_bytes e) = length-append (front_bytes e) (back_bytes e) in
    omega (arith, whole, front, back, stamp, one, fate, mir_long e.pay.mir mir, day_long e.day, day_long e.pay.value, text_long e.pay.text)

pub unfunded_long : (leg : ℕ) (balance : ℤ) → length (outcome_bytes (Unfunded leg balance)) ≡ 10
unfunded_long leg balance = omega (arith, signed64_long balance)

pub some_uetr_long : (uetr : Option Uetr) (u : Uetr) → IfSome uetr IsUetr → uetr ≡ Some u → 37 ≡ length (optional_bytes (λ (x : Uetr). x.0) uetr)
some_uetr_long None u h e = absurd (none-some u e)
some_uetr_long (Some v) u h e = omega (arith, uetr_long v h)

pub some_via_long : (via : Option Bic) (b : Bic) → IfSome via IsBic → via ≡ Some b → 12 ≡ length (optional_bytes bic_bytes via)
some_via_long None b h e = absurd (none-some b e)
some_via_long (Some v) b h e = omega (arith, bic_long v h)

pub leg_long : (leg : Leg) → length (leg_bytes leg) ≡ 11 + length (quote_bytes leg.quote)
unfolding leg_bytes
leg_long leg =
    let whole : length (leg_bytes leg) ≡ length (posting_bytes leg) + length (quote_bytes leg.quote) = length-append (posting_bytes leg) (quote_bytes leg.quote) in
    omega (arith, whole, posting_long leg)

-- how many bytes an order has
abbrev pub order_length : Order → ℕ
order_length (order.Transfer to skip via) = 13 + length (optional_bytes bic_bytes via)
order_length (order.Cover to end skip) = 24
order_length (order.Pass to skip) = 13
order_length (order.Debit to leg) = 13
order_length (order.Credit to leg) = 13

pub order_long : (legs : ℕ) (o : Order) → IsOrder legs o → length (order_bytes o) ≡ order_length o
order_long legs (order.Transfer to skip via) h =
    omega (arith, long4 (1 ∷ []) (bic_bytes to) (skip_mark skip ∷ []) (optional_bytes bic_bytes via), bic_long to h.0)
order_long legs (order.Cover to end skip) h =
    omega (arith, long4 (2 ∷ []) (bic_bytes to) (bic_bytes end) (skip_mark skip ∷ []), bic_long to h.0, bic_long end h.1)
order_long legs (order.Pass to skip) h = noticed_long 3 to (skip_mark skip) h
order_long legs (order.Debit to leg) h = noticed_long 4 to leg h.0
order_long legs (order.Credit to leg) h = noticed_long 5 to leg h.0

-- the sum of the parts' lengths
pub record_long : (e : Entry) (u o l r t : ℕ) → HasShape e.pay → u ≡ length (optional_bytes (λ (x : Uetr). x.0) e.pay.uetr) → o ≡ length (outcome_bytes e.outcome)
    → l ≡ length (flat_map leg_bytes e.pay.legs) → r ≡ length (flat_map order_bytes e.pay.orders) → t ≡ length e.pay.text → 44 + (u + o) + (l + r) + t ≡ length (entry_bytes e)
record_long e u o l r t h a b c d f = omega (arith, entry_long e h.mir, a, b, c, d, f)

-- an entry's record: its text, its orders, and what else there is
pub entry_within : (e : Entry) → HasShape e.pay → length (entry_bytes e) ≤ length e.pay.text + length e.pay.orders * 25 + 178
entry_within e h =
    let stamp : List ℕ = stamp_bytes e.pay.mir e.pay.mt e.pay.uetr in
    let fate : List ℕ = fate_bytes e.day e.pay.value e.outcome in
    let legs : List ℕ = listed_bytes leg_bytes e.pay.legs in
    let orders : List ℕ = listed_bytes order_bytes e.pay.orders in
    let text : List ℕ = long_bytes e.pay.text in
    let front : length (front_bytes e) ≡ length stamp + length fate = length-append stamp fate in
    let back : length (back_bytes e) ≡ length legs + length orders + length text = long3 legs orders text in
    let whole : length (entry_bytes_1 e) ≡ length (front_bytes e) + length (back_bytes e) = length-append (front_bytes e) (back_bytes e) in
    let a : length stamp ≤ 66 = stamp_short e.pay h in
    let b : length fate ≤ 18 = fate_short e.day e.pay.value e.outcome in
    let c : length legs ≤ 88 = legs_short e.pay h in
    let d : length orders ≤ length e.pay.orders * 25 + 1 = orders_short e.pay h in
    let f : length text ≡ length e.pay.text + 4 = text_long e.pay.text in
    omega (arith, whole, front, back, a, b, c, d, f)

-- with a text of 32,768 bytes and 255 orders
pub entry_short : (e : Entry) → HasShape e.pay → length (entry_bytes e) ≤ 39321
entry_short e h = omega (arith, entry_within e h, h.text, h.few_orders)

-- ---- a header

-- an account whose columns have their forms
abbrev IsRow : Account → Type 0
IsRow a = IsFormed a × HasCode a

account_short : (a : Account) → IsRow a → length (account_bytes a) ≤ 75
unfolding account_bytes
account_short a row =
    let columns : length (column_bytes a) ≡ length (short_bytes a.id) + length (a.kind ∷ []) + length (bic_bytes a.owner) + length a.ccy.0 + length (a.decimals ∷ []) =
    long5 (short_bytes a.id) (a.kind ∷ []) (bic_bytes a.owner) a.ccy.0 (a.decimals ∷ []) in
    let balances : length (balance_bytes a) ≡ length (signed_bytes w64 a.floor) + length (signed_bytes w64 a.ceil) + length (signed_bytes w64 a.opening) =
    long3 (signed_bytes w64 a.floor) (signed_bytes w64 a.ceil) (signed_bytes w64 a.opening) in
    let whole : length (account_bytes a) ≡ length (column_bytes a) + length (balance_bytes a) = length-append (column_bytes a) (balance_bytes a) in
    omega (arith, whole, columns, balances, bic_long a.owner row.0.owner, row.0.id_short, row.1, signed64_long a.floor, signed64_long a.ceil, signed64_long a.opening)

are_rows : (accounts : List Account) → ((i : ℕ) (a : Account) → slice_get accounts i ≡ Some a → IsFormed a) → AllByRecursion HasCode accounts → AllByRecursion IsRow accounts
are_rows [] h codes = tt
are_rows (a ∷ accounts) h codes = ((h 0 a refl, codes.0), are_rows accounts (λ i x e. h (suc i) x e) codes.1)

-- a header: at most 1,000 accounts
pub head_short : (version : List ℕ) (chart : Chart) → length version ≡ 6 → IsHead chart → length (headed_bytes version chart) ≤ 75019
unfolding title_bytes
head_short version chart six h =
    let rows = are_rows chart.first (λ i a e. h.book.first.apart.formed i a e) (recursion_from_All HasCode chart.first h.codes) in
    let each = all_short account_bytes 75 IsRow account_short chart.first rows in
    let count : List ℕ = to_be_bytes w16 (length chart.first) in
    let start : List ℕ = title_bytes version chart.home (length chart.first) in
    let title : length start ≡ length version + length (bic_bytes chart.home) + length count = long3 version (bic_bytes chart.home) count in
    let two : length count ≡ 2 = refl in
    let whole : length (headed_bytes version chart) ≡ length start + length (flat_map account_bytes chart.first) = length-append start (flat_map account_bytes chart.first) in
    omega (arith, whole, title, two, six, each, bic_long chart.home h.home, h.book.first.apart.few)

-- ---- a change

ends_long : (n : ℕ) (floor ceil : ℤ) → length (ends_bytes n floor ceil) ≡ 18
unfolding ends_bytes
ends_long n floor ceil =
    let whole : length (ends_bytes n floor ceil) ≡ length (to_be_bytes w16 n) + length (signed_bytes w64 floor) + length (signed_bytes w64 ceil) =
    long3 (to_be_bytes w16 n) (signed_bytes w64 floor) (signed_bytes w64 ceil) in
    let two : length (to_be_bytes w16 n) ≡ 2 = refl in
    omega (arith, whole, two, signed64_long floor, signed64_long ceil)

pub change_short : (what : What) → IsWhat what → length (change_bytes what) ≤ 77
change_short (Opened account) is = omega (arith, account_short account (is.formed, is.code))
change_short (Limits n floor ceil) is = omega (arith, ends_long n.0 floor ceil)
