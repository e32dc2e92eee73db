-- The tags of entries.
use Rattle.std.proofs.Common.{◌≡◌, ℕ, zero, suc, ◌+◌, ◌-◌, ◌<◌, ◌≤◌, Bool, true, false, cond, not, List, [], ◌∷◌, ◌++◌, Option, Some, None, drop, length, take, refl, sym, ap, ◌∙◌, subst, arith, inl, inr, length-append, append_assoc}
use Rattle.std.specs.Prelude.{◌⊎◌, is_some, nat_le, option_and_then, slice_get}
use Rattle.std.proofs.lemmas.Bool.{and_parts, cases_Bool, le-leb, leb-true, lt-leb}
use Rattle.std.proofs.lemmas.List.{append-nil, length-take, take-append-drop, take-take, take_more}
use Rattle.std.proofs.lemmas.Option.{get_or_from_slice_get, none-some, same_Some, slice_get_cases, slice_get_past, slice_get_within}
use Rattle.day_model.specs.Balance.{is_booked}
use Rattle.day_model.specs.Chart.{Chart}
use Rattle.day_model.specs.declared.entry.Entry.{Entry}
use Rattle.day_model.specs.declared.pay.Pay.{Pay}
use Rattle.day_model.proofs.laws.Slices.{front_get, push_last}
use Rattle.pay_returns.specs.Equal.{is_equal}
use Rattle.pay_returns.specs.Laws.{ReturnsLater, ReturnsOnce, TaggedMore}
use Rattle.pay_returns.specs.Opposite.{opposite_of, return_mir}
use Rattle.pay_returns.specs.Returns.{Tags, at_place, is_opposite, is_payment, named_place, next_tag, opposed_at, opposed_by, payment_at, returns_place, tag_at, tagged_of, tags_from}
use Rattle.pay_returns.specs.inner.Returns.{opposed_before}
use Rattle.pay_returns.proofs.laws.Equality.{equal-decides}

module _ (chart : Chart) where
  -- the tags of some entries, then of others
  pub tags-append : (before : List Entry) (tags : Tags) (front back : List Entry) → tags_from chart before tags (front ++ back) ≡ tags_from chart (before ++ front) (tags_from chart before tags front) back
  tags-append before tags [] back = ap (λ (es : List Entry). tags_from chart es tags back) (sym (append-nil before))
  tags-append before tags (entry ∷ front) back =
      let more : Tags = tags ++ next_tag chart before tags entry.pay ∷ [] in
      tags-append (before ++ entry ∷ []) more front back
      ∙ ap (λ (es : List Entry). tags_from chart es (tags_from chart (before ++ entry ∷ []) more front) back) (append_assoc before (entry ∷ []) front)

  tags-size : (before : List Entry) (tags : Tags) (entries : List Entry) → length (tags_from chart before tags entries) ≡ length tags + length entries
  tags-size before tags [] = omega arith
  tags-size before tags (entry ∷ entries) =
      let more : Tags = tags ++ next_tag chart before tags entry.pay ∷ [] in
      let rest = tags-size (before ++ entry ∷ []) more entries in
      let one = length-append tags (next_tag chart before tags entry.pay ∷ []) in
      omega (arith, rest, one)

  -- the tags that are there stay at the front
  tags-front : (before : List Entry) (tags : Tags) (entries : List Entry) (i : ℕ) (tag : Option ℕ) → slice_get tags i ≡ Some tag → slice_get (tags_from chart before tags entries) i ≡ Some tag
  tags-front before tags [] i tag at = at
  tags-front before tags (entry ∷ entries) i tag at =
      let new : Option ℕ = next_tag chart before tags entry.pay in
      tags-front (before ++ entry ∷ []) (tags ++ new ∷ []) entries i tag (front_get tags (new ∷ []) i tag at)

pub tagged-more : TaggedMore
tagged-more chart entries entry = tags-append chart [] [] entries (entry ∷ [])

pub tagged-size : (chart : Chart) (entries : List Entry) → length (tagged_of chart entries) ≡ length entries
tagged-size chart entries = let all = tags-size chart [] [] entries in omega (arith, all)

-- the tags of a front are the front of the tags
pub tagged-front : (chart : Chart) (front back : List Entry) (i : ℕ) (tag : Option ℕ) → slice_get (tagged_of chart front) i ≡ Some tag → slice_get (tagged_of chart (front ++ back)) i ≡ Some tag
tagged-front chart front back i tag at =
    ap (λ (tags : Tags). slice_get tags i) (tags-append chart [] [] front back) ∙ tags-front chart front (tagged_of chart front) back i tag at

-- ---- places

slice_get-take : {A : Type 0} (k : ℕ) (xs : List A) (i : ℕ) (x : A) → i < k → slice_get xs i ≡ Some x → slice_get (take k xs) i ≡ Some x
slice_get-take k [] i x lt at = absurd (none-some x at)
slice_get-take zero (y ∷ xs) i x lt at = absurd (omega (arith, lt))
slice_get-take (suc k) (y ∷ xs) zero x lt at = at
slice_get-take (suc k) (y ∷ xs) (suc i) x lt at = slice_get-take k xs i x (omega (arith, lt)) at

pub at-place : {A : Type 0} (place : ℕ) (xs : List A) (x : A) → 1 ≤ place → slice_get xs (place - 1) ≡ Some x → at_place place xs ≡ Some x
at-place place xs x from at = ap (λ (b : Bool). cond b (slice_get xs (place - 1)) None) (le-leb 1 place from) ∙ at

pub at-some : {A : Type 0} (place : ℕ) (xs : List A) (x : A) → at_place place xs ≡ Some x → (1 ≤ place) × (slice_get xs (place - 1) ≡ Some x)
at-some place xs x at =
    elim (cases_Bool (nat_le 1 place)) [
      | inl met ↦ (leb-true 1 place met, subst (λ (b : Bool). cond b (slice_get xs (place - 1)) None ≡ Some x) met at)
      | inr unmet ↦ absurd (none-some x (subst (λ (b : Bool). cond b (slice_get xs (place - 1)) None ≡ Some x) unmet at))
    ]

-- ---- the tag of an entry

front-and-back : {A : Type 0} (xs : List A) (i : ℕ) (x : A) → slice_get xs i ≡ Some x → (take i xs ++ x ∷ []) ++ drop (i + 1) xs ≡ xs
front-and-back {A = A} xs i x at =
    let lt = slice_get_within xs i x at in
    ap (λ (front : List A). front ++ drop (i + 1) xs) (sym (take_more xs i x lt ∙ ap (λ y. take i xs ++ y ∷ []) (get_or_from_slice_get xs i x x at)))
    ∙ take-append-drop (i + 1) xs

-- an entry's tag is the next one after those of the entries before it
pub tag-is : (chart : Chart) (entries : List Entry) (i : ℕ) (entry : Entry) → slice_get entries i ≡ Some entry
    → slice_get (tagged_of chart entries) i ≡ Some (next_tag chart (take i entries) (tagged_of chart (take i entries)) entry.pay)
tag-is chart entries i entry at =
    let front : List Entry = take i entries in
    let next : Option ℕ = next_tag chart front (tagged_of chart front) entry.pay in
    let lt = slice_get_within entries i entry at in
    let size : length (tagged_of chart front) ≡ i = tagged-size chart front ∙ omega (arith, length-take i entries, lt) in
    let here : slice_get (tagged_of chart (front ++ entry ∷ [])) i ≡ Some next =
    ap (λ (tags : Tags). slice_get tags i) (tagged-more chart front entry) ∙ subst (λ (k : ℕ). slice_get (tagged_of chart front ++ next ∷ []) k ≡ Some next) size (push_last (tagged_of chart front) next) in
    subst (λ (es : List Entry). slice_get (tagged_of chart es) i ≡ Some next) (front-and-back entries i entry at)
    (tagged-front chart (front ++ entry ∷ []) (drop (i + 1) entries) i next here)

-- so is what the entry at a place returns
pub returns-step : (chart : Chart) (entries : List Entry) (r : ℕ) (entry : Entry) → 1 ≤ r → slice_get entries (r - 1) ≡ Some entry
    → returns_place chart entries r ≡ next_tag chart (take (r - 1) entries) (tagged_of chart (take (r - 1) entries)) entry.pay
returns-step chart entries r entry from at =
    ap (option_and_then (λ tag. tag)) (at-place r (tagged_of chart entries) (next_tag chart (take (r - 1) entries) (tagged_of chart (take (r - 1) entries)) entry.pay) from (tag-is chart entries (r - 1) entry at))

-- it is the same in a front that has the place
pub returns-front : (chart : Chart) (entries : List Entry) (k place : ℕ) → 1 ≤ place → place ≤ k → k ≤ length entries → returns_place chart (take k entries) place ≡ returns_place chart entries place
returns-front chart entries k place from le within =
    elim (slice_get_cases entries (place - 1)).1 [
      | inl found ↦
          let here : slice_get (take k entries) (place - 1) ≡ Some found.0 = slice_get-take k entries (place - 1) found.0 (omega (arith, from, le)) found.2 in
          let same : take (place - 1) (take k entries) ≡ take (place - 1) entries = take-take (place - 1) k entries (omega (arith, le)) in
          returns-step chart (take k entries) place found.0 from here
          ∙ ap (λ (es : List Entry). next_tag chart es (tagged_of chart es) found.0.pay) same
          ∙ sym (returns-step chart entries place found.0 from found.2)
      | inr past ↦ absurd (omega (arith, past.0, from, le, within))
    ]

-- ---- what a pay takes back

none-at : {A B : Type 0} (place : ℕ) (xs : List A) (f : A → Option B) → (place ≡ 0) ⊎ (length xs < place) → option_and_then f (at_place place xs) ≡ None
none-at place xs f out =
    elim out [
      | inl nothing ↦ ap (λ (b : Bool). option_and_then f (cond b (slice_get xs (place - 1)) None)) (lt-leb 1 place (omega (arith, nothing)))
      | inr past ↦
          ap (λ (b : Bool). option_and_then f (cond b (slice_get xs (place - 1)) None)) (le-leb 1 place (omega (arith, past)))
          ∙ ap (option_and_then f) (slice_get_past xs (place - 1) (omega (arith, past)))
    ]

module _ (chart : Chart) (entries : List Entry) (r : ℕ) (entry : Entry) (from : 1 ≤ r) (at : slice_get entries (r - 1) ≡ Some entry) where
  before-is : opposed_before chart entries r ≡ opposed_by chart (take (r - 1) entries) entry.pay
  before-is = ap (option_and_then (λ e. opposed_by chart (take (r - 1) entries) e.pay)) (at-place r entries entry from at)

  size : length (take (r - 1) entries) ≡ r - 1
  size = let lt = slice_get_within entries (r - 1) entry at in omega (arith, length-take (r - 1) entries, lt)

  pub opposed-unnamed : named_place entry.pay ≡ None → opposed_before chart entries r ≡ None
  opposed-unnamed none = before-is ∙ ap (option_and_then (opposed_at chart (take (r - 1) entries) entry.pay)) none

  pub opposed-out : (n : ℕ) → named_place entry.pay ≡ Some n → (n ≡ 0) ⊎ (r ≤ n) → opposed_before chart entries r ≡ None
  opposed-out n named out =
      let past : (n ≡ 0) ⊎ (length (take (r - 1) entries) < n) = elim out [
        | inl nothing ↦ inl nothing
        | inr le ↦ inr (omega (arith, size, le, from))
      ] in
      before-is ∙ ap (option_and_then (opposed_at chart (take (r - 1) entries) entry.pay)) named
      ∙ none-at n (take (r - 1) entries) (λ e. cond (is_opposite chart e n entry.pay) (Some n) None) past

  pub opposed-in : (n : ℕ) (origin : Entry) → named_place entry.pay ≡ Some n → 1 ≤ n → n < r → slice_get entries (n - 1) ≡ Some origin
      → opposed_before chart entries r ≡ cond (is_opposite chart origin n entry.pay) (Some n) None
  opposed-in n origin named since before there =
      let here : slice_get (take (r - 1) entries) (n - 1) ≡ Some origin = slice_get-take (r - 1) entries (n - 1) origin (omega (arith, since, before)) there in
      before-is ∙ ap (option_and_then (opposed_at chart (take (r - 1) entries) entry.pay)) named
      ∙ ap (option_and_then (λ e. cond (is_opposite chart e n entry.pay) (Some n) None)) (at-place n (take (r - 1) entries) origin since here)

-- ---- what a place that is opposed tells

-- the entry at place r takes back the entry at a place before it
pub record Took (chart : Chart) (entries : List Entry) (r place : ℕ) : Type 0 where
  pub entry : Entry
  pub from : 1 ≤ r
  pub at : slice_get entries (r - 1) ≡ Some entry
  pub origin : Entry
  pub since : 1 ≤ place
  pub before : place < r
  pub there : slice_get entries (place - 1) ≡ Some origin
  pub opposite : is_opposite chart origin place entry.pay ≡ true

-- what is there where something comes of it
record Given {A B : Type 0} (f : A → Option B) (o : Option A) (y : B) : Type 0 where
  pub it : A
  pub is : o ≡ Some it
  pub gives : f it ≡ Some y

some-of : {A B : Type 0} (f : A → Option B) (o : Option A) (y : B) → option_and_then f o ≡ Some y → Given f o y
some-of f None y e = absurd (none-some y e)
some-of f (Some x) y e = record { it = x; is = refl; gives = e }

if-some : (b : Bool) (n m : ℕ) → cond b (Some n) None ≡ Some m → (b ≡ true) × (n ≡ m)
if-some true n m e = (refl, same_Some n m e)
if-some false n m e = absurd (none-some m e)

in-front : {A : Type 0} (k : ℕ) (xs : List A) (i : ℕ) (x : A) → slice_get (take k xs) i ≡ Some x → (i < k) × (slice_get xs i ≡ Some x)
in-front {A = A} k xs i x at =
    let lt = slice_get_within (take k xs) i x at in
    let size = length-take k xs in
    (omega (arith, lt, size), subst (λ (ys : List A). slice_get ys i ≡ Some x) (take-append-drop k xs) (front_get (take k xs) (drop k xs) i x at))

pub took : (chart : Chart) (entries : List Entry) (r place : ℕ) → opposed_before chart entries r ≡ Some place → Took chart entries r place
took chart entries r place e =
    let outer = some-of (λ entry. opposed_by chart (take (r - 1) entries) entry.pay) (at_place r entries) place e in
    let entry : Entry = outer.it in
    let here = at-some r entries entry outer.is in
    let named = some-of (opposed_at chart (take (r - 1) entries) entry.pay) (named_place entry.pay) place outer.gives in
    let n : ℕ = named.it in
    let inner = some-of (λ x. cond (is_opposite chart x n entry.pay) (Some n) None) (at_place n (take (r - 1) entries)) place named.gives in
    let origin : Entry = inner.it in
    let there = at-some n (take (r - 1) entries) origin inner.is in
    let is = if-some (is_opposite chart origin n entry.pay) n place inner.gives in
    let front = in-front (r - 1) entries (n - 1) origin there.1 in
    subst (λ (m : ℕ). Took chart entries r m) is.1 (record {
      entry = entry;
      from = here.0;
      at = here.1;
      origin = origin;
      since = there.0;
      before = omega (arith, front.0, there.0, here.0);
      there = front.1;
      opposite = is.0;
    })

-- the chain: an entry is a return of what it takes back where that is no return itself
abbrev pub unless_return : Chart → List Entry → ℕ → Option ℕ
unless_return chart entries place = cond (is_some (returns_place chart entries place)) None (Some place)

chain-step : (chart : Chart) (entries : List Entry) (r : ℕ) (entry : Entry) (o : Option ℕ) → slice_get entries (r - 1) ≡ Some entry → opposed_before chart entries r ≡ o
    → option_and_then (λ place. cond (is_some (tag_at (tagged_of chart (take (r - 1) entries)) place)) None (Some place)) o ≡ option_and_then (unless_return chart entries) o
chain-step chart entries r entry None at e = refl
chain-step chart entries r entry (Some place) at e =
    let t = took chart entries r place e in
    let lt = slice_get_within entries (r - 1) entry at in
    ap (λ (o : Option ℕ). cond (is_some o) None (Some place))
    (returns-front chart entries (r - 1) place t.since (omega (arith, t.before)) (omega (arith, lt)))

pub chain : (chart : Chart) (entries : List Entry) (r : ℕ) (entry : Entry) → 1 ≤ r → slice_get entries (r - 1) ≡ Some entry
    → returns_place chart entries r ≡ option_and_then (unless_return chart entries) (opposed_before chart entries r)
chain chart entries r entry from at =
    returns-step chart entries r entry from at
    ∙ ap (option_and_then (λ place. cond (is_some (tag_at (tagged_of chart (take (r - 1) entries)) place)) None (Some place))) (sym (before-is chart entries r entry from at))
    ∙ chain-step chart entries r entry (opposed_before chart entries r) at refl

-- ---- laws

pub returned : (chart : Chart) (entries : List Entry) (r place : ℕ) → returns_place chart entries r ≡ Some place → Took chart entries r place
returned chart entries r place e =
    let tag = some-of (λ t. t) (at_place r (tagged_of chart entries)) place e in
    let there = at-some r (tagged_of chart entries) tag.it tag.is in
    let lt = slice_get_within (tagged_of chart entries) (r - 1) tag.it there.1 in
    elim (slice_get_cases entries (r - 1)).1 [
      | inl found ↦
          let whole = sym (chain chart entries r found.0 there.0 found.2) ∙ e in
          let inner = some-of (unless_return chart entries) (opposed_before chart entries r) place whole in
          let same : inner.it ≡ place = if-none (is_some (returns_place chart entries inner.it)) inner.it place inner.gives in
          took chart entries r place (inner.is ∙ ap (λ (n : ℕ). Some n) same)
      | inr past ↦ absurd (omega (arith, past.0, lt, tagged-size chart entries))
    ]
  where
    if-none : (b : Bool) (n m : ℕ) → cond b None (Some n) ≡ Some m → n ≡ m
    if-none true n m at = absurd (none-some m at)
    if-none false n m at = same_Some n m at

pub returns-later : ReturnsLater
returns-later chart entries r place e = (returned chart entries r place e).before

-- what takes an entry back is the pay made for that
pub opposite-is : (chart : Chart) (origin : Entry) (place : ℕ) (pay : Pay) → is_opposite chart origin place pay ≡ true → pay ≡ opposite_of chart origin place pay.value
opposite-is chart origin place pay e =
    let same = (and_parts (is_booked origin.outcome) (is_equal pay (opposite_of chart origin place pay.value)) e).1 in
    (equal-decides pay (opposite_of chart origin place pay.value)).0 same

-- a return has the reference of its place
mir-of : (chart : Chart) (origin : Entry) (place : ℕ) (pay : Pay) → is_opposite chart origin place pay ≡ true → pay.mir ≡ return_mir chart.home place
mir-of chart origin place pay e = ap (λ (p : Pay). p.mir) (opposite-is chart origin place pay e)

pub returns-once : ReturnsOnce
returns-once chart entries r s place rules e f =
    let x = returned chart entries r place e in
    let y = returned chart entries s place f in
    let mirs : x.entry.pay.mir ≡ y.entry.pay.mir = mir-of chart x.origin place x.entry.pay x.opposite ∙ sym (mir-of chart y.origin place y.entry.pay y.opposite) in
    let same : r - 1 ≡ s - 1 = rules.single (r - 1) (s - 1) x.entry y.entry x.at y.at mirs in
    omega (arith, same, x.from, y.from)

-- ---- the parity of a chain

-- a truth value, or the other one
abbrev pub flipped : Bool → Bool → Bool
flipped true b = not b
flipped false b = b

flip-once : (odd b : Bool) → flipped odd (not b) ≡ flipped (not odd) b
flip-once true true = refl
flip-once true false = refl
flip-once false b = refl

unless-is : (b : Bool) (place : ℕ) → is_some (cond b None (Some place)) ≡ not b
unless-is true place = refl
unless-is false place = refl

-- one step down the chain
pub parity-step : (chart : Chart) (entries : List Entry) (at next : ℕ) (odd b : Bool) → b ≡ flipped odd (is_some (returns_place chart entries at)) → opposed_before chart entries at ≡ Some next
    → b ≡ flipped (not odd) (is_some (returns_place chart entries next))
parity-step chart entries at next odd b same e =
    let t = took chart entries at next e in
    let one : is_some (returns_place chart entries at) ≡ not (is_some (returns_place chart entries next)) =
    ap is_some (chain chart entries at t.entry t.from t.at ∙ ap (option_and_then (unless_return chart entries)) e) ∙ unless-is (is_some (returns_place chart entries next)) next in
    same ∙ ap (flipped odd) one ∙ flip-once odd (is_some (returns_place chart entries next))

flip-none : (odd : Bool) → flipped odd false ≡ odd
flip-none true = refl
flip-none false = refl

-- its end
pub parity-end : (chart : Chart) (entries : List Entry) (at : ℕ) (odd b : Bool) → 1 ≤ at → at ≤ length entries → b ≡ flipped odd (is_some (returns_place chart entries at)) → opposed_before chart entries at ≡ None → b ≡ odd
parity-end chart entries at odd b from there same e =
    elim (slice_get_cases entries (at - 1)).1 [
      | inl found ↦
          same ∙ ap (λ (o : Option ℕ). flipped odd (is_some o)) (chain chart entries at found.0 from found.2 ∙ ap (option_and_then (unless_return chart entries)) e) ∙ flip-none odd
      | inr past ↦ absurd (omega (arith, past.0, from, there))
    ]

-- ---- what a step tells

pub returns-none : (chart : Chart) (entries : List Entry) (r : ℕ) → 1 ≤ r → r ≤ length entries → opposed_before chart entries r ≡ None → returns_place chart entries r ≡ None
returns-none chart entries r from there e =
    elim (slice_get_cases entries (r - 1)).1 [
      | inl found ↦ chain chart entries r found.0 from found.2 ∙ ap (option_and_then (unless_return chart entries)) e
      | inr past ↦ absurd (omega (arith, past.0, from, there))
    ]

pub returns-some : (chart : Chart) (entries : List Entry) (r place : ℕ) → opposed_before chart entries r ≡ Some place → returns_place chart entries r ≡ unless_return chart entries place
returns-some chart entries r place e =
    let t = took chart entries r place e in
    chain chart entries r t.entry t.from t.at ∙ ap (option_and_then (unless_return chart entries)) e

-- ---- payments

if-same : {A : Type 0} (b : Bool) (x y : A) → cond b (Some x) None ≡ Some y → x ≡ y
if-same true x y e = same_Some x y e
if-same false x y e = absurd (none-some y e)

pub payment-is : (chart : Chart) (entries : List Entry) (place : ℕ) (entry : Entry) → payment_at chart entries place ≡ Some entry → (1 ≤ place) × (slice_get entries (place - 1) ≡ Some entry)
payment-is chart entries place entry e =
    let g = some-of (λ x. cond (is_payment chart entries place x) (Some x) None) (at_place place entries) entry e in
    at-some place entries entry (g.is ∙ ap (λ (x : Entry). Some x) (if-same (is_payment chart entries place g.it) g.it entry g.gives))
