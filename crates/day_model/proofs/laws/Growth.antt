-- How histories grow: what stays, what is legal, and what folds give.
use Rattle.std.proofs.Common.{◌≡◌, ℕ, zero, suc, ◌+◌, ◌<◌, ◌≤◌, Bool, true, false, cond, List, [], ◌∷◌, ◌++◌, Option, Some, None, refl, sym, ap, ◌∙◌, subst, arith, length, take, append_assoc, length-append, ℤ, ◌≤ℤ◌, inl, inr}
use Rattle.std.specs.Prelude.{slice_get, is_some, if◌then◌else◌}
use Rattle.std.proofs.lemmas.Bool.{false≢true}
use Rattle.std.proofs.lemmas.Int.{ints}
use Rattle.std.proofs.lemmas.List.{take-append-le, take_all, append-nil}
use Rattle.std.proofs.lemmas.Option.{slice_get_within, same_Some, none-some}
use Rattle.std.proofs.lemmas.Slice.Eq.{bytes_eq-Decides}
use Rattle.std.specs.List.{position_from}
use Rattle.corr_ids.specs.declared.mir.Mir.{Mir}
use Rattle.corr_ids.specs.declared.day.Day.{Day}
use Rattle.day_model.specs.declared.pay.Pay.{Pay}
use Rattle.day_model.specs.declared.entry.Entry.{Entry}
use Rattle.day_model.specs.declared.change.Change.{Change}
use Rattle.day_model.specs.Chart.{Chart, chart_at}
use Rattle.day_model.specs.Fit.{FitsAccounts}
use Rattle.day_model.specs.Balance.{outcome_of}
use Rattle.day_model.specs.Next.{has_mir, entered_at, entry_of, next_history, fold_of}
use Rattle.day_model.specs.Legal.{AreLegalChanges, FollowsRules, IsLegal}
use Rattle.day_model.specs.Laws.{EmptyIsLegal, IsLatest, StaysLegal, FoldBegins, FoldOfAppend, FoldAgain, FoldIsLegal, PlacesStay}
use Rattle.day_model.proofs.laws.Fronts.{changes_longer, fits_then}
use Rattle.day_model.proofs.laws.Slices.{in_pushed}

-- an element that passes keeps its place when others follow
first_stays : {A : Type 0} (t : A → Bool) (i k : ℕ) (xs ys : List A) → position_from t i xs ≡ Some k → position_from t i (xs ++ ys) ≡ Some k
first_stays t i k [] ys e = absurd (none-some k e)
first_stays t i k (x ∷ xs) ys e =
    elim (t x) as (λ b. cond b (Some i) (position_from t (i + 1) xs) ≡ Some k → cond b (Some i) (position_from t (i + 1) (xs ++ ys)) ≡ Some k) [
      | true ↦ λ h. h
      | false ↦ λ h. first_stays t (i + 1) k xs ys h
    ] e

-- a reference that was entered keeps its place
pub places_stay : PlacesStay
places_stay mir entries more place e = first_stays (has_mir mir) 1 place entries more e

head_fails : (b : Bool) (i : ℕ) (o : Option ℕ) → is_some (cond b (Some i) o) ≡ false → b ≡ false
head_fails true i o e = absurd (false≢true (sym e))
head_fails false i o e = refl

tail_fails : (b : Bool) (i : ℕ) (o : Option ℕ) → is_some (cond b (Some i) o) ≡ false → is_some o ≡ false
tail_fails true i o e = absurd (false≢true (sym e))
tail_fails false i o e = e

-- where none passes, each fails
pub none_passes : {A : Type 0} (t : A → Bool) (i k : ℕ) (xs : List A) (x : A) → is_some (position_from t i xs) ≡ false → slice_get xs k ≡ Some x
    → t x ≡ false
none_passes t i k [] x none at = absurd (none-some x at)
none_passes t i zero (y ∷ xs) x none at = ap t (sym (same_Some y x at)) ∙ head_fails (t y) i (position_from t (i + 1) xs) none
none_passes t i (suc k) (y ∷ xs) x none at = none_passes t (i + 1) k xs x (tail_fails (t y) i (position_from t (i + 1) xs) none) at

same_mir : (mir : Mir) (e : Entry) → e.pay.mir ≡ mir → has_mir mir e ≡ true
same_mir mir e is = (bytes_eq-Decides e.pay.mir.0 mir.0).1 (ap (λ (m : Mir). m.0) is)

-- a legal history with one entry more, whose reference is new and whose day is no earlier
pub one_pay_more : (chart : Chart) (entries : List Entry) (pay : Pay) (day : Day) → IsLegal chart entries → FitsAccounts chart pay → IsLatest entries day
    → length entries < 100000 → is_some (entered_at pay.mir entries) ≡ false → IsLegal chart (entries ++ entry_of chart entries pay day ∷ [])
one_pay_more chart entries pay day legal fit latest room new =
    let e : Entry = entry_of chart entries pay day in
    let rules = legal.rules in
    let follows : FollowsRules chart (entries ++ e ∷ []) = record {
      short = rw (length-append entries (e ∷ [])) (omega arith);
      fits = λ i x at. elim (in_pushed entries e i x at) [
        | inl old ↦ rules.fits i x old
        | inr is ↦ subst (λ (y : Entry). FitsAccounts (chart_at chart i) y.pay) is.1
            (subst (λ (k : ℕ). FitsAccounts (chart_at chart k) pay) (sym is.0) (fits_then chart (length entries) pay legal.changes.by_now fit))
      ];
      decided = λ i x at. elim (in_pushed entries e i x at) [
        | inl old ↦
            let lt = slice_get_within entries i x old in
            rules.decided i x old ∙ ap (λ (es : List Entry). outcome_of chart es x.pay) (sym (take-append-le i entries (e ∷ []) (omega arith)))
        | inr is ↦
            let all : take i (entries ++ e ∷ []) ≡ entries =
            take-append-le i entries (e ∷ []) (omega (arith, is.0)) ∙ take_all i entries (omega (arith, is.0)) in
            subst (λ (y : Entry). y.outcome ≡ outcome_of chart (take i (entries ++ e ∷ [])) y.pay) is.1
            (ap (λ (es : List Entry). outcome_of chart es pay) (sym all))
      ];
      single = λ i j x y ati atj same. elim (in_pushed entries e i x ati) [
        | inl oldi ↦ elim (in_pushed entries e j y atj) [
          | inl oldj ↦ rules.single i j x y oldi oldj same
          | inr isj ↦ absurd
              (false≢true
              (sym (none_passes (has_mir pay.mir) 1 i entries x new oldi) ∙ same_mir pay.mir x (same ∙ ap (λ (z : Entry). z.pay.mir) (sym isj.1))))
        ]
        | inr isi ↦ elim (in_pushed entries e j y atj) [
          | inl oldj ↦ absurd
              (false≢true
              (sym (none_passes (has_mir pay.mir) 1 j entries y new oldj) ∙ same_mir pay.mir y (sym same ∙ ap (λ (z : Entry). z.pay.mir) (sym isi.1))))
          | inr isj ↦ isi.0 ∙ sym isj.0
        ]
      ];
      days = λ i j x y lt ati atj. elim (in_pushed entries e j y atj) [
        | inl oldj ↦ elim (in_pushed entries e i x ati) [
          | inl oldi ↦ rules.days i j x y lt oldi oldj
          | inr isi ↦ let within = slice_get_within entries j y oldj in absurd (omega (arith, isi.0))
        ]
        | inr isj ↦ elim (in_pushed entries e i x ati) [
          | inl oldi ↦ subst (λ (z : Entry). x.day.0 ≤ℤ z.day.0) isj.1 (latest i x oldi)
          | inr isi ↦ absurd (omega (arith, isi.0, isj.0))
        ]
      ];
    } in
    record { rules = follows; changes = changes_longer chart entries (e ∷ []) legal.changes }

next_cases : (chart : Chart) (entries : List Entry) (pay : Pay) (day : Day) (b : Bool) → is_some (entered_at pay.mir entries) ≡ b
    → IsLegal chart entries → FitsAccounts chart pay → IsLatest entries day → length entries < 100000
    → IsLegal chart (if b then entries else entries ++ entry_of chart entries pay day ∷ [])
next_cases chart entries pay day true is legal fit latest room = legal
next_cases chart entries pay day false is legal fit latest room = one_pay_more chart entries pay day legal fit latest room is

-- with a pay entered a legal history is legal still
pub stays_legal : (chart : Chart) (entries : List Entry) (pay : Pay) → IsLegal chart entries → FitsAccounts chart pay → StaysLegal chart entries pay
stays_legal chart entries pay legal fit day latest room =
    next_cases chart entries pay day (is_some (entered_at pay.mir entries)) refl legal fit latest room

-- what comes next begins with what was there
begins : (chart : Chart) (entries : List Entry) (pay : Pay) (day : Day) (b : Bool)
    → (more : List Entry) × ((if b then entries else entries ++ entry_of chart entries pay day ∷ []) ≡ entries ++ more)
begins chart entries pay day true = ([], sym (append-nil entries))
begins chart entries pay day false = (entry_of chart entries pay day ∷ [], refl)

-- the next history begins with the one before
pub next_begins : (chart : Chart) (entries : List Entry) (pay : Pay) (day : Day)
    → (more : List Entry) × (next_history chart entries pay day ≡ entries ++ more)
next_begins chart entries pay day = begins chart entries pay day (is_some (entered_at pay.mir entries))

-- and so does a fold
pub fold_begins : FoldBegins
fold_begins chart entries [] day = ([], sym (append-nil entries))
fold_begins chart entries (pay ∷ pays) day =
    let next = next_begins chart entries pay day in
    let rest = fold_begins chart (next_history chart entries pay day) pays day in
    (next.0 ++ rest.0, rest.1 ∙ ap (λ (es : List Entry). es ++ rest.0) next.1 ∙ append_assoc entries next.0 rest.0)

-- pays in two lists are entered as the two lists one after the other
pub fold_of_append : FoldOfAppend
fold_of_append chart entries [] b day = refl
fold_of_append chart entries (pay ∷ pays) b day = fold_of_append chart (next_history chart entries pay day) pays b day

-- what is entered stays so
pub still : (mir : Mir) (entries more : List Entry) → is_some (entered_at mir entries) ≡ true → is_some (entered_at mir (entries ++ more)) ≡ true
still mir entries more e = found (entered_at mir entries) refl e
  where
    found : (o : Option ℕ) → entered_at mir entries ≡ o → is_some o ≡ true → is_some (entered_at mir (entries ++ more)) ≡ true
    found (Some place) is s = ap is_some (places_stay mir entries more place is)
    found None is s = absurd (false≢true s)

still_after : (chart : Chart) (mir : Mir) (entries : List Entry) (pays : List Pay) (day : Day) → is_some (entered_at mir entries) ≡ true
    → is_some (entered_at mir (fold_of chart entries pays day)) ≡ true
still_after chart mir entries pays day e =
    let grown = fold_begins chart entries pays day in
    subst (λ (es : List Entry). is_some (entered_at mir es) ≡ true) (sym grown.1) (still mir entries grown.0 e)

-- an entry at the end is found
last_found : {A : Type 0} (t : A → Bool) (i : ℕ) (xs : List A) (y : A) → t y ≡ true → is_some (position_from t i (xs ++ y ∷ [])) ≡ true
last_found t i [] y e = ap (λ (b : Bool). is_some (cond b (Some i) None)) e
last_found t i (x ∷ xs) y e =
    elim (t x) as (λ b. is_some (cond b (Some i) (position_from t (i + 1) (xs ++ y ∷ []))) ≡ true) [
      | true ↦ refl
      | false ↦ last_found t (i + 1) xs y e
    ]

-- a pay that is entered is found
pub enters_new : (chart : Chart) (entries : List Entry) (pay : Pay) (day : Day) (b : Bool) → is_some (entered_at pay.mir entries) ≡ b
    → is_some (entered_at pay.mir (if b then entries else entries ++ entry_of chart entries pay day ∷ [])) ≡ true
enters_new chart entries pay day true is = is
enters_new chart entries pay day false is =
    last_found (has_mir pay.mir) 1 entries (entry_of chart entries pay day) (same_mir pay.mir (entry_of chart entries pay day) refl)

-- each of these pays is entered
AllEntered : List Entry → List Pay → Type 0
AllEntered entries [] = Unit {0}
AllEntered entries (pay ∷ pays) = (is_some (entered_at pay.mir entries) ≡ true) × AllEntered entries pays

all_entered : (chart : Chart) (entries : List Entry) (pays : List Pay) (day : Day) → AllEntered (fold_of chart entries pays day) pays
unfolding AllEntered
all_entered chart entries [] day = tt
all_entered chart entries (pay ∷ pays) day =
    let next = next_history chart entries pay day in
    (still_after chart pay.mir next pays day (enters_new chart entries pay day (is_some (entered_at pay.mir entries)) refl), all_entered chart next pays day)

adds_nothing : (chart : Chart) (entries : List Entry) (pays : List Pay) (day : Day) → AllEntered entries pays → fold_of chart entries pays day ≡ entries
unfolding AllEntered
adds_nothing chart entries [] day all = refl
adds_nothing chart entries (pay ∷ pays) day all =
    let same : next_history chart entries pay day ≡ entries =
    ap (λ (b : Bool). if b then entries else entries ++ entry_of chart entries pay day ∷ []) all.0 in
    ap (λ (es : List Entry). fold_of chart es pays day) same ∙ adds_nothing chart entries pays day all.1

-- pays that are entered already may be given again with others: the history is that of all given once
pub fold_again : FoldAgain
fold_again chart entries a b day =
    let once = fold_of chart entries a day in
    fold_of_append chart once a b day
    ∙ ap (λ (es : List Entry). fold_of chart es b day) (adds_nothing chart once a day (all_entered chart entries a day))
    ∙ sym (fold_of_append chart entries a b day)

-- a step adds one entry at most, of its own day
grown : (chart : Chart) (entries : List Entry) (pay : Pay) (day : Day) (b : Bool)
    → length (if b then entries else entries ++ entry_of chart entries pay day ∷ []) ≤ length entries + 1
grown chart entries pay day true = omega arith
grown chart entries pay day false = rw (length-append entries (entry_of chart entries pay day ∷ [])) (omega arith)

-- a day that no entry is after is so too once an entry of that day is added, or none
pub still_latest : (chart : Chart) (entries : List Entry) (pay : Pay) (day : Day) (b : Bool) → IsLatest entries day
    → IsLatest (if b then entries else entries ++ entry_of chart entries pay day ∷ []) day
still_latest chart entries pay day true latest = latest
still_latest chart entries pay day false latest = λ i x at. elim (in_pushed entries (entry_of chart entries pay day) i x at) [
  | inl old ↦ latest i x old
  | inr is ↦ subst (λ (e : Entry). e.day.0 ≤ℤ day.0) is.1 (let d : ℤ = day.0 in omega (arith, ints))
]

-- a fold of pays that fit is legal
pub fold_is_legal : FoldIsLegal
fold_is_legal chart entries [] day legal fit latest room = legal
fold_is_legal chart entries (pay ∷ pays) day legal fit latest room =
    let b = is_some (entered_at pay.mir entries) in
    let size : length (next_history chart entries pay day) ≤ length entries + 1 = grown chart entries pay day b in
    fold_is_legal chart (next_history chart entries pay day) pays day
    (stays_legal chart entries pay legal (fit 0 pay refl) day latest (omega arith))
    (λ k p at. fit (suc k) p at)
    (still_latest chart entries pay day b latest)
    (omega arith)

-- without changes a history without entries is legal
pub empty_is_legal : EmptyIsLegal
empty_is_legal chart none = record {
  rules = record {
    short = omega arith;
    fits = λ i e at. absurd (none-some e at);
    decided = λ i e at. absurd (none-some e at);
    single = λ i j d e at. absurd (none-some d at);
    days = λ i j d e lt at. absurd (none-some d at);
  };
  changes = subst (λ (cs : List Change). AreLegalChanges (record chart { changes = cs }) []) (sym none) (record {
    few = omega arith;
    by_now = refl;
    in_order = refl;
    in_turn = tt;
  });
}

-- so is one that is known to be empty
pub legal_here : (chart : Chart) (entries : List Entry) → chart.changes ≡ [] → entries ≡ [] → IsLegal chart entries
legal_here chart entries none empty = subst (IsLegal chart) (sym empty) (empty_is_legal chart none)
