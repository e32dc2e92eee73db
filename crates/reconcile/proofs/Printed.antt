-- Lines of text for what is in a list, one after the other; and the entry at a place.
use Rattle.std.proofs.Common.{◌≡◌, ℕ, zero, suc, ◌+◌, ◌-◌, ◌<◌, ◌≤◌, ◌==◌, Bool, true, false, cond, List, [], ◌∷◌, ◌++◌, map, length, get_or, take, drop, Option, Some, None, option_map, refl, sym, ap, ◌∙◌, subst, arith, inl, inr, append_assoc, nat_lt, Result, Ok, Err}
use Rattle.std.specs.Prelude.{All, IfSome, option_and_then, slice_get}
use Rattle.std.specs.List.{AllByRecursion, flat_map}
use Rattle.std.specs.List.Sorted.{IsPartitionPoint, IsPartitionedBy}
use Rattle.std.proofs.lemmas.Bool.{cases_lt, ne_eqb}
use Rattle.std.proofs.lemmas.Bool.Decides.{nat_tests}
use Rattle.std.proofs.lemmas.Grind.{flat_map-append}
use Rattle.std.proofs.lemmas.List.{append-nil, drop_more, take_more}
use Rattle.std.proofs.lemmas.List.Elements.{All-from_recursion}
use Rattle.std.proofs.lemmas.Option.{slice_get-get_or, slice_get_past, slice_get_read}
use Rattle.corr_text.specs.Answers.{Refuses}
use Rattle.day_model.specs.Chart.{Chart}
use Rattle.day_model.specs.declared.entry.Entry.{Entry}
use Rattle.mt950.specs.Joining.{joined_of, last_of, told}
use Rattle.mt950.specs.declared.entry.Line61.{Line61}
use Rattle.mt950.specs.declared.joining.PageFault.{PageFault}
use Rattle.mt950.specs.declared.joining.Statement.{Statement}
use Rattle.mt950.specs.declared.page.Page950.{Page950}
use Rattle.statement.specs.Lines.{Placed}
use Rattle.statement.specs.inner.Lines.{PlacesFrom, RiseFrom}
use Rattle.statement.specs.Running.{placed_by}
use Rattle.statement.specs.declared.movement.Movement.{Movement}
use Rattle.reconcile.specs.Breaks.{joined_left, joined_text, line_feed, piece_left, piece_text, statement_heading, statement_left, statement_text, told_from}
use Rattle.reconcile.specs.inner.Breaks.{Adds}
use Rattle.reconcile.specs.Comparison.{placed_at}
use Rattle.reconcile.specs.Lines.{fault_words}
use Rattle.reconcile.specs.Pairing.{alone, alone_from, line_partner, theirs_left}
use Rattle.reconcile.proofs.Rising.{rises}
use Rattle.reconcile.proofs.Tests.{above, below, itself}

-- ---- text

-- the lines of the elements so far, and those of the next one
pub more-lines : {A : Type 0} (f : A → List ℕ) (xs : List A) (i : ℕ) (x : A) (start out next : List ℕ) → x ≡ get_or xs i x → i < length xs → out ≡ start ++ flat_map f (take i xs) → next ≡ out ++ f x
    → next ≡ start ++ flat_map f (take (i + 1) xs)
more-lines {A} f xs i x start out next is lt so e =
    let front : take (i + 1) xs ≡ take i xs ++ x ∷ [] = take_more xs i x lt ∙ ap (λ (y : A). take i xs ++ y ∷ []) (sym is) in
    let lines : flat_map f (take (i + 1) xs) ≡ flat_map f (take i xs) ++ f x =
    ap (flat_map f) front ∙ flat_map-append f (take i xs) (x ∷ []) ∙ ap (λ (t : List ℕ). flat_map f (take i xs) ++ t) (append-nil (f x)) in
    e ∙ ap (λ (t : List ℕ). t ++ f x) so ∙ append_assoc start (flat_map f (take i xs)) (f x) ∙ ap (λ (t : List ℕ). start ++ t) (sym lines)

-- an element that has no line
pub no-lines : {A : Type 0} (f : A → List ℕ) (xs : List A) (i : ℕ) (x : A) (start out : List ℕ) → x ≡ get_or xs i x → i < length xs → out ≡ start ++ flat_map f (take i xs) → f x ≡ []
    → out ≡ start ++ flat_map f (take (i + 1) xs)
no-lines f xs i x start out is lt so e = more-lines f xs i x start out out is lt so (sym (ap (λ (t : List ℕ). out ++ t) e ∙ append-nil out))

-- words one after the other
pub three-words : (out a b c d text x y z : List ℕ) → a ≡ out ++ text → b ≡ a ++ x → c ≡ b ++ y → d ≡ c ++ z → d ≡ out ++ (text ++ (x ++ (y ++ (z ++ []))))
three-words out a b c d text x y z e f g h =
    let regrouped : (((out ++ text) ++ x) ++ y) ++ z ≡ out ++ (text ++ (x ++ (y ++ (z ++ [])))) = simp (append_assoc, append-nil) in
    h ∙ ap (λ (t : List ℕ). t ++ z) (g ∙ ap (λ (t : List ℕ). t ++ y) (f ∙ ap (λ (t : List ℕ). t ++ x) e)) ∙ regrouped

-- ---- the entry at a place

abbrev at-place : Movement → ℕ
at-place m = m.place

pub moves-rise : (low : ℕ) (ms : List Movement) → PlacesFrom low (map placed_by ms) → RiseFrom at-place low ms
moves-rise low [] up = tt
moves-rise low (m ∷ ms) up = (up.0, moves-rise (m.place + 1) ms up.1)

-- entries before a place stand before the others
pub places-parted : (ms : List Movement) (p : ℕ) → PlacesFrom 1 (map placed_by ms) → IsPartitionedBy (λ m. nat_lt m.place p) ms
places-parted ms p up i j d le lt passes =
    let a : Movement = get_or ms i d in
    let b : Movement = get_or ms j d in
    let low : i < length ms = omega (arith, le, lt) in
    elim (cases_lt i j) [
      | inl less ↦
          let more : a.place < b.place = rises at-place 1 ms i j a b (moves-rise 1 ms up) less (slice_get-get_or ms i d low) (slice_get-get_or ms j d lt) in
          grind (arith, nat_tests)
      | inr ge ↦ let same : j ≡ i = omega (arith, le, ge) in ap (λ (k : ℕ). nat_lt (get_or ms k d).place p) (sym same) ∙ passes
    ]

-- the entry, if it is the one at the place
abbrev pub if-at : ℕ → Movement → Option Movement
if-at p m = cond (m.place == p) (Some m) None

pub none-later : (low : ℕ) (ms : List Movement) (p : ℕ) → p < low → RiseFrom at-place low ms → placed_at p (map placed_by ms) ≡ None
none-later low [] p lt up = refl
none-later low (m ∷ ms) p lt up =
    let first = up.0 in
    let other : (m.place == p) ≡ false = above m.place p (omega (arith, lt, first)) in
    rw other (none-later (m.place + 1) ms p (omega (arith, lt, first)) up.1)

rest-none : (m : Movement) (b : Bool) (rest : Option Placed) → rest ≡ None → cond b (Some (placed_by m)) rest ≡ option_map placed_by (cond b (Some m) None)
rest-none m true rest e = refl
rest-none m false rest e = e

pub found-at : (low : ℕ) (ms : List Movement) (k p : ℕ) → RiseFrom at-place low ms → IsPartitionPoint (λ m. nat_lt m.place p ≡ true) (λ m. nat_lt m.place p ≡ false) ms k
    → placed_at p (map placed_by ms) ≡ option_map placed_by (option_and_then (if-at p) (slice_get ms k))
found-at low [] k p up parts = refl
found-at low (m ∷ ms) zero p up parts =
    let late : nat_lt m.place p ≡ false = parts.1 0 m (omega arith) (omega arith) in
    elim (cases_lt p (m.place + 1)) [
      | inl lt ↦ rest-none m (m.place == p) (placed_at p (map placed_by ms)) (none-later (m.place + 1) ms p lt up.1)
      | inr ge ↦ let early : nat_lt m.place p ≡ true = grind (arith, nat_tests) in absurd (cc (sym late ∙ early))
    ]
found-at low (m ∷ ms) (suc k) p up parts =
    let early : nat_lt m.place p ≡ true = parts.0 0 m (omega arith) (omega arith) in
    let lt : m.place < p = grind (arith, nat_tests) in
    let rest : IsPartitionPoint (λ x. nat_lt x.place p ≡ true) (λ x. nat_lt x.place p ≡ false) ms k =
    (λ j d low lt. parts.0 (suc j) d (omega (arith, low)) (omega (arith, lt)), λ j d low lt. parts.1 (suc j) d (omega (arith, low)) (omega (arith, lt))) in
    rw (below m.place p lt) (found-at (m.place + 1) ms k p up.1 rest)

module _ (ms : List Movement) (p k : ℕ) (up : PlacesFrom 1 (map placed_by ms)) (parts : IsPartitionPoint (λ m. nat_lt m.place p ≡ true) (λ m. nat_lt m.place p ≡ false) ms k) where
  entry-is : (o : Option Movement) → slice_get ms k ≡ o → placed_at p (map placed_by ms) ≡ option_map placed_by (option_and_then (if-at p) o)
  entry-is o e = found-at 1 ms k p (moves-rise 1 ms up) parts ∙ ap (λ (x : Option Movement). option_map placed_by (option_and_then (if-at p) x)) e

  pub entry-none : length ms ≤ k → placed_at p (map placed_by ms) ≡ None
  entry-none le = entry-is None (slice_get_past ms k le)

  entry-if : (m : Movement) (b : Bool) → m ≡ get_or ms k m → k < length ms → (m.place == p) ≡ b → placed_at p (map placed_by ms) ≡ option_map placed_by (cond b (Some m) None)
  entry-if m b is lt e = entry-is (Some m) (slice_get_read ms (length ms) k m refl lt is) ∙ ap (λ (c : Bool). option_map placed_by (cond c (Some m) None)) e

  pub entry-other : (m : Movement) → m ≡ get_or ms k m → k < length ms → (m.place ≡ p → ⊥) → placed_at p (map placed_by ms) ≡ None
  entry-other m is lt ne = entry-if m false is lt (ne_eqb m.place p ne)

  pub entry-here : (m : Movement) → m ≡ get_or ms k m → k < length ms → m.place ≡ p → placed_at p (map placed_by ms) ≡ Some (placed_by m)
  entry-here m is lt e = entry-if m true is lt (ap (λ (n : ℕ). n == p) e ∙ itself p)

-- ---- numbers of lines

module _ (ours : List Placed) where
  alone-next : (low k : ℕ) (partner : Option Placed) (ns : List ℕ) → low ≤ k → AllByRecursion (λ n. low ≤ n) ns → AllByRecursion (λ n. low ≤ n) (alone k partner ++ ns)
  alone-next low k None ns le all = (le, all)
  alone-next low k (Some placed) ns le all = all

  alone-low : (low : ℕ) (ahead : List Line61) (k : ℕ) (lines : List Line61) → low ≤ k → AllByRecursion (λ n. low ≤ n) (alone_from ours ahead k lines)
  alone-low low ahead k [] le = tt
  alone-low low ahead k (line ∷ lines) le =
      alone-next low k (line_partner ours ahead line) (alone_from ours (ahead ++ line ∷ []) (k + 1) lines) le (alone-low low (ahead ++ line ∷ []) (k + 1) lines (omega (arith, le)))

  -- the lines in no pair are numbered from 1
  pub theirs-numbered : (lines : List Line61) → All (λ n. 1 ≤ n) (theirs_left ours lines)
  theirs-numbered lines = All-from_recursion (λ n. 1 ≤ n) (theirs_left ours lines) (alone-low 1 [] 1 lines (omega arith))

-- ---- pages that belong together

pub last-at : (page : Page950) (pages : List Page950) (d : Page950) → get_or (page ∷ pages) (length (page ∷ pages) - 1) d ≡ last_of page pages
last-at page [] d = refl
last-at page (next ∷ pages) d =
    let place : length (page ∷ next ∷ pages) - 1 ≡ suc (length (next ∷ pages) - 1) = omega arith in
    ap (λ (k : ℕ). get_or (page ∷ next ∷ pages) k d) place ∙ last-at next pages d

module _ (room : ℕ) (chart : Chart) (entries : List Entry) (page : Page950) (pages : List Page950) (old mid new : List ℕ) where
  abbrev Told : ℕ → Type 0
  Told left = Adds old new (piece_text room chart entries (page ∷ pages)) left (piece_left room chart entries (page ∷ pages))

  piece-told : (text : List ℕ) → mid ≡ old ++ statement_heading (last_of page pages) → new ≡ mid ++ text → text ≡ joined_text room chart entries page.decimals (joined_of (page ∷ pages))
      → new ≡ old ++ piece_text room chart entries (page ∷ pages)
  piece-told text heading e is =
      e ∙ (λ i. heading i ++ is i) ∙ append_assoc old (statement_heading (last_of page pages)) (joined_text room chart entries page.decimals (joined_of (page ∷ pages)))

  pub told-joined : (s : Statement) (left : ℕ) → mid ≡ old ++ statement_heading (last_of page pages) → joined_of (page ∷ pages) ≡ Ok s
      → Adds mid new (statement_text room chart entries s) left (statement_left room chart entries s) → Told left
  told-joined s left heading joined told = record {
    added = piece-told (statement_text room chart entries s) heading told.added (ap (joined_text room chart entries page.decimals) (sym joined));
    rest = told.rest ∙ ap (joined_left room chart entries) (sym joined);
  }

  pub told-fault : (fault : PageFault) (words : List ℕ) → mid ≡ old ++ statement_heading (last_of page pages) → joined_of (page ∷ pages) ≡ Err fault → words ≡ mid ++ fault_words page.decimals fault → new ≡ words ++ line_feed → Told room
  told-fault fault words heading joined w e = record {
    added =
        piece-told (fault_words page.decimals fault ++ line_feed) heading (e ∙ ap (λ (t : List ℕ). t ++ line_feed) w ∙ append_assoc mid (fault_words page.decimals fault) line_feed)
        (ap (joined_text room chart entries page.decimals) (sym joined));
    rest = ap (joined_left room chart entries) (sym joined);
  }

-- the same of a list that has a first page and a last one
module _ (room : ℕ) (chart : Chart) (entries : List Entry) (old mid new : List ℕ) where
  pub all-joined : (all : List Page950) (last : Page950) → 1 ≤ length all → last ≡ get_or all (length all - 1) last → (s : Statement) (left : ℕ) → mid ≡ old ++ statement_heading last → joined_of all ≡ Ok s
      → Adds mid new (statement_text room chart entries s) left (statement_left room chart entries s) → Adds old new (piece_text room chart entries all) left (piece_left room chart entries all)
  all-joined [] last some is s left heading joined told = absurd (omega (arith, some))
  all-joined (page ∷ pages) last some is s left heading joined told =
      told-joined room chart entries page pages old mid new s left (heading ∙ ap (λ (p : Page950). old ++ statement_heading p) (is ∙ last-at page pages last)) joined told

  pub all-fault : (all : List Page950) (first last : Page950) → 1 ≤ length all → first ≡ get_or all 0 first → last ≡ get_or all (length all - 1) last → (fault : PageFault) (words : List ℕ) → mid ≡ old ++ statement_heading last
      → joined_of all ≡ Err fault → words ≡ mid ++ fault_words first.decimals fault → new ≡ words ++ line_feed → Adds old new (piece_text room chart entries all) room (piece_left room chart entries all)
  all-fault [] first last some first_is is fault words heading joined w e = absurd (omega (arith, some))
  all-fault (page ∷ pages) first last some first_is is fault words heading joined w e =
      told-fault room chart entries page pages old mid new fault words (heading ∙ ap (λ (p : Page950). old ++ statement_heading p) (is ∙ last-at page pages last)) joined
      (w ∙ ap (λ (p : Page950). mid ++ fault_words p.decimals fault) first_is) e

-- what is told so far, and of the pieces that are left: the next piece takes its part of it
pub more-pieces : (chart : Chart) (entries : List Entry) (pieces : List (List Page950)) (i room left : ℕ) (piece : List Page950) (whole out next : List ℕ) → piece ≡ get_or pieces i piece → i < length pieces
    → whole ≡ out ++ told_from room chart entries (drop i pieces) → Adds out next (piece_text room chart entries piece) left (piece_left room chart entries piece)
    → whole ≡ next ++ told_from left chart entries (drop (i + 1) pieces)
more-pieces chart entries pieces i room left piece whole out next is lt so added =
    let rest : List (List Page950) = drop (i + 1) pieces in
    let front : drop i pieces ≡ piece ∷ rest = drop_more pieces i piece lt ∙ ap (λ (p : List Page950). p ∷ rest) (sym is) in
    so ∙ ap (λ (ps : List (List Page950)). out ++ told_from room chart entries ps) front
    ∙ sym (append_assoc out (piece_text room chart entries piece) (told_from (piece_left room chart entries piece) chart entries rest))
    ∙ (λ k. sym added.added k ++ told_from (sym added.rest k) chart entries rest)

-- a fault that is told is the one that is meant
pub meant-fault : (meant : Result Statement PageFault) (fault : PageFault) → Refuses told meant fault → told fault ≡ Some fault → meant ≡ Err fault
meant-fault meant fault refuses e = subst (λ (o : Option PageFault). IfSome o (λ f. meant ≡ Err f)) e refuses
