-- Testing rows in turn, each against what those before it say, finds the first bad row.
use Rattle.std.proofs.Common.{◌≡◌, ℕ, ◌+◌, ◌≤◌, ◌<◌, List, [], ◌∷◌, ◌++◌, length, map, get_or, take, drop, Option, Some, None, refl, sym, ap, ◌∙◌, arith}
use Rattle.std.proofs.lemmas.List.{take_all, drop_more, take_more, drop_all, length-take-le, length-map, map-append, get_or-map}
use Rattle.ref_tables.specs.declared.fault.Why.{Why}
use Rattle.ref_tables.specs.Rows.{Cells, rows_within}
use Rattle.ref_tables.specs.Refusals.{RowTest, against, first_bad_row, first_fault}

-- the rows before a place have no fault: the first one is that of the others
pub record NoneBefore (test : RowTest) (rows : List Cells) (i : ℕ) : Type 0 where
  pub later : first_bad_row test [] rows ≡ first_bad_row test (take i rows) (drop i rows)

goes-on : (test : RowTest) (rows : List Cells) (i : ℕ) (d : Cells) → NoneBefore test rows i → i < length rows → test (take i rows) (get_or rows i d) ≡ None → NoneBefore test rows (i + 1)
unfolding first_bad_row
goes-on test rows i d so_far lt fine = record { later = so_far.later ∙ rw (drop_more rows i d lt, take_more rows i d lt, fine) refl }

stops : (test : RowTest) (rows : List Cells) (i : ℕ) (d : Cells) (w : Why) → NoneBefore test rows i → i < length rows → test (take i rows) (get_or rows i d) ≡ Some w → first_bad_row test [] rows ≡ Some (i + 1, w)
unfolding first_bad_row
stops test rows i d w so_far lt bad =
    so_far.later ∙ rw (drop_more rows i d lt, bad, length-take-le i rows (omega arith)) refl

ends : (test : RowTest) (rows : List Cells) (i : ℕ) → NoneBefore test rows i → length rows ≤ i → first_bad_row test [] rows ≡ None
unfolding first_bad_row
ends test rows i so_far le = so_far.later ∙ rw (drop_all i rows le) refl

-- the rows before a place have no fault, and are entered
pub record Entered {E : Type 0} (entry : Cells → E) (test : List E → Cells → Option Why) (rows : List Cells) (i : ℕ) (entries : List E) : Type 0 where
  pub same : entries ≡ map entry (take i rows)
  pub none : NoneBefore (against entry test) rows i

-- none yet
pub starts : {E : Type 0} (entry : Cells → E) (test : List E → Cells → Option Why) (rows : List Cells) → Entered entry test rows 0 []
starts entry test rows = record { same = refl; none = record { later = refl } }

module _ {E : Type 0} {entry : Cells → E} {test : List E → Cells → Option Why} {rows : List Cells} {i : ℕ} {entries : List E} (e : Entered entry test rows i entries)
    (row : Cells) (at : get_or rows i row ≡ row) (lt : i < length rows) where
  -- a row that passes is entered after those before it
  pub enters : (new : List E) → test entries row ≡ None → new ≡ entries ++ entry row ∷ [] → Entered entry test rows (i + 1) new
  enters new fine added =
      let fine' : against entry test (take i rows) (get_or rows i row) ≡ None = rw (at, ← e.same) fine in
      record {
        same = added ∙ rw (take_more rows i row lt, at, e.same) (sym (map-append entry (take i rows) (row ∷ [])));
        none = goes-on (against entry test) rows i row e.none lt fine';
      }

  -- a row that fails is the first bad one, after the entries so far
  pub refuses : (w : Why) → test entries row ≡ Some w → first_bad_row (against entry test) [] rows ≡ Some (length entries + 1, w)
  refuses w bad =
      let bad' : against entry test (take i rows) (get_or rows i row) ≡ Some w = rw (at, ← e.same) bad in
      let len : length entries ≡ i = ap length e.same ∙ simp length-map (length-take-le i rows (omega arith)) in
      rw len (stops (against entry test) rows i row w e.none lt bad')

-- once the rows are through none is bad, and each has its entry
pub all-entered : {E : Type 0} {entry : Cells → E} {test : List E → Cells → Option Why} {rows : List Cells} {i : ℕ} {entries : List E} → Entered entry test rows i entries → length rows ≤ i
    → (first_bad_row (against entry test) [] rows ≡ None) × (entries ≡ map entry rows)
all-entered {entry = entry} {rows = rows} {i = i} e le = (ends _ rows i e.none le, e.same ∙ ap (map entry) (take_all i rows le))

-- as many rows are entered as were tested
pub length-entered : {E : Type 0} {entry : Cells → E} {test : List E → Cells → Option Why} {rows : List Cells} {i : ℕ} {entries : List E} → Entered entry test rows i entries → i ≤ length rows → length entries ≡ i
length-entered {rows = rows} {i = i} e le = ap length e.same ∙ simp length-map (length-take-le i rows le)

-- a file within its limits fails where its rows do
pub first_fault-some : (most : ℕ) (test : RowTest) (file : List ℕ) (rows : List Cells) → Some rows ≡ rows_within most file → first_fault most test file ≡ first_bad_row test [] rows
first_fault-some most test file rows e = rw (← e) refl

-- a row as it stands among the others
pub row-at : {A : Type 0} (f : A → Cells) (items : List A) (i : ℕ) (item : A) → item ≡ get_or items i item → i < length items
    → (get_or (map f items) i (f item) ≡ f item) × (i < length (map f items))
row-at f items i item is lt = (get_or-map f items i item (f item) lt ∙ ap f (sym is), simp length-map lt)
