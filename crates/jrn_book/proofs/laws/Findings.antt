-- Bytes are one thing only as the journal of a book.
use Rattle.std.proofs.Common.{◌≡◌, ℕ, All, List, [], ◌∷◌, ◌++◌, length, get_or, refl, sym, ap, ◌∙◌, subst, inl, inr, arith}
use Rattle.std.specs.Prelude.{◌⊎◌, map}
use Rattle.std.proofs.lemmas.List.{append-nil}
use Rattle.std.proofs.lemmas.List.Elements.{All-head, All-tail}
use Rattle.day_model.specs.declared.change.Item.{Item}
use Rattle.day_model.specs.declared.change.Item.TheVariants.{Entered, Changed}
use Rattle.day_model.specs.declared.entry.Entry.{Entry}
use Rattle.day_model.specs.Chart.{Chart, bare}
use Rattle.day_model.specs.Items.{IsNextItem, Replayed, items_of, replay}
use Rattle.day_model.specs.Legal.{IsLegal}
use Rattle.day_model.proofs.laws.Items.{replay_items}
use Rattle.jrn_file.specs.Reading.{Reading, no_journal, whole, cut, all_of, size_of}
use Rattle.jrn_codec.specs.Header.{IsHead, head_bytes, head_bytes_1, title_bytes}
use Rattle.jrn_codec.proofs.laws.Records.{one_entry_1, one_head, one_head_1, one_item}
use Rattle.jrn_book.specs.declared.version.Version.{Version}
use Rattle.jrn_book.specs.declared.version.Version.TheVariants.{One, Two}
use Rattle.jrn_book.specs.Journal.{IsJournalIn, all_records_in}
use Rattle.jrn_book.specs.Opening.{Finding, book, no_book, other_version, faulty, HasHead, HasNoHead, IsFound, IsFoundIn, IsNextOf, IsRefusedIn}
use Rattle.jrn_book.specs.Versions.{HasBytes, bytes_in, head_in, number_of, other}
use Rattle.jrn_book.proofs.Before.{was_cut}
use Rattle.jrn_book.proofs.Items.{items_have}

-- ---- records of a version

-- two items with one record are one
one_in : (version : Version) (x y : Item) → HasBytes version x → HasBytes version y → bytes_in version x ≡ bytes_in version y → x ≡ y
one_in One (Entered d) (Entered e) hx hy same = ap (λ (z : Entry). Entered z) (one_entry_1 d e hx hy same)
one_in One (Entered d) (Changed w) hx hy same = absurd hy
one_in One (Changed v) y hx hy same = absurd hx
one_in Two x y hx hy same = one_item x y hx hy same

-- the header is of the accounts that a book begins with
one_start : (version : Version) (c d : Chart) → IsHead (bare c) → IsHead (bare d) → head_in version c ≡ head_in version d → bare c ≡ bare d
one_start One c d hc hd same = one_head_1 (bare c) (bare d) hc hd same
one_start Two c d hc hd same = one_head (bare c) (bare d) hc hd same

-- headers of two versions differ in their sixth byte
heads_apart : (c d : Chart) → head_bytes_1 c ≡ head_bytes d → ⊥
unfolding title_bytes
heads_apart c d same = let sixth : 49 ≡ 50 = ap (λ (l : List ℕ). get_or l 5 0) same in absurd (omega (arith, sixth))

no_other : (v : Version) (c d : Chart) → head_in v c ≡ head_in (other v) d → ⊥
no_other One c d same = heads_apart c d same
no_other Two c d same = heads_apart d c (sym same)

-- ---- two ways to read the same records

-- these items go on in those, with one whose record is the first of the rest
record GoesOn (version : Version) (short long : List Item) (rest : List (List ℕ)) : Type 0 where
  item : Item
  written : HasBytes version item
  more : List Item
  is : long ≡ short ++ item ∷ more
  others : List (List ℕ)
  first : rest ≡ bytes_in version item ∷ others

cons_on : (version : Version) (x y : Item) (short long : List Item) (rest : List (List ℕ)) → x ≡ y → GoesOn version short long rest → GoesOn version (x ∷ short) (y ∷ long) rest
cons_on version x y short long rest same on = record {
  item = on.item;
  written = on.written;
  more = on.more;
  is = λ i. (sym same) i ∷ on.is i;
  others = on.others;
  first = on.first;
}

-- one list of items, or one goes on in the other
abbrev Meeting : Version → List Item → List (List ℕ) → List Item → List (List ℕ) → Type 0
Meeting version h t i u = ((h ≡ i) × (t ≡ u)) ⊎ (GoesOn version h i t ⊎ GoesOn version i h u)

meeting : (version : Version) (h i : List Item) (t u : List (List ℕ)) → All (HasBytes version) h → All (HasBytes version) i
    → map (bytes_in version) h ++ t ≡ map (bytes_in version) i ++ u → Meeting version h t i u
meeting version [] [] t u eh ei same = inl (refl, same)
meeting version [] (y ∷ i) t u eh ei same =
    inr (inl (record { item = y; written = All-head (HasBytes version) y i ei; more = i; is = refl; others = map (bytes_in version) i ++ u; first = same }))
meeting version (x ∷ h) [] t u eh ei same =
    inr (inr (record { item = x; written = All-head (HasBytes version) x h eh; more = h; is = refl; others = map (bytes_in version) h ++ t; first = sym same }))
meeting version (x ∷ h) (y ∷ i) t u eh ei same =
    let bytes : bytes_in version x ≡ bytes_in version y = cc (same) in
    let rest : map (bytes_in version) h ++ t ≡ map (bytes_in version) i ++ u = cc (same) in
    let one : x ≡ y = one_in version x y (All-head (HasBytes version) x h eh) (All-head (HasBytes version) y i ei) bytes in
    elim (meeting version h i t u (All-tail (HasBytes version) x h eh) (All-tail (HasBytes version) y i ei) rest) [
      | inl both ↦ inl (λ k. one k ∷ both.0 k, both.1)
      | inr longer ↦ elim longer [
        | inl on ↦ inr (inl (cons_on version x y h i t one on))
        | inr on ↦ inr (inr (cons_on version y x i h u (sym one) on))
      ]
    ]

-- ---- items tell the accounts and the history

-- legal books that begin with the same accounts and have the same items are one
record AreOne (c d : Chart) (h i : List Entry) : Type 0 where
  chart : c ≡ d
  history : h ≡ i

one_book : (c d : Chart) (h i : List Entry) → IsLegal c h → IsLegal d i → bare c ≡ bare d → items_of c h ≡ items_of d i → AreOne c d h i
one_book c d h i lc ld start items =
    let none : Replayed = record { changes = []; entries = [] } in
    let left : Replayed = record { changes = c.changes; entries = h } in
    let right : Replayed = record { changes = d.changes; entries = i } in
    let both : left ≡ right =
    sym (replay_items c h lc.changes.in_order lc.changes.by_now) ∙ ap (λ (l : List Item). replay none l) items
    ∙ replay_items d i ld.changes.in_order ld.changes.by_now in
    record {
      chart = λ k. record { home = (start k).home; first = (start k).first; changes = (both k).changes };
      history = λ k. (both k).entries;
    }

-- no item that may stand next is the first of the rest
abbrev Stops : Version → Chart → List Entry → List (List ℕ) → Type 0
Stops version chart history rest = (item : Item) (others : List (List ℕ)) → IsNextOf version chart history item → rest ≡ bytes_in version item ∷ others → ⊥

-- so no legal book goes on after it
no_longer : (version : Version) (c d : Chart) (h i : List Entry) (rest : List (List ℕ)) → bare c ≡ bare d → IsLegal c h → IsLegal d i → Stops version c h rest
    → GoesOn version (items_of c h) (items_of d i) rest → ⊥
no_longer version c d h i rest start lc ld stops on =
    let was = was_cut (length on.more) d i (items_of c h) on.item on.more (omega arith) ld on.is in
    let past : Chart = record d { changes = was.changes } in
    let one = one_book c past h was.entries lc was.legal start (sym was.is) in
    let next : IsNextItem c h on.item = subst (λ (x : Chart × List Entry). IsNextItem x.0 x.1 on.item) (λ k. (sym one.chart k, sym one.history k)) was.next in
    stops on.item on.others (on.written, next) on.first

-- these are the records of a journal, as far as they go, and then the rest
record AreRead (version : Version) (all : List (List ℕ)) (chart : Chart) (history : List Entry) (rest : List (List ℕ)) : Type 0 where
  good : IsJournalIn version chart history
  is : all ≡ all_records_in version chart history ++ rest
  stops : Stops version chart history rest

-- they are so of one journal
one_end : (version : Version) (all : List (List ℕ)) (c d : Chart) (h i : List Entry) (t u : List (List ℕ)) → AreRead version all c h t → AreRead version all d i u
    → (c ≡ d) × (h ≡ i) × (t ≡ u)
one_end version all c d h i t u a b =
    let same : all_records_in version c h ++ t ≡ all_records_in version d i ++ u = sym a.is ∙ b.is in
    let heads : head_in version c ≡ head_in version d = cc (same) in
    let rest : map (bytes_in version) (items_of c h) ++ t ≡ map (bytes_in version) (items_of d i) ++ u = cc (same) in
    let start : bare c ≡ bare d = one_start version c d a.good.head b.good.head heads in
    elim (meeting version (items_of c h) (items_of d i) t u (items_have version c h a.good) (items_have version d i b.good) rest) [
      | inl both ↦ let one = one_book c d h i a.good.legal b.good.legal start both.0 in (one.chart, one.history, both.1)
      | inr longer ↦ elim longer [
        | inl on ↦ absurd (no_longer version c d h i t start a.good.legal b.good.legal a.stops on)
        | inr on ↦ absurd (no_longer version d c i h u (sym start) b.good.legal a.good.legal b.stops on)
      ]
    ]

-- ---- what bytes are

-- their first record is a header of this version, and of no other
has_head : (version : Version) (all : List (List ℕ)) (chart : Chart) (history : List Entry) (rest : List (List ℕ)) → AreRead version all chart history rest → HasHead version all
has_head version all chart history rest read = subst (HasHead version) (sym read.is) (bare chart, read.good.head, head_bare version chart)
  where
    head_bare : (version : Version) (chart : Chart) → head_in version chart ≡ head_in version (bare chart)
    head_bare One chart = refl
    head_bare Two chart = refl

one_version : (v : Version) (all : List (List ℕ)) → HasHead v all → HasHead (other v) all → ⊥
one_version v [] here there = here
one_version v (head ∷ records) here there = no_other v here.0 there.0 (sym here.2 ∙ there.2)

-- what bytes are whose records are so read
abbrev finding_of : Version → Reading → Chart → List Entry → List (List ℕ) → Finding
finding_of version no_journal chart history rest = no_book
finding_of version (whole all) chart history [] = book chart history
finding_of version (whole all) chart history (r ∷ rest) = faulty (size_of (all_records_in version chart history))
finding_of version (cut all end) chart history [] = faulty end
finding_of version (cut all end) chart history (r ∷ rest) = faulty (size_of (all_records_in version chart history))

record IsReadAs (version : Version) (reading : Reading) (finding : Finding) : Type 0 where
  chart : Chart
  history : List Entry
  rest : List (List ℕ)
  read : AreRead version (all_of reading) chart history rest
  says : finding ≡ finding_of version reading chart history rest

-- a reading that differs
no_whole : (all : List (List ℕ)) → no_journal ≡ whole all → ⊥
no_whole all same = cc

no_cut : (all : List (List ℕ)) (end : ℕ) (others : List (List ℕ)) → cut all end ≡ whole others → ⊥
no_cut all end others same = cc

-- what bytes are is no book, without a header; of the other version; or comes of their records
abbrev Class : Version → Reading → Finding → Type 0
Class version reading finding =
    ((finding ≡ no_book) × HasNoHead (all_of reading))
    ⊎ (((finding ≡ other_version (number_of (other version))) × HasHead (other version) (all_of reading)) ⊎ IsReadAs version reading finding)

-- the records of a journal, and nothing
all_read : (version : Version) (all : List (List ℕ)) (chart : Chart) (history : List Entry) → IsJournalIn version chart history → all ≡ all_records_in version chart history
    → AreRead version all chart history []
all_read version all chart history good is =
    record { good = good; is = is ∙ sym (append-nil (all_records_in version chart history)); stops = λ item others next same. cc (same) }

-- and one that may not stand next
refused_read : (version : Version) (all : List (List ℕ)) (chart : Chart) (history : List Entry) (at : ℕ) → IsJournalIn version chart history → (r : IsRefusedIn version chart history all at)
    → AreRead version all chart history (r.next ∷ r.more)
refused_read version all chart history at good r = record {
  good = good;
  is = r.is;
  stops = λ item others next same. r.refused item next (let first : r.next ≡ bytes_in version item = cc (same) in first);
}

classes : (version : Version) (reading : Reading) (finding : Finding) → IsFoundIn version reading finding → Class version reading finding
classes version reading no_book it = inl (refl, it)
classes version reading (other_version found) it = inr (inl (ap other_version it.1, it.0))
classes version no_journal (book chart history) it = absurd (no_whole (all_records_in version chart history) it.1)
classes version no_journal (faulty at) it = absurd (it.fault)
classes version (whole all) (book chart history) it =
    let same : all ≡ all_records_in version chart history = cc (it.1) in
    inr (inr (record { chart = chart; history = history; rest = []; read = all_read version all chart history it.0 same; says = refl }))
classes version (whole all) (faulty at) it =
    inr (inr (record {
      chart = it.chart;
      history = it.history;
      rest = it.fault.next ∷ it.fault.more;
      read = refused_read version all it.chart it.history at it.good it.fault;
      says = ap faulty it.fault.place;
    }))
classes version (cut all end) (book chart history) it = absurd (no_cut all end (all_records_in version chart history) it.1)
classes version (cut all end) (faulty at) it =
    elim (it.fault) [
      | inl refused ↦
          inr (inr (record {
            chart = it.chart;
            history = it.history;
            rest = refused.next ∷ refused.more;
            read = refused_read version all it.chart it.history at it.good refused;
            says = ap faulty refused.place;
          }))
      | inr none ↦
          inr (inr (record { chart = it.chart; history = it.history; rest = []; read = all_read version all it.chart it.history it.good none.0; says = ap faulty none.1 }))
    ]

-- two things that bytes are by their records are one
one_read : (v : Version) (reading : Reading) (a b : Finding) → IsReadAs v reading a → IsReadAs v reading b → a ≡ b
one_read v reading a b x y =
    let one = one_end v (all_of reading) x.chart y.chart x.history y.history x.rest y.rest x.read y.read in
    let same : finding_of v reading x.chart x.history x.rest ≡ finding_of v reading y.chart y.history y.rest = λ k. finding_of v reading (one.0 k) (one.1 k) (one.2 k) in
    x.says ∙ same ∙ sym y.says

-- and so are two of any kind
read_head : (v : Version) (reading : Reading) (a : Finding) → IsReadAs v reading a → HasHead v (all_of reading)
read_head v reading a x = has_head v (all_of reading) x.chart x.history x.rest x.read

one_class : (v : Version) (reading : Reading) (a b : Finding) → Class v reading a → Class v reading b → a ≡ b
one_class v reading a b ca cb =
    elim ca [
      | inl bare ↦ elim cb [
        | inl too ↦ bare.0 ∙ sym too.0
        | inr kind ↦ elim kind [
          | inl old ↦ absurd (bare.1 (other v) old.1)
          | inr y ↦ absurd (bare.1 v (read_head v reading b y))
        ]
      ]
      | inr known ↦ elim known [
        | inl old ↦ elim cb [
          | inl bare ↦ absurd (bare.1 (other v) old.1)
          | inr kind ↦ elim kind [
            | inl too ↦ old.0 ∙ sym too.0
            | inr y ↦ absurd (one_version v (all_of reading) (read_head v reading b y) old.1)
          ]
        ]
        | inr x ↦ elim cb [
          | inl bare ↦ absurd (bare.1 v (read_head v reading a x))
          | inr kind ↦ elim kind [
            | inl old ↦ absurd (one_version v (all_of reading) (read_head v reading a x) old.1)
            | inr y ↦ one_read v reading a b x y
          ]
        ]
      ]
    ]

-- what bytes are where records of a version are read is one thing only
pub one_finding_in : (version : Version) (reading : Reading) (a b : Finding) → IsFoundIn version reading a → IsFoundIn version reading b → a ≡ b
one_finding_in version reading a b fa fb = one_class version reading a b (classes version reading a fa) (classes version reading b fb)

-- and so as the journal of a book
pub one_finding : (reading : Reading) (a b : Finding) → IsFound reading a → IsFound reading b → a ≡ b
one_finding reading a b fa fb = one_finding_in Two reading a b fa fb
