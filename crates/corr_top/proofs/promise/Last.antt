-- What a crash leaves at the end of a command that enters: the books, or them and the entries that are named for each moment of it.
use Rattle.std.proofs.Common.{◌≡◌, ◌⊎◌, ◌≤◌, ◌+◌, ℕ, All, List, [], ◌++◌, inl, inr, length, sym, ap, ◌∙◌, subst, arith}
use Rattle.std.proofs.lemmas.List.{append-nil, length-append, nil_from_length}
use Rattle.std.proofs.lemmas.List.Elements.{All-append}
use Rattle.std.specs.Prelude.{IsTrue}
use Rattle.corr_books.specs.Moments.{StandsBetween, StandsWithMore}
use Rattle.corr_disk.specs.declared.disk.Disk as disks
use Rattle.corr_ids.specs.declared.day.Day.{Day}
use Rattle.corr_text.specs.Faults.{Rose}
use Rattle.day_model.specs.Chart.{Chart}
use Rattle.day_model.specs.Legal.{AreLegalChanges, FollowsRules, IsLegal}
use Rattle.day_model.specs.declared.entry.Entry.{Entry}
use Rattle.day_model.proofs.laws.Fronts.{changes_longer, rules_front}
use Rattle.jrn_book.specs.Book.{IsLeftBy}
use Rattle.jrn_book.specs.Journal.{IsJournal, IsWithOrWithout, StandsForBook}
use Rattle.jrn_book.specs.Opening.{book}
use Rattle.jrn_book.proofs.laws.Findings.{one_finding}
use Rattle.jrn_codec.specs.Record.{IsEntry}
use Rattle.jrn_file.specs.Reading.{opened_of}
use Rattle.corr_top.specs.OnDisk.{up_to}
use Rattle.corr_top.specs.promises.Books.{AreBooks, AtEachMoment, Keeps}
use Rattle.corr_top.proofs.Fronts.{All-front}

-- a law of disks: what a crash may leave now, one since an earlier moment might have left
abbrev pub CountsNow : {D : Type 0} → disks.Ghosts D → Type 0
CountsNow {D = D} disk = (d : D) (t : ℕ) (c : List ℕ) → t ≤ disk.moment d → disk.may_leave d c → disk.left_since d t c

-- bytes that stand for a front part of the books, and for these with entries more, stand for the books
front_or_more : (chart : Chart) (first books entries : List Entry) (image : List ℕ) → IsJournal chart first → IsJournal chart books → All IsEntry entries → IsLegal chart (books ++ entries)
    → StandsBetween chart first books image → StandsForBook image chart (books ++ entries) → StandsForBook image chart books
front_or_more chart first books entries image was now written legal between stands =
    let front = between.history in
    let rest = between.begins.0 in
    let on : first ++ between.goes_on.0 ≡ front = between.goes_on.1 in
    let ends : front ++ rest ≡ books = between.begins.1 in
    let changes : AreLegalChanges chart front = subst (λ (es : List Entry). AreLegalChanges chart es) on (changes_longer chart first between.goes_on.0 was.legal.changes) in
    let rules : FollowsRules chart front = rules_front chart front rest (subst (λ (es : List Entry). FollowsRules chart es) (sym ends) now.legal.rules) in
    let short : IsJournal chart front = record {
      head = now.head;
      book = now.book;
      codes = now.codes;
      changes = now.changes;
      entries = All-front IsEntry front rest (subst (λ (es : List Entry). All IsEntry es) (sym ends) now.entries);
      legal = record { rules = rules; changes = changes };
    } in
    let long : IsJournal chart (books ++ entries) = record {
      head = now.head;
      book = now.book;
      codes = now.codes;
      changes = now.changes;
      entries = All-append IsEntry books entries now.entries written;
      legal = legal;
    } in
    let same = one_finding (opened_of image) (book chart front) (book chart (books ++ entries)) (short, between.stands) (long, stands) in
    let histories : front ≡ books ++ entries = cc (same) in
    let one : length front ≡ length books + length entries = ap (λ (es : List Entry). length es) histories ∙ length-append books entries in
    let two : length front + length rest ≡ length books = sym (length-append front rest) ∙ ap (λ (es : List Entry). length es) ends in
    let none : entries ≡ [] = nil_from_length entries (omega (arith, one, two)) in
    subst (λ (es : List Entry). StandsForBook image chart es) (ap (λ (es : List Entry). books ++ es) none ∙ append-nil books) stands

module _ {D : Type 0} (disk : disks.Ghosts D) (old new : D) (chart : Chart) (first books more : List Entry) (day : Day) (most : ℕ) where
  -- the entries that a crash at the end may leave are those that one at a moment before it may
  pub last_leaves : CountsNow disk → IsTrue (disk.honest new) → disk.moment old ≤ disk.moment new → AreBooks chart first
      → Keeps disk new chart books ⊎ (Rose (disk.faults old) (disk.faults new) × AreBooks chart books × IsLeftBy (disk.honest new) (disk.may_leave new) chart books (up_to most day))
      → AtEachMoment disk old new (λ image. StandsBetween chart first books image ⊎ (Rose (disk.faults old) (disk.faults new) × StandsWithMore chart books day most more image))
      → (image : List ℕ) → disk.may_leave new image → IsWithOrWithout chart books more image
  last_leaves counts told later was (inl kept) moments image left = inl (kept.crash image left)
  last_leaves counts told later was (inr failed) moments image left =
      let by = failed.2 in
      elim (by.images told image left) [
        | inl without ↦ inl without
        | inr longer ↦ elim (moments image (counts new (disk.moment old) image later left)) [
          | inl between ↦ inl (front_or_more chart first books by.entries image was.journal failed.1.journal by.written by.legal between longer)
          | inr since ↦ inr since.1.stands
        ]
      ]
