-- What opening books tells, by what opening the journal's book told.
use Rattle.std.proofs.Common.{◌≡◌, ℕ, zero, suc, Bool, List, [], ◌∷◌, ◌++◌, length, take, Option, Some, None, ap, arith, refl, subst, sym}
use Rattle.std.specs.Prelude.{IfErr, IfOk, IfSome, IsTrue, Ok, Err, is_some, slice_get}
use Rattle.std.proofs.lemmas.Option.{same_Some, none-some}
use Rattle.corr_ids.specs.declared.day.Day.{Day}
use Rattle.day_model.specs.declared.entry.Entry.{Entry}
use Rattle.day_model.specs.Laws.{IsLatest}
use Rattle.jrn_book.specs.Book.{Book}
use Rattle.jrn_book.specs.Journal.{IsJournal}
use Rattle.jrn_book.specs.Opening.{Finding, book, IsFound, found_by}
use Rattle.jrn_file.specs.File.{disk_of}
use Rattle.jrn_file.specs.Reading.{Reading}
use Rattle.jrn_file.specs.declared.fault.OpenFault.{OpenFault}
use Rattle.corr_books.specs.declared.opening.BooksFault.{BooksFault}
use Rattle.corr_books.specs.declared.opening.BooksFault.TheVariants.{Open, DateBack}
use Rattle.corr_books.specs.Finding.{OpenedBooks, RefusesAs, ShowsBack, TellsOf}
use Rattle.corr_books.specs.inner.Finding.{BeginsNot}
use Rattle.corr_books.specs.Opening.{Parts, parts_from}

-- a list ends with its last element
pub ends_at : (xs : List Entry) (k : ℕ) (e : Entry) → slice_get xs k ≡ Some e → suc k ≡ length xs → xs ≡ take k xs ++ e ∷ []
ends_at [] k e at len = absurd (none-some e at)
ends_at (x ∷ []) zero e at len = ap (λ y. y ∷ []) (same_Some x e at)
ends_at (x ∷ y ∷ xs) zero e at len = absurd (omega (arith, len))
ends_at (x ∷ xs) (suc k) e at len = ap (λ l. x ∷ l) (ends_at xs k e at (omega (arith, len)))

-- a refusal of the journal's book is what the bytes give
pub tells_refused : (reading : Reading) (told : Option Finding) → IfSome told (IsFound reading) → IsTrue (is_some told) → (finding : Finding) × IsFound reading finding × IfSome told (λ found. found ≡ finding)
tells_refused reading None is bytes = absurd (cc (bytes))
tells_refused reading (Some finding) is bytes = (finding, is, refl)

module _ {D : Type 0} (b : Book D) (day : Day) where
  -- the parts of the answer are the book's
  abbrev AreParts : OpenedBooks D → Type 0
  AreParts answer = IfOk answer (λ o. o ≡ parts_from b day o.word)

  abbrev Latest : OpenedBooks D → Type 0
  Latest answer = IfOk answer (λ _. IsLatest b.history day)

  -- or they were not begun, and the disk comes back
  abbrev NotBegun : OpenedBooks D → Type 0
  NotBegun answer = IfErr answer (λ e. (e.0 ≡ disk_of b.file) × BeginsNot b.history day e.1)

  same_book : (o : Parts D) → o ≡ parts_from b day o.word → book b.accounts b.history ≡ book o.accounts o.base
  same_book o parts =
      let accounts : b.accounts ≡ o.accounts = ap (λ (p : Parts D). p.accounts) (sym parts) in
      let base : b.history ≡ o.base = ap (λ (p : Parts D). p.base) (sym parts) in λ i. book (accounts i) (base i)

  latest_of : (o : Parts D) → o ≡ parts_from b day o.word → IsLatest b.history day → IsLatest o.base day
  latest_of o parts latest = subst (λ (h : List Entry). IsLatest h day) (ap (λ (p : Parts D). p.base) (sym parts)) latest

  refuses : (fault : BooksFault) → BeginsNot b.history day fault → RefusesAs day fault (book b.accounts b.history)
  refuses (Open fault) memory = subst (λ (f : OpenFault). IfSome (found_by f) (λ found. found ≡ book b.accounts b.history)) (sym memory) tt
  refuses (DateBack last) back = back

  -- what is told of the bytes of a book
  pub tells : (reading : Reading) (answer : OpenedBooks D) → AreParts answer → Latest answer → NotBegun answer → IsFound reading (book b.accounts b.history) → TellsOf reading day answer
  tells reading (Ok o) parts latest left found = λ _. (book b.accounts b.history, found, (same_book o parts, latest_of o parts latest))
  tells reading (Err e) parts latest left found = λ _. (book b.accounts b.history, found, refuses e.1 left.1)

  -- no entry of the parts is later
  pub latest_in : (answer : OpenedBooks D) → AreParts answer → Latest answer → IfOk answer (λ o. IsLatest o.base day)
  latest_in (Ok o) parts latest = latest_of o parts latest
  latest_in (Err e) parts latest = tt

  -- the parts are those of a journal
  pub journal_in : (answer : OpenedBooks D) → AreParts answer → IsJournal b.accounts b.history → IfOk answer (λ o. IsJournal o.accounts o.base)
  journal_in (Ok o) parts journal = subst (λ (p : Parts D). IsJournal p.accounts p.base) (sym parts) journal
  journal_in (Err e) parts journal = tt

  back_of : (reading : Reading) (honest : Bool) (fault : BooksFault) → BeginsNot b.history day fault → IsJournal b.accounts b.history → (IsTrue honest → IsFound reading (book b.accounts b.history)) → ShowsBack reading honest day fault
  back_of reading honest (Open fault) begins journal found = tt
  back_of reading honest (DateBack last) begins journal found = record { accounts = b.accounts; history = b.history; journal = journal; found = found; back = begins }

  -- a day that is before that of the last entry is refused for the journal that was opened
  pub shows_back : (reading : Reading) (honest : Bool) (answer : OpenedBooks D) → NotBegun answer → IsJournal b.accounts b.history → (IsTrue honest → IsFound reading (book b.accounts b.history)) → IfErr answer (λ e. ShowsBack reading honest day e.1)
  shows_back reading honest (Ok o) left journal found = tt
  shows_back reading honest (Err e) left journal found = back_of reading honest e.1 left.1 journal found
