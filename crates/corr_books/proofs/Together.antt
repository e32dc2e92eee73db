-- What all answers of a batch say together.
use Rattle.std.proofs.Common.{◌≡◌, ⊎_elim, ℕ, zero, suc, ◌<◌, ◌≤◌, true, false, List, [], ◌∷◌, length, replicate, Ok, Err, refl, sym, ◌∙◌, subst, arith}
use Rattle.std.specs.List.{list_all, list_any}
use Rattle.std.proofs.lemmas.Bool.{and_parts, cases_lt, or_parts}
use mathlib.Core.List.{IsPrefix}
use Rattle.day_model.specs.declared.pay.Pay.{Pay}
use Rattle.front_word.specs.declared.view.Act.{Act}
use Rattle.front_word.specs.Known.{PassKnows}
use Rattle.front_word.proofs.laws.Prefixes.{get_below, prefix_get_back, prefix_self, prefix_trans}
use Rattle.jrn_book.specs.Answers.{Answer}
use Rattle.jrn_book.specs.Batches.{is_memory, is_new}
use Rattle.jrn_book.specs.declared.answer.Committed.TheVariants.{New, Kept}
use Rattle.jrn_book.specs.declared.answer.CommitFault.TheVariants.{Conflict, Full, DiskFault, Broken, Memory}
use Rattle.corr_books.specs.Opening.{Opening}
use Rattle.corr_books.specs.Telling.{NothingAdded, Told}
use Rattle.corr_books.specs.TellingAll.{AreUntried, NoneEntered, NoneTried, OneOf, ToldAll, stops}
use Rattle.corr_books.proofs.Telling.{either_way}

-- a pass knows what it knew, and nothing tagged with it was added
record AddsNone (old new : PassKnows) : Type 0 where
  pub number : new.number ≡ old.number
  pub known : IsPrefix old.known new.known
  pub added : NothingAdded old new

-- it is the same
adds_none_self : (p : PassKnows) (spare : ℕ) → AddsNone p (record p { spare = spare })
adds_none_self p spare = record {
  number = refl;
  known = prefix_self p.known;
  added = λ (i : ℕ) (a : Act) at le by. let lt = get_below p.known i a at in omega (arith, lt, le);
}

adds_none_same : (old new : PassKnows) → new ≡ record old { spare = new.spare } → AddsNone old new
adds_none_same old new same = subst (AddsNone old) (sym same) (adds_none_self old new.spare)

-- one after another
adds_none_on : (p q r : PassKnows) → AddsNone p q → AddsNone q r → AddsNone p r
adds_none_on p q r first then = record {
  number = then.number ∙ first.number;
  known = prefix_trans p.known q.known r.known first.known then.known;
  added = λ (i : ℕ) (a : Act) at le by. ⊎_elim
      (λ (lt : i < length q.known). first.added i a (prefix_get_back q.known r.known i a then.known lt at) le by)
      (λ (past : length q.known ≤ i). then.added i a at past (by ∙ sym first.number))
      (cases_lt i (length q.known));
}

-- an answer that enters no pay
adds_none : (o : Opening) (pay : Pay) (answer : Answer) (old new : PassKnows) → Told o pay old answer new → is_new answer ≡ false → AddsNone old new
adds_none o pay (Ok (New place outcome)) old new told none = absurd (cc (none))
adds_none o pay (Ok (Kept place outcome)) old new told none = let g = told.grows tt in record { number = g.number; known = g.known; added = told.says.1 }
adds_none o pay (Err (Conflict place)) old new told none = let g = told.grows tt in record { number = g.number; known = g.known; added = told.says.1 }
adds_none o pay (Err (Full entries end need)) old new told none = let g = told.grows tt in record { number = g.number; known = g.known; added = told.says.1 }
adds_none o pay (Err (DiskFault before after)) old new told none = let g = told.grows tt in record { number = g.number; known = g.known; added = told.says.4 }
adds_none o pay (Err (Broken from now)) old new told none = let g = told.grows tt in record { number = g.number; known = g.known; added = told.says.3 }
adds_none o pay (Err Memory) old new told none = adds_none_same old new (told.memory refl)

-- and several
adds_none_in_turn : (o : Opening) (pays : List Pay) (answers : List Answer) (old new : PassKnows) → ToldAll o pays old answers new → list_any is_new answers ≡ false → AddsNone old new
adds_none_in_turn o [] [] old new told none = subst (AddsNone old) (sym told) (adds_none_self old old.spare)
adds_none_in_turn o [] (answer ∷ answers) old new told none = absurd told
adds_none_in_turn o (pay ∷ pays) [] old new told none = absurd told
adds_none_in_turn o (pay ∷ pays) (answer ∷ answers) old new told none =
    let parts = or_parts (is_new answer) (list_any is_new answers) none in
    adds_none_on old told.0 new (adds_none o pay answer old told.0 told.1 parts.0)
    (either_way (stops answer)
    (λ (ended : (new ≡ told.0) × AreUntried o new answer pays answers). subst (AddsNone told.0) (sym ended.0) (adds_none_self told.0 told.0.spare))
    (λ (on : ToldAll o pays told.0 answers new). adds_none_in_turn o pays answers told.0 new on parts.1)
    told.2)

-- the clause on batches that stop, where no answer says that a pay was entered
pub none_entered : (o : Opening) (pays : List Pay) (answers : List Answer) (old new : PassKnows) → ToldAll o pays old answers new → list_any is_new answers ≡ false → NoneEntered old new answers
none_entered o pays answers old new told none = record { told = none; added = (adds_none_in_turn o pays answers old new told none).added }

-- want of memory stops a batch at its first pay
first_untried : (o : Opening) (pay : Pay) (answer : Answer) (pays : List Pay) (answers : List Answer) (old next new : PassKnows) → is_memory answer ≡ true → Told o pay old answer next
    → OneOf (stops answer) ((new ≡ next) × AreUntried o new answer pays answers) (ToldAll o pays next answers new) → new ≡ record old { spare = new.spare }
first_untried o pay (Ok committed) pays answers old next new is told rest = absurd (cc (is))
first_untried o pay (Err (Conflict place)) pays answers old next new is told rest = absurd (cc (is))
first_untried o pay (Err (Full entries end need)) pays answers old next new is told rest = absurd (cc (is))
first_untried o pay (Err (DiskFault before after)) pays answers old next new is told rest = absurd (cc (is))
first_untried o pay (Err (Broken from now)) pays answers old next new is told rest = absurd (cc (is))
first_untried o pay (Err Memory) pays answers old next new is told rest = subst (λ (p : PassKnows). p ≡ record old { spare = p.spare }) (sym rest.0) (told.memory refl)

pub none_tried_all : (o : Opening) (pays : List Pay) (answers : List Answer) (old new : PassKnows) → ToldAll o pays old answers new → list_any is_memory answers ≡ true → list_all is_memory answers ≡ true
    → NoneTried old new answers
none_tried_all o [] [] old new told some all = absurd (cc (some))
none_tried_all o [] (answer ∷ answers) old new told some all = absurd told
none_tried_all o (pay ∷ pays) [] old new told some all = absurd told
none_tried_all o (pay ∷ pays) (answer ∷ answers) old new told some all = record {
  all = all;
  pass = first_untried o pay answer pays answers old told.0 new (and_parts (is_memory answer) (list_all is_memory answers) all).0 told.1 told.2;
}

-- where there is no memory for as many pays
all_memory : (count : ℕ) → list_all is_memory (replicate count (Err Memory)) ≡ true
all_memory zero = refl
all_memory (suc count) = all_memory count

none_new : (count : ℕ) → list_any is_new (replicate count (Err Memory)) ≡ false
none_new zero = refl
none_new (suc count) = none_new count

pub memory_enters_none : (old new : PassKnows) (count : ℕ) → new ≡ record old { spare = new.spare } → NoneEntered old new (replicate count (Err Memory))
memory_enters_none old new count same = record { told = none_new count; added = (adds_none_same old new same).added }

pub memory_tries_none : (old new : PassKnows) (count : ℕ) → new ≡ record old { spare = new.spare } → NoneTried old new (replicate count (Err Memory))
memory_tries_none old new count same = record { all = all_memory count; pass = same }
