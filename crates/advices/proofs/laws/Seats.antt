-- Fields that are taken over stand at a place of the message that is sent, and pass the test of that place.
use Rattle.std.proofs.Common.{◌≡◌, ℕ, ◌+◌, ◌≤◌, Bool, true, false, cond, List, [], ◌∷◌, ◌++◌, length, drop, Option, Some, None, Result, Ok, refl, ap, ◌∙◌, arith, inl, inr}
use Rattle.std.specs.Prelude.{find, IfSome}
use Rattle.std.specs.List.{AllByRecursion, flat_map}
use Rattle.corr_text.specs.First.{fault_of, first_of}
use Rattle.corr_text.specs.declared.fault.Code.{Code}
use Rattle.fin_fields.specs.declared.field.Field.{Field}
use Rattle.fin_layout.specs.declared.place.Place.{Place}
use Rattle.fin_layout.specs.Order.{free_after}
use Rattle.fin_layout.specs.inner.Segments.{IsFirst, Segment, Segments}
use Rattle.fin_layout.specs.Tests.{tests}
use Rattle.fin_layout.proofs.laws.Fine.{IsTestOf}
use Rattle.fin_contents.specs.Writing.{some_field}
use Rattle.day_model.specs.declared.pay.Skip.{Skip}
use Rattle.day_model.specs.declared.pay.Skip.TheVariants.{Keep, Mid, Both}
use Rattle.advices.specs.Fields.{copied, copied_all, is_named, kept}
use Rattle.advices.specs.Transfer.{account_bank, intermediary}
use Rattle.advices.proofs.laws.Copies.{SaysNamed, each-says, found-each, only_from}
use Rattle.advices.proofs.laws.Fit.{both-each}
use Rattle.advices.proofs.laws.Fitted.{Fine, first-named, first_for, no-field, one-named}

-- the fields of the place n after `low`: they stand there, and each passes its test
pub record Seated (order : List Place) (test : ℕ → Field → Option Code) (low n : ℕ) (s : List Field) : Type 0 where
  pub placed : Segment order low (low + n) s
  pub passing : AllByRecursion (λ f. test (low + n) f ≡ None) s

pub none-seated : (order : List Place) (test : ℕ → Field → Option Code) (low n : ℕ) → Seated order test low n []
none-seated order test low n = record { placed = no-field order low (low + n); passing = tt }

-- and so are some fields and others together, at a place that takes more than one
pub both-seated : (order : List Place) (test : ℕ → Field → Option Code) (low n : ℕ) (s r : List Field) → free_after order (low + n) ≡ low + n
    → Seated order test low n s → Seated order test low n r → Seated order test low n (s ++ r)
both-seated order test low n s r many one other = record {
  placed = record { each = both-each (IsFirst order low (low + n)) s r one.placed.each other.placed.each; single = inl many };
  passing = both-each (λ f. test (low + n) f ≡ None) s r one.passing other.passing;
}

-- the fields of each place from j on, in turn: they stand there, and each passes the test of its place
pub record AllSeated (order : List Place) (test : ℕ → Field → Option Code) (low j : ℕ) (segs : List (List Field)) : Type 0 where
  pub placed : Segments order low j segs
  pub passing : Fine test j segs

-- after the last place
pub no-more : (order : List Place) (test : ℕ → Field → Option Code) (low j : ℕ) → AllSeated order test low j []
no-more order test low j = record { placed = tt; passing = tt }

-- the fields of a place, and then those of the places after it
infixr 5 ◌▸◌
pub ◌▸◌ : {order : List Place} {test : ℕ → Field → Option Code} {low n : ℕ} {s : List Field} {segs : List (List Field)} → Seated order test low n s
    → AllSeated order test low (low + n + 1) segs → AllSeated order test low (low + n) (s ∷ segs)
◌▸◌ {low = low} here later = record { placed = (here.placed, (low, inl (omega arith), later.placed)); passing = (here.passing, later.passing) }

-- the fields of a place, one at least, and then those of the places after it, which are looked for from `next` on
pub opening : {order : List Place} {test : ℕ → Field → Option Code} {low n next : ℕ} {s : List Field} {segs : List (List Field)}
    → Seated order test low n s
    → AllSeated order test next (low + n + 1) segs → 1 ≤ length s → next ≤ free_after order (low + n) → AllSeated order test low (low + n) (s ∷ segs)
opening {next = next} here later long free = record {
  placed = (here.placed, (next, inr (long, free), later.placed));
  passing = (here.passing, later.passing);
}

module _ {A : Type 0} (order : List Place) (test : ℕ → Field → Option Code) (low n tag : ℕ) (letters : List ℕ) (read : Field → Result A Code)
    (of : IsTestOf test (low + n) read) (is : first_for tag letters (drop low order) n ≡ true) where
  -- a field of the name that says what is wanted
  passing-says : (f : Field) (x : A) → read f ≡ Ok x → test (low + n) f ≡ None
  passing-says f x e = of f ∙ ap (λ (r : Result A Code). fault_of r) e

  pub one-seated : (f : Field) (x : A) → is_named tag letters f ≡ true → read f ≡ Ok x → Seated order test low n (f ∷ [])
  one-seated f x named e = record { placed = one-named order low n tag letters f is named; passing = (passing-says f x e, tt) }

  pub some-seated : (o : Option Field) → IfSome o (λ f. (is_named tag letters f ≡ true) × SaysNamed tag letters read f)
      → Seated order test low n (some_field (λ f. f) o)
  some-seated None h = none-seated order test low n
  some-seated (Some f) h = let says = h.1 h.0 in one-seated f says.0 h.0 says.1

  -- each field that passes a test which only fields of the name pass
  module _ (chosen : Field → Bool) (named : (f : Field) → chosen f ≡ true → is_named tag letters f ≡ true) where
    kept-placed : (f : Field) (more : List Field) (b : Bool) → chosen f ≡ b → AllByRecursion (IsFirst order low (low + n)) more
        → AllByRecursion (IsFirst order low (low + n)) (cond b (f ∷ []) [] ++ more)
    kept-placed f more true e later = (first-named order low n tag letters f is (named f e), later)
    kept-placed f more false e later = later

    all-placed : (fs : List Field) → AllByRecursion (IsFirst order low (low + n)) (flat_map (kept chosen) fs)
    all-placed [] = tt
    all-placed (f ∷ fs) = kept-placed f (flat_map (kept chosen) fs) (chosen f) refl (all-placed fs)

    kept-passing : (f : Field) (more : List Field) (b : Bool) → chosen f ≡ b → SaysNamed tag letters read f
        → AllByRecursion (λ g. test (low + n) g ≡ None) more → AllByRecursion (λ g. test (low + n) g ≡ None) (cond b (f ∷ []) [] ++ more)
    kept-passing f more true e says later = let x = says (named f e) in (passing-says f x.0 x.1, later)
    kept-passing f more false e says later = later

    all-passing : (fs : List Field) → AllByRecursion (SaysNamed tag letters read) fs
        → AllByRecursion (λ g. test (low + n) g ≡ None) (flat_map (kept chosen) fs)
    all-passing [] all = tt
    all-passing (f ∷ fs) all = kept-passing f (flat_map (kept chosen) fs) (chosen f) refl all.0 (all-passing fs all.1)

    pub all-seated : (fs : List Field) → free_after order (low + n) ≡ low + n → AllByRecursion (SaysNamed tag letters read) fs
        → Seated order test low n (copied_all chosen fs)
    all-seated fs many all = record { placed = record { each = all-placed fs; single = inl many }; passing = all-passing fs all }

-- the first field of a name, of a message whose fields pass their tests, where each place of the name asks for the same
pub copy-seated : {A : Type 0} (source : List Place) (before : ℕ → Field → Option Code) (fs : List Field) → first_of (tests source before fs) ≡ None
    → (order : List Place) (test : ℕ → Field → Option Code)
    → (low n tag : ℕ) (letters ks : List ℕ) (read : Field → Result A Code) → only_from tag letters ks 0 source ≡ true
    → AllByRecursion (λ k. IsTestOf before k read) ks
    → IsTestOf test (low + n) read → first_for tag letters (drop low order) n ≡ true → Seated order test low n (copied tag letters fs)
copy-seated source before fs none order test low n tag letters ks read only were of is =
    some-seated order test low n tag letters read of is (find (is_named tag letters) fs)
    (found-each (SaysNamed tag letters read) (is_named tag letters) fs (each-says source before fs none tag letters ks read only were))

-- ---- 56a and 57a, where they are passed on

pub seated-56 : (order : List Place) (test : ℕ → Field → Option Code) (low n : ℕ) (skip : Skip) (fs : List Field)
    → Seated order test low n (intermediary Keep fs) → Seated order test low n (intermediary skip fs)
seated-56 order test low n Keep fs s = s
seated-56 order test low n Mid fs s = none-seated order test low n
seated-56 order test low n Both fs s = none-seated order test low n

pub seated-57 : (order : List Place) (test : ℕ → Field → Option Code) (low n : ℕ) (skip : Skip) (fs : List Field)
    → Seated order test low n (account_bank Keep fs) → Seated order test low n (account_bank skip fs)
seated-57 order test low n Keep fs s = s
seated-57 order test low n Mid fs s = s
seated-57 order test low n Both fs s = none-seated order test low n
