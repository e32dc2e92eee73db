-- The history that published entries make.
use Rattle.std.proofs.Common.{◌≡◌, ⊎_elim, ℕ, ◌+◌, List, [], ◌∷◌, ◌++◌, length, take, Some, slice_get, refl, ap, sym, ◌∙◌, subst, arith, length-append, append_assoc}
use mathlib.Core.List.{IsPrefix}
use Rattle.day_model.specs.declared.entry.Entry.{Entry}
use Rattle.front_word.specs.declared.view.Act.{Act}
use Rattle.front_word.specs.Rule.{AreTagged, IsNumber}
use Rattle.front_word.proofs.laws.Prefixes.{get_snoc}
use Rattle.corr_books.specs.Stand.{entries_of, history_of}

-- the entries of two logs, one after the other, are those of the first and then those of the second
pub entries_of-append : (xs ys : List Act) → entries_of (xs ++ ys) ≡ entries_of xs ++ entries_of ys
entries_of-append [] ys = refl
entries_of-append (x ∷ xs) ys = ap (λ l. x.entry ∷ l) (entries_of-append xs ys)

pub length-entries_of : (xs : List Act) → length (entries_of xs) ≡ length xs
length-entries_of [] = refl
length-entries_of (x ∷ xs) = let e = length-entries_of xs in omega arith

-- a history has an entry for each act of the log, beside those that it began with
pub length-history_of : (start : List Entry) (log : List Act) → length (history_of start log) ≡ length start + length log
length-history_of start log = length-append start (entries_of log) ∙ ap (λ n. length start + n) (length-entries_of log)

-- one more act adds its entry to the history
pub history_of-push : (start : List Entry) (log : List Act) (a : Act) → history_of start (log ++ a ∷ []) ≡ history_of start log ++ a.entry ∷ []
history_of-push start log a = ap (λ l. start ++ l) (entries_of-append log (a ∷ [])) ∙ sym (append_assoc start (entries_of log) (a.entry ∷ []))

-- the front of a list that grew by one
pub take_front : {A : Type 0} (xs : List A) (y : A) → take (length xs) (xs ++ y ∷ []) ≡ xs
take_front [] y = refl
take_front (x ∷ xs) y = ap (λ l. x ∷ l) (take_front xs y)

-- one more entry that is tagged with a pass
pub tags_more : (made : ℕ) (log : List Act) (a : Act) → AreTagged made log → IsNumber made a.by → AreTagged made (log ++ a ∷ [])
tags_more made log a tags by i b e =
    ⊎_elim
    (λ (t : slice_get log i ≡ Some b). tags i b t)
    (λ (t : (i ≡ length log) × (a ≡ b)). subst (λ (x : Act). IsNumber made x.by) t.1 by)
    (get_snoc log a b i e)

-- what a pass knows makes a beginning of the history
pub history_prefix : (start : List Entry) (known log : List Act) → IsPrefix known log → IsPrefix (history_of start known) (history_of start log)
history_prefix start known log p =
    (entries_of p.0, append_assoc start (entries_of known) (entries_of p.0) ∙ ap (λ l. start ++ l) (sym (entries_of-append known p.0) ∙ ap entries_of p.1))
