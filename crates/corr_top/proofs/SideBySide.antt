-- What is made of two parts of a list side by side is, put together, what is made of the list.
use Rattle.std.proofs.Common.{◌≡◌, inl, inr, ℕ, zero, suc, ◌+◌, ◌-◌, ◌<◌, ◌≤◌, List, [], ◌∷◌, ◌++◌, Some, Result, Ok, Err, refl, sym, ap, ◌∙◌, subst, arith, append_assoc, drop, length, take}
use Rattle.std.specs.Prelude.{IfOk, slice_get}
use Rattle.std.proofs.lemmas.Bool.{cases_lt}
use Rattle.std.proofs.lemmas.List.{take_all}
use Rattle.corr_report.specs.Lines.{numbered}
use Rattle.day_model.specs.Chart.{Chart}
use Rattle.day_model.specs.declared.entry.Entry.{Entry}
use Rattle.corr_top.specs.Out.{entry_out, sent_from}
use Rattle.corr_top.specs.inner.Origin.{SendsAccepted}
use Rattle.corr_top.specs.inner.Sides.{IsSentOf}

-- what is made of numbered elements from a up to c is what is made of those up to b, and then of those from b on
numbered_parts : {A : Type 0} (line_of : ℕ → A → List ℕ) (xs : List A) (a b c n m : ℕ) → a ≤ b → b ≤ c → m ≡ n + (b - a)
    → numbered line_of n (drop a (take c xs)) ≡ numbered line_of n (drop a (take b xs)) ++ numbered line_of m (drop b (take c xs))
numbered_parts line_of [] zero zero zero n m ab bc is = refl
numbered_parts line_of [] zero zero (suc c) n m ab bc is = refl
numbered_parts line_of [] zero (suc b) (suc c) n m ab bc is = refl
numbered_parts line_of [] zero (suc b) zero n m ab bc is = absurd (omega (arith, bc))
numbered_parts line_of [] (suc a) zero c n m ab bc is = absurd (omega (arith, ab))
numbered_parts line_of [] (suc a) (suc b) zero n m ab bc is = absurd (omega (arith, bc))
numbered_parts line_of [] (suc a) (suc b) (suc c) n m ab bc is = refl
numbered_parts {A} line_of (x ∷ xs) zero zero c n m ab bc is = ap (λ (k : ℕ). numbered line_of k (take c (x ∷ xs))) (let e : n ≡ m = omega (arith, is) in e)
numbered_parts line_of (x ∷ xs) zero (suc b) zero n m ab bc is = absurd (omega (arith, bc))
numbered_parts {A} line_of (x ∷ xs) zero (suc b) (suc c) n m ab bc is =
    ap (λ (l : List ℕ). line_of n x ++ l) (numbered_parts line_of xs zero b c (n + 1) m (omega (arith)) (omega (arith, bc)) (omega (arith, is)))
    ∙ sym (append_assoc (line_of n x) (numbered line_of (n + 1) (take b xs)) (numbered line_of m (drop b (take c xs))))
numbered_parts line_of (x ∷ xs) (suc a) zero c n m ab bc is = absurd (omega (arith, ab))
numbered_parts line_of (x ∷ xs) (suc a) (suc b) zero n m ab bc is = absurd (omega (arith, bc))
numbered_parts line_of (x ∷ xs) (suc a) (suc b) (suc c) n m ab bc is = numbered_parts line_of xs a b c n m (omega (arith, ab)) (omega (arith, bc)) (omega (arith, is))

-- the same of all elements, cut once
pub numbered_cut : {A : Type 0} (line_of : ℕ → A → List ℕ) (n k : ℕ) (xs : List A) → k ≤ length xs → numbered line_of n xs ≡ numbered line_of n (take k xs) ++ numbered line_of (n + k) (drop k xs)
numbered_cut {A} line_of n k xs within =
    subst (λ (l : List A). numbered line_of n l ≡ numbered line_of n (take k xs) ++ numbered line_of (n + k) (drop k l)) (take_all (length xs) xs (omega arith))
    (numbered_parts line_of xs 0 k (length xs) n (n + k) (omega arith) within (omega arith))

-- what stands in a front part ahead of a place stands in the front part up to that place
in_shorter : {A : Type 0} (xs : List A) (b c i : ℕ) (x : A) → i < b → slice_get (take c xs) i ≡ Some x → slice_get (take b xs) i ≡ Some x
in_shorter [] zero zero i x less at = absurd (omega (arith, less))
in_shorter [] (suc b) zero i x less at = at
in_shorter [] zero (suc c) i x less at = at
in_shorter [] (suc b) (suc c) i x less at = at
in_shorter (y ∷ xs) zero c i x less at = absurd (omega (arith, less))
in_shorter (y ∷ xs) (suc b) zero zero x less at = absurd (cc (at))
in_shorter (y ∷ xs) (suc b) zero (suc i) x less at = absurd (cc (at))
in_shorter (y ∷ xs) (suc b) (suc c) zero x less at = at
in_shorter (y ∷ xs) (suc b) (suc c) (suc i) x less at = in_shorter xs b c i x (omega (arith, less)) at

-- what is sent of the entries of some places, and then of those after them
sent_joined : (chart : Chart) (entries : List Entry) (from next until : ℕ) (front back : List ℕ) → 1 ≤ from → from ≤ next → next ≤ until + 1
    → IsSentOf chart entries from (next - 1) front → IsSentOf chart entries next until back → IsSentOf chart entries from until (front ++ back)
sent_joined chart entries from next until front back first low high f b = (
  ap (λ (l : List ℕ). l ++ back) f.0 ∙ ap (λ (l : List ℕ). sent_from chart from (take (next - 1) entries) ++ l) b.0
      ∙ sym (numbered_parts (entry_out chart) entries (from - 1) (next - 1) until from next (omega arith) (omega arith) (omega arith)),
  λ i e after at. elim (cases_lt (i + 1) next) [
    | inl less ↦ f.1 i e after (in_shorter entries (next - 1) until i e (omega (arith, less)) at)
    | inr more ↦ b.1 i e more at
  ],
)

-- the same of texts that were put together, if there was memory
pub sent_both : {E : Type 0} (chart : Chart) (entries : List Entry) (from next until : ℕ) (front back : List ℕ) (both : Result (List ℕ) E) → 1 ≤ from → from ≤ next → next ≤ until + 1
    → IsSentOf chart entries from (next - 1) front → IsSentOf chart entries next until back → IfOk both (λ text. text ≡ front ++ back) → IfOk both (IsSentOf chart entries from until)
sent_both chart entries from next until front back (Ok text) first low high f b is = subst (IsSentOf chart entries from until) (sym is) (sent_joined chart entries from next until front back first low high f b)
sent_both chart entries from next until front back (Err e) first low high f b is = tt

-- what is sent up to the last entry or past it is what is sent of all
pub sent_whole : (chart : Chart) (entries : List Entry) (from n : ℕ) (text : List ℕ) → length entries ≤ n → IsSentOf chart entries from n text → (text ≡ sent_from chart from entries) × SendsAccepted chart from entries
sent_whole chart entries from n text past is = subst (λ (es : List Entry). (text ≡ sent_from chart from es) × SendsAccepted chart from es) (take_all n entries past) is
