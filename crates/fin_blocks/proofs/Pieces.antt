-- Reading the pieces of a block one by one.
use Rattle.std.proofs.Common.{◌≡◌, ℕ, ◌<◌, false, List, [], ◌∷◌, ◌++◌, length, Option, Some, None, refl, sym, ap, ◌∙◌, append_assoc, inl, inr, arith}
use Rattle.std.specs.Option.{option_and_then}
use Rattle.std.proofs.lemmas.List.{append-nil}
use Rattle.std.proofs.lemmas.Bool.{cases_Bool}
use Rattle.std.specs.Prelude.{◌==◌}
use Rattle.corr_text.specs.Braces.{depth_after}
use Rattle.fin_blocks.specs.Groups.{group_with_byte, groups_from, groups_of, next_group, groups_after}
use Rattle.fin_blocks.specs.inner.Groups.{IsCut}
use Rattle.fin_blocks.specs.Forms.{each_of}

-- bytes have a next group
with_some : (b : ℕ) (g : Option (List ℕ)) (gs : List (Option (List ℕ))) → (h : Option (List ℕ)) × (hs : List (Option (List ℕ))) × (group_with_byte b (g ∷ gs) ≡ h ∷ hs)
with_some b None gs = (None, gs, refl)
with_some b (Some cs) gs = (Some (b ∷ cs), gs, refl)

below_some : (depth : ℕ) (bs : List ℕ) → (depth == 0) ≡ false → (h : Option (List ℕ)) × (hs : List (Option (List ℕ))) × (groups_from depth bs ≡ h ∷ hs)
below_some depth [] still = (None, [], rw still refl)
below_some depth (b ∷ bs) above =
    elim (cases_Bool (depth_after depth b == 0)) [
      | inl shut ↦ (Some (b ∷ []), groups_from 0 bs, rw shut refl)
      | inr still ↦
          let p = below_some (depth_after depth b) bs still in
          let q = with_some b p.0 p.1 in
          (q.0, q.1, rw (still, p.2) q.2)
    ]

pieces_some : (depth b : ℕ) (bs : List ℕ) → (h : Option (List ℕ)) × (hs : List (Option (List ℕ))) × (groups_from depth (b ∷ bs) ≡ h ∷ hs)
pieces_some depth b bs =
    elim (cases_Bool (depth_after depth b == 0)) [
      | inl shut ↦ (Some (b ∷ []), groups_from 0 bs, rw shut refl)
      | inr still ↦
          let p = below_some (depth_after depth b) bs still in
          let q = with_some b p.0 p.1 in
          (q.0, q.1, rw (still, p.2) q.2)
    ]

pub groups-some : (bs : List ℕ) → 0 < length bs → groups_of bs ≡ next_group (groups_of bs) ∷ groups_after (groups_of bs)
unfolding groups_of
groups-some [] some = absurd (omega (arith, some))
groups-some (b ∷ bs) some = let p = pieces_some 0 b bs in rw p.2 refl

pub groups-none : (bs : List ℕ) → length bs ≡ 0 → groups_of bs ≡ []
unfolding groups_of
groups-none [] none = refl
groups-none (b ∷ bs) none = absurd (omega (arith, none))

-- what was read so far, before what is still to read
abbrev pub before : {A : Type 0} → List A → Option (List A) → Option (List A)
before xs None = None
before xs (Some ys) = Some (xs ++ ys)

pub record IsReadTo {A : Type 0} (read : Option (List ℕ) → Option A) (whole rest : List ℕ) (xs : List A) : Type 0 where
  pub same : each_of read (groups_of whole) ≡ before xs (each_of read (groups_of rest))

before-nothing : {A : Type 0} (o : Option (List A)) → o ≡ before [] o
before-nothing None = refl
before-nothing (Some ys) = refl

pub read-none : {A : Type 0} (read : Option (List ℕ) → Option A) (whole : List ℕ) → IsReadTo read whole whole []
read-none read whole = record { same = before-nothing (each_of read (groups_of whole)) }

push : {A : Type 0} (xs : List A) (x : A) (o : Option (List A)) → before xs (option_and_then (λ ys. Some (x ∷ ys)) o) ≡ before (xs ++ x ∷ []) o
push xs x None = refl
push xs x (Some ys) = ap Some (sym (append_assoc xs (x ∷ []) ys))

each-more : {A : Type 0} (read : Option (List ℕ) → Option A) (group : Option (List ℕ)) (groups : List (Option (List ℕ))) (x : A) (xs : List A) → read group ≡ Some x
    → before xs (each_of read (group ∷ groups)) ≡ before (xs ++ x ∷ []) (each_of read groups)
unfolding each_of
each-more read group groups x xs e = rw e (push xs x (each_of read groups))

each-stops : {A : Type 0} (read : Option (List ℕ) → Option A) (group : Option (List ℕ)) (groups : List (Option (List ℕ))) (xs : List A) → read group ≡ None
    → before xs (each_of read (group ∷ groups)) ≡ None
unfolding each_of
each-stops read group groups xs e = rw e refl

pub read-more : {A : Type 0} (read : Option (List ℕ) → Option A) (whole rest : List ℕ) (xs : List A) → IsReadTo read whole rest xs → 0 < length rest → (group : Option (List ℕ)) (left : List ℕ) → IsCut rest group left
    → (x : A) → Some x ≡ read group → IsReadTo read whole left (xs ++ x ∷ [])
read-more read whole rest xs h some group left cut x e = record {
  same = h.same ∙ ap (λ gs. before xs (each_of read gs)) (groups-some rest some)
      ∙ each-more read (next_group (groups_of rest)) (groups_after (groups_of rest)) x xs (sym (rw cut.group_is_next at e))
      ∙ ap (λ gs. before (xs ++ x ∷ []) (each_of read gs)) (sym cut.rest_is_after);
}

pub read-stops : {A : Type 0} (read : Option (List ℕ) → Option A) (whole rest : List ℕ) (xs : List A) → IsReadTo read whole rest xs → 0 < length rest → (group : Option (List ℕ)) (left : List ℕ) → IsCut rest group left
    → None ≡ read group → None ≡ each_of read (groups_of whole)
read-stops read whole rest xs h some group left cut e =
    sym (h.same ∙ ap (λ gs. before xs (each_of read gs)) (groups-some rest some)
    ∙ each-stops read (next_group (groups_of rest)) (groups_after (groups_of rest)) xs (sym (rw cut.group_is_next at e)))

pub read-all : {A : Type 0} (read : Option (List ℕ) → Option A) (whole rest : List ℕ) (xs : List A) → IsReadTo read whole rest xs → length rest ≡ 0 → Some xs ≡ each_of read (groups_of whole)
unfolding each_of
read-all read whole rest xs h e = sym (h.same ∙ rw (groups-none rest e) (ap Some (append-nil xs)))
