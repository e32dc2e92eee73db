-- What packets make of records that are held.
use Rattle.std.proofs.Common.{◌≡◌, ℕ, zero, suc, ◌+◌, ◌-◌, ◌≤◌, Bool, cond, ltb, List, [], ◌∷◌, ◌++◌, length, get_or, refl, sym, ap, ◌∙◌, subst, arith, append_assoc, append-nil, length-append, inl, inr}
use Rattle.std.specs.Prelude.{slice_get, Some, None}
use Rattle.std.proofs.lemmas.Bool.{cases_eq, cond-true, eq-eqb, lt-ltb, ne_eqb}
use Rattle.std.proofs.lemmas.List.Elements.{All-head, All-tail}
use Rattle.std.proofs.lemmas.Option.{get_or_from_slice_get, none-some, same_Some, slice_get_past, slice_get_within}
use Rattle.standby.specs.declared.packet.Packet.{Packet}
use Rattle.standby.specs.Shipping.{AreSentBy, IsFrontOf, IsSentBy, nth, shipped, taken_in}
use Rattle.standby.specs.inner.Shipping.{ShippedIsFront}

-- ---- fronts

pub front_same : (xs : List (List ℕ)) → IsFrontOf xs xs
front_same xs = ([], sym (append-nil xs))

pub front_then : (a b c : List (List ℕ)) → IsFrontOf a b → IsFrontOf b c → IsFrontOf a c
front_then a b c x y = (x.0 ++ y.0, y.1 ∙ ap (λ (l : List (List ℕ)). l ++ y.0) x.1 ∙ append_assoc a x.0 y.0)

pub front_short : (a b : List (List ℕ)) → IsFrontOf a b → length a ≤ length b
front_short a b x = omega (arith, ap length x.1, length-append a x.0)

-- ---- items by their numbers

nth_by : {A : Type 0} (xs : List A) (n : ℕ) → 1 ≤ n → nth xs n ≡ slice_get xs (n - 1)
nth_by xs n low = cond-true (ltb 0 n) (slice_get xs (n - 1)) None (lt-ltb 0 n (omega (arith, low)))

pub nth_there : {A : Type 0} (xs : List A) (n : ℕ) (x : A) → nth xs n ≡ Some x → (1 ≤ n) × (slice_get xs (n - 1) ≡ Some x)
nth_there xs zero x is = absurd (none-some x is)
nth_there xs (suc k) x is = let low : 1 ≤ suc k = omega arith in (low, sym (nth_by xs (suc k) low) ∙ is)

get_seam : (xs : List (List ℕ)) (x : List ℕ) (more : List (List ℕ)) → slice_get (xs ++ x ∷ more) (length xs) ≡ Some x
get_seam [] x more = refl
get_seam (y ∷ xs) x more = get_seam xs x more

-- ---- one packet

-- a packet with the next number adds its record
pub taken_next : (held : List (List ℕ)) (p : Packet) → p.number ≡ length held + 1 → taken_in held p ≡ held ++ p.body ∷ []
taken_next held p is = ap (λ (b : Bool). cond b (held ++ p.body ∷ []) held) (eq-eqb p.number (length held + 1) is)

-- and another nothing
pub taken_other : (held : List (List ℕ)) (p : Packet) → (p.number ≡ length held + 1 → ⊥) → taken_in held p ≡ held
taken_other held p isnt = ap (λ (b : Bool). cond b (held ++ p.body ∷ []) held) (ne_eqb p.number (length held + 1) isnt)

-- the leader's record after those that are held
next_of_front : (held rest leader : List (List ℕ)) (body : List ℕ) → leader ≡ held ++ rest → slice_get leader (length held) ≡ Some body → IsFrontOf (held ++ body ∷ []) leader
next_of_front held [] leader body is there =
    absurd (none-some body (sym (slice_get_past leader (length held) (omega (arith, ap length (is ∙ append-nil held)))) ∙ there))
next_of_front held (x ∷ more) leader body is there =
    let one : x ≡ body = same_Some x body (sym (get_seam held x more) ∙ ap (λ (l : List (List ℕ)). slice_get l (length held)) (sym is) ∙ there) in
    (more, is ∙ ap (λ (y : List ℕ). held ++ y ∷ more) one ∙ sym (append_assoc held (body ∷ []) more))

-- what is held stays a front of the leader's records
pub taken_front : (leader held : List (List ℕ)) (p : Packet) → IsFrontOf held leader → IsSentBy leader p → IsFrontOf (taken_in held p) leader
taken_front leader held p f sent =
    elim (cases_eq p.number (length held + 1)) [
      | inl is ↦
          let place : p.number - 1 ≡ length held = omega (arith, is) in
          let there = subst (λ (n : ℕ). slice_get leader n ≡ Some p.body) place (nth_there leader p.number p.body sent).1 in
          subst (λ (l : List (List ℕ)). IsFrontOf l leader) (sym (taken_next held p is)) (next_of_front held f.0 leader p.body f.1 there)
      | inr isnt ↦ subst (λ (l : List (List ℕ)). IsFrontOf l leader) (sym (taken_other held p isnt)) f
    ]

-- and nothing that is held goes
pub taken_keeps : (held : List (List ℕ)) (p : Packet) → IsFrontOf held (taken_in held p)
taken_keeps held p =
    elim (cases_eq p.number (length held + 1)) [
      | inl is ↦ subst (λ (l : List (List ℕ)). IsFrontOf held l) (sym (taken_next held p is)) (p.body ∷ [], refl)
      | inr isnt ↦ subst (λ (l : List (List ℕ)). IsFrontOf held l) (sym (taken_other held p isnt)) (front_same held)
    ]

-- one record comes at most
pub taken_few : (held : List (List ℕ)) (p : Packet) → length (taken_in held p) ≤ length held + 1
taken_few held p =
    elim (cases_eq p.number (length held + 1)) [
      | inl is ↦ omega (arith, ap length (taken_next held p is), length-append held (p.body ∷ []))
      | inr isnt ↦ omega (arith, ap length (taken_other held p isnt))
    ]

-- ---- many packets

pub shipped_front : ShippedIsFront
shipped_front leader held [] f all = (f, front_same held)
shipped_front leader held (p ∷ ps) f all =
    let one = taken_front leader held p f (All-head (IsSentBy leader) p ps all) in
    let rest = shipped_front leader (taken_in held p) ps one (All-tail (IsSentBy leader) p ps all) in
    (rest.0, front_then held (taken_in held p) (shipped (taken_in held p) ps) (taken_keeps held p) rest.1)

-- ---- packets that were sent

get_more : (xs : List (List ℕ)) (r : List ℕ) (i : ℕ) (x : List ℕ) → slice_get xs i ≡ Some x → slice_get (xs ++ r ∷ []) i ≡ Some x
get_more [] r i x there = absurd (none-some x there)
get_more (y ∷ xs) r zero x there = there
get_more (y ∷ xs) r (suc i) x there = get_more xs r i x there

-- a record more leaves the others their numbers
pub nth_more : (leader : List (List ℕ)) (r : List ℕ) (n : ℕ) (x : List ℕ) → nth leader n ≡ Some x → nth (leader ++ r ∷ []) n ≡ Some x
nth_more leader r zero x is = absurd (none-some x is)
nth_more leader r (suc k) x is =
    let low : 1 ≤ suc k = omega arith in
    nth_by (leader ++ r ∷ []) (suc k) low ∙ get_more leader r (suc k - 1) x (sym (nth_by leader (suc k) low) ∙ is)

pub sent_more : (leader : List (List ℕ)) (r : List ℕ) (sent : List Packet) → AreSentBy leader sent → AreSentBy (leader ++ r ∷ []) sent
sent_more leader r sent all = λ k d lt. nth_more leader r (get_or sent k d).number (get_or sent k d).body (all k d lt)

pub sent_nth : (leader : List (List ℕ)) (sent : List Packet) (i : ℕ) (p : Packet) → AreSentBy leader sent → slice_get sent i ≡ Some p → IsSentBy leader p
sent_nth leader sent i p all there =
    subst (λ (q : Packet). IsSentBy leader q) (get_or_from_slice_get sent i p p there) (all i p (slice_get_within sent i p there))
