-- Entries that are looked up.
use Rattle.std.proofs.Common.{◌≡◌, ℕ, ◌+◌, ◌-◌, Bool, true, false, cond, List, [], ◌∷◌, ◌++◌, length, Option, Some, None, refl, ap, ◌∙◌, arith}
use Rattle.std.specs.Prelude.{option_and_then, slice_get}
use Rattle.std.specs.List.{position_from}
use Rattle.std.specs.Str.{bytes_eq}
use Rattle.std.proofs.lemmas.Slice.Eq.{bytes_eq-Decides}
use Rattle.corr_ids.specs.declared.uetr.Uetr.{Uetr}
use Rattle.day_model.specs.declared.entry.Entry.{Entry}
use Rattle.day_model.specs.declared.pay.Pay.{Pay}
use Rattle.day_model.specs.declared.pay.Mt.{Mt}
use Rattle.day_model.specs.declared.pay.Mt.TheVariants.{Transfer, Cover}
use Rattle.day_model.specs.declared.reply.Reply.TheVariants as reply
use Rattle.day_model.specs.Next.{has_mir, entered_at}
use Rattle.day_model.proofs.laws.Slices.{push_last}
use Rattle.day_model.specs.Same.{is_mt, is_same_uetr, is_same_pay, reply_at, reply_to}

-- a new entry is found at its place
found_last : {A : Type 0} (t : A → Bool) (i : ℕ) (xs : List A) (y : A) → position_from t i xs ≡ None → t y ≡ true
    → position_from t i (xs ++ y ∷ []) ≡ Some (i + length xs)
found_last t i [] y none passes = rw passes (ap Some (let s : i ≡ i + 0 = omega arith in s))
found_last t i (x ∷ xs) y none passes =
    let last : Option ℕ = Some (i + length (x ∷ xs)) in
    elim (t x) as (λ b. cond b (Some i) (position_from t (i + 1) xs) ≡ None → cond b (Some i) (position_from t (i + 1) (xs ++ y ∷ [])) ≡ last) [
      | true ↦ λ h. cc
      | false ↦ λ h. found_last t (i + 1) xs y h passes ∙ ap Some (let s : i + 1 + length xs ≡ i + length (x ∷ xs) = omega arith in s)
    ] none

same_bytes : (bs : List ℕ) → bytes_eq bs bs ≡ true
same_bytes bs = (bytes_eq-Decides bs bs).1 refl

same_mt : (m : Mt) → is_mt m m ≡ true
same_mt Transfer = refl
same_mt Cover = refl

same_uetr : (u : Option Uetr) → is_same_uetr u u ≡ true
same_uetr None = refl
same_uetr (Some u) = same_bytes u.0

-- a pay is the same as itself
pub same_pay : (p : Pay) → is_same_pay p p ≡ true
same_pay p = rw (same_bytes p.mir.0, same_mt p.mt, same_uetr p.uetr, same_bytes p.text) refl

-- once a new reference is entered, the reply to its pay names the last place
pub reply_new : (entries : List Entry) (e : Entry) → entered_at e.pay.mir entries ≡ None
    → reply_to e.pay (entries ++ e ∷ []) ≡ Some (reply.Entered e.pay.mir (length entries + 1))
reply_new entries e none =
    let at : entered_at e.pay.mir (entries ++ e ∷ []) ≡ Some (1 + length entries) =
    found_last (has_mir e.pay.mir) 1 entries e none (same_bytes e.pay.mir.0) in
    let place = 1 + length entries in
    let last : slice_get (entries ++ e ∷ []) (place - 1) ≡ Some e =
    ap (slice_get (entries ++ e ∷ [])) (let s : place - 1 ≡ length entries = omega arith in s) ∙ push_last entries e in
    ap (λ (o : Option ℕ). option_and_then (λ k. reply_at e.pay k (slice_get (entries ++ e ∷ []) (k - 1))) o) at
    ∙ ap (reply_at e.pay place) last
    ∙ ap (λ b. Some (cond b (reply.Entered e.pay.mir place) (reply.Conflict e.pay.mir place))) (same_pay e.pay)
    ∙ ap (λ (n : ℕ). Some (reply.Entered e.pay.mir n)) (let s : place ≡ length entries + 1 = omega arith in s)
