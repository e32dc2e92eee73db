-- What is sent of one entry more is accepted.
use Rattle.std.proofs.Common.{◌≡◌, ℕ, ◌+◌, ◌-◌, ◌<◌, ◌≤◌, List, Some, Result, Ok, Err, sym, ap, ◌∙◌, subst, arith, inl, inr}
use Rattle.std.specs.Prelude.{OnOk, slice_get}
use Rattle.std.proofs.Math.Nat.{eq-or-lt_of_le}
use Rattle.std.proofs.lemmas.Option.{same_Some}
use Rattle.day_model.specs.Chart.{Chart}
use Rattle.day_model.specs.declared.entry.Entry.{Entry}
use Rattle.advices.specs.Messages.{messages_of}
use Rattle.advices.specs.Valid.{AreAccepted}

-- what holds anyway holds where all went well
pub anyway : {A E : Type 0} (r : Result A E) (P : Type 0) → P → OnOk r P
anyway (Ok x) P p = p
anyway (Err e) P p = tt

-- one more entry
pub more-accepted : (chart : Chart) (from : ℕ) (entries : List Entry) (place : ℕ) (x : Entry) (i : ℕ) (e : Entry) → 1 ≤ place → slice_get entries (place - 1) ≡ Some x
    → ((j : ℕ) (y : Entry) → from ≤ j + 1 → j + 1 < place → slice_get entries j ≡ Some y → AreAccepted chart y.pay (messages_of chart y (j + 1))) → AreAccepted chart x.pay (messages_of chart x place)
    → from ≤ i + 1 → i + 1 < place + 1 → slice_get entries i ≡ Some e → AreAccepted chart e.pay (messages_of chart e (i + 1))
more-accepted chart from entries place x i e first there before now after below at = elim (eq-or-lt_of_le {n = i + 1} {m = place} (omega arith)) [
  | inl last ↦
      let same_place : place ≡ i + 1 = sym last in
      let same : x ≡ e = same_Some x e (sym there ∙ ap (slice_get entries) (let p : place - 1 ≡ i = omega arith in p) ∙ at) in
      subst (λ (n : ℕ). AreAccepted chart e.pay (messages_of chart e n)) same_place (subst (λ (y : Entry). AreAccepted chart y.pay (messages_of chart y place)) same now)
  | inr less ↦ before i e after less at
]
