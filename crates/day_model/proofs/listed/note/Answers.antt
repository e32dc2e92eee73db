use Rattle.std.proofs.Common.{◌≡◌, ℕ, Bool, false, List, [], ◌∷◌, ◌++◌, Option, Some, None, IsOk, OnOk, Result, Ok, Err, is_some, if◌then◌else◌, refl, sym, ap, ◌∙◌}
use Rattle.std.specs.Map.{lookup}
use Rattle.indexmap.proofs.CallerLemmas.{insert_entry-new}
use Rattle.day_model.proofs.listed.note.Goals as goal

on_ok : {X E : Type 0} (r : Result X E) (P : Type 0) → IsOk r → OnOk r P → P
on_ok (Ok x) P ok h = h
on_ok (Err e) P ok h = absurd (cc ok)

none_there : {A : Type 0} (o : Option A) → is_some o ≡ false → o ≡ None
none_there None e = refl
none_there (Some a) e = absurd (cc e)

pub returns-then-not-contains_key : goal.returns-then-not-contains_key
returns-then-not-contains_key g c =
    let eq = g.K.PartialEq.eq in
    let places : List (g.row.K.Denot × ℕ) = c.args.places.now.entries in
    let absent : is_some (lookup (eq c.args.key) places) ≡ false = sym c.contains_key.ensures ∙ c.if-not-contains_key.true in
    on_ok _ _ (c.insert.ensures.succeeds c.requires) c.insert.ensures.entries
    ∙ insert_entry-new eq c.args.places.now c.args.key c.args.place (none_there _ absent)
    ∙ sym (ap (λ (b : Bool). if b then places else places ++ (c.args.key, c.args.place) ∷ []) absent)
