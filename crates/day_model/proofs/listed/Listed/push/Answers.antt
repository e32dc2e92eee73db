use Rattle.std.proofs.Common.{◌≡◌, ℕ, Bool, List, [], ◌∷◌, ◌++◌, length, ap, ◌∙◌}
use Rattle.std.specs.Global.{Vec}
use Rattle.std.specs.Str.{bytes_eq}
use Rattle.day_model.specs.declared.account.Account.{Account}
use Rattle.day_model.specs.declared.listed.Index.{Index}
use Rattle.day_model.specs.declared.listed.Owner.{Owner}
use Rattle.day_model.specs.inner.Listed.{is_owner, noted, owner_of}
use Rattle.day_model.proofs.Finding.{found_more}
use Rattle.day_model.proofs.listed.Listed.push.Goals as goal

pub invariant_of-self-2 : goal.invariant_of-self-2
invariant_of-self-2 c =
    let account : Account = c.args.account in
    let accounts : List Account = c.self.inside.accounts.items in
    let ids : List (Vec ℕ × ℕ) = c.self.inside.index.value.ids.entries in
    let owners : List (Owner × ℕ) = c.self.inside.index.value.owners.entries in
    let id : Vec ℕ = c.in_ok-id.id in
    let place = c.len-place.result in
    let same_id : Vec ℕ → Vec ℕ → Bool = λ a b. bytes_eq a.items b.items in
    let accounts_are : c.push_reserved.new.self.items ≡ accounts ++ account ∷ [] =
    c.push_reserved.ensures.items ∙ ap (λ (xs : List Account). xs ++ account ∷ []) c.reserve-3.ensures.items in
    let ids_are : c.note.new.places.entries ≡ noted same_id id place ids = c.note.ensures ∙ ap (noted same_id id place) (c.reserve.ensures.entries ∙ ap (λ (x : Index). x.ids.entries) c.as_mut-index.ensures.value) in
    let owners_are : c.note-2.new.places.entries ≡ noted is_owner (owner_of account) place owners =
    c.note-2.ensures ∙ (λ i. noted is_owner (c.owner_of.ensures i) place ((c.reserve-2.ensures.entries ∙ ap (λ (x : Index). x.owners.entries) c.as_mut-index.ensures.value) i)) in
    rw (accounts_are, ids_are, owners_are)
    (found_more accounts ids owners account id place (c.in_ok-id.ensures.items ∙ c.bytes.ensures) (c.len-place.ensures ∙ c.reserve-3.new.self.ok.0 ∙ ap length c.reserve-3.ensures.items) c.self.invariant)
