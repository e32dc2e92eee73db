-- What may stand last.
use Rattle.std.proofs.Common.{◌≡◌, ℕ, ◌<◌, true, false, List, ◌∷◌, length, refl, sym, ap, ◌∙◌}
use Rattle.std.specs.Prelude.{Option, Some, None, is_some, option_map, codes}
use Rattle.fin_blocks.specs.Groups.{groups_of, groups_after}
use Rattle.fin_blocks.specs.inner.Groups.{IsCut}
use Rattle.fin_blocks.specs.Forms.{inside}
use Rattle.fin_blocks.specs.Blocks.{are_last}
use Rattle.fin_blocks.proofs.Pieces.{groups-some, groups-none}

pub last-none : (bs : List ℕ) → length bs ≡ 0 → are_last (groups_of bs) ≡ true
last-none bs none = ap are_last (groups-none bs none)

cut-groups : (bs : List ℕ) (group : Option (List ℕ)) (rest : List ℕ) → 0 < length bs → IsCut bs group rest → groups_of bs ≡ group ∷ groups_of rest
cut-groups bs group rest some cut = groups-some bs some ∙ ap (λ g. g ∷ groups_after (groups_of bs)) (sym cut.group_is_next) ∙ ap (λ gs. group ∷ gs) (sym cut.rest_is_after)

pub last-one : (bs : List ℕ) (group : Option (List ℕ)) (rest : List ℕ) → 0 < length bs → IsCut bs group rest → length rest ≡ 0 → are_last (groups_of bs) ≡ is_some (inside (codes "{S:") group)
last-one bs group rest some cut none = ap are_last (cut-groups bs group rest some cut ∙ ap (λ gs. group ∷ gs) (groups-none rest none))

pub last-more : (bs : List ℕ) (group : Option (List ℕ)) (rest : List ℕ) → 0 < length bs → IsCut bs group rest → 0 < length rest → are_last (groups_of bs) ≡ false
last-more bs group rest some cut more = ap are_last (cut-groups bs group rest some cut ∙ ap (λ gs. group ∷ gs) (groups-some rest more))

pub is_some-mapped : {A B : Type 0} (f : A → B) (o : Option A) → is_some o ≡ is_some (option_map f o)
is_some-mapped f None = refl
is_some-mapped f (Some x) = refl
