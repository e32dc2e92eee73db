-- The blocks of a message, read in their order: the first that is not of its form is the fault.
use Rattle.std.specs.Prelude.{ℕ, Bool, true, false, List, [], ◌∷◌, Option, Some, None, Result, Ok, is_some, bytes_eq, codes, if◌then◌else◌}
use Rattle.corr_text.specs.Answers.{Refuses}
use Rattle.corr_text.specs.Codes.{code}
use Rattle.corr_text.specs.First.{check, or_fault, ◌>>=◌}
use Rattle.fin_blocks.specs.Groups.{groups_of, next_group, groups_after}
use Rattle.fin_blocks.specs.Forms.{inside, basic_of, app_of, mir_in, when, each_of, trailer_of}
use Rattle.fin_blocks.specs.User.{subblocks_in}
use Rattle.fin_blocks.specs.Text.{text_of}
use Rattle.corr_ids.specs.Address.{bank_of}
use Rattle.corr_ids.specs.Bic.{IsBic}
use Rattle.corr_ids.specs.Mir.{IsMir}
use Rattle.fin_blocks.specs.declared.blocks.App.{App}
use Rattle.fin_blocks.specs.declared.blocks.App.TheVariants as form
use Rattle.fin_blocks.specs.declared.blocks.Blocks.{Blocks}
use Rattle.fin_blocks.specs.declared.fault.BlockFault.{BlockFault}
use Rattle.fin_blocks.specs.declared.fault.BlockFault.TheVariants as fault

-- whether the next group is the block that begins so
abbrev pub has_next : List ℕ → List (Option (List ℕ)) → Bool
has_next start groups = is_some (inside start (next_group groups))

-- the groups past that block, or all where it does not come next
abbrev pub groups_past : List ℕ → List (Option (List ℕ)) → List (Option (List ℕ))
groups_past start groups = if has_next start groups then groups_after groups else groups

-- what a block that may be absent says
abbrev pub optional : {A : Type 0} → (List ℕ → Option (List A)) → Option (List ℕ) → Option (List A)
optional read None = Some []
optional read (Some bs) = read bs

-- block 3, `{3:`, subblocks, `}`
abbrev pub user_of : List (Option (List ℕ)) → Option (List (ℕ × List ℕ))
user_of groups = optional subblocks_in (inside (codes "{3:") (next_group groups))

-- block 5, `{5:`, trailers, `}`
abbrev pub trailers_of : List (Option (List ℕ)) → Option (List (List ℕ))
trailers_of groups = optional (λ bs. each_of trailer_of (groups_of bs)) (inside (codes "{5:") (next_group groups))

-- nothing more, or one last group `{S:`
abbrev pub are_last : List (Option (List ℕ)) → Bool
are_last [] = true
are_last (group ∷ []) = is_some (inside (codes "{S:") group)
are_last _ = false

-- the codes of block 5 among the groups after block 4; none where it isn't of its form, or more is left
unfoldable pub ending_of : List (Option (List ℕ)) → Option (List (List ℕ))
ending_of fifth = when (are_last (groups_past (codes "{5:") fifth)) (trailers_of fifth)

-- the parts of a message, or the first of P01 to P06 with the reference of a received message from P04 on
unfoldable pub blocks_of : List ℕ → Result Blocks BlockFault
blocks_of m = do
  let first = groups_of m
  basic ← or_fault (basic_of (next_group first)) (fault.Bad (code "P01") None)
  _ ← check (bytes_eq basic.version (codes "01")) (fault.Bad (code "P02") None)
  let second = groups_after first
  app ← or_fault (app_of (next_group second)) (fault.Bad (code "P03") None)
  let third = groups_after second
  user ← or_fault (user_of third) (fault.Bad (code "P04") (mir_in app))
  let fourth = groups_past (codes "{3:") third
  text ← or_fault (text_of (next_group fourth)) (fault.Bad (code "P05") (mir_in app))
  trailers ← or_fault (ending_of (groups_after fourth)) (fault.Bad (code "P06") (mir_in app))
  Ok (record { own = basic.own; app = app; user = user; text = text; trailers = trailers })

-- what block 2 names meets its grammar: the reference of a received message, the receiver's bank of a sent one
abbrev pub IsApp : App → Type 0
IsApp (form.Received mt mir) = IsMir mir
IsApp (form.Sent mt to) = IsBic (bank_of to)

-- the bank of block 1 and what block 2 names meet their grammar
pub record AreNamed (b : Blocks) : Type 0 where
  pub own : IsBic (bank_of b.own)
  pub app : IsApp b.app

-- the fault that an error tells, none where memory is out
abbrev pub told : BlockFault → Option BlockFault
told (fault.Bad refusal mir) = Some (fault.Bad refusal mir)
told fault.Memory = None

-- an error tells this fault, or out of memory
abbrev pub Tells : Result Blocks BlockFault → BlockFault → Type 0
Tells meant e = Refuses told meant e
