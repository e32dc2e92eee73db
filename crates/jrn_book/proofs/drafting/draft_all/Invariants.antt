use Rattle.std.proofs.Common.{◌≡◌, vec_capacity, vec_len}
use Rattle.jrn_book.proofs.Drafted.{IsDrafting}
use Rattle.jrn_book.proofs.drafting.draft_all.Given as goal

abbrev pub invariant-loop-p : goal.invariant-loop-p
invariant-loop-p l =
    IsDrafting l.a l.h.entries l.day l.initial.rest.items l.initial.draft.frames.spare l.rest.items l.draft.entries.items l.draft.frames l.index l.pairs.items l.answers.items (vec_capacity l.initial.draft.entries)
    × (vec_capacity l.answers ≡ vec_capacity l.initial.answers) × (vec_capacity l.draft.entries ≡ vec_capacity l.initial.draft.entries)

abbrev pub decreases-loop-p : goal.decreases-loop-p
decreases-loop-p l = vec_len l.rest
