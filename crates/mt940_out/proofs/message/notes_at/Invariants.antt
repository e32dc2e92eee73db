use Rattle.std.proofs.Common.{◌≡◌, map, take}
use Rattle.std.specs.Prelude.{All}
use Rattle.mt940_out.specs.Notes.{note_at}
use Rattle.mt940_out.specs.inner.Writing.{IsNote}
use Rattle.mt940_out.proofs.message.notes_at.Given as goal

-- the notes so far
abbrev pub invariant-loop-place : goal.invariant-loop-place
invariant-loop-place l = record {
  notes : l.notes ≡ map (note_at l.h.entries) (take l.place-index l.places);
  fit : All IsNote l.notes;
}
