-- What a write and a sync of a disk in memory do to its images.
use Rattle.std.proofs.Common.{◌≡◌, inl, inr, ℕ, suc, ◌+◌, ◌-◌, ◌≤◌, List, ◌∷◌, ◌++◌, length, take, Some, sym, ◌∙◌, ap, subst, arith, length-append}
use Rattle.std.proofs.lemmas.List.{length-take-le}
use Rattle.std.proofs.lemmas.Slice.{drop-append-drop}
use Rattle.std.proofs.lemmas.Grind.{common_steps}
use Rattle.corr_disk.specs.Disk.{written, Torn, Follows, NoMore, Only, Elapses}
use Rattle.corr_disk.specs.Past.{DiskStep, bytes_after, Image, LeftSince}
use Rattle.corr_disk.specs.inner.Past.{Settles}
use Rattle.corr_disk.specs.Laws.{reads_stay}

-- a write of which a part is done is torn, and so is one that is done whole
pub part_is_torn : (at n : ℕ) (part bytes : List ℕ) → at ≤ length bytes → length part ≤ n → Torn at n bytes (written at part bytes)
part_is_torn at n part bytes le short =
    let front : length (take at bytes) ≡ at = length-take-le at bytes le in
    let size : length (written at part bytes) ≡ at + length part + (length bytes - (at + length part)) = grind (arith, common_steps) in
    record {
      before = grind (arith, common_steps);
      after = drop-append-drop (at + length part) bytes (take at bytes ++ part) (at + n) (omega arith) (omega (arith, front, length-append (take at bytes) part));
      no_shorter = omega (arith, size);
      no_longer = omega (arith, size);
    }

-- after a write
pub write-crash : (first : List ℕ) (steps : List DiskStep) (at : ℕ) (piece : List ℕ) → at ≤ length (bytes_after first steps)
    → Follows (Torn at (length piece)) (Image first steps) (Image first (Some (at, piece) ∷ steps))
write-crash first steps at piece le c (inl all) =
    (bytes_after first steps, reads_stay first steps, subst (Torn at (length piece) (bytes_after first steps)) (sym all) (part_is_torn at (length piece) piece _ le (omega arith)))
write-crash first steps at piece le c (inr torn) = torn

pub write-time : (first : List ℕ) (steps : List DiskStep) (write : ℕ × List ℕ)
    → Elapses (length steps) (suc (length steps)) (LeftSince first steps) (LeftSince first (Some write ∷ steps)) (Image first (Some write ∷ steps))
write-time first steps write = record {
  later = omega arith;
  nothing_else = λ t c le left. elim left [ inl now ↦ inr now | inr past ↦ inl past.1 ];
  keeps = λ t c le past. inr (le, past);
}

-- nothing happens
pub same-time : (first : List ℕ) (steps : List DiskStep) → Elapses (length steps) (length steps) (LeftSince first steps) (LeftSince first steps) (Image first steps)
same-time first steps = record { later = omega arith; nothing_else = λ t c le left. inl left; keeps = λ t c le past. past }

-- after a sync
pub sync-bytes : (first : List ℕ) (old new : List DiskStep) → Settles old new → bytes_after first new ≡ bytes_after first old
sync-bytes first old new (inl is) = ap (bytes_after first) is
sync-bytes first old new (inr is) = ap (bytes_after first) is.2

pub sync-only : (first : List ℕ) (old new : List DiskStep) → Settles old new → Only (bytes_after first old) (Image first new)
sync-only first old new (inl is) c image = subst (λ s. Image first s c) is image
sync-only first old new (inr is) c image =
    subst (λ s. Image first s c) (is.2 ∙ is.1) image ∙ sym (ap (bytes_after first) is.1)

pub sync-crash : (first : List ℕ) (old new : List DiskStep) → Settles old new → NoMore (Image first old) (Image first new)
sync-crash first old new settles c image =
    subst (Image first old) (sym (sync-only first old new settles c image)) (reads_stay first old)

pub sync-time : (first : List ℕ) (old new : List DiskStep) → Settles old new
    → Elapses (length old) (length new) (LeftSince first old) (LeftSince first new) (Image first new)
sync-time first old new (inl is) =
    subst (λ s. Elapses (length old) (length s) (LeftSince first old) (LeftSince first s) (Image first s)) (sym is) (record {
      later = omega arith;
      nothing_else = λ t c le left. elim left [ inl now ↦ inr now | inr past ↦ inl past.1 ];
      keeps = λ t c le past. inr (le, past);
    })
sync-time first old new (inr is) =
    subst (λ s. Elapses (length old) (length s) (LeftSince first old) (LeftSince first s) (Image first s)) (sym is.2) (same-time first old)
