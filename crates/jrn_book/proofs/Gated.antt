-- The records of drafted entries, as they are appended.
use Rattle.std.proofs.Common.{◌≡◌, ℕ, ◌+◌, ◌≤◌, All, List, [], ◌∷◌, ◌++◌, length, map, drop, refl, sym, ap, ◌∙◌, arith, append_assoc, append-nil}
use Rattle.std.proofs.lemmas.List.{map-append}
use Rattle.std.proofs.lemmas.List.Elements.{All-cons, All-head, All-nil, All-tail}
use Rattle.day_model.specs.declared.entry.Entry.{Entry}
use Rattle.day_model.specs.Chart.{AreBy, Chart}
use Rattle.jrn_file.specs.Journal.{AreFrames, after_gates, frames_of}
use Rattle.jrn_file.specs.Reading.{most_record_bytes, size_of, with_length}
use Rattle.jrn_file.proofs.laws.Sizes.{after_gates-append, length-after_gates, map-with_gates, size_of-append}
use Rattle.jrn_codec.specs.Record.{IsEntry, entry_bytes}
use Rattle.jrn_codec.proofs.laws.Records.{few_bytes}
use Rattle.jrn_book.specs.inner.Drafting.{gated_records, records_of}
use Rattle.jrn_book.specs.Journal.{file_of, item_records}
use Rattle.jrn_book.proofs.Entering.{records_all}
use Rattle.jrn_book.proofs.laws.Sizes.{file_long}

abbrev gated : List (List ℕ) → List (ℕ × List ℕ)
gated records = map (λ (r : List ℕ). (1, r)) records

-- with an entry more
pub gated_more : (entries : List Entry) (e : Entry) → gated_records (entries ++ e ∷ []) ≡ gated_records entries ++ 1 ∷ with_length (entry_bytes e)
gated_more entries e =
    ap (λ (rs : List (List ℕ)). after_gates (gated rs)) (map-append entry_bytes entries (e ∷ []))
    ∙ ap after_gates (map-append (λ (r : List ℕ). (1, r)) (records_of entries) (entry_bytes e ∷ []))
    ∙ after_gates-append (gated (records_of entries)) ((1, entry_bytes e) ∷ [])
    ∙ ap (λ (l : List ℕ). gated_records entries ++ 1 ∷ l) (append-nil (with_length (entry_bytes e)))

-- how long they are
pub gated_long : (entries : List Entry) → length (gated_records entries) ≡ size_of (records_of entries)
gated_long entries = length-after_gates (gated (records_of entries)) ∙ ap size_of (map-with_gates (records_of entries))

-- a file with them
pub file_all : (chart : Chart) (history entries : List Entry) → AreBy (length history) chart → length (file_of chart (history ++ entries)) ≡ length (file_of chart history) + length (gated_records entries)
file_all chart history entries by =
    let sizes : size_of (item_records chart (history ++ entries)) ≡ size_of (item_records chart history) + size_of (records_of entries) =
    ap size_of (records_all chart history entries by) ∙ size_of-append (item_records chart history) (records_of entries) in
    let before = file_long chart history in
    let after = file_long chart (history ++ entries) in
    omega (arith, sizes, before, after, gated_long entries)

-- without the first gate, and with a closed one at the end, they are frames
pub closed_frames : (first : Entry) (more : List Entry) → drop 1 (gated_records (first ∷ more) ++ 0 ∷ []) ≡ frames_of (entry_bytes first) (records_of more)
closed_frames first more = append_assoc (with_length (entry_bytes first)) (after_gates (gated (records_of more))) (0 ∷ [])

short_records : (entries : List Entry) → All IsEntry entries → All (λ r. length r ≤ most_record_bytes) (records_of entries)
short_records [] written = All-nil (λ (r : List ℕ). length r ≤ most_record_bytes)
short_records (e ∷ entries) written =
    All-cons (λ (r : List ℕ). length r ≤ most_record_bytes) (entry_bytes e) (records_of entries) (few_bytes e (All-head IsEntry e entries written).pay)
    (short_records entries (All-tail IsEntry e entries written))

pub are_frames : (first : Entry) (more : List Entry) (bytes frames : List ℕ) → bytes ≡ gated_records (first ∷ more) ++ 0 ∷ [] → frames ≡ drop 1 bytes → All IsEntry (first ∷ more)
    → AreFrames frames (entry_bytes first) (records_of more)
are_frames first more bytes frames is cut written = record {
  is = cut ∙ ap (λ (l : List ℕ). drop 1 l) is ∙ closed_frames first more;
  fits = short_records (first ∷ more) written;
}

-- nothing isn't the records of some entries
pub some_gated : (first : Entry) (more : List Entry) → [] ≡ gated_records (first ∷ more) → ⊥
some_gated first more is = cc

-- so records of some entries are of at least one
pub first_of_some : (entries : List Entry) (first : Entry) (more : List Entry) (bytes : List ℕ) → bytes ≡ gated_records entries → bytes ≡ gated_records (first ∷ more)
    → (e : Entry) × (es : List Entry) × (entries ≡ e ∷ es)
first_of_some [] first more bytes is some = absurd (some_gated first more (sym is ∙ some))
first_of_some (e ∷ es) first more bytes is some = (e, es, refl)
