-- How long the record of a pay is, and the file of a history.
use Rattle.std.proofs.Common.{◌≡◌, ◌∙◌, ℕ, ◌+◌, ◌≤◌, List, [], ◌∷◌, ◌++◌, length, ap, arith, length-append}
use Rattle.std.specs.Prelude.{pos}
use Rattle.corr_ids.specs.declared.day.Day.{Day}
use Rattle.day_model.specs.declared.entry.Entry.{Entry}
use Rattle.day_model.specs.declared.entry.Outcome.{Outcome}
use Rattle.day_model.specs.declared.entry.Outcome.TheVariants.{Booked, Unfunded}
use Rattle.day_model.specs.Chart.{AreBy, Chart}
use Rattle.jrn_file.specs.Reading.{size_of}
use Rattle.jrn_file.proofs.laws.Sizes.{length-journal_bytes, size_of-append}
use Rattle.jrn_codec.specs.Header.{head_bytes}
use Rattle.jrn_codec.specs.Record.{back_bytes, day_bytes, entry_bytes, fate_bytes, outcome_bytes, stamp_bytes}
use Rattle.jrn_codec.specs.Spelling.{signed_bytes}
use Rattle.jrn_book.specs.Batches.{gate_of}
use Rattle.jrn_book.specs.Journal.{file_of, item_records}
use Rattle.jrn_book.specs.Room.{longest_record}
use Rattle.jrn_book.proofs.laws.Items.{records_more}

outcome_short : (o : Outcome) → length (outcome_bytes o) ≤ length (outcome_bytes (Unfunded 1 (pos 0)))
unfolding signed_bytes
outcome_short Booked = omega arith
outcome_short (Unfunded leg balance) = omega arith

-- the dates, and then the outcome
fate_length : (day value : Day) (o : Outcome) → length (fate_bytes day value o) ≡ 8 + length (outcome_bytes o)
unfolding fate_bytes signed_bytes
fate_length day value o =
    omega (arith, length-append (day_bytes day ++ day_bytes value) (outcome_bytes o), length-append (day_bytes day) (day_bytes value))

between : (front middle longer back : List ℕ) → length middle ≤ length longer → length ((front ++ middle) ++ back) ≤ length ((front ++ longer) ++ back)
between front middle longer back le =
    omega (arith, le, length-append (front ++ middle) back, length-append front middle, length-append (front ++ longer) back, length-append front longer)

-- no record of a pay is longer than that of one that isn't funded
pub no_longer : (e : Entry) → length (entry_bytes e) ≤ longest_record e.pay
no_longer e =
    let day : Day = record { 0 = pos 3652 } in
    let longer = between (stamp_bytes e.pay.mir e.pay.mt e.pay.uetr) (fate_bytes e.day e.pay.value e.outcome) (fate_bytes day e.pay.value (Unfunded 1 (pos 0))) (back_bytes e)
    (omega (arith, fate_length e.day e.pay.value e.outcome, fate_length day e.pay.value (Unfunded 1 (pos 0)), outcome_short e.outcome)) in
    omega (arith, longer)

-- how long a file is
pub file_long : (chart : Chart) (history : List Entry) → length (file_of chart history) ≡ 5 + length (head_bytes chart) + size_of (item_records chart history) + 1
file_long chart history = length-journal_bytes (head_bytes chart) (item_records chart history)

file_sum : (head all more own file next : ℕ) → file ≡ 5 + head + all + 1 → next ≡ 5 + head + more + 1 → more ≡ all + own → next ≡ file + own
file_sum head all more own file next is now grown = omega arith

last_record : (r : List ℕ) → size_of (r ∷ []) ≡ 5 + length r
last_record r = omega arith

-- a file with an entry more
pub file_more : (chart : Chart) (history : List Entry) (e : Entry) → AreBy (length history) chart → length (file_of chart (history ++ e ∷ [])) ≡ length (file_of chart history) + (5 + length (entry_bytes e))
file_more chart history e by =
    let records : size_of (item_records chart (history ++ e ∷ [])) ≡ size_of (item_records chart history) + (5 + length (entry_bytes e)) =
    ap size_of (records_more chart history e by) ∙ size_of-append (item_records chart history) (entry_bytes e ∷ [])
    ∙ ap (λ (n : ℕ). size_of (item_records chart history) + n) (last_record (entry_bytes e)) in
    file_sum (length (head_bytes chart)) (size_of (item_records chart history)) (size_of (item_records chart (history ++ e ∷ []))) (5 + length (entry_bytes e)) (length (file_of chart history)) (length (file_of chart (history ++ e ∷ [])))
    (file_long chart history) (file_long chart (history ++ e ∷ [])) records

-- a file has at least one byte, at the place of its closed gate
pub gate_place : (chart : Chart) (history : List Entry) → gate_of chart history + 1 ≡ length (file_of chart history)
gate_place chart history = let long = file_long chart history in omega (arith, long)
