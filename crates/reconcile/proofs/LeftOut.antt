-- What is left out of the statements that pages are.
use Rattle.std.proofs.Common.{◌≡◌, ℕ, ◌+◌, ◌-◌, ◌≤◌, ltb, Bool, true, false, cond, List, [], ◌∷◌, ◌++◌, Option, Some, None, Result, Ok, Err, refl, sym, ap, ◌∙◌, arith}
use Rattle.std.specs.Prelude.{option_and_then, option_map, sum_by}
use Rattle.std.specs.List.{cons_option, flat_map}
use Rattle.std.specs.Option.{option_map_or}
use Rattle.std.specs.Result.{result_ok}
use Rattle.std.proofs.lemmas.Bool.{le-ltb, ltb-false}
use Rattle.std.proofs.lemmas.List.Sums.{sum_by-cons}
use Rattle.day_model.specs.Chart.{Chart}
use Rattle.day_model.specs.declared.account.AcctNo.{AcctNo}
use Rattle.day_model.specs.declared.entry.Entry.{Entry}
use Rattle.mt950.specs.Joining.{joined_of, last_of}
use Rattle.mt950.specs.declared.joining.PageFault.{PageFault}
use Rattle.mt950.specs.declared.joining.Statement.{Statement}
use Rattle.mt950.specs.declared.page.Page950.{Page950}
use Rattle.reconcile.specs.Breaks.{joined_left, joined_text, most_compared, nostro_of, piece_left, piece_text, statement_heading, statement_lines, lines_left, told_from}
use Rattle.reconcile.specs.LeftOut.{FewCompared, NoneLeftOut, OurStatement, compared_from, entries_for, entries_of, statement_in, statements_in, whole_text}
use Rattle.reconcile.specs.Pieces.{pieces_of}
use Rattle.reconcile.proofs.Spread.{statements-few}

module _ (chart : Chart) (entries : List Entry) where
  -- ---- one piece

  -- the entries of ours that a statement has whose account is known, and pages that are joined
  abbrev count-on : Statement → Option AcctNo → ℕ
  count-on s n = option_map_or (entries_of chart entries) (option_map (λ m. (m, s)) n) 0

  abbrev count-of : Result Statement PageFault → ℕ
  count-of joined = option_map_or (entries_of chart entries) (option_and_then (λ s. option_map (λ n. (n, s)) (nostro_of chart s)) (result_ok joined)) 0

  -- two rooms that have place for the lines tell the same
  lines-same : (s : Statement) (n : AcctNo) (room more : ℕ) → entries_of chart entries (n, s) ≤ room → entries_of chart entries (n, s) ≤ more → statement_lines room chart entries s n ≡ statement_lines more chart entries s n
  lines-same s n room more le too = rw (le-ltb room (entries_of chart entries (n, s)) le, le-ltb more (entries_of chart entries (n, s)) too) refl

  statement-same : (s : Statement) (n : Option AcctNo) (room more : ℕ) (unknown : List ℕ) → count-on s n ≤ room → count-on s n ≤ more
      → option_map_or (statement_lines room chart entries s) n unknown ≡ option_map_or (statement_lines more chart entries s) n unknown
  statement-same s None room more unknown le too = refl
  statement-same s (Some n) room more unknown le too = lines-same s n room more le too

  joined-same : (joined : Result Statement PageFault) (decimals room more : ℕ) → count-of joined ≤ room → count-of joined ≤ more
      → joined_text room chart entries decimals joined ≡ joined_text more chart entries decimals joined
  joined-same (Ok s) decimals room more le too = statement-same s (nostro_of chart s) room more _ le too
  joined-same (Err fault) decimals room more le too = refl

  -- what is told of a piece where there is room for it
  piece-whole : (piece : List Page950) (room : ℕ) → entries_for chart entries piece ≤ room → piece_text room chart entries piece ≡ whole_text chart entries piece
  piece-whole [] room le = refl
  piece-whole (page ∷ pages) room le =
      let count = entries_for chart entries (page ∷ pages) in
      ap (λ (text : List ℕ). statement_heading (last_of page pages) ++ text) (joined-same (joined_of (page ∷ pages)) page.decimals room count le (omega arith))

  -- and how much room is left
  abbrev room-after : ℕ → ℕ → ℕ
  room-after room count = cond (ltb room count) room (room - count)

  none-taken : (room : ℕ) → room ≡ room-after room 0
  none-taken room = by (ltb room 0)
    where
      by : (b : Bool) → room ≡ cond b room (room - 0)
      by true = refl
      by false = omega arith

  statement-after : (s : Statement) (n : Option AcctNo) (room : ℕ) → option_map_or (lines_left room chart entries s) n room ≡ room-after room (count-on s n)
  statement-after s None room = none-taken room
  statement-after s (Some n) room = refl

  joined-after : (joined : Result Statement PageFault) (room : ℕ) → joined_left room chart entries joined ≡ room-after room (count-of joined)
  joined-after (Ok s) room = statement-after s (nostro_of chart s) room
  joined-after (Err fault) room = none-taken room

  left-after : (piece : List Page950) (room : ℕ) → piece_left room chart entries piece ≡ room-after room (entries_for chart entries piece)
  unfolding joined_of
  left-after [] room = none-taken room
  left-after (page ∷ pages) room = joined-after (joined_of (page ∷ pages)) room

  -- ---- all pieces

  left-there : (piece : List Page950) (room : ℕ) → entries_for chart entries piece ≤ room → piece_left room chart entries piece ≡ room - entries_for chart entries piece
  left-there piece room le = left-after piece room ∙ ap (λ (b : Bool). cond b room (room - entries_for chart entries piece)) (le-ltb room (entries_for chart entries piece) le)

  -- where all have room together, each is told whole
  told-whole : (pieces : List (List Page950)) (room : ℕ) → sum_by (entries_for chart entries) pieces ≤ room → told_from room chart entries pieces ≡ flat_map (whole_text chart entries) pieces
  told-whole [] room le = refl
  told-whole (piece ∷ pieces) room le =
      let sum = sum_by-cons (entries_for chart entries) piece pieces in
      let here : entries_for chart entries piece ≤ room = omega (arith, sum, le) in
      let left = left-there piece room here in
      let rest : sum_by (entries_for chart entries) pieces ≤ piece_left room chart entries piece = omega (arith, sum, le, left) in
      ap (λ (text : List ℕ). text ++ told_from (piece_left room chart entries piece) chart entries pieces) (piece-whole piece room here)
      ∙ ap (λ (text : List ℕ). whole_text chart entries piece ++ text) (told-whole pieces (piece_left room chart entries piece) rest)

  one-more : (o : Option OurStatement) (more : List OurStatement) → sum_by (entries_of chart entries) (cons_option o more) ≡ option_map_or (entries_of chart entries) o 0 + sum_by (entries_of chart entries) more
  one-more None more = omega arith
  one-more (Some statement) more = sum_by-cons (entries_of chart entries) statement more

  -- the pieces have the entries of their statements
  pieces-sum : (pieces : List (List Page950)) → sum_by (entries_for chart entries) pieces ≡ sum_by (entries_of chart entries) (statements_in chart pieces)
  pieces-sum [] = refl
  pieces-sum (piece ∷ pieces) =
      sum_by-cons (entries_for chart entries) piece pieces ∙ ap (λ (n : ℕ). entries_for chart entries piece + n) (pieces-sum pieces) ∙ sym (one-more (statement_in chart piece) (statements_in chart pieces))

  -- what pieces in turn are compared with has room
  within-step : (b : Bool) (room count left more : ℕ) → ltb room count ≡ b → left ≡ cond b room (room - count) → more ≤ left → cond b 0 count + more ≤ room
  within-step true room count left more e is le = omega (arith, is, le)
  within-step false room count left more e is le = let has = ltb-false room count e in omega (arith, is, le, has)

  within : (pieces : List (List Page950)) (room : ℕ) → compared_from room chart entries pieces ≤ room
  within [] room = omega arith
  within (piece ∷ pieces) room =
      let left = piece_left room chart entries piece in
      let count = entries_for chart entries piece in
      within-step (ltb room count) room count left (compared_from left chart entries pieces) refl (left-after piece room) (within pieces left)

pub none-left-out : NoneLeftOut
none-left-out chart entries pages legal once =
    let pieces = pieces_of pages in
    let sum = pieces-sum chart entries pieces in
    let few = statements-few chart entries (statements_in chart pieces) legal.rules once in
    let short = legal.rules.short in
    told-whole chart entries pieces most_compared (omega (arith, sum, few, short))

pub few-compared : FewCompared
few-compared chart entries pages = within chart entries (pieces_of pages) most_compared
