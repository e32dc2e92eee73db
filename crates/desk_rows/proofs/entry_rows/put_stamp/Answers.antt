use Rattle.std.proofs.Common.{◌≡◌, ℕ, List, [], ◌∷◌, ◌++◌, sym, ap, ◌∙◌}
use Rattle.std.proofs.lemmas.List.{append-nil}
use Rattle.std.proofs.lemmas.Result.{on_ok_weaker}
use Rattle.corr_ids.specs.Day.{yymmdd_of}
use Rattle.desk_rows.specs.Csv.{next_cells, quoted}
use Rattle.desk_rows.specs.Entries.{type_text}
use Rattle.desk_rows.proofs.Added.{piece_more}
use Rattle.desk_rows.proofs.entry_rows.put_stamp.Goals as goal

four_cells : (a b c d out one two three four : List ℕ) → one ≡ out ++ 44 ∷ quoted a → two ≡ one ++ 44 ∷ quoted b → three ≡ two ++ 44 ∷ quoted c → four ≡ three ++ 44 ∷ quoted d
    → four ≡ out ++ next_cells (a ∷ b ∷ c ∷ d ∷ [])
four_cells a b c d out one two three four first second third fourth =
    let last : four ≡ three ++ next_cells (d ∷ []) = fourth ∙ ap (λ bs. three ++ bs) (sym (append-nil (44 ∷ quoted d))) in
    piece_more out (44 ∷ quoted a) one four (next_cells (b ∷ c ∷ d ∷ [])) first
    (piece_more one (44 ∷ quoted b) two four (next_cells (c ∷ d ∷ [])) second (piece_more two (44 ∷ quoted c) three four (next_cells (d ∷ [])) third last))

pub returns : goal.returns
returns c =
    let entry = c.args.entry.now in
    on_ok_weaker c.put_quoted-2.result
    (λ added. four_cells (yymmdd_of entry.day) (yymmdd_of entry.pay.value) entry.pay.mir.0 (type_text entry.pay.mt) c.args.out.now c.put_day.new.out c.put_day-2.new.out
    c.put_quoted.new.out c.put_quoted-2.new.out c.in_ok-put_day.ensures c.in_ok-put_day-2.ensures c.in_ok-put_quoted.ensures
    (added ∙ ap (λ (text : List ℕ). c.put_quoted.new.out ++ 44 ∷ quoted text) c.type_text.ensures))
    c.put_quoted-2.ensures
