-- The page of a day.
use Rattle.std.specs.Prelude.{ℕ, List, ◌++◌}
use Rattle.corr_ids.specs.Bic.{bic_text}
use Rattle.corr_ids.specs.Day.{yymmdd_of}
use Rattle.corr_ids.specs.declared.bic.Bic.{Bic}
use Rattle.corr_ids.specs.declared.day.Day.{Day}
use Rattle.day_model.specs.Chart.{Chart}
use Rattle.day_model.specs.declared.entry.Entry.{Entry}
use Rattle.desk_page.specs.declared.mark.Piece.TheVariants as piece
use Rattle.desk_page.specs.declared.row.Row.{Row}
use Rattle.desk_page.specs.AccountTable.{accounts_section}
use Rattle.desk_page.specs.Ahead.{ahead_section}
use Rattle.desk_page.specs.Escaped.{escaped}
use Rattle.desk_page.specs.Leaving.{leaving_section}
use Rattle.desk_page.specs.Markup.{markup}
use Rattle.desk_page.specs.Nostros.{nostros_section}
use Rattle.desk_page.specs.Twice.{twice_section}
use Rattle.desk_page.specs.Messages.{needs_section, rest_section}

-- how it looks, which it is readable without
abbrev pub page_style : List ℕ
page_style =
    markup piece.StyleBegin ++ markup piece.StyleText ++ markup piece.StyleCells ++ markup piece.StyleNumbers ++ markup piece.StyleNarrow ++ markup piece.StyleEnd

-- a bank
abbrev pub bank_text : Bic → List ℕ
bank_text bank = escaped (bic_text bank)

-- whose page it is, and of which day
abbrev pub title_text : Bic → Day → List ℕ
title_text home day = bank_text home ++ markup piece.On ++ yymmdd_of day

-- what stands ahead of its sections
abbrev pub page_head : Bic → Day → List ℕ
page_head home day = markup piece.PageBegin ++ title_text home day ++ page_style ++ title_text home day ++ markup piece.HeadEnd

-- what needs somebody, what to look twice at, the accounts, the accounts with other banks and their statements, what is booked ahead of its
-- value date, what leaves, and all other messages
abbrev pub sections_of : Chart → List Entry → Day → List Row → List ℕ
sections_of chart entries day rows =
    needs_section chart entries rows ++ twice_section rows ++ accounts_section chart entries ++ nostros_section chart rows
    ++ ahead_section chart entries day ++ leaving_section entries day ++ rest_section chart entries rows

-- the page
abbrev pub page_of : Chart → List Entry → Day → List Row → List ℕ
page_of chart entries day rows = page_head chart.home day ++ sections_of chart entries day rows ++ markup piece.PageEnd
