-- A page by its ledger's movements and a running balance.
use Rattle.std.specs.Prelude.{ℕ, ◌==◌, List, [], map, Some, None, ℤ, if◌then◌else◌}
use Rattle.corr_ids.specs.Day.{place_in_year}
use Rattle.corr_ids.specs.declared.bic.Bic.{Bic}
use Rattle.fin_blocks.specs.Sending.{sent_text}
use Rattle.fin_fields.specs.Writing.{fields_text}
use Rattle.mt950.specs.Writing.{fields_950}
use Rattle.mt950.specs.declared.balance.Balance.{Balance}
use Rattle.mt950.specs.declared.page.Page950.{Page950}
use Rattle.statement.specs.inner.Index.{last_balance}
use Rattle.statement.specs.Pages.{day_before, page_reference}
use Rattle.statement.specs.declared.ledger.Ledger.{Ledger}
use Rattle.statement.specs.declared.movement.Movement.{Movement}
use Rattle.statement.specs.declared.page.Heading.{Heading}
use Rattle.statement.specs.declared.page.PlacedPage.{PlacedPage}
use Rattle.statement.specs.Running.{line_by}

-- the opening of a page: of the first page with the day before and the letter F
abbrev pub opening_by : Heading → ℤ → Balance
opening_by heading balance = record { last = heading.page == 1; day = if heading.page == 1 then day_before heading.day else heading.day; signed = balance }

-- a page that opens at a balance, with its movements
abbrev pub page_by : Ledger → Heading → ℤ → List Movement → Page950
page_by ledger heading balance movements = record {
  reference = page_reference heading.day heading.account.0 heading.page;
  account = ledger.id;
  number = place_in_year heading.day;
  page = Some heading.page;
  ccy = ledger.ccy;
  decimals = ledger.decimals;
  opening = opening_by heading balance;
  lines = map line_by movements;
  closing = record { last = heading.last; day = heading.day; signed = last_balance balance movements };
  available = None;
}

-- with the places of its lines
abbrev pub placed_page_by : Ledger → Heading → ℤ → List Movement → PlacedPage
placed_page_by ledger heading balance movements = record { page = page_by ledger heading balance movements; places = map (λ movement. movement.place) movements }

-- a page's message, from one bank to another
abbrev pub message_by : Bic → Bic → Page950 → List ℕ
message_by home to page = sent_text home 950 to [] (fields_text (fields_950 page))
