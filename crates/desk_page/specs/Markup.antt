-- The markup of a page, piece by piece. None depends on what was read.
use Rattle.std.specs.Prelude.{ℕ, List, [], codes}
use Rattle.desk_page.specs.declared.mark.Piece.{Piece}
use Rattle.desk_page.specs.declared.mark.Piece.TheVariants as piece

-- cells that say something in words
unfoldable pub word_markup : Piece → List ℕ
word_markup piece.NotEntered = codes "<td>not entered yet</td>"
word_markup piece.BookedAt = codes "<td>booked, place "
word_markup piece.ConflictAt = codes "<td>another payment has this reference, place "
word_markup piece.HasRoom = codes " has room by now"
word_markup piece.Lacks = codes " lacks "
word_markup piece.PlaceOf = codes ", place "
word_markup piece.PageOf = codes "<td>a page of a statement of "
word_markup piece.Advice = codes "<td>an advice</td>"
word_markup piece.Stated = codes "<td>in the file</td>"
word_markup piece.Unstated = codes "<td>none in the file</td>"
word_markup piece.TypeBegin = codes "<td>MT"
word_markup _ = []

-- cells that any table may have; all others are of one table
unfoldable pub cell_markup : Piece → List ℕ
cell_markup piece.CellBegin = codes "<td>"
cell_markup piece.NumberBegin = codes "<td class=n>"
cell_markup piece.CellEnd = codes "</td>"
cell_markup piece.NoCell = codes "<td></td>"
cell_markup piece.NoCells = codes "<td colspan=5></td>"
cell_markup piece.Space = codes " "
cell_markup piece.Comma = codes ", "
cell_markup piece.BarLeast = codes "<td><meter min="
cell_markup piece.BarGreatest = codes " max="
cell_markup piece.BarValue = codes " value="
cell_markup piece.BarEnd = codes "></meter></td>"
cell_markup other = word_markup other

-- tables around their cells; all others are of cells
unfoldable pub table_markup : Piece → List ℕ
table_markup piece.AheadBegin = codes "<h2>Booked ahead of the value date</h2>\n<table>\n<tr><th>Place</th><th>Reference</th><th>Booked on</th><th>Value date</th><th>Account</th><th>Amount</th></tr>\n"
table_markup piece.NostrosBegin = codes "<h2>Statements of our accounts with other banks</h2>\n<table>\n<tr><th>Account</th><th>Currency</th><th>Bank</th><th>Statement</th></tr>\n"
table_markup piece.LeavingBegin = codes "<h2>Messages that leave for what is booked on this day</h2>\n<table>\n<tr><th>Receiver</th><th>Type</th><th>How many</th></tr>\n"
table_markup piece.TwiceBegin = codes "<h2>Look at twice: an earlier message has the UETR, or the sender, field 20 and amount</h2>\n<table>\n<tr><th>No</th><th>Reference</th><th>Sender</th><th>Field 20</th><th>Amount</th></tr>\n"
table_markup piece.PaymentColumns = codes "<tr><th>No</th><th>Reference</th><th>Sender</th><th>Field 20</th><th>Amount</th>"
table_markup piece.StandingColumns = codes "<th>Value date</th><th>Beneficiary</th><th>What</th></tr>\n"
table_markup piece.AccountColumns = codes "<tr><th>Account</th><th>Kind</th><th>Owner</th><th>Balance</th>"
table_markup piece.RoomColumns = codes "<th>Floor</th><th>Ceiling</th><th>To the floor</th><th>To the ceiling</th><th>Bar</th></tr>\n"
table_markup piece.TableBegin = codes "<table>\n"
table_markup piece.TableEnd = codes "</table>\n"
table_markup piece.RowBegin = codes "<tr>"
table_markup piece.RowEnd = codes "</tr>\n"
table_markup other = cell_markup other

-- the headings; all others are of tables or cells
unfoldable pub heading_markup : Piece → List ℕ
heading_markup piece.Needs = codes "<h2>Needs somebody</h2>\n"
heading_markup piece.MendTitle = codes "<h3>Tell the sender what is faulty, to mend it and to send it again</h3>\n"
heading_markup piece.AskTitle = codes "<h3>Ask the sender</h3>\n"
heading_markup piece.ReturnTitle = codes "<h3>Return it, or what its code says in place of that</h3>\n"
heading_markup piece.TablesTitle = codes "<h3>Look at our tables, and run it again; else tell the sender</h3>\n"
heading_markup piece.ByHandTitle = codes "<h3>Handle it by hand</h3>\n"
heading_markup piece.StrayTitle = codes "<h3>Find out how it came into the file</h3>\n"
heading_markup piece.FundTitle = codes "<h3>Funds are lacking: the sender funds it, and sends it under a new reference</h3>\n"
heading_markup piece.RoomTitle = codes "<h3>Past a ceiling: raise it by set-limits, and the sender sends it under a new reference</h3>\n"
heading_markup piece.DisputedTitle = codes "<h3>Another payment has the reference: find out which is right</h3>\n"
heading_markup piece.NothingTitle = codes "<h2>Nothing to do</h2>\n"
heading_markup piece.OrderTitle = codes "<h2>In order</h2>\n"
heading_markup piece.Accounts = codes "<h2>Accounts</h2>\n"
heading_markup piece.CurrencyBegin = codes "<h3>"
heading_markup piece.CurrencyEnd = codes "</h3>\n"
heading_markup other = table_markup other

-- a piece of markup: first those of the frame of a page
unfoldable pub markup : Piece → List ℕ
markup piece.PageBegin = codes "<!DOCTYPE html>\n<html lang=en>\n<head>\n<meta charset=utf-8>\n<meta name=viewport content='width=device-width'>\n<title>"
markup piece.StyleBegin = codes "</title>\n<style>\n"
markup piece.StyleText = codes "body { font-family: sans-serif; }\ntable { border-collapse: collapse; }\n"
markup piece.StyleCells = codes "th, td { border: 1px solid silver; padding: 2px 6px; text-align: left; }\n"
markup piece.StyleNumbers = codes ".n { text-align: right; }\n"
markup piece.StyleNarrow = codes "@media (max-width: 60em) { tr { display: block; border-top: 1px solid gray; } th, td { display: inline-block; border: 0; } }\n"
markup piece.StyleEnd = codes "</style>\n</head>\n<body>\n<h1>"
markup piece.HeadEnd = codes "</h1>\n"
markup piece.On = codes " on "
markup piece.PageEnd = codes "</body>\n</html>\n"
markup other = heading_markup other
