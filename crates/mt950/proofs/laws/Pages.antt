-- Pages that were read passed their tests and can be written, and what is written is read.
use Rattle.std.proofs.Common.{◌≡◌, ◌≤◌, List, None, Ok}
use Rattle.std.specs.Prelude.{IsTrue}
use Rattle.std.specs.List.{All}
use Rattle.corr_text.specs.First.{first_of}
use Rattle.ref_tables.specs.Seen.{Tables, few_decimals}
use Rattle.fin_fields.specs.declared.field.Field.{Field}
use Rattle.fin_fields.specs.Writing.{IsField}
use Rattle.fin_contents.specs.Writing.{IsReadable}
use Rattle.mt950.specs.Page.{mt950_of, tests_950}
use Rattle.mt950.specs.Writing.{fields_950}
use Rattle.mt950.specs.inner.Writing.{IsContinued, IsPage}
use Rattle.mt950.specs.declared.page.Page950.{Page950}
use Rattle.mt950.proofs.Fit.{fit-950, page-fits}
use Rattle.mt950.proofs.Read.{page-is, passes-950, readable-is}
use Rattle.mt950.proofs.Written.{pages-read-back}

-- of the fields of a page that was read no test fails
pub fields-pass-950 : (t : Tables) (fs : List Field) (p : Page950) → mt950_of t fs ≡ Ok p → first_of (tests_950 t fs) ≡ None
fields-pass-950 t fs p e = passes-950 t fs p e

-- such a page can be written, where its currency has at most 4 decimals
pub page-readable : (t : Tables) (fs : List Field) (p : Page950) → p.decimals ≤ 4 → mt950_of t fs ≡ Ok p → IsPage t p
page-readable t fs p few e = page-is t fs p few e

-- what read_mt950 gives of fields of a text can be written
pub readable-page : (p : Page950) (r : IsReadable mt950_of p) → IsPage r.tables p
readable-page p r = readable-is p r

-- and a page that can be written, whose further lines may continue a field, is one that read_mt950 gives of fields of a text
pub page-given : (t : Tables) (p : Page950) → IsTrue (few_decimals t.ccys) → IsPage t p → All IsContinued p.lines → IsReadable mt950_of p
page-given t p few is on = record { tables = t; few = few; fields = fields_950 p; fit = page-fits t p is on; says = pages-read-back t p is }

-- the fields of such a page are fields of a text
pub fields-fit-950 : (p : Page950) → IsReadable mt950_of p → All IsField (fields_950 p)
fields-fit-950 p readable = fit-950 p readable

-- a page that can be written is read of the fields that it is written as
pub page-reads-back : (t : Tables) (p : Page950) → IsPage t p → mt950_of t (fields_950 p) ≡ Ok p
page-reads-back t p is = pages-read-back t p is
