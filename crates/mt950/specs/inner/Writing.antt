-- A page of a statement written as fields.
use Rattle.std.specs.Prelude.{◌≡◌, ◌<◌, false, length, All, IsTrue, Some, IfSome}
use Rattle.std.specs.List.{list_all}
use Rattle.corr_text.specs.Sets.{is_in}
use Rattle.corr_text.specs.Slashes.{has_stray_slash}
use Rattle.corr_text.specs.declared.set.Set.TheVariants.{A, X}
use Rattle.ref_tables.specs.Seen.{Tables, decimals_in}
use Rattle.fin_fields.specs.Patterns.{is_run}
use Rattle.fin_fields.specs.Writing.{Continues}
use Rattle.mt950.specs.declared.entry.Line61.{Line61}
use Rattle.mt950.specs.declared.page.Page950.{Page950}
use Rattle.mt950.specs.Writing.{IsBalance, IsWritableLine}

-- a line whose further line may continue a field of a text
abbrev pub IsContinued : Line61 → Type 0
IsContinued line = IfSome line.detail Continues

-- a page that can be written and is read under tables which hold its currency with its decimals. A 64 has no letter, so it is
-- never the last
pub record IsPage (t : Tables) (p : Page950) : Type 0 where
  pub reference : IsTrue (is_run (is_in X) 16 p.reference)
  pub slashes : has_stray_slash p.reference ≡ false
  pub account : IsTrue (is_run (is_in X) 35 p.account)
  pub number : p.number < 100000
  pub page : IfSome p.page (λ page. page < 100000)
  pub three : length p.ccy.0 ≡ 3
  pub capitals : IsTrue (list_all (is_in A) p.ccy.0)
  pub known : decimals_in t p.ccy.0 ≡ Some p.decimals
  pub opening : IsBalance p.decimals p.opening
  pub lines : All (IsWritableLine p.decimals) p.lines
  pub closing : IsBalance p.decimals p.closing
  pub available : IfSome p.available (λ b. IsBalance p.decimals b × (b.last ≡ false))
