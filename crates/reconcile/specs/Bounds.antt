-- What may be compared.
use Rattle.std.specs.Prelude.{◌≡◌, List, All, Ok}
use Rattle.fin_contents.specs.Writing.{IsReadable}
use Rattle.mt950.specs.Joining.{IsAddable, joined_of}
use Rattle.mt950.specs.Page.{mt950_of}
use Rattle.mt950.specs.declared.joining.Statement.{Statement}
use Rattle.mt950.specs.declared.page.Page950.{Page950}

-- a statement is one that `join_pages` gives of pages that `read_mt950` gives
pub record IsReceived (s : Statement) : Type 0 where
  pub pages : List Page950
  pub read : All (IsReadable mt950_of) pages
  pub joined : joined_of pages ≡ Ok s
  pub sound : IsAddable s
