use Rattle.std.proofs.Common.{◌≡◌, map, take}
use Rattle.std.specs.Prelude.{All}
use Rattle.mt940_out.specs.Pages.{customer_message, noted_page}
use Rattle.mt940_out.specs.Valid.{IsSent}
use Rattle.mt940_out.proofs.paging.messages_of.Given as goal

-- the messages of the pages so far, which are sent
abbrev pub invariant-loop-placed : goal.invariant-loop-placed
invariant-loop-placed l = record {
  texts : l.texts ≡ map (λ placed. customer_message l.home (noted_page l.h.entries placed)) (take l.placed-index l.pages);
  sent : All (λ placed. IsSent l.home (noted_page l.h.entries placed)) (take l.placed-index l.pages);
}
