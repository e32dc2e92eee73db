-- What an answer means after tests of which none holds.
use Rattle.std.proofs.Common.{◌≡◌, [], ◌∷◌, Option, Some, None, Result}
use Rattle.corr_text.specs.First.{unless_fault, ◌>>=◌}
use Rattle.corr_text.specs.declared.fault.Fault.{Fault}
use Rattle.fin_layout.specs.Reading.{Gives}
use Rattle.fin_layout.specs.Tests.{passed}
use Rattle.fin_layout.specs.declared.fault.MtFault.{MtFault}
use Rattle.fin_message.specs.declared.message.Message.{Message}

pub passed_on : (heading lines : Option Fault) (meant : Result Message Fault) (r : Result Message MtFault) → heading ≡ None → lines ≡ None → Gives r meant
    → Gives r (unless_fault heading >>= λ _. passed (lines ∷ []) >>= λ _. meant)
passed_on None None meant r h l gives = gives
passed_on None (Some fault) meant r h l gives = absurd (cc l)
passed_on (Some fault) lines meant r h l gives = absurd (cc h)
