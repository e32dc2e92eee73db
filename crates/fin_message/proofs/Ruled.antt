-- A transfer with its envelope and its text, from what its fields say between two banks.
use Rattle.std.proofs.Common.{◌≡◌, Result, Ok, Err, refl, sym, subst}
use Rattle.corr_text.specs.First.{◌>>=◌}
use Rattle.corr_text.specs.declared.fault.Fault.{Fault}
use Rattle.fin_blocks.specs.declared.blocks.Blocks.{Blocks}
use Rattle.fin_fields.specs.Fields.{fields_of}
use Rattle.fin_layout.specs.Reading.{Fills}
use Rattle.fin_layout.specs.Tests.{passed}
use Rattle.fin_layout.specs.declared.fault.MtFault.{MtFault}
use Rattle.fin_layout.specs.declared.fault.MtFault.TheVariants as faults
use Rattle.mt103.specs.Message.{mt103_of}
use Rattle.mt103.specs.declared.message.Mt103.{Mt103}
use Rattle.mt103_rules.specs.Rules.{all_rules}
use Rattle.ref_tables.specs.Seen.{Tables}
use Rattle.fin_message.specs.Parts.{envelope_of}
use Rattle.fin_message.specs.Verdict.{transfer_in}
use Rattle.fin_message.specs.inner.Verdict.{ruled_of}
use Rattle.fin_message.specs.declared.message.Message.{Message}
use Rattle.fin_message.specs.declared.message.Message.TheVariants.{Transfer}

once : {U : Type 0} (rules : Result U Fault) (m : Mt103) (whole : Mt103 → Message) → (rules >>= λ _. Ok (whole m)) ≡ ((rules >>= λ _. Ok m) >>= λ n. Ok (whole n))
once (Ok u) m whole = refl
once (Err fault) m whole = refl

apart : {U : Type 0} (said : Result Mt103 Fault) (rules : Mt103 → Result U Fault) (whole : Mt103 → Message)
    → (said >>= λ m. rules m >>= λ _. Ok (whole m)) ≡ ((said >>= λ m. rules m >>= λ _. Ok m) >>= λ n. Ok (whole n))
apart (Ok m) rules whole = once (rules m) m whole
apart (Err fault) rules whole = refl

abbrev carried : Blocks → Mt103 → Message
carried b m = Transfer (envelope_of b) b.text m

as-ruled : (t : Tables) (b : Blocks) → transfer_in t b ≡ (ruled_of t (envelope_of b) (fields_of b.text) >>= λ m. Ok (carried b m))
unfolding transfer_in ruled_of
as-ruled t b = apart (mt103_of t (fields_of b.text)) (λ m. passed (all_rules (envelope_of b).sender (envelope_of b).receiver t m)) (carried b)

fills-on : {B : Type 0} (result : Result B MtFault) (m : Mt103) (said : Result Mt103 Fault) (whole : Mt103 → Message) → Fills result m said → Fills result (whole m) (said >>= λ n. Ok (whole n))
fills-on (Ok b) m said whole h = rw h refl
fills-on (Err faults.Memory) m said whole h = tt
fills-on (Err (faults.Bad fault)) m said whole h = rw h refl

pub carries : {B : Type 0} (t : Tables) (b : Blocks) (result : Result B MtFault) (m : Mt103) → Fills result m (ruled_of t (envelope_of b) (fields_of b.text)) → Fills result (carried b m) (transfer_in t b)
carries t b result m h =
    subst (λ meant. Fills result (carried b m) meant) (sym (as-ruled t b)) (fills-on result m (ruled_of t (envelope_of b) (fields_of b.text)) (carried b) h)
