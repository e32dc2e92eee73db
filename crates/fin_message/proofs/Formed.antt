-- The envelope of a message whose blocks were read meets its grammar.
use Rattle.std.proofs.Common.{◌≡◌, Bool, true, false, cond, IfSome, List, ℕ, Option, Some, None, Result, Ok, Err, refl}
use Rattle.std.specs.Prelude.{IfOk}
use Rattle.corr_text.specs.First.{◌>>=◌}
use Rattle.corr_ids.specs.Address.{bank_of}
use Rattle.corr_ids.specs.Bic.{IsBic}
use Rattle.corr_ids.specs.Day.{◌>>=◌ as ◌onward◌}
use Rattle.corr_ids.specs.Mir.{IsMir, sender_of, sender_text}
use Rattle.corr_ids.specs.Uetr.{IsUetr, is_uetr, uetr_of}
use Rattle.corr_ids.specs.declared.address.LtAddress.{LtAddress}
use Rattle.corr_ids.specs.declared.mir.Mir.{Mir}
use Rattle.corr_ids.specs.declared.uetr.Uetr.{Uetr}
use Rattle.corr_ids.proofs.laws.Spelling.{lt-bank, mir-form, mir-sender}
use Rattle.fin_blocks.specs.Blocks.{IsApp, blocks_of}
use Rattle.fin_blocks.specs.declared.blocks.App.{App}
use Rattle.fin_blocks.specs.declared.blocks.App.TheVariants.{Received, Sent}
use Rattle.fin_blocks.specs.declared.blocks.Blocks.{Blocks}
use Rattle.fin_blocks.proofs.laws.Named.{blocks-named}
use Rattle.fin_message.specs.Parts.{envelope_of, envelope_with, uetr_in, subblock_under}
use Rattle.fin_message.specs.Sound.{IsEnvelope}

-- what holds of the last of several steps
pub then : {A B F : Type 0} (P : B → Type 0) (r : Result A F) (f : A → Result B F) → ((x : A) → r ≡ Ok x → IfOk (f x) P) → IfOk (r >>= f) P
then P (Ok x) f p = p x refl
then P (Err e) f p = tt

tested : {A : Type 0} (P : A → Type 0) (t : Bool) (x : A) → (t ≡ true → P x) → IfSome (cond t (Some x) None) P
tested P true x p = p refl
tested P false x p = tt

last-of : {A B : Type 0} (P : B → Type 0) (o : Option A) (f : A → Option B) → ((x : A) → IfSome (f x) P) → IfSome (o onward f) P
last-of P (Some x) f p = p x
last-of P None f p = tt

uetr-again : (bs : List ℕ) → IfSome (uetr_of bs) IsUetr
uetr-again bs = tested IsUetr (is_uetr bs) (record { 0 = bs }) (λ h. rw h refl)

sender-bank : (mir : Mir) → IsMir mir → IsBic (bank_of (sender_of mir))
sender-bank mir h = lt-bank (sender_text mir.0) (mir-sender mir.0 (mir-form mir h))

uetr-form : (b : Blocks) → IfSome (uetr_in b) IsUetr
uetr-form b = last-of IsUetr (subblock_under 121 b.user) uetr_of uetr-again

with-form : (own : LtAddress) (app : App) (uetr : Option Uetr) → IsBic (bank_of own) → IsApp app → IfSome uetr IsUetr → IsEnvelope (envelope_with own app uetr)
with-form own (Received mt mir) uetr o a u = record { mir = a; named = refl; sender = sender-bank mir a; receiver = o; uetr = u }
with-form own (Sent mt to) uetr o a u = record { mir = tt; named = tt; sender = o; receiver = a; uetr = u }

pub envelope-form : (m : List ℕ) (b : Blocks) → blocks_of m ≡ Ok b → IsEnvelope (envelope_of b)
envelope-form m b e = let named = blocks-named m b e in with-form b.own b.app (uetr_in b) named.own named.app (uetr-form b)
