-- The causes of faults.
use Rattle.std.specs.Prelude.{◌≡◌, ℕ, ◌+◌, ◌<◌}
use Rattle.corr_text.specs.Faults.{Rose}
use Rattle.corr_disk.specs.Disk.{most_disk_bytes}
use Rattle.jrn_file.specs.declared.fault.AppendFault.{AppendFault}
use Rattle.jrn_file.specs.declared.fault.AppendFault.TheVariants as append
use Rattle.jrn_file.specs.declared.fault.MakeFault.{MakeFault}
use Rattle.jrn_file.specs.declared.fault.MakeFault.TheVariants as making

-- the counts that a fault of the disk tells: that at entry, and one more, which is that at the return
pub record TellsCounts (old before after new : ℕ) : Type 0 where
  pub before_is : before ≡ old
  pub after_is : after ≡ new
  pub rose : Rose before after

-- With so many bytes more after its closed gate the file would pass its limit. It is as before.
pub record PassesLimit (at more end need : ℕ) (untouched : Type 0) : Type 0 where
  pub end_is : end ≡ at
  pub need_is : need ≡ more
  pub past : most_disk_bytes < end + need
  pub same : untouched

-- Full tells the place of the closed gate and the bytes that are needed.
abbrev pub AppendCause : ℕ → ℕ → ℕ → ℕ → Type 0 → AppendFault → Type 0
AppendCause old new at more untouched (append.Full end need) = PassesLimit at more end need untouched
AppendCause old new at more untouched (append.DiskFault before after) = TellsCounts old before after new

-- Exists tells the first byte of what is there. Where the disk didn't fail, its count is as it was. A journal without records is never
-- too long.
abbrev pub MakeCause : ℕ → ℕ → (ℕ → Type 0) → MakeFault → Type 0
MakeCause old new is_other (making.Exists first) = (new ≡ old) × is_other first
MakeCause old new is_other (making.Full end need) = ⊥
MakeCause old new is_other (making.DiskFault before after) = TellsCounts old before after new
MakeCause old new is_other making.Memory = new ≡ old

-- the same of a journal of so many bytes: Full tells 0 and these, which are more than the limit
abbrev pub MakeWithCause : ℕ → ℕ → (ℕ → Type 0) → ℕ → Type 0 → MakeFault → Type 0
MakeWithCause old new is_other size untouched (making.Exists first) = (new ≡ old) × is_other first
MakeWithCause old new is_other size untouched (making.Full end need) = (new ≡ old) × PassesLimit 0 size end need untouched
MakeWithCause old new is_other size untouched (making.DiskFault before after) = TellsCounts old before after new
MakeWithCause old new is_other size untouched making.Memory = new ≡ old

-- where this byte is in front of something else, the answer is Exists, unless the disk or memory failed
abbrev pub IsRefusal : ℕ → MakeFault → Type 0
IsRefusal front (making.Exists first) = first ≡ front
IsRefusal front (making.Full end need) = ⊥
IsRefusal front (making.DiskFault before after) = Unit {0}
IsRefusal front making.Memory = Unit {0}
