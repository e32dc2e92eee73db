-- What an entry and a line share that are a pair, as one value.
use Rattle.std.specs.Prelude.{ℕ, ◌-◌, ◌&&◌, Bool, List, ◌∷◌, ◌++◌, length, replicate, ℤ, pos, neg_ℤ}
use Rattle.std.specs.Ordering.{int_eq}
use Rattle.std.specs.Str.{bytes_eq}
use Rattle.day_model.specs.declared.pay.Side.{Side}
use Rattle.day_model.specs.declared.pay.Side.TheVariants.{Credit, Debit}
use Rattle.mt950.specs.Entry.{effect_of}
use Rattle.mt950.specs.declared.entry.Line61.{Line61}
use Rattle.reconcile.specs.declared.key.Key.{Key}

-- a text of fewer than n bytes as n bytes: its length, its bytes, and zeros
abbrev pub short_of : ℕ → List ℕ → List ℕ
short_of n text = length text ∷ text ++ replicate (n - 1 - length text) 0

-- what a leg adds to a balance
abbrev pub added_on : Side → ℕ → ℤ
added_on Credit amount = pos amount
added_on Debit amount = neg_ℤ (pos amount)

-- what a line of ours has
abbrev pub key_of : Line61 → Key
key_of our = record { amount = effect_of our; value = our.value.0; reference = short_of 17 our.reference }

-- what a line of ours must have that a line of theirs takes
abbrev pub taken_by : Line61 → Key
taken_by their = record { amount = neg_ℤ (effect_of their); value = their.value.0; reference = short_of 17 their.reference }

-- two keys are the same
abbrev pub is_key : Key → Key → Bool
is_key key other = int_eq key.amount other.amount && (int_eq key.value other.value && bytes_eq key.reference other.reference)
