-- The instructions of a message together.
use Rattle.std.specs.Prelude.{ℕ, ◌+◌, Bool, List, [], ◌∷◌, ◌++◌, length, position, Option, Some, None, option_map, unwrap_or, nat_lt, codes, if◌then◌else◌}
use Rattle.std.specs.List.{list_any}
use Rattle.std.specs.Str.{bytes_eq}
use Rattle.corr_text.specs.Codes.{code}
use Rattle.corr_text.specs.declared.fault.Code.{Code}
use Rattle.corr_text.specs.declared.fault.Fault.{Fault}
use Rattle.mt103.specs.Codes.{instructions}
use Rattle.mt103.specs.declared.instruction.Instr.{Instr}
use Rattle.mt103.specs.declared.misfit.Misfit.{Misfit}
use Rattle.mt103.specs.declared.misfit.Misfit.TheVariants.{Repeated, Early}

-- where a code stands in the list of codes, from 0
abbrev pub rank_of : List ℕ → ℕ
rank_of word = unwrap_or (position (λ w. bytes_eq w word) instructions) (length instructions)

-- an instruction is of an earlier one's code, or its code stands before the earlier one's in the list
abbrev pub fits_badly : Misfit → Instr → Instr → Bool
fits_badly Repeated earlier here = bytes_eq earlier.code here.code
fits_badly Early earlier here = nat_lt (rank_of here.code) (rank_of earlier.code)

-- it is so after one of these
abbrev pub misfits : Misfit → List Instr → Instr → Bool
misfits misfit before here = list_any (λ earlier. fits_badly misfit earlier here) before

-- the first that a test refuses, given those before it
unfoldable pub first_given : {A : Type 0} → (List A → A → Bool) → List A → List A → Option ℕ
first_given test before [] = None
first_given test before (x ∷ xs) = if test before x then Some (length before) else first_given test (before ++ x ∷ []) xs

-- a fault of the instruction with this number, from 0
abbrev pub instr_fault : Code → ℕ → Fault
instr_fault refusal i = record { code = refusal; tag = codes "23E"; nth = i + 1 }

-- E46: the first instruction whose code came before
abbrev pub e46 : List Instr → Option Fault
e46 instrs = option_map (instr_fault (code "E46")) (first_given (misfits Repeated) [] instrs)

-- D98: the first instruction whose code stands before an earlier one's in the list
abbrev pub d98 : List Instr → Option Fault
d98 instrs = option_map (instr_fault (code "D98")) (first_given (misfits Early) [] instrs)
