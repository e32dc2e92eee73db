-- What holds of each row holds of the one that is found.
use Rattle.std.proofs.Common.{◌≡◌, ℕ, suc, Bool, true, false, cond, ◌&&◌, List, [], ◌∷◌, Option, Some, None, Bor, sym, subst, ◌∙◌, arith}
use Rattle.std.specs.Prelude.{All, IfSome, filter, find}
use Rattle.std.specs.Option.{option_copied}
use Rattle.std.specs.Str.{bytes_eq}
use Rattle.corr_money.specs.declared.amount.Ccy.{Ccy}
use Rattle.corr_ids.specs.declared.day.Day.{Day}
use Rattle.ssi_versions.specs.declared.row.SsiRow.{SsiRow}
use Rattle.ssi_versions.specs.Instruction.{is_in_force, naming}
use Rattle.ssi_versions.specs.InstructionList.{IsInForm}
use Rattle.ssi_versions.proofs.Places.{find-filter}

here : {A : Type 0} (P : A → Type 0) (b : Bool) (x : A) (o : Option A) → P x → IfSome o P → IfSome (cond b (Some x) o) P
here P true x o first rest = first
here P false x o first rest = rest

found : {A : Type 0} (P : A → Type 0) (test : A → Bool) (xs : List A) → All P xs → IfSome (find test xs) P
found P test [] all = tt
found P test (x ∷ xs) all =
    let first : P x = all 0 x (omega arith) in
    here P (test x) x (find test xs) first (found P test xs (λ k d lt. all (suc k) d (omega arith)))

after : {A : Type 0} (P : A → Type 0) (o : Option (Bor A)) → IfSome (option_copied o) P → IfSome o (λ r. P r.now)
after P None h = tt
after P (Some r) h = h

-- the row in force that is found is in form
pub found-in-form : (ccy : Ccy) (bank : List ℕ) (day : Day) (rows : List SsiRow) (o : Option (Bor SsiRow)) → All IsInForm rows
    → option_copied o ≡ naming bank (filter (is_in_force ccy day) rows) → IfSome o (λ r. IsInForm r.now)
found-in-form ccy bank day rows o form e =
    let first = e ∙ find-filter (λ r. bytes_eq bank r.bank) (is_in_force ccy day) rows in
    after IsInForm o (subst (λ (f : Option SsiRow). IfSome f IsInForm) (sym first) (found IsInForm (λ r. is_in_force ccy day r && bytes_eq bank r.bank) rows form))
