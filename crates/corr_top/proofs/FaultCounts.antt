-- What a fault tells of the counts of faults.
use Rattle.std.proofs.Common.{ℕ, subst}
use Rattle.corr_text.specs.Faults.{Rose}
use Rattle.jrn_file.specs.Faults.{TellsCounts}
use Rattle.corr_top.specs.Reading.{Failed}

-- the count of a source or a sink rose
pub same_rose : {A : Type 0} (faults : A → ℕ) (old new : A) (then now : ℕ) → Failed faults old new then now → Rose (faults old) (faults new)
same_rose faults old new then now f = subst (λ n. Rose n (faults new)) f.then_is (subst (λ n. Rose then n) f.now_is f.rose)

-- that of a disk
pub tells_rose : (old before after new : ℕ) → TellsCounts old before after new → Rose old new
tells_rose old before after new t = subst (λ n. Rose n new) t.before_is (subst (λ n. Rose before n) t.after_is t.rose)
