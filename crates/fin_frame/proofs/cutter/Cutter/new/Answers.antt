use Rattle.std.proofs.Common.{[], refl}
use Rattle.fin_frame.proofs.Known.{was-fed, one-cut}
use Rattle.fin_frame.proofs.cutter.Cutter.new.Goals as goal

pub returns : goal.returns
returns c = record { sound = refl; made = was-fed _ [] [] (λ e. refl) refl; one_cut = one-cut }
