-- What holds of one result holds of it said anew.
use Rattle.std.specs.Prelude.{Result, Ok, Err, IfErr, IfOk}

pub ok_as : {A E : Type 0} (P Q : A → Type 0) (r : Result A E) → ((a : A) → P a → Q a) → IfOk r P → IfOk r Q
ok_as P Q (Ok a) more holds = more a holds
ok_as P Q (Err e) more holds = tt

pub err_as : {A E : Type 0} (P Q : E → Type 0) (r : Result A E) → ((e : E) → P e → Q e) → IfErr r P → IfErr r Q
err_as P Q (Ok a) more holds = tt
err_as P Q (Err e) more holds = more e holds
