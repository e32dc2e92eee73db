-- What a reader gives of fields of a text can be written.
use Rattle.std.proofs.Common.{List, Result, Ok, Err}
use Rattle.std.specs.Prelude.{IfOk, IsTrue}
use Rattle.std.specs.List.{All}
use Rattle.corr_text.specs.declared.fault.Fault.{Fault}
use Rattle.ref_tables.specs.Seen.{Tables, few_decimals}
use Rattle.fin_fields.specs.declared.field.Field.{Field}
use Rattle.fin_fields.specs.Writing.{IsField}
use Rattle.fin_layout.specs.Reading.{Gives}
use Rattle.fin_layout.specs.declared.fault.MtFault.{MtFault}
use Rattle.fin_contents.specs.Writing.{IsReadable}

-- what a reader gives of fields that may stand in a text can be written
pub given-readable : {M : Type 0} (read : Tables → List Field → Result M Fault) (t : Tables) (fs : List Field) (r : Result M MtFault) → Gives r (read t fs)
    → IsTrue (few_decimals t.ccys) → All IsField fs → IfOk r (IsReadable read)
given-readable read t fs (Ok m) says few fit = record { tables = t; few = few; fields = fs; fit = fit; says = says }
given-readable read t fs (Err e) says few fit = tt
