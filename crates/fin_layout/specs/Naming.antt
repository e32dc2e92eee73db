-- The faults of fields, each with its tag and occurrence.
use Rattle.std.specs.Prelude.{ℕ, List, [], slice_get, option_map, unwrap_or}
use Rattle.corr_text.specs.Codes.{code}
use Rattle.corr_text.specs.declared.fault.Code.{Code}
use Rattle.corr_text.specs.declared.fault.Fault.{Fault}
use Rattle.fin_fields.specs.declared.field.Field.{Field}
use Rattle.fin_fields.specs.Faults.{nth_of, tag_of}
use Rattle.fin_layout.specs.declared.place.Place.{Place}
use Rattle.fin_layout.specs.Order.{place_tag}

-- a fault of the field at a place of the list, counted from 0
abbrev pub fault_at : List Field → ℕ → Code → Fault
fault_at fs i code = record { code = code; tag = unwrap_or (option_map tag_of (slice_get fs i)) []; nth = nth_of fs i }

-- P23: no field stands at a place where one must
abbrev pub absent : List Place → ℕ → Fault
absent order k = record { code = code "P23"; tag = unwrap_or (option_map place_tag (slice_get order k)) []; nth = 0 }
