-- Why a step of a command stopped, as the status that tells it.
use Rattle.fin_frame.specs.declared.fault.FrameFault.{FrameFault}
use Rattle.fin_frame.specs.declared.fault.FrameFault.TheVariants as frame
use Rattle.ref_tables.specs.declared.fault.TableFault.{TableFault}
use Rattle.ref_tables.specs.declared.fault.TableFault.TheVariants as refused
use Rattle.ref_tables.specs.declared.fault.TableName.TheVariants as names
use Rattle.ref_tables.specs.declared.fault.Why.TheVariants as why
use Rattle.corr_top.specs.declared.cutting.FileStop.{FileStop}
use Rattle.corr_top.specs.declared.cutting.FileStop.TheVariants as file
use Rattle.corr_top.specs.declared.reading.ReadStop.{ReadStop}
use Rattle.corr_top.specs.declared.reading.ReadStop.TheVariants as reading
use Rattle.corr_top.specs.declared.status.Status.{Status}
use Rattle.corr_top.specs.declared.status.Status.TheVariants as status
use Rattle.corr_top.specs.declared.tables.TableStop.{TableStop}
use Rattle.corr_top.specs.declared.tables.TableStop.TheVariants as table

-- a table was not read, or was refused
abbrev pub table_stop_of_read : ReadStop → TableStop
table_stop_of_read (reading.Fault before after) = table.Fault before after
table_stop_of_read reading.Memory = table.Memory

-- a table was read, and is refused by its bad row
abbrev pub table_stop_of_fault : TableFault → TableStop
table_stop_of_fault (refused.Bad name row why) = table.Bad name row why
table_stop_of_fault refused.Memory = table.Memory

-- the message file was not read, or can't be cut
abbrev pub file_stop_of_read : ReadStop → FileStop
file_stop_of_read (reading.Fault before after) = file.Fault before after
file_stop_of_read reading.Memory = file.Memory

-- the message file can't be cut: of each fault the place alone is told
abbrev pub file_stop_of_frame : FrameFault → FileStop
file_stop_of_frame (frame.Stray at) = file.Framing at
file_stop_of_frame (frame.TooLong at) = file.Framing at
file_stop_of_frame (frame.Unbalanced at) = file.Framing at
file_stop_of_frame frame.Memory = file.Memory

-- the status where the row that words say is refused, which is row 1
abbrev pub status_of_row : TableFault → Status
status_of_row (refused.Bad name row reason) = status.Table names.Accounts 1 reason
status_of_row refused.Memory = status.Memory
