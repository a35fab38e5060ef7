-- The stops at which a run ends where a part of it finds a fault.
use Rattle.store_rows.specs.declared.append.AppendFault.{AppendFault}
use Rattle.store_rows.specs.declared.append.AppendFault.TheVariants as append
use Rattle.script_files.specs.declared.open.OpenFault.{OpenFault as Fault}
use Rattle.script_files.specs.declared.open.OpenFault.TheVariants as opening
use Rattle.shared_run.specs.declared.stop.RunStop.{RunStop, TheVariants.{NoMemory, StoreFault, OpenFault, CreateFault}}

abbrev pub append_stop : AppendFault → RunStop
append_stop append.KeepFault = StoreFault
append_stop append.NoMemory = NoMemory

abbrev pub open_stop : Fault → RunStop
open_stop opening.ReadFault = OpenFault
open_stop opening.WriteFault = CreateFault
open_stop opening.NoMemory = NoMemory
