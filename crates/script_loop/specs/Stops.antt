-- Why reading stops, as why the answering of a script does.
use Rattle.request_reader.specs.declared.stop.ReadStop.{ReadStop}
use Rattle.request_reader.specs.declared.stop.ReadStop.TheVariants as read
use Rattle.script_loop.specs.declared.stop.Stop.{Stop}
use Rattle.script_loop.specs.declared.stop.Stop.TheVariants as stop

abbrev pub stop_of : ReadStop → Stop
stop_of read.ReadFault = stop.ReadFault
stop_of (read.CutOff offset) = stop.CutOff offset
stop_of read.InputTooLong = stop.InputTooLong
stop_of read.NoMemory = stop.NoMemory
