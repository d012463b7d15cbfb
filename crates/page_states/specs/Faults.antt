-- Why a page is not written further.
use Rattle.script_words.specs.declared.stops.Stop.{Stop}
use Rattle.script_words.specs.declared.stops.Stop.TheVariants.{Memory, WriteFault}
use Rattle.page_states.specs.declared.faults.Fault.{Fault}
use Rattle.page_states.specs.declared.faults.Fault.TheVariants as fault

abbrev pub stop_of : Fault → Stop
stop_of fault.Memory = Memory
stop_of fault.Output = WriteFault
