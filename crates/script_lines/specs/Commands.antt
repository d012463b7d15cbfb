-- Commands, by what they say.
use Rattle.std.specs.Prelude.{Bool, Option, option_map}
use Rattle.model.specs.declared.queries.Query.{Query}
use Rattle.schema.specs.UpdateData.{UpdateData, update_data}
use Rattle.script_lines.specs.declared.reader.ScriptCommand.{ScriptCommand}
use Rattle.script_lines.specs.declared.reader.ScriptCommand.TheVariants as command

pub data Said : Type 0 where
  Sends : (u : UpdateData) → Said
  Turns : (is_focused : Bool) → Said
  Prints : Said
  Asks : (q : Query) → Said

abbrev pub said : ScriptCommand → Said
said (command.Update update) = Sends (update_data update)
said (command.HostFocus is_focused) = Turns is_focused
said command.Print = Prints
said (command.Query query) = Asks query
