-- The numbers of updates, and the headings of what is said of each step.
use Rattle.std.specs.Prelude.{ℕ, Bool, true, false, List, [], ◌++◌, codes, Option, Some, None, if◌then◌else◌, Result, Ok, Err}
use Rattle.std.specs.Fmt.{decimal}
use Rattle.std.specs.declared.alloc.AllocError.{AllocError}
use Rattle.script_lines.specs.InputLines.{next_number}
use Rattle.session.specs.declared.commands.Command.{Command}
use Rattle.session.specs.declared.commands.Command.TheVariants as command
use Rattle.session.specs.declared.commands.Reply.{Reply}
use Rattle.session.specs.declared.commands.Reply.TheVariants.{Refused}
use Rattle.atree_script.specs.Reports.{count_after}
use Rattle.speak.specs.declared.numbering.Heading.{Heading}
use Rattle.speak.specs.declared.numbering.Heading.TheVariants as heading
use Rattle.speak.specs.declared.numbering.Numbering.{Numbering}

abbrev pub none_yet : Bool → Numbering
none_yet shown = record { is_shown = shown; updates = 0 }

-- updates are counted, refused ones too
abbrev pub after_one : Numbering → Numbering
after_one n = record n { updates = next_number n.updates }

abbrev pub after_command : Numbering → Command → Numbering
after_command n c = record n { updates = count_after n.updates c }

-- an update is headed by its number, if numbers are shown
abbrev pub first_heading : Numbering → Option Heading
first_heading n = if n.is_shown then Some (heading.Update n.updates) else None

-- and a change of the host's focus by what it is then
abbrev pub heading_of : Numbering → Command → Option Heading
heading_of n (command.Update u) = first_heading n
heading_of n (command.HostFocus focused) = if n.is_shown then Some (heading.Host focused) else None
heading_of n (command.Query q) = None

-- a refused update has no heading: it says nothing, and is reported elsewhere
abbrev pub heading_after : Option Heading → Result Reply AllocError → Option Heading
heading_after h (Ok (Refused why)) = None
heading_after h reply = h

abbrev pub heading_text : Option Heading → List ℕ
heading_text None = []
heading_text (Some (heading.Update number)) = codes "update " ++ decimal number ++ codes ":\n"
heading_text (Some (heading.Host true)) = codes "host on:\n"
heading_text (Some (heading.Host false)) = codes "host off:\n"
