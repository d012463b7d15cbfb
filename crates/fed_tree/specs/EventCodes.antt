-- Records of events as coded values.
use Rattle.std.specs.Prelude.{List, Option}
use Rattle.std.specs.Coded.{Coded, coded_option, coded_list}
use Rattle.fed_tree.specs.declared.events.Event.{Event}
use Rattle.fed_tree.specs.contracts.events.Event.{the_row as event_row}

abbrev pub coded_events : Coded (Option (List Event))
coded_events = coded_option (coded_list event_row.coded)
