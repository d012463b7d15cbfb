-- A value and the lists about its characters, as they are kept.
use Rattle.std.specs.Prelude.{IsTrue, string_bytes}
use Rattle.std.specs.Bool.{then_some}
use Rattle.schema.specs.RunFits.{RunTextData, fit_together}
use Rattle.schema.specs.RunLists.{table_data}
use Rattle.schema.specs.declared.run_text.KeptText.TheInside.{Inside}

abbrev pub text_data : Inside → RunTextData
text_data t = record { value = then_some t.has_value (string_bytes t.value); lists = table_data t.lists }

-- where they are marked as fitting together, they do
abbrev pub IsMarkRight : Inside → Type 0
IsMarkRight t = IsTrue t.is_fit → IsTrue (fit_together (text_data t))
