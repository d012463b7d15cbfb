-- The lists about a text run's characters, as plain data.
use Rattle.std.specs.Prelude.{ℕ, ℤ, List, [], Option, None, option_map}
use Rattle.schema.specs.declared.run_text.RunList.{RunList}
use Rattle.schema.specs.declared.run_text.RunList.TheVariants.{Lengths, Starts, Positions, Widths}
use Rattle.schema.specs.declared.run_text.RunTable.{RunTable}

pub record RunListsData : Type 0 where
  pub lengths : List ℕ
  pub starts : List ℕ
  pub positions : Option (List ℤ)
  pub widths : Option (List ℤ)

abbrev pub no_lists : RunListsData
no_lists = record { lengths = []; starts = []; positions = None; widths = None }

abbrev pub table_data : RunTable → RunListsData
table_data t = record {
  lengths = t.lengths.items;
  starts = t.starts.items;
  positions = option_map (λ v. v.items) t.positions;
  widths = option_map (λ v. v.items) t.widths;
}

-- the lists with another one in the place of its kind
abbrev pub with_list : RunList → RunListsData → RunListsData
with_list (Lengths v) d = record d { lengths = v.items }
with_list (Starts v) d = record d { starts = v.items }
with_list (Positions v) d = record d { positions = option_map (λ l. l.items) v }
with_list (Widths v) d = record d { widths = option_map (λ l. l.items) v }
