-- Whether a run's value and the lists about its characters fit together.
use Rattle.std.specs.Prelude.{ℕ, ◌==◌, nat_lt, nat_le, Bool, true, ◌&&◌, List, [], ◌∷◌, length, drop, take, zip, Option, None, unwrap_or}
use Rattle.std.specs.Option.{option_map_or}
use Rattle.std.specs.List.{list_all}
use Rattle.std.specs.Str.{is_utf8}
use Rattle.schema.specs.NodeData.{NodeData}
use Rattle.schema.specs.RunLists.{RunListsData, no_lists}

-- the lengths are at least 1 and cut the text at character boundaries, with nothing left over
abbrev pub is_cut_by : List ℕ → List ℕ → Bool
is_cut_by bs [] = length bs == 0
is_cut_by bs (n ∷ ns) = nat_lt 0 n && (nat_le n (length bs) && (is_utf8 (take n bs) && is_cut_by (drop n bs) ns))

-- each element but the last, beside the next one
abbrev pub neighbours : {X : Type 0} → List X → List (X × X)
neighbours xs = zip xs (drop 1 xs)

-- numbers rise and are below a count
abbrev pub rise_below : List ℕ → ℕ → Bool
rise_below ks count = list_all (λ p. nat_lt p.0 p.1) (neighbours ks) && list_all (λ k. nat_lt k count) ks

-- the list, if there is one, has so many numbers
abbrev pub has_count : {X : Type 0} → Option (List X) → ℕ → Bool
has_count list count = option_map_or (λ xs. length xs == count) list true

-- a value, and the lists about its characters
pub record RunTextData : Type 0 where
  pub value : Option (List ℕ)
  pub lists : RunListsData

abbrev pub no_text : RunTextData
no_text = record { value = None; lists = no_lists }

-- those of a node
abbrev pub run_text : NodeData → RunTextData
run_text d = record {
  value = d.value;
  lists = record {
    lengths = d.character_lengths;
    starts = d.word_starts;
    positions = d.character_positions;
    widths = d.character_widths;
  };
}

-- the lengths cut the value, the word starts are numbers of characters and rise, and positions and widths, if given, are one for
-- each character
abbrev pub fit_together : RunTextData → Bool
fit_together t =
    is_cut_by (unwrap_or t.value []) t.lists.lengths
    && (rise_below t.lists.starts (length t.lists.lengths)
    && (has_count t.lists.positions (length t.lists.lengths) && has_count t.lists.widths (length t.lists.lengths)))
