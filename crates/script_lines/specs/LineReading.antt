-- The reading of a line, and of the one that begins an update.
use Rattle.std.specs.Bool.{⊤}
use Rattle.std.specs.Prelude.{ℕ, List, codes, Bool, true, false, Option, None, Result, MatchOption, option_map, ◌≡◌, ◌≢◌, slice_index_or}
use Rattle.std.specs.Str.{IsUtf8}
use Rattle.std.specs.String.{string_bytes}
use Rattle.schema.specs.UpdateData.{InfoData, UpdateData, update_data}
use Rattle.schema.specs.declared.NodeId.{NodeId}
use Rattle.schema.specs.declared.update.TreeUpdate.{TreeUpdate}
use Rattle.script_lines.specs.declared.heads.Head.{Head}
use Rattle.script_lines.specs.declared.lines.Line.{Line}
use Rattle.script_lines.specs.declared.lines.Line.TheVariants as says
use Rattle.script_words.specs.Cuts.{part_before, rest_behind}
use Rattle.script_words.specs.Meaning.{Answers}
use Rattle.script_words.specs.Reading.{IsId, IsTreeName, IsWord}
use Rattle.script_words.specs.declared.stops.Stop.{Stop}

-- ---- whole lines

-- a word that begins no comment
abbrev pub IsLineWord : List ℕ → Type 0
IsLineWord text = IsWord text × (slice_index_or text 0 0 ≢ 35)

-- the words for whether the host is focused
abbrev pub host_word : Bool → List ℕ
host_word true = codes "on"
host_word false = codes "off"

-- a line that begins with this word is read as what it means, or is bad where it means nothing, unless memory runs out
abbrev pub ReadsBy : {T : Type 0} → List ℕ → (Option (List ℕ) → Option T) → (T → Line → Type 0) → List ℕ → Result Line Stop → Type 0
ReadsBy first meaning Has text result = part_before 32 text ≡ first → Answers (meaning (rest_behind 32 text)) result Has

-- the line begins this update
abbrev pub BeginsUpdate : UpdateData → Line → Type 0
BeginsUpdate u line = (update : TreeUpdate) × (line ≡ says.Update update) × (update_data update ≡ u)

-- ---- an update's head whose numbers, names and texts are within the bounds of their types

abbrev pub IsInfo : InfoData → Type 0
IsInfo info = IsId info.root × MatchOption info.toolkit_name ⊤ IsUtf8 × MatchOption info.toolkit_version ⊤ IsUtf8

abbrev pub IsHead : UpdateData → Type 0
IsHead u = IsTreeName u.name × IsId u.focus × MatchOption u.info ⊤ IsInfo

-- ---- what was read of its fields so far

pub record HeadData : Type 0 where
  pub focus : Option NodeId
  pub root : Option NodeId
  pub toolkit : Option (List ℕ)
  pub version : Option (List ℕ)

abbrev pub head_data : Head → HeadData
head_data head = record {
  focus = head.focus;
  root = head.root;
  toolkit = option_map string_bytes head.toolkit_name;
  version = option_map string_bytes head.toolkit_version;
}

abbrev pub no_head : HeadData
no_head = record { focus = None; root = None; toolkit = None; version = None }
