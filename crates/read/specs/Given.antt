-- What the arguments of the program mean.
use Rattle.std.specs.Prelude.{◌≡◌, ◌⊎◌, ℕ, List, [], ◌∷◌, codes, Option, None, Result, Ok, Err}
use Rattle.line_faults.specs.Messages.{IsNearestOf}
use Rattle.schema.specs.declared.NodeId.{NodeId}
use Rattle.schema.specs.declared.TreeId.{TreeId}
use Rattle.script_lines.specs.ArgumentErrors.{IsUnknownWord, miscounted}
use Rattle.script_lines.specs.declared.argument_errors.ArgumentError.{ArgumentError}
use Rattle.script_lines.specs.declared.argument_errors.ArgumentKind.TheVariants as kind
use Rattle.script_words.specs.Reading.{IsCount}
use Rattle.script_words.specs.Says.{SaysNumber, SaysTree}
use Rattle.read.specs.declared.asked.Asked.{Asked}

-- the id that this word says; where it says none, the word is told as one that is no number
abbrev pub GivesId : List ℕ → Result NodeId ArgumentError → Type 0
GivesId word (Ok id) = IsCount id.0 × SaysNumber word id.0
GivesId word (Err error) = ((n : ℕ) → IsCount n → SaysNumber word n → ⊥) × IsUnknownWord kind.Number word None error

-- the only tree with a name
abbrev pub tree_names : List (List ℕ)
tree_names = codes "root" ∷ []

-- a word that names no tree is told as such, and `root` is what may be meant, if it is near
abbrev pub NamesNoTree : List ℕ → ArgumentError → Type 0
NamesNoTree word error = (near : Option (List ℕ)) × IsNearestOf word tree_names near × IsUnknownWord kind.Tree word near error

-- the tree that this word names; where it names none, that
abbrev pub GivesTree : List ℕ → Result TreeId ArgumentError → Type 0
GivesTree word (Ok tree) = SaysTree word tree
GivesTree word (Err error) = ((tree : TreeId) → SaysTree word tree → ⊥) × NamesNoTree word error

-- the node with this id, in this tree; a wrong id is told before a wrong tree
abbrev pub GivesAsked : List ℕ → List ℕ → Result Asked ArgumentError → Type 0
GivesAsked id tree (Ok asked) = GivesId id (Ok asked.name.0) × GivesTree tree (Ok asked.name.1)
GivesAsked id tree (Err error) = GivesId id (Err error) ⊎ ((n : NodeId) × GivesId id (Ok n) × GivesTree tree (Err error))

-- the words are those of an id and of a tree
abbrev pub ReadsAsked : List (List ℕ) → Result Asked ArgumentError → Type 0
ReadsAsked (id ∷ tree ∷ []) result = GivesAsked id tree result
ReadsAsked words result = result ≡ Err (miscounted words)
