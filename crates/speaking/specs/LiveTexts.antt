-- What is announced of nodes in live regions.
use Rattle.std.specs.Prelude.{ℕ, List, Bool, true, false, not, ◌&&◌, ◌||◌, ◌==◌, Option, Some, None, if◌then◌else◌}
use Rattle.std.specs.List.{list_any}
use Rattle.std.specs.Option.{option_or}
use Rattle.schema.specs.NodeData.{NodeData}
use Rattle.schema.specs.declared.Role.TheVariants.{TextRun}
use Rattle.schema.specs.declared.values.Live.{Live}
use Rattle.schema.specs.declared.values.Live.TheVariants.{Off, Polite, Assertive}
use Rattle.schema.specs.Roles.{same_role}
use Rattle.model.specs.Events.{Seen}
use Rattle.model.specs.RoleClasses.{is_text_input}
use Rattle.model.specs.World.{HasData}
use Rattle.phrases.specs.News.{news}
use Rattle.speaking.specs.declared.above.Above.{Above}
use Rattle.speaking.specs.declared.news.News.{News}
use Rattle.speaking.specs.Above.{above_of}
use Rattle.speaking.specs.News.{Notes}

abbrev pub is_live : Live → Bool
is_live Off = false
is_live Polite = true
is_live Assertive = true

-- it is in a live region, is shown, isn't in a busy part, isn't edited by typing, and isn't in a password
abbrev pub is_told : Above → NodeData → Bool
is_told a d = is_live a.live && (not (is_text_input d.role) && (not a.is_hidden && (not a.is_busy && not a.is_in_password)))

-- the text to announce: of a run its text, unless an ancestor is announced instead; of another node its value, or else its own label
abbrev pub own_text : Above → NodeData → Option (List ℕ)
own_text a d = if same_role d.role TextRun then (if a.is_held then None else d.value) else option_or d.value d.label

-- a space, a tab, or part of a line end
abbrev pub is_space : ℕ → Bool
is_space byte = byte == 32 || byte == 9 || byte == 10 || byte == 13

abbrev pub says_something : List ℕ → Bool
says_something text = list_any (λ byte. not (is_space byte)) text

-- a text that says something; of blanks alone nothing is announced
abbrev pub unless_blank : Option (List ℕ) → Option (List ℕ)
unless_blank None = None
unless_blank (Some text) = if says_something text then Some text else None

abbrev pub told_text : Above → NodeData → Option (List ℕ)
told_text a d = if is_told a d then unless_blank (own_text a d) else None

-- a new node's text is noted
pub record TellsNew (new : Seen) (m n : News) : Type 0 where
  pub node : NodeData
  pub has : HasData new.world new.id node
  pub notes : let a = above_of new.world new.id in Notes new.id a.region (news None (told_text a node)) m n

-- a changed node's text is noted if it differs
pub record TellsChange (old new : Seen) (m n : News) : Type 0 where
  pub before : NodeData
  pub had : HasData old.world old.id before
  pub after : NodeData
  pub has : HasData new.world new.id after
  pub notes :
      let a = above_of new.world new.id in
      Notes new.id a.region (news (told_text (above_of old.world old.id) before) (told_text a after)) m n
