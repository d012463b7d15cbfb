-- What the arguments of the program mean.
use Rattle.std.specs.Prelude.{◌≡◌, ◌⊎◌, nat_eq, false, true, List, [], ◌∷◌, ◌++◌, ℕ, codes, map, MatchBool, Option, Some, None, IsSomeAnd, is_some, option_map, Result, Ok, Err, IsErrAnd}
use Rattle.std.specs.List.{starts_with}
use Rattle.std.specs.String.{string_bytes}
use Rattle.aria_roles.specs.AriaRoles.{aria_roles}
use Rattle.aria_roles.specs.Names.{aria_name}
use Rattle.line_faults.specs.Known.{role_names}
use Rattle.line_faults.specs.Messages.{IsNearestOf}
use Rattle.role_names.specs.Names.{number_named}
use Rattle.role_names.specs.OtherRoles.{other_roles}
use Rattle.schema.specs.declared.Role.{Role}
use Rattle.script_words.specs.Reading.{IsCount}
use Rattle.script_words.specs.Says.{SaysNumber}
use Rattle.script_lines.specs.ArgumentErrors.{IsUnknownWord, miscounted}
use Rattle.script_lines.specs.declared.argument_errors.ArgumentError.{ArgumentError}
use Rattle.script_lines.specs.declared.argument_errors.ArgumentError.TheVariants.{Count, Memory}
use Rattle.script_lines.specs.declared.argument_errors.ArgumentKind.TheVariants as kind
use Rattle.find.specs.declared.asked.Reading.{Reading}
use Rattle.find.specs.declared.options.Flag.{Flag}
use Rattle.find.specs.declared.options.Flag.TheVariants as flags
use Rattle.find.specs.declared.options.Setting.{Setting}
use Rattle.find.specs.declared.options.Setting.TheVariants as settings
use Rattle.find.specs.declared.options.Switch.{Switch}
use Rattle.find.specs.declared.options.Switch.TheVariants as switches
use Rattle.find.specs.declared.wanted.Roles.{Roles}
use Rattle.find.specs.declared.wanted.Roles.TheVariants.{One, Aria, Any}
use Rattle.find.specs.declared.wanted.Wanted.{Wanted}
use Rattle.find.specs.declared.wanted.When.{When}
use Rattle.find.specs.declared.wanted.When.TheVariants.{AtEnd, After, Each}
use Rattle.find.specs.Options.{IsNoOption, option_named}
use Rattle.find.specs.Sought.{IsSought}

-- the names of the roles, after them those of the roles that are sent by a number, and those of ARIA
abbrev pub sought_names : List (List ℕ)
sought_names = role_names ++ map (λ entry. entry.1) other_roles ++ map (λ entry. entry.1) aria_roles

-- no role has this name of its own
abbrev pub NamesNone : List ℕ → Type 0
NamesNone word = (role : Role) → IsSought (number_named word) word role → ⊥

-- the roles that a word names: one by its own name; or those with this name in ARIA, in any case; or all
abbrev pub NamesRoles : List ℕ → Roles → Type 0
NamesRoles word (One role) = IsSought (number_named word) word role
NamesRoles word (Aria name) = NamesNone word × (Some name.now ≡ aria_name word)
NamesRoles word Any = word ≡ codes "any"

-- the word is told as one that names no role, with the nearest of these names if one is near; or memory ran out
abbrev pub NamesNoRole : List ℕ → ArgumentError → Type 0
NamesNoRole word error =
    (error ≡ Memory) ⊎ ((near : Option (List ℕ)) × IsNearestOf word sought_names near × IsUnknownWord kind.Role word near error)

-- the roles that are sought by this word; where there are none, that
abbrev pub GivesRoles : List ℕ → Result Roles ArgumentError → Type 0
GivesRoles word (Ok roles) = NamesRoles word roles
GivesRoles word (Err error) = NamesNone word × (None ≡ aria_name word) × NamesNoRole word error

-- the number that this word says; where it is none, that
abbrev pub NamesNumber : List ℕ → Result ℕ ArgumentError → Type 0
NamesNumber word (Ok number) = IsCount number × SaysNumber word number
NamesNumber word (Err error) = ((n : ℕ) → IsCount n × SaysNumber word n → ⊥) × IsUnknownWord kind.Number word None error

-- what an option that stands alone makes of what is wanted
abbrev pub with_flag : Flag → Wanted → Wanted
with_flag flags.Contains wanted = record wanted { matching = record wanted.matching { is_part = true } }
with_flag flags.IgnoreCase wanted = record wanted { matching = record wanted.matching { ignores_case = true } }
with_flag flags.Exact wanted = record wanted { matching = record wanted.matching { is_exact = true } }
with_flag flags.AnyNumber wanted = record wanted { any_number = true }
with_flag flags.Every wanted = record wanted { when = Each }

-- after the update with a number of which this is so
abbrev pub IsAfterAnd : When → (ℕ → Type 0) → Type 0
IsAfterAnd (After number) is_so = is_so number
IsAfterAnd _ is_so = ⊥

-- and one with its word
abbrev pub IsWith : Wanted → Setting → List ℕ → Wanted → Type 0
IsWith wanted settings.Label word it = (it ≡ record wanted { label = it.label }) × (option_map string_bytes it.label ≡ Some word)
IsWith wanted settings.Text word it = (it ≡ record wanted { text = it.text }) × (option_map string_bytes it.text ≡ Some word)
IsWith wanted settings.Any word it = (it ≡ record wanted { any = it.any }) × (option_map string_bytes it.any ≡ Some word)
IsWith wanted settings.Level word it =
    (it ≡ record wanted { level = it.level }) × IsSomeAnd it.level (λ level. NamesNumber word (Ok level))
IsWith wanted settings.At word it = (it ≡ record wanted { when = it.when }) × IsAfterAnd it.when (λ number. NamesNumber word (Ok number))

-- the word of an option may be no number
abbrev pub IsRefused : Setting → List ℕ → ArgumentError → Type 0
IsRefused settings.Level word error = NamesNumber word (Err error)
IsRefused settings.At word error = NamesNumber word (Err error)
IsRefused _ word error = ⊥

-- what is wanted with a word of an option; or that it is refused, or that memory ran out
abbrev pub GivesWanted : Wanted → Setting → List ℕ → Result Wanted ArgumentError → Type 0
GivesWanted wanted setting word (Ok it) = IsWith wanted setting word it
GivesWanted wanted setting word (Err error) = (error ≡ Memory) ⊎ IsRefused setting word error

-- what is read with that word
abbrev pub GivesSetting : Wanted → Setting → List ℕ → Result Reading ArgumentError → Type 0
GivesSetting wanted setting word (Ok next) = (next.pending ≡ None) × GivesWanted wanted setting word (Ok next.wanted)
GivesSetting wanted setting word (Err error) = GivesWanted wanted setting word (Err error)

-- a word that belongs to no option is the label, unless it looks like an option; a second label is too many
abbrev pub GivesLabel : Wanted → List ℕ → Result Reading ArgumentError → Type 0
GivesLabel wanted word result =
    MatchBool (starts_with nat_eq word (codes "--")) (IsErrAnd result (IsNoOption word))
    (MatchBool (is_some wanted.label) (result ≡ Err (miscounted (word ∷ []))) (GivesSetting wanted settings.Label word result))

-- what is read with a word that is this option, or none
abbrev pub GivesSwitch : Option Switch → Wanted → List ℕ → Result Reading ArgumentError → Type 0
GivesSwitch (Some (switches.Flag flag)) wanted word result = result ≡ Ok (record { wanted = with_flag flag wanted; pending = None })
GivesSwitch (Some (switches.Setting setting)) wanted word result = result ≡ Ok (record { wanted = wanted; pending = Some setting })
GivesSwitch None wanted word result = GivesLabel wanted word result

abbrev pub GivesNext : Wanted → List ℕ → Result Reading ArgumentError → Type 0
GivesNext wanted word result = GivesSwitch (option_named word) wanted word result

-- what is read with a word, which may belong to an option before it
abbrev pub TakesBy : Option Setting → Wanted → List ℕ → Result Reading ArgumentError → Type 0
TakesBy (Some setting) wanted word result = GivesSetting wanted setting word result
TakesBy None wanted word result = GivesNext wanted word result

abbrev pub Takes : Reading → List ℕ → Result Reading ArgumentError → Type 0
Takes reading word result = TakesBy reading.pending reading.wanted word result

-- what is wanted after the last word: an option may lack its own
abbrev pub EndsBy : Option Setting → Wanted → Result Wanted ArgumentError → Type 0
EndsBy None wanted result = result ≡ Ok wanted
EndsBy (Some setting) wanted result = result ≡ Err Count

abbrev pub Ends : Reading → Result Wanted ArgumentError → Type 0
Ends reading result = EndsBy reading.pending reading.wanted result

-- what is wanted by these words after those that are read: each is taken in turn, up to one that is wrong
abbrev pub ReadsOptions : Reading → List (List ℕ) → Result Wanted ArgumentError → Type 0
ReadsOptions reading [] result = Ends reading result
ReadsOptions reading (word ∷ more) result =
    ((next : Reading) × Takes reading word (Ok next) × ReadsOptions next more result)
    ⊎ IsErrAnd result (λ error. Takes reading word (Err error))

-- one node with one of these roles
abbrev pub with_roles : Roles → Wanted
with_roles roles =
    record {
      roles = roles;
      level = None;
      label = None;
      text = None;
      any = None;
      matching = record { is_part = false; ignores_case = false; is_exact = false };
      any_number = false;
      when = AtEnd;
    }

-- the first word names roles, and the others are the label and options
abbrev pub ReadsWanted : List (List ℕ) → Result Wanted ArgumentError → Type 0
ReadsWanted [] result = result ≡ Err Count
ReadsWanted (role ∷ others) result =
    ((roles : Roles) × NamesRoles role roles × ReadsOptions (record { wanted = with_roles roles; pending = None }) others result)
    ⊎ IsErrAnd result (λ error. GivesRoles role (Err error))
