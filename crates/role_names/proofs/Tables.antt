-- The table of roles that are sent by a number, looked up both ways.
use Rattle.std.proofs.Common.{◌≡◌, ◌<◌, ℕ, List, length, Option, Some, None, refl, sym, ap, ◌∙◌, arith}
use Rattle.std.specs.Prelude.{Bool, true, false, ◌&&◌, ◌==◌, nat_lt, option_map, IfSome}
use Rattle.std.specs.Borrow.{Bor}
use Rattle.std.specs.Option.{option_map_or}
use Rattle.std.specs.List.{list_all}
use Rattle.std.specs.Str.{bytes_eq}
use Rattle.std.proofs.lemmas.Bool.{and_parts}
use Rattle.std.proofs.lemmas.Bool.Decides.{Decides-eqb, nat_tests}
use Rattle.std.proofs.lemmas.Slice.Eq.{bytes_eq-Decides}
use Rattle.std.proofs.lemmas.Option.{same_Some}
use Rattle.schema.specs.declared.Role.{Role}
use Rattle.schema.specs.declared.Role.TheVariants.{Unknown, Window, ScrollView, Paragraph, GenericContainer, TextRun, Label, Image, Document, Terminal, TextInput, MultilineTextInput, SearchInput, DateInput, DateTimeInput, WeekInput, MonthInput, TimeInput, EmailInput, NumberInput, PasswordInput, PhoneNumberInput, UrlInput, EditableComboBox, SpinButton, ListBox, TabList, AlertDialog, Dialog, ComboBox, DisclosureTriangle, TreeItem, Button, CheckBox, DefaultButton, Link, MenuItem, MenuItemCheckBox, MenuItemRadio, RadioButton, DocBackLink, DocBiblioRef, DocGlossRef, DocNoteRef, ColorWell, Grid, MenuListPopup, RadioGroup, Slider, Switch, TreeGrid, Article, Definition, DescriptionList, GraphicsDocument, List as AList, ListItem, PdfRoot, ProgressIndicator, RootWebArea, Term, Timer, Toolbar, Tooltip, Comment, Tab, ListBoxOption, MenuListOption, ListGrid, Menu, MenuBar, Tree, Other}
use Rattle.schema.specs.RoleNames.{role_name}
use Rattle.role_names.specs.OtherRoles.{other_roles}
use Rattle.role_names.specs.Names.{entry_of, numbered, named, name_of, word_of, number_named}
use Rattle.role_names.proofs.Found.{found_has}

-- an entry's name has the entry's number
abbrev is_back_by_name : ℕ × List ℕ × List ℕ → Bool
is_back_by_name e = option_map_or (λ o. o.0 == e.0) (named e.1) false

-- and its number has its name
abbrev is_back_by_number : ℕ × List ℕ × List ℕ → Bool
is_back_by_number e = option_map_or (λ o. bytes_eq o.1 e.1) (numbered e.0) false

abbrev is_from_256 : ℕ × List ℕ × List ℕ → Bool
is_from_256 e = nat_lt 255 e.0

abbrev has_word : ℕ × List ℕ × List ℕ → Bool
has_word e = nat_lt 0 (length e.2)

-- what holds of each entry
abbrev fits : ℕ × List ℕ × List ℕ → Bool
fits e = (is_back_by_name e && is_back_by_number e) && (is_from_256 e && has_word e)

all_fit : list_all fits other_roles ≡ true
unfolding other_roles
all_fit = refl

fit_parts : (e : ℕ × List ℕ × List ℕ) → fits e ≡ true → ((is_back_by_name e ≡ true) × (is_back_by_number e ≡ true)) × ((is_from_256 e ≡ true) × (has_word e ≡ true))
fit_parts e fit =
    let both = and_parts (is_back_by_name e && is_back_by_number e) (is_from_256 e && has_word e) fit in
    (and_parts (is_back_by_name e) (is_back_by_number e) both.0, and_parts (is_from_256 e) (has_word e) both.1)

number_is : (o : Option (ℕ × List ℕ × List ℕ)) (n : ℕ) → option_map_or (λ e. e.0 == n) o false ≡ true → option_map (λ e. e.0) o ≡ Some n
number_is None n none = cc
number_is (Some e) n same = ap Some ((Decides-eqb e.0 n).0 same)

name_is : (o : Option (ℕ × List ℕ × List ℕ)) (name : List ℕ) → option_map_or (λ e. bytes_eq e.1 name) o false ≡ true → option_map (λ e. e.1) o ≡ Some name
name_is None name none = cc
name_is (Some e) name same = ap Some ((bytes_eq-Decides e.1 name).0 same)

-- the number of a name that a number has
pub number_back : (number : ℕ) (name : List ℕ) → name_of number ≡ Some name → number_named name ≡ Some number
number_back number name is = cases (numbered number) refl is
  where
    cases : (o : Option (ℕ × List ℕ × List ℕ)) → numbered number ≡ o → option_map (λ e. e.1) o ≡ Some name → number_named name ≡ Some number
    cases None found none = cc
    cases (Some e) found same =
        let has = found_has fits (λ e. e.0 == number) other_roles e all_fit found in
        let here : number_named e.1 ≡ Some e.0 = number_is (named e.1) e.0 (fit_parts e has.0).0.0 in
        let is_number : e.0 ≡ number = (Decides-eqb e.0 number).0 has.1 in
        ap number_named (sym (same_Some e.1 name same)) ∙ here ∙ ap Some is_number

-- the name of a number that a name has
pub name_back : (number : ℕ) (name : List ℕ) → number_named name ≡ Some number → name_of number ≡ Some name
name_back number name is = cases (named name) refl is
  where
    cases : (o : Option (ℕ × List ℕ × List ℕ)) → named name ≡ o → option_map (λ e. e.0) o ≡ Some number → name_of number ≡ Some name
    cases None found none = cc
    cases (Some e) found same =
        let has = found_has fits (λ e. bytes_eq e.1 name) other_roles e all_fit found in
        let here : name_of e.0 ≡ Some e.1 = name_is (numbered e.0) e.1 (fit_parts e has.0).0.1 in
        let is_name : e.1 ≡ name = (bytes_eq-Decides e.1 name).0 has.1 in
        ap name_of (sym (same_Some e.0 number same)) ∙ here ∙ ap Some is_name

too_low : (n number : ℕ) → number < 256 → nat_lt 255 n ≡ true → n ≡ number → ⊥
too_low n number below above same = grind (arith, nat_tests)

pub no_name_below : (number : ℕ) → number < 256 → name_of number ≡ None
no_name_below number below = cases (numbered number) refl
  where
    cases : (o : Option (ℕ × List ℕ × List ℕ)) → numbered number ≡ o → option_map (λ e. e.1) o ≡ None
    cases None found = refl
    cases (Some e) found =
        let has = found_has fits (λ e. e.0 == number) other_roles e all_fit found in
        absurd (too_low e.0 number below (fit_parts e has.0).1.0 ((Decides-eqb e.0 number).0 has.1))

positive : (n : ℕ) → nat_lt 0 n ≡ true → 0 < n
positive n is = grind (arith, nat_tests)

-- an entry that a number has has a word
pub entry_has_word : (o : Option (ℕ × Bor (List ℕ) × Bor (List ℕ))) (number : ℕ) → option_map entry_of o ≡ numbered number → IfSome o (λ entry. 0 < length entry.2.now)
entry_has_word None number is = tt
entry_has_word (Some entry) number is =
    let has = found_has fits (λ e. e.0 == number) other_roles (entry_of entry) all_fit (sym is) in
    positive (length entry.2.now) (fit_parts (entry_of entry) has.0).1.1

pub words_there : (number : ℕ) → IfSome (word_of number) (λ word. 0 < length word)
words_there number = cases (numbered number) refl
  where
    cases : (o : Option (ℕ × List ℕ × List ℕ)) → numbered number ≡ o → IfSome (option_map (λ e. e.2) o) (λ word. 0 < length word)
    cases None found = tt
    cases (Some e) found =
        let has = found_has fits (λ e. e.0 == number) other_roles e all_fit found in
        positive (length e.2) (fit_parts e has.0).1.1

pub new_names : (role : Role) → number_named (role_name role) ≡ None
unfolding other_roles
new_names Unknown = refl
new_names Window = refl
new_names ScrollView = refl
new_names Paragraph = refl
new_names GenericContainer = refl
new_names TextRun = refl
new_names Label = refl
new_names Image = refl
new_names Document = refl
new_names Terminal = refl
new_names TextInput = refl
new_names MultilineTextInput = refl
new_names SearchInput = refl
new_names DateInput = refl
new_names DateTimeInput = refl
new_names WeekInput = refl
new_names MonthInput = refl
new_names TimeInput = refl
new_names EmailInput = refl
new_names NumberInput = refl
new_names PasswordInput = refl
new_names PhoneNumberInput = refl
new_names UrlInput = refl
new_names EditableComboBox = refl
new_names SpinButton = refl
new_names ListBox = refl
new_names TabList = refl
new_names AlertDialog = refl
new_names Dialog = refl
new_names ComboBox = refl
new_names DisclosureTriangle = refl
new_names TreeItem = refl
new_names Button = refl
new_names CheckBox = refl
new_names DefaultButton = refl
new_names Link = refl
new_names MenuItem = refl
new_names MenuItemCheckBox = refl
new_names MenuItemRadio = refl
new_names RadioButton = refl
new_names DocBackLink = refl
new_names DocBiblioRef = refl
new_names DocGlossRef = refl
new_names DocNoteRef = refl
new_names ColorWell = refl
new_names Grid = refl
new_names MenuListPopup = refl
new_names RadioGroup = refl
new_names Slider = refl
new_names Switch = refl
new_names TreeGrid = refl
new_names Article = refl
new_names Definition = refl
new_names DescriptionList = refl
new_names GraphicsDocument = refl
new_names AList = refl
new_names ListItem = refl
new_names PdfRoot = refl
new_names ProgressIndicator = refl
new_names RootWebArea = refl
new_names Term = refl
new_names Timer = refl
new_names Toolbar = refl
new_names Tooltip = refl
new_names Comment = refl
new_names Tab = refl
new_names ListBoxOption = refl
new_names MenuListOption = refl
new_names ListGrid = refl
new_names Menu = refl
new_names MenuBar = refl
new_names Tree = refl
new_names (Other n) = refl
