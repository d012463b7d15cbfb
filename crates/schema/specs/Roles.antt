-- A number for each role, and the role of a number.
use Rattle.std.specs.Prelude.{◌≡◌, ℕ, ◌+◌, ◌-◌, ◌==◌, nat_lt, cond, Bool, refl}
use Rattle.std.specs.Bool.{Decides}
use Rattle.std.specs.Cmp.{IsPartialEquivalence, IsEquivalence, partial_equiv_from_equiv}
use Rattle.std.proofs.Common.{ap, sym, ◌∙◌, arith}
use Rattle.std.proofs.Math.Nat.{le-add_right}
use Rattle.std.proofs.lemmas.Bool.{le-ltb}
use Rattle.std.proofs.lemmas.Bool.Decides.{Decides-eqb, Decides-like, same_from_decides}
use Rattle.schema.specs.declared.Role.{Role}
use Rattle.schema.specs.declared.Role.TheVariants.{Unknown, Window, ScrollView, Paragraph, GenericContainer, TextRun, Label, Image, Document, Terminal, TextInput, MultilineTextInput, SearchInput, DateInput, DateTimeInput, WeekInput, MonthInput, TimeInput, EmailInput, NumberInput, PasswordInput, PhoneNumberInput, UrlInput, EditableComboBox, SpinButton, ListBox, TabList, AlertDialog, Dialog, ComboBox, DisclosureTriangle, TreeItem, Button, CheckBox, DefaultButton, Link, MenuItem, MenuItemCheckBox, MenuItemRadio, RadioButton, DocBackLink, DocBiblioRef, DocGlossRef, DocNoteRef, ColorWell, Grid, MenuListPopup, RadioGroup, Slider, Switch, TreeGrid, Article, Definition, DescriptionList, GraphicsDocument, List, ListItem, PdfRoot, ProgressIndicator, RootWebArea, Term, Timer, Toolbar, Tooltip, Comment, Tab, ListBoxOption, MenuListOption, ListGrid, Menu, MenuBar, Tree, Other}

abbrev pub role_number : Role → ℕ
role_number Unknown = 0
role_number Window = 1
role_number ScrollView = 2
role_number Paragraph = 3
role_number GenericContainer = 4
role_number TextRun = 5
role_number Label = 6
role_number Image = 7
role_number Document = 8
role_number Terminal = 9
role_number TextInput = 10
role_number MultilineTextInput = 11
role_number SearchInput = 12
role_number DateInput = 13
role_number DateTimeInput = 14
role_number WeekInput = 15
role_number MonthInput = 16
role_number TimeInput = 17
role_number EmailInput = 18
role_number NumberInput = 19
role_number PasswordInput = 20
role_number PhoneNumberInput = 21
role_number UrlInput = 22
role_number EditableComboBox = 23
role_number SpinButton = 24
role_number ListBox = 25
role_number TabList = 26
role_number AlertDialog = 27
role_number Dialog = 28
role_number ComboBox = 29
role_number DisclosureTriangle = 30
role_number TreeItem = 31
role_number Button = 32
role_number CheckBox = 33
role_number DefaultButton = 34
role_number Link = 35
role_number MenuItem = 36
role_number MenuItemCheckBox = 37
role_number MenuItemRadio = 38
role_number RadioButton = 39
role_number DocBackLink = 40
role_number DocBiblioRef = 41
role_number DocGlossRef = 42
role_number DocNoteRef = 43
role_number ColorWell = 44
role_number Grid = 45
role_number MenuListPopup = 46
role_number RadioGroup = 47
role_number Slider = 48
role_number Switch = 49
role_number TreeGrid = 50
role_number Article = 51
role_number Definition = 52
role_number DescriptionList = 53
role_number GraphicsDocument = 54
role_number List = 55
role_number ListItem = 56
role_number PdfRoot = 57
role_number ProgressIndicator = 58
role_number RootWebArea = 59
role_number Term = 60
role_number Timer = 61
role_number Toolbar = 62
role_number Tooltip = 63
role_number Comment = 64
role_number Tab = 65
role_number ListBoxOption = 66
role_number MenuListOption = 67
role_number ListGrid = 68
role_number Menu = 69
role_number MenuBar = 70
role_number Tree = 71
role_number (Other n) = 72 + n

role_from : ℕ → Role
role_from n =
    cond (nat_lt n 72) (cond (nat_lt n 36) (cond (nat_lt n 18) (cond (nat_lt n 9)
    (cond (nat_lt n 4) (cond (nat_lt n 2) (cond (nat_lt n 1) Unknown Window) (cond (nat_lt n 3) ScrollView Paragraph))
    (cond (nat_lt n 6) (cond (nat_lt n 5) GenericContainer TextRun) (cond (nat_lt n 7) Label (cond (nat_lt n 8) Image Document))))
    (cond (nat_lt n 13) (cond (nat_lt n 11) (cond (nat_lt n 10) Terminal TextInput) (cond (nat_lt n 12) MultilineTextInput SearchInput))
    (cond (nat_lt n 15) (cond (nat_lt n 14) DateInput DateTimeInput) (cond (nat_lt n 16) WeekInput
    (cond (nat_lt n 17) MonthInput TimeInput))))) (cond (nat_lt n 27) (cond (nat_lt n 22)
    (cond (nat_lt n 20) (cond (nat_lt n 19) EmailInput NumberInput) (cond (nat_lt n 21) PasswordInput PhoneNumberInput))
    (cond (nat_lt n 24) (cond (nat_lt n 23) UrlInput EditableComboBox)
    (cond (nat_lt n 25) SpinButton (cond (nat_lt n 26) ListBox TabList))))
    (cond (nat_lt n 31) (cond (nat_lt n 29) (cond (nat_lt n 28) AlertDialog Dialog) (cond (nat_lt n 30) ComboBox DisclosureTriangle))
    (cond (nat_lt n 33) (cond (nat_lt n 32) TreeItem Button) (cond (nat_lt n 34) CheckBox (cond (nat_lt n 35) DefaultButton Link))))))
    (cond (nat_lt n 54) (cond (nat_lt n 45) (cond (nat_lt n 40) (cond (nat_lt n 38) (cond (nat_lt n 37) MenuItem MenuItemCheckBox)
    (cond (nat_lt n 39) MenuItemRadio RadioButton)) (cond (nat_lt n 42) (cond (nat_lt n 41) DocBackLink DocBiblioRef)
    (cond (nat_lt n 43) DocGlossRef (cond (nat_lt n 44) DocNoteRef ColorWell))))
    (cond (nat_lt n 49) (cond (nat_lt n 47) (cond (nat_lt n 46) Grid MenuListPopup) (cond (nat_lt n 48) RadioGroup Slider))
    (cond (nat_lt n 51) (cond (nat_lt n 50) Switch TreeGrid) (cond (nat_lt n 52) Article (cond (nat_lt n 53) Definition DescriptionList)))))
    (cond (nat_lt n 63) (cond (nat_lt n 58) (cond (nat_lt n 56) (cond (nat_lt n 55) GraphicsDocument List)
    (cond (nat_lt n 57) ListItem PdfRoot)) (cond (nat_lt n 60) (cond (nat_lt n 59) ProgressIndicator RootWebArea)
    (cond (nat_lt n 61) Term (cond (nat_lt n 62) Timer Toolbar)))) (cond (nat_lt n 67)
    (cond (nat_lt n 65) (cond (nat_lt n 64) Tooltip Comment) (cond (nat_lt n 66) Tab ListBoxOption))
    (cond (nat_lt n 69) (cond (nat_lt n 68) MenuListOption ListGrid) (cond (nat_lt n 70) Menu (cond (nat_lt n 71) MenuBar Tree)))))))
    (Other (n - 72))

back : (r : Role) → role_from (role_number r) ≡ r
unfolding role_from
back Unknown = refl
back Window = refl
back ScrollView = refl
back Paragraph = refl
back GenericContainer = refl
back TextRun = refl
back Label = refl
back Image = refl
back Document = refl
back Terminal = refl
back TextInput = refl
back MultilineTextInput = refl
back SearchInput = refl
back DateInput = refl
back DateTimeInput = refl
back WeekInput = refl
back MonthInput = refl
back TimeInput = refl
back EmailInput = refl
back NumberInput = refl
back PasswordInput = refl
back PhoneNumberInput = refl
back UrlInput = refl
back EditableComboBox = refl
back SpinButton = refl
back ListBox = refl
back TabList = refl
back AlertDialog = refl
back Dialog = refl
back ComboBox = refl
back DisclosureTriangle = refl
back TreeItem = refl
back Button = refl
back CheckBox = refl
back DefaultButton = refl
back Link = refl
back MenuItem = refl
back MenuItemCheckBox = refl
back MenuItemRadio = refl
back RadioButton = refl
back DocBackLink = refl
back DocBiblioRef = refl
back DocGlossRef = refl
back DocNoteRef = refl
back ColorWell = refl
back Grid = refl
back MenuListPopup = refl
back RadioGroup = refl
back Slider = refl
back Switch = refl
back TreeGrid = refl
back Article = refl
back Definition = refl
back DescriptionList = refl
back GraphicsDocument = refl
back List = refl
back ListItem = refl
back PdfRoot = refl
back ProgressIndicator = refl
back RootWebArea = refl
back Term = refl
back Timer = refl
back Toolbar = refl
back Tooltip = refl
back Comment = refl
back Tab = refl
back ListBoxOption = refl
back MenuListOption = refl
back ListGrid = refl
back Menu = refl
back MenuBar = refl
back Tree = refl
back (Other n) = let e : 72 + n - 72 ≡ n = omega arith in rw (le-ltb (72 + n) 72 (le-add_right 72 n), e)

-- whether two roles are equal
abbrev pub same_role : Role → Role → Bool
same_role a b = role_number a == role_number b

pub same_role-decides : (a b : Role) → Decides (same_role a b) (a ≡ b)
same_role-decides a b =
    Decides-like (same_role a b) (λ e. sym (back a) ∙ ap role_from e ∙ back b) (λ e. ap role_number e)
    (Decides-eqb (role_number a) (role_number b))

pub same_role_equivalence : IsEquivalence same_role
same_role_equivalence = record {
  refl = λ x. (same_role-decides x x).1 refl;
  symm = λ x y. same_from_decides (same_role x y) (same_role y x) (same_role-decides x y)
      (Decides-like (same_role y x) sym sym (same_role-decides y x));
  congr = λ x y z e. ap (λ w. same_role w z) ((same_role-decides x y).0 e);
}

pub same_role_laws : IsPartialEquivalence same_role
same_role_laws = partial_equiv_from_equiv same_role_equivalence
