-- What is found of a node's line, and of the line of an update.
use Rattle.std.proofs.Common.{◌≡◌, ℕ, List, [], ◌∷◌, length, codes, Bool, false, arith, refl, sym, subst, ◌∙◌}
use Rattle.line_text.specs.Words.{word_at}
use Rattle.line_faults.specs.Known.{IsRoleWord, IsTreeWord}
use Rattle.line_faults.specs.Faults.{Explains, HasFieldsFrom, HasUnknownField, IsAtFirstUnknown, IsFieldsLine, IsNodeLine, IsUpdateLine, SomeIsUnknown, after_third, second_word, third_word}
use Rattle.line_faults.specs.declared.reasons.FieldSet.{FieldSet}
use Rattle.line_faults.specs.declared.reasons.FieldSet.TheVariants.{Node, Update}
use Rattle.line_faults.specs.declared.reasons.LineFault.{LineFault}
use Rattle.line_faults.specs.declared.reasons.OtherReason.{OtherReason}
use Rattle.line_faults.specs.declared.reasons.Reason.{Reason}
use Rattle.line_faults.specs.declared.reasons.Reason.TheVariants as reason

clash : (word : List ℕ) → word ≡ codes "node" → word ≡ codes "update" → ⊥
clash word e f = let no : codes "node" ≡ codes "update" = sym e ∙ f in cc

-- ---- a node's line

pub node_none : (is_inside : Bool) (line : List ℕ) → word_at line 0 ≡ codes "node" → ((at : ℕ) → IsFieldsLine is_inside line at → ⊥) → (set : FieldSet) → HasUnknownField set is_inside line → ⊥
node_none is_inside line e none Node h = none h.0 h.1
node_none is_inside line e none Update h = clash (word_at line 0) e h.1.word

pub node_found : (is_inside : Bool) (line : List ℕ) (r : Reason) → word_at line 0 ≡ codes "node" → (SomeIsUnknown Node line (after_third line) → r ≡ reason.UnknownField Node) → (set : FieldSet) → HasUnknownField set is_inside line → r ≡ reason.UnknownField set
node_found is_inside line r e found Node h = found (subst (λ (at : ℕ). SomeIsUnknown Node line at) h.1.fields h.2)
node_found is_inside line r e found Update h = absurd (clash (word_at line 0) e h.1.word)

pub node_field : (is_inside : Bool) (line : List ℕ) (fault : LineFault) → IsNodeLine is_inside line → IsRoleWord (word_at line (third_word line)) → (set : FieldSet) → set ≡ Node → IsAtFirstUnknown Node line (after_third line) fault → (at : ℕ) × HasFieldsFrom set is_inside line at × IsAtFirstUnknown set line at fault
node_field is_inside line fault begins role set e first = subst (λ (s : FieldSet). (at : ℕ) × HasFieldsFrom s is_inside line at × IsAtFirstUnknown s line at fault) (sym e) (after_third line, record { begins = begins; role = role; fields = refl }, first)

-- ---- the line of an update

pub update_none : (is_inside : Bool) (line : List ℕ) → word_at line 0 ≡ codes "update" → ((at : ℕ) → IsUpdateLine is_inside line at → ⊥) → (set : FieldSet) → HasUnknownField set is_inside line → ⊥
update_none is_inside line e none Update h = none h.0 h.1
update_none is_inside line e none Node h = clash (word_at line 0) h.1.begins.word e

pub update_found : (is_inside : Bool) (line : List ℕ) (r : Reason) → word_at line 0 ≡ codes "update" → (SomeIsUnknown Update line (third_word line) → r ≡ reason.UnknownField Update) → (set : FieldSet) → HasUnknownField set is_inside line → r ≡ reason.UnknownField set
update_found is_inside line r e found Update h = found (subst (λ (at : ℕ). SomeIsUnknown Update line at) h.1.fields h.2)
update_found is_inside line r e found Node h = absurd (clash (word_at line 0) h.1.begins.word e)

pub update_field : (is_inside : Bool) (line : List ℕ) (fault : LineFault) → is_inside ≡ false → word_at line 0 ≡ codes "update" → IsTreeWord (word_at line (second_word line)) → (set : FieldSet) → set ≡ Update → IsAtFirstUnknown Update line (third_word line) fault → (at : ℕ) × HasFieldsFrom set is_inside line at × IsAtFirstUnknown set line at fault
update_field is_inside line fault outside word tree set e first = subst (λ (s : FieldSet). (at : ℕ) × HasFieldsFrom s is_inside line at × IsAtFirstUnknown s line at fault) (sym e) (third_word line, record { outside = outside; word = word; tree = tree; fields = refl }, first)

-- ---- any other line

pub other_none : (is_inside : Bool) (line : List ℕ) → (word_at line 0 ≡ codes "node" → ⊥) → (word_at line 0 ≡ codes "update" → ⊥) → (set : FieldSet) → HasUnknownField set is_inside line → ⊥
other_none is_inside line no_node no_update Node h = no_node h.1.begins.word
other_none is_inside line no_node no_update Update h = no_update h.1.word

-- ---- no line

no_node : (is_inside : Bool) → IsNodeLine is_inside [] → ⊥
no_node is_inside h = let no : [] ≡ codes "node" = h.word in cc

no_update : (is_inside : Bool) (at : ℕ) → IsUpdateLine is_inside [] at → ⊥
no_update is_inside at h = let no : [] ≡ codes "update" = h.word in cc

none_of_nothing : (is_inside : Bool) (set : FieldSet) → HasUnknownField set is_inside [] → ⊥
none_of_nothing is_inside Node h = no_node is_inside h.1.begins
none_of_nothing is_inside Update h = no_update is_inside h.0 h.1

-- a line without bytes has no unknown role and no unknown field
pub nothing_explained : (is_inside : Bool) (line : List ℕ) (fault : LineFault) (r : OtherReason) → length line ≡ 0 → fault.reason ≡ reason.Other r → Explains is_inside line fault
nothing_explained is_inside [] fault r empty e = record {
  role = λ h. absurd (let no : reason.Other r ≡ reason.UnknownRole = sym e ∙ h in cc);
  role_found = λ utf8 h. absurd (no_node is_inside h.begins);
  field = λ set h. absurd (let no : reason.Other r ≡ reason.UnknownField set = sym e ∙ h in cc);
  field_found = λ set utf8 h. absurd (none_of_nothing is_inside set h);
}
nothing_explained is_inside (byte ∷ more) fault r empty e = absurd (omega arith)
