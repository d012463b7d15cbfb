-- A struct whose one field that holds data is a pointer, as the machine has it.
use Rattle.fed_tree_c.proofs.Walking.{List, [], ◌∷◌, refl, lit<, Val, vstruct, vcons, vnil, Ptr, block_ptr, null_ptr, ptr_val, Struct, Struct-Makes}
use lib.Dec.{T}
use mir.Syntax.{Sym, Lifetime, ty_ptr, ty_struct, tcons, tnil}
use mir.Val.{WT, has_ty}
use seplogic.Ra.Ura.{Ura}
use types.Logic.{Logic}
use denote.Builtin.{RawPtr}
use denote.Laws.{Is, Makes}
use denote.RattleType.{RattleType}
use denote.Struct.Struct.{Shape}

abbrev pub word : Ptr → Val
word p = vstruct (vcons (ptr_val p) vnil)

pub ptr_fits : (p : Ptr) → T (has_ty ty_ptr (ptr_val p)) × WT (ptr_val p)
ptr_fits (block_ptr b o) = (tt, tt)
ptr_fits null_ptr = (tt, record { fits = lit< tt })

-- whatever the struct's name
pub word_fits : (p : Ptr) → T (has_ty (ty_struct [] (tcons ty_ptr tnil)) (word p)) × WT (word p)
word_fits (block_ptr b o) = (tt, (tt, tt))
word_fits null_ptr = (tt, (record { fits = lit< tt }, tt))

abbrev pub pointing : Sym → List Lifetime → List RattleType → Shape
pointing name args types = record { name = name; args = args; types = types; fields = RawPtr ∷ [] }

module _ (name : Sym) (args : List Lifetime) (types : List RattleType) where
  pub is_word : (p : Ptr) → Is (Struct (pointing name args types)) (p, tt) (word p ∷ [])
  is_word p = ((ptr_val p ∷ [], tt), (refl, (refl, tt)))

  pub word_makes : {M : Type 1} {𝓤 : Ura M} (𝓛 : Logic 𝓤) → Makes 𝓛 (Struct (pointing name args types)) (Is (Struct (pointing name args types)))
  word_makes 𝓛 = Struct-Makes 𝓛 (pointing name args types) ((λ p vs. tt), tt)
