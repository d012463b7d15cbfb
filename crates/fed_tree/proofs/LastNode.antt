-- The node of an update that was begun last, and what it becomes.
use Rattle.std.proofs.Common.{◌≡◌, ◌-◌, ◌<◌, ℕ, Bool, true, false, List, length, get_or, Option, Some, None, option_and_then, Result, Ok, Err, refl, sym, ap, ◌∙◌, subst, arith}
use Rattle.std.proofs.lemmas.List.{set-get_or}
use Rattle.std.proofs.lemmas.Option.{slice_get_read}
use Rattle.std.specs.List.{slice_get, slice_set}
use Rattle.std.specs.Option.{option_map_or}
use Rattle.schema.specs.NodeData.{NodeData}
use Rattle.schema.specs.UpdateData.{UpdateData}
use Rattle.schema.specs.declared.NodeId.{NodeId}
use Rattle.script_nodes.specs.Given.{Becomes, Given, with_given}
use Rattle.script_nodes.specs.FieldNumbers.{numbered_fields}
use Rattle.script_nodes.specs.declared.field_kinds.Field.{Field}
use Rattle.fed_tree.specs.Begun.{Changes, given_at, last_entry, with_last, with_value}
use Rattle.fed_tree.specs.declared.updating.BuildError.{BuildError}
use Rattle.fed_tree.specs.declared.updating.BuildError.TheVariants.{NoSuch, OutOfPlace}

abbrev with_nodes : UpdateData → List (NodeId × NodeData) → UpdateData
with_nodes u nodes = record u { nodes = nodes }

module _ (u : UpdateData) (len : ℕ) (is_len : len ≡ length u.nodes) (some : 0 < len) (entry : NodeId × NodeData)
    (at : entry ≡ get_or u.nodes (len - 1) entry) where
  -- the update with this in the last place
  abbrev put : NodeId × NodeData → UpdateData
  put e = with_nodes u (slice_set u.nodes (len - 1) e)

  last_is : last_entry u ≡ Some entry
  last_is =
      ap (λ (k : ℕ). slice_get u.nodes (k - 1)) (sym is_len)
      ∙ slice_get_read u.nodes len (len - 1) entry is_len (omega (arith, some)) at

  -- put back, it changes nothing
  put_back : put entry ≡ u
  put_back = ap put at ∙ ap (with_nodes u) (set-get_or u.nodes (len - 1) entry)

  replaced : (n : NodeData) → put (entry.0, n) ≡ with_last (entry.0, n) u
  replaced n = ap (λ (k : ℕ). with_nodes u (slice_set u.nodes (k - 1) (entry.0, n))) is_len

  abbrev wanted : Option NodeData → Result UpdateData BuildError
  wanted o = option_map_or (λ n. Ok (with_last (entry.0, n) u)) o (Err NoSuch)

  module _ (number : ℕ) (value : Given) where
    abbrev by_entry : Option (NodeId × NodeData) → Result UpdateData BuildError
    by_entry o =
        option_map_or (λ e. option_map_or (λ n. Ok (with_last (e.0, n) u)) (given_at number value e.1) (Err NoSuch)) o (Err OutOfPlace)

    is_wanted : (o : Option NodeData) → given_at number value entry.1 ≡ o → with_value number value u ≡ wanted o
    is_wanted o is = ap by_entry last_is ∙ ap wanted is

    given_by : Option Field → Option NodeData
    given_by o = option_and_then (λ which. with_given value which entry.1) o

    -- where no field has this number
    pub no_field : None ≡ slice_get numbered_fields number → Changes (with_value number value u) u (Err NoSuch) (put entry)
    unfolding given_by
    no_field none =
        subst (λ (r : Result UpdateData BuildError). Changes r u (Err NoSuch) (put entry))
        (sym (is_wanted None (ap given_by (sym none)))) (refl, put_back)

    module _ (which : Field) (is : Some which ≡ slice_get numbered_fields number) (n : NodeData) where
      known : with_value number value u ≡ wanted (with_given value which entry.1)
      unfolding given_by
      known = is_wanted (with_given value which entry.1) (ap given_by (sym is))

      set_by : (o : Option NodeData) → Becomes o true entry.1 n → Changes (wanted o) u (Ok tt) (put (entry.0, n))
      set_by None becomes = absurd (cc becomes.0)
      set_by (Some m) becomes = (refl, replaced n ∙ ap (λ (x : NodeData). with_last (entry.0, x) u) becomes.1)

      unset_by : (o : Option NodeData) → Becomes o false entry.1 n → Changes (wanted o) u (Err NoSuch) (put (entry.0, n))
      unset_by None becomes = (refl, ap (λ (x : NodeData). put (entry.0, x)) becomes.1 ∙ put_back)
      unset_by (Some m) becomes = absurd (cc becomes.0)

      -- where it has the value
      pub is_set : (b : Bool) → b ≡ true → Becomes (with_given value which entry.1) b entry.1 n
          → Changes (with_value number value u) u (Ok tt) (put (entry.0, n))
      is_set b e becomes =
          subst (λ (r : Result UpdateData BuildError). Changes r u (Ok tt) (put (entry.0, n))) (sym known)
          (set_by (with_given value which entry.1) (subst (λ (b : Bool). Becomes (with_given value which entry.1) b entry.1 n) e becomes))

      -- and where it hasn't
      pub is_unset : (b : Bool) → b ≡ false → Becomes (with_given value which entry.1) b entry.1 n
          → Changes (with_value number value u) u (Err NoSuch) (put (entry.0, n))
      is_unset b e becomes =
          subst (λ (r : Result UpdateData BuildError). Changes r u (Err NoSuch) (put (entry.0, n))) (sym known)
          (unset_by (with_given value which entry.1) (subst (λ (b : Bool). Becomes (with_given value which entry.1) b entry.1 n) e becomes))
