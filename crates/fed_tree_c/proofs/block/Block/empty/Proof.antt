-- A null pointer without a value is a block that owns nothing.
use Rattle.fed_tree_c.proofs.Walking.{[], ◌∷◌, refl, None, lit<, proved, ftrue, ‵, raw, ◌$◌, ◌∵◌, !, qed, done, drop, fjoin, suffices, agg, enter, lit, and_then, no_more, returns, alloc_all, pass_all, free_all, look_at, sets, null_ptr, ptr_val, nothing, owned, Struct, Struct-Makes, shape, on_entry, says, ends_at}
use Rattle.fed_tree_c.specs.declared.block.Block.{Block}
use Rattle.fed_tree_c.specs.contracts.block.Block.{the_type}
use Rattle.fed_tree_c.specs.contracts.block.Block.empty as f
use Rattle.fed_tree_c.proofs.block.Block.TheLaws.{lowered}
use Rattle.fed_tree_c.proofs.block.Block.empty.Statement.{statement}
use Rattle.fed_tree_c.proofs.block.Block.empty.Code as code

abbrev new : Block
new = record { at = null_ptr; fed = None }

pub empty_spec : {M : Type 1} → statement M
empty_spec 𝓤 𝓛 𝓜 𝓡 wired =
    let c = f.clauses 𝓛 𝓜.mem 𝓡.returns in
    proved 𝓛 f.ended tt c 𝓜 𝓡 tt
    f.Key.name code.function (code.unfolded 𝓤 𝓛.H 𝓜 𝓡 wired)
    (λ κs. tt) (λ κs. tt) (λ κs qs bounds a n are.
    qed 𝓛 (raw (on_entry 𝓛 f.signature κs qs a tt) ∷ ‵ ftrue ∷ []) ∵ drop ! $ drop ! $
    enter ! _ _ _ _ _ $ alloc_all ! (λ l. pass_all ! refl tt $
    sets ! (agg ! (and_then ! (lit ! tt) (no_more !))) refl (tt, (record { fits = lit< tt }, tt)) $
    returns ! (look_at ! 0 refl) $ free_all ! refl $
    suffices ! _ (ends_at 𝓛 f.ended tt c ((κs, qs, bounds, a, tt), tt) (lowered new) new tt tt) $ says ! refl $
    nothing ! $ owned ! (Struct (shape the_type)) _ (Struct-Makes 𝓛 (shape the_type) ((λ p vs. tt), tt)) (null_ptr, tt) (lowered new ∷ []) ((ptr_val null_ptr ∷ [], tt), (refl, (refl, tt))) $ fjoin ! $
    nothing ! $ nothing ! $ done !))
