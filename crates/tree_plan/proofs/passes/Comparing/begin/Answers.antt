use Rattle.std.proofs.Common.{◌≡◌, [], None, Some, Option, option_map, rules, ap, subst, ◌∙◌}
use Rattle.model.specs.declared.FullNodeId.{FullNodeId}
use Rattle.model.specs.World.{in_tree}
use Rattle.tree_plan.specs.declared.passes.Comparing.{Comparing}
use Rattle.tree_plan.specs.Comparisons.{Spots, Arrivals, spots_of, OnlyPlain, Gathers, OnlyAt}
use Rattle.tree_plan.proofs.passes.Comparing.begin.Goals as goal

pub returns-clause-ok : goal.returns-clause-ok
returns-clause-ok c =
    let o = c.args.opened.now in
    let b : Comparing = c.compare_roots.new.self in
    let r = c.compare_roots.ensures.rest in
    let root : c.full_id-root.result ≡ in_tree o.index o.root = c.full_id-root.ensures in
    let old : c.map-old_root.result ≡ option_map (in_tree o.index) o.record.root = search rules in
    record {
      named_is = ap (λ (x : Comparing). x.named) r;
      left =
          subst (λ (x : Option FullNodeId). Gathers (OnlyAt None x (Some (in_tree o.index o.root))) [] b.left) old
          (subst (λ (x : FullNodeId). Gathers (OnlyAt None c.map-old_root.result (Some x)) [] b.left) root
          (subst (λ (xs : Spots). Gathers (OnlyAt None c.map-old_root.result (Some c.full_id-root.result)) xs b.left) c.new.ensures c.in_ok-compare_roots.ensures.left));
      entered =
          subst (λ (x : Option FullNodeId). Gathers (OnlyAt None (Some (in_tree o.index o.root)) x) [] (spots_of b.entered)) old
          (subst (λ (x : FullNodeId). Gathers (OnlyAt None (Some x) c.map-old_root.result) [] (spots_of b.entered)) root
          (subst (λ (es : Arrivals). Gathers (OnlyAt None (Some c.full_id-root.result) c.map-old_root.result) (spots_of es) (spots_of b.entered)) c.new-2.ensures c.in_ok-compare_roots.ensures.entered));
      plain = subst (λ (es : Arrivals). OnlyPlain es b.entered) c.new-2.ensures c.in_ok-compare_roots.ensures.unshifted;
      grafted = ap (λ (x : Comparing). x.grafted.entries) r ∙ c.new-3.ensures.empty;
      lost = ap (λ (x : Comparing). x.lost.items) r ∙ c.new-4.ensures.items;
      gained = ap (λ (x : Comparing). x.gained.items) r ∙ c.new-5.ensures.items;
    }
