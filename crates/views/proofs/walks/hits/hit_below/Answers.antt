use Rattle.std.proofs.Common.{◌≡◌, ℕ, ◌+◌, ◌-◌, ◌^◌, length, arith, refl, sym, ◌∙◌, ap, subst, false}
use Rattle.std.specs.Prelude.{is_some}
use Rattle.std.proofs.lemmas.Option.{slice_get_within}
use Rattle.model.specs.World.{children, StandsAt}
use Rattle.model.specs.Forest.{is_same as is_same_id}
use Rattle.model.specs.Beside.{work_until}
use Rattle.model.specs.Covers.{is_cut_off}
use Rattle.model.specs.Hits.{last_hit, uncut_until, seen_by_child, seen_by_parent, is_hit}
use Rattle.model.proofs.Forest.WaysUp.{within_is_tested}
use Rattle.model.proofs.Walks.Beside.{tested_same, work_until_up}
use Rattle.model.proofs.Walks.Between.{within_top, child_within, child_is_other, parent_within}
use Rattle.model.proofs.Walks.Hits.{seen_itself, seen_down, seen_up, search_start, search_down, hit_here, hit_higher}
use Rattle.views.specs.ShownWorlds.{world_of}
use Rattle.views.specs.Spots.{place_at}
use Rattle.views.proofs.Searching.{stands_as, less_before, less_inside}
use Rattle.views.proofs.SeenFrom.{both_farther, search_work}
use Rattle.views.specs.SeenPoints.{wide_of, is_bare_miss}
use Rattle.views.proofs.Filtering.{or_first}
use Rattle.views.proofs.Missed.{missed_over}
use Rattle.views.proofs.walks.hits.hit_below.Goals as goal

pub loop-index-init : goal.loop-index-init
loop-index-init g c =
    let w = world_of c.args.top.state in
    let all : work_until w c.args.top.id (c.args.top.id, c.child_count-index.result) ≡ work_until w c.args.top.id (c.args.top.id, length (children w c.args.top.id)) = ap (λ i. work_until w c.args.top.id (c.args.top.id, i)) c.child_count-index.ensures in
    record {
      known = record { known = c.args.top.known; placed = c.args.top.placed };
      spent = omega (arith, all);
      near = both_farther 0 (work_until w c.args.top.id (c.args.top.id, length (children w c.args.top.id)) - work_until w c.args.top.id (c.args.top.id, c.child_count-index.result)) c.args.at (omega arith) c.requires.near;
      in_it = omega arith;
      within = within_top w c.know.ensures.formed c.args.top.id;
      seen = sym (seen_itself w c.args.top.id (wide_of c.args.at));
      exact = λ f follows.
          ap (last_hit f w c.args.top.id (wide_of c.args.at)) (search_start f w c.know.ensures.formed c.args.top.id (sym (c.is_cut.ensures f follows) ∙ c.if-is_cut.false))
          ∙ ap (λ n. last_hit f w c.args.top.id (wide_of c.args.at) (uncut_until f w c.args.top.id (c.args.top.id, n))) (sym c.child_count-index.ensures);
    }

pub loop-index-smaller-then-is_missed : goal.loop-index-smaller-then-is_missed
loop-index-smaller-then-is_missed g c = less_before (world_of c.args.top.state) c.know.ensures.formed c.args.top.id c.loop-index.parent.id c.loop-index.index (omega arith) c.in-Some.child.member.id c.in-Some.ensures.none

pub loop-index-preserved-then-is_missed : goal.loop-index-preserved-then-is_missed
loop-index-preserved-then-is_missed g c =
    let w = world_of c.args.top.state in
    let stands : StandsAt w (c.loop-index.parent.id, c.loop-index.index - 1) c.in-Some.child.member.id = sym c.in-Some.ensures.none in
    let n : c.loop-index.index ≡ c.loop-index.index - 1 + 1 = omega arith in
    let less = less_before w c.know.ensures.formed c.args.top.id c.loop-index.parent.id c.loop-index.index (omega arith) c.in-Some.child.member.id c.in-Some.ensures.none in
    let next : ℕ = work_until w c.args.top.id (c.args.top.id, length (children w c.args.top.id)) - work_until w c.args.top.id (c.loop-index.parent.id, c.loop-index.index - 1) in
    record {
      known = c.loop-index.invariant.known;
      spent = omega (arith, less, c.loop-index.invariant.spent);
      near = both_farther (work_until w c.args.top.id (c.args.top.id, length (children w c.args.top.id)) - work_until w c.args.top.id (c.loop-index.parent.id, c.loop-index.index)) next c.loop-index.seen (omega (arith, less)) c.loop-index.invariant.near;
      in_it = omega (arith, c.loop-index.invariant.in_it);
      within = c.loop-index.invariant.within;
      seen = c.loop-index.invariant.seen;
      exact = λ f follows.
          c.loop-index.invariant.exact f follows ∙ ap (λ i. last_hit f w c.args.top.id (wide_of c.args.at) (uncut_until f w c.args.top.id (c.loop-index.parent.id, i))) n
          ∙ missed_over f w c.know.ensures.formed c.args.top.id (wide_of c.args.at) (c.loop-index.parent.id, c.loop-index.index - 1) c.in-Some.child.member.id stands
          (child_is_other w c.know.ensures.formed c.args.top.id (c.loop-index.parent.id, c.loop-index.index - 1) c.in-Some.child.member.id stands c.loop-index.invariant.within)
          c.child_count-count.result c.child_count-count.ensures (wide_of c.seen_across-below.result)
          (c.seen_across-below.ensures.is ∙ ap (seen_by_child w c.in-Some.child.member.id) c.loop-index.invariant.seen
          ∙ sym (seen_down w c.know.ensures.formed c.args.top.id (c.loop-index.parent.id, c.loop-index.index - 1) c.in-Some.child.member.id (wide_of c.args.at) stands ((within_is_tested w c.args.top.id c.loop-index.parent.id).0 c.loop-index.invariant.within)))
          (sym (c.is_missed.ensures f follows) ∙ c.if-is_missed.true);
    }

pub loop-index-smaller-else-is_missed : goal.loop-index-smaller-else-is_missed
loop-index-smaller-else-is_missed g c =
    less_inside (world_of c.args.top.state) c.know.ensures.formed c.args.top.id c.loop-index.parent.id c.loop-index.index (omega arith) c.in-Some.child.member.id c.in-Some.ensures.none c.child_count-count.result c.child_count-count.ensures

pub loop-index-preserved-else-is_missed : goal.loop-index-preserved-else-is_missed
loop-index-preserved-else-is_missed g c =
    let w = world_of c.args.top.state in
    let stands : StandsAt w (c.loop-index.parent.id, c.loop-index.index - 1) c.in-Some.child.member.id = sym c.in-Some.ensures.none in
    let n : c.loop-index.index ≡ c.loop-index.index - 1 + 1 = omega arith in
    let less = less_inside w c.know.ensures.formed c.args.top.id c.loop-index.parent.id c.loop-index.index (omega arith) c.in-Some.child.member.id c.in-Some.ensures.none c.child_count-count.result c.child_count-count.ensures in
    let done : ℕ = work_until w c.args.top.id (c.args.top.id, length (children w c.args.top.id)) - work_until w c.args.top.id (c.loop-index.parent.id, c.loop-index.index) in
    let next : ℕ = work_until w c.args.top.id (c.args.top.id, length (children w c.args.top.id)) - work_until w c.args.top.id (c.in-Some.child.member.id, c.child_count-count.result) in
    record {
      known = c.in-Some.ensures.there.0.member;
      spent = omega (arith, less, c.loop-index.invariant.spent);
      near = both_farther (done + 1) next c.seen_across-below.result (omega (arith, less, c.loop-index.invariant.spent)) (c.seen_across-below.ensures.near done c.loop-index.invariant.near);
      in_it = omega (arith, c.child_count-count.ensures);
      within = child_within w c.know.ensures.formed c.args.top.id (c.loop-index.parent.id, c.loop-index.index - 1) c.in-Some.child.member.id stands c.loop-index.invariant.within;
      seen = c.seen_across-below.ensures.is ∙ ap (seen_by_child w c.in-Some.child.member.id) c.loop-index.invariant.seen
          ∙ sym (seen_down w c.know.ensures.formed c.args.top.id (c.loop-index.parent.id, c.loop-index.index - 1) c.in-Some.child.member.id (wide_of c.args.at) stands ((within_is_tested w c.args.top.id c.loop-index.parent.id).0 c.loop-index.invariant.within));
      exact = λ f follows.
          let kept = sym (c.is_missed.ensures f follows) ∙ c.if-is_missed.false in
          c.loop-index.invariant.exact f follows ∙ ap (λ i. last_hit f w c.args.top.id (wide_of c.args.at) (uncut_until f w c.args.top.id (c.loop-index.parent.id, i))) n
          ∙ ap (last_hit f w c.args.top.id (wide_of c.args.at))
          (search_down f w c.know.ensures.formed c.args.top.id (c.loop-index.parent.id, c.loop-index.index - 1) c.in-Some.child.member.id stands (or_first (is_cut_off (f c.in-Some.child.member.id)) (is_bare_miss w c.in-Some.child.member.id c.child_count-count.result (wide_of c.seen_across-below.result)) kept)
          (child_is_other w c.know.ensures.formed c.args.top.id (c.loop-index.parent.id, c.loop-index.index - 1) c.in-Some.child.member.id stands c.loop-index.invariant.within))
          ∙ ap (λ i. last_hit f w c.args.top.id (wide_of c.args.at) (uncut_until f w c.args.top.id (c.in-Some.child.member.id, i))) (sym c.child_count-count.ensures);
    }

pub returns-then-is_hit_itself : goal.returns-then-is_hit_itself
returns-then-is_hit_itself g c =
    let w = world_of c.args.top.state in
    let start : c.loop-index.index ≡ 0 = omega arith in
    record {
      world = refl;
      exact = λ f follows.
          sym (c.loop-index.invariant.exact f follows
          ∙ hit_here f w c.know.ensures.formed c.args.top.id (wide_of c.args.at) (c.loop-index.parent.id, c.loop-index.index) start
          (ap (is_hit f w c.loop-index.parent.id) (sym c.loop-index.invariant.seen) ∙ sym (c.is_hit_itself.ensures f follows) ∙ c.if-is_hit_itself.true));
    }

pub loop-index-smaller : goal.loop-index-smaller
loop-index-smaller g c =
    work_until_up (world_of c.args.top.state) c.know.ensures.formed c.args.top.id (c.loop-index.parent.id, c.loop-index.index) (place_at c.in-Some-spot.above) (omega arith)
    (stands_as c.in-Some-spot.above c.loop-index.parent.id c.in-Some-spot.ensures.there) (tested_same c.is_same.result c.args.top.id c.loop-index.parent.id c.is_same.ensures ∙ c.if-is_same.false)

pub loop-index-preserved : goal.loop-index-preserved
loop-index-preserved g c =
    let w = world_of c.args.top.state in
    let q = place_at c.in-Some-spot.above in
    let stands : StandsAt w q c.loop-index.parent.id = subst (StandsAt w q) c.in-Some-spot.ensures.there.1 c.in-Some-spot.ensures.there.0.stands in
    let other : is_same_id c.args.top.id c.loop-index.parent.id ≡ false = tested_same c.is_same.result c.args.top.id c.loop-index.parent.id c.is_same.ensures ∙ c.if-is_same.false in
    let start : c.loop-index.index ≡ 0 = omega arith in
    let higher = parent_within w c.know.ensures.formed c.args.top.id q c.loop-index.parent.id stands c.loop-index.invariant.within other in
    let less = work_until_up w c.know.ensures.formed c.args.top.id (c.loop-index.parent.id, c.loop-index.index) q start stands other in
    let done : ℕ = work_until w c.args.top.id (c.args.top.id, length (children w c.args.top.id)) - work_until w c.args.top.id (c.loop-index.parent.id, c.loop-index.index) in
    let next : ℕ = work_until w c.args.top.id (c.args.top.id, length (children w c.args.top.id)) - work_until w c.args.top.id q in
    record {
      known = c.in-Some-spot.ensures.there.0.parent;
      spent = omega (arith, less, c.loop-index.invariant.spent);
      near = both_farther (done + 1) next c.seen_across-seen.result (omega (arith, less, c.loop-index.invariant.spent)) (c.seen_across-seen.ensures.near done c.loop-index.invariant.near);
      in_it = omega (arith, slice_get_within (children w q.0) q.1 c.loop-index.parent.id stands);
      within = higher;
      seen = c.seen_across-seen.ensures.is ∙ ap (seen_by_parent w c.loop-index.parent.id) c.loop-index.invariant.seen
          ∙ sym (seen_up w c.know.ensures.formed c.args.top.id q c.loop-index.parent.id (wide_of c.args.at) stands ((within_is_tested w c.args.top.id q.0).0 higher));
      exact = λ f follows.
          c.loop-index.invariant.exact f follows
          ∙ hit_higher f w c.know.ensures.formed c.args.top.id (wide_of c.args.at) (c.loop-index.parent.id, c.loop-index.index) q start
          (ap (is_hit f w c.loop-index.parent.id) (sym c.loop-index.invariant.seen) ∙ sym (c.is_hit_itself.ensures f follows) ∙ c.if-is_hit_itself.false) other stands;
    }

pub seen_across-below-requires : goal.seen_across-below-requires
seen_across-below-requires g c =
    let w = world_of c.args.top.state in
    let bound = search_work c.know.ensures.state c.root_id-root.result c.root_id-root.ensures c.args.top.id (ap is_some c.args.top.known) (length (children w c.args.top.id)) refl in
    both_farther (work_until w c.args.top.id (c.args.top.id, length (children w c.args.top.id)) - work_until w c.args.top.id (c.loop-index.parent.id, c.loop-index.index)) (2 ^ 90) c.loop-index.seen (omega (arith, bound, c.know_count.ensures)) c.loop-index.invariant.near

pub seen_across-seen-requires : goal.seen_across-seen-requires
seen_across-seen-requires g c =
    let w = world_of c.args.top.state in
    let bound = search_work c.know.ensures.state c.root_id-root.result c.root_id-root.ensures c.args.top.id (ap is_some c.args.top.known) (length (children w c.args.top.id)) refl in
    both_farther (work_until w c.args.top.id (c.args.top.id, length (children w c.args.top.id)) - work_until w c.args.top.id (c.loop-index.parent.id, c.loop-index.index)) (2 ^ 90) c.loop-index.seen (omega (arith, bound, c.know_count.ensures)) c.loop-index.invariant.near
