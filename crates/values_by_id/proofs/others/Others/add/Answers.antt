use Rattle.std.proofs.Common.{cond, Some, sym, ap, subst, ◌∙◌}
use Rattle.std.specs.BTreeMap.{is_at}
use Rattle.model.specs.FullIds.{full_cmp}
use Rattle.values_by_id.specs.Cells.{value_at}
use Rattle.values_by_id.specs.Found.{IsFound, IsFoundBelow, HasNoBelow}
use Rattle.values_by_id.proofs.Led.{has_no, none_before, all_below, found_added, added}
use Rattle.values_by_id.proofs.others.Others.add.Goals as goal

pub lead-requires-clause-absent : goal.lead-requires-clause-absent
lead-requires-clause-absent g c =
    let same = sym c.tidy.ensures ∙ sym c.self.view_is ∙ sym c.in_ok-make_room.ensures.items ∙ sym c.as_slice.ensures.value in
    subst (λ l. HasNoBelow l c.len.result c.args.id) same (none_before c.args.self.now c.len.result c.args.id (has_no c.args.self.now c.args.id c.requires))

pub invariant_of-self-in_err-lead : goal.invariant_of-self-in_err-lead
invariant_of-self-in_err-lead g c =
    let room = c.make_room.new.list in
    let known = subst (λ l. IsFoundBelow c.lead.new.trie l c.len.result) c.as_slice.ensures.value c.lead.ensures.known in
    all_below c.lead.new.trie room.items (subst (λ n. IsFoundBelow c.lead.new.trie room.items n) (c.len.ensures ∙ room.ok.0) known)

pub invariant_of-self-2 : goal.invariant_of-self-2
invariant_of-self-2 g c =
    let room = c.make_room.new.list in
    let known = subst (λ l. IsFoundBelow c.lead.new.trie l c.len.result) c.as_slice.ensures.value c.lead.ensures.known in
    let all = all_below c.lead.new.trie room.items (subst (λ n. IsFoundBelow c.lead.new.trie room.items n) (c.len.ensures ∙ room.ok.0) known) in
    subst (λ l. IsFound c.lead.new.trie l) (sym c.push_reserved.ensures.items)
    (found_added c.lead.new.trie room.items (c.args.id, c.args.value) all (c.in_ok-lead.ensures.next ∙ ap Some (c.len.ensures ∙ room.ok.0)))

pub returns-clause-updates : goal.returns-clause-updates
returns-clause-updates g c q =
    let room = c.make_room.new.list in
    let same = c.in_ok-make_room.ensures.items ∙ c.self.view_is ∙ c.tidy.ensures in
    ap (λ l. value_at l q) c.push_reserved.ensures.items
    ∙ added room.items c.args.id c.args.value (ap (λ l. value_at l c.args.id) same ∙ c.requires) q
    ∙ ap (λ l. cond (is_at (full_cmp c.args.id) q) (Some c.args.value) (value_at l q)) same
