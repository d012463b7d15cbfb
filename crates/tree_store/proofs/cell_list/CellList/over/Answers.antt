use Rattle.std.proofs.Common.{rules, ◌≡◌, length, map, arith, sym, ap, ◌∙◌}
use Rattle.std.proofs.lemmas.List.{length-map}
use Rattle.schema.specs.NodeData.{NodeData}
use Rattle.schema.specs.declared.NodeId.{NodeId}
use Rattle.tree_store.proofs.CellLists.{length_seen, free_seen}
use Rattle.tree_store.proofs.cell_list.CellList.over.Goals as goal

pub returns-clause-cells : goal.returns-clause-cells
returns-clause-cells c n = free_seen _ c.in_ok-cells.cells.items c.in_ok-cells.ensures.free n

pub returns-clause-count : goal.returns-clause-count
returns-clause-count c =
    let listed = c.release.new.nodes.items in
    let cells = c.in_ok-cells.cells.items in
    let same : length listed ≡ length c.args.listed.items = ap length (c.release.ensures ∙ c.note_fits.ensures) in
    let count : length cells ≡ length c.args.listed.items = search rules in
    let seen = length_seen (map (λ (e : NodeId × NodeData). e.1) listed) cells in
    record {
      count = seen ∙ count ∙ sym same ∙ sym (length-map listed (λ (e : NodeId × NodeData). e.1));
      bound = omega (arith, seen, count, c.if-len-gt-MOST.false, c.args.listed.ok.0, c.len.ensures);
    }
