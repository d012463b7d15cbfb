use Rattle.std.proofs.Common.{◌≡◌, ℕ, List, Option, ◌++◌, codes, flat_map, subst, ◌∙◌}
use Rattle.std.specs.Io.KnownBytes.{Appends}
use Rattle.std.proofs.KnownBytes.{Appends-trans}
use Rattle.schema.specs.NodeData.{NodeData}
use Rattle.schema.specs.UpdateData.{UpdateData, update_data}
use Rattle.schema.specs.declared.NodeId.{NodeId}
use Rattle.script_lines.specs.Lines.{AppendsBeginning, entry_line, update_head}
use Rattle.script_lines.proofs.Beginnings.{begun_after, begun_of_more, on_err, on_err_too, on_ok_too}
use Rattle.script_lines.proofs.writer.write_update.Goals as goal

pub returns-in_err-write_bytes-clause-begun : goal.returns-in_err-write_bytes-clause-begun
returns-in_err-write_bytes-clause-begun g c =
    let u = update_data c.args.update.now in
    let before = g.O.Write.contents c.args.out.now in
    let after = g.O.Write.contents c.write_bytes.new.out in
    let head = subst (λ text. AppendsBeginning before after text) (c.deref.ensures.value ∙ c.in_ok-head.ensures.line) c.in_err-write_bytes.ensures.begun in
    on_err c.from_residual-in_err-write_bytes.result _
    (begun_of_more before after (update_head u ++ flat_map entry_line u.nodes) (codes "end\n") (begun_of_more before after (update_head u) (flat_map entry_line u.nodes) head))

pub returns-in_err-write_nodes-clause-begun : goal.returns-in_err-write_nodes-clause-begun
returns-in_err-write_nodes-clause-begun g c =
    let u = update_data c.args.update.now in
    let before = g.O.Write.contents c.args.out.now in
    let mid = g.O.Write.contents c.write_bytes.new.out in
    let after = g.O.Write.contents c.write_nodes.new.out in
    let head = subst (λ text. Appends before mid text) (c.deref.ensures.value ∙ c.in_ok-head.ensures.line) c.in_ok-write_bytes.ensures.written in
    let nodes = subst (λ ns. AppendsBeginning mid after (flat_map entry_line ns)) c.deref-2.ensures.value c.in_err-write_nodes.ensures.begun in
    on_err c.from_residual-in_err-write_nodes.result _
    (begun_of_more before after (update_head u ++ flat_map entry_line u.nodes) (codes "end\n") (begun_after before mid after (update_head u) (flat_map entry_line u.nodes) head nodes))

-- the head and the nodes are written
lines_written : (before mid next : Option (List ℕ)) (u : UpdateData) (head : List ℕ) (nodes : List (NodeId × NodeData)) → head ≡ update_head u → nodes ≡ u.nodes
    → Appends before mid head → Appends mid next (flat_map entry_line nodes) → Appends before next (update_head u ++ flat_map entry_line u.nodes)
lines_written before mid next u _ _ is_head are_nodes head nodes =
    Appends-trans before mid next (update_head u) (flat_map entry_line u.nodes) (subst (λ text. Appends before mid text) is_head head)
    (subst (λ ns. Appends mid next (flat_map entry_line ns)) are_nodes nodes)

pub returns-clause-written : goal.returns-clause-written
returns-clause-written g c =
    let u = update_data c.args.update.now in
    let lines = lines_written _ _ _ u _ _ (c.deref.ensures.value ∙ c.in_ok-head.ensures.line) c.deref-2.ensures.value c.in_ok-write_bytes.ensures.written c.in_ok-write_nodes.ensures.written in
    on_ok_too c.write_bytes-2.result _ _ (λ end. Appends-trans _ _ _ (update_head u ++ flat_map entry_line u.nodes) (codes "end\n") lines end) c.write_bytes-2.ensures.written

pub returns-clause-begun : goal.returns-clause-begun
returns-clause-begun g c =
    let u = update_data c.args.update.now in
    let lines = lines_written _ _ _ u _ _ (c.deref.ensures.value ∙ c.in_ok-head.ensures.line) c.deref-2.ensures.value c.in_ok-write_bytes.ensures.written c.in_ok-write_nodes.ensures.written in
    on_err_too c.write_bytes-2.result _ _ (λ end. begun_after _ _ _ (update_head u ++ flat_map entry_line u.nodes) (codes "end\n") lines end) c.write_bytes-2.ensures.begun
