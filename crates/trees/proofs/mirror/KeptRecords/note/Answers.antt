use Rattle.std.proofs.Common.{Some, ap, sym, ◌∙◌}
use Rattle.std.specs.FinMap.{insert}
use Rattle.model.specs.Mirror.{Records}
use Rattle.tree_store.specs.declared.copies.MirrorRecord.{MirrorRecord}
use Rattle.trees.specs.Mirrored.{nodes_kept, record_shown}
use Rattle.trees.proofs.Mirroring.{kept_put}
use Rattle.trees.proofs.mirror.KeptRecords.note.Goals as goal

pub returns : goal.returns
returns c =
    let noted : MirrorRecord = record { place = c.place_of-place.result; node = c.in_ok-node_data.node_data } in
    let kept = c.args.self.now.nodes in (
      record_shown noted,
      (c.place_of-place.ensures, c.args.node.known ∙ ap Some (sym (c.in_ok-node_data.ensures.cases ∙ c.data.ensures.is))),
      ap (λ nodes. let r : Records = record { nodes = nodes; focus = c.args.self.now.focus } in r)
          (kept_put kept c.insert.new.self c.id-id.result noted (λ q. c.in_ok-insert.ensures.updates.0 q) ∙ ap (λ id. insert (nodes_kept kept.entries) id (record_shown noted)) c.id-id.ensures),
    )
