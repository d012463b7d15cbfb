-- The entry that was pushed is the last one, and it is what is lent.
use Rattle.std.proofs.Common.{◌≡◌, ◌++◌, ◌∷◌, [], List, length, refl, ap, ◌∙◌, get_or}
use Rattle.std.specs.Prelude.{slice_set}
use Rattle.std.proofs.Math.Seq.{set-append_seam, get_or-append_seam}
use Rattle.schema.specs.NodeData.{NodeData}
use Rattle.schema.specs.UpdateData.{update_data}
use Rattle.schema.specs.declared.NodeId.{NodeId}
use Rattle.schema.proofs.update.TreeUpdate.add.Goals as goal

pub returns : goal.returns
returns c =
    let before : List (NodeId × NodeData) = c.args.self.now.nodes.items in
    let pushed : List (NodeId × NodeData) = c.push_reserved.new.self.items in
    let last : NodeId × NodeData = (c.args.id, c.new.result) in
    let given : NodeId × NodeData = c.index_mut.result.now in
    let is : pushed ≡ before ++ last ∷ [] = c.push_reserved.ensures.items ∙ ap (λ xs. xs ++ last ∷ []) c.reserve.ensures.items in
    let at : c.len-index.result ≡ length before = c.len-index.ensures ∙ c.args.self.now.nodes.ok.0 in
    let there : get_or pushed c.len-index.result given ≡ last =
    ap (λ i. get_or pushed i given) at ∙ ap (λ xs. get_or xs (length before) given) is ∙ get_or-append_seam before last [] given in
    let lent : given ≡ last = c.index_mut.ensures.value ∙ there in
    let written : (w : NodeData) → slice_set pushed c.len-index.result (given.0, w) ≡ before ++ (c.args.id, w) ∷ [] =
    λ w. ap (λ i. slice_set pushed i (given.0, w)) at ∙ ap (λ xs. slice_set xs (length before) (given.0, w)) is
    ∙ set-append_seam before last [] (given.0, w) ∙ ap (λ (e : NodeId × NodeData). before ++ (e.0, w) ∷ []) lent in (
      (refl, (λ w _. ap (λ (xs : List (NodeId × NodeData)). record (update_data c.args.self.now) { nodes = xs }) (written w)), tt),
      record { writes_back = tt; value = ap (λ (e : NodeId × NodeData). e.1) lent ∙ c.new.ensures },
    )
