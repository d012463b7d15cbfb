-- In two worlds that differ in what is typed into a password alone, the same is said of live regions.
use Rattle.std.proofs.Common.{◌≡◌, ◌&&◌, ◌||◌, [], ◌∷◌, Option, Some, None, refl, sym, ap, ◌∙◌, if◌then◌else◌}
use Rattle.std.specs.List.{fold}
use Rattle.std.specs.Option.{option_map_or, option_and_then}
use Rattle.schema.specs.NodeData.{NodeData}
use Rattle.model.specs.declared.FullNodeId.{FullNodeId}
use Rattle.model.specs.Lists.{nodes_of, preorder}
use Rattle.model.specs.Upward.{says}
use Rattle.model.specs.World.{World, data_of, root_of}
use Rattle.model.proofs.Text.Outlines.{says_same, below_is}
use Rattle.phrases.specs.News.{news}
use Rattle.phrases.specs.Tellings.{told}
use Rattle.phrases.specs.Voices.{Speech}
use Rattle.speaking.specs.declared.news.News.{News}
use Rattle.speaking.specs.Above.{above_of}
use Rattle.speaking.specs.Laws.{AreAlike}
use Rattle.speaking.specs.LiveTexts.{told_text}
use Rattle.speaking.specs.News.{is_new, is_region_of}
use Rattle.speaking.specs.Regions.{with_part, is_in, part_at, sentence, all_nodes, news_said}
use Rattle.speaking.proofs.Alike.{live_is, region_is, told_text_is}
use Rattle.speaking.proofs.Same.{one_of, there, back}

module _ (p : FullNodeId) (w v : World) (alike : AreAlike p w v) where
  order_is : (id : FullNodeId) → preorder w id ≡ preorder v id
  order_is id = one_of p w v alike (λ u. preorder u id) (λ u i. id ∷ nodes_of (below_is u i id))

  nodes_are : all_nodes w ≡ all_nodes v
  nodes_are = one_of p w v alike all_nodes (λ u i. option_map_or (λ id. id ∷ nodes_of (below_is u i id)) (root_of u 0) [])

  atomic_is : (id : FullNodeId) → says (λ d. d.live_atomic) w id ≡ says (λ d. d.live_atomic) v id
  atomic_is id = one_of p w v alike (λ u. says (λ d. d.live_atomic) u id) (λ u i. says_same u (λ d. d.live_atomic) (λ d. refl) i id)

  -- what a node tells
  text_is : (id : FullNodeId) → option_and_then (told_text (above_of w id)) (data_of w id) ≡ option_and_then (told_text (above_of v id)) (data_of v id)
  text_is id = go (data_of w id) (data_of v id) refl refl
    where
      go : (a b : Option NodeData) → data_of w id ≡ a → data_of v id ≡ b → option_and_then (told_text (above_of w id)) a ≡ option_and_then (told_text (above_of v id)) b
      go None None e f = refl
      go None (Some d) e f = let found = back p w v alike id d f in absurd (let clash : None ≡ Some found.0 = sym e ∙ found.1 in cc)
      go (Some d) b e f =
          let found = there p w v alike id d e in
          told_text_is p w v alike id d found.0 e found.1 (sym found.2) ∙ ap (option_and_then (told_text (above_of v id))) (sym found.1 ∙ f)

  part_is : (n : News) (region id : FullNodeId) → part_at w n region id ≡ part_at v n region id
  part_is n region id i = if is_in (region_is p w v alike id i) region && (atomic_is region i || is_new n id) then text_is id i else None

  sentence_is : (n : News) (region : FullNodeId) → sentence w n region ≡ sentence v n region
  sentence_is n region i = fold (λ text id. with_part text (part_is n region id i)) [] (order_is region i)

  pub news_one : (n : News) (x : Speech) → news_said w n x ≡ news_said v n x
  news_one n x i = fold (λ y id. if is_region_of n id then told (live_is p w v alike id i) (news None (Some (sentence_is n id i))) y else y) x (nodes_are i)
