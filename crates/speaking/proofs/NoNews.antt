-- Where nothing is new, nothing is said.
use Rattle.std.proofs.Common.{◌≡◌, false, List, [], ◌∷◌, length, refl, ap, arith, if◌then◌else◌}
use Rattle.std.specs.BTreeMap.{is_at}
use Rattle.std.specs.List.{list_any}
use Rattle.std.proofs.lemmas.List.Folds.{fold_stays}
use Rattle.model.specs.declared.FullNodeId.{FullNodeId}
use Rattle.model.specs.FullIds.{full_cmp}
use Rattle.model.specs.World.{World}
use Rattle.phrases.specs.Voices.{Speech}
use Rattle.speaking.specs.declared.news.News.{News}
use Rattle.speaking.specs.News.{HasNoRegion}
use Rattle.speaking.specs.Regions.{region_said, said_at, all_nodes, news_said}

none_in : (ks : List FullNodeId) → length ks ≡ 0 → (id : FullNodeId) → list_any (is_at (full_cmp id)) ks ≡ false
none_in [] e id = refl
none_in (k ∷ ks) e id = absurd (omega (arith, e))

pub nothing_new : (w : World) (n : News) (v : Speech) → HasNoRegion n → news_said w n v ≡ v
nothing_new w n v none = fold_stays (said_at w n) v (λ id. ap (λ b. if b then region_said w n id v else v) (none_in n.regions.keys none id)) (all_nodes w)
