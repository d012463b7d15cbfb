-- Alike runs reply alike, and tell the same openly.
use Rattle.std.proofs.Common.{◌≡◌, Bool, List, [], ◌∷◌, ◌++◌, refl, sym, ap, subst, ◌∙◌, map}
use Rattle.std.specs.Prelude.{filter, not}
use Rattle.std.proofs.lemmas.List.Elements.{filter-append}
use Rattle.model.specs.declared.FullNodeId.{FullNodeId}
use Rattle.model.specs.World.{World}
use Rattle.model.specs.Events.{Event}
use Rattle.model.specs.Run.{CommandData, ReplyData, Does, Runs, WantAlike}
use Rattle.model.specs.Shape.{AreAlikeWorlds}
use Rattle.model.specs.AlikeRuns.{difference_of, tells_of_secret, told_openly, AreAlikeCommands, AreAlikeRuns, AreAlikeReplies, RunsAlike}
use Rattle.model.proofs.Run.RunsAreOne.{does_agree}
use Rattle.model.proofs.Alike.Commands.{one_command}

alike_first : (p : FullNodeId) (w v : World) (cs ds : List CommandData) (rs ss : List ReplyData) → AreAlikeRuns p w cs rs v ds ss → AreAlikeWorlds p w v
alike_first p w v [] ds rs ss h = h.0
alike_first p w v (c ∷ cs) ds [] ss h = absurd h
alike_first p w v (c ∷ cs) [] (r ∷ rs) ss h = absurd h
alike_first p w v (c ∷ cs) (d ∷ ds) (r ∷ rs) [] h = absurd h
alike_first p w v (c ∷ cs) (d ∷ ds) (r ∷ rs) (s ∷ ss) h = h.0

map-append : {X Y : Type 0} (f : X → Y) (xs ys : List X) → map f (xs ++ ys) ≡ map f xs ++ map f ys
map-append f [] ys = refl
map-append f (x ∷ xs) ys = ap (λ l. f x ∷ l) (map-append f xs ys)

openly_joined : (p : FullNodeId) (xs ys : List Event) → told_openly p (xs ++ ys) ≡ told_openly p xs ++ told_openly p ys
openly_joined p xs ys =
    let shown : Event → Bool = λ e. not (tells_of_secret p e) in
    ap (map difference_of) (filter-append shown xs ys) ∙ map-append difference_of (filter shown xs) (filter shown ys)

pub alike_runs : (p : FullNodeId) (w next v other : World) (cs ds : List CommandData) (told heard : List Event) (rs ss : List ReplyData) → AreAlikeRuns p w cs rs v ds ss → Runs w cs next told rs → Runs v ds other heard ss →
    AreAlikeReplies p w cs rs ss × (told_openly p told ≡ told_openly p heard)
alike_runs p w next v other [] ds told heard rs ss a h g =
    let none : Runs v [] other heard ss = subst (λ x. Runs v x other heard ss) a.2 g in
    ((a.1, a.3), ap (told_openly p) (h.1 ∙ sym none.1))
alike_runs p w next v other (c ∷ cs) ds told heard [] ss a h g = absurd a
alike_runs p w next v other (c ∷ cs) [] told heard (r ∷ rs) ss a h g = absurd a
alike_runs p w next v other (c ∷ cs) (d ∷ ds) told heard (r ∷ rs) [] a h g = absurd a
alike_runs p w next v other (c ∷ cs) (d ∷ ds) told heard (r ∷ rs) (s ∷ ss) a h g =
    let all : (r ∷ rs) ≡ (h.3 ∷ h.4) = h.8 in
    let each : (s ∷ ss) ≡ (g.3 ∷ g.4) = g.8 in
    let first : r ≡ h.3 = cc in
    let others : rs ≡ h.4 = cc in
    let one : s ≡ g.3 = cc in
    let more : ss ≡ g.4 = cc in
    let does : Does w c h.0 h.1 r = subst (λ x. Does w c h.0 h.1 x) (sym first) h.5 in
    let did : Does v d g.0 g.1 s = subst (λ x. Does v d g.0 g.1 x) (sym one) g.5 in
    let then : AreAlikeRuns p h.0 cs rs g.0 ds ss = a.3 h.0 g.0 h.1 g.1 does did in
    let now = one_command p w h.0 v g.0 a.0 (alike_first p h.0 g.0 cs ds rs ss then) c d h.1 g.1 r s a.1 a.2 does did in
    let later = alike_runs p h.0 next g.0 other cs ds h.2 g.2 rs ss then (subst (λ x. Runs h.0 cs next h.2 x) (sym others) h.6) (subst (λ x. Runs g.0 ds other g.2 x) (sym more) g.6) in (
      (now.0, λ n t q. subst (λ x. AreAlikeReplies p x cs rs ss) (sym (does_agree w n h.0 c t h.1 r r q does (λ e. e, λ e. e)).0) later.0),
      ap (told_openly p) h.7 ∙ openly_joined p h.1 h.2 ∙ (λ i. now.1 i ++ later.1 i) ∙ sym (openly_joined p g.1 g.2) ∙ ap (told_openly p) (sym g.7),
    )

pub runs_keep_secret : (w next : World) (cs : List CommandData) (told : List Event) (rs : List ReplyData) → Runs w cs next told rs → RunsAlike w cs told rs
runs_keep_secret w next cs told rs h p v other ds heard ss a g = alike_runs p w next v other cs ds told heard rs ss a h g

-- a step of two runs that are alike from there on
pub alike_step : (p : FullNodeId) (w m v n : World) (c d : CommandData) (cs ds : List CommandData) (told heard : List Event) (r s : ReplyData) (rs ss : List ReplyData) →
    AreAlikeWorlds p w v → AreAlikeCommands p w c d → WantAlike r s → Does w c m told r → Does v d n heard s → AreAlikeRuns p m cs rs n ds ss → AreAlikeRuns p w (c ∷ cs) (r ∷ rs) v (d ∷ ds) (s ∷ ss)
alike_step p w m v n c d cs ds told heard r s rs ss worlds commands want does did rest = (
  worlds,
  commands,
  want,
  λ next other t h x y.
      subst (λ a. AreAlikeRuns p a cs rs other ds ss) (sym (does_agree w next m c t told r r x does (λ e. e, λ e. e)).0)
      (subst (λ b. AreAlikeRuns p m cs rs b ds ss) (sym (does_agree v other n d h heard s s y did (λ e. e, λ e. e)).0) rest),
)
