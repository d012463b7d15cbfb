-- Alike commands of alike worlds are replied alike, and tell the same openly.
use Rattle.std.proofs.Common.{◌≡◌, Bool, List, [], inl, inr, refl, sym, ap, subst, ◌∙◌}
use Rattle.model.specs.declared.FullNodeId.{FullNodeId}
use Rattle.model.specs.declared.queries.Query.{Query}
use Rattle.model.specs.World.{World}
use Rattle.model.specs.Update.{UpdateData, index_for}
use Rattle.model.specs.Events.{Event}
use Rattle.model.specs.Differences.{PlanEvent, events, told_root, AreDifferences}
use Rattle.model.specs.Queries.{answer_of}
use Rattle.model.specs.Run.{CommandData, ToUpdate, ToHostFocus, ToQuery, ReplyData, Accepted, Refused, OutOfMemory, Answered, Does, WantAlike, AreToldBy}
use Rattle.model.specs.Shape.{AreAlikeWorlds}
use Rattle.model.specs.AlikeRuns.{AreAlikeUpdates, AreAlikeCommands, KeepsSecret, ReplyAlike, told_openly}
use Rattle.model.specs.SecretLaws.{CommandsKeepSecret}
use Rattle.model.proofs.Alike.Bare as bare
use Rattle.model.proofs.Alike.Faults.{index_same}
use Rattle.model.proofs.Alike.Merging.{outlines, fail_alike}
use Rattle.model.proofs.Alike.Answers.{one_answer}
use Rattle.model.proofs.Alike.Tellings.{told_alike, focus_told_alike}

abbrev Agree : FullNodeId → World → CommandData → List Event → ReplyData → List Event → ReplyData → Type 0
Agree p w c told r heard s = ReplyAlike p w c r s × (told_openly p told ≡ told_openly p heard)

module _ (p : FullNodeId) (w next v other : World) (worlds : AreAlikeWorlds p w v) (after : AreAlikeWorlds p next other) where
  nothing_told : (told heard : List Event) → told ≡ [] → heard ≡ [] → told_openly p told ≡ told_openly p heard
  nothing_told told heard h g = ap (told_openly p) (h ∙ sym g)

  update_told : (u x : UpdateData) → AreAlikeUpdates p w u x → (ds es : List PlanEvent) (told heard : List Event) → AreToldBy w u next ds → AreToldBy v x other es → told ≡ events w next ds → heard ≡ events v other es →
      told_openly p told ≡ told_openly p heard
  update_told u x alike ds es told heard h g t e =
      let index : index_for w u.name ≡ index_for v x.name = index_same w v u.name x.name (bare.of_outlines w v (outlines p w v worlds)) alike.name in
      let root : told_root (index_for w u.name) u.info ≡ told_root (index_for v x.name) x.info = λ i. told_root (index i) (alike.info i) in
      ap (told_openly p) t
      ∙ told_alike p w next v other worlds after (told_root (index_for v x.name) x.info) ds es (subst (λ o. AreDifferences w next o ds) root h) g
      ∙ ap (told_openly p) (sym e)

  of_update : (u x : UpdateData) → AreAlikeUpdates p w u x → (told heard : List Event) (r s : ReplyData) → WantAlike r s → Does w (ToUpdate u) next told r → Does v (ToUpdate x) other heard s → Agree p w (ToUpdate u) told r heard s
  of_update u x alike told heard Accepted Accepted m h g = (refl, update_told u x alike h.1 g.1 told heard h.2 g.2 h.3 g.3)
  of_update u x alike told heard Accepted (Refused f) m h g = absurd (h.0.0 f ((fail_alike p w v u x worlds alike f).1 g.0))
  of_update u x alike told heard Accepted OutOfMemory m h g = absurd (let e : Accepted ≡ OutOfMemory = m.1 refl in cc)
  of_update u x alike told heard Accepted (Answered a) m h g = absurd g
  of_update u x alike told heard (Refused f) Accepted m h g = absurd (g.0.0 f ((fail_alike p w v u x worlds alike f).0 h.0))
  of_update u x alike told heard (Refused f) (Refused k) m h g = (tt, nothing_told told heard h.2 g.2)
  of_update u x alike told heard (Refused f) OutOfMemory m h g = absurd (let e : Refused f ≡ OutOfMemory = m.1 refl in cc)
  of_update u x alike told heard (Refused f) (Answered a) m h g = absurd g
  of_update u x alike told heard OutOfMemory Accepted m h g = absurd (let e : Accepted ≡ OutOfMemory = m.0 refl in cc)
  of_update u x alike told heard OutOfMemory (Refused f) m h g = absurd (let e : Refused f ≡ OutOfMemory = m.0 refl in cc)
  of_update u x alike told heard OutOfMemory OutOfMemory m h g = (refl, nothing_told told heard h.1 g.1)
  of_update u x alike told heard OutOfMemory (Answered a) m h g = absurd g
  of_update u x alike told heard (Answered a) s m h g = absurd h

  of_host : (a b : Bool) (told heard : List Event) (r s : ReplyData) → Does w (ToHostFocus a) next told r → Does v (ToHostFocus b) other heard s → Agree p w (ToHostFocus a) told r heard s
  of_host a b told heard Accepted Accepted h g = (refl, ap (told_openly p) h.3 ∙ focus_told_alike p w next v other worlds after h.1 g.1 h.2 g.2 ∙ ap (told_openly p) (sym g.3))
  of_host a b told heard Accepted (Refused f) h g = absurd g
  of_host a b told heard Accepted OutOfMemory h g = absurd g
  of_host a b told heard Accepted (Answered k) h g = absurd g
  of_host a b told heard (Refused f) s h g = absurd h
  of_host a b told heard OutOfMemory s h g = absurd h
  of_host a b told heard (Answered k) s h g = absurd h

  answers_agree : (o : AreAlikeWorlds p w v) (q : Query) → KeepsSecret p w q → answer_of w q ≡ answer_of v q
  answers_agree (inl e) q keeps = ap (λ u. answer_of u q) e
  answers_agree (inr e) q keeps = one_answer p w v e q keeps

  of_query : (q x : Query) → q ≡ x → (told heard : List Event) (r s : ReplyData) → Does w (ToQuery q) next told r → Does v (ToQuery x) other heard s → Agree p w (ToQuery q) told r heard s
  of_query q x same told heard r s h g =
      (λ keeps. h.2 ∙ ap Answered (answers_agree worlds q keeps ∙ ap (answer_of v) same) ∙ sym g.2, nothing_told told heard h.1 g.1)

  pub one_command : (c d : CommandData) (told heard : List Event) (r s : ReplyData) → AreAlikeCommands p w c d → WantAlike r s → Does w c next told r → Does v d other heard s → Agree p w c told r heard s
  one_command (ToUpdate u) (ToUpdate x) told heard r s alike m h g = of_update u x alike told heard r s m h g
  one_command (ToUpdate u) (ToHostFocus b) told heard r s alike m h g = absurd alike
  one_command (ToUpdate u) (ToQuery x) told heard r s alike m h g = absurd alike
  one_command (ToHostFocus a) (ToUpdate x) told heard r s alike m h g = absurd alike
  one_command (ToHostFocus a) (ToHostFocus b) told heard r s alike m h g = of_host a b told heard r s h g
  one_command (ToHostFocus a) (ToQuery x) told heard r s alike m h g = absurd alike
  one_command (ToQuery q) (ToUpdate x) told heard r s alike m h g = absurd alike
  one_command (ToQuery q) (ToHostFocus b) told heard r s alike m h g = absurd alike
  one_command (ToQuery q) (ToQuery x) told heard r s alike m h g = of_query q x alike told heard r s h g

pub commands_keep_secret : CommandsKeepSecret
commands_keep_secret p w next v other c d told heard r s worlds alike want h g after = one_command p w next v other worlds after c d told heard r s alike want h g
