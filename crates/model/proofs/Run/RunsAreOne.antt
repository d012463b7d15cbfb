-- Two runs of the same commands come to one world, tell the same, and reply alike.
use Rattle.std.proofs.Common.{◌≡◌, List, [], ◌∷◌, ◌++◌, refl, sym, ap, subst, ◌∙◌, Bool}
use Rattle.std.specs.List.{AllZip}
use Rattle.model.specs.World.{World}
use Rattle.model.specs.Update.{UpdateData, IsAccepted, index_for, merged_world}
use Rattle.model.specs.Events.{Event}
use Rattle.model.specs.Differences.{PlanEvent, events, told_root, AreOfFocus}
use Rattle.model.specs.State.{with_host}
use Rattle.model.specs.Answers.{Answer}
use Rattle.model.specs.Queries.{answer_of}
use Rattle.model.specs.Run.{CommandData, ToUpdate, ToHostFocus, ToQuery, ReplyData, Accepted, Refused, OutOfMemory, Answered, Does, Runs, AreAlike, WantAlike, AreToldBy}
use Rattle.model.proofs.Update.RebuildIsOne.{rebuild_unique}
use Rattle.model.proofs.Differences.DifferencesAreOne.{differences_unique, of_focus_unique}

abbrev Agree : World → List Event → ReplyData → World → List Event → ReplyData → Type 0
Agree v told r w heard s = (v ≡ w) × (told ≡ heard) × AreAlike r s

same_told : (old v w : World) (ds es : List PlanEvent) (told heard : List Event) → v ≡ w → ds ≡ es → told ≡ events old v ds → heard ≡ events old w es → told ≡ heard
same_told old v w ds es told heard p q a b = a ∙ ap (λ x. events old x ds) p ∙ ap (events old w) q ∙ sym b

accepted_agree : (old v w : World) (u : UpdateData) (ds es : List PlanEvent) (told heard : List Event) → IsAccepted old u v → IsAccepted old u w → AreToldBy old u v ds → AreToldBy old u w es → told ≡ events old v ds → heard ≡ events old w es → Agree v told Accepted w heard Accepted
accepted_agree old v w u ds es told heard h g d e a b =
    let same : v ≡ w = rebuild_unique (merged_world old u) v w h.1 g.1 in
    let all : ds ≡ es = differences_unique old w (told_root (index_for old u.name) u.info) ds es (subst (λ x. AreToldBy old u x ds) same d) e in
    (same, same_told old v w ds es told heard same all a b, refl)

host_agree : (old v w : World) (focused : Bool) (ds es : List PlanEvent) (told heard : List Event) → v ≡ with_host old focused → w ≡ with_host old focused → AreOfFocus old v [] ds → AreOfFocus old w [] es → told ≡ events old v ds → heard ≡ events old w es → Agree v told Accepted w heard Accepted
host_agree old v w focused ds es told heard h g d e a b =
    let same : v ≡ w = h ∙ sym g in
    let all : ds ≡ es = of_focus_unique old w [] ds es (subst (λ x. AreOfFocus old x [] ds) same d) e in
    (same, same_told old v w ds es told heard same all a b, refl)

alike_answers : (a : Answer) (r s : ReplyData) → r ≡ Answered a → s ≡ Answered a → AreAlike r s
alike_answers a r s p q = subst (λ x. AreAlike x s) (sym p) (subst (λ x. AreAlike (Answered a) x) (sym q) refl)

pub does_agree : (old v w : World) (c : CommandData) (told heard : List Event) (r s : ReplyData) → Does old c v told r → Does old c w heard s → WantAlike r s → Agree v told r w heard s
does_agree old v w (ToUpdate u) told heard Accepted Accepted h g m = accepted_agree old v w u h.1 g.1 told heard h.0 g.0 h.2 g.2 h.3 g.3
does_agree old v w (ToUpdate u) told heard Accepted (Refused f) h g m = absurd (h.0.0 f g.0)
does_agree old v w (ToUpdate u) told heard Accepted OutOfMemory h g m = absurd (let e : Accepted ≡ OutOfMemory = m.1 refl in cc)
does_agree old v w (ToUpdate u) told heard Accepted (Answered a) h g m = absurd g
does_agree old v w (ToUpdate u) told heard (Refused f) Accepted h g m = absurd (g.0.0 f h.0)
does_agree old v w (ToUpdate u) told heard (Refused f) (Refused k) h g m = (h.1 ∙ sym g.1, h.2 ∙ sym g.2, tt)
does_agree old v w (ToUpdate u) told heard (Refused f) OutOfMemory h g m = absurd (let e : Refused f ≡ OutOfMemory = m.1 refl in cc)
does_agree old v w (ToUpdate u) told heard (Refused f) (Answered a) h g m = absurd g
does_agree old v w (ToUpdate u) told heard OutOfMemory Accepted h g m = absurd (let e : Accepted ≡ OutOfMemory = m.0 refl in cc)
does_agree old v w (ToUpdate u) told heard OutOfMemory (Refused f) h g m = absurd (let e : Refused f ≡ OutOfMemory = m.0 refl in cc)
does_agree old v w (ToUpdate u) told heard OutOfMemory OutOfMemory h g m = (h.0 ∙ sym g.0, h.1 ∙ sym g.1, refl)
does_agree old v w (ToUpdate u) told heard OutOfMemory (Answered a) h g m = absurd g
does_agree old v w (ToUpdate u) told heard (Answered a) s h g m = absurd h
does_agree old v w (ToHostFocus focused) told heard Accepted Accepted h g m = host_agree old v w focused h.1 g.1 told heard h.0 g.0 h.2 g.2 h.3 g.3
does_agree old v w (ToHostFocus focused) told heard Accepted (Refused f) h g m = absurd g
does_agree old v w (ToHostFocus focused) told heard Accepted OutOfMemory h g m = absurd g
does_agree old v w (ToHostFocus focused) told heard Accepted (Answered a) h g m = absurd g
does_agree old v w (ToHostFocus focused) told heard (Refused f) s h g m = absurd h
does_agree old v w (ToHostFocus focused) told heard OutOfMemory s h g m = absurd h
does_agree old v w (ToHostFocus focused) told heard (Answered a) s h g m = absurd h
does_agree old v w (ToQuery q) told heard r s h g m = (h.0 ∙ sym g.0, h.1 ∙ sym g.1, alike_answers (answer_of old q) r s h.2 g.2)

pub runs_agree : (old v w : World) (cs : List CommandData) (told heard : List Event) (replies answers : List ReplyData) → Runs old cs v told replies → Runs old cs w heard answers → AllZip WantAlike replies answers → (v ≡ w) × (told ≡ heard) × AllZip AreAlike replies answers
runs_agree old v w [] told heard replies answers h g m =
    (sym h.0 ∙ g.0, h.1 ∙ sym g.1, subst (λ x. AllZip AreAlike x answers) (sym h.2) (subst (λ x. AllZip AreAlike [] x) (sym g.2) tt))
runs_agree old v w (c ∷ cs) told heard replies answers h g m =
    let both : WantAlike h.3 g.3 × AllZip WantAlike h.4 g.4 = subst (λ x. AllZip WantAlike (h.3 ∷ h.4) x) g.8 (subst (λ x. AllZip WantAlike x answers) h.8 m) in
    let one = does_agree old h.0 g.0 c h.1 g.1 h.3 g.3 h.5 g.5 both.0 in
    let others = runs_agree g.0 v w cs h.2 g.2 h.4 g.4 (subst (λ x. Runs x cs v h.2 h.4) one.0 h.6) g.6 both.1 in
    let head : AreAlike h.3 g.3 = one.2 in
    let all : AllZip AreAlike (h.3 ∷ h.4) (g.3 ∷ g.4) = (head, others.2) in
    let first : h.1 ≡ g.1 = one.1 in
    let rest : h.2 ≡ g.2 = others.1 in
    (others.0, h.7 ∙ ap (λ x. x ++ h.2) first ∙ ap (λ x. g.1 ++ x) rest ∙ sym g.7, subst (λ x. AllZip AreAlike x answers) (sym h.8) (subst (λ x. AllZip AreAlike (h.3 ∷ h.4) x) (sym g.8) all))
