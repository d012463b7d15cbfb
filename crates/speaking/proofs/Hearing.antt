-- How a speaker receives an event.
use Rattle.std.proofs.Common.{◌≡◌, true, false, IsTrue, Result, Ok, Err, refl, sym, subst, ◌∙◌}
use Rattle.std.specs.Prelude.{OnOk, OnErr, is_err}
use Rattle.std.specs.declared.alloc.AllocError.{AllocError}
use Rattle.model.specs.Events.{Event}
use Rattle.model.specs.World.{World}
use Rattle.speaking.specs.Above.{AreRight, IsReady}
use Rattle.speaking.specs.Events.{Hears, IsOfStep, KnowsRightly, Says}
use Rattle.speaking.specs.declared.above.LookUps.{LookUps}
use Rattle.speaking.specs.declared.speaker.Speaker.{Speaker}

-- a silent one stays the same
pub hears_nothing : (s : Speaker) (e : Event) → s.is_silent ≡ true → Hears s e s
hears_nothing s e silent = record {
  silent = λ k. refl;
  says = λ old new of knows loud. absurd (let clash : true ≡ false = sym silent ∙ loud in cc);
  kept = λ k. refl;
  text = refl;
}

pub hears_event : (s : Speaker) (e : Event) (t : Speaker) → s.is_silent ≡ false → t.text ≡ s.text → (t.is_silent ≡ true → t.voice ≡ s.voice) →
    ((old new : World) → IsOfStep old new e → KnowsRightly old new s → t.is_silent ≡ false → Says e s.voice t.voice s.news t.news × KnowsRightly old new t) → Hears s e t
hears_event s e t loud text kept says = record {
  silent = λ k. absurd (let clash : false ≡ true = subst IsTrue loud k in cc);
  says = says;
  kept = kept;
  text = text;
}

-- what was said without an error
pub without_error : {A : Type 0} (r : Result Unit AllocError) → is_err r ≡ false → OnOk r A → A
without_error (Ok done) loud h = h
without_error (Err wanting) loud h = absurd (let clash : true ≡ false = loud in cc)

-- what is kept where there is an error
pub with_error : {A : Type 0} (r : Result Unit AllocError) → is_err r ≡ true → OnErr r A → A
with_error (Ok done) failed h = absurd (let clash : false ≡ true = failed in cc)
with_error (Err wanting) failed h = h

-- what is ready in these worlds is ready in the same ones
pub ready_in : (o n old new : World) (looks : LookUps) → o ≡ old → n ≡ new → IsReady o n looks → IsReady old new looks
ready_in o n old new looks before after h = (subst (λ w. AreRight w looks.before) before h.0, subst (λ w. AreRight w looks.after) after h.1)
