-- What is printed of a step's events and of its reply.
use Rattle.std.proofs.Common.{◌≡◌, List, ◌++◌, Option, None, Result, Ok, Err, sym, ap, subst, ◌∙◌}
use Rattle.std.specs.Prelude.{IfNone, flat_map}
use Rattle.std.specs.Io.KnownBytes.{Appends}
use Rattle.std.specs.declared.alloc.AllocError.{AllocError}
use Rattle.std.proofs.KnownBytes.{Appends-trans}
use Rattle.std.proofs.lemmas.List.{append-nil}
use Rattle.model.specs.Events.{Event}
use Rattle.session.specs.declared.commands.Reply.{Reply}
use Rattle.atree_script.specs.Printed.{event_line}
use Rattle.atree_script.specs.Replies.{reply_line}
use Rattle.atree_script.specs.Played.{Bytes}
use Rattle.atree_script.specs.Scripts.{reply_text}

module _ (events : List Event) (reply : Result Reply AllocError) (before after : Bytes) where
  -- without memory for a reply the events are printed, and no more
  pub events_printed : (wanting : AllocError) → reply ≡ Err wanting → Appends before after (flat_map event_line events) → Appends before after (flat_map event_line events ++ reply_text reply)
  events_printed wanting lacks h =
      subst (Appends before after) (sym (ap (λ r. flat_map event_line events ++ reply_text r) lacks ∙ append-nil (flat_map event_line events))) h

  -- the reply is printed after the events
  pub reply_printed : (answer : Reply) (mid : Bytes) → reply ≡ Ok answer → Appends before mid (flat_map event_line events) → Appends mid after (reply_line answer) → Appends before after (flat_map event_line events ++ reply_text reply)
  reply_printed answer mid is first second =
      subst (λ r. Appends before after (flat_map event_line events ++ reply_text r)) (sym is) (Appends-trans before mid after (flat_map event_line events) (reply_line answer) first second)

-- nothing went wrong with the output
pub no_fault : {F A : Type 0} (fault : Option F) → fault ≡ None → IfNone fault A → A
no_fault {A = A} fault e h = subst (λ o. IfNone o A) e h
