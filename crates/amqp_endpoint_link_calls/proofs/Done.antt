-- What is done in a session that is lent.
use Rattle.std.proofs.Common.{◌≡◌, ℕ, List, ◌++◌, Some, Result, Ok, Err, refl, ap, ◌∙◌}
use Rattle.std.specs.Prelude.{OnErr}
use Rattle.std.specs.Box.{with_value}
use Rattle.std.specs.Global.{Box}
use Rattle.amqp_session_types.specs.declared.handles.OutputHandle.{OutputHandle}
use Rattle.amqp_session_performatives.specs.declared.session_frame.SessionFrame.{SessionFrame}
use Rattle.amqp_endpoint_tables.specs.Lends.{set_live}
use Rattle.amqp_endpoint_tables.specs.State.{live_at}
use Rattle.amqp_endpoint_link_calls.proofs.Lent.{unlent}
use Rattle.amqp_endpoint_conversation.specs.Beginning.{Sessions}
use Rattle.amqp_endpoint_links.specs.declared.numbered.Numbered.{Numbered}
use Rattle.amqp_link.specs.declared.end.End.{End}
use Rattle.amqp_endpoint_model.specs.declared.error.EndpointError.{EndpointError}
use Rattle.amqp_endpoint_attached.specs.Linked.{Linked}
use Rattle.amqp_endpoint_link_calls.specs.Calling.{Does, DoneIn}
use Rattle.amqp_endpoint_link_calls.specs.Places.{LinkTalk}

module _ (old : LinkTalk) (number : ℕ) (lent : Box Linked) (live : live_at old.sessions number ≡ Some lent) where
  -- the sessions behind a call of the one that is lent
  abbrev pub changed : Linked → LinkTalk
  changed s = record old { sessions = set_live old.sessions number (with_value lent s) }

  -- it is done there
  pub done-in : (does : Does) (handle : OutputHandle) (s : Linked) (frames out out_new : List SessionFrame)
      → does handle lent.value frames s → out_new ≡ out ++ frames
      → DoneIn does number handle old out (changed s) out_new
  done-in does handle s frames out out_new did queued =
      record {
        before = lent;
        after = with_value lent s;
        frames = frames;
        did = did;
        stepped = (live, refl);
        rest = refl;
        queued = queued;
      }

  -- it stays as it was
  pub stays : (s : Linked) → s ≡ lent.value → changed s ≡ old
  stays s is =
      ap (λ (t : Linked). record old { sessions = set_live old.sessions number (with_value lent t) }) is
      ∙ ap (λ (ss : Sessions (Numbered End)). record old { sessions = ss }) (unlent old.sessions number lent live)

  -- where a call is refused
  pub kept : {T : Type 0} (result : Result T EndpointError) (before after : Linked) (out out_new : List SessionFrame)
      → before ≡ lent.value → OnErr result ((after ≡ before) × (out_new ≡ out))
      → OnErr result ((changed after ≡ old) × (out_new ≡ out))
  kept (Ok done) before after out out_new same keeps = tt
  kept (Err e) before after out out_new same keeps = (stays after (keeps.0 ∙ same), keeps.1)
