-- A link that is taken out of its session, or stays.
use Rattle.std.proofs.Common.{Option, Some, None, Ok, Err, inl, inr, refl, ap}
use Rattle.amqp_session_types.specs.declared.handles.OutputHandle.{OutputHandle}
use Rattle.amqp_session_types.specs.declared.refusals.SessionError.{SessionError}
use Rattle.amqp_session_core.specs.Told.{Deallocated}
use Rattle.amqp_link.specs.declared.end.End.{End}
use Rattle.amqp_endpoint_links.specs.declared.numbered.Numbered.{Numbered}
use Rattle.amqp_endpoint_attached.specs.Linked.{Linked, LinksIn, gives}
use Rattle.amqp_endpoint_attached.specs.TakenOut.{TakenOut}

pub taken_out : (old : Linked) (handle : OutputHandle) (link : Option (Numbered End)) (new : LinksIn)
    → Deallocated gives old.session handle.0 (Ok link) new → TakenOut old handle link (record old { session = new })
taken_out old handle None new (none, same) = (inl none, ap (λ (s : LinksIn). record old { session = s }) same)
taken_out old handle (Some link) new (at, steps) = (at, steps, refl)

pub stays_in : (old : Linked) (handle : OutputHandle) (e : SessionError) (new : LinksIn)
    → Deallocated gives old.session handle.0 (Err e) new → TakenOut old handle None (record old { session = new })
stays_in old handle e new (is, there, waits, same) =
    (inr waits, ap (λ (s : LinksIn). record old { session = s }) same)
