use Rattle.std.proofs.Common.{subst, sym, ◌∙◌}
use Rattle.amqp_session_types.specs.declared.handles.OutputHandle.{OutputHandle}
use Rattle.amqp_endpoint_tables.specs.State.{live_at}
use Rattle.amqp_endpoint_model.specs.declared.error.EndpointError.{EndpointError}
use Rattle.amqp_endpoint_messages.specs.Disposing.{DisposesOfAll}
use Rattle.amqp_endpoint_messages.specs.Refusals.{IsTooLong}
use Rattle.amqp_endpoint_link_calls.specs.Places.{end_live}
use Rattle.amqp_endpoint_link_calls.specs.Refusing.{BarsTelling}
use Rattle.amqp_endpoint_link_calls.proofs.Done.{changed, stays}
use Rattle.amqp_endpoint_link_calls.proofs.Going.{same-goes}
use Rattle.amqp_endpoint_link_calls.proofs.Disposed.{all-change, disposed-goes, disposed-in, left-over, none-live}
use Rattle.amqp_endpoint_link_calls.proofs.Disposed.{stays-within, waits-on}
use Rattle.amqp_endpoint_link_calls.proofs.disposing.dispose_tags.Goals as goal

pub unreachable-requires : goal.unreachable-requires
unreachable-requires c =
    absurd (none-live c.args.talk.now c.args.session c.args.handle c.in_default.ensures.value c.requires)

pub returns-in-Ok-clause-ok : goal.returns-in-Ok-clause-ok
returns-in-Ok-clause-ok c =
    disposed-in c.args.talk.now c.args.session c.in-Some.session.now (sym c.in-Some.ensures.value)
    c.deref_mut.result.now c.dispose_all.new.session c.deref_mut.ensures.value
    (λ (handle : OutputHandle). DisposesOfAll handle c.args.tags.now c.args.state c.args.settled) c.args.limit
    c.args.handle c.args.out.now.items c.dispose_all.new.out.items c.in-Ok.ensures.answer

pub returns-in-Ok-clause-goes : goal.returns-in-Ok-clause-goes
returns-in-Ok-clause-goes c =
    disposed-goes c.args.talk.now c.args.session c.in-Some.session.now (sym c.in-Some.ensures.value)
    c.deref_mut.result.now c.dispose_all.new.session c.deref_mut.ensures.value c.args.handle
    (DisposesOfAll c.args.handle c.args.tags.now c.args.state c.args.settled)
    (all-change c.args.handle c.args.tags.now c.args.state c.args.settled) c.args.limit
    c.args.out.now.items c.dispose_all.new.out.items c.in-Ok.ensures.answer

pub returns-in-Ok-clause-waits : goal.returns-in-Ok-clause-waits
returns-in-Ok-clause-waits c =
    waits-on c.args.talk.now c.args.session c.in-Some.session.now (sym c.in-Some.ensures.value)
    c.deref_mut.result.now c.dispose_all.new.session c.deref_mut.ensures.value c.args.handle
    (DisposesOfAll c.args.handle c.args.tags.now c.args.state c.args.settled)
    (all-change c.args.handle c.args.tags.now c.args.state c.args.settled) c.args.limit
    c.args.out.now.items c.dispose_all.new.out.items c.in-Ok.ensures.answer

pub returns-in-Err-clause-err : goal.returns-in-Err-clause-err
returns-in-Err-clause-err c =
    let P : EndpointError → Type 0 =
    BarsTelling
    (IsTooLong c.args.limit (end_live (live_at c.args.talk.now.sessions c.args.session) c.args.handle) c.args.tags.now
    c.args.state c.args.settled) in
    subst P (sym c.too_large_or_memory.ensures)
    (left-over c.args.talk.now c.args.session c.in-Some.session.now (sym c.in-Some.ensures.value)
    c.deref_mut.result.now c.dispose_all.new.session c.deref_mut.ensures.value c.args.limit c.args.handle
    c.args.tags.now c.args.state c.args.settled c.in-Err.error c.in-Err.ensures.answer)

pub returns-in-Err-clause-kept : goal.returns-in-Err-clause-kept
returns-in-Err-clause-kept c = (
  stays c.args.talk.now c.args.session c.in-Some.session.now (sym c.in-Some.ensures.value)
      c.dispose_all.new.session (c.in-Err.ensures.kept.0 ∙ c.deref_mut.ensures.value),
  c.in-Err.ensures.kept.1,
)

pub returns-in-Err-clause-goes : goal.returns-in-Err-clause-goes
returns-in-Err-clause-goes c =
    same-goes c.args.talk.now
    (changed c.args.talk.now c.args.session c.in-Some.session.now (sym c.in-Some.ensures.value)
    c.dispose_all.new.session)
    c.args.out.now.items c.dispose_all.new.out.items
    (stays c.args.talk.now c.args.session c.in-Some.session.now (sym c.in-Some.ensures.value)
    c.dispose_all.new.session (c.in-Err.ensures.kept.0 ∙ c.deref_mut.ensures.value)) c.in-Err.ensures.kept.1
    c.args.limit

pub returns-in-Err-clause-waits : goal.returns-in-Err-clause-waits
returns-in-Err-clause-waits c =
    stays-within c.args.talk.now
    (changed c.args.talk.now c.args.session c.in-Some.session.now (sym c.in-Some.ensures.value)
    c.dispose_all.new.session)
    (stays c.args.talk.now c.args.session c.in-Some.session.now (sym c.in-Some.ensures.value)
    c.dispose_all.new.session (c.in-Err.ensures.kept.0 ∙ c.deref_mut.ensures.value))
