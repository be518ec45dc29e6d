use Rattle.std.proofs.Common.{sym, ◌∙◌}
use Rattle.amqp_session_types.specs.declared.handles.OutputHandle.{OutputHandle}
use Rattle.amqp_endpoint_messages.specs.Disposing.{DisposesOfOne}
use Rattle.amqp_endpoint_link_calls.proofs.Done.{changed, stays}
use Rattle.amqp_endpoint_link_calls.proofs.Going.{same-goes}
use Rattle.amqp_endpoint_link_calls.proofs.Disposed.{disposed-goes, disposed-in, err-so, no-err, no-ok, none-live}
use Rattle.amqp_endpoint_link_calls.proofs.Disposed.{ok-so, one-change, stays-within, waits-on}
use Rattle.amqp_endpoint_link_calls.proofs.disposing.dispose_tag.Goals as goal
use Rattle.amqp_endpoint_link_calls.proofs.disposing.dispose_tag.Goals.{in-Ok, in-Err}

pub unreachable-requires : goal.unreachable-requires
unreachable-requires c =
    absurd (none-live c.args.talk.now c.args.session c.args.handle c.in_default.ensures.value c.requires)

pub returns-clause-ok : goal.returns-clause-ok
returns-clause-ok c =
    elim c.match-dispose.branch [
      | in-Ok w ↦ ok-so c.match-dispose.result
          (disposed-in c.args.talk.now c.args.session c.in-Some.session.now (sym c.in-Some.ensures.value)
          c.deref_mut.result.now c.dispose.new.session c.deref_mut.ensures.value
          (λ (handle : OutputHandle). DisposesOfOne handle c.args.tag.now c.args.state c.args.settled) c.args.limit
          c.args.handle c.args.out.now.items c.dispose.new.out.items w.in-Ok.ensures.answer)
      | in-Err w ↦ no-ok _ c.match-dispose.result _ w.result-is
    ]

pub returns-clause-kept : goal.returns-clause-kept
returns-clause-kept c =
    elim c.match-dispose.branch [
      | in-Ok w ↦ no-err _ c.match-dispose.result _ w.result-is
      | in-Err w ↦ err-so c.match-dispose.result (
        stays c.args.talk.now c.args.session c.in-Some.session.now (sym c.in-Some.ensures.value)
            c.dispose.new.session (w.in-Err.ensures.kept.0 ∙ c.deref_mut.ensures.value),
        w.in-Err.ensures.kept.1,
      )
    ]

pub returns-clause-goes : goal.returns-clause-goes
returns-clause-goes c =
    elim c.match-dispose.branch [
      | in-Ok w ↦ disposed-goes c.args.talk.now c.args.session c.in-Some.session.now (sym c.in-Some.ensures.value)
          c.deref_mut.result.now c.dispose.new.session c.deref_mut.ensures.value c.args.handle
          (DisposesOfOne c.args.handle c.args.tag.now c.args.state c.args.settled)
          (one-change c.args.handle c.args.tag.now c.args.state c.args.settled) c.args.limit
          c.args.out.now.items c.dispose.new.out.items w.in-Ok.ensures.answer
      | in-Err w ↦ same-goes c.args.talk.now
          (changed c.args.talk.now c.args.session c.in-Some.session.now (sym c.in-Some.ensures.value)
          c.dispose.new.session)
          c.args.out.now.items c.dispose.new.out.items
          (stays c.args.talk.now c.args.session c.in-Some.session.now (sym c.in-Some.ensures.value)
          c.dispose.new.session (w.in-Err.ensures.kept.0 ∙ c.deref_mut.ensures.value)) w.in-Err.ensures.kept.1
          c.args.limit
    ]

pub returns-clause-waits : goal.returns-clause-waits
returns-clause-waits c =
    elim c.match-dispose.branch [
      | in-Ok w ↦ waits-on c.args.talk.now c.args.session c.in-Some.session.now (sym c.in-Some.ensures.value)
          c.deref_mut.result.now c.dispose.new.session c.deref_mut.ensures.value c.args.handle
          (DisposesOfOne c.args.handle c.args.tag.now c.args.state c.args.settled)
          (one-change c.args.handle c.args.tag.now c.args.state c.args.settled) c.args.limit
          c.args.out.now.items c.dispose.new.out.items w.in-Ok.ensures.answer
      | in-Err w ↦ stays-within c.args.talk.now
          (changed c.args.talk.now c.args.session c.in-Some.session.now (sym c.in-Some.ensures.value)
          c.dispose.new.session)
          (stays c.args.talk.now c.args.session c.in-Some.session.now (sym c.in-Some.ensures.value)
          c.dispose.new.session (w.in-Err.ensures.kept.0 ∙ c.deref_mut.ensures.value))
    ]
