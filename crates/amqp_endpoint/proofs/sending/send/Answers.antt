use Rattle.std.proofs.Common.{rules, ◌≡◌, ◌≢◌, ℕ, ◌≤◌, ◌<◌, ◌-◌, ◌^◌, Bool, List, length, Result, Ok, Err, sym, subst}
use Rattle.std.specs.Prelude.{IfErr, IsErrAnd}
use Rattle.amqp_endpoint_tables.specs.LinkState.{place_at}
use Rattle.amqp_endpoint_model.specs.declared.answer.Sent.{Sent}
use Rattle.amqp_endpoint_model.specs.declared.call.Sending.{Sending}
use Rattle.amqp_endpoint_model.specs.declared.error.EndpointError.{EndpointError}
use Rattle.amqp_endpoint_model.specs.declared.error.EndpointError.TheVariants.{FrameTooLarge}
use Rattle.amqp_endpoint_linking.specs.Linking.{Links, Talk}
use Rattle.amqp_endpoint_link_calls.specs.Sending.{BarsSend}
use Rattle.amqp_endpoint.specs.Sending.{BarsSending, tag_of}
use Rattle.amqp_endpoint.proofs.Messages.{sent-hands}
use Rattle.amqp_endpoint.proofs.Unsent.{Refused, barred, last-barred}
use Rattle.amqp_endpoint.proofs.sending.send.Goals as goal

pub returns-in_default-clause-err : goal.returns-in_default-clause-err
returns-in_default-clause-err c = λ least.
    let last : c.args.sent.now ≡ 2 ^ 64 - 1 = search rules in
    last-barred c.args.sent.now c.args.talk.now c.args.links.now c.args.link c.len-size.result c.args.message.now
    c.send_refusal-refusal.result c.unwrap_or.result last c.len-size.ensures.value c.send_refusal-refusal.ensures
    c.unwrap_or.ensures

-- what it was refused by is what is answered
carried : (r : Result Sent EndpointError) (why : EndpointError) → IsErrAnd r (λ (e : EndpointError). e ≡ why)
    → (limit serial : ℕ) (talk : Talk) (links : Links) (link : ℕ) (message : Sending) (key : List ℕ)
    → serial < 2 ^ 64 - 1 → key ≡ tag_of serial
    → (512 ≤ limit → length key ≤ 32 → Refused why ≢ Refused FrameTooLarge) → 512 ≤ limit
    → BarsSend limit talk (place_at links link) key message why
    → IfErr r (BarsSending serial talk links link message)
carried (Ok sent) why is limit serial talk links link message key less keyed fits least bars = tt
carried (Err e) why is limit serial talk links link message key less keyed fits least bars =
    subst (BarsSending serial talk links link message) (sym is)
    (barred limit serial talk links link message key why less keyed fits least bars)

pub returns-in_err-settled-clause-err : goal.returns-in_err-settled-clause-err
returns-in_err-settled-clause-err c = λ least.
    let numbered : c.args.sent.now < 2 ^ 64 - 1 = search rules in
    carried c.from_residual.result _ c.from_residual.ensures.1 c.args.limit c.args.sent.now c.args.talk.now
    c.args.links.now c.args.link c.args.message.now c.tag_of-key.result numbered c.tag_of-key.ensures
    c.in_err-settled.ensures.frame least c.in_err-settled.ensures.err

pub returns-clause-ok : goal.returns-clause-ok
returns-clause-ok c =
    let numbered : c.args.sent.now < 2 ^ 64 - 1 = search rules in
    sent-hands c.args.limit c.args.sent.now c.args.link c.args.talk.now c.send.new.talk c.args.links.now
    c.args.message.now c.tag_of-key.result c.tag_of-tag.result c.in_ok-settled.settled c.outcome_of.result
    c.args.out.now.items c.send.new.out.items numbered c.tag_of-key.ensures c.tag_of-tag.ensures c.outcome_of.ensures
    c.in_ok-settled.ensures.ok
