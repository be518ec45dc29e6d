-- An Attach of the receiver is taken as it was planned, or refused, or there is no memory for it: part 2, 2.6.3.
use Rattle.std.proofs.Common.{◌≡◌, inl, inr, Option, Some, None, option_map, Result, Ok, Err, alloc_error, refl, sym, ap, subst}
use Rattle.std.proofs.Common.{◌∙◌}
use Rattle.std.specs.Prelude.{IsOk}
use Rattle.amqp_session_performatives.specs.declared.attach.Attach.{Attach}
use Rattle.amqp_link_types.specs.declared.attaching.SenderAttachError.{SenderAttachError}
use Rattle.amqp_link_types.specs.declared.attaching.SenderAttachError.TheVariants.{IllegalState}
use Rattle.amqp_link_base.specs.Moves.{Moves, moved_to, took_attach}
use Rattle.amqp_link_base.specs.State.{after_incoming_attach}
use Rattle.amqp_link_base.specs.declared.base.IllegalState.{IllegalState as NotAllowed}
use Rattle.amqp_link_base.specs.declared.base.LinkBase.{LinkBase}
use Rattle.amqp_link_base.specs.declared.state.LinkState.{LinkState}
use Rattle.amqp_link_sender.specs.Attaching.{Plan, TakesAttach, TakesMoved, TakesTested, attach_planned, attach_refusal}
use Rattle.amqp_link_sender.specs.Attaching.{carried_out, left_by, planned, planned_by}
use Rattle.amqp_link_sender.specs.declared.attaching.AttachAnswer.TheVariants.{Refused, Attached}
use Rattle.amqp_link_sender.specs.declared.attaching.Attaching.{Attaching}
use Rattle.amqp_link_sender.specs.Sending.{Sending}

module _ (s : Sending) (attach : Attach) where
  -- what both ends keep, once the state allows the Attach
  abbrev moved : Option LinkState → Option LinkBase
  moved o = option_map (λ (state : LinkState). moved_to s.base attach state) o

  taken_by : (o : Option LinkState) (e : Option SenderAttachError) (plan : Plan) → attach_refusal s attach ≡ e
      → planned_by o e s attach ≡ Ok plan
      → TakesMoved (moved o) s attach (Ok (Attached (left_by plan))) (carried_out s plan)
  taken_by None e plan is plans = absurd cc
  taken_by (Some state) (Some error) plan is plans = absurd cc
  taken_by (Some state) None plan is plans =
      let same : planned s state attach ≡ plan = cc in
      subst (λ (p : Plan). TakesMoved (moved (Some state)) s attach (Ok (Attached (left_by p))) (carried_out s p)) same
      (subst (λ (e : Option SenderAttachError). TakesTested e (moved_to s.base attach state) s attach
      (Ok (Attached (left_by (planned s state attach)))) (carried_out s (planned s state attach)))
      (sym is) (inr (refl, refl)))

  refused_by : (o : Option LinkState) (e : Option SenderAttachError) (error : SenderAttachError) (base : LinkBase)
      (answer : Result (Unit {0}) NotAllowed) → attach_refusal s attach ≡ e → planned_by o e s attach ≡ Err error
      → Moves (moved o) s.base answer base
      → TakesMoved (moved o) s attach (Ok (Refused error)) (record s { base = base })
  refused_by None e error base answer is plans moves =
      let same : IllegalState ≡ error = cc in
      (ap (λ (x : SenderAttachError). Ok (Refused x)) (sym same), ap (λ (b : LinkBase). record s { base = b }) moves.1)
  refused_by (Some state) (Some x) error base answer is plans moves =
      let same : x ≡ error = cc in
      subst (λ (e : Option SenderAttachError). TakesTested e (moved_to s.base attach state) s attach
      (Ok (Refused error)) (record s { base = base })) (sym is)
      (ap (λ (x : SenderAttachError). Ok (Refused x)) (sym same), ap (λ (b : LinkBase). record s { base = b }) moves.1)
  refused_by (Some state) None error base answer is plans moves = absurd cc

  kept_by : (o : Option LinkState) (e : Option SenderAttachError) → attach_refusal s attach ≡ e
      → IsOk (planned_by o e s attach) → TakesMoved (moved o) s attach (Err alloc_error) s
  kept_by None e is plans = absurd cc
  kept_by (Some state) (Some error) is plans = absurd cc
  kept_by (Some state) None is plans =
      subst (λ (e : Option SenderAttachError). TakesTested e (moved_to s.base attach state) s attach (Err alloc_error) s)
      (sym is) (inl (refl, refl))

  -- what the state allows
  abbrev next : Option LinkState
  next = after_incoming_attach s.base.local_state attach.incomplete_unsettled

  pub taken : (plan : Plan) (left : Attaching) (new : Sending) → attach_planned s attach ≡ Ok plan
      → left ≡ left_by plan → new ≡ carried_out s plan → TakesAttach s attach (Ok (Attached left)) new
  taken plan left new plans is becomes =
      subst (λ (t : Sending). TakesAttach s attach (Ok (Attached left)) t) (sym becomes)
      (subst (λ (a : Attaching). TakesAttach s attach (Ok (Attached a)) (carried_out s plan)) (sym is)
      (taken_by next (attach_refusal s attach) plan refl plans))

  pub refused : (error : SenderAttachError) (base : LinkBase) (answer : Result (Unit {0}) NotAllowed)
      → attach_planned s attach ≡ Err error → Moves (took_attach s.base attach) s.base answer base
      → TakesAttach s attach (Ok (Refused error)) (record s { base = base })
  refused error base answer plans moves =
      refused_by next (attach_refusal s attach) error base answer refl plans moves

  pub kept : IsOk (attach_planned s attach) → TakesAttach s attach (Err alloc_error) s
  kept plans = kept_by next (attach_refusal s attach) refl plans

pub ruleset rules = (taken, refused, kept)
