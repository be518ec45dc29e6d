-- An Attach of the sender is taken as it was planned, or refused, or there is no memory for it: part 2, 2.6.3.
use Rattle.std.proofs.Common.{◌≡◌, inl, inr, Option, Some, None, option_map, Result, Ok, Err, alloc_error, refl, sym, ap, subst}
use Rattle.amqp_session_performatives.specs.declared.attach.Attach.{Attach}
use Rattle.amqp_link_types.specs.declared.attaching.ReceiverAttachError.{ReceiverAttachError}
use Rattle.amqp_link_types.specs.declared.attaching.ReceiverAttachError.TheVariants.{IllegalState}
use Rattle.amqp_link_base.specs.Moves.{Moves, moved_to, took_attach}
use Rattle.amqp_link_base.specs.State.{after_incoming_attach}
use Rattle.amqp_link_base.specs.declared.base.IllegalState.{IllegalState as NotAllowed}
use Rattle.amqp_link_base.specs.declared.base.LinkBase.{LinkBase}
use Rattle.amqp_link_base.specs.declared.exchange.AttachExchange.{AttachExchange}
use Rattle.amqp_link_base.specs.declared.state.LinkState.{LinkState}
use Rattle.amqp_link_receiver.specs.Attaching.{AttachTaken, MayWantMemory, Plan, TakesAttach, attach_error, attach_planned}
use Rattle.amqp_link_receiver.specs.Attaching.{carried_out, planned, planned_by}
use Rattle.amqp_link_receiver.specs.State.{ReceiverState}
use Rattle.amqp_link_receiver.specs.declared.attaching.Attached.TheVariants.{Refused, Attached}

module _ (s : ReceiverState) (attach : Attach) where
  -- what both ends keep, once the state allows the Attach
  abbrev moved : Option LinkState → Option LinkBase
  moved o = option_map (λ (state : LinkState). moved_to s.base attach state) o

  taken_by : (o : Option LinkState) (e : Option ReceiverAttachError) (plan : Plan)
      → planned_by o e s attach ≡ Ok plan
      → TakesAttach (moved o) e s attach (Ok (Attached plan.exchange)) (carried_out s plan)
  taken_by None e plan plans = absurd cc
  taken_by (Some state) (Some error) plan plans = absurd cc
  taken_by (Some state) None plan plans =
      let same : planned s state attach ≡ plan = cc in
      subst (λ (p : Plan). TakesAttach (moved (Some state)) None s attach (Ok (Attached p.exchange)) (carried_out s p))
      same (inr (refl, refl))

  refused_by : (o : Option LinkState) (e : Option ReceiverAttachError) (error : ReceiverAttachError) (base : LinkBase)
      (answer : Result (Unit {0}) NotAllowed) → planned_by o e s attach ≡ Err error
      → Moves (moved o) s.base answer base
      → TakesAttach (moved o) e s attach (Ok (Refused error)) (record s { base = base })
  refused_by None e error base answer plans moves =
      let same : IllegalState ≡ error = cc in
      (ap (λ (x : ReceiverAttachError). Ok (Refused x)) (sym same), ap (λ (b : LinkBase). record s { base = b }) moves.1)
  refused_by (Some state) (Some x) error base answer plans moves =
      let same : x ≡ error = cc in
      inr (
        ap (λ (x : ReceiverAttachError). Ok (Refused x)) (sym same),
        ap (λ (b : LinkBase). record s { base = b }) moves.1,
      )
  refused_by (Some state) None error base answer plans moves = absurd cc

  kept_by : (o : Option LinkState) (e : Option ReceiverAttachError) → MayWantMemory (planned_by o e s attach)
      → TakesAttach (moved o) e s attach (Err alloc_error) s
  kept_by None e wants = absurd wants
  kept_by (Some state) (Some error) wants = inl (wants, refl, refl)
  kept_by (Some state) None wants = inl (refl, refl)

  -- what the state allows
  abbrev next : Option LinkState
  next = after_incoming_attach s.base.local_state attach.incomplete_unsettled

  pub taken : (plan : Plan) (left : AttachExchange) (new : ReceiverState) → attach_planned s attach ≡ Ok plan
      → left ≡ plan.exchange → new ≡ carried_out s plan → AttachTaken s attach (Ok (Attached left)) new
  taken plan left new plans is becomes =
      subst (λ (t : ReceiverState). AttachTaken s attach (Ok (Attached left)) t) (sym becomes)
      (subst (λ (x : AttachExchange). AttachTaken s attach (Ok (Attached x)) (carried_out s plan)) (sym is)
      (taken_by next (attach_error s attach) plan plans))

  pub refused : (error : ReceiverAttachError) (base : LinkBase) (answer : Result (Unit {0}) NotAllowed)
      → attach_planned s attach ≡ Err error → Moves (took_attach s.base attach) s.base answer base
      → AttachTaken s attach (Ok (Refused error)) (record s { base = base })
  refused error base answer plans moves =
      refused_by next (attach_error s attach) error base answer plans moves

  pub kept : MayWantMemory (attach_planned s attach) → AttachTaken s attach (Err alloc_error) s
  kept wants = kept_by next (attach_error s attach) wants

pub ruleset rules = (taken, refused, kept)
