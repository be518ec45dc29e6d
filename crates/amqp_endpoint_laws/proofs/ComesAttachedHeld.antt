-- Which links are attached is read off what is held in sessions.
use Rattle.std.proofs.Common.{◌≡◌, ℕ, Bool, true, Option, Some, None, ap, refl, sym, ◌∙◌}
use Rattle.std.proofs.lemmas.Option.{none-some, same_Some}
use Rattle.amqp_session_types.specs.declared.handles.OutputHandle.{OutputHandle}
use Rattle.amqp_link_base.specs.State.{is_attached}
use Rattle.amqp_link.specs.declared.end.End.{End}
use Rattle.amqp_link.specs.declared.end.End.TheVariants.{Receiver, Sender}
use Rattle.amqp_link_receiver.specs.State.{ReceiverState}
use Rattle.amqp_link_receiver.specs.Deliveries.{Delivery}
use Rattle.amqp_endpoint_attached.specs.Receiving.{receiving}
use Rattle.amqp_endpoint_link_hearing.specs.Naming.{link_in}
use Rattle.amqp_endpoint.specs.declared.linked.LinkedSessions.{LinkedSessions}
use Rattle.amqp_endpoint_linking.specs.Linking.{Link}
use Rattle.amqp_endpoint_tables.specs.State.{live_at}
use Rattle.amqp_endpoint_laws.specs.Handed.{IsReceiving}
use Rattle.amqp_endpoint_laws.proofs.HandedOut.{as-receiving, is-receiving, receives-holds, receives-so}
use Rattle.amqp_endpoint_laws.proofs.HoldingEnds.{Part, Stays, held_end, held_if, held_link, so-attached}
use Rattle.amqp_endpoint_laws.proofs.HoldingEnds.{stands_so}
use Rattle.amqp_endpoint_laws.proofs.HoldingInside.{was-so}
use Rattle.amqp_endpoint_laws.proofs.HoldingTalk.{held-of, held_in}

-- an end with this number is that of the receiving link, which is attached and holds this
pub record IsHeld (number : ℕ) (e : End) (link : ℕ) (held : Option Delivery) : Type 0 where
  pub receiver : ReceiverState
  pub is : e ≡ Receiver receiver
  pub attached : is_attached receiver.base.local_state ≡ true
  pub numbered : number ≡ link
  pub holds : receiver.end.held ≡ held

held-parts : (number : ℕ) (o : Option Bool) (h : Option Delivery) (link : ℕ) (held : Option Delivery)
    → held_if o number h ≡ Some (link, (true, held)) → (o ≡ Some true) × (number ≡ link) × (h ≡ held)
held-parts number None h link held is = absurd (none-some _ is)
held-parts number (Some attached) h link held is =
    let same = same_Some (number, (attached, h)) (link, (true, held)) is in (
      ap (λ (x : ℕ × Part). Some x.1.0) same,
      ap (λ (x : ℕ × Part). x.0) same,
      ap (λ (x : ℕ × Part). x.1.1) same,
    )

-- where an end holds something as one that is attached, it is such
pub end-held : (number : ℕ) (e : End) (link : ℕ) (held : Option Delivery)
    → held_end number e ≡ Some (link, (true, held)) → IsHeld number e link held
end-held number (Sender s) link held is = absurd (none-some _ is)
end-held number (Receiver r) link held is =
    let (stands, numbered, holds) = held-parts number (stands_so r.base.local_state) r.end.held link held is in
    record {
      receiver = r;
      is = refl;
      attached = so-attached r.base.local_state stands;
      numbered = numbered;
      holds = holds;
    }

-- so the link receives
pub holding-receives : (s : LinkedSessions) (link session : ℕ) (own : OutputHandle) (held : Option Delivery)
    → held_in (live_at s.talk.sessions session) own.0 ≡ Some (link, (true, held)) → IsReceiving s link session own held
holding-receives s link session own held is =
    by (link_in (live_at s.talk.sessions session) own) refl (sym (held-of (live_at s.talk.sessions session) own) ∙ is)
  where
    by : (l : Option Link) → link_in (live_at s.talk.sessions session) own ≡ l → held_link l ≡ Some (link, (true, held))
        → IsReceiving s link session own held
    by None there so = absurd (none-some _ so)
    by (Some l) there so =
        let it = end-held l.number l.link link held so in
        is-receiving s link session own held
        (record {
          end = it.receiver;
          there =
              there ∙ as-receiving l it.receiver it.is
              ∙ ap (λ (k : ℕ). Some (receiving k it.receiver)) it.numbered;
          attached = it.attached;
          holds = it.holds;
        })

-- what a link that receives is held as
pub receiving-holds : (s : LinkedSessions) (link session : ℕ) (own : OutputHandle) (held : Option Delivery)
    → IsReceiving s link session own held → held_in (live_at s.talk.sessions session) own.0 ≡ Some (link, (true, held))
receiving-holds s link session own held r =
    receives-holds s link session own held (receives-so s link session own held r)

-- where what is held stays, a link that receives did so before
pub received-before : (old new : LinkedSessions) (link session : ℕ) (own : OutputHandle) (held : Option Delivery)
    → Stays (held_in (live_at old.talk.sessions session) own.0) (held_in (live_at new.talk.sessions session) own.0)
    → IsReceiving new link session own held → IsReceiving old link session own held
received-before old new link session own held stays r =
    holding-receives old link session own held
    (was-so (held_in (live_at old.talk.sessions session) own.0)
    (held_in (live_at new.talk.sessions session) own.0) (link, (true, held)) stays
    (receiving-holds new link session own held r))
