-- The link that waits for an Attach of the peer's, and is the one that it names.
use Rattle.std.proofs.Common.{◌≡◌, ◌==◌, ℕ, Bool, true, false, Option, Some, None, Ok}
use Rattle.std.proofs.Common.{ap, if◌then◌else◌, refl, subst, sym, true≢false, ◌∙◌}
use Rattle.amqp_session_types.specs.declared.handles.OutputHandle.{OutputHandle}
use Rattle.amqp_session_types.specs.declared.modes.Role.{Role}
use Rattle.amqp_session_types.specs.declared.modes.Role.TheVariants as role
use Rattle.amqp_session_performatives.specs.declared.attach.Attach.{Attach}
use Rattle.amqp_link_base.specs.declared.state.LinkState.{LinkState}
use Rattle.amqp_link_base.specs.declared.state.LinkState.TheVariants as state
use Rattle.amqp_link.specs.Ends.{state_of}
use Rattle.amqp_link.specs.Gives.{attaches}
use Rattle.amqp_link.specs.declared.end.End.{End}
use Rattle.amqp_link.specs.declared.end.End.TheVariants.{Receiver, Sender}
use Rattle.amqp_link.specs.declared.relay.AttachTold.{AttachTold}
use Rattle.amqp_link.specs.declared.relay.AttachTold.TheVariants as told_as
use Rattle.amqp_link_receiver.specs.State.{ReceiverState}
use Rattle.amqp_endpoint_attached.specs.Ends.{role_of}
use Rattle.amqp_endpoint_link_hearing.specs.Naming.{IsNamed, is_other, link_of, named_by, named_held, named_link}
use Rattle.amqp_endpoint_link_hearing.specs.Naming.{standing}
use Rattle.amqp_endpoint_linking.specs.Linking.{Link, Links, Talk}
use Rattle.amqp_endpoint_links.specs.declared.asking.NamedLink.{NamedLink}
use Rattle.amqp_endpoint_links.specs.declared.asking.NamedLink.TheVariants.{Absent, Waiting}
use Rattle.amqp_endpoint_tables.specs.LinkState.{Names, held_at, name_at}
use Rattle.amqp_endpoint_tables.proofs.Owning.{same_number}

-- the peer of a receiving link sends
pub peer-sends : (peer : Role) → is_other role.Receiver peer ≡ true → peer ≡ role.Sender
peer-sends role.Sender is = refl
peer-sends role.Receiver is = absurd (true≢false (sym is))

-- a link that is a receiving one behind an Attach was so before
pub still-receiver : (e : End) (attach : Attach) (told : AttachTold) (after : ReceiverState)
    → attaches e attach (Ok told) (Receiver after) → role_of e ≡ role.Receiver
still-receiver (Receiver r) attach told after a = refl
still-receiver (Sender s) attach (told_as.Sender x) after a = absurd a
still-receiver (Sender s) attach (told_as.Receiver x) after a = absurd a

module _ (talk : Talk) (links : Links) (session : ℕ) (peer : Role) (handle : OutputHandle) where
  -- the session holds the link with this number under this handle, and it is the other end of what the peer attaches
  pub record WaitsAs (number : ℕ) : Type 0 where
    pub held : held_at links number ≡ Some (session, handle)
    pub link : Link
    pub there : link_of talk session handle ≡ Some link
    pub other : is_other (role_of link.link) peer ≡ true

  standing-same : (s : LinkState) (h : OutputHandle) → standing s h ≡ Waiting handle → h ≡ handle
  standing-same state.AttachSent h is = let same : h ≡ handle = cc in same
  standing-same state.IncompleteAttachSent h is = let same : h ≡ handle = cc in same
  standing-same state.Attached h is = absurd cc
  standing-same state.IncompleteAttachExchanged h is = absurd cc
  standing-same s h is = absurd cc

  end-waits : (number : ℕ) (l : Link) (h : OutputHandle) → held_at links number ≡ Some (session, h)
      → link_of talk session h ≡ Some l → (b : Bool) → is_other (role_of l.link) peer ≡ b
      → (if b then standing (state_of l.link) h else Absent) ≡ Waiting handle → WaitsAs number
  end-waits number l h held there true other is =
      let same = standing-same (state_of l.link) h is in
      record {
        held = held ∙ ap (λ (k : OutputHandle). Some (session, k)) same;
        link = l;
        there = ap (λ (k : OutputHandle). link_of talk session k) (sym same) ∙ there;
        other = other;
      }
  end-waits number l h held there false other is = absurd cc

  link-waits : (number : ℕ) (o : Option Link) (h : OutputHandle) → held_at links number ≡ Some (session, h)
      → link_of talk session h ≡ o → named_link o peer h ≡ Waiting handle → WaitsAs number
  link-waits number None h held there is = absurd cc
  link-waits number (Some l) h held there is =
      end-waits number l h held there (is_other (role_of l.link) peer) refl is

  place-waits : (number : ℕ) (o : Option (ℕ × OutputHandle)) → held_at links number ≡ o
      → named_held talk session peer o ≡ Waiting handle → WaitsAs number
  place-waits number None held is = absurd cc
  place-waits number (Some (n, h)) held is = by (n == session) refl is
    where
      by : (b : Bool) → (n == session) ≡ b
          → (if b then named_link (link_of talk session h) peer h else Absent) ≡ Waiting handle → WaitsAs number
      by true e so =
          link-waits number (link_of talk session h) h
          (held ∙ ap (λ (k : ℕ). Some (k, h)) (same_number n session e)) refl so
      by false e so = absurd cc

  -- the one that has the name waits so
  named-waits : (o : Option ℕ) → named_by talk links session peer o ≡ Waiting handle
      → (number : ℕ) × (o ≡ Some number) × WaitsAs number
  named-waits None is = absurd cc
  named-waits (Some number) is = (number, refl, place-waits number (held_at links number) refl is)

-- a link that waits under this handle has the name that the Attach says
pub record IsNamedSo (talk : Talk) (links : Links) (session : ℕ) (attach : Attach) (handle : OutputHandle) : Type 0
  where
    pub number : ℕ
    pub named : name_at links number ≡ Some attach.name
    pub waits : WaitsAs talk links session attach.role handle number

pub named-so : (talk : Talk) (links : Links) (session : ℕ) (attach : Attach) (named : NamedLink)
    (handle : OutputHandle) → IsNamed talk links session attach named → named ≡ Waiting handle
    → IsNamedSo talk links session attach handle
named-so talk links session attach named handle n waits =
    let (number, is, so) = named-waits talk links session attach.role handle n.number (sym n.is ∙ waits) in
    record {
      number = number;
      named = subst (λ (o : Option ℕ). Names links.links attach.name o) is n.names;
      waits = so;
    }
