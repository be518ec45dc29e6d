-- As room is made for transfers, before the peer's Attach is heard, nothing else of a session changes.
use Rattle.std.proofs.Common.{◌≡◌, ◌==◌, ◌⊎◌, inl, inr, ℕ, Bool, true, false, Option, Some, None, ap}
use Rattle.std.proofs.Common.{if◌then◌else◌, refl, subst, sym, ◌∙◌}
use Rattle.std.specs.FinMap as map
use Rattle.amqp_session_types.specs.declared.channels.IncomingChannel.{IncomingChannel}
use Rattle.amqp_session_types.specs.declared.handles.OutputHandle.{OutputHandle}
use Rattle.amqp_session_types.specs.declared.modes.Role.{Role}
use Rattle.amqp_session_performatives.specs.declared.attach.Attach.{Attach}
use Rattle.amqp_session_core.specs.State.{link_at, live_in}
use Rattle.amqp_endpoint_attached.specs.Linked.{LinksIn}
use Rattle.amqp_endpoint_link_hearing.specs.Attaching.{MakesRoom, MakesRoomIn}
use Rattle.amqp_endpoint_link_hearing.specs.Naming.{IsNamedIn, IsNamedOn, link_in, link_of, named_by}
use Rattle.amqp_endpoint_link_hearing.specs.Naming.{named_held, named_link}
use Rattle.amqp_endpoint_link_hearing.proofs.Reached.{reached-alike}
use Rattle.amqp_endpoint_linking.specs.Linking.{Link, Links, Session, Sessions, Stood, Talk}
use Rattle.amqp_endpoint_links.specs.declared.asking.NamedLink.{NamedLink}
use Rattle.amqp_endpoint_links.specs.declared.asking.NamedLink.TheVariants.{Absent, Attached, Waiting}
use Rattle.amqp_endpoint_tables.specs.LinkState.{held_at}
use Rattle.amqp_endpoint_tables.specs.State.{live_at, live_of, reached}
use Rattle.amqp_endpoint_tables.specs.Steps.{ChangesLive, Step}
use Rattle.amqp_endpoint_tables.proofs.Owning.{at, same_number}
use Rattle.amqp_endpoint_laws.specs.Handed.{leads_there}
use Rattle.amqp_endpoint_laws.specs.Held.{number_live, number_of}
use Rattle.amqp_endpoint_laws.specs.Passed.{is_it}
use Rattle.amqp_endpoint_laws.proofs.HoldingEnds.{held_link}
use Rattle.amqp_endpoint_laws.proofs.HoldingTalk.{AllRest, changed-live, held_in, leads_in}

-- none is made, or in the session that the channel reaches
abbrev pub RoomMade : Talk → IncomingChannel → Talk → Type 0
RoomMade old channel new = (new ≡ old) ⊎ MakesRoomIn old channel new

pub room-made : (named : NamedLink) (old : Talk) (channel : IncomingChannel) (new : Talk)
    → MakesRoom named old channel new → RoomMade old channel new
room-made (Waiting handle) old channel new made = made
room-made Absent old channel new same = inl same
room-made Attached old channel new same = inl same

-- a session is another by its room alone
abbrev pub HasRoom : Session → Session → Type 0
HasRoom before after =
    after.value.session ≡ record before.value.session { outgoing = after.value.session.outgoing }

-- a session changes
module _ (number : ℕ) (before after : Session) (old new : Sessions)
    (s : Step old (ChangesLive number before after) new) where
  -- what is so of both is so of each session
  pub live-alike : {X : Type 0} (f : Option Session → X) → f (Some after) ≡ f (Some before) → (n : ℕ)
      → f (live_at new n) ≡ f (live_at old n)
  live-alike f same n = by (n == number) refl
    where
      by : (b : Bool) → (n == number) ≡ b → f (live_at new n) ≡ f (live_at old n)
      by true e =
          let here : n ≡ number = same_number n number e in
          ap (λ (k : ℕ). f (live_at new k)) here ∙ ap f (changed-live number before after old new s) ∙ same
          ∙ sym (ap f s.0) ∙ sym (ap (λ (k : ℕ). f (live_at old k)) here)
      by false e =
          ap (λ (p : Option Stood). f (live_of p)) ((at n old (ChangesLive number before after) new s).other e)

module _ (old : Talk) (channel : IncomingChannel) (new : Talk) where
  pub room-reached : RoomMade old channel new → (c : ℕ) → reached new.sessions c ≡ reached old.sessions c
  room-reached (inl same) c = ap (λ (t : Talk). reached t.sessions c) same
  room-reached (inr m) c =
      reached-alike m.number m.made.before m.made.after old.sessions new.sessions m.made.stepped c

  pub room-alike : {X : Type 0} (f : Option Session → X)
      → ((before after : Session) → HasRoom before after → f (Some after) ≡ f (Some before))
      → RoomMade old channel new → (n : ℕ) → f (live_at new.sessions n) ≡ f (live_at old.sessions n)
  room-alike f alike (inl same) n = ap (λ (t : Talk). f (live_at t.sessions n)) same
  room-alike f alike (inr m) n =
      let g = m.made in
      live-alike m.number g.before g.after old.sessions new.sessions g.stepped f
      (alike g.before g.after g.done.made.reserves.1) n

  -- the links of each session stay, with their numbers, and what they hold, and so do those to which the peer's handles
  -- lead
  pub room-links : RoomMade old channel new → (n : ℕ) (handle : OutputHandle)
      → link_of new n handle ≡ link_of old n handle
  room-links made n handle =
      room-alike (λ (o : Option Session). link_in o handle) (λ a b is. ap (λ (x : LinksIn). link_at x handle.0) is)
      made n

  pub room-numbers : RoomMade old channel new → (n handle : ℕ)
      → number_live (live_at new.sessions n) handle ≡ number_live (live_at old.sessions n) handle
  room-numbers made n handle =
      room-alike (λ (o : Option Session). number_live o handle)
      (λ a b is. ap (λ (x : LinksIn). number_of (link_at x handle)) is) made n

  pub room-holds : RoomMade old channel new → (n handle : ℕ)
      → held_in (live_at new.sessions n) handle ≡ held_in (live_at old.sessions n) handle
  room-holds made n handle =
      room-alike (λ (o : Option Session). held_in o handle)
      (λ a b is. ap (λ (x : LinksIn). held_link (link_at x handle)) is) made n

  pub room-leads : RoomMade old channel new → (n input : ℕ)
      → leads_in (live_at new.sessions n) input ≡ leads_in (live_at old.sessions n) input
  room-leads made n input =
      room-alike (λ (o : Option Session). leads_in o input)
      (λ a b is. ap (λ (x : LinksIn). map.get x.routes input) is) made n

  pub room-leads-there : RoomMade old channel new → (n theirs : ℕ) (own : OutputHandle)
      → leads_there (live_at new.sessions n) theirs own ≡ leads_there (live_at old.sessions n) theirs own
  room-leads-there made n theirs own =
      room-alike (λ (o : Option Session). leads_there o theirs own)
      (λ a b is. ap (λ (x : LinksIn). is_it (live_in x.links (map.get x.routes theirs)) own.0) is) made n

  -- an Attach names the link that it named
  module _ (made : RoomMade old channel new) (links : Links) (attach : Attach) (named : NamedLink) where
    held-named : (session : ℕ) (role : Role) (held : ℕ × OutputHandle) (b : Bool)
        → (if b then named_link (link_of old session held.1) role held.1 else Absent)
        ≡ (if b then named_link (link_of new session held.1) role held.1 else Absent)
    held-named session role held true =
        ap (λ (o : Option Link). named_link o role held.1) (sym (room-links made session held.1))
    held-named session role held false = refl

    place-named : (session : ℕ) (role : Role) (o : Option (ℕ × OutputHandle))
        → named_held old session role o ≡ named_held new session role o
    place-named session role None = refl
    place-named session role (Some held) = held-named session role held (held.0 == session)

    name-named : (session : ℕ) (role : Role) (o : Option ℕ)
        → named_by old links session role o ≡ named_by new links session role o
    name-named session role None = refl
    name-named session role (Some number) = place-named session role (held_at links number)

    in-named : (o : Option ℕ) → IsNamedIn o old links attach named → IsNamedIn o new links attach named
    in-named None n = n
    in-named (Some session) n =
        record { number = n.number; names = n.names; is = n.is ∙ name-named session attach.role n.number }

    pub room-named : IsNamedOn old links channel attach named → IsNamedOn new links channel attach named
    room-named n =
        subst (λ (o : Option ℕ). IsNamedIn o new links attach named) (sym (room-reached made channel.0))
        (in-named (reached old.sessions channel.0) n)

  -- and nothing else happens in any session
  pub room-rests : RoomMade old channel new → AllRest old.sessions new.sessions
  room-rests made n =
      record {
        holds = λ h. inl (room-holds made n h);
        leads = λ input h there. sym (room-leads made n input) ∙ there;
        keeps = λ input h k held there is. room-leads made n input ∙ there;
      }
