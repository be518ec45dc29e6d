-- What a Transfer that ends the connection leaves of the links of its session.
use Rattle.std.proofs.Common.{◌≡◌, inl, inr, ℕ, zero, suc, List, [], ◌∷◌, Option, Some, None, Ok, Err}
use Rattle.std.proofs.Common.{refl, sym, ap, subst, ◌∙◌, slice_set, false}
use Rattle.std.specs.Prelude.{◌≢◌, slice_index_or}
use Rattle.std.proofs.lemmas.List.{set-get_or}
use Rattle.std.proofs.lemmas.Option.{none-some, same_Some}
use Rattle.std.specs.Global.{Box}
use Rattle.amqp_session_types.specs.declared.channels.IncomingChannel.{IncomingChannel}
use Rattle.amqp_session_types.specs.declared.refusals.SessionError.{SessionError}
use Rattle.amqp_session_types.specs.declared.refusals.SessionError.TheVariants.{Memory as NoMemory}
use Rattle.amqp_session_performatives.specs.declared.session_frame.SessionFrame.{SessionFrame}
use Rattle.amqp_session_performatives.specs.declared.transfer.Transfer.{Transfer}
use Rattle.amqp_session_core.specs.State.{State, link_at, links_in, reached}
use Rattle.amqp_session_core.specs.Told.{TransferAt}
use Rattle.amqp_session_core.specs.declared.incoming.TransferTaken.{TransferTaken}
use Rattle.amqp_session_core.specs.declared.relay.RelayError.{RelayError}
use Rattle.amqp_session_core.specs.declared.relay.RelayError.TheVariants as relay
use Rattle.amqp_link.specs.Ends.{state_of}
use Rattle.amqp_link.specs.Gives.{transfers_at}
use Rattle.amqp_link.specs.Standing.{standing_of}
use Rattle.amqp_link.specs.declared.end.End.{End}
use Rattle.amqp_link.specs.declared.end.End.TheVariants.{Receiver, Sender}
use Rattle.amqp_link.specs.declared.standing.Standing.{Standing}
use Rattle.amqp_link.specs.declared.standing.Standing.TheVariants.{Attached, Detaching, Apart}
use Rattle.amqp_link_receiver.specs.declared.answer.Told.{Told}
use Rattle.amqp_endpoint_links.specs.declared.hearing.LinkPerformative.TheVariants as said
use Rattle.amqp_endpoint_links.specs.declared.hearing.PerformativeTaken.TheVariants as taken
use Rattle.amqp_endpoint_links.specs.declared.session.AskedSession.{AskedSession}
use Rattle.amqp_endpoint_tables.specs.declared.place.PeerEnd.TheVariants.{Missing}
use Rattle.amqp_endpoint_tables.specs.declared.place.Place.TheVariants.{Over}
use Rattle.amqp_endpoint_tables.specs.State.{asked_at, live_at}
use Rattle.amqp_endpoint_tables.specs.State as sessions
use Rattle.amqp_endpoint_tables.specs.Steps.{ChangesLive, Step}
use Rattle.amqp_endpoint_conversation.specs.declared.hearing.HearRefusal.TheVariants as refused
use Rattle.amqp_endpoint_conversation.specs.declared.hearing.Heard.TheVariants.{Live}
use Rattle.amqp_endpoint_conversation.specs.Hearing.{AnsweredAt, AnsweredIn}
use Rattle.amqp_endpoint_model.specs.declared.error.EndpointError.{EndpointError}
use Rattle.amqp_endpoint_attached.specs.Linked.{gives}
use Rattle.amqp_endpoint_linking.specs.Linking.{Link, Session, Sessions, Talk, links_of}
use Rattle.amqp_endpoint_link_hearing.proofs.Heard.{IsTaken, taken-in}
use Rattle.amqp_endpoint_link_hearing.specs.Naming.{link_in}
use Rattle.amqp_endpoint_link_hearing.specs.Saying.{Answers, EndsBy, LinkHeard, LinkRefusal}
use Rattle.amqp_endpoint_link_hearing.specs.Transferring.{IsPutBack, IsUnclosed, RefusesTransfer, transfer_of}
use Rattle.amqp_endpoint_laws.proofs.BrokenAlike.{all_kept, given, given-at, kept-live, put, put-same, put-twice}

abbrev pub Alike : Talk → Talk → Type 0
Alike old new = all_kept new.sessions.places ≡ all_kept old.sessions.places

same-alike : (old new : Talk) → new ≡ old → Alike old new
same-alike old new same = ap (λ (t : Talk). all_kept t.sessions.places) same

-- a session that goes on with these links
behind-live : (number : ℕ) (before after : Session) (old new : Talk)
    → Step old.sessions (ChangesLive number before after) new.sessions
    → all_kept new.sessions.places ≡ put (all_kept old.sessions.places) number (links_of after)
behind-live number before after old new (live, is) =
    ap (λ (s : Sessions). all_kept s.places) is
    ∙ kept-live old.sessions.places number before after (Over Missing false) live

before-live : (number : ℕ) (before : Session) (old : Talk) → live_at old.sessions number ≡ Some before
    → put (all_kept old.sessions.places) number (links_of before) ≡ all_kept old.sessions.places
before-live number before old live =
    ap (λ (links : List Link). put (all_kept old.sessions.places) number links)
    (sym (ap given live) ∙ given-at old.sessions.places number)
    ∙ put-same (all_kept old.sessions.places) number

live-alike : (number : ℕ) (before after : Session) (old new : Talk)
    → Step old.sessions (ChangesLive number before after) new.sessions
    → after.value.session.links ≡ before.value.session.links → Alike old new
live-alike number before after old new stepped same =
    behind-live number before after old new stepped
    ∙ ap (λ (links : List (Option Link)). put (all_kept old.sessions.places) number (links_in links)) same
    ∙ before-live number before old stepped.0

-- a link stands as it stood
set-same : (links : List (Option Link)) (handle : ℕ) (link : Link) → slice_index_or links handle None ≡ Some link
    → slice_set links handle (Some link) ≡ links
set-same links handle link is =
    ap (λ (o : Option Link). slice_set links handle o) (sym is) ∙ set-get_or links handle None

set-twice : (links : List (Option Link)) (handle : ℕ) (first second : Option Link)
    → slice_set (slice_set links handle first) handle second ≡ slice_set links handle second
set-twice [] handle first second = refl
set-twice (link ∷ links) zero first second = refl
set-twice (link ∷ links) (suc handle) first second =
    ap (λ (rest : List (Option Link)). link ∷ rest) (set-twice links handle first second)

module _ (it : Transfer) (payload : List ℕ) where
  -- a link that refuses it for the session stays
  end-refuses : (standing : Standing) (reason : RelayError) (before after : End) → reason ≢ relay.Memory
      → transfers_at standing before it payload (Err reason) after → after ≡ before
  end-refuses Attached relay.Memory (Receiver r) (Receiver after) other t = absurd (other refl)
  end-refuses Attached reason (Receiver r) after other t = absurd t
  end-refuses Attached reason (Sender s) after other t = t.1
  end-refuses Detaching reason before after other t = let clash = t.0 in absurd cc
  end-refuses Apart reason before after other t = t.1

  link-refuses : (reason : RelayError) (before after : Link) → reason ≢ relay.Memory
      → gives.transfers before it payload (Err reason) after → after ≡ before
  link-refuses reason before after other t =
      ap (λ (e : End). record after { link = e })
      (end-refuses (standing_of (state_of before.link)) reason before.link after.link other t.0)
      ∙ ap (λ (n : ℕ). record before { number = n }) t.1

  session-refuses : (reaches : Option ℕ) (old new : State Link) (fault : SessionError) → fault ≢ NoMemory
      → TransferAt gives old it payload reaches (Err fault) new → new.links ≡ old.links
  session-refuses None old new fault other t = ap (λ (s : State Link). s.links) t.1
  session-refuses (Some handle) old new NoMemory other t = absurd (other refl)
  session-refuses (Some handle) old new fault other t =
      let steps = (t.stepped).1 in
      steps.others
      ∙ ap (λ (l : Link). slice_set old.links handle (Some l))
      (link-refuses t.reason steps.before steps.after t.other steps.stepped)
      ∙ set-same old.links handle steps.before steps.had

  -- one that takes it alone changes
  session-takes : (reaches : Option ℕ) (old new : State Link) (told : TransferTaken Told)
      → TransferAt gives old it payload reaches (Ok told) new
      → (handle : ℕ) × (after : Link) × (reaches ≡ Some handle)
      × (new.links ≡ slice_set old.links handle (Some after))
  session-takes None old new told t = absurd t
  session-takes (Some handle) old new told t =
      let steps = (t.stepped).1 in (handle, steps.after, refl, steps.others)

  module _ (old : Talk) (channel : IncomingChannel) where
    -- what is refused so that the connection ends leaves each session's links
    at-alike : (asked : Option (Box AskedSession)) (live : Option Session) (number : ℕ) (refusal : LinkRefusal)
        (frames : List SessionFrame) (new : Talk) (e : EndpointError) → EndsBy refusal e
        → AnsweredAt gives asked live old [] number (said.Transfer it payload) (Err refusal) new frames → Alike old new
    at-alike (Some asked) live number refused.Memory frames new e by a = same-alike old new (a.0).1
    at-alike (Some asked) live number (refused.Asked n fault) frames new e by a = same-alike old new (a.0).2.1
    at-alike (Some asked) live number refused.NotFound frames new e by a = absurd a.0
    at-alike (Some asked) live number (refused.Session n fault session) frames new e by a = absurd by
    at-alike None (Some before) number refused.Memory frames new e by (inl s) = same-alike old new s.1
    at-alike None (Some before) number refused.Memory frames new e by (inr g) =
        let hears = (g.refuses).hears in
        live-alike number before g.after old new hears.stepped
        (session-refuses (reached before.value.session it.handle.0) before.value.session (g.after).value.session
        g.fault (g.refuses).is_fault ((hears.heard).0).0)
    at-alike None (Some before) number (refused.Asked n fault) frames new e by a = absurd a
    at-alike None (Some before) number refused.NotFound frames new e by a = absurd a
    at-alike None (Some before) number (refused.Session n fault session) frames new e by a = absurd by
    at-alike None None number refusal frames new e by a = same-alike old new a.1

    in-alike : (number : Option ℕ) (refusal : LinkRefusal) (frames : List SessionFrame) (new : Talk)
        (e : EndpointError) → EndsBy refusal e
        → AnsweredIn gives number old [] (said.Transfer it payload) (Err refusal) new frames → Alike old new
    in-alike None refusal frames new e by a = same-alike old new a.1
    in-alike (Some number) refusal frames new e by a =
        at-alike (asked_at old.sessions number) (live_at old.sessions number) number refusal frames new e by a

    -- a link that refused it stands as before
    module _ (session : ℕ) (told : TransferTaken Told) (mid new : Talk)
        (k : IsTaken old channel [] (said.Transfer it payload) session (taken.Transfer told) mid [])
        (p : IsPutBack old it session mid new) where
      abbrev was : Session
      was = k.before

      abbrev took : Session
      took = (k.takes).after

      abbrev again : Session
      again = (p.back).after

      same-stood : p.stood ≡ was
      same-stood = same_Some _ _ (sym p.live ∙ k.live)

      was-there : link_at was.value.session (p.handle).0 ≡ Some p.link
      was-there = sym (ap (λ (o : Option Session). link_in o p.handle) k.live) ∙ p.was

      links-again : again.value.session.links ≡ was.value.session.links
      links-again =
          let hears = (k.takes).hears in
          let (handle, after, reaches, stepped) =
          session-takes (reached was.value.session it.handle.0) was.value.session took.value.session told
          (((hears.heard).0).0) in
          let here : handle ≡ (p.handle).0 =
          same_Some _ _
          (sym reaches ∙ sym (ap (λ (s : Session). reached s.value.session it.handle.0) same-stood) ∙ p.reaches) in
          let g = p.back in
          let same : g.before ≡ took = same_Some _ _ (sym (g.stepped).0 ∙ k.stands) in
          ap (λ (s : State Link). s.links) ((g.done).changed).1
          ∙ ap (λ (s : Session). slice_set s.value.session.links (p.handle).0 (Some p.link)) same
          ∙ ap (λ (links : List (Option Link)). slice_set links (p.handle).0 (Some p.link)) stepped
          ∙ ap (λ (h : ℕ). slice_set (slice_set was.value.session.links h (Some after)) (p.handle).0 (Some p.link)) here
          ∙ set-twice was.value.session.links (p.handle).0 (Some after) (Some p.link)
          ∙ set-same was.value.session.links (p.handle).0 p.link was-there

      back-alike : Alike old new
      back-alike =
          let all = all_kept old.sessions.places in
          behind-live session (p.back).before again mid new (p.back).stepped
          ∙ ap (λ (kept : List (List Link)). put kept session (links_of again))
          (behind-live session was took old mid ((k.takes).hears).stepped)
          ∙ put-twice all session (links_of took) (links_of again)
          ∙ ap (λ (links : List (Option Link)). put all session (links_in links)) links-again
          ∙ before-live session was old k.live

    heard-alike : (heard : LinkHeard) (session : ℕ) (told : TransferTaken Told) (mid new : Talk)
        → transfer_of heard ≡ Some (session, told)
        → Answers old channel (said.Transfer it payload) (Ok heard) [] mid → IsPutBack old it session mid new
        → Alike old new
    heard-alike (Live n (taken.Transfer it_told)) session told mid new is answered p =
        let same : n ≡ session = ap (λ (of : ℕ × TransferTaken Told). of.0) (same_Some _ _ is) in
        back-alike n it_told mid new
        (taken-in old channel [] (said.Transfer it payload) n (taken.Transfer it_told) mid [] answered)
        (subst (λ (m : ℕ). IsPutBack old it m mid new) (sym same) p)
    heard-alike heard session told mid new is answered p = absurd (none-some (session, told) is)

    unclosed-alike : (e : EndpointError) (new : Talk) → IsUnclosed old channel it payload e new → Alike old new
    unclosed-alike e new u = heard-alike u.heard u.session u.took u.mid new u.by_link u.answered u.back

    pub transfer-alike : (given : ℕ) (e : EndpointError) (new : Talk)
        → RefusesTransfer old given channel it payload e new → Alike old new
    transfer-alike given e new (inl u) = same-alike old new u.stays
    transfer-alike given e new (inr (inl (inl b))) =
        in-alike (sessions.reached old.sessions channel.0) b.refusal b.frames new e b.is b.answered
    transfer-alike given e new (inr (inl (inr u))) = same-alike old new u.1
    transfer-alike given e new (inr (inr u)) = unclosed-alike e new u
