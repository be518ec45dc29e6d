-- No link attaches by what an endpoint's sessions do, but by the call that has it attach.
use Rattle.std.proofs.Common.{◌≡◌, ℕ, Bool, true, false, List, [], ◌∷◌, ◌++◌, Option, Some, None, Ok, Err, ap, refl}
use Rattle.std.proofs.Common.{sym, subst, ◌∙◌}
use Rattle.std.specs.Prelude.{Result, map, ⊤}
use Rattle.amqp_session_types.specs.declared.handles.OutputHandle.{OutputHandle}
use Rattle.amqp_session_types.specs.declared.refusals.SessionError.{SessionError}
use Rattle.amqp_session_types.specs.declared.refusals.SessionError.TheVariants.{Memory}
use Rattle.amqp_session_performatives.specs.declared.attach.Attach.{Attach}
use Rattle.amqp_session_performatives.specs.declared.flow.Flow.{Flow}
use Rattle.amqp_session_performatives.specs.declared.session_frame.SessionFrame.{SessionFrame}
use Rattle.amqp_session_performatives.specs.declared.session_frame.SessionFrameBody.{SessionFrameBody}
use Rattle.amqp_session_performatives.specs.declared.session_frame.SessionFrameBody.TheVariants as session
use Rattle.amqp_session_core.specs.State.{State, leads}
use Rattle.amqp_session_core.specs.Steps.{NoReply, OfLink, OfSession, Reply, reply_frames}
use Rattle.amqp_session_core.specs.Told.{FlowTaken}
use Rattle.amqp_session_core.specs.declared.fields.SessionFields.{SessionFields}
use Rattle.amqp_session_frames.specs.declared.frame.Frame.{Frame}
use Rattle.amqp_link_base.specs.declared.detached.Detached.{Detached}
use Rattle.amqp_link.specs.declared.end.End.{End}
use Rattle.amqp_link.specs.declared.relay.AttachTold.{AttachTold}
use Rattle.amqp_link_receiver.specs.declared.answer.Told.{Told}
use Rattle.amqp_endpoint_links.specs.Asked.{is_asked}
use Rattle.amqp_endpoint_attached.specs.Linked.{Linked, gives}
use Rattle.amqp_endpoint_attached.specs.Links.{own_attach, receiver_by, sender_by}
use Rattle.amqp_endpoint_conversation.specs.Ending.{EndReply, end_frame}
use Rattle.amqp_endpoint_conversation.specs.Faults.{fault_error}
use Rattle.amqp_endpoint_laws.specs.Deeds.{Deed, Does, IsDeed, Takes}
use Rattle.amqp_endpoint_link_calls.specs.Naming.{name_of}
use Rattle.amqp_endpoint_tables.specs.LinkState.{rest_at}
use Rattle.amqp_endpoint_laws.proofs.Placing.{IsPlaced, is-again, is-new, own-handle, own-name}
use Rattle.amqp_endpoint.specs.Does.{linked}
use Rattle.amqp_endpoint.specs.declared.linked.LinkedSessions.{LinkedSessions}
use Rattle.amqp_endpoint_linking.specs.Linking.{Link, Session, Stood, Talk}
use Rattle.amqp_endpoint_links.proofs.Standing.{accepted-stands, begun-stands}
use Rattle.amqp_endpoint_links.specs.Asking.{FlowAt, FlowInSession}
use Rattle.amqp_endpoint_links.specs.Hearing.{Hears}
use Rattle.amqp_endpoint_links.specs.declared.hearing.LinkPerformative.{LinkPerformative}
use Rattle.amqp_endpoint_links.specs.declared.hearing.LinkPerformative.TheVariants as said
use Rattle.amqp_endpoint_links.specs.declared.hearing.PerformativeTaken.{PerformativeTaken}
use Rattle.amqp_endpoint_links.specs.declared.hearing.PerformativeTaken.TheVariants as taken
use Rattle.amqp_endpoint_model.specs.Said.{Said, attaching}
use Rattle.amqp_endpoint_model.specs.declared.call.Call.{Call}
use Rattle.amqp_endpoint_model.specs.declared.call.Call.TheVariants as call
use Rattle.amqp_endpoint_model.specs.declared.event.Event.{Event}
use Rattle.amqp_endpoint_laws.specs.Following.{goes}
use Rattle.amqp_endpoint_laws.specs.Reading.{Comes, Goes, Wired}
use Rattle.amqp_endpoint_tables.specs.declared.place.Place.TheVariants.{Asked, Live, Ending, Over}
use Rattle.amqp_endpoint_conversation.specs.Inside.{AreOn, IsPlain}
use Rattle.amqp_endpoint_conversation.proofs.Inside.{at-once-on, both-on, left-on}
use Rattle.amqp_endpoint_laws.specs.Attachments.{attach_in, attached_in, attaches_in, gone_in, named_by, named_if}
use Rattle.amqp_endpoint_laws.specs.Attachments.{names_in}
use Rattle.amqp_endpoint_laws.specs.Queued.{AttachesFirst}
use Rattle.amqp_endpoint_laws.proofs.AttachedBehind.{attaches-inside}
use Rattle.amqp_endpoint_laws.proofs.PassedCalled.{IsAttaching, called}
use Rattle.amqp_endpoint_laws.proofs.PassedHeard.{behind-others, frame-heard}
use Rattle.amqp_endpoint_laws.proofs.PassedWalk.{Walk}

-- none of the frames that go is an Attach
abbrev NoneAttach : List Wired → Type 0
NoneAttach [] = Unit {0}
NoneAttach (Comes frame ∷ ws) = NoneAttach ws
NoneAttach (Goes frame ∷ ws) = (attach_in frame.body ≡ []) × NoneAttach ws

both-none : (ws more : List Wired) → NoneAttach ws → NoneAttach more → NoneAttach (ws ++ more)
both-none [] more none later = later
both-none (Comes frame ∷ ws) more none later = both-none ws more none later
both-none (Goes frame ∷ ws) more (one, none) later = (one, both-none ws more none later)

none-in : (frames : List SessionFrame) → NoneAttach (goes frames) → attaches_in frames ≡ []
none-in [] none = refl
none-in (frame ∷ frames) (one, none) = ap (λ (xs : List Attach). xs ++ attaches_in frames) one ∙ none-in frames none

plain-none : (it : SessionFrameBody) → IsPlain it → attach_in it ≡ []
plain-none (session.Begin begin) plain = refl
plain-none (session.Attach attach) plain = absurd plain
plain-none (session.Flow flow) plain = refl
plain-none (session.Transfer transfer payload) plain = refl
plain-none (session.Disposition disposition) plain = refl
plain-none (session.Detach detach) plain = refl
plain-none (session.End end) plain = refl

on-none : (channel : ℕ) (frames : List SessionFrame) → AreOn channel frames → NoneAttach (goes frames)
on-none channel [] are = tt
on-none channel (frame ∷ frames) (on, plain, are) = (plain-none frame.body plain, on-none channel frames are)

same-none : (frames others : List SessionFrame) → frames ≡ others → NoneAttach (goes others)
    → NoneAttach (goes frames)
same-none frames others is none = subst (λ (fs : List SessionFrame). NoneAttach (goes fs)) (sym is) none

-- as a session takes a Flow
reply-on : (f : SessionFields) (number : ℕ) (reply : Reply) → AreOn f.channel.0 (reply_frames f number reply)
reply-on f number NoReply = tt
reply-on f number OfSession = (refl, tt, tt)
reply-on f number (OfLink handle flow None) = tt
reply-on f number (OfLink handle flow (Some it)) = at-once-on f number (Some it)

flow-none : (flow : Flow) (frames : List SessionFrame) (answer : Result ⊤ SessionError) (old new : State Link)
    → FlowTaken gives old [] flow answer new frames → NoneAttach (goes frames)
flow-none flow frames answer old new f =
    same-none frames _ (f.added ∙ (f.stepped).frames_are)
    (on-none _ _ (both-on _ _ _ (reply-on new.fields _ f.reply) (left-on new.fields f.left)))

flow-in : (attached : Bool) (flow : Flow) (frames : List SessionFrame) (answer : Result ⊤ SessionError)
    (old new : State Link) → FlowInSession gives attached old [] flow answer new frames → NoneAttach (goes frames)
flow-in false flow frames answer old new f = same-none frames [] f.same tt
flow-in true flow frames (Err Memory) old new f = same-none frames [] f.1 tt
flow-in true flow frames (Ok ok) old new f = flow-none flow frames _ old new f
flow-in true flow frames (Err e) old new f = flow-none flow frames _ old new f

flow-at : (asked : Bool) (flow : Flow) (frames : List SessionFrame) (answer : Result ⊤ SessionError)
    (old new : Linked) → FlowAt gives asked old [] flow answer new frames → NoneAttach (goes frames)
flow-at false flow frames answer old new f =
    flow-in (leads old.session flow.handle) flow frames answer old.session new.session f.0
flow-at true flow frames (Ok ok) old new f = flow-none _ frames _ old.session new.session f.0
flow-at true flow frames (Err e) old new f = same-none frames [] f.2 tt

-- as it hears its peer
hears-none : (it : LinkPerformative) (told : Result (PerformativeTaken AttachTold Told Detached) SessionError)
    (frames : List SessionFrame) (old new : Linked) → Hears gives old [] it told new frames
    → NoneAttach (goes frames)
hears-none (said.Attach attach named) told frames old new h = same-none frames [] h.1 tt
hears-none (said.Transfer transfer payload) told frames old new h = same-none frames [] h.1 tt
hears-none (said.Disposition disposition) told frames old new h = same-none frames [] h.1 tt
hears-none (said.Detach detach) told frames old new h = same-none frames [] h.1 tt
hears-none (said.Flow flow) (Ok taken.Flow) frames old new h =
    flow-at (is_asked old.asked flow.handle) flow frames (Ok tt) old new h
hears-none (said.Flow flow) (Ok (taken.Attach it)) frames old new h = absurd h
hears-none (said.Flow flow) (Ok (taken.Transfer it)) frames old new h = absurd h
hears-none (said.Flow flow) (Ok (taken.Disposition back runs)) frames old new h = absurd h
hears-none (said.Flow flow) (Ok (taken.Detach it)) frames old new h = absurd h
hears-none (said.Flow flow) (Err e) frames old new h =
    flow-at (is_asked old.asked flow.handle) flow frames (Err e) old new h

-- the answer to the peer's End
end-none : (stood : Stood) (ended : Option Session) (frames : List SessionFrame) → EndReply stood ended [] frames
    → NoneAttach (goes frames)
end-none (Live channel s) ended frames (is, sent) = same-none frames _ sent (refl, tt)
end-none (Asked channel a) ended frames (is, none) = same-none frames [] none tt
end-none (Ending channel own_end) ended frames (is, none) = same-none frames [] none tt
end-none (Over peer_end complete) ended frames (is, none) = same-none frames [] none tt

abbrev NoneIn : ℕ → List Wired → Talk → Talk → Type 0
NoneIn m ws old new = NoneAttach ws

abbrev NoneAt : Option ℕ → List Wired → Talk → Talk → Type 0
NoneAt o ws old new = NoneAttach ws

attaching-none : Walk (λ accepted. Unit {0}) NoneIn NoneAt
attaching-none =
    record {
      quiet = λ accepted up. tt;
      none = λ m old new same. tt;
      on = λ m ws more old mid new p q. both-none ws more p q;
      at = λ m ws old new p. p;
      silent = λ o m old new p. p;
      free = λ m frames s talk live said on. on-none _ frames on;
      inside = λ m accepted frames before after old new allowed stepped rest d keeps. on-none _ frames d.on;
      hears = λ m channel it told frames before after old new reaches h rest.
          hears-none it (Ok told) frames before.value after.value h.heard;
      fails = λ m channel it fault frames before s old new reaches f.
          let end : SessionFrame = end_frame f.ends.channel (Some (fault_error fault)) in
          same-none frames _ f.ends.queued
          (subst NoneAttach (sym (behind-others f.out_mid (end ∷ [])))
          (both-none (goes f.out_mid) (goes (end ∷ []))
          (hears-none it (Err fault) f.out_mid before.value s.value f.refuses.hears.heard) (refl, tt)));
      asked = λ m channel it before old new reaches t. tt;
      unheard = λ m channel it talk reaches asked live. tt;
      asks = λ channel begin number old new a. tt;
      begun = λ channel begin number frames old new b.
          let t = b.takes in
          let took = (t.taken).0 in
          same-none frames _ (took.added ∙ (took.stepped).3)
          (on-none _ _ (left-on t.after.value.session.fields took.left));
      dropped = λ channel begin old new d. tt;
      barred = λ channel begin number error s frames old mid new b e. same-none frames _ e.queued (refl, tt);
      ended = λ channel end h frames old new e. end-none e.stood h.ended frames e.reply;
      begins = λ number frames old new b.
          same-none frames _
          (b.queued
          ∙ ap (λ (f : SessionFrame). f ∷ [])
          (begun-stands gives b.channel old.first_transfer_number old.incoming_window b.frame b.session.value
          b.begun).1)
          (refl, tt);
      accepts = λ channel number frames old new a.
          same-none frames _
          (a.queued
          ∙ ap (λ (f : SessionFrame). f ∷ [])
          (accepted-stands gives a.wanted.value a.outgoing channel old.first_transfer_number old.incoming_window
          a.frame a.session.value a.accepted).1)
          (refl, tt);
      ends = λ number error s out out_new old new e. (refl, tt);
      told = λ number result old new t rest. tt;
    }

-- of a call that has a link attach the Attach goes first, and behind it goes none
pub record AttachesOnce (link : End) (handle : OutputHandle) (frames : List SessionFrame) : Type 0 where
  pub channel : ℕ
  pub attach : Attach
  pub later : List SessionFrame
  pub are : frames ≡ record { channel = channel; body = session.Attach attach } ∷ later
  pub handled : attach.handle.0 ≡ (own_attach link handle).handle.0
  pub named : attach.name ≡ (own_attach link handle).name
  pub sided : attach.role ≡ (own_attach link handle).role
  pub none : attaches_in later ≡ []

module _ (old new : LinkedSessions) (limit number : ℕ) (it : End) (link : ℕ) (events : List Event)
    (frames : List SessionFrame)
    (a : IsPlaced old.talk old.links limit number it link events frames new.talk new.links) where
  pub attaches-once : AttachesOnce it a.placed.handle frames
  attaches-once =
      let l = a.attaches in
      let i = l.attaches in
      let s = attaches-inside old.talk new.talk limit number it a.placed l.frames i in
      record {
        channel = i.before.value.session.fields.channel.0;
        attach = s.attach;
        later = s.later;
        are = l.queued ∙ s.are;
        handled = ap (λ (x : Attach). x.handle.0) s.announces.is;
        named = ap (λ (x : Attach). x.name) s.announces.is;
        sided = ap (λ (x : Attach). x.role) s.announces.is;
        none = none-in s.later (on-none _ s.later s.inside.on);
      }

  pub attaches-alone : (name : List ℕ) → (own_attach it a.placed.handle).name ≡ name → names_in frames ≡ name ∷ []
  attaches-alone name is =
      let once = attaches-once in
      ap names_in once.are
      ∙ ap (λ (xs : List Attach). once.attach.name ∷ map (λ (x : Attach). x.name) xs) once.none
      ∙ ap (λ (n : List ℕ). n ∷ []) (once.named ∙ is)

pub call-none : (it : Call) (answer : Said) (old new : LinkedSessions) (limit : ℕ) (frames : List SessionFrame)
    → (IsAttaching it → ⊥) → IsDeed linked old (Does limit it answer frames) new → attaches_in frames ≡ []
call-none it answer old new limit frames other d =
    none-in frames
    (called NoneIn NoneAt attaching-none it answer old new limit frames (λ sends accepted. tt)
    (λ attaches. absurd (other attaches)) d.0)

pub take-none : (limit : ℕ) (frame : Frame) (frames : List SessionFrame) (events : List Event)
    (old new : LinkedSessions) → IsDeed linked old (Takes limit frame frames events) new → attaches_in frames ≡ []
take-none limit frame frames events old new h =
    none-in frames
    (frame-heard NoneIn NoneAt attaching-none frame.body old new limit (record { 0 = frame.channel }) frames events
    (λ flows accepted. tt) h.0)

-- the names of the links that attach
none-named : (frames : List SessionFrame) → attaches_in frames ≡ [] → names_in frames ≡ []
none-named frames none = ap (λ (xs : List Attach). map (λ (x : Attach). x.name) xs) none

-- the name of one that was at rest
named-so : (o : Option End) (it : End) → o ≡ Some it → name_of it ∷ [] ≡ named_if o
named-so o it is = ap named_if (sym is)

call-names : (it : Call) (answer : Said) (old new : LinkedSessions) (limit : ℕ) (frames : List SessionFrame)
    → IsDeed linked old (Does limit it answer frames) new → names_in frames ≡ named_by old.links it
call-names (call.AttachSender n its) (attaching link events) old new limit frames d =
    attaches-alone old new limit n (sender_by its) link events frames
    (is-new old.talk new.talk old.links new.links limit n (sender_by its) link events frames d.0) its.name refl
call-names (call.AttachReceiver n its) (attaching link events) old new limit frames d =
    attaches-alone old new limit n (receiver_by its) link events frames
    (is-new old.talk new.talk old.links new.links limit n (receiver_by its) link events frames d.0) its.name refl
call-names (call.Resume link n) (attaching number events) old new limit frames d =
    let it = d.0.resumes.link in
    attaches-alone old new limit n it link events frames
    (is-again old.talk new.talk old.links new.links limit n link number events frames d.0) (name_of it)
    (own-name it d.0.placed.handle)
    ∙ named-so (rest_at old.links link) it d.0.resumes.may.rests
call-names (call.AttachSender n its) answer old new limit frames d = absurd d.0
call-names (call.AttachReceiver n its) answer old new limit frames d = absurd d.0
call-names (call.Resume link n) answer old new limit frames d = absurd d.0
call-names it answer old new limit frames d =
    none-named frames (call-none it answer old new limit frames (λ attaches. attaches) d)

pub deed-names : (old new : LinkedSessions) (deed : Deed) → IsDeed linked old deed new
    → names_in (gone_in deed) ≡ attached_in old deed
deed-names old new (Takes limit frame frames events) d =
    none-named frames (take-none limit frame frames events old new d)
deed-names old new (Does limit it answer frames) d = call-names it answer old new limit frames d
deed-names old new deed d = refl

-- its Attach is the first frame
once-first : (link : End) (handle : OutputHandle) (name : List ℕ) (frames : List SessionFrame)
    → AttachesOnce link handle frames → (own_attach link handle).handle.0 ≡ handle.0
    → (own_attach link handle).name ≡ name → AttachesFirst handle name frames
once-first link handle name frames once own is =
    record {
      channel = once.channel;
      attach = once.attach;
      others = once.later;
      are = once.are;
      handled = once.handled ∙ own;
      named = once.named ∙ is;
    }

abbrev SomeFirst : List ℕ → List SessionFrame → Type 0
SomeFirst name frames = (handle : OutputHandle) × AttachesFirst handle name frames

pub one-name : (name other : List ℕ) → name ∷ [] ≡ other ∷ [] → name ≡ other
one-name name other is = cc

call-first : (it : Call) (answer : Said) (old new : LinkedSessions) (limit : ℕ) (frames : List SessionFrame)
    (name : List ℕ) → IsDeed linked old (Does limit it answer frames) new → named_by old.links it ≡ name ∷ []
    → SomeFirst name frames
call-first (call.AttachSender n its) (attaching link events) old new limit frames name d is = (
  _,
  once-first (sender_by its) _ name frames
      (attaches-once old new limit n (sender_by its) link events frames
      (is-new old.talk new.talk old.links new.links limit n (sender_by its) link events frames d.0))
      refl (one-name its.name name is),
)
call-first (call.AttachReceiver n its) (attaching link events) old new limit frames name d is = (
  _,
  once-first (receiver_by its) _ name frames
      (attaches-once old new limit n (receiver_by its) link events frames
      (is-new old.talk new.talk old.links new.links limit n (receiver_by its) link events frames d.0))
      refl (one-name its.name name is),
)
call-first (call.Resume link n) (attaching number events) old new limit frames name d is =
    let it = d.0.resumes.link in (
      d.0.placed.handle,
      once-first it d.0.placed.handle name frames
          (attaches-once old new limit n it link events frames
          (is-again old.talk new.talk old.links new.links limit n link number events frames d.0))
          (own-handle it d.0.placed.handle)
          (own-name it d.0.placed.handle
          ∙ one-name (name_of it) name (named-so (rest_at old.links link) it d.0.resumes.may.rests ∙ is)),
    )
call-first (call.AttachSender n its) answer old new limit frames name d is = absurd d.0
call-first (call.AttachReceiver n its) answer old new limit frames name d is = absurd d.0
call-first (call.Resume link n) answer old new limit frames name d is = absurd d.0
call-first it answer old new limit frames name d is = absurd cc

pub deed-first : (old new : LinkedSessions) (deed : Deed) (name : List ℕ) → IsDeed linked old deed new
    → attached_in old deed ≡ name ∷ [] → (handle : OutputHandle) × AttachesFirst handle name (gone_in deed)
deed-first old new (Does limit it answer frames) name d is = call-first it answer old new limit frames name d is
deed-first old new deed name d is = absurd cc
