-- What a receiving link of an endpoint hands out is what the transfers say that reach it.
use Rattle.std.proofs.Common.{◌≡◌, ◌==◌, ◌&&◌, ◌⊎◌, inl, inr, ℕ, Bool, true, false, List, [], ◌∷◌, ◌++◌, Option}
use Rattle.std.proofs.Common.{Some, None, Ok, ap, refl, sym, subst, true≢false, ◌∙◌, if◌then◌else◌, map, append_assoc}
use Rattle.std.proofs.lemmas.List.{append-nil, map-append}
use Rattle.std.proofs.lemmas.Option.{none-some, same_Some}
use Rattle.std.specs.Prelude.{option_map}
use Rattle.amqp_session_types.specs.declared.channels.IncomingChannel.{IncomingChannel}
use Rattle.amqp_session_types.specs.declared.handles.OutputHandle.{OutputHandle}
use Rattle.amqp_session_performatives.specs.declared.session_frame.SessionFrame.{SessionFrame}
use Rattle.amqp_session_performatives.specs.declared.transfer.Transfer.{Transfer}
use Rattle.amqp_session_frames.specs.declared.frame.FrameBody.TheVariants as body
use Rattle.amqp_session_core.specs.State.{StepsAt, link_at, reached as link_reached}
use Rattle.amqp_session_core.specs.Told.{TransferAt}
use Rattle.amqp_session_core.specs.declared.incoming.TransferTaken.{TransferTaken}
use Rattle.amqp_session_core.specs.declared.relay.TransferAnswer.{TransferAnswer}
use Rattle.amqp_link_base.specs.State.{is_attached}
use Rattle.amqp_link_base.specs.declared.state.LinkState.{LinkState}
use Rattle.amqp_link_base.specs.declared.state.LinkState.TheVariants as state
use Rattle.amqp_link.specs.Ends.{state_of}
use Rattle.amqp_link.specs.Gives.{answer_of, dropped, receives, transfers, transfers_at}
use Rattle.amqp_link.specs.Standing.{standing_of}
use Rattle.amqp_link.specs.declared.end.End.{End}
use Rattle.amqp_link.specs.declared.end.End.TheVariants.{Receiver, Sender}
use Rattle.amqp_link.specs.declared.standing.Standing.{Standing}
use Rattle.amqp_link.specs.declared.standing.Standing.TheVariants as standing
use Rattle.amqp_link_base.specs.Readings.{Piece, Reading, read_on, readings}
use Rattle.amqp_link_base.specs.Said.{Said}
use Rattle.amqp_link_receiver.specs.Disposing.{message_numbered}
use Rattle.amqp_link_receiver.specs.Incoming.{TakesTransfer}
use Rattle.amqp_link_receiver.specs.State.{ReceiverState, attachment_of}
use Rattle.amqp_link_receiver.specs.Deliveries.{Delivery}
use Rattle.amqp_link_receiver.specs.Readings.{IsTaken, Taken, held_said, message_said, messages_in}
use Rattle.amqp_link_receiver.specs.Receiving.{Receives as TakenBy}
use Rattle.amqp_link_receiver.specs.declared.answer.Answer.{Answer}
use Rattle.amqp_link_receiver.specs.declared.answer.Message.{Message}
use Rattle.amqp_link_receiver.specs.declared.answer.Told.{Told}
use Rattle.amqp_link_receiver.specs.declared.answer.Told.TheVariants as told
use Rattle.amqp_link_receiver.proofs.Handing.{all-handed}
use Rattle.amqp_endpoint_attached.specs.Detaching.{is_there}
use Rattle.amqp_endpoint_attached.specs.Linked.{LinksIn, end_at, gives}
use Rattle.amqp_endpoint_attached.specs.Receiving.{receiving}
use Rattle.amqp_endpoint_attached.proofs.There.{replaced}
use Rattle.amqp_endpoint_link_calls.specs.Places.{end_live}
use Rattle.amqp_endpoint_link_hearing.specs.Naming.{link_in, link_of}
use Rattle.amqp_endpoint_link_hearing.specs.Transferring.{Comes, HandsOver, RemembersUnless, message_told, remembering}
use Rattle.amqp_endpoint_link_hearing.proofs.Heard.{IsTaken as IsHeard, stepped-there}
use Rattle.amqp_endpoint.specs.declared.linked.LinkedSessions.{LinkedSessions}
use Rattle.amqp_endpoint_linking.specs.Linking.{Link, Session, Stood, Talk}
use Rattle.amqp_endpoint_links.specs.declared.hearing.LinkPerformative.TheVariants as said
use Rattle.amqp_endpoint_links.specs.declared.hearing.PerformativeTaken.TheVariants as taken
use Rattle.amqp_endpoint_model.specs.declared.event.Event.{Event}
use Rattle.amqp_endpoint_model.specs.declared.event.Event.TheVariants as event
use Rattle.amqp_endpoint_tables.specs.State.{live_at, live_of, reached}
use Rattle.amqp_endpoint_tables.specs.Steps.{ChangesLive}
use Rattle.amqp_endpoint_tables.proofs.Owning.{at as place-at, other_number, same_number}
use Rattle.amqp_endpoint_laws.specs.Handed.{Handed, IsReceiving, NoneResumes, handed_as, handed_by, handed_in}
use Rattle.amqp_endpoint_laws.specs.Handed.{handed_of, leads_there, piece_of}
use Rattle.amqp_endpoint_laws.specs.Held.{number_live, number_of}
use Rattle.amqp_endpoint_laws.specs.Life.{StaysAttached, StaysSomewhere}
use Rattle.amqp_endpoint_laws.specs.Passed.{is_it}
use Rattle.amqp_endpoint_laws.proofs.HoldingEnds.{Goes, Holding, Part, Stays, attached-so, held_end, held_if, held_link}
use Rattle.amqp_endpoint_laws.proofs.HoldingEnds.{stays-on}
use Rattle.amqp_endpoint_laws.proofs.HoldingInside.{at-one, same-leads}
use Rattle.amqp_endpoint_laws.proofs.HoldingDeeds.{talk-same}
use Rattle.amqp_endpoint_laws.proofs.HoldingDone.{closes-none, closes-stays, remembers-stays}
use Rattle.amqp_endpoint_laws.proofs.HoldingTalk.{AllRest, EachAt, EachOf, LeadsStillAt, changed-live, each-same}
use Rattle.amqp_endpoint_laws.proofs.HoldingTalk.{goes-on-stays, held-of, held_in, leads_in, live-changes, still-on}
use Rattle.amqp_endpoint_laws.proofs.HoldingTalk.{still-same}
use Rattle.amqp_endpoint_laws.proofs.LeadingStill.{other-links, same-still}
use Rattle.amqp_endpoint_laws.proofs.PassedPlaces.{eq-same}
use Rattle.amqp_endpoint_laws.proofs.Unnumbered.{Unnumbered}

-- the link with this number stands in the session under this own handle, receives there, and holds this
pub record Receives (s : LinkedSessions) (link session : ℕ) (own : OutputHandle) (held : Option Delivery) : Type 0
  where
    pub end : ReceiverState
    pub there : link_of s.talk session own ≡ Some (receiving link end)
    pub attached : is_attached end.base.local_state ≡ true
    pub holds : end.end.held ≡ held

-- a link's number and its end
numbers-of : (o : Option Session) (own : OutputHandle) → number_live o own.0 ≡ number_of (link_in o own)
numbers-of None own = refl
numbers-of (Some session) own = refl

ends-of : (o : Option Session) (own : OutputHandle)
    → end_live o own ≡ option_map (λ (l : Link). l.link) (link_in o own)
ends-of None own = refl
ends-of (Some session) own = refl

pub as-receiving : (l : Link) (r : ReceiverState) → l.link ≡ Receiver r → Some l ≡ Some (receiving l.number r)
as-receiving l r is =
    let by_end : End → Option Link = λ e. Some (record { number = l.number; link = e }) in ap by_end is

whole-link : (l : Option Link) (link : ℕ) (end : ReceiverState)
    → option_map (λ (n : Link). n.link) l ≡ Some (Receiver end) → number_of l ≡ Some link
    → l ≡ Some (receiving link end)
whole-link None link end is number = absurd (none-some (Receiver end) is)
whole-link (Some l) link end is number =
    as-receiving l end (same_Some l.link (Receiver end) is)
    ∙ ap (λ (k : ℕ). Some (receiving k end)) (same_Some l.number link number)

module _ (s : LinkedSessions) (link session : ℕ) (own : OutputHandle) (held : Option Delivery) where
  pub receives-so : IsReceiving s link session own held → Receives s link session own held
  receives-so r =
      let o : Option Session = live_at s.talk.sessions session in
      record {
        end = r.end;
        there =
            whole-link (link_in o own) link r.end (sym (ends-of o own) ∙ r.there)
            (sym (numbers-of o own) ∙ r.numbered);
        attached = r.attached;
        holds = r.holds;
      }

  pub is-receiving : Receives s link session own held → IsReceiving s link session own held
  is-receiving r =
      let o : Option Session = live_at s.talk.sessions session in
      record {
        numbered = numbers-of o own ∙ ap number_of r.there;
        end = r.end;
        there = ends-of o own ∙ ap (option_map (λ (l : Link). l.link)) r.there;
        attached = r.attached;
        holds = r.holds;
      }

pub receives-holds : (s : LinkedSessions) (link session : ℕ) (own : OutputHandle) (held : Option Delivery)
    → Receives s link session own held → held_in (live_at s.talk.sessions session) own.0 ≡ Some (link, (true, held))
receives-holds s link session own held r =
    held-of (live_at s.talk.sessions session) own ∙ ap held_link r.there
    ∙ ap (λ (o : Option Bool). held_if o link r.end.end.held) (attached-so r.end.base.local_state r.attached)
    ∙ ap (λ (h : Option Delivery). Some (link, (true, h))) r.holds

pub goes-same : (a b : Holding) (link : ℕ) (held later : Option Delivery) → Goes a b → a ≡ Some (link, (true, held))
    → b ≡ Some (link, (true, later)) → later ≡ held
goes-same a b link held later (inl t) first is =
    absurd
    (true≢false
    (sym
    (ap (λ (x : ℕ × Part). x.1.0)
    (same_Some (t.number, (false, t.held)) (link, (true, held)) (sym t.was ∙ first)))))
goes-same a b link held later (inr (inl same)) first is =
    ap (λ (x : ℕ × Part). x.1.1)
    (same_Some (link, (true, later)) (link, (true, held)) (sym is ∙ same ∙ first))
goes-same a b link held later (inr (inr gone)) first is = absurd (none-some _ (sym gone ∙ is))

abbrev pub LeadsLessAt : Option Session → Option Session → Type 0
LeadsLessAt old new = (input h : ℕ) → leads_in new input ≡ Some h → leads_in old input ≡ Some h

-- only a receiving link that is attached takes a transfer. Where the own Detach was sent it is dropped
pub record IsTaker (e : End) : Type 0 where
  pub receiver : ReceiverState
  pub is : e ≡ Receiver receiver
  pub attached : is_attached receiver.base.local_state ≡ true

standing-attached : (s : LinkState) → standing_of s ≡ standing.Attached → is_attached s ≡ true
standing-attached state.Attached is = refl
standing-attached state.IncompleteAttachExchanged is = refl
standing-attached s is = absurd cc

taker-at : (s : Standing) (e : End) (it : Transfer) (payload : List ℕ) (answer : TransferAnswer Told) (new : End)
    → standing_of (state_of e) ≡ s → transfers_at s e it payload (Ok answer) new
    → IsTaker e ⊎ ((answer ≡ dropped) × (new ≡ e))
taker-at standing.Attached (Receiver r) it payload answer new stands t =
    inl (record { receiver = r; is = refl; attached = standing-attached r.base.local_state stands })
taker-at standing.Attached (Sender s) it payload answer new stands t = let clash = t.0 in absurd cc
taker-at standing.Detaching e it payload answer new stands t =
    let is = t.0 in let same : answer ≡ dropped = cc in inr (same, t.1)
taker-at standing.Apart e it payload answer new stands t = let clash = t.0 in absurd cc

-- what the link holds that takes one goes on
pub record IsTold (old new : Holding) : Type 0 where
  pub number : ℕ
  pub held : Option Delivery
  pub later : Option Delivery
  pub was : old ≡ Some (number, (true, held))
  pub is : new ≡ Some (number, (true, later))

abbrev pub HearsOne : Holding → Holding → Type 0
HearsOne old new = IsTold old new ⊎ Stays old new

hears-on : (a b c : Holding) → HearsOne a b → Stays b c → HearsOne a c
hears-on a b c (inl t) (inl is) =
    inl (record { number = t.number; held = t.held; later = t.later; was = t.was; is = is ∙ t.is })
hears-on a b c (inl t) (inr gone) = inr (inr gone)
hears-on a b c (inr first) s = inr (stays-on a b c first s)

-- where no message is among events, none of a link is
pub none-handed : (link : ℕ) (events : List Event) → Unnumbered events → handed_by link events ≡ []
none-handed link [] none = refl
none-handed link (event.Message it ∷ events) none = let clash = none in absurd cc
none-handed link (other ∷ events) none = none-handed link events none

pub handed-both : (link : ℕ) (events others : List Event)
    → handed_by link (events ++ others) ≡ handed_by link events ++ handed_by link others
handed-both link [] others = refl
handed-both link (e ∷ events) others =
    ap (λ (hs : List Handed). handed_in link e ++ hs) (handed-both link events others)
    ∙ sym (append_assoc (handed_in link e) (handed_by link events) (handed_by link others))

-- more transfers are read behind others
pub readings-both : (r : Reading) (ps qs : List Piece) → readings r (ps ++ qs) ≡ readings (readings r ps) qs
readings-both r [] qs = refl
readings-both r (p ∷ ps) qs = readings-both (read_on r p) ps qs

pub none-resume : (ps qs : List Piece) → NoneResumes (ps ++ qs) → NoneResumes ps × NoneResumes qs
none-resume [] qs none = (tt, none)
none-resume (p ∷ ps) qs none = let (first, later) = none-resume ps qs none.1 in ((none.0, first), later)

as-said : (own : OutputHandle) (messages : List Said)
    → map (handed_of own) (map message_said messages) ≡ map (handed_as own) messages
as-said own [] = refl
as-said own (m ∷ messages) = ap (λ (hs : List Handed). handed_as own m ∷ hs) (as-said own messages)

-- what is read of these transfers is what was read before, and what is handed out, and what is held
pub record Says (own : OutputHandle) (before : Reading) (pieces : List Piece) (handed : List Handed)
    (held : Option Delivery) : Type 0 where
  pub messages :
      map (handed_as own) (readings before pieces).messages ≡ map (handed_as own) before.messages ++ handed
  pub holds : held ≡ held_said (readings before pieces).held

pub says-none : (own : OutputHandle) (before : Reading) (pieces : List Piece) (handed : List Handed)
    (held : Option Delivery) → pieces ≡ [] → handed ≡ [] → held ≡ held_said before.held
    → Says own before pieces handed held
says-none own before pieces handed held none silent is =
    subst (λ (ps : List Piece). Says own before ps handed held) (sym none)
    (subst (λ (hs : List Handed). Says own before [] hs held) (sym silent)
    (record { messages = sym (append-nil (map (handed_as own) before.messages)); holds = is }))

-- a link that is attached takes a transfer
attached-stands : (s : LinkState) → is_attached s ≡ true → standing_of s ≡ standing.Attached
attached-stands state.Attached is = refl
attached-stands state.IncompleteAttachExchanged is = refl
attached-stands s is = absurd cc

record TakesPiece (r : ReceiverState) (it : Transfer) (payload : List ℕ) (answer : Answer) (new : End) : Type 0 where
  after : ReceiverState
  is : new ≡ Receiver after
  taken : TakenBy (attachment_of r) r.end it payload (Ok answer) after.end
  rest : after ≡ record r { end = after.end }

takes-attached : (attached : Bool) (r : ReceiverState) (it : Transfer) (payload : List ℕ) (answer : Answer)
    (after : ReceiverState) → attached ≡ true → TakesTransfer attached r it payload (Ok answer) after
    → TakesPiece r it payload answer (Receiver after)
takes-attached true r it payload answer after is t =
    record { after = after; is = refl; taken = t.0; rest = t.1 }
takes-attached false r it payload answer after is t = absurd cc

takes-piece : (r : ReceiverState) (it : Transfer) (payload : List ℕ) (answer : TransferAnswer Told) (new : End)
    → is_attached r.base.local_state ≡ true → receives r it payload (Ok answer) new
    → TakesPiece r it payload (answer_of answer) new
takes-piece r it payload answer (Receiver after) is t =
    takes-attached (is_attached r.base.local_state) r it payload (answer_of answer) after is t
takes-piece r it payload answer (Sender s) is t = absurd t

takes-transfer : (r : ReceiverState) (it : Transfer) (payload : List ℕ) (answer : TransferAnswer Told) (new : End)
    → is_attached r.base.local_state ≡ true → transfers (Receiver r) it payload (Ok answer) new
    → TakesPiece r it payload (answer_of answer) new
takes-transfer r it payload answer new is t =
    takes-piece r it payload answer new is
    (subst (λ (s : Standing). transfers_at s (Receiver r) it payload (Ok answer) new)
    (attached-stands r.base.local_state is) t)

-- by which link a transfer is taken
record AtLink (old new : LinksIn) (it : Transfer) (payload : List ℕ) (told : Told) : Type 0 where
  handle : ℕ
  reaches : link_reached old it.handle.0 ≡ Some handle
  answer : TransferAnswer Told
  is : told ≡ answer.told
  stepped : StepsAt (λ before after. gives.transfers before it payload (Ok answer) after) old.links handle new.links
  routes : new.routes ≡ old.routes

at-link : (old new : LinksIn) (it : Transfer) (payload : List ℕ) (o : Option ℕ) (took : TransferTaken Told)
    → TransferAt gives old it payload o (Ok took) new → AtLink old new it payload took.told
at-link old new it payload None took t = absurd t
at-link old new it payload (Some handle) took t =
    record {
      handle = handle;
      reaches = t.stepped.0;
      answer = t.answer;
      is = t.told;
      stepped = t.stepped.1;
      routes = ap (λ (x : LinksIn). x.routes) t.stepped.3;
    }

-- in no other place of a session that goes on a receiving link with this number is attached, or waits to be
abbrev pub StandsAlone : LinkedSessions → ℕ → ℕ → ℕ → Type 0
StandsAlone s link session own =
    (other handle : ℕ) (x : Part) → held_in (live_at s.talk.sessions other) handle ≡ Some (link, x)
    → (other ≡ session) × (handle ≡ own)

-- what comes of what the link tells leaves what is held, unless the link is closed by that
remembers-stay : (settled : Bool) (handle : OutputHandle) (tag : List ℕ) (number : ℕ) (old : Talk) (session : ℕ)
    (new : Talk) → RemembersUnless settled handle tag number old session new → AllRest old.sessions new.sessions
remembers-stay true handle tag number old session new same = talk-same old new same
remembers-stay false handle tag number old session new g =
    goes-on-stays _ old session new (λ a b r. remembers-stays handle tag number a b r) g

comes-stay : (it_told : Told) (old mid new : Talk) (given session : ℕ) (it : Transfer) (frames : List SessionFrame)
    (events : List Event) (given_new : ℕ) → Comes it_told old given it session mid frames events new given_new
    → AllRest mid.sessions new.sessions
comes-stay (told.Message message) old mid new given session it frames events given_new c =
    remembers-stay message.settled c.handle message.delivery_tag given mid session new c.remembers
comes-stay (told.Refused error) old mid new given session it frames events given_new (c, g) =
    goes-on-stays _ mid session new (λ a b d. closes-stays _ c.handle frames a b d) c.closes
comes-stay other old mid new given session it frames events given_new c = talk-same mid new c.stays

-- a transfer that a link of a session takes
module _ (old new : LinkedSessions) (mid : Talk) (channel : IncomingChannel) (it : Transfer) (payload : List ℕ)
    (session : ℕ) (took : TransferTaken Told) (own_frames : List SessionFrame) (events : List Event)
    (heard : IsHeard old.talk channel [] (said.Transfer it payload) session (taken.Transfer took) mid [])
    (comes : Comes took.told old.talk old.given it session mid own_frames events new.talk new.given) where
  abbrev before : Session
  before = heard.before

  abbrev after : Session
  after = heard.takes.after

  at : AtLink before.value.session after.value.session it payload took.told
  at =
      at-link before.value.session after.value.session it payload
      (link_reached before.value.session it.handle.0) took heard.takes.hears.heard.0.0

  abbrev became : Link
  became = at.stepped.after

  stood-same : (stood : Session) → live_at old.talk.sessions session ≡ Some stood → stood ≡ before
  stood-same stood live = same_Some stood before (sym live ∙ heard.live)

  -- the handle that comes with what is told is the link's
  handle-same : (stood : Session) (handle : OutputHandle) → live_at old.talk.sessions session ≡ Some stood
      → link_reached stood.value.session it.handle.0 ≡ Some handle.0 → handle.0 ≡ at.handle
  handle-same stood handle live reaches =
      same_Some handle.0 at.handle
      (sym reaches ∙ ap (λ (s : Session). link_reached s.value.session it.handle.0) (stood-same stood live)
      ∙ at.reaches)

  there-now : (handle : OutputHandle) → handle.0 ≡ at.handle → link_of mid session handle ≡ Some became
  there-now handle same =
      ap (λ (o : Option Session). link_in o handle) heard.stands
      ∙ ap (λ (k : ℕ). link_at after.value.session k) same
      ∙ stepped-there _ before.value.session at.handle after.value.session at.stepped

  -- which of them takes it
  taker : IsTaker at.stepped.before.link ⊎ ((at.answer ≡ dropped) × (became.link ≡ at.stepped.before.link))
  taker =
      taker-at (standing_of (state_of at.stepped.before.link)) at.stepped.before.link it payload at.answer became.link
      refl at.stepped.stepped.0

  took-it : (t : IsTaker at.stepped.before.link)
      → TakesPiece t.receiver it payload (answer_of at.answer) became.link
  took-it t =
      takes-transfer t.receiver it payload at.answer became.link t.attached
      (subst (λ (e : End). transfers e it payload (Ok at.answer) became.link) t.is at.stepped.stepped.0)

  still-so : (t : IsTaker at.stepped.before.link) → is_attached (took-it t).after.base.local_state ≡ true
  still-so t = ap (λ (x : ReceiverState). is_attached x.base.local_state) (took-it t).rest ∙ t.attached

  holds-before : (t : IsTaker at.stepped.before.link)
      → held_link (Some at.stepped.before) ≡ Some (at.stepped.before.number, (true, t.receiver.end.held))
  holds-before t =
      ap (held_end at.stepped.before.number) t.is
      ∙ ap (λ (o : Option Bool). held_if o at.stepped.before.number t.receiver.end.held)
      (attached-so t.receiver.base.local_state t.attached)

  holds-behind : (t : IsTaker at.stepped.before.link)
      → held_link (Some became) ≡ Some (at.stepped.before.number, (true, (took-it t).after.end.held))
  holds-behind t =
      ap (λ (k : ℕ). held_end k became.link) at.stepped.stepped.1
      ∙ ap (held_end at.stepped.before.number) (took-it t).is
      ∙ ap (λ (o : Option Bool). held_if o at.stepped.before.number (took-it t).after.end.held)
      (attached-so (took-it t).after.base.local_state (still-so t))

  -- one that hands a message out is attached
  told-taker : (message : Message) → took.told ≡ told.Message message → IsTaker at.stepped.before.link
  told-taker message is = by taker
    where
      by : IsTaker at.stepped.before.link ⊎ ((at.answer ≡ dropped) × (became.link ≡ at.stepped.before.link))
          → IsTaker at.stepped.before.link
      by (inl t) = t
      by (inr (none, same)) =
          let clash : told.Message message ≡ told.Dropped =
          sym is ∙ at.is ∙ ap (λ (a : TransferAnswer Told). a.told) none in
          absurd cc

  -- what is held under each handle goes on so
  one-hears : HearsOne (held_link (Some at.stepped.before)) (held_link (Some became))
  one-hears = by taker
    where
      by : IsTaker at.stepped.before.link ⊎ ((at.answer ≡ dropped) × (became.link ≡ at.stepped.before.link))
          → HearsOne (held_link (Some at.stepped.before)) (held_link (Some became))
      by (inl t) =
          inl (record {
            number = at.stepped.before.number;
            held = t.receiver.end.held;
            later = (took-it t).after.end.held;
            was = holds-before t;
            is = holds-behind t;
          })
      by (inr (none, same)) =
          inr (inl (ap (λ (k : ℕ). held_end k became.link) at.stepped.stepped.1
          ∙ ap (held_end at.stepped.before.number) same))

  stays : AllRest mid.sessions new.talk.sessions
  stays = comes-stay took.told old.talk mid new.talk old.given session it own_frames events new.given comes

  pub each-hears : EachOf HearsOne old.talk.sessions new.talk.sessions
  each-hears n h =
      hears-on (held_in (live_at old.talk.sessions n) h) (held_in (live_at mid.sessions n) h)
      (held_in (live_at new.talk.sessions n) h)
      (live-changes (EachAt HearsOne) (each-same HearsOne (λ x. inr (inl refl))) session before after
      old.talk.sessions mid.sessions heard.takes.hears.stepped
      (at-one HearsOne (λ x. inr (inl refl)) before.value.session after.value.session at.handle at.stepped.before became
      at.stepped.had at.stepped.others one-hears) n h)
      ((stays n).holds h)

  -- and no handle of the peer's leads to another link by it
  pub each-leads : (n input h : ℕ) → leads_in (live_at new.talk.sessions n) input ≡ Some h
      → leads_in (live_at old.talk.sessions n) input ≡ Some h
  each-leads n input h there =
      live-changes LeadsLessAt (λ o p same i k e. sym (ap (λ (x : Option Session). leads_in x i) same) ∙ e) session
      before after old.talk.sessions mid.sessions heard.takes.hears.stepped
      (same-leads before.value.session after.value.session at.routes) n input h ((stays n).leads input h there)

  -- and those lead there still that led to a link that stays attached
  pub each-still : (n : ℕ) → LeadsStillAt (live_at old.talk.sessions n) (live_at new.talk.sessions n)
  each-still n =
      still-on (live_at old.talk.sessions n) (live_at mid.sessions n) (live_at new.talk.sessions n)
      (live-changes LeadsStillAt still-same session before after old.talk.sessions mid.sessions
      heard.takes.hears.stepped (same-still before.value.session after.value.session at.routes) n)
      (stays n)

  -- a message that comes whole is handed out by a link that is attached before and behind
  module _ (message : Message) (t : IsTaker at.stepped.before.link)
      (c : HandsOver old.talk old.given it session message mid own_frames events new.talk new.given) where
    same-handle : c.handle.0 ≡ at.handle
    same-handle = handle-same c.stood c.handle c.live c.reaches

    receives-before : Receives old became.number session c.handle t.receiver.end.held
    receives-before =
        record {
          end = t.receiver;
          there =
              ap (λ (o : Option Session). link_in o c.handle) heard.live
              ∙ ap (λ (k : ℕ). link_at before.value.session k) same-handle ∙ at.stepped.had
              ∙ as-receiving at.stepped.before t.receiver t.is
              ∙ ap (λ (k : ℕ). Some (receiving k t.receiver)) (sym at.stepped.stepped.1);
          attached = t.attached;
          holds = refl;
        }

    remembered : (settled : Bool) (tag : List ℕ) (number : ℕ)
        → RemembersUnless settled c.handle tag number mid session new.talk
        → Receives new became.number session c.handle (took-it t).after.end.held
    remembered true tag number same =
        record {
          end = (took-it t).after;
          there =
              ap (λ (x : Talk). link_of x session c.handle) same ∙ there-now c.handle same-handle
              ∙ as-receiving became (took-it t).after (took-it t).is;
          attached = still-so t;
          holds = refl;
        }
    remembered false tag number g =
        let r = g.done in
        let was : g.before ≡ after = same_Some g.before after (sym g.stepped.0 ∙ heard.stands) in
        let its : r.link ≡ became =
        same_Some r.link became
        (sym r.changed.0 ∙ ap (λ (x : Session). link_at x.value.session c.handle.0) was
        ∙ ap (λ (k : ℕ). link_at after.value.session k) same-handle
        ∙ stepped-there _ before.value.session at.handle after.value.session at.stepped) in
        let by_end : End → Option Link =
        λ e. Some (record { number = became.number; link = remembering e tag number }) in
        record {
          end = message_numbered (took-it t).after tag number;
          there =
              ap (λ (o : Option Session). link_in o c.handle)
              (changed-live session g.before g.after mid.sessions new.talk.sessions g.stepped)
              ∙ ap (λ (x : LinksIn). link_at x c.handle.0) r.changed.1
              ∙ replaced g.before.value.session c.handle.0 r.link
              (record r.link { link = remembering r.link.link tag number }) (sym r.changed.0)
              ∙ ap (λ (l : Link). Some (record l { link = remembering l.link tag number })) its
              ∙ ap by_end (took-it t).is;
          attached = still-so t;
          holds = refl;
        }

    stays-attached : (link : ℕ) → became.number ≡ link → StaysAttached old new link session c.handle
    stays-attached link is =
        record {
          held = t.receiver.end.held;
          later = (took-it t).after.end.held;
          before =
              is-receiving old link session c.handle t.receiver.end.held
              (subst (λ (k : ℕ). Receives old k session c.handle t.receiver.end.held) is receives-before);
          behind =
              is-receiving new link session c.handle (took-it t).after.end.held
              (subst (λ (k : ℕ). Receives new k session c.handle (took-it t).after.end.held) is
              (remembered message.settled message.delivery_tag old.given c.remembers));
        }

  hands-it : (link : ℕ) (it_told : Told) → took.told ≡ it_told
      → Comes it_told old.talk old.given it session mid own_frames events new.talk new.given
      → (handed_by link events ≡ []) ⊎ StaysSomewhere old new link
  hands-it link (told.Message message) told_so c = by (c.link.number == link) refl
    where
      t : IsTaker at.stepped.before.link
      t = told-taker message told_so

      by : (b : Bool) → (c.link.number == link) ≡ b → (handed_by link events ≡ []) ⊎ StaysSomewhere old new link
      by true e =
          inr (
            session,
            c.handle,
            stays-attached message t c link
                (ap (λ (l : Link). l.number)
                (same_Some became c.link (sym (there-now c.handle (same-handle message t c)) ∙ c.there))
                ∙ same_number c.link.number link e),
          )
      by false e =
          inl (ap (handed_by link) c.tells
          ∙ ap (λ (b : Bool). (if b then handed_of c.handle message ∷ [] else []) ++ []) e)
  hands-it link (told.Refused error) told_so (c, g) = inl (ap (handed_by link) c.tells)
  hands-it link other told_so c = inl (ap (handed_by link) c.untold)

  pub hands-out : (link : ℕ) → (handed_by link events ≡ []) ⊎ StaysSomewhere old new link
  hands-out link = hands-it link took.told refl comes

  there-before : held_in (live_at old.talk.sessions session) at.handle ≡ held_link (Some at.stepped.before)
  there-before = ap (λ (o : Option Session). held_in o at.handle) heard.live ∙ ap held_link at.stepped.had

  module _ (link n : ℕ) (own : OutputHandle) (reading : Reading) (later : Option Delivery)
      (r : Receives old link n own (held_said reading.held)) (q : Receives new link n own later) where
    abbrev pieces : List Piece
    pieces = piece_of old n own channel.0 (body.Transfer it payload)

    abbrev one : Piece
    one = record { performative = it; payload = payload }

    -- it reaches this link, or another
    pieces-are : (x y : Bool) → is_it (reached old.talk.sessions channel.0) n ≡ x
        → leads_there (live_at old.talk.sessions n) it.handle.0 own ≡ y → pieces ≡ (if x && y then one ∷ [] else [])
    pieces-are x y is leads =
        ap (λ (b : Bool). if b && leads_there (live_at old.talk.sessions n) it.handle.0 own then one ∷ [] else []) is
        ∙ ap (λ (b : Bool). if x && b then one ∷ [] else []) leads

    session-is : is_it (reached old.talk.sessions channel.0) n ≡ (n == session)
    session-is = ap (λ (o : Option ℕ). is_it o n) heard.reaches

    handle-is : session ≡ n
        → leads_there (live_at old.talk.sessions n) it.handle.0 own ≡ (own.0 == at.handle)
    handle-is same =
        ap (λ (k : ℕ). leads_there (live_at old.talk.sessions k) it.handle.0 own) (sym same)
        ∙ ap (λ (o : Option Session). leads_there o it.handle.0 own) heard.live
        ∙ ap (λ (o : Option ℕ). is_it o own.0) at.reaches

    held-new : held_in (live_at new.talk.sessions n) own.0 ≡ Some (link, (true, later))
    held-new = receives-holds new link n own later q

    -- what is held behind the transfer is held behind what comes of it
    held-on : (held : Option Delivery) → held_in (live_at mid.sessions n) own.0 ≡ Some (link, (true, held))
        → later ≡ held
    held-on held is =
        goes-same (held_in (live_at mid.sessions n) own.0) (held_in (live_at new.talk.sessions n) own.0) link held later
        (inr ((stays n).holds own.0)) is held-new

    -- it reaches another
    module _ (alone : StandsAlone old link n own.0) (other : (session ≡ n) → at.handle ≡ own.0 → ⊥) where
      not-its : (message : Message) → took.told ≡ told.Message message → (number : ℕ) → number ≡ became.number
          → number ≡ link → ⊥
      not-its message told_so number is same =
          let t = told-taker message told_so in
          let (sessions_same, handles_same) =
          alone session at.handle (true, t.receiver.end.held)
          (there-before ∙ holds-before t
          ∙ ap (λ (k : ℕ). Some (k, (true, t.receiver.end.held))) (sym at.stepped.stepped.1 ∙ sym is ∙ same)) in
          other sessions_same handles_same

      not-handed : (number given : ℕ) (handle : OutputHandle) (message : Message)
          → took.told ≡ told.Message message → number ≡ became.number
          → handed_by link (message_told number given handle message) ≡ []
      not-handed number given handle message told_so is = by (number == link) refl
        where
          by : (b : Bool) → (number == link) ≡ b → handed_by link (message_told number given handle message) ≡ []
          by true e = absurd (not-its message told_so number is (same_number number link e))
          by false e =
              ap (λ (b : Bool). (if b then handed_of handle message ∷ [] else []) ++ []) e

      others-events : (it_told : Told) → took.told ≡ it_told
          → Comes it_told old.talk old.given it session mid own_frames events new.talk new.given
          → handed_by link events ≡ []
      others-events (told.Message message) told_so c =
          ap (handed_by link) c.tells
          ∙ not-handed c.link.number old.given c.handle message told_so
          (ap (λ (l : Link). l.number)
          (same_Some c.link became (sym c.there ∙ there-now c.handle (handle-same c.stood c.handle c.live c.reaches))))
      others-events (told.Refused error) told_so (c, g) = ap (handed_by link) c.tells
      others-events it_told told_so c = ap (handed_by link) c.untold

      held-same : held_in (live_at mid.sessions n) own.0 ≡ Some (link, (true, held_said reading.held))
      held-same = by (n == session) refl
        where
          in-session : n ≡ session → (b : Bool) → (own.0 == at.handle) ≡ b
              → held_in (live_at mid.sessions n) own.0 ≡ Some (link, (true, held_said reading.held))
          in-session same true e = absurd (other (sym same) (sym (same_number own.0 at.handle e)))
          in-session same false e =
              ap (λ (k : ℕ). held_in (live_at mid.sessions k) own.0) same
              ∙ ap (λ (o : Option Session). held_in o own.0) heard.stands
              ∙ ap held_link
              (other-links _ before.value.session after.value.session at.handle own.0 at.stepped
              (other_number own.0 at.handle e))
              ∙ sym (ap (λ (o : Option Session). held_in o own.0) heard.live)
              ∙ sym (ap (λ (k : ℕ). held_in (live_at old.talk.sessions k) own.0) same)
              ∙ receives-holds old link n own (held_said reading.held) r

          by : (b : Bool) → (n == session) ≡ b
              → held_in (live_at mid.sessions n) own.0 ≡ Some (link, (true, held_said reading.held))
          by true e = in-session (same_number n session e) (own.0 == at.handle) refl
          by false e =
              ap (λ (o : Option Stood). held_in (live_of o) own.0)
              ((place-at n old.talk.sessions (ChangesLive session before after) mid.sessions
              heard.takes.hears.stepped).other e)
              ∙ receives-holds old link n own (held_said reading.held) r

      no-pieces : pieces ≡ []
      no-pieces = by (n == session) refl
        where
          by-handle : n ≡ session → (n == session) ≡ true → (b : Bool) → (own.0 == at.handle) ≡ b → pieces ≡ []
          by-handle same is true e = absurd (other (sym same) (sym (same_number own.0 at.handle e)))
          by-handle same is false e = pieces-are true false (session-is ∙ is) (handle-is (sym same) ∙ e)

          by : (b : Bool) → (n == session) ≡ b → pieces ≡ []
          by true e = by-handle (same_number n session e) e (own.0 == at.handle) refl
          by false e = pieces-are false _ (session-is ∙ e) refl

      says-nothing : Says own reading pieces (handed_by link events) later
      says-nothing =
          says-none own reading pieces (handed_by link events) later no-pieces (others-events took.told refl comes)
          (held-on (held_said reading.held) held-same)

    -- it reaches this one
    module _ (same : session ≡ n) (own_same : at.handle ≡ own.0) where
      its-piece : pieces ≡ one ∷ []
      its-piece =
          pieces-are true true (session-is ∙ ap (λ (k : ℕ). n == k) same ∙ eq-same n)
          (handle-is same ∙ ap (λ (k : ℕ). own.0 == k) own_same ∙ eq-same own.0)

      before-is : at.stepped.before ≡ receiving link r.end
      before-is =
          same_Some at.stepped.before (receiving link r.end)
          (sym (ap (λ (k : ℕ). link_of old.talk k own) (sym same)
          ∙ ap (λ (o : Option Session). link_in o own) heard.live
          ∙ ap (λ (k : ℕ). link_at before.value.session k) (sym own_same) ∙ at.stepped.had)
          ∙ r.there)

      took-piece : TakesPiece r.end it payload (answer_of at.answer) became.link
      took-piece =
          takes-transfer r.end it payload at.answer became.link r.attached
          (subst (λ (l : Link). transfers l.link it payload (Ok at.answer) became.link) before-is
          at.stepped.stepped.0)

      became-number : became.number ≡ link
      became-number = at.stepped.stepped.1 ∙ ap (λ (l : Link). l.number) before-is

      still-attached : is_attached took-piece.after.base.local_state ≡ true
      still-attached = ap (λ (x : ReceiverState). is_attached x.base.local_state) took-piece.rest ∙ r.attached

      held-mid : held_in (live_at mid.sessions n) own.0 ≡ Some (link, (true, took-piece.after.end.held))
      held-mid =
          ap (λ (k : ℕ). held_in (live_at mid.sessions k) own.0) (sym same)
          ∙ ap (λ (o : Option Session). held_in o own.0) heard.stands
          ∙ ap (λ (k : ℕ). held_link (link_at after.value.session k)) (sym own_same)
          ∙ ap held_link (stepped-there _ before.value.session at.handle after.value.session at.stepped)
          ∙ ap (λ (k : ℕ). held_end k became.link) became-number ∙ ap (held_end link) took-piece.is
          ∙ ap (λ (o : Option Bool). held_if o link took-piece.after.end.held)
          (attached-so took-piece.after.base.local_state still-attached)

      handle-own : (handle : OutputHandle) → handle.0 ≡ at.handle → handle ≡ own
      handle-own handle is = ap (λ (k : ℕ). let h : OutputHandle = record { 0 = k } in h) (is ∙ own_same)

      -- a link that refuses it is closed
      not-refused : (it_told : Told) → Comes it_told old.talk old.given it session mid own_frames events new.talk
          new.given → IsTaken it_told
      not-refused (told.Refused error) (c, g) =
          let is = handle-same c.stood c.handle c.live c.reaches in
          let done = c.closes in
          let was : done.before ≡ after = same_Some done.before after (sym done.stepped.0 ∙ heard.stands) in
          let there : link_at done.before.value.session c.handle.0 ≡ Some became =
          ap (λ (s : Session). link_at s.value.session c.handle.0) was
          ∙ ap (λ (k : ℕ). link_at after.value.session k) is
          ∙ stepped-there _ before.value.session at.handle after.value.session at.stepped in
          let attached : is_there (end_at done.before.value c.handle) ≡ true =
          ap (λ (o : Option Link). is_there (option_map (λ (l : Link). l.link) o)) there
          ∙ ap (λ (e : End). is_attached (state_of e)) took-piece.is ∙ still-attached in
          let gone : held_link (link_at done.after.value.session c.handle.0) ≡ None =
          closes-none _ c.handle own_frames done.before.value done.after.value attached done.done in
          absurd (none-some (link, (true, later))
          (sym (ap (λ (k : ℕ). held_in (live_at new.talk.sessions k) own.0) (sym same)
          ∙ ap (λ (o : Option Session). held_in o own.0)
          (changed-live session done.before done.after mid.sessions new.talk.sessions done.stepped)
          ∙ ap (λ (k : ℕ). held_link (link_at done.after.value.session k)) (sym own_same ∙ sym is) ∙ gone)
          ∙ held-new))
      not-refused other c = tt

      told-one : (given : ℕ) (message : Message) → handed_by link (message_told link given own message) ≡
          handed_of own message ∷ []
      told-one given message =
          ap (λ (b : Bool). (if b then handed_of own message ∷ [] else []) ++ []) (eq-same link)

      its-events : (it_told : Told) → Comes it_told old.talk old.given it session mid own_frames events new.talk
          new.given → handed_by link events ≡ map (handed_of own) (messages_in it_told)
      its-events (told.Message message) c =
          let is = handle-same c.stood c.handle c.live c.reaches in
          let number : c.link.number ≡ link =
          ap (λ (l : Link). l.number) (same_Some c.link became (sym c.there ∙ there-now c.handle is)) ∙ became-number in
          ap (handed_by link) c.tells
          ∙ ap (λ (k : ℕ). handed_by link (message_told k old.given c.handle message)) number
          ∙ ap (λ (h : OutputHandle). handed_by link (message_told link old.given h message)) (handle-own c.handle is)
          ∙ told-one old.given message
      its-events (told.Refused error) (c, g) = ap (handed_by link) c.tells
      its-events other c = ap (handed_by link) c.untold

      says-one : it.resume ≡ false → Says own reading (one ∷ []) (handed_by link events) later
      says-one fresh =
          let t : Taken = record { piece = one; answer = answer_of at.answer } in
          let taken_so : IsTaken at.answer.told = subst IsTaken at.is (not-refused took.told comes) in
          let all =
          all-handed (attachment_of r.end) r.end.end took-piece.after.end reading (t ∷ []) r.holds
          (took-piece.after.end, took-piece.taken, taken_so, fresh, refl) in
          let told_all : handed_by link events ≡ map (handed_of own) (messages_in at.answer.told) =
          its-events took.told comes ∙ ap (λ (x : Told). map (handed_of own) (messages_in x)) at.is in
          record {
            messages =
                sym (as-said own (readings reading (one ∷ [])).messages) ∙ ap (map (handed_of own)) all.0
                ∙ map-append (handed_of own) (map message_said reading.messages) (messages_in at.answer.told ++ [])
                ∙ ap (λ (hs : List Handed). hs ++ map (handed_of own) (messages_in at.answer.told ++ []))
                (as-said own reading.messages)
                ∙ ap (λ (hs : List Handed). map (handed_as own) reading.messages ++ hs)
                (ap (map (handed_of own)) (append-nil (messages_in at.answer.told)) ∙ sym told_all);
            holds = held-on took-piece.after.end.held held-mid ∙ all.1;
          }

      says-its : NoneResumes pieces → Says own reading pieces (handed_by link events) later
      says-its none =
          subst (λ (ps : List Piece). Says own reading ps (handed_by link events) later) (sym its-piece)
          (says-one (subst NoneResumes its-piece none).0)

    -- whichever it reaches
    pub says-so : StandsAlone old link n own.0 → NoneResumes pieces
        → Says own reading pieces (handed_by link events) later
    says-so alone none = by (session == n) refl
      where
        by-handle : session ≡ n → (b : Bool) → (at.handle == own.0) ≡ b
            → Says own reading pieces (handed_by link events) later
        by-handle same true e = says-its same (same_number at.handle own.0 e) none
        by-handle same false e = says-nothing alone (λ s h. other_number at.handle own.0 e h)

        by : (b : Bool) → (session == n) ≡ b → Says own reading pieces (handed_by link events) later
        by true e = by-handle (same_number session n e) (at.handle == own.0) refl
        by false e = says-nothing alone (λ s h. other_number session n e s)
