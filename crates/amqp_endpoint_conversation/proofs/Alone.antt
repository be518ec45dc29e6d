-- What a call does stays the same where nothing was handed out before.
use Rattle.std.proofs.Common.{◌≡◌, inl, inr, ℕ, List, [], ◌∷◌, ◌++◌, Bool, true, false, Option, Some, None, Result, Ok, Err, sym, ap, ◌∙◌, append-nil, append_assoc}
use Rattle.std.specs.Prelude.{⊤}
use Rattle.std.specs.Global.{Box}
use Rattle.std.proofs.lemmas.List.{append_cancel_left}
use Rattle.amqp_session_types.specs.declared.channels.IncomingChannel.{IncomingChannel}
use Rattle.amqp_session_types.specs.declared.error.Error.{Error}
use Rattle.amqp_session_types.specs.declared.refusals.ConnectionError.{ConnectionError}
use Rattle.amqp_session_types.specs.declared.refusals.ConnectionError.TheVariants as connection
use Rattle.amqp_session_types.specs.declared.refusals.SessionError.{SessionError}
use Rattle.amqp_session_types.specs.declared.refusals.SessionError.TheVariants.{IllegalState, Memory as NoMemory}
use Rattle.amqp_session_performatives.specs.declared.begin.Begin.{Begin}
use Rattle.amqp_session_performatives.specs.declared.end.End.{End}
use Rattle.amqp_session_performatives.specs.declared.flow.Flow.{Flow as FlowFrame}
use Rattle.amqp_session_performatives.specs.declared.session_frame.SessionFrame.{SessionFrame}
use Rattle.amqp_session_core.specs.Relay.{Relations}
use Rattle.amqp_session_core.specs.State.{State, leads}
use Rattle.amqp_session_core.specs.Told.{FlowTaken}
use Rattle.amqp_endpoint_links.specs.declared.session.AskedSession.{AskedSession}
use Rattle.amqp_endpoint_links.specs.Asked.{is_asked}
use Rattle.amqp_endpoint_links.specs.declared.asking.AskingSession.{AskingSession}
use Rattle.amqp_endpoint_links.specs.declared.hearing.LinkPerformative.{LinkPerformative}
use Rattle.amqp_endpoint_links.specs.declared.hearing.LinkPerformative.TheVariants.{Attach, Flow, Transfer, Disposition, Detach}
use Rattle.amqp_endpoint_links.specs.declared.hearing.PerformativeTaken.{PerformativeTaken}
use Rattle.amqp_endpoint_links.specs.declared.hearing.PerformativeTaken.TheVariants as taken
use Rattle.amqp_endpoint_links.specs.Asking.{FlowAt, FlowInSession}
use Rattle.amqp_endpoint_links.specs.Hearing.{Hears, HearsFlow}
use Rattle.amqp_endpoint_tables.specs.declared.place.Place.{Place}
use Rattle.amqp_endpoint_tables.specs.declared.place.Place.TheVariants as place
use Rattle.amqp_endpoint_tables.specs.State.{asked_at, live_at, reached}
use Rattle.amqp_endpoint_conversation.specs.declared.beginning.BeginHeard.{BeginHeard}
use Rattle.amqp_endpoint_conversation.specs.declared.beginning.BeginHeard.TheVariants as begun
use Rattle.amqp_endpoint_conversation.specs.declared.beginning.BeginRefusal.{BeginRefusal}
use Rattle.amqp_endpoint_conversation.specs.declared.beginning.BeginRefusal.TheVariants as unbegun
use Rattle.amqp_endpoint_conversation.specs.declared.conversation.Conversation.{Conversation}
use Rattle.amqp_endpoint_conversation.specs.declared.ending.EndHeard.{EndHeard}
use Rattle.amqp_endpoint_conversation.specs.declared.hearing.Heard.{Heard}
use Rattle.amqp_endpoint_conversation.specs.declared.hearing.Heard.TheVariants.{Asked, Live, Dropped}
use Rattle.amqp_endpoint_conversation.specs.declared.hearing.HearRefusal.{HearRefusal}
use Rattle.amqp_endpoint_conversation.specs.declared.hearing.HearRefusal.TheVariants.{Memory, NotFound, Asked as AskedRefuses, Session}
use Rattle.amqp_endpoint_conversation.specs.Beginning.{AcceptsHere, BeginAnswered, BeginsHere, Sessions}
use Rattle.amqp_endpoint_conversation.specs.Ending.{EndAnswered, EndReply, EndsHere, end_frame}
use Rattle.amqp_endpoint_conversation.specs.Faults.{fault_error}
use Rattle.amqp_endpoint_conversation.specs.Hearing.{Answered, AnsweredAt, AnsweredIn, FlowTold, LiveAnswered, LiveHears, LiveRefuses, TellsAt, TellsIf, is_due}
use Rattle.amqp_endpoint_conversation.proofs.HearingsFit.{heard-behind}

-- frames behind others are those that were handed out, or none
these : (out out_new frames said : List SessionFrame) → out_new ≡ out ++ frames → out_new ≡ out ++ said
    → frames ≡ said
these out out_new frames said is queued = append_cancel_left out frames said (sym is ∙ queued)

none : (out out_new frames : List SessionFrame) → out_new ≡ out ++ frames → out_new ≡ out → frames ≡ []
none out out_new frames is same = these out out_new frames [] is (same ∙ sym (append-nil out))

module _ {R A T D : Type 0} (gives : Relations R A T D) where
  taken-alone : (old new : State R) (flow : FlowFrame) (r : Result ⊤ SessionError)
      (out out_new frames : List SessionFrame) → out_new ≡ out ++ frames
      → FlowTaken gives old out flow r new out_new → FlowTaken gives old [] flow r new frames
  taken-alone old new flow r out out_new frames is t =
      record {
        told = t.told;
        reply = t.reply;
        base = t.base;
        left = t.left;
        frames = t.frames;
        added = these out out_new frames t.frames is t.added;
        answered = t.answered;
        stepped = t.stepped;
      }

  flow-in : (leads : Bool) (old new : State R) (flow : FlowFrame) (r : Result ⊤ SessionError)
      (out out_new frames : List SessionFrame) → out_new ≡ out ++ frames
      → FlowInSession gives leads old out flow r new out_new → FlowInSession gives leads old [] flow r new frames
  flow-in false old new flow r out out_new frames is t =
      record {
        refused = t.refused;
        base = t.base;
        stepped = t.stepped;
        same = none out out_new frames is t.same;
      }
  flow-in true old new flow (Err NoMemory) out out_new frames is t = (t.0, none out out_new frames is t.1)
  flow-in true old new flow (Ok done) out out_new frames is t =
      taken-alone old new flow (Ok done) out out_new frames is t
  flow-in true old new flow (Err e) out out_new frames is t =
      taken-alone old new flow (Err e) out out_new frames is t

  flow-at : (asked : Bool) (old new : AskingSession R) (flow : FlowFrame) (r : Result ⊤ SessionError)
      (out out_new frames : List SessionFrame) → out_new ≡ out ++ frames
      → FlowAt gives asked old out flow r new out_new → FlowAt gives asked old [] flow r new frames
  flow-at true old new flow (Ok done) out out_new frames is t =
      (taken-alone old.session new.session _ (Ok done) out out_new frames is t.0, t.1)
  flow-at true old new flow (Err e) out out_new frames is t = (t.0, t.1, none out out_new frames is t.2)
  flow-at false old new flow r out out_new frames is t =
      (flow-in (leads old.session flow.handle) old.session new.session flow r out out_new frames is t.0, t.1)

  flow-heard : (old new : AskingSession R) (flow : FlowFrame) (r : Result (PerformativeTaken A T D) SessionError)
      (out out_new frames : List SessionFrame) → out_new ≡ out ++ frames
      → HearsFlow gives old out flow r new out_new → HearsFlow gives old [] flow r new frames
  flow-heard old new flow (Ok taken.Flow) out out_new frames is h =
      flow-at (is_asked old.asked flow.handle) old new flow (Ok tt) out out_new frames is h
  flow-heard old new flow (Ok other) out out_new frames is h = absurd h
  flow-heard old new flow (Err e) out out_new frames is h =
      flow-at (is_asked old.asked flow.handle) old new flow (Err e) out out_new frames is h

  -- what the peer says in a session
  pub heard-alone : (old new : AskingSession R) (said : LinkPerformative)
      (r : Result (PerformativeTaken A T D) SessionError) (out out_new frames : List SessionFrame)
      → out_new ≡ out ++ frames → Hears gives old out said r new out_new → Hears gives old [] said r new frames
  heard-alone old new (Attach attach named) r out out_new frames is h = (h.0, none out out_new frames is h.1)
  heard-alone old new (Flow flow) r out out_new frames is h = flow-heard old new flow r out out_new frames is h
  heard-alone old new (Transfer transfer payload) r out out_new frames is h = (h.0, none out out_new frames is h.1)
  heard-alone old new (Disposition disposition) r out out_new frames is h = (h.0, none out out_new frames is h.1)
  heard-alone old new (Detach detach) r out out_new frames is h = (h.0, none out out_new frames is h.1)

  live-heard : (old new : Sessions R) (number : ℕ) (before after : Box (AskingSession R)) (said : LinkPerformative)
      (told : Result (PerformativeTaken A T D) SessionError) (out out_new frames : List SessionFrame)
      → out_new ≡ out ++ frames → LiveHears gives old out number before said told after new out_new
      → LiveHears gives old [] number before said told after new frames
  live-heard old new number before after said told out out_new frames is h =
      record {
        heard = heard-alone before.value after.value said told out out_new frames is h.heard;
        stepped = h.stepped;
      }

  refused : (old new : Conversation R) (number : ℕ) (before after : Box (AskingSession R)) (said : LinkPerformative)
      (fault : SessionError) (out out_new frames : List SessionFrame) → out_new ≡ out ++ frames
      → LiveRefuses gives old out number before said fault after new out_new
      → LiveRefuses gives old [] number before said fault after new frames
  refused old new number before after said fault out out_new frames is r =
      record {
        hears =
            live-heard old.sessions new.sessions number before after said (Err fault) out out_new frames is r.hears;
        is_fault = r.is_fault;
        rest = r.rest;
      }

module _ {R : Type 0} where
  -- an own End, behind so many frames of those that were handed out
  pub ended-behind : (old new : Conversation R) (number : ℕ) (error : Option Error) (session : Box (AskingSession R))
      (out out_mid out_new first frames : List SessionFrame) → out_new ≡ out ++ frames → out_mid ≡ out ++ first
      → EndsHere old out_mid number error session new out_new → EndsHere old first number error session new frames
  ended-behind old new number error session out out_mid out_new first frames is before e =
      record {
        channel = e.channel;
        stepped = e.stepped;
        rest = e.rest;
        queued =
            these out out_new frames (first ++ end_frame e.channel error ∷ []) is
            (e.queued ∙ ap (λ (o : List SessionFrame). o ++ end_frame e.channel error ∷ []) before
            ∙ append_assoc out first (end_frame e.channel error ∷ []));
      }

  pub ended-alone : (old new : Conversation R) (number : ℕ) (error : Option Error) (session : Box (AskingSession R))
      (out out_new frames : List SessionFrame) → out_new ≡ out ++ frames
      → EndsHere old out number error session new out_new → EndsHere old [] number error session new frames
  ended-alone old new number error session out out_new frames is e =
      ended-behind old new number error session out out out_new [] frames is (sym (append-nil out)) e

  -- the peer's End
  end-replied : (stood : Place (Box AskedSession) (Box (AskingSession R))) (ended : Option (Box (AskingSession R)))
      (out out_new frames : List SessionFrame) → out_new ≡ out ++ frames → EndReply stood ended out out_new
      → EndReply stood ended [] frames
  end-replied (place.Live channel session) ended out out_new frames is r =
      (r.0, these out out_new frames (end_frame channel None ∷ []) is r.1)
  end-replied stood ended out out_new frames is r = (r.0, none out out_new frames is r.1)

  pub end-alone : (old new : Conversation R) (channel : IncomingChannel) (end : End)
      (result : Result (EndHeard R) ConnectionError) (out out_new frames : List SessionFrame)
      → out_new ≡ out ++ frames → EndAnswered old out channel end result new out_new
      → EndAnswered old [] channel end result new frames
  end-alone old new channel end (Ok heard) out out_new frames is t =
      record {
        stood = t.stood;
        stepped = t.stepped;
        reply = end-replied t.stood heard.ended out out_new frames is t.reply;
        rest = t.rest;
      }
  end-alone old new channel end (Err connection.NotFound) out out_new frames is t =
      (t.0, t.1, none out out_new frames is t.2)
  end-alone old new channel end (Err connection.Memory) out out_new frames is t =
      (t.0, none out out_new frames is t.1)
  end-alone old new channel end (Err e) out out_new frames is t = absurd t

module _ {R A T D : Type 0} (gives : Relations R A T D) where
  -- own Begins
  pub begun-alone : (old new : Conversation R) (number : ℕ) (out out_new frames : List SessionFrame)
      → out_new ≡ out ++ frames → BeginsHere gives old out number new out_new
      → BeginsHere gives old [] number new frames
  begun-alone old new number out out_new frames is b =
      record {
        channel = b.channel;
        session = b.session;
        frame = b.frame;
        begun = b.begun;
        stepped = b.stepped;
        rest = b.rest;
        queued = these out out_new frames (b.frame ∷ []) is b.queued;
      }

  pub accepted-alone : (old new : Conversation R) (channel : IncomingChannel) (number : ℕ)
      (out out_new frames : List SessionFrame) → out_new ≡ out ++ frames
      → AcceptsHere gives old out channel number new out_new → AcceptsHere gives old [] channel number new frames
  accepted-alone old new channel number out out_new frames is a =
      record {
        asked = a.asked;
        incoming = a.incoming;
        wanted = a.wanted;
        outgoing = a.outgoing;
        session = a.session;
        frame = a.frame;
        mid = a.mid;
        accepted = a.accepted;
        stepped = a.stepped;
        taken_over = a.taken_over;
        rest = a.rest;
        queued = these out out_new frames (a.frame ∷ []) is a.queued;
      }

  -- the peer's Begin
  pub begin-alone : (old new : Conversation R) (channel : IncomingChannel) (begin : Begin)
      (result : Result BeginHeard BeginRefusal) (out out_new frames : List SessionFrame) → out_new ≡ out ++ frames
      → BeginAnswered gives old out channel begin result new out_new
      → BeginAnswered gives old [] channel begin result new frames
  begin-alone old new channel begin (Ok (begun.Asked number)) out out_new frames is t =
      (t.0, none out out_new frames is t.1)
  begin-alone old new channel begin (Ok (begun.Begun number)) out out_new frames is t =
      let took = t.takes in
      let first = (took.taken).0 in
      record {
        mid = t.mid;
        led = t.led;
        takes =
            record {
              before = took.before;
              after = took.after;
              taken = (
                record {
                  base = first.base;
                  left = first.left;
                  frames = first.frames;
                  added = these out out_new frames first.frames is first.added;
                  stepped = first.stepped;
                },
                (took.taken).1,
              );
              stepped = took.stepped;
            };
        rest = t.rest;
      }
  begin-alone old new channel begin (Ok begun.Dropped) out out_new frames is t =
      (t.0, none out out_new frames is t.1)
  begin-alone old new channel begin (Err (unbegun.Connection connection.Memory)) out out_new frames is t =
      (none out out_new frames is t.0, t.1)
  begin-alone old new channel begin (Err (unbegun.Connection e)) out out_new frames is t =
      (t.0, t.1, none out out_new frames is t.2)
  begin-alone old new channel begin (Err (unbegun.Session number IllegalState)) out out_new frames is t =
      (t.0, none out out_new frames is t.1)
  begin-alone old new channel begin (Err (unbegun.Session number e)) out out_new frames is t = absurd t

  -- what the peer says in a session that has begun
  live-alone : (old new : Conversation R) (number : ℕ) (before : Box (AskingSession R)) (said : LinkPerformative)
      (result : Result (Heard A T D) (HearRefusal R)) (out out_new frames : List SessionFrame)
      → out_new ≡ out ++ frames → LiveAnswered gives old out number before said result new out_new
      → LiveAnswered gives old [] number before said result new frames
  live-alone old new number before said (Ok (Live n told)) out out_new frames is t = (
    t.0,
    record {
      after = (t.1).after;
      hears =
          live-heard gives old.sessions new.sessions number before (t.1).after said (Ok told) out out_new frames is
          (t.1).hears;
      rest = (t.1).rest;
    },
  )
  live-alone old new number before said (Ok (Asked n)) out out_new frames is t = absurd t
  live-alone old new number before said (Ok (Dropped n)) out out_new frames is t = absurd t
  live-alone old new number before said (Err Memory) out out_new frames is (inl t) =
      inl (
        heard-alone gives before.value before.value said (Err NoMemory) out out [] (sym (append-nil out)) t.0,
        t.1,
        none out out_new frames is t.2,
      )
  live-alone old new number before said (Err Memory) out out_new frames is (inr t) =
      inr (record {
        fault = t.fault;
        after = t.after;
        refuses = refused gives old new number before t.after said t.fault out out_new frames is t.refuses;
      })
  live-alone old new number before said (Err NotFound) out out_new frames is t = absurd t
  live-alone old new number before said (Err (AskedRefuses n e)) out out_new frames is t = absurd t
  live-alone old new number before said (Err (Session n fault session)) out out_new frames is t =
      let f = t.1 in
      let (first, queued) =
      heard-behind gives before.value session.value said (Err fault) out f.out_mid (((f.refuses).hears).heard) in (
        t.0,
        record {
          mid = f.mid;
          out_mid = first;
          refuses = refused gives old f.mid number before session said fault out f.out_mid first queued f.refuses;
          ends =
              ended-behind f.mid new number (Some (fault_error fault)) session out f.out_mid out_new first frames is
              queued f.ends;
        },
      )

  at-alone : (old new : Conversation R) (number : ℕ) (asked : Option (Box AskedSession))
      (live : Option (Box (AskingSession R))) (said : LinkPerformative)
      (result : Result (Heard A T D) (HearRefusal R)) (out out_new frames : List SessionFrame)
      → out_new ≡ out ++ frames → AnsweredAt gives asked live old out number said result new out_new
      → AnsweredAt gives asked live old [] number said result new frames
  at-alone old new number (Some asked) live said result out out_new frames is t =
      (t.0, none out out_new frames is t.1)
  at-alone old new number None (Some session) said result out out_new frames is t =
      live-alone old new number session said result out out_new frames is t
  at-alone old new number None None said result out out_new frames is t =
      (t.0, t.1, none out out_new frames is t.2)

  in-alone : (old new : Conversation R) (number : Option ℕ) (said : LinkPerformative)
      (result : Result (Heard A T D) (HearRefusal R)) (out out_new frames : List SessionFrame)
      → out_new ≡ out ++ frames → AnsweredIn gives number old out said result new out_new
      → AnsweredIn gives number old [] said result new frames
  in-alone old new None said result out out_new frames is t = (t.0, t.1, none out out_new frames is t.2)
  in-alone old new (Some number) said result out out_new frames is t =
      at-alone old new number (asked_at old.sessions number) (live_at old.sessions number) said result out out_new
      frames is t

  pub answer-alone : (old new : Conversation R) (channel : IncomingChannel) (said : LinkPerformative)
      (result : Result (Heard A T D) (HearRefusal R)) (out out_new frames : List SessionFrame)
      → out_new ≡ out ++ frames → Answered gives old out channel said result new out_new
      → Answered gives old [] channel said result new frames
  answer-alone old new channel said result out out_new frames is t =
      in-alone old new (reached old.sessions channel.0) said result out out_new frames is t

  -- a Flow that is due
  told-if : (due : Bool) (old new : Conversation R) (number : ℕ) (before : Box (AskingSession R))
      (out out_new frames : List SessionFrame) → out_new ≡ out ++ frames
      → TellsIf gives due old out number before new out_new → TellsIf gives due old [] number before new frames
  told-if true old new number before out out_new frames is t =
      record {
        after = t.after;
        frame = t.frame;
        tells = t.tells;
        links = t.links;
        stepped = t.stepped;
        rest = t.rest;
        queued = these out out_new frames (t.frame ∷ []) is t.queued;
      }
  told-if false old new number before out out_new frames is t = (t.0, none out out_new frames is t.1)

  told-at : (live : Option (Box (AskingSession R))) (old new : Conversation R) (number : ℕ)
      (out out_new frames : List SessionFrame) → out_new ≡ out ++ frames
      → TellsAt gives live old out number new out_new → TellsAt gives live old [] number new frames
  told-at None old new number out out_new frames is t = (t.0, none out out_new frames is t.1)
  told-at (Some session) old new number out out_new frames is t =
      told-if (is_due gives session.value) old new number session out out_new frames is t

  pub flow-alone : (old new : Conversation R) (number : ℕ) (out out_new frames : List SessionFrame)
      → out_new ≡ out ++ frames → FlowTold gives old out number new out_new → FlowTold gives old [] number new frames
  flow-alone old new number out out_new frames is t =
      told-at (live_at old.sessions number) old new number out out_new frames is t
