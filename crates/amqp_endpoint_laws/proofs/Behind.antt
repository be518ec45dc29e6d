-- What a session does behind something, one step after the other, by which no link is lost or gained (part 2, 2.6.3,
-- 2.6.6, 2.6.7, 2.6.13).
use Rattle.std.proofs.Common.{◌≡◌, ◌⊎◌, inl, inr, ℕ, Bool, true, false, List, [], ◌∷◌, ◌++◌, Option, Some, None}
use Rattle.std.proofs.Common.{ap, append-nil, refl, subst, sym, ◌∙◌}
use Rattle.std.specs.Prelude.{option_to_list}
use Rattle.amqp_session_types.specs.declared.channels.OutgoingChannel.{OutgoingChannel}
use Rattle.amqp_session_types.specs.declared.error.Error.{Error}
use Rattle.amqp_session_types.specs.declared.handles.OutputHandle.{OutputHandle}
use Rattle.amqp_session_performatives.specs.declared.session_frame.SessionFrame.{SessionFrame}
use Rattle.amqp_session_core.specs.Batch.{Transfers}
use Rattle.amqp_session_core.specs.History.{History}
use Rattle.amqp_session_core.specs.State.{link_at}
use Rattle.amqp_session_core.specs.Steps.{Act, Changes, Reserves, SendsBehind, SendsTransfers, Step}
use Rattle.amqp_session_core.specs.declared.batch.BehindFrame.TheVariants as behind
use Rattle.amqp_link_base.specs.declared.detached.Detached.{Detached}
use Rattle.amqp_link.specs.declared.relay.AttachTold.{AttachTold}
use Rattle.amqp_link_receiver.specs.declared.answer.Told.{Told}
use Rattle.amqp_endpoint_fitting.specs.Handed.{handed, handed_of}
use Rattle.amqp_endpoint_fitting.proofs.Handing.{step-channel}
use Rattle.amqp_endpoint_attached.specs.Detaching.{is_there, own_detach}
use Rattle.amqp_endpoint_attached.specs.Linked.{Linked, LinksIn, end_at, end_gives, gives}
use Rattle.amqp_endpoint_conversation.specs.Inside.{AcceptsInside, AreOn, SetNoWindow, accepted_of, said_in}
use Rattle.amqp_endpoint_conversation.proofs.Inside.{at-once-on, both-on, handed-both, history-both, left-on}
use Rattle.amqp_endpoint_link_hearing.specs.InSession.{GoesOn}
use Rattle.amqp_endpoint_linking.specs.Linking.{Link, Talk}
use Rattle.amqp_endpoint_messages.specs.All.{TellsIn, behind_told}
use Rattle.amqp_endpoint_messages.specs.GivingUp.{ClosedFor, ClosesIf}
use Rattle.amqp_endpoint_messages.specs.MadeReady.{MadeRoom}
use Rattle.amqp_endpoint_model.specs.declared.error.EndpointError.{EndpointError}
use Rattle.amqp_endpoint_model.specs.declared.event.Event.{Event}
use Rattle.amqp_endpoint_laws.proofs.HoldingDone.{told-holds}
use Rattle.amqp_endpoint_laws.proofs.HoldingEnds.{Stays, detach-holds, held_link}
use Rattle.amqp_endpoint_laws.proofs.HoldingInside.{Rests, all-same, batch-stays, behind-stays, changed-stays}
use Rattle.amqp_endpoint_laws.proofs.HoldingInside.{reserves-stays, rests-on}
use Rattle.amqp_endpoint_laws.proofs.Numbers.{KeepNumbers, kept-on, same-kept, step-kept}

abbrev pub LinkAct : Type 0
LinkAct = Act Link AttachTold Told Detached

-- room is made, a link is changed, which keeps its number, and what it holds or neither is attached nor waits any
-- longer, such transfers are sent, or a frame of a link is sent
abbrev pub IsBehind : (Transfers → Type 0) → LinkAct → Type 0
IsBehind Such (Reserves count) = Unit {0}
IsBehind Such (Changes handle before after) =
    (after.number ≡ before.number) × Stays (held_link (Some before)) (held_link (Some after))
IsBehind Such (SendsTransfers handle batch left frames) = Such batch
IsBehind Such (SendsBehind handle frame left answer) = Unit {0}
IsBehind Such step = ⊥

abbrev pub AreBehind : (Transfers → Type 0) → List LinkAct → Type 0
AreBehind Such [] = Unit {0}
AreBehind Such (step ∷ steps) = IsBehind Such step × AreBehind Such steps

-- a session goes on by such steps, which hand these frames out
pub record DoneBehind (Such : Transfers → Type 0) (old : LinksIn) (frames : List SessionFrame) (new : LinksIn)
    : Type 0 where
  pub steps : List LinkAct
  pub history : History gives old steps new
  pub are : AreBehind Such steps
  pub says : frames ≡ handed_of steps

-- and nothing else changes
pub record BehindBy (Such : Transfers → Type 0) (frames : List SessionFrame) (old new : Linked) : Type 0 where
  pub done : DoneBehind Such old.session frames new.session
  pub rest : new ≡ record old { session = new.session }

pub same-rest : (old new : Linked) → new ≡ old → new ≡ record old { session = new.session }
same-rest old new same = subst (λ (x : Linked). x ≡ record old { session = x.session }) (sym same) refl

pub rest-on : (old mid new : Linked) → mid ≡ record old { session = mid.session }
    → new ≡ record mid { session = new.session } → new ≡ record old { session = new.session }
rest-on old mid new first later = later ∙ ap (λ (x : Linked). record x { session = new.session }) first

-- one after the other
pub are-both : (Such : Transfers → Type 0) (first later : List LinkAct) → AreBehind Such first → AreBehind Such later
    → AreBehind Such (first ++ later)
are-both Such [] later none are = are
are-both Such (step ∷ first) later (one, others) are = (one, are-both Such first later others are)

-- by such steps the peer's window stays as it is, and all that is handed out is on the session's channel
step-still : (Such : Transfers → Type 0) (step : LinkAct) → IsBehind Such step → SetNoWindow (step ∷ [])
step-still Such (Reserves count) is = (tt, tt)
step-still Such (Changes handle before after) is = (tt, tt)
step-still Such (SendsTransfers handle batch left frames) is = (tt, tt)
step-still Such (SendsBehind handle frame left answer) is = (tt, tt)
step-still Such step is = absurd is

are-still : (Such : Transfers → Type 0) (steps : List LinkAct) → AreBehind Such steps → SetNoWindow steps
are-still Such [] are = tt
are-still Such (step ∷ steps) (one, others) = ((step-still Such step one).0, are-still Such steps others)

step-on : (Such : Transfers → Type 0) (step : LinkAct) (old new : LinksIn) → Step gives old step new
    → IsBehind Such step → AreOn old.fields.channel.0 (handed step)
step-on Such (Reserves count) old new s is = tt
step-on Such (Changes handle before after) old new s is = tt
step-on Such (SendsTransfers handle batch left frames) old new s is =
    subst (AreOn old.fields.channel.0) (sym s.1) (left-on old.fields left)
step-on Such (SendsBehind handle frame left answer) old new s is =
    subst (λ (a : Option SessionFrame). AreOn old.fields.channel.0 (option_to_list a)) (sym s.1)
    (at-once-on old.fields _ left)
step-on Such step old new s is = absurd is

are-on : (Such : Transfers → Type 0) (steps : List LinkAct) (old new : LinksIn) → History gives old steps new
    → AreBehind Such steps → AreOn old.fields.channel.0 (handed_of steps)
are-on Such [] old new same are = tt
are-on Such (step ∷ steps) old new (mid, stepped, rest) (one, others) =
    both-on old.fields.channel.0 (handed step) (handed_of steps) (step-on Such step old mid stepped one)
    (subst (λ (c : OutgoingChannel). AreOn c.0 (handed_of steps)) (step-channel gives step old mid stepped)
    (are-on Such steps mid new rest others))

-- each link keeps its number
step-numbers : (Such : Transfers → Type 0) (step : LinkAct) (old new : LinksIn) → Step gives old step new
    → IsBehind Such step → KeepNumbers old new
step-numbers Such (Reserves count) old new s is = step-kept end_gives (Reserves count) old new s tt
step-numbers Such (Changes handle before after) old new s is =
    step-kept end_gives (Changes handle before after) old new s is.0
step-numbers Such (SendsTransfers handle batch left frames) old new s is =
    step-kept end_gives (SendsTransfers handle batch left frames) old new s tt
step-numbers Such (SendsBehind handle frame left answer) old new s is =
    step-kept end_gives (SendsBehind handle frame left answer) old new s tt
step-numbers Such step old new s is = absurd is

are-numbers : (Such : Transfers → Type 0) (steps : List LinkAct) (old new : LinksIn) → History gives old steps new
    → AreBehind Such steps → KeepNumbers old new
are-numbers Such [] old new same are = same-kept old new same
are-numbers Such (step ∷ steps) old new (mid, stepped, rest) (one, others) =
    kept-on old mid new (step-numbers Such step old mid stepped one) (are-numbers Such steps mid new rest others)

-- what the links hold stays, or is given up with its link, and the peer's handles lead where they led
step-rests : (Such : Transfers → Type 0) (step : LinkAct) (old new : LinksIn) → Step gives old step new
    → IsBehind Such step → Rests old new
step-rests Such (Reserves count) old new s is = reserves-stays old new count s
step-rests Such (Changes handle before after) old new s is = changed-stays old new handle before after s is.1
step-rests Such (SendsTransfers handle batch left frames) old new s is = batch-stays old new handle batch left frames s
step-rests Such (SendsBehind handle frame left answer) old new s is = behind-stays old new handle frame left answer s
step-rests Such step old new s is = absurd is

are-rests : (Such : Transfers → Type 0) (steps : List LinkAct) (old new : LinksIn) → History gives old steps new
    → AreBehind Such steps → Rests old new
are-rests Such [] old new same are = all-same old new same
are-rests Such (step ∷ steps) old new (mid, stepped, rest) (one, others) =
    rests-on old mid new (step-rests Such step old mid stepped one) (are-rests Such steps mid new rest others)

step-routes : (Such : Transfers → Type 0) (step : LinkAct) (old new : LinksIn) → Step gives old step new
    → IsBehind Such step → new.routes ≡ old.routes
step-routes Such (Reserves count) old new s is = ap (λ (x : LinksIn). x.routes) s.1
step-routes Such (Changes handle before after) old new s is = ap (λ (x : LinksIn). x.routes) s.1
step-routes Such (SendsTransfers handle batch left frames) old new s is = ap (λ (x : LinksIn). x.routes) s.2
step-routes Such (SendsBehind handle frame left answer) old new s is = ap (λ (x : LinksIn). x.routes) s.2
step-routes Such step old new s is = absurd is

are-routes : (Such : Transfers → Type 0) (steps : List LinkAct) (old new : LinksIn) → History gives old steps new
    → AreBehind Such steps → new.routes ≡ old.routes
are-routes Such [] old new same are = ap (λ (x : LinksIn). x.routes) same
are-routes Such (step ∷ steps) old new (mid, stepped, rest) (one, others) =
    are-routes Such steps mid new rest others ∙ step-routes Such step old mid stepped one

-- whatever the transfers are that are sent
module _ {Such : Transfers → Type 0} where
  unfoldable pub done-on : (old mid new : LinksIn) (first later frames : List SessionFrame) → frames ≡ first ++ later
      → DoneBehind Such old first mid → DoneBehind Such mid later new → DoneBehind Such old frames new
  done-on old mid new first later frames is d e =
      record {
        steps = d.steps ++ e.steps;
        history = history-both gives d.steps e.steps old mid new d.history e.history;
        are = are-both Such d.steps e.steps d.are e.are;
        says =
            is ∙ ap (λ (fs : List SessionFrame). fs ++ later) d.says
            ∙ ap (λ (fs : List SessionFrame). handed_of d.steps ++ fs) e.says ∙ sym (handed-both d.steps e.steps);
      }

  unfoldable pub none-done : (old new : LinksIn) (frames : List SessionFrame) → new ≡ old → frames ≡ []
      → DoneBehind Such old frames new
  none-done old new frames same none = record { steps = []; history = same; are = tt; says = none }

  unfoldable pub one-done : (step : LinkAct) (old new : LinksIn) (frames : List SessionFrame) → Step gives old step new
      → IsBehind Such step → frames ≡ handed step → DoneBehind Such old frames new
  one-done step old new frames stepped is said =
      record {
        steps = step ∷ [];
        history = (new, stepped, refl);
        are = (is, tt);
        says = said ∙ sym (append-nil (handed step));
      }

  unfoldable pub behind-on : (old mid new : Linked) (first later frames : List SessionFrame) → frames ≡ first ++ later
      → BehindBy Such first old mid → BehindBy Such later mid new → BehindBy Such frames old new
  behind-on old mid new first later frames is b c =
      record {
        done = done-on old.session mid.session new.session first later frames is b.done c.done;
        rest = rest-on old mid new b.rest c.rest;
      }

  -- a link tells of messages that ended
  unfoldable pub tells-done : (count : ℕ) (handle : OutputHandle) (link : Option Link) (old new : LinksIn)
      → TellsIn count handle link old new → DoneBehind Such old [] new
  tells-done count handle None old new same = none-done old new [] same refl
  tells-done count handle (Some link) old new stepped =
      one-done (Changes handle.0 link (record link { link = behind_told count link.link })) old new [] stepped
      (refl, inl (told-holds link.number count link.link)) refl

  -- it sends its closing Detach, or is closed already
  unfoldable pub closes-behind : (there : Bool) (why : Error) (handle : OutputHandle) (frames : List SessionFrame)
      (old new : Linked) → ClosesIf there (Some why) old handle frames new → BehindBy Such frames old new
  closes-behind true why handle frames old new d =
      let s = d.sent in
      record {
        done = record {
          steps =
              Changes handle.0 (record { number = d.number; link = d.before })
              (record { number = d.number; link = d.after })
              ∷ SendsBehind handle (behind.Detach (own_detach handle true (Some why))) s.left s.answer ∷ [];
          history = (s.mid, s.changed, (new.session, s.sent, refl));
          are = ((refl, inr (detach-holds d.number d.before d.after true d.moved)), (tt, tt));
          says = d.added ∙ s.frames_are ∙ sym (append-nil (option_to_list s.answer));
        };
        rest = s.rest;
      }
  closes-behind false why handle frames old new c =
      record {
        done = none-done old.session new.session frames (ap (λ (x : Linked). x.session) c.0) c.1;
        rest = same-rest old new c.0;
      }

  -- it is closed for an error, and what that ends is told
  unfoldable pub closed-behind : (session : ℕ) (error : EndpointError) (count : ℕ) (handle : OutputHandle) (why : Error)
      (frames : List SessionFrame) (events : List Event) (old new : Linked)
      → ClosedFor session error count handle why frames events old new → BehindBy Such frames old new
  closed-behind session error count handle why frames events old new c =
      behind-on old c.mid new frames [] frames (sym (append-nil frames))
      (closes-behind (is_there (end_at old handle)) why handle frames old c.mid c.closes)
      (record {
        done =
            tells-done count handle (link_at c.mid.session handle.0) c.mid.session new.session c.tells.tells;
        rest = c.tells.rest;
      })

  -- room is made
  pub room-behind : (old new : Linked) → MadeRoom old new → BehindBy Such [] old new
  room-behind old new r =
      record {
        done = one-done (Reserves r.made.count) old.session new.session [] r.made.reserves tt refl;
        rest = r.rest;
      }

  pub behind-inside : (old : LinksIn) (frames : List SessionFrame) (new : LinksIn) (d : DoneBehind Such old frames new)
      → AcceptsInside gives (accepted_of d.steps) old frames new
  behind-inside old frames new d =
      record {
        steps = d.steps;
        history = d.history;
        still = are-still Such d.steps d.are;
        accepts = refl;
        says = ap said_in d.says;
        on =
            subst (AreOn old.fields.channel.0) (sym d.says) (are-on Such d.steps old new d.history d.are);
      }

  pub behind-numbers : (frames : List SessionFrame) (old new : Linked) → BehindBy Such frames old new
      → KeepNumbers old.session new.session
  behind-numbers frames old new b = are-numbers Such b.done.steps old.session new.session b.done.history b.done.are

  pub behind-rests : (frames : List SessionFrame) (old new : Linked) → BehindBy Such frames old new
      → Rests old.session new.session
  behind-rests frames old new b = are-rests Such b.done.steps old.session new.session b.done.history b.done.are

  pub behind-routes : (frames : List SessionFrame) (old new : Linked) → BehindBy Such frames old new
      → new.session.routes ≡ old.session.routes
  behind-routes frames old new b = are-routes Such b.done.steps old.session new.session b.done.history b.done.are

-- nothing is done behind it, or the session with this number goes on so
abbrev pub FollowsBy : (Transfers → Type 0) → ℕ → List SessionFrame → Talk → Talk → Type 0
FollowsBy Such number frames old new = ((frames ≡ []) × (new ≡ old)) ⊎ GoesOn (BehindBy Such frames) old number new

-- so it is with what a session does
pub goes-so : (Does DoesSo : Linked → Linked → Type 0)
    → ((before after : Linked) → Does before after → DoesSo before after) → (old : Talk) (session : ℕ) (new : Talk)
    → GoesOn Does old session new → GoesOn DoesSo old session new
goes-so Does DoesSo so old session new g =
    record {
      before = g.before;
      after = g.after;
      done = so g.before.value g.after.value g.done;
      stepped = g.stepped;
      rest = g.rest;
    }
