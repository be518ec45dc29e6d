-- What a link does once it took the peer's Attach is done by steps of its session that bring what fits.
use Rattle.std.proofs.Common.{◌≡◌, inl, inr, ℕ, Bool, true, false, List, [], ◌∷◌, ◌++◌, Option, Some, None, refl, sym}
use Rattle.std.proofs.Common.{◌<◌, ◌≤◌, ap, subst, ◌∙◌, append-nil, append_assoc}
use Rattle.std.specs.Prelude.{◌^◌, All, map}
use Rattle.std.proofs.lemmas.List.Elements.{All-head, All-tail}
use Rattle.amqp_session_types.specs.declared.error.Error.{Error}
use Rattle.amqp_session_types.specs.declared.handles.OutputHandle.{OutputHandle}
use Rattle.amqp_session_performatives.specs.declared.detach.Detach.{Detach}
use Rattle.amqp_session_performatives.specs.declared.link_flow.LinkFlow.{LinkFlow}
use Rattle.amqp_session_performatives.specs.declared.session_frame.SessionFrame.{SessionFrame}
use Rattle.amqp_session_performatives.specs.declared.session_frame.SessionFrameBody.TheVariants as body
use Rattle.amqp_session_core.specs.State.{link_at}
use Rattle.amqp_session_core.specs.Steps.{Changes, SendsBehind, SendsTransfers, Step}
use Rattle.amqp_session_core.specs.declared.batch.BehindFrame.TheVariants as behind
use Rattle.amqp_session_core.specs.declared.fields.SessionFields.{SessionFields}
use Rattle.amqp_link_base.specs.declared.detached.Detached.{Detached}
use Rattle.amqp_link_receiver.specs.declared.answer.Told.{Told}
use Rattle.amqp_link_unsettled.specs.declared.exchanging.Abort.{Abort}
use Rattle.amqp_link.specs.Ends.{flowed}
use Rattle.amqp_link.specs.declared.end.End.{End}
use Rattle.amqp_link.specs.declared.relay.AttachTold.{AttachTold}
use Rattle.amqp_endpoint_fitting.proofs.Frames.{detach_fits, larger_fits, not_allowed-short}
use Rattle.amqp_endpoint_fitting.specs.Fits.{BehindFits, UnitFits}
use Rattle.amqp_endpoint_fitting.specs.Handed.{AllAskingEndFit, AllAskingHand, AllAskingSendFit}
use Rattle.amqp_endpoint_links.specs.History.{AskingAct, AskingHistory, InSession}
use Rattle.amqp_endpoint_links.specs.declared.numbered.Numbered.{Numbered}
use Rattle.amqp_endpoint_model.specs.State.{error_of, frame_of}
use Rattle.amqp_endpoint_model.specs.Step.{not_allowed}
use Rattle.amqp_endpoint_model.specs.declared.error.EndpointError.{EndpointError}
use Rattle.amqp_endpoint_model.specs.declared.event.Event.{Event}
use Rattle.amqp_endpoint_attached.specs.Detaching.{DetachGiven, is_there, own_detach}
use Rattle.amqp_endpoint_attached.specs.Kept.{Replies, TakesBy, TakesKept}
use Rattle.amqp_endpoint_attached.specs.Linked.{Linked, LinksIn, end_at, gives}
use Rattle.amqp_endpoint_attached.specs.Links.{with_number}
use Rattle.amqp_endpoint_attached.proofs.Fitting.{reply_plain}
use Rattle.amqp_endpoint_messages.specs.All.{TellsFirst, TellsIn, behind_told}
use Rattle.amqp_endpoint_messages.specs.GivingUp.{ClosedFor, ClosesIf, GivesUp, HandsEach, batch_of, fitting}

abbrev pub LinkAct : Type 0
LinkAct = AskingAct (Numbered End) AttachTold Told Detached

-- what is done in a session is done by steps that bring what fits
pub record Done (limit : ℕ) (old : Linked) (frames : List SessionFrame) (new : Linked) : Type 0 where
  pub steps : List LinkAct
  pub history : AskingHistory gives old steps new
  pub sends : AllAskingSendFit old.session.fields.channel.0 limit steps
  pub ends : AllAskingEndFit limit steps
  pub hand : AllAskingHand steps frames

pub unchanged : (limit : ℕ) (old : Linked) (frames : List SessionFrame) (new : Linked) → new ≡ old → frames ≡ []
    → Done limit old frames new
unchanged limit old frames new is none =
    record { steps = []; history = is; sends = tt; ends = tt; hand = none }

-- the own Detach of a link fits every peer's limit
abbrev pub Fits : ℕ → Linked → OutputHandle → Bool → Option Error → Type 0
Fits limit old handle closed error =
    BehindFits old.session.fields.channel.0 limit (behind.Detach (own_detach handle closed error))

-- so does that of one that is closed for what isn't allowed
pub not-allowed-fits : (limit : ℕ) (s : Linked) (handle : OutputHandle) → handle.0 < 2 ^ 32 → 512 ≤ limit
    → Fits limit s handle true (Some (error_of not_allowed))
not-allowed-fits limit s handle small least =
    let said : Detach = own_detach handle true (Some (error_of not_allowed)) in
    larger_fits limit (frame_of (record { channel = s.session.fields.channel.0; body = body.Detach said })) least
    (detach_fits s.session.fields.channel.0 said (record { handle = small; error = not_allowed-short }))

-- a link sends its Detach, as it is changed
pub given : (limit : ℕ) (old : Linked) (handle : OutputHandle) (closed : Bool) (error : Option Error)
    (frames : List SessionFrame) (new : Linked) → Fits limit old handle closed error
    → DetachGiven old handle closed error [] new frames → Done limit old frames new
given limit old handle closed error frames new fit g =
    let s = g.sent in
    record {
      steps =
          InSession (Changes handle.0 (record { number = g.number; link = g.before })
          (record { number = g.number; link = g.after }))
          ∷ InSession (SendsBehind handle (behind.Detach (own_detach handle closed error)) s.left s.answer) ∷ [];
      history =
          (record old { session = s.mid }, (s.changed, refl), (new, (s.sent, s.rest), refl));
      sends = (tt, (fit, tt));
      ends = (tt, (tt, tt));
      hand =
          ([], g.frames, refl, (g.frames, [], s.frames_are, refl, sym (append-nil g.frames)), g.added);
    }

-- one after the other
history-both : (first later : List LinkAct) (old mid new : Linked) → AskingHistory gives old first mid
    → AskingHistory gives mid later new → AskingHistory gives old (first ++ later) new
history-both [] later old mid new same h = subst (λ (s : Linked). AskingHistory gives s later new) same h
history-both (step ∷ steps) later old mid new (next, one, rest) h =
    (next, one, history-both steps later next mid new rest h)

sends-both : (channel limit : ℕ) (first later : List LinkAct) → AllAskingSendFit channel limit first
    → AllAskingSendFit channel limit later → AllAskingSendFit channel limit (first ++ later)
sends-both channel limit [] later f l = l
sends-both channel limit (step ∷ steps) later f l = (f.0, sends-both channel limit steps later f.1 l)

ends-both : (limit : ℕ) (first later : List LinkAct) → AllAskingEndFit limit first → AllAskingEndFit limit later
    → AllAskingEndFit limit (first ++ later)
ends-both limit [] later f l = l
ends-both limit (step ∷ steps) later f l = (f.0, ends-both limit steps later f.1 l)

hand-both : (first later : List LinkAct) (a b : List SessionFrame) → AllAskingHand first a → AllAskingHand later b
    → AllAskingHand (first ++ later) (a ++ b)
hand-both [] later a b none h = subst (λ (fs : List SessionFrame). AllAskingHand later (fs ++ b)) (sym none) h
hand-both (step ∷ steps) later a b (f, l, hands, rest, is) h =
    let all = ap (λ (fs : List SessionFrame). fs ++ b) is ∙ append_assoc f l b in
    (f, l ++ b, hands, hand-both steps later l b rest h, all)

-- by which the session's channel stays
pub record Stepped (limit : ℕ) (old : Linked) (frames : List SessionFrame) (new : Linked) : Type 0 where
  pub done : Done limit old frames new
  pub fields : new.session.fields ≡ old.session.fields

pub both : (limit : ℕ) (old mid new : Linked) (a b : List SessionFrame) → Stepped limit old a mid → Stepped limit mid b new
    → Stepped limit old (a ++ b) new
both limit old mid new a b f l =
    let later : AllAskingSendFit old.session.fields.channel.0 limit l.done.steps =
    subst (λ (s : SessionFields). AllAskingSendFit s.channel.0 limit l.done.steps) f.fields l.done.sends in
    record {
      done =
          record {
            steps = f.done.steps ++ l.done.steps;
            history = history-both f.done.steps l.done.steps old mid new f.done.history l.done.history;
            sends = sends-both old.session.fields.channel.0 limit f.done.steps l.done.steps f.done.sends later;
            ends = ends-both limit f.done.steps l.done.steps f.done.ends l.done.ends;
            hand = hand-both f.done.steps l.done.steps a b f.done.hand l.done.hand;
          };
      fields = l.fields ∙ f.fields;
    }

stays : (limit : ℕ) (old new : Linked) (frames : List SessionFrame) → new ≡ old → frames ≡ []
    → Stepped limit old frames new
stays limit old new frames same none =
    record {
      done = unchanged limit old frames new same none;
      fields = ap (λ (s : Linked). s.session.fields) same;
    }

-- a link tells of messages
tells-by : (limit count : ℕ) (handle : OutputHandle) (link : Option (Numbered End)) (old new : Linked)
    → TellsIn count handle link old.session new.session → new ≡ record old { session = new.session }
    → Stepped limit old [] new
tells-by limit count handle None old new same rest =
    stays limit old new [] (rest ∙ ap (λ (s : LinksIn). record old { session = s }) same) refl
tells-by limit count handle (Some link) old new stepped rest =
    record {
      done =
          record {
            steps =
                InSession (Changes handle.0 link (record link { link = behind_told count link.link })) ∷ [];
            history = (new, (stepped, rest), refl);
            sends = (tt, tt);
            ends = (tt, tt);
            hand = ([], [], refl, refl, refl);
          };
      fields = ap (λ (s : LinksIn). s.fields) stepped.1;
    }

pub tells : (limit count : ℕ) (handle : OutputHandle) (link : Option (Numbered End)) (old new : Linked)
    → TellsFirst count handle link old new → Stepped limit old [] new
tells limit count handle link old new t = tells-by limit count handle link old new t.tells t.rest

-- deliveries are given up
record Handing (limit : ℕ) (base : Linked) (old new : LinksIn) (out out_new : List SessionFrame) : Type 0 where
  pub frames : List SessionFrame
  pub queued : out_new ≡ out ++ frames
  pub goes : Stepped limit (record base { session = old }) frames (record base { session = new })

abbrev Fitting : (limit : ℕ) → OutputHandle → ℕ → Abort → Type 0
Fitting limit handle channel abort = All (UnitFits channel limit handle.0) (batch_of handle abort)

hands-each : (limit : ℕ) (base : Linked) (handle : OutputHandle) (aborts : List Abort) (old new : LinksIn)
    (out out_new : List SessionFrame) (stopped : Bool) → ((channel : ℕ) → All (Fitting limit handle channel) aborts)
    → HandsEach handle (map (batch_of handle) aborts) old out stopped new out_new
    → Handing limit base old new out out_new
hands-each limit base handle [] old new out out_new stopped fit (_, same, silent) =
    record {
      frames = [];
      queued = silent ∙ sym (append-nil out);
      goes =
          stays limit (record base { session = old }) (record base { session = new }) []
          (ap (λ (s : LinksIn). record base { session = s }) same) refl;
    }
hands-each limit base handle (abort ∷ aborts) old new out out_new stopped fit (inl (mid, out_mid, one, rest)) =
    let later : Handing limit base mid new out_mid out_new =
    hands-each limit base handle aborts mid new out_mid out_new stopped
    (λ channel. All-tail (Fitting limit handle channel) abort aborts (fit channel)) rest in
    let first : Stepped limit (record base { session = old }) one.frames (record base { session = mid }) =
    record {
      done =
          record {
            steps = InSession (SendsTransfers handle (batch_of handle abort) one.left one.frames) ∷ [];
            history = (record base { session = mid }, (one.stepped, refl), refl);
            sends = (All-head (Fitting limit handle old.fields.channel.0) abort aborts (fit old.fields.channel.0), tt);
            ends = (tt, tt);
            hand = (one.frames, [], refl, refl, sym (append-nil one.frames));
          };
      fields = ap (λ (s : LinksIn). s.fields) one.stepped.2;
    } in
    record {
      frames = one.frames ++ later.frames;
      queued =
          later.queued
          ∙ ap (λ (o : List SessionFrame). o ++ later.frames) one.added
          ∙ append_assoc out one.frames later.frames;
      goes =
          both limit (record base { session = old }) (record base { session = mid }) (record base { session = new })
          one.frames later.frames first later.goes;
    }
hands-each limit base handle (abort ∷ aborts) old new out out_new stopped fit (inr ((_, same, silent), _)) =
    record {
      frames = [];
      queued = silent ∙ sym (append-nil out);
      goes =
          stays limit (record base { session = old }) (record base { session = new }) []
          (ap (λ (s : LinksIn). record base { session = s }) same) refl;
    }

pub gives-up : (limit : ℕ) (handle : OutputHandle) (aborts : List Abort) (old new : Linked) (stuck : Option EndpointError)
    (frames : List SessionFrame) → GivesUp limit handle aborts old [] stuck new frames → Stepped limit old frames new
gives-up limit handle aborts old new stuck frames g =
    let h : Handing limit old old.session new.session [] frames =
    hands-each limit old handle (fitting limit handle aborts) old.session new.session [] frames g.stopped g.fit
    g.hands in
    let so : Stepped limit old h.frames new =
    subst (λ (s : Linked). Stepped limit old h.frames s) (sym g.rest) h.goes in
    subst (λ (fs : List SessionFrame). Stepped limit old fs new) (sym h.queued) so

-- a link is closed
closes-if : (there : Bool) (limit : ℕ) (why : Option Error) (old new : Linked) (handle : OutputHandle)
    (frames : List SessionFrame) → Fits limit old handle true why → ClosesIf there why old handle frames new
    → Stepped limit old frames new
closes-if true limit why old new handle frames fit g =
    record {
      done = given limit old handle true why frames new fit g;
      fields =
          ap (λ (s : LinksIn). s.fields) (g.sent).sent.2
          ∙ ap (λ (s : LinksIn). s.fields) (g.sent).changed.1;
    }
closes-if false limit why old new handle frames fit (same, none) = stays limit old new frames same none

pub closed-for : (limit session : ℕ) (error : EndpointError) (count : ℕ) (handle : OutputHandle) (why : Error)
    (frames : List SessionFrame) (events : List Event) (old new : Linked) → Fits limit old handle true (Some why)
    → ClosedFor session error count handle why frames events old new → Stepped limit old frames new
closed-for limit session error count handle why frames events old new fit c =
    let both_so : Stepped limit old (frames ++ []) new =
    both limit old c.mid new frames []
    (closes-if (is_there (end_at old handle)) limit (Some why) old c.mid handle frames fit c.closes)
    (tells limit count handle (link_at (c.mid).session handle.0) c.mid new c.tells) in
    subst (λ (fs : List SessionFrame). Stepped limit old fs new) (append-nil frames) both_so

-- what was kept of a Flow is taken, and replied to
reply-steps : (limit : ℕ) (handle : OutputHandle) (flow : LinkFlow) (reply : Option LinkFlow) (old new : Linked)
    (mid : LinksIn) (frames : List SessionFrame) (taken : TakesBy handle flow reply old.session mid)
    → Replies gives handle reply mid [] new.session frames → new ≡ record old { session = new.session }
    → Stepped limit old frames new
reply-steps limit handle flow None old new mid frames taken (same, silent) rest =
    record {
      done =
          record {
            steps =
                InSession
                (Changes handle.0 (with_number taken.number taken.before)
                (with_number taken.number (flowed taken.before flow)))
                ∷ [];
            history = (
              new,
              (
                subst
                    (λ (s : LinksIn).
                    Step gives old.session
                    (Changes handle.0 (with_number taken.number taken.before)
                    (with_number taken.number (flowed taken.before flow)))
                    s)
                    (sym same) taken.changed,
                rest,
              ),
              refl,
            );
            sends = (tt, tt);
            ends = (tt, tt);
            hand = ([], [], refl, refl, silent);
          };
      fields = ap (λ (s : LinksIn). s.fields) same ∙ ap (λ (s : LinksIn). s.fields) taken.changed.1;
    }
reply-steps limit handle flow (Some reply) old new mid frames taken r rest =
    record {
      done =
          record {
            steps =
                InSession
                (Changes handle.0 (with_number taken.number taken.before)
                (with_number taken.number (flowed taken.before flow)))
                ∷ InSession
                (SendsBehind handle (behind.Flow (record reply { handle = record { 0 = handle.0 } })) r.sent.left r.frame)
                ∷ [];
            history = (
              record old { session = mid },
              (taken.changed, refl),
              (new, (r.sent.stepped, rest), refl),
            );
            sends = (tt, (reply_plain taken.before flow reply (sym taken.is), tt));
            ends = (tt, (tt, tt));
            hand = ([], frames, refl, (frames, [], r.handed, refl, sym (append-nil frames)), refl);
          };
      fields = ap (λ (s : LinksIn). s.fields) r.sent.stepped.2 ∙ ap (λ (s : LinksIn). s.fields) taken.changed.1;
    }

pub kept-steps : (limit : ℕ) (handle : OutputHandle) (kept : Option LinkFlow) (old new : Linked)
    (frames : List SessionFrame) → TakesKept handle kept old [] new frames → Stepped limit old frames new
kept-steps limit handle None old new frames t =
    stays limit old new frames (t.rest ∙ ap (λ (s : LinksIn). record old { session = s }) t.takes.0) t.takes.1
kept-steps limit handle (Some flow) old new frames t =
    reply-steps limit handle flow t.takes.reply old new t.takes.mid frames t.takes.takes t.takes.replies t.rest

-- the own Detach fits as before
pub fits-still : (limit : ℕ) (old new : Linked) (handle : OutputHandle) (error : Option Error)
    → new.session.fields ≡ old.session.fields → Fits limit old handle true error → Fits limit new handle true error
fits-still limit old new handle error same fit =
    subst
    (λ (s : SessionFields). Fits limit (record old { session = record old.session { fields = s } }) handle true error)
    (sym same) fit
