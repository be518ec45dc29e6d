-- What is done for the link that took a Transfer.
use Rattle.std.proofs.Common.{◌≡◌, ◌≤◌, ℕ, Bool, true, false, List, [], ◌∷◌, ◌++◌, Option, Some, None, Result, IsSome}
use Rattle.std.proofs.Common.{OnOk, refl, sym, ap, subst, ◌∙◌, append-nil, append_assoc, length, drop}
use Rattle.std.specs.Prelude.{⊤, All, IfErr, IfSome, if◌then◌else◌, is_some, option_to_list, slice_index_or}
use Rattle.std.proofs.lemmas.List.Elements.{All-append, All-cons, All-head, All-nil}
use Rattle.std.proofs.lemmas.Option.{none-some, same_Some}
use Rattle.std.specs.FinMap as map
use Rattle.amqp_session_types.specs.declared.error.Error.{Error}
use Rattle.amqp_session_types.specs.declared.handles.OutputHandle.{OutputHandle}
use Rattle.amqp_session_performatives.specs.declared.session_frame.SessionFrame.{SessionFrame}
use Rattle.amqp_session_core.specs.State.{live_in, reached}
use Rattle.amqp_session_core.specs.declared.incoming.TransferTaken.{TransferTaken}
use Rattle.amqp_link_receiver.specs.declared.answer.Told.{Told}
use Rattle.amqp_link_receiver.specs.declared.answer.Told.TheVariants as tells
use Rattle.amqp_link_types.specs.declared.refusals.ReceiverTransferError.{ReceiverTransferError}
use Rattle.amqp_endpoint_fitting.specs.Read.{IsRead}
use Rattle.amqp_endpoint_fitting.proofs.Frames.{larger_fits}
use Rattle.amqp_endpoint_tables.specs.State.{live_at}
use Rattle.amqp_endpoint_model.specs.declared.error.EndpointError.{EndpointError}
use Rattle.amqp_endpoint_model.specs.declared.error.EndpointError.TheVariants.{Memory}
use Rattle.amqp_endpoint_model.specs.declared.event.Event.{Event}
use Rattle.amqp_endpoint_model.specs.State.{error_of, fits, frame_of}
use Rattle.amqp_endpoint_conversation.specs.Going.{Goes, Rests}
use Rattle.amqp_endpoint_conversation.proofs.Goings.{read-behind}
use Rattle.amqp_endpoint_linking.specs.Linking.{Link, Session, Talk}
use Rattle.amqp_endpoint_linking.specs.Handed.{Hands, Tells}
use Rattle.amqp_endpoint_link_hearing.specs.InSession.{Closes, GoesOn, name_of}
use Rattle.amqp_endpoint_link_hearing.specs.Leaving.{HasPlace}
use Rattle.amqp_endpoint_link_hearing.specs.Naming.{link_in, link_of}
use Rattle.amqp_endpoint_link_hearing.specs.Taking.{ClosesBy, DoneFor, FailsFor, FlowFits, HasBack, IsClosedFor}
use Rattle.amqp_endpoint_link_hearing.specs.Taking.{IsClosing}
use Rattle.amqp_endpoint_link_hearing.specs.Taking.{TakenBy, TakenIn, fault_told, reached_in, reached_of}
use Rattle.amqp_endpoint_link_hearing.specs.Transferring.{ComesToNothing, condition_of}
use Rattle.amqp_endpoint_link_hearing.specs.declared.leaving.Answer.{Answer}
use Rattle.amqp_endpoint_link_hearing.specs.declared.reaching.Counts.{Counts}
use Rattle.amqp_endpoint_link_hearing.proofs.Lent.{on-ok}
use Rattle.amqp_endpoint_link_hearing.proofs.Takes.{IsNumbered}

-- the session's Flow was read as it was handed out
pub one-read : (frame : SessionFrame) (out out_new : List SessionFrame) (from : ℕ) → from ≡ length out
    → out_new ≡ out ++ frame ∷ [] → All IsRead (drop from out_new) → IsRead frame
one-read frame out out_new from is queued reads =
    All-head IsRead frame [] (read-behind out out_new (frame ∷ []) from is queued reads)

pub flow-read : (flow : Option SessionFrame) (frame : SessionFrame) → flow ≡ Some frame → IsRead frame
    → IfSome flow IsRead
flow-read flow frame is read = subst (λ (o : Option SessionFrame). IfSome o IsRead) (sym is) read

flow-fit : (limit : ℕ) (o : Option SessionFrame) → 512 ≤ limit → FlowFits o → IfSome o IsRead
    → All (λ (f : SessionFrame). fits limit (frame_of f) ≡ true) (option_to_list o)
flow-fit limit None least fit reads = All-nil (λ (f : SessionFrame). fits limit (frame_of f) ≡ true)
flow-fit limit (Some flow) least fit reads =
    let P : SessionFrame → Type 0 = λ f. fits limit (frame_of f) ≡ true in
    All-cons P flow [] (larger_fits limit (frame_of flow) least (fit reads)) (All-nil P)

-- no session is there that none is
none-reached : (o : Option Session) (input : ℕ) → o ≡ None → IsSome (reached_in o input) → ⊥
none-reached None input is there = absurd cc
none-reached (Some session) input is there = absurd (none-some session (sym is))

pub lives : (talk : Talk) (session input : ℕ) → None ≡ live_at talk.sessions session
    → IsSome (reached_of talk session input) → ⊥
lives talk session input is there = none-reached (live_at talk.sessions session) input (sym is) there

-- the Flow of the session goes behind
module _ (old : Talk) (session input : ℕ) (out out_mid : List SessionFrame) (flow : Option SessionFrame) (new : Talk)
    (out_new : List SessionFrame) (handed : out_new ≡ out_mid ++ option_to_list flow) where
  behind : (frames : List SessionFrame) → out_mid ≡ out ++ frames → out_new ≡ out ++ (frames ++ option_to_list flow)
  behind frames queued =
      handed ∙ ap (λ (o : List SessionFrame). o ++ option_to_list flow) queued
      ∙ append_assoc out frames (option_to_list flow)

  pub taken-by : (told : Told) (given given_new : ℕ) (events events_new : List Event)
      → Tells (λ (frames : List SessionFrame) (told_now : List Event).
      DoneFor told given old session input frames told_now new given_new) out events out_mid events_new
      → Tells (λ (frames : List SessionFrame) (told_now : List Event).
      TakenBy (record { told = told; flow = flow }) given old session input frames told_now new given_new) out events
      out_new events_new
  taken-by told given given_new events events_new t =
      record {
        frames = t.frames ++ option_to_list flow;
        events = t.events;
        is_so = record { own = t.frames; done = t.is_so; sent = refl };
        queued = behind t.frames t.queued;
        are_told = t.are_told;
      }

  pub taken-goes : (limit : ℕ) → 512 ≤ limit → FlowFits flow → IfSome flow IsRead → Goes limit old new out out_mid
      → Goes limit old new out out_new
  taken-goes limit least fit reads g =
      record {
        waits = g.waits;
        still = g.still;
        frames = g.frames ++ option_to_list flow;
        queued = behind g.frames g.queued;
        fit = λ enough within.
            All-append (λ (f : SessionFrame). fits limit (frame_of f) ≡ true) g.frames (option_to_list flow)
            (g.fit enough within) (flow-fit limit flow least fit reads);
      }

  pub taken-rests : IsSome (reached_of old session input) → Rests old new out out_mid → Rests old new out out_new
  taken-rests there r =
      record { silent = λ none. absurd (lives old session input (sym (none session)) there); idle = r.idle }

-- the link is closed, and that is told
pub closed-by : (old : Talk) (session : ℕ) (handle : OutputHandle) (number : ℕ)
    → IsNumbered old session handle number → (why : Option Error) (error : ReceiverTransferError) (new : Talk)
    (out out_new : List SessionFrame) (events events_new : List Event)
    → Hands (λ (frames : List SessionFrame). GoesOn (Closes why handle frames) old session new) out out_new
    → events_new ≡ events ++ fault_told session number error
    → Tells (λ (frames : List SessionFrame) (told : List Event).
    IsClosedFor old session handle why error frames told new) out events out_new events_new
closed-by old session handle number n why error new out out_new events events_new h are =
    record {
      frames = h.frames;
      events = fault_told session number error;
      is_so =
          record {
            link = n.link;
            there = n.there;
            closes = h.is_so;
            tells = ap (λ (k : ℕ). fault_told session k error) n.is;
          };
      queued = h.queued;
      are_told = are;
    }

-- the link that the peer's handle reaches is closed by what was made ready
pub closes-by : (old : Talk) (session input : ℕ) (error : ReceiverTransferError) (handle : OutputHandle)
    → reached_of old session input ≡ Some handle.0
    → (answer : Answer) → IsClosing old session handle error answer → (new : Talk)
    (out out_new : List SessionFrame) (events events_new : List Event)
    → Tells (λ (frames : List SessionFrame) (told : List Event).
    IsClosedFor old session handle answer.error error frames told new) out events out_new events_new
    → Tells (λ (frames : List SessionFrame) (told : List Event).
    ClosesBy error old session input frames told new) out events out_new events_new
closes-by old session input error handle reaches answer ready new out out_new events events_new t =
    record {
      frames = t.frames;
      events = t.events;
      is_so =
          record {
            handle = handle;
            reaches = reaches;
            closed =
                subst (λ (e : Option Error). IsClosedFor old session handle e error t.frames t.events new) ready.says
                t.is_so;
          };
      queued = t.queued;
      are_told = t.are_told;
    }

-- a link that refuses the transfer is closed, or there is no memory
pub closed-told : (it : Told) (error : ReceiverTransferError) → it ≡ tells.Refused error → {E : Type 0}
    (r : Result ⊤ E) (given : ℕ) (old : Talk) (session input : ℕ) (new : Talk) (out out_new : List SessionFrame)
    (events events_new : List Event)
    → OnOk r (Tells (λ (frames : List SessionFrame) (told : List Event).
    ClosesBy error old session input frames told new) out events out_new events_new)
    → OnOk r (Tells (λ (frames : List SessionFrame) (told : List Event).
    DoneFor it given old session input frames told new given) out events out_new events_new)
closed-told it error is r given old session input new out out_new events events_new closes =
    let so : OnOk r (Tells (λ (frames : List SessionFrame) (told : List Event).
    DoneFor (tells.Refused error) given old session input frames told new given) out events out_new events_new) =
    on-ok r
    (λ (t : Tells (λ (frames : List SessionFrame) (told : List Event).
    ClosesBy error old session input frames told new) out events out_new events_new).
    record {
      frames = t.frames;
      events = t.events;
      is_so = (t.is_so, refl);
      queued = t.queued;
      are_told = t.are_told;
    })
    closes in
    subst
    (λ (o : Told).
    OnOk r (Tells (λ (frames : List SessionFrame) (told : List Event).
    DoneFor o given old session input frames told new given) out events out_new events_new)) (sym is) so

pub unclosed-told : (it : Told) (error : ReceiverTransferError) → it ≡ tells.Refused error
    → (r : Result ⊤ EndpointError) (counts : Counts) (old : Talk) (session input : ℕ) (new : Talk)
    → IfErr r (λ (e : EndpointError). (e ≡ Memory) × HasBack counts old session input new)
    → IfErr r (λ (e : EndpointError). FailsFor it counts old session input e new)
unclosed-told it error is r counts old session input new fails =
    subst (λ (o : Told). IfErr r (λ (e : EndpointError). FailsFor o counts old session input e new)) (sym is) fails

-- of what else it tells nothing comes
module _ (given : ℕ) (old : Talk) (session input : ℕ) (out : List SessionFrame) (events : List Event) where
  abbrev DoneSo : Told → Type 0
  DoneSo it =
      Tells (λ (frames : List SessionFrame) (told : List Event).
      DoneFor it given old session input frames told old given) out events out events

  nothing-comes : Tells (λ (frames : List SessionFrame) (told : List Event).
      ComesToNothing given old frames told old given) out events out events
  nothing-comes =
      record {
        frames = [];
        events = [];
        is_so = record { silent = refl; untold = refl; stays = refl; uncounted = refl };
        queued = sym (append-nil out);
        are_told = sym (append-nil events);
      }

  pub done-nothing : (it : Told) → it ≡ tells.Nothing → DoneSo it
  done-nothing it is = subst DoneSo (sym is) nothing-comes

  pub done-joined : (it : Told) (number : ℕ) (tag : List ℕ) → it ≡ tells.Joined number tag → DoneSo it
  done-joined it number tag is = subst DoneSo (sym is) nothing-comes

  pub done-dropped : (it : Told) → it ≡ tells.Dropped → DoneSo it
  done-dropped it is = subst DoneSo (sym is) nothing-comes

-- a handle that leads somewhere leads to a link
there-live : (links : List (Option Link)) (r : Option ℕ) (handle : ℕ) → live_in links r ≡ Some handle
    → IsSome (slice_index_or links handle None)
there-live links None handle is = absurd (none-some _ is)
there-live links (Some h) handle is = by (is_some (slice_index_or links h None)) refl is
  where
    by : (b : Bool) → is_some (slice_index_or links h None) ≡ b → (if b then Some h else None) ≡ Some handle
        → IsSome (slice_index_or links handle None)
    by true e q = subst (λ (k : ℕ). IsSome (slice_index_or links k None)) (same_Some _ _ q) e
    by false e q = absurd (none-some _ q)

-- what is made ready for the link in its session
module _ (talk : Talk) (session input : ℕ) (lent : Session) (is : Some lent ≡ live_at talk.sessions session) where
  pub here : reached_of talk session input ≡ reached lent.value.session input
  here = ap (λ (o : Option Session). reached_in o input) (sym is)

  pub none-there : None ≡ reached lent.value.session input → IsSome (reached_of talk session input) → ⊥
  none-there reaches there =
      let P : Option ℕ → Type 0 = λ r. IsSome r in
      let clash : IsSome {T = ℕ} None = subst P (here ∙ sym reaches) there in absurd cc

  pub own-there : (handle : OutputHandle) → Some handle.0 ≡ reached lent.value.session input
      → IsSome (link_of talk session handle)
  own-there handle reaches =
      subst (λ (o : Option Session). IsSome (link_in o handle)) is
      (there-live lent.value.session.links (map.get lent.value.session.routes input) handle.0 (sym reaches))

  pub made-ready : (error : ReceiverTransferError) (handle : OutputHandle) (answer : Answer)
      → answer.error ≡ Some (error_of (name_of (condition_of error)))
      → HasPlace lent.value handle true answer.error answer.place
      → IsClosing talk session handle error answer
  made-ready error handle answer says place =
      record {
        says = says;
        place = λ s live.
            subst (λ (a : Session). HasPlace a.value handle true answer.error answer.place)
            (same_Some _ _ (is ∙ live)) place;
      }

-- what becomes of it, with the session in which a link took it
pub taken-in-session : (took : Option (ℕ × TransferTaken Told)) (it : ℕ × TransferTaken Told) → took ≡ Some it
    → {E : Type 0} (r : Result ⊤ E) (given : ℕ) (old : Talk) (input : ℕ) (new : Talk) (given_new : ℕ)
    (out out_new : List SessionFrame) (events events_new : List Event)
    → OnOk r (Tells (λ (frames : List SessionFrame) (told : List Event).
    TakenBy it.1 given old it.0 input frames told new given_new) out events out_new events_new)
    → OnOk r (Tells (λ (frames : List SessionFrame) (told : List Event).
    TakenIn took given old input frames told new given_new) out events out_new events_new)
taken-in-session took it is r given old input new given_new out out_new events events_new so =
    subst
    (λ (o : Option (ℕ × TransferTaken Told)).
    OnOk r (Tells (λ (frames : List SessionFrame) (told : List Event).
    TakenIn o given old input frames told new given_new) out events out_new events_new)) (sym is) so

pub taken-in-none : (took : Option (ℕ × TransferTaken Told)) → took ≡ None → (given : ℕ) (old : Talk) (input : ℕ)
    (out : List SessionFrame) (events : List Event)
    → Tells (λ (frames : List SessionFrame) (told : List Event).
    TakenIn took given old input frames told old given) out events out events
taken-in-none took is given old input out events =
    let none : Tells (λ (frames : List SessionFrame) (told : List Event).
    TakenIn None given old input frames told old given) out events out events =
    record {
      frames = [];
      events = [];
      is_so = record { silent = refl; untold = refl; stays = refl; uncounted = refl };
      queued = sym (append-nil out);
      are_told = sym (append-nil events);
    } in
    subst
    (λ (o : Option (ℕ × TransferTaken Told)).
    Tells (λ (frames : List SessionFrame) (told : List Event).
    TakenIn o given old input frames told old given) out events out events) (sym is) none
