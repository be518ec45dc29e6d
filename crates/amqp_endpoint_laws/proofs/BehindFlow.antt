-- What a link does behind a Flow that brings it credit, one step of its session after the other: it sends its messages
-- on (part 2, 2.6.6, 2.6.7, 2.6.13).
use Rattle.std.proofs.Common.{◌≡◌, ◌⊎◌, inl, inr, ℕ, suc, Bool, true, false, List, [], ◌∷◌, ◌++◌, Option, Some, None}
use Rattle.std.proofs.Common.{ap, append-nil, append_assoc, refl, sym, take, ◌∙◌}
use Rattle.std.specs.Prelude.{map}
use Rattle.amqp_session_types.specs.declared.error.Error.{Error}
use Rattle.amqp_session_types.specs.declared.handles.Handle.{Handle}
use Rattle.amqp_session_types.specs.declared.handles.OutputHandle.{OutputHandle}
use Rattle.amqp_session_performatives.specs.declared.session_frame.SessionFrame.{SessionFrame}
use Rattle.amqp_session_core.specs.Batch.{Transfers}
use Rattle.amqp_session_core.specs.State.{link_at}
use Rattle.amqp_session_core.specs.Steps.{Changes, SendsTransfers}
use Rattle.amqp_link.specs.GoingOn.{sent_on}
use Rattle.amqp_link.specs.declared.end.End.{End}
use Rattle.amqp_link.specs.declared.end.End.TheVariants.{Receiver, Sender}
use Rattle.amqp_link_sender.specs.declared.sending_on.PreparedSendOn.{PreparedSendOn}
use Rattle.amqp_endpoint_attached.specs.Detaching.{is_there}
use Rattle.amqp_endpoint_attached.specs.Linked.{Linked, LinksIn, end_at}
use Rattle.amqp_endpoint_conversation.specs.Inside.{Batches, accepted_of}
use Rattle.amqp_endpoint_conversation.proofs.Inside.{accepted-both}
use Rattle.amqp_endpoint_conversation.specs.declared.hearing.Heard.TheVariants as heard
use Rattle.amqp_endpoint_link_hearing.specs.Flowing.{SendsOnAt, SendsOnBy, SendsOnWith, end_of}
use Rattle.amqp_endpoint_link_hearing.specs.Flowing.{named_in}
use Rattle.amqp_endpoint_link_hearing.specs.Heard.{session_of}
use Rattle.amqp_endpoint_link_hearing.specs.InSession.{GoesOn}
use Rattle.amqp_endpoint_link_hearing.specs.Naming.{link_of}
use Rattle.amqp_endpoint_link_hearing.specs.Saying.{LinkHeard}
use Rattle.amqp_endpoint_linking.specs.Linking.{Link, Talk}
use Rattle.amqp_endpoint_messages.specs.All.{TellsIn}
use Rattle.amqp_endpoint_messages.specs.GivingUp.{ClosedFor, ClosesIf}
use Rattle.amqp_endpoint_messages.specs.SendingOn.{AreCutOn, AreSentOn, ClosesWhere, CreditedAt, goes_on_at}
use Rattle.amqp_endpoint_model.specs.declared.error.EndpointError.{EndpointError}
use Rattle.amqp_endpoint_model.specs.declared.event.Event.{Event}
use Rattle.amqp_endpoint_laws.proofs.Behind.{BehindBy, DoneBehind, FollowsBy, behind-on, closed-behind}
use Rattle.amqp_endpoint_laws.proofs.Behind.{closes-behind, done-on, goes-so, none-done, one-done, same-rest}
use Rattle.amqp_endpoint_laws.proofs.Behind.{tells-done}
use Rattle.amqp_endpoint_laws.proofs.BehindAttach.{number_of}
use Rattle.amqp_endpoint_laws.proofs.HoldingEnds.{held_end}

-- whatever the transfers are that are sent
abbrev pub Any : Transfers → Type 0
Any batch = Unit {0}

-- the transfers of one link, as its session accepts them
abbrev pub by_link : OutputHandle → List Transfers → Batches
by_link handle batches = map (λ (batch : Transfers). (handle.0, batch)) batches

-- a link holds nothing else as it sends a message on
sent-holds : (k : ℕ) (end : End) → held_end k (sent_on end) ≡ held_end k end
sent-holds k (Sender s) = refl
sent-holds k (Receiver r) = refl

-- the first so many go on
record GoneBehind (handle : OutputHandle) (batches : List Transfers) (old : LinksIn) (out : List SessionFrame)
    (new : LinksIn) (out_new : List SessionFrame) : Type 0 where
  frames : List SessionFrame
  added : out_new ≡ out ++ frames
  done : DoneBehind Any old frames new
  count : ℕ
  accepted : accepted_of done.steps ≡ by_link handle (take count batches)

none-gone : (handle : OutputHandle) (batches : List Transfers) (old : LinksIn) (out : List SessionFrame)
    (new : LinksIn) (out_new : List SessionFrame) → new ≡ old → out_new ≡ out
    → GoneBehind handle batches old out new out_new
unfolding none-done
none-gone handle batches old out new out_new same none =
    record {
      frames = [];
      added = none ∙ sym (append-nil out);
      done = none-done old new [] same refl;
      count = 0;
      accepted = refl;
    }

each-goes : (handle : OutputHandle) (batches : List Transfers) (old : LinksIn) (out : List SessionFrame)
    (stopped : Bool) (new : LinksIn) (out_new : List SessionFrame)
    → AreSentOn handle batches old out stopped new out_new → GoneBehind handle batches old out new out_new
unfolding one-done done-on
each-goes handle [] old out stopped new out_new (going, same, none) =
    none-gone handle [] old out new out_new same none
each-goes handle (batch ∷ batches) old out stopped new out_new (inl (mid, out_mid, one, others)) =
    let rest : GoneBehind handle batches mid out_mid new out_new =
    each-goes handle batches mid out_mid stopped new out_new others in
    let sent = one.sends in
    let link : Link = one.takes.link in
    let spent : DoneBehind Any one.taken [] mid =
    one-done (Changes handle.0 link (record link { link = sent_on link.link })) one.taken mid [] one.takes.changed
    (refl, inl (sent-holds link.number link.link)) refl in
    let later : DoneBehind Any one.taken rest.frames new =
    done-on one.taken mid new [] rest.frames rest.frames refl spent rest.done in
    record {
      frames = sent.frames ++ rest.frames;
      added =
          rest.added ∙ ap (λ (fs : List SessionFrame). fs ++ rest.frames) sent.added
          ∙ append_assoc out sent.frames rest.frames;
      done =
          done-on old one.taken new sent.frames rest.frames (sent.frames ++ rest.frames) refl
          (one-done (SendsTransfers handle batch sent.left sent.frames) old one.taken sent.frames sent.stepped tt refl)
          later;
      count = suc rest.count;
      accepted = ap (λ (bs : Batches). (handle.0, batch) ∷ bs) rest.accepted;
    }
each-goes handle (batch ∷ batches) old out stopped new out_new (inr (used, same, none, is)) =
    none-gone handle (batch ∷ batches) old out new out_new same none

-- nothing is accepted to be sent as a link is closed
closes-accepts : (there : Bool) (why : Error) (handle : OutputHandle) (frames : List SessionFrame) (old new : Linked)
    (c : ClosesIf there (Some why) old handle frames new)
    → accepted_of ((closes-behind {Such = Any} there why handle frames old new c).done.steps) ≡ []
unfolding closes-behind none-done
closes-accepts true why handle frames old new c = refl
closes-accepts false why handle frames old new c = refl

tells-accepts : (count : ℕ) (handle : OutputHandle) (link : Option Link) (old new : LinksIn)
    (t : TellsIn count handle link old new)
    → accepted_of ((tells-done {Such = Any} count handle link old new t).steps) ≡ []
unfolding tells-done none-done one-done
tells-accepts count handle None old new t = refl
tells-accepts count handle (Some link) old new t = refl

none-both : (first later : Batches) → first ≡ [] → later ≡ [] → first ++ later ≡ []
none-both first later none same = ap (λ (bs : Batches). bs ++ later) none ∙ same

closed-accepts : (session : ℕ) (error : EndpointError) (count : ℕ) (handle : OutputHandle) (why : Error)
    (frames : List SessionFrame) (events : List Event) (old new : Linked)
    (c : ClosedFor session error count handle why frames events old new)
    → accepted_of ((closed-behind {Such = Any} session error count handle why frames events old new c).done.steps) ≡ []
unfolding closed-behind behind-on done-on
closed-accepts session error count handle why frames events old new c =
    let closes = closes-behind {Such = Any} (is_there (end_at old handle)) why handle frames old c.mid c.closes in
    let tells =
    tells-done {Such = Any} count handle (link_at c.mid.session handle.0) c.mid.session new.session c.tells.tells in
    accepted-both closes.done.steps tells.steps
    ∙ none-both (accepted_of closes.done.steps) (accepted_of tells.steps)
    (closes-accepts (is_there (end_at old handle)) why handle frames old c.mid c.closes)
    (tells-accepts count handle (link_at c.mid.session handle.0) c.mid.session new.session c.tells.tells)

-- a link sends on the first so many of these messages
pub record CreditedBehind (limit : ℕ) (handle : OutputHandle) (ons : List PreparedSendOn) (frames : List SessionFrame)
    (old new : Linked) : Type 0 where
  pub batches : List Transfers
  pub all : Bool
  pub cut : AreCutOn limit handle ons batches all
  pub behind : BehindBy Any frames old new
  pub count : ℕ
  pub accepted : accepted_of behind.done.steps ≡ by_link handle (take count batches)

record ClosesBehind (frames : List SessionFrame) (old new : Linked) : Type 0 where
  behind : BehindBy Any frames old new
  silent : accepted_of behind.done.steps ≡ []

closes-where : (stuck : Option EndpointError) (session count : ℕ) (handle : OutputHandle) (why : Error)
    (frames : List SessionFrame) (events : List Event) (old new : Linked)
    → ClosesWhere stuck session count handle why frames events old new → ClosesBehind frames old new
unfolding none-done
closes-where None session count handle why frames events old new (none, untold, same) =
    record {
      behind = record {
        done = none-done old.session new.session frames (ap (λ (x : Linked). x.session) same) none;
        rest = same-rest old new same;
      };
      silent = refl;
    }
closes-where (Some error) session count handle why frames events old new c =
    record {
      behind = closed-behind session error count handle why frames events old new c;
      silent = closed-accepts session error count handle why frames events old new c;
    }

pub credited-behind : (limit session count : ℕ) (handle : OutputHandle) (why : Error) (ons : List PreparedSendOn)
    (frames : List SessionFrame) (events : List Event) (old new : Linked)
    → CreditedAt limit session count handle why ons frames events old new
    → CreditedBehind limit handle ons frames old new
unfolding behind-on done-on none-done
credited-behind limit session count handle why ons frames events old new c =
    let s = c.sends_on in
    let gone : GoneBehind handle s.batches old.session [] (c.gone).session c.on =
    each-goes handle s.batches old.session [] s.stopped (c.gone).session c.on s.sent in
    let first : BehindBy Any c.on old c.gone =
    record {
      done =
          done-on old.session (c.gone).session (c.gone).session gone.frames [] c.on
          (gone.added ∙ sym (append-nil gone.frames)) gone.done
          (none-done (c.gone).session (c.gone).session [] refl refl);
      rest = s.rest;
    } in
    let down = closes-where c.stuck session count handle why c.down events c.gone new c.closes in
    record {
      batches = s.batches;
      all = s.all;
      cut = s.cut;
      behind = behind-on old c.gone new c.on c.down frames c.frames_are first down.behind;
      count = gone.count;
      accepted =
          accepted-both first.done.steps down.behind.done.steps
          ∙ ap (λ (bs : Batches). accepted_of first.done.steps ++ bs) down.silent
          ∙ append-nil (accepted_of first.done.steps)
          ∙ accepted-both gone.done.steps []
          ∙ append-nil (accepted_of gone.done.steps)
          ∙ gone.accepted;
    }

-- a link sends messages on, of those that it has to, with the credit that it has
pub record SendsThere (limit session : ℕ) (named : Option Handle) (old : Talk) (frames : List SessionFrame)
    (new : Talk) : Type 0 where
  pub own : ℕ
  pub is_named : named_in old session named ≡ Some own
  pub ons : List PreparedSendOn
  pub are : goes_on_at (end_of (link_of old session (record { 0 = own }))) ≡ ons
  pub goes : GoesOn (CreditedBehind limit (record { 0 = own }) ons frames) old session new

-- in the session that heard a Flow one does, or nothing goes on
abbrev pub SendsOrNot : (limit session : ℕ) → Option Handle → Talk → List SessionFrame → Talk → Type 0
SendsOrNot limit session named old frames new =
    ((frames ≡ []) × (new ≡ old)) ⊎ SendsThere limit session named old frames new

sends-with : (ons : List PreparedSendOn) (limit session count own : ℕ) (named : Option Handle) (old : Talk)
    (frames : List SessionFrame) (events : List Event) (new : Talk) → named_in old session named ≡ Some own
    → goes_on_at (end_of (link_of old session (record { 0 = own }))) ≡ ons
    → SendsOnWith ons limit session count (record { 0 = own }) old frames events new
    → SendsOrNot limit session named old frames new
sends-with [] limit session count own named old frames events new is are s = inl (s.0, s.2)
sends-with (ready ∷ others) limit session count own named old frames events new is are g =
    inr (record {
      own = own;
      is_named = is;
      ons = ready ∷ others;
      are = are;
      goes =
          goes-so _ (CreditedBehind limit (record { 0 = own }) (ready ∷ others) frames)
          (λ a b c. credited-behind limit session count (record { 0 = own }) _ (ready ∷ others) frames events a b c)
          old session new g;
    })

sends-at : (limit session : ℕ) (own : Option ℕ) (named : Option Handle) (old : Talk) (frames : List SessionFrame)
    (events : List Event) (new : Talk) → named_in old session named ≡ own
    → SendsOnAt limit session own old frames events new → SendsOrNot limit session named old frames new
sends-at limit session None named old frames events new is s = inl (s.0, s.2)
sends-at limit session (Some own) named old frames events new is s =
    sends-with _ limit session _ own named old frames events new is refl s

pub flow-sends : (limit : ℕ) (it : LinkHeard) (named : Option Handle) (old : Talk) (frames : List SessionFrame)
    (events : List Event) (new : Talk) → SendsOnBy limit (session_of it) named old frames events new
    → SendsOrNot limit (number_of it) named old frames new
flow-sends limit (heard.Live n told) named old frames events new s =
    sends-at limit n (named_in old n named) named old frames events new refl s
flow-sends limit (heard.Asked n) named old frames events new s = inl (s.0, s.2)
flow-sends limit (heard.Dropped n) named old frames events new s = inl (s.0, s.2)

-- so the session goes on behind it, or stays
pub sends-behind : (limit session : ℕ) (named : Option Handle) (old : Talk) (frames : List SessionFrame) (new : Talk)
    → SendsOrNot limit session named old frames new → FollowsBy Any session frames old new
sends-behind limit session named old frames new (inl none) = inl none
sends-behind limit session named old frames new (inr sends) =
    inr
    (goes-so (CreditedBehind limit (record { 0 = sends.own }) sends.ons frames) (BehindBy Any frames)
    (λ a b c. c.behind) old session new sends.goes)

pub flow-behind : (limit : ℕ) (it : LinkHeard) (named : Option Handle) (old : Talk) (frames : List SessionFrame)
    (events : List Event) (new : Talk) → SendsOnBy limit (session_of it) named old frames events new
    → FollowsBy Any (number_of it) frames old new
flow-behind limit it named old frames events new s =
    sends-behind limit (number_of it) named old frames new (flow-sends limit it named old frames events new s)
