-- Of each link of a session what was handed out and what waits is what was accepted, in order.
use Rattle.std.proofs.Common.{◌≡◌, ◌==◌, inl, inr, ℕ, Bool, true, false, List, [], ◌∷◌, ◌++◌, Option, Some, None}
use Rattle.std.proofs.Common.{Ok, Err, IsSome, refl, sym, ap, subst, ◌∙◌, append-nil, append_assoc}
use Rattle.std.specs.Prelude.{if◌then◌else◌, map, option_map, option_to_list}
use Rattle.std.proofs.lemmas.Bool.Decides.{eqb_tells}
use Rattle.amqp_session_types.specs.declared.channels.OutgoingChannel.{OutgoingChannel}
use Rattle.amqp_session_types.specs.declared.modes.Role.{Role}
use Rattle.amqp_session_types.specs.declared.modes.Role.TheVariants.{Sender, Receiver}
use Rattle.amqp_session_performatives.specs.declared.session_frame.SessionFrame.{SessionFrame}
use Rattle.amqp_session_outgoing.specs.Frames.{LinkFrame, Other, Transferred, frames_of, frames_sent as turn_frames}
use Rattle.amqp_session_outgoing.specs.Frames.{others}
use Rattle.amqp_session_outgoing.specs.History as sending
use Rattle.amqp_session_outgoing.specs.State as sending_state
use Rattle.amqp_session_outgoing.specs.Queues.{Distinct, units_of, waiting_of}
use Rattle.amqp_session_outgoing.specs.Told.{accepted_in as frames_accepted_in, accepted_of as frames_accepted}
use Rattle.amqp_session_outgoing.specs.Told.{frames_by, out_in, out_of}
use Rattle.amqp_session_outgoing.specs.declared.frames.Outbound.{Outbound}
use Rattle.amqp_session_outgoing.specs.declared.frames.Sent.{Sent}
use Rattle.amqp_session_outgoing.proofs.Order.{history-distinct, history-order}
use Rattle.amqp_session_core.specs.Batch.{Transfers}
use Rattle.amqp_session_core.specs.Frames.{Left, behind_frame, frames_behind, frames_left, frames_sent, session_flow}
use Rattle.amqp_session_core.specs.History.{History, is_freed, own_settles_as, reply_steps, sending_in}
use Rattle.amqp_session_core.specs.History.{sending_of, settles, settles_as}
use Rattle.amqp_session_core.specs.Relay.{Relations}
use Rattle.amqp_session_core.specs.State.{State, fresh, link_at}
use Rattle.amqp_session_core.specs.Steps.{Allocates, Changes, Deallocates, NoReply, OfLink, OfSession, Reply, Reserves}
use Rattle.amqp_session_core.specs.Steps.{SendsBegin, SendsBehind, SendsDisposition, SendsEnd, SendsTransfers}
use Rattle.amqp_session_core.specs.Steps.{SetsWindow, Stays, Act, Step, TakesAttach, TakesBegin, TakesDetach}
use Rattle.amqp_session_core.specs.Steps.{TakesDisposition, TakesEnd, TakesFlow, TakesTransfer, TellsFlow, reply_frames}
use Rattle.amqp_session_core.specs.declared.batch.BehindFrame.{BehindFrame}
use Rattle.amqp_session_core.specs.declared.batch.BehindFrame.TheVariants as behind
use Rattle.amqp_session_core.specs.declared.batch.TransferFrame.{TransferFrame}
use Rattle.amqp_session_core.specs.declared.fields.SessionFields.{SessionFields}
use Rattle.amqp_session_core.proofs.Owning.{own-history}
use Rattle.amqp_session_core.proofs.SendingSide.{history-sends}
use Rattle.amqp_link_base.specs.Readings.{Piece}
use Rattle.amqp_link_sender.specs.Saying.{pieces_of}
use Rattle.amqp_endpoint_fitting.specs.Handed.{handed, handed_of}
use Rattle.amqp_endpoint_conversation.specs.Inside.{Batches, accepted_in, accepted_of}
use Rattle.amqp_endpoint_laws.specs.Queued.{piece_on, pieces_on, pieces_waiting}
use Rattle.amqp_endpoint_laws.proofs.QueuedSaid.{bare, map-both}

abbrev Frame : Type 0
Frame = LinkFrame TransferFrame BehindFrame

abbrev Unit_ : Type 0
Unit_ = Outbound TransferFrame BehindFrame

abbrev piece_in : TransferFrame → Piece
piece_in t = record { performative = t.performative; payload = t.payload }

-- the transfers among the frames of a link
abbrev bares : List Frame → List Piece
bares [] = []
bares (Transferred first t ∷ fs) = bare (piece_in t) ∷ bares fs
bares (Other f ∷ fs) = bares fs

bares-both : (fs gs : List Frame) → bares (fs ++ gs) ≡ bares fs ++ bares gs
bares-both [] gs = refl
bares-both (Transferred first t ∷ fs) gs = ap (λ (ps : List Piece). bare (piece_in t) ∷ ps) (bares-both fs gs)
bares-both (Other f ∷ fs) gs = bares-both fs gs

bares-others : (bs : List BehindFrame) → bares (others bs) ≡ []
bares-others [] = refl
bares-others (b ∷ bs) = bares-others bs

bares-units : (us : List Unit_) → bares (frames_of us) ≡ map bare (pieces_of us)
bares-units [] = refl
bares-units (u ∷ us) =
    ap (λ (ps : List Piece). bare (piece_in u.transfer) ∷ ps)
    (bares-both (others u.behind) (frames_of us)
    ∙ ap (λ (ps : List Piece). ps ++ bares (frames_of us)) (bares-others u.behind) ∙ bares-units us)

-- the transfers among two lists of frames
pub pieces-both : (h : ℕ) (first later : List SessionFrame)
    → pieces_on h (first ++ later) ≡ pieces_on h first ++ pieces_on h later
pieces-both h [] later = refl
pieces-both h (frame ∷ first) later =
    ap (λ (ps : List Piece). piece_on h frame.body ++ ps) (pieces-both h first later)
    ∙ sym (append_assoc (piece_on h frame.body) (pieces_on h first) (pieces_on h later))

none-behind : (h : ℕ) (f : SessionFields) (number : ℕ) (b : BehindFrame)
    → piece_on h (behind_frame f number b).body ≡ []
none-behind h f number (behind.Flow flow) = refl
none-behind h f number (behind.Detach detach) = refl

all-behind : (h : ℕ) (f : SessionFields) (number : ℕ) (bs : List BehindFrame)
    → pieces_on h (frames_behind f number bs) ≡ []
all-behind h f number [] = refl
all-behind h f number (b ∷ bs) =
    ap (λ (ps : List Piece). ps ++ pieces_on h (frames_behind f number bs)) (none-behind h f number b)
    ∙ all-behind h f number bs

-- a transfer that leaves, with what stood behind it
turn-bare : (here : Bool) (f : SessionFields) (s : Sent TransferFrame BehindFrame) (rest : List Piece) (first : Bool)
    → rest ≡ []
    → map bare
    ((if here then record {
      performative = record s.transfer.performative { handle = record { 0 = s.handle.0 }; delivery_id = s.delivery };
      payload = s.transfer.payload;
    } ∷ [] else []) ++ rest)
    ≡ bares (if here then Transferred first s.transfer ∷ others s.behind else [])
turn-bare true f s rest first none =
    ap (λ (ps : List Piece). bare (piece_in s.transfer) ∷ map bare ps) none
    ∙ ap (λ (ps : List Piece). bare (piece_in s.transfer) ∷ ps) (sym (bares-others s.behind))
turn-bare false f s rest first none = ap (λ (ps : List Piece). map bare ps) none

sent-bare : (h : ℕ) (f : SessionFields) (s : Sent TransferFrame BehindFrame)
    → map bare (pieces_on h (frames_sent f s)) ≡ bares (if s.handle.0 == h then turn_frames s else [])
sent-bare h f s = turn-bare (s.handle.0 == h) f s _ _ (all-behind h f _ s.behind)

left-bare : (h : ℕ) (f : SessionFields) (left : Left)
    → map bare (pieces_on h (frames_left f left)) ≡ bares (frames_by h left)
left-bare h f [] = refl
left-bare h f (s ∷ left) =
    ap (λ (ps : List Piece). map bare ps) (pieces-both h (frames_sent f s) (frames_left f left))
    ∙ map-both bare (pieces_on h (frames_sent f s)) (pieces_on h (frames_left f left))
    ∙ ap (λ (ps : List Piece). ps ++ map bare (pieces_on h (frames_left f left))) (sent-bare h f s)
    ∙ ap (λ (ps : List Piece). bares (if s.handle.0 == h then turn_frames s else []) ++ ps) (left-bare h f left)
    ∙ sym (bares-both (if s.handle.0 == h then turn_frames s else []) (frames_by h left))

abbrev Sending : Type 0
Sending = sending.Act TransferFrame BehindFrame

-- what leaves by two lists of steps
out-both : (h : ℕ) (xs ys : List Sending) → bares (out_of h (xs ++ ys)) ≡ bares (out_of h xs) ++ bares (out_of h ys)
out-both h [] ys = refl
out-both h (x ∷ xs) ys =
    bares-both (out_in h x) (out_of h (xs ++ ys))
    ∙ ap (λ (ps : List Piece). bares (out_in h x) ++ ps) (out-both h xs ys)
    ∙ sym (append_assoc (bares (out_in h x)) (bares (out_of h xs)) (bares (out_of h ys)))
    ∙ ap (λ (ps : List Piece). ps ++ bares (out_of h ys)) (sym (bares-both (out_in h x) (out_of h xs)))

accepted-both : (h : ℕ) (xs ys : List Sending)
    → bares (frames_accepted h (xs ++ ys)) ≡ bares (frames_accepted h xs) ++ bares (frames_accepted h ys)
accepted-both h [] ys = refl
accepted-both h (x ∷ xs) ys =
    bares-both (frames_accepted_in h x) (frames_accepted h (xs ++ ys))
    ∙ ap (λ (ps : List Piece). bares (frames_accepted_in h x) ++ ps) (accepted-both h xs ys)
    ∙ sym (append_assoc (bares (frames_accepted_in h x)) (bares (frames_accepted h xs)) (bares (frames_accepted h ys)))
    ∙ ap (λ (ps : List Piece). ps ++ bares (frames_accepted h ys))
    (sym (bares-both (frames_accepted_in h x) (frames_accepted h xs)))

settles-out : (h : ℕ) (ns : List ℕ) → out_of h (settles ns) ≡ []
settles-out h [] = refl
settles-out h (n ∷ ns) = settles-out h ns

settles-accepted : (h : ℕ) (ns : List ℕ) → frames_accepted h (settles ns) ≡ []
settles-accepted h [] = refl
settles-accepted h (n ∷ ns) = settles-accepted h ns

settled-out : (h : ℕ) (role : Role) (ns : List ℕ) → out_of h (settles_as role ns) ≡ []
settled-out h Sender ns = refl
settled-out h Receiver ns = settles-out h ns

settled-accepted : (h : ℕ) (role : Role) (ns : List ℕ) → frames_accepted h (settles_as role ns) ≡ []
settled-accepted h Sender ns = refl
settled-accepted h Receiver ns = settles-accepted h ns

own-settled-out : (h : ℕ) (role : Role) (ns : List ℕ) → out_of h (own_settles_as role ns) ≡ []
own-settled-out h Sender ns = settles-out h ns
own-settled-out h Receiver ns = refl

own-settled-accepted : (h : ℕ) (role : Role) (ns : List ℕ) → frames_accepted h (own_settles_as role ns) ≡ []
own-settled-accepted h Sender ns = settles-accepted h ns
own-settled-accepted h Receiver ns = refl

-- a frame of a link that leaves at once
other-out : (h k : ℕ) (b : BehindFrame) → bares (if k == h then Other b ∷ [] else []) ≡ []
other-out h k b = by (k == h)
  where
    by : (here : Bool) → bares (if here then Other b ∷ [] else []) ≡ []
    by true = refl
    by false = refl

follows-out : (h : ℕ) (handle : _) (b : BehindFrame) (left : Option BehindFrame)
    → bares (out_of h (sending.Follows handle b left ∷ [])) ≡ []
follows-out h handle b None = refl
follows-out h handle b (Some f) =
    ap bares (append-nil (if handle.0 == h then Other f ∷ [] else [])) ∙ other-out h handle.0 f

follows-accepted : (h : ℕ) (handle : _) (b : BehindFrame) (left : Option BehindFrame)
    → bares (frames_accepted h (sending.Follows handle b left ∷ [])) ≡ []
follows-accepted h handle b left =
    ap bares (append-nil (if handle.0 == h then Other b ∷ [] else [])) ∙ other-out h handle.0 b

reply-out : (h : ℕ) (reply : Reply) → bares (out_of h (reply_steps reply)) ≡ []
reply-out h NoReply = refl
reply-out h OfSession = refl
reply-out h (OfLink handle flow left) = follows-out h handle (behind.Flow flow) left

reply-accepted : (h : ℕ) (reply : Reply) → bares (frames_accepted h (reply_steps reply)) ≡ []
reply-accepted h NoReply = refl
reply-accepted h OfSession = refl
reply-accepted h (OfLink handle flow left) = follows-accepted h handle (behind.Flow flow) left

reply-none : (h : ℕ) (f : SessionFields) (number : ℕ) (reply : Reply) → pieces_on h (reply_frames f number reply) ≡ []
reply-none h f number NoReply = refl
reply-none h f number OfSession = refl
reply-none h f number (OfLink handle flow None) = refl
reply-none h f number (OfLink handle flow (Some b)) =
    ap (λ (ps : List Piece). ps ++ []) (none-behind h f number b)

at-once-none : (h : ℕ) (f : SessionFields) (number : ℕ) (left : Option BehindFrame)
    → pieces_on h (option_to_list (option_map (behind_frame f number) left)) ≡ []
at-once-none h f number None = refl
at-once-none h f number (Some b) = ap (λ (ps : List Piece). ps ++ []) (none-behind h f number b)

due-none : (h : ℕ) (due : Bool) (f : SessionFields) (number : ℕ)
    → pieces_on h (option_to_list (if due then Some (session_flow f number) else None)) ≡ []
due-none h true f number = refl
due-none h false f number = refl

window-out : (h base width : ℕ) (left : Left)
    → bares (out_of h (sending.TakesWindow base width left ∷ [])) ≡ bares (frames_by h left)
window-out h base width left = ap bares (append-nil (frames_by h left))

pub behind-none : (ps qs : List Piece) → ps ++ qs ≡ [] → qs ≡ []
behind-none [] qs none = none
behind-none (p ∷ ps) qs none = absurd cc

-- the transfers that were accepted of a link, by its own handle
abbrev pub pieces_by : ℕ → Batches → List Piece
pieces_by h [] = []
pieces_by h ((k, batch) ∷ others) = (if k == h then pieces_of batch else []) ++ pieces_by h others

pub by-both : (h : ℕ) (xs ys : Batches) → pieces_by h (xs ++ ys) ≡ pieces_by h xs ++ pieces_by h ys
by-both h [] ys = refl
by-both h ((k, batch) ∷ xs) ys =
    ap (λ (ps : List Piece). (if k == h then pieces_of batch else []) ++ ps) (by-both h xs ys)
    ∙ sym (append_assoc (if k == h then pieces_of batch else []) (pieces_by h xs) (pieces_by h ys))

batch-bare : (here : Bool) (batch : Transfers)
    → bares ((if here then frames_of batch else []) ++ []) ≡ map bare ((if here then pieces_of batch else []) ++ [])
batch-bare true batch =
    ap bares (append-nil (frames_of batch)) ∙ bares-units batch
    ∙ ap (λ (ps : List Piece). map bare ps) (sym (append-nil (pieces_of batch)))
batch-bare false batch = refl

module _ {R A T D : Type 0} where
  -- what a step accepts
  step-accepted : (h : ℕ) (step : Act R A T D)
      → bares (frames_accepted h (sending_in step)) ≡ map bare (pieces_by h (accepted_in step))
  step-accepted h Stays = refl
  step-accepted h (SendsBegin frame) = refl
  step-accepted h (TakesBegin channel begin base left frames) = refl
  step-accepted h (SendsEnd error frame) = refl
  step-accepted h TakesEnd = refl
  step-accepted h (TakesAttach handle attach told) = refl
  step-accepted h (TakesFlow flow told reply base left frames) =
      accepted-both h (reply_steps reply) (sending.TakesWindow base flow.incoming_window left ∷ [])
      ∙ append-nil (bares (frames_accepted h (reply_steps reply))) ∙ reply-accepted h reply
  step-accepted h (SetsWindow flow base) = refl
  step-accepted h (TakesTransfer handle transfer payload told flow) = refl
  step-accepted h (TakesDisposition d walk echoes) = ap bares (settled-accepted h d.role _)
  step-accepted h (TakesDetach handle detach told) = refl
  step-accepted h (SendsBehind handle frame left answer) = follows-accepted h handle frame left
  step-accepted h (SendsTransfers handle batch left frames) = batch-bare (handle.0 == h) batch
  step-accepted h (SendsDisposition d numbers) = ap bares (own-settled-accepted h d.role numbers)
  step-accepted h (TellsFlow frame) = refl
  step-accepted h (Allocates handle link input) = refl
  step-accepted h (Deallocates handle) = refl
  step-accepted h (Reserves count) = refl
  step-accepted h (Changes handle before after) = refl

module _ {R A T D : Type 0} (gives : Relations R A T D) where
  -- what it hands out
  step-handed : (h : ℕ) (step : Act R A T D) (old new : State R) → Step gives old step new
      → map bare (pieces_on h (handed step)) ≡ bares (out_of h (sending_in step))
  step-handed h Stays old new s = refl
  step-handed h (SendsBegin frame) old new s =
      ap (λ (f : SessionFrame). map bare (piece_on h f.body ++ [])) s.0
  step-handed h (TakesBegin channel begin base left frames) old new (to, base_is, window, frames_are, taken, is) =
      ap (λ (fs : List SessionFrame). map bare (pieces_on h fs)) frames_are ∙ left-bare h new.fields left
      ∙ sym (window-out h base begin.incoming_window left)
  step-handed h (SendsEnd error frame) old new s =
      ap (λ (f : SessionFrame). map bare (piece_on h f.body ++ [])) s.0
  step-handed h TakesEnd old new s = refl
  step-handed h (TakesAttach handle attach told) old new s = refl
  step-handed h (TakesFlow flow told reply base left frames) old new s =
      ap (λ (fs : List SessionFrame). map bare (pieces_on h fs)) s.frames_are
      ∙ ap (λ (ps : List Piece). map bare ps)
      (pieces-both h (reply_frames new.fields old.outgoing.next_outgoing_id reply) (frames_left new.fields left)
      ∙ ap (λ (ps : List Piece). ps ++ pieces_on h (frames_left new.fields left)) (reply-none h new.fields _ reply))
      ∙ left-bare h new.fields left ∙ sym (window-out h base flow.incoming_window left)
      ∙ sym
      (out-both h (reply_steps reply) (sending.TakesWindow base flow.incoming_window left ∷ [])
      ∙ ap (λ (ps : List Piece). ps ++ bares (out_of h (sending.TakesWindow base flow.incoming_window left ∷ [])))
      (reply-out h reply))
  step-handed h (SetsWindow flow base) old new s = refl
  step-handed h (TakesTransfer handle transfer payload (Ok told) flow) old new s =
      ap (λ (f : Option SessionFrame). map bare (pieces_on h (option_to_list f))) (s.2).told
      ∙ ap (λ (ps : List Piece). map bare ps) (due-none h _ _ _)
  step-handed h (TakesTransfer handle transfer payload (Err e) flow) old new s =
      ap (λ (f : Option SessionFrame). map bare (pieces_on h (option_to_list f))) s.2
  step-handed h (TakesDisposition d walk echoes) old new s = ap bares (sym (settled-out h d.role _))
  step-handed h (TakesDetach handle detach told) old new s = refl
  step-handed h (SendsBehind handle frame left answer) old new s =
      ap (λ (f : Option SessionFrame). map bare (pieces_on h (option_to_list f))) s.1
      ∙ ap (λ (ps : List Piece). map bare ps) (at-once-none h old.fields _ left) ∙ sym (follows-out h handle frame left)
  step-handed h (SendsTransfers handle batch left frames) old new s =
      ap (λ (fs : List SessionFrame). map bare (pieces_on h fs)) s.1 ∙ left-bare h old.fields left
      ∙ sym (ap bares (append-nil (frames_by h left)))
  step-handed h (SendsDisposition d numbers) old new s = ap bares (sym (own-settled-out h d.role numbers))
  step-handed h (TellsFlow frame) old new s = ap (λ (f : SessionFrame). map bare (piece_on h f.body ++ [])) s.0
  step-handed h (Allocates handle link input) old new s = refl
  step-handed h (Deallocates handle) old new s = refl
  step-handed h (Reserves count) old new s = refl
  step-handed h (Changes handle before after) old new s = refl

  history-handed : (h : ℕ) (steps : List (Act R A T D)) (old new : State R) → History gives old steps new
      → map bare (pieces_on h (handed_of steps)) ≡ bares (out_of h (sending_of steps))
  history-handed h [] old new same = refl
  history-handed h (step ∷ steps) old new (mid, stepped, rest) =
      ap (λ (ps : List Piece). map bare ps) (pieces-both h (handed step) (handed_of steps))
      ∙ map-both bare (pieces_on h (handed step)) (pieces_on h (handed_of steps))
      ∙ ap (λ (ps : List Piece). ps ++ map bare (pieces_on h (handed_of steps))) (step-handed h step old mid stepped)
      ∙ ap (λ (ps : List Piece). bares (out_of h (sending_in step)) ++ ps) (history-handed h steps mid new rest)
      ∙ sym (out-both h (sending_in step) (sending_of steps))

  history-accepted : (h : ℕ) (steps : List (Act R A T D))
      → bares (frames_accepted h (sending_of steps)) ≡ map bare (pieces_by h (accepted_of steps))
  history-accepted h [] = refl
  history-accepted h (step ∷ steps) =
      accepted-both h (sending_in step) (sending_of steps)
      ∙ ap (λ (ps : List Piece). ps ++ bares (frames_accepted h (sending_of steps))) (step-accepted h step)
      ∙ ap (λ (ps : List Piece). map bare (pieces_by h (accepted_in step)) ++ ps) (history-accepted h steps)
      ∙ sym
      (ap (λ (ps : List Piece). map bare ps) (by-both h (accepted_in step) (accepted_of steps))
      ∙ map-both bare (pieces_by h (accepted_in step)) (pieces_by h (accepted_of steps)))

  -- by steps of its own
  pub steps-in-order : (h : ℕ) (steps : List (Act R A T D)) (old new : State R) → Distinct old.outgoing.queues
      → History gives old steps new
      → map bare (pieces_on h (handed_of steps)) ++ map bare (pieces_waiting h new)
      ≡ map bare (pieces_waiting h old) ++ map bare (pieces_by h (accepted_of steps))
  steps-in-order h steps old new apart run =
      let all =
      history-order h (sending_of steps) old.outgoing new.outgoing apart (history-sends gives steps old new run) in
      ap (λ (ps : List Piece). ps ++ map bare (pieces_waiting h new)) (history-handed h steps old new run)
      ∙ ap (λ (ps : List Piece). bares (out_of h (sending_of steps)) ++ ps)
      (sym (bares-units (units_of h new.outgoing.queues)))
      ∙ sym (bares-both (out_of h (sending_of steps)) (waiting_of h new.outgoing.queues)) ∙ ap bares all
      ∙ bares-both (waiting_of h old.outgoing.queues) (frames_accepted h (sending_of steps))
      ∙ ap (λ (ps : List Piece). ps ++ bares (frames_accepted h (sending_of steps)))
      (bares-units (units_of h old.outgoing.queues))
      ∙ ap (λ (ps : List Piece). map bare (pieces_waiting h old) ++ ps) (history-accepted h steps)

  pub steps-distinct : (steps : List (Act R A T D)) (old new : State R) → Distinct old.outgoing.queues
      → History gives old steps new → Distinct new.outgoing.queues
  steps-distinct steps old new apart run =
      history-distinct (sending_of steps) old.outgoing new.outgoing apart (history-sends gives steps old new run)

  -- nothing waits of a handle that no link has
  abbrev NoneWaits : State R → Type 0
  NoneWaits s = (h : ℕ) → link_at s h ≡ None → pieces_waiting h s ≡ []

  no-pieces : (ps : List Piece) → map bare ps ≡ [] → ps ≡ []
  no-pieces [] none = refl
  no-pieces (p ∷ ps) none = absurd cc

  clash : (o : Option R) → IsSome o → o ≡ None → ⊥
  clash None some is = absurd cc
  clash (Some r) some is = absurd cc

  -- a step accepts nothing of it
  accepts-none : (h : ℕ) (step : Act R A T D) (old new : State R) → Step gives old step new → link_at old h ≡ None
      → pieces_by h (accepted_in step) ≡ []
  accepts-none h (SendsTransfers handle batch left frames) old new s none =
      elim (eqb_tells handle.0 h) [
        | inl same ↦
            absurd (clash (link_at old handle.0) s.3 (ap (λ (k : ℕ). link_at old k) same.1 ∙ none))
        | inr other ↦ ap (λ (here : Bool). (if here then pieces_of batch else []) ++ []) other.0
      ]
  accepts-none h step old new s none = refl

  -- as it is taken back
  freed-none : (h : ℕ) (step : Act R A T D) (old new : State R) → Step gives old step new
      → is_freed h (step ∷ []) ≡ true → pieces_waiting h new ≡ []
  freed-none h (Deallocates handle) old new s freed =
      elim (eqb_tells handle h) [
        | inl same ↦
            ap (λ (o : sending_state.State TransferFrame BehindFrame). pieces_of (units_of h o.queues)) ((s.2).1)
            ∙ ap pieces_of (subst (λ (k : ℕ). units_of k old.outgoing.queues ≡ []) same.1 s.5)
        | inr other ↦
            let wrong : false ≡ true = sym (ap (λ (here : Bool). if here then true else false) other.0) ∙ freed in
            absurd cc
      ]
  freed-none h step old new s freed = let wrong : false ≡ true = freed in absurd cc

  step-none-waits : (step : Act R A T D) (old new : State R) → Distinct old.outgoing.queues → Step gives old step new
      → NoneWaits old → NoneWaits new
  step-none-waits step old new apart s waits h none = by (link_at old h) refl
    where
      freed : (r : R) → link_at old h ≡ Some r → (b : Bool) → is_freed h (step ∷ []) ≡ b → pieces_waiting h new ≡ []
      freed r there false e =
          let own = own-history gives h r (step ∷ []) old new (new, s, refl) e there in
          let wrong : Some own.new ≡ None = sym own.stands ∙ none in
          absurd cc
      freed r there true e = freed-none h step old new s e

      by : (o : Option R) → link_at old h ≡ o → pieces_waiting h new ≡ []
      by None there =
          no-pieces (pieces_waiting h new)
          (behind-none (map bare (pieces_on h (handed step ++ []))) (map bare (pieces_waiting h new))
          (steps-in-order h (step ∷ []) old new apart (new, s, refl)
          ∙ ap (λ (ps : List Piece). map bare ps ++ map bare (pieces_by h (accepted_in step ++ []))) (waits h there)
          ∙ ap (λ (ps : List Piece). map bare ps)
          (by-both h (accepted_in step) [] ∙ append-nil (pieces_by h (accepted_in step))
          ∙ accepts-none h step old new s there)))
      by (Some r) there = freed r there (is_freed h (step ∷ [])) refl

  none-waits-on : (steps : List (Act R A T D)) (old new : State R) → Distinct old.outgoing.queues
      → History gives old steps new → NoneWaits old → NoneWaits new
  none-waits-on [] old new apart same waits = subst NoneWaits (sym same) waits
  none-waits-on (step ∷ steps) old new apart (mid, stepped, rest) waits =
      none-waits-on steps mid new (steps-distinct (step ∷ []) old mid apart (mid, stepped, refl)) rest
      (step-none-waits step old mid apart stepped waits)

  -- of a session since it was new
  pub since-new : (channel : OutgoingChannel) (first window : ℕ) (steps : List (Act R A T D)) (end : State R)
      → History gives (fresh channel first window) steps end
      → Distinct end.outgoing.queues × ((h : ℕ) → link_at end h ≡ None → pieces_waiting h end ≡ [])
  since-new channel first window steps end run = (
    steps-distinct steps (fresh channel first window) end tt run,
    none-waits-on steps (fresh channel first window) end tt run (λ h none. refl),
  )
