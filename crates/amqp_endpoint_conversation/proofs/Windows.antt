-- Each transfer that a session's steps hand out lies in the peer's window.
use Rattle.std.proofs.Common.{◌≡◌, ℕ, ◌+◌, ◌%◌, ◌^◌, Bool, true, false, List, [], ◌∷◌, ◌++◌, Option, Some, None}
use Rattle.std.proofs.Common.{Ok, Err, ap, refl, sym, subst, ◌∙◌}
use Rattle.std.specs.Prelude.{option_map, option_to_list, if◌then◌else◌}
use Rattle.amqp_session_frames.specs.declared.frame.FrameBody.TheVariants as frame_body
use Rattle.amqp_session_performatives.specs.declared.begin.Begin.{Begin}
use Rattle.amqp_session_performatives.specs.declared.disposition.Disposition.{Disposition}
use Rattle.amqp_session_performatives.specs.declared.flow.Flow.{Flow}
use Rattle.amqp_session_performatives.specs.declared.session_frame.SessionFrame.{SessionFrame}
use Rattle.amqp_session_performatives.specs.declared.session_frame.SessionFrameBody.{SessionFrameBody}
use Rattle.amqp_session_performatives.specs.declared.session_frame.SessionFrameBody.TheVariants as body
use Rattle.amqp_session_types.specs.declared.channels.IncomingChannel.{IncomingChannel}
use Rattle.amqp_session_types.specs.declared.modes.Role.{Role}
use Rattle.amqp_session_types.specs.declared.modes.Role.TheVariants.{Sender, Receiver}
use Rattle.amqp_session_outgoing.specs.Table.{Table}
use Rattle.amqp_session_outgoing.specs.State as sending
use Rattle.amqp_session_outgoing.specs.State.{Leaves, with_batch, with_window}
use Rattle.amqp_session_outgoing.specs.History.{AcceptsBatch}
use Rattle.amqp_session_core.specs.declared.batch.BehindFrame.{BehindFrame}
use Rattle.amqp_session_core.specs.declared.batch.BehindFrame.TheVariants as behind
use Rattle.amqp_session_core.specs.declared.fields.SessionFields.{SessionFields}
use Rattle.amqp_session_core.specs.Batch.{Transfers}
use Rattle.amqp_session_core.specs.Frames.{Left, behind_frame, frames_behind, frames_left, session_flow}
use Rattle.amqp_session_core.specs.History.{History}
use Rattle.amqp_session_core.specs.Relay.{Relations}
use Rattle.amqp_session_core.specs.State.{State}
use Rattle.amqp_session_core.specs.Steps.{Act, Stays, SendsBegin, TakesBegin}
use Rattle.amqp_session_core.specs.Steps.{SendsEnd, TakesEnd, TakesAttach, TakesFlow}
use Rattle.amqp_session_core.specs.Steps.{SetsWindow, TakesTransfer, TakesDisposition, TakesDetach, SendsBehind}
use Rattle.amqp_session_core.specs.Steps.{SendsTransfers, SendsDisposition, TellsFlow, Allocates, Deallocates, Reserves}
use Rattle.amqp_session_core.specs.Steps.{Changes, Step, Reply, NoReply, OfSession, OfLink, Replies, reply_frames}
use Rattle.amqp_session_core.specs.Steps.{SendsDispositionStep, with_table}
use Rattle.amqp_endpoint_fitting.specs.Handed.{handed, handed_of}
use Rattle.amqp_endpoint_conversation.specs.Inside.{AcceptsInside, Batches, SetNoWindow, SetsNoWindow, is_transfer}
use Rattle.amqp_endpoint_conversation.specs.Inside.{transfers_in}
use Rattle.amqp_endpoint_conversation.specs.Windows.{Came, Count, IsAllowed, KeepsWindow, Passing, Went, base_by}
use Rattle.amqp_endpoint_conversation.specs.Windows.{count_behind}
use Rattle.amqp_endpoint_conversation.specs.Windows.{Keeps, Sending, counted, sent_by, told_by, went}
use Rattle.amqp_endpoint_conversation.proofs.Inside.{same-transfers}

pub keeps-still : (old new : Count) → new ≡ old → Keeps old [] new
keeps-still old new same = record { each = tt; counts = sym same }

pub each-append : (c : Count) (ps qs : List Passing) → KeepsWindow c ps → KeepsWindow (count_behind c ps) qs
    → KeepsWindow c (ps ++ qs)
each-append c [] qs k l = l
each-append c (Came b ∷ ps) qs k l = each-append (told_by b c) ps qs k l
each-append c (Went f ∷ ps) qs (allowed, k) l = (allowed, each-append (sent_by f.body c) ps qs k l)

pub counts-append : (c : Count) (ps qs : List Passing) → count_behind c (ps ++ qs) ≡ count_behind (count_behind c ps) qs
counts-append c [] qs = refl
counts-append c (Came b ∷ ps) qs = counts-append (told_by b c) ps qs
counts-append c (Went f ∷ ps) qs = counts-append (sent_by f.body c) ps qs

pub keeps-on : (old mid new : Count) (ps qs : List Passing) → Keeps old ps mid → Keeps mid qs new
    → Keeps old (ps ++ qs) new
keeps-on old mid new ps qs k l =
    record {
      each = each-append old ps qs k.each (subst (λ (c : Count). KeepsWindow c qs) (sym k.counts) l.each);
      counts = counts-append old ps qs ∙ ap (λ (c : Count). count_behind c qs) k.counts ∙ l.counts;
    }

pub went-append : (these more : List SessionFrame) → went (these ++ more) ≡ went these ++ went more
went-append [] more = refl
went-append (f ∷ these) more = ap (λ (ps : List Passing). Went f ∷ ps) (went-append these more)

-- a frame that is no transfer passes freely
module _ (new : Count) (ps : List Passing) where
  free : (f : SessionFrame) (b : SessionFrameBody) (old : Count) → f.body ≡ b → IsAllowed old b → sent_by b old ≡ old
      → Keeps old ps new → Keeps old (Went f ∷ ps) new
  free f b old is allowed same k =
      let still : sent_by f.body old ≡ old = ap (λ (x : SessionFrameBody). sent_by x old) is ∙ same in
      record {
        each = (
          subst (λ (x : SessionFrameBody). IsAllowed old x) (sym is) allowed,
          subst (λ (c : Count). KeepsWindow c ps) (sym still) k.each,
        );
        counts = ap (λ (c : Count). count_behind c ps) still ∙ k.counts;
      }

  behind-free : (f : SessionFields) (number : ℕ) (b : BehindFrame) (old : Count) → Keeps old ps new
      → Keeps old (Went (behind_frame f number b) ∷ ps) new
  behind-free f number (behind.Flow link) old k = free _ _ old refl tt refl k
  behind-free f number (behind.Detach detach) old k = free _ _ old refl tt refl k

all-behind-free : (f : SessionFields) (number : ℕ) (bs : List BehindFrame) (frames : List SessionFrame)
    (old new : Count) → Keeps old (went frames) new → Keeps old (went (frames_behind f number bs ++ frames)) new
all-behind-free f number [] frames old new k = k
all-behind-free f number (b ∷ bs) frames old new k =
    behind-free new (went (frames_behind f number bs ++ frames)) f number b old
    (all-behind-free f number bs frames old new k)

-- so only the transfers among frames matter
module _ (new : Count) where
  with-one : (b : SessionFrameBody) (f : SessionFrame) → f.body ≡ b → (fs : List SessionFrame) (old : Count)
      → ((c : Count) → Keeps c (went (transfers_in fs)) new → Keeps c (went fs) new)
      → Keeps old (went (if is_transfer b then f ∷ transfers_in fs else transfers_in fs)) new
      → Keeps old (went (f ∷ fs)) new
  with-one (body.Transfer transfer payload) f is fs old rest k =
      let l : Keeps (sent_by f.body old) (went fs) new =
      rest (sent_by f.body old) (record { each = (k.each).1; counts = k.counts }) in
      record { each = ((k.each).0, l.each); counts = l.counts }
  with-one (body.Begin begin) f is fs old rest k = free new (went fs) f _ old is tt refl (rest old k)
  with-one (body.Attach attach) f is fs old rest k = free new (went fs) f _ old is tt refl (rest old k)
  with-one (body.Flow flow) f is fs old rest k = free new (went fs) f _ old is tt refl (rest old k)
  with-one (body.Disposition disposition) f is fs old rest k = free new (went fs) f _ old is tt refl (rest old k)
  with-one (body.Detach detach) f is fs old rest k = free new (went fs) f _ old is tt refl (rest old k)
  with-one (body.End end) f is fs old rest k = free new (went fs) f _ old is tt refl (rest old k)

  pub with-others : (frames : List SessionFrame) (old : Count) → Keeps old (went (transfers_in frames)) new
      → Keeps old (went frames) new
  with-others [] old k = k
  with-others (f ∷ fs) old k = with-one f.body f refl fs old (λ c. with-others fs c) k

  unfree : (f : SessionFrame) (b : SessionFrameBody) (ps : List Passing) (old : Count) → f.body ≡ b
      → sent_by b old ≡ old → Keeps old (Went f ∷ ps) new → Keeps old ps new
  unfree f b ps old is same k =
      let still : sent_by f.body old ≡ old = ap (λ (x : SessionFrameBody). sent_by x old) is ∙ same in
      record {
        each = subst (λ (c : Count). KeepsWindow c ps) still (k.each).1;
        counts = sym (ap (λ (c : Count). count_behind c ps) still) ∙ k.counts;
      }

  without-one : (b : SessionFrameBody) (f : SessionFrame) → f.body ≡ b → (fs : List SessionFrame) (old : Count)
      → ((c : Count) → Keeps c (went fs) new → Keeps c (went (transfers_in fs)) new) → Keeps old (went (f ∷ fs)) new
      → Keeps old (went (if is_transfer b then f ∷ transfers_in fs else transfers_in fs)) new
  without-one (body.Transfer transfer payload) f is fs old rest k =
      let l : Keeps (sent_by f.body old) (went (transfers_in fs)) new =
      rest (sent_by f.body old) (record { each = (k.each).1; counts = k.counts }) in
      record { each = ((k.each).0, l.each); counts = l.counts }
  without-one (body.Begin begin) f is fs old rest k = rest old (unfree f _ (went fs) old is refl k)
  without-one (body.Attach attach) f is fs old rest k = rest old (unfree f _ (went fs) old is refl k)
  without-one (body.Flow flow) f is fs old rest k = rest old (unfree f _ (went fs) old is refl k)
  without-one (body.Disposition disposition) f is fs old rest k = rest old (unfree f _ (went fs) old is refl k)
  without-one (body.Detach detach) f is fs old rest k = rest old (unfree f _ (went fs) old is refl k)
  without-one (body.End end) f is fs old rest k = rest old (unfree f _ (went fs) old is refl k)

  without-others : (frames : List SessionFrame) (old : Count) → Keeps old (went frames) new
      → Keeps old (went (transfers_in frames)) new
  without-others [] old k = k
  without-others (f ∷ fs) old k = without-one f.body f refl fs old (λ c. without-others fs c) k

-- frames with the same transfers
pub with-same : (frames other : List SessionFrame) (old new : Count) → transfers_in frames ≡ transfers_in other
    → Keeps old (went other) new → Keeps old (went frames) new
with-same frames other old new same k =
    with-others new frames old
    (subst (λ (fs : List SessionFrame). Keeps old (went fs) new) (sym same) (without-others new other old k))

leaves-keep : (f : SessionFields) (left : Left) (old new : Sending) → Leaves old left new
    → Keeps (counted old) (went (frames_left f left)) (counted new)
leaves-keep f [] old new same = keeps-still (counted old) (counted new) (ap counted same)
leaves-keep f (s ∷ left) old new (mid, one, more) =
    let here : Count = record (counted old) { next = (old.next_outgoing_id + 1) % 2 ^ 32 } in
    let is : counted mid ≡ here = ap counted one.becomes in
    let rest : Keeps here (went (frames_left f left)) (counted new) =
    subst (λ (c : Count). Keeps c (went (frames_left f left)) (counted new)) is (leaves-keep f left mid new more) in
    let all : Keeps here
    (went (frames_behind f ((s.number + 1) % 2 ^ 32) s.behind ++ frames_left f left)) (counted new) =
    all-behind-free f ((s.number + 1) % 2 ^ 32) s.behind (frames_left f left) here (counted new) rest in
    record { each = (one.allowed, all.each); counts = all.counts }

table-counts : {R : Type 0} → (role : Role) (table : Table) (s : State R)
    → counted (with_table role table s).outgoing ≡ counted s.outgoing
table-counts Sender table s = refl
table-counts Receiver table s = refl

pub due-free : (due : Bool) (f : SessionFields) (number : ℕ) (old new : Count) → new ≡ old
    → Keeps old (went (option_to_list (if due then Some (session_flow f number) else None))) new
due-free true f number old new same = free new [] _ _ old refl tt refl (keeps-still old new same)
due-free false f number old new same = keeps-still old new same

at-once-free : (left : Option BehindFrame) (f : SessionFields) (number : ℕ) (old new : Count) → new ≡ old
    → Keeps old (went (option_to_list (option_map (behind_frame f number) left))) new
at-once-free None f number old new same = keeps-still old new same
at-once-free (Some b) f number old new same = behind-free new [] f number b old (keeps-still old new same)

-- a batch is accepted
batch-keeps : (f : SessionFields) (handle : _) (batch : Transfers) (left : Left) (old new : Sending)
    → AcceptsBatch old handle batch left new → Keeps (counted old) (went (frames_left f left)) (counted new)
batch-keeps f handle [] left old new (none, same) =
    subst (λ (l : Left). Keeps (counted old) (went (frames_left f l)) (counted new)) (sym none)
    (keeps-still (counted old) (counted new) (ap counted same))
batch-keeps f handle (u ∷ us) left old new (tags, free_numbers, leaves, held) =
    leaves-keep f left (with_batch old handle.0 (u ∷ us)) new leaves

module _ {R A T D : Type 0} (gives : Relations R A T D) where
  disposition-counts : (settled : Bool) (old new : State R) (d : Disposition) (numbers : List ℕ)
      → SendsDispositionStep gives settled old d numbers new → counted new.outgoing ≡ counted old.outgoing
  disposition-counts true old new d numbers (touched, is) =
      ap (λ (s : State R). counted s.outgoing) is ∙ table-counts _ _ old
  disposition-counts false old new d numbers (none, same) = ap (λ (s : State R). counted s.outgoing) same

  -- a step by which the window stays
  pub step-keeps : (step : Act R A T D) (old new : State R) → SetsNoWindow step → Step gives old step new
      → Keeps (counted old.outgoing) (went (handed step)) (counted new.outgoing)
  step-keeps Stays old new still s = keeps-still _ _ (ap (λ t. counted t.outgoing) s)
  step-keeps (SendsBegin frame) old new still s =
      free _ [] frame _ _ (ap (λ f. f.body) s.0) tt refl (keeps-still _ _ (ap (λ t. counted t.outgoing) s.2))
  step-keeps (TakesBegin channel begin base left frames) old new still s = absurd still
  step-keeps (SendsEnd error frame) old new still s =
      free _ [] frame _ _ (ap (λ f. f.body) s.0) tt refl (keeps-still _ _ (ap (λ t. counted t.outgoing) s.2))
  step-keeps TakesEnd old new still s = keeps-still _ _ (ap (λ t. counted t.outgoing) s.1)
  step-keeps (TakesAttach handle attach (Ok told)) old new still s =
      keeps-still _ _ (ap (λ t. counted t.outgoing) s.2)
  step-keeps (TakesAttach handle attach (Err e)) old new still s =
      keeps-still _ _ (ap (λ t. counted t.outgoing) s.2)
  step-keeps (TakesFlow flow told reply base left frames) old new still s = absurd still
  step-keeps (SetsWindow flow base) old new still s = absurd still
  step-keeps (TakesTransfer handle transfer payload (Ok told) flow) old new still s =
      subst
      (λ (f : Option SessionFrame).
      Keeps (counted old.outgoing) (went (option_to_list f)) (counted new.outgoing))
      (sym (s.2).told) (due-free _ _ _ _ _ (ap (λ t. counted t.outgoing) s.3))
  step-keeps (TakesTransfer handle transfer payload (Err e) flow) old new still s =
      subst
      (λ (f : Option SessionFrame).
      Keeps (counted old.outgoing) (went (option_to_list f)) (counted new.outgoing))
      (sym s.2) (keeps-still _ _ (ap (λ t. counted t.outgoing) s.3))
  step-keeps (TakesDisposition d walk echoes) old new still s =
      keeps-still _ _ (ap (λ t. counted t.outgoing) s.becomes ∙ table-counts d.role _ _)
  step-keeps (TakesDetach handle detach (Ok told)) old new still s =
      keeps-still _ _ (ap (λ t. counted t.outgoing) s.2)
  step-keeps (TakesDetach handle detach (Err e)) old new still s =
      keeps-still _ _ (ap (λ t. counted t.outgoing) s.2)
  step-keeps (SendsBehind handle frame left answer) old new still s =
      subst
      (λ (f : Option SessionFrame).
      Keeps (counted old.outgoing) (went (option_to_list f)) (counted new.outgoing))
      (sym s.1) (at-once-free left _ _ _ _ (ap counted (s.0).1))
  step-keeps (SendsTransfers handle batch left frames) old new still s =
      subst (λ (fs : List SessionFrame). Keeps (counted old.outgoing) (went fs) (counted new.outgoing)) (sym s.1)
      (batch-keeps old.fields handle batch left old.outgoing new.outgoing s.0)
  step-keeps (SendsDisposition d numbers) old new still s =
      keeps-still _ _ (disposition-counts d.settled old new d numbers s)
  step-keeps (TellsFlow frame) old new still s =
      free _ [] frame _ _ (ap (λ f. f.body) s.0) tt refl (keeps-still _ _ (ap (λ t. counted t.outgoing) s.1))
  step-keeps (Allocates handle link None) old new still s = keeps-still _ _ (ap (λ t. counted t.outgoing) s.4)
  step-keeps (Allocates handle link (Some input)) old new still s = keeps-still _ _ (ap (λ t. counted t.outgoing) s.5)
  step-keeps (Deallocates handle) old new still s = keeps-still _ _ (ap counted (s.2).1)
  step-keeps (Reserves count) old new still s = keeps-still _ _ (ap counted s.0)
  step-keeps (Changes handle before after) old new still s = keeps-still _ _ (ap (λ t. counted t.outgoing) s.1)

  history-keeps : (steps : List (Act R A T D)) (old new : State R) → SetNoWindow steps → History gives old steps new
      → Keeps (counted old.outgoing) (went (handed_of steps)) (counted new.outgoing)
  history-keeps [] old new still same = keeps-still _ _ (ap (λ (s : State R). counted s.outgoing) same)
  history-keeps (step ∷ steps) old new (one, rest) (mid, stepped, more) =
      subst (λ (ps : List Passing). Keeps (counted old.outgoing) ps (counted new.outgoing))
      (sym (went-append (handed step) (handed_of steps)))
      (keeps-on (counted old.outgoing) (counted mid.outgoing) (counted new.outgoing) (went (handed step))
      (went (handed_of steps)) (step-keeps step old mid one stepped) (history-keeps steps mid new rest more))

  -- what is done in a session by its own steps
  pub inside-keeps : (accepted : Batches) (frames : List SessionFrame) (old new : State R)
      → AcceptsInside gives accepted old frames new
      → Keeps (counted old.outgoing) (went frames) (counted new.outgoing)
  inside-keeps accepted frames old new d =
      with-same frames (handed_of d.steps) (counted old.outgoing) (counted new.outgoing)
      (same-transfers frames (handed_of d.steps) d.says)
      (history-keeps d.steps old new d.still d.history)

  -- the peer's Begin is taken
  pub begin-keeps : (channel : IncomingChannel) (begin : Begin) (base : ℕ) (left : Left) (frames : List SessionFrame)
      (old new : State R) → Step gives old (TakesBegin channel begin base left frames) new
      → Keeps (counted old.outgoing) (Came (frame_body.Begin begin) ∷ went frames) (counted new.outgoing)
  begin-keeps channel begin base left frames old new (to, base_is, (leaves, held), frames_are, taken, becomes) =
      let opened : ℕ → Sending = λ b. with_window old.outgoing b begin.incoming_window in
      let k : Keeps (counted (opened old.outgoing.next_outgoing_id)) (went frames) (counted new.outgoing) =
      subst (λ (fs : List SessionFrame). Keeps (counted (opened old.outgoing.next_outgoing_id)) (went fs)
      (counted new.outgoing)) (sym frames_are)
      (leaves-keep new.fields left (opened old.outgoing.next_outgoing_id) new.outgoing
      (subst (λ (b : ℕ). Leaves (opened b) left new.outgoing) base_is leaves)) in
      record { each = k.each; counts = k.counts }

  reply-counts : (reply : Reply) (old mid : Sending) → Replies old reply mid → counted mid ≡ counted old
  reply-counts NoReply old mid same = ap counted same
  reply-counts OfSession old mid same = ap counted same
  reply-counts (OfLink handle flow left) old mid follows = ap counted follows.1

  reply-free : (f : SessionFields) (number : ℕ) (reply : Reply) (frames : List SessionFrame) (old new : Count)
      → Keeps old (went frames) new → Keeps old (went (reply_frames f number reply ++ frames)) new
  reply-free f number NoReply frames old new k = k
  reply-free f number OfSession frames old new k = free new (went frames) _ _ old refl tt refl k
  reply-free f number (OfLink handle flow None) frames old new k = k
  reply-free f number (OfLink handle flow (Some b)) frames old new k = behind-free new (went frames) f number b old k

  base-told : (s : Sending) (next : Option ℕ) → sending.base_of s next ≡ base_by s.initial_outgoing_id next
  base-told s None = refl
  base-told s (Some next) = refl

  told-counts : (flow : Flow) (s mid : Sending) (base : ℕ) → counted mid ≡ counted s
      → base ≡ sending.base_of s flow.next_incoming_id
      → counted (with_window mid base flow.incoming_window) ≡ told_by (frame_body.Flow flow) (counted s)
  told-counts flow s mid base same is =
      ap (λ (c : Count). record c { base = base; width = flow.incoming_window }) same
      ∙ ap (λ (b : ℕ). record (counted s) { base = b; width = flow.incoming_window })
      (is ∙ base-told s flow.next_incoming_id)

  -- a Flow is
  pub flow-keeps : (flow : Flow) (told : _) (reply : Reply) (base : ℕ) (left : Left) (frames : List SessionFrame)
      (old new : State R) → Step gives old (TakesFlow flow told reply base left frames) new
      → Keeps (counted old.outgoing) (Came (frame_body.Flow flow) ∷ went frames) (counted new.outgoing)
  flow-keeps flow told reply base left frames old new s =
      let c : Count = told_by (frame_body.Flow flow) (counted old.outgoing) in
      let is : counted (with_window s.mid base flow.incoming_window) ≡ c =
      told-counts flow old.outgoing s.mid base (reply-counts reply old.outgoing s.mid s.replied) s.base_is in
      let k : Keeps c (went (frames_left new.fields left)) (counted new.outgoing) =
      subst (λ (d : Count). Keeps d (went (frames_left new.fields left)) (counted new.outgoing)) is
      (leaves-keep new.fields left (with_window s.mid base flow.incoming_window) new.outgoing (s.window).0) in
      let all : Keeps c (went frames) (counted new.outgoing) =
      subst (λ (fs : List SessionFrame). Keeps c (went fs) (counted new.outgoing)) (sym s.frames_are)
      (reply-free new.fields old.outgoing.next_outgoing_id reply (frames_left new.fields left) c
      (counted new.outgoing) k) in
      record { each = all.each; counts = all.counts }

  -- or its window is set
  pub set-keeps : (flow : Flow) (base : ℕ) (old new : State R) → Step gives old (SetsWindow flow base) new
      → Keeps (counted old.outgoing) (Came (frame_body.Flow flow) ∷ []) (counted new.outgoing)
  set-keeps flow base old new (leads, is, becomes) =
      record {
        each = tt;
        counts =
            sym
            (ap (λ (s : State R). counted s.outgoing) becomes
            ∙ told-counts flow old.outgoing old.outgoing base refl is);
      }
