-- A link that takes what was kept of a Flow hands out at most one frame more, and keeps its session's room; and it has
-- the credit then that it was to have.
use Rattle.std.proofs.Common.{◌≡◌, ◌+◌, ◌≤◌, ◌==◌, ◌-◌, ℕ, Bool, true, false, List, [], ◌∷◌, ◌++◌, Option, Some, None}
use Rattle.std.proofs.Common.{append-nil, drop, length, length-append, option_map, if◌then◌else◌, arith, refl, sym}
use Rattle.std.proofs.Common.{ap, subst, ◌∙◌}
use Rattle.std.specs.Prelude.{option_to_list}
use Rattle.std.proofs.lemmas.Option.{none-some, same_Some}
use Rattle.amqp_session_types.specs.declared.handles.OutputHandle.{OutputHandle}
use Rattle.amqp_session_performatives.specs.declared.link_flow.LinkFlow.{LinkFlow}
use Rattle.amqp_session_performatives.specs.declared.session_frame.SessionFrame.{SessionFrame}
use Rattle.amqp_session_outgoing.specs.Frames.{last_room}
use Rattle.amqp_session_outgoing.specs.Queues.{FollowsIn, Queues, followed, frames_in, room_behind, trailed, units_of}
use Rattle.amqp_session_outgoing.specs.State as sending
use Rattle.amqp_session_outgoing.specs.declared.frames.Outbound.{Outbound}
use Rattle.amqp_session_outgoing.proofs.Counting.{frames-followed}
use Rattle.amqp_session_outgoing.proofs.Order.{followed-units}
use Rattle.amqp_session_core.specs.State.{link_at}
use Rattle.amqp_session_core.specs.Steps.{at_once}
use Rattle.amqp_session_core.specs.declared.batch.BehindFrame.{BehindFrame}
use Rattle.amqp_session_core.specs.declared.batch.TransferFrame.{TransferFrame}
use Rattle.amqp_session_core.specs.declared.fields.SessionFields.{SessionFields}
use Rattle.amqp_link_base.specs.Flows.{sender_flowed}
use Rattle.amqp_link_base.specs.State.{is_attached}
use Rattle.amqp_link_sender.specs.Sending.{Sending}
use Rattle.amqp_link.specs.Ends.{flowed}
use Rattle.amqp_link.specs.GoingOn.{HasCreditFor}
use Rattle.amqp_link.specs.declared.end.End.{End}
use Rattle.amqp_link.specs.declared.end.End.TheVariants.{Sender, Receiver}
use Rattle.amqp_endpoint_links.specs.declared.numbered.Numbered.{Numbered}
use Rattle.amqp_endpoint_attached.specs.Kept.{Replies, TakesBy, TakesKept}
use Rattle.amqp_endpoint_attached.specs.Linked.{Linked, LinksIn, end_at, end_in, gives}
use Rattle.amqp_endpoint_attached.specs.Links.{with_number}
use Rattle.amqp_endpoint_attached.proofs.There.{end_there, replaced}
use Rattle.amqp_endpoint_messages.specs.All.{TellsFirst, TellsIn, behind_told, with_ended}
use Rattle.amqp_endpoint_messages.specs.GoingOn.{AreTagged, HasCreditBehind, HasPlaceBehind, count_on, flow_ready}
use Rattle.amqp_endpoint_messages.specs.GoingOn.{flowed_by}
use Rattle.amqp_endpoint_messages.specs.SendingOn.{HasRoomToGoOn, MayGoOn, transfers_in}
use Rattle.amqp_endpoint_messages.specs.declared.giving_up.Closing.{Closing}
use Rattle.amqp_endpoint_messages.specs.declared.going_on.OnReady.{OnReady}
use Rattle.amqp_endpoint_messages.specs.declared.sending_on.FlowReady.{FlowReady}

-- a frame behind what waits takes room for one
module _ {T F : Type 0} where
  trailed-room : (frame : F) (us : List (Outbound T F)) → last_room 1 (trailed frame us) ≤ last_room 1 us + 1
  trailed-room frame [] = omega arith
  trailed-room frame (u ∷ []) = omega (arith, length-append u.behind (frame ∷ []))
  trailed-room frame (u ∷ v ∷ []) = omega (arith, length-append v.behind (frame ∷ []))
  trailed-room frame (u ∷ v ∷ w ∷ us) = trailed-room frame (v ∷ w ∷ us)

  followed-room : (h k : ℕ) (frame : F) (qs : Queues T F)
      → room_behind h 1 (followed k frame qs) ≤ room_behind h 1 qs + 1
  followed-room h k frame qs =
      subst (λ (us : List (Outbound T F)). last_room 1 us ≤ room_behind h 1 qs + 1)
      (sym (followed-units h k frame qs)) (by (k == h))
    where
      by : (b : Bool)
          → last_room 1 (if b then trailed frame (units_of h qs) else units_of h qs) ≤ last_room 1 (units_of h qs) + 1
      by true = trailed-room frame (units_of h qs)
      by false = omega arith

-- what was handed out and what waits, behind a reply
record RoomLeft (h : ℕ) (old new : sending.State TransferFrame BehindFrame) (added : List SessionFrame) : Type 0 where
  frames : length added + frames_in new.queues ≤ frames_in old.queues + 1
  room : new.room ≡ old.room
  place : room_behind h 1 new.queues ≤ room_behind h 1 old.queues + 1

left-room : (h : ℕ) (old new : sending.State TransferFrame BehindFrame) (added : List SessionFrame) → new ≡ old
    → added ≡ [] → RoomLeft h old new added
left-room h old new added same none =
    subst (λ (o : sending.State TransferFrame BehindFrame). RoomLeft h old o added) (sym same)
    (subst (λ (fs : List SessionFrame). RoomLeft h old old fs) (sym none)
    (record { frames = omega arith; room = refl; place = omega arith }))

behind-room : (h : ℕ) (fields : SessionFields) (id : ℕ) (frame : BehindFrame) (left : Option BehindFrame)
    (answer : Option SessionFrame) (old new : sending.State TransferFrame BehindFrame)
    → FollowsIn h frame left old.queues new.queues → new ≡ record old { queues = new.queues }
    → answer ≡ at_once fields id left → RoomLeft h old new (option_to_list answer)
behind-room h fields id frame None answer old new (some, is) rest told =
    let none : length (option_to_list answer) ≡ 0 =
    ap (λ (o : Option SessionFrame). length (option_to_list o)) told in
    let more : frames_in new.queues ≡ frames_in old.queues + 1 =
    ap (λ (qs : Queues TransferFrame BehindFrame). frames_in qs) is ∙ frames-followed h frame old.queues some in
    record {
      frames = omega (arith, none, more);
      room = ap (λ (o : sending.State TransferFrame BehindFrame). o.room) rest;
      place =
          subst
          (λ (qs : Queues TransferFrame BehindFrame). room_behind h 1 qs ≤ room_behind h 1 old.queues + 1)
          (sym is) (followed-room h h frame old.queues);
    }
behind-room h fields id frame (Some left) answer old new (none, says, is) rest told =
    let one : length (option_to_list answer) ≡ 1 =
    ap (λ (o : Option SessionFrame). length (option_to_list o)) told in
    let same : frames_in new.queues ≡ frames_in old.queues =
    ap (λ (qs : Queues TransferFrame BehindFrame). frames_in qs) is in
    record {
      frames = omega (arith, one, same);
      room = ap (λ (o : sending.State TransferFrame BehindFrame). o.room) rest;
      place =
          subst
          (λ (qs : Queues TransferFrame BehindFrame). room_behind h 1 qs ≤ room_behind h 1 old.queues + 1)
          (sym is) (omega arith);
    }

-- what was kept is taken
pub record KeptLeft (handle : OutputHandle) (kept : Option LinkFlow) (old : Linked) (out : List SessionFrame)
    (new : Linked) (out_new : List SessionFrame) : Type 0 where
  pub frames : length out_new + frames_in new.session.outgoing.queues
      ≤ length out + frames_in old.session.outgoing.queues + 1
  pub room : new.session.outgoing.room ≡ old.session.outgoing.room
  pub place : room_behind handle.0 1 new.session.outgoing.queues
      ≤ room_behind handle.0 1 old.session.outgoing.queues + 1
  pub link : (link : End) → end_at old handle ≡ Some link → end_at new handle ≡ Some (flowed_by kept link)

-- the link that took it
taken-link : (handle : OutputHandle) (flow : LinkFlow) (reply : Option LinkFlow) (old mid : LinksIn)
    → TakesBy handle flow reply old mid → (link : End) → end_in old handle ≡ Some link
    → end_in mid handle ≡ Some (flowed link flow)
taken-link handle flow reply old mid t link there =
    let before : Numbered End = with_number t.number t.before in
    let after : Numbered End = with_number t.number (flowed t.before flow) in
    let is : t.before ≡ link =
    same_Some t.before link (sym (end_there old handle before (sym t.changed.0)) ∙ there) in
    let stands : link_at mid handle.0 ≡ Some after =
    ap (λ (s : LinksIn). link_at s handle.0) t.changed.1 ∙ replaced old handle.0 before after (sym t.changed.0) in
    end_there mid handle after (sym stands) ∙ ap (λ (e : End). Some (flowed e flow)) is

taken-waits : (handle : OutputHandle) (flow : LinkFlow) (reply : Option LinkFlow) (old mid : LinksIn)
    → TakesBy handle flow reply old mid → mid.outgoing ≡ old.outgoing
taken-waits handle flow reply old mid t = ap (λ (s : LinksIn). s.outgoing) t.changed.1

record ReplyLeft (handle : OutputHandle) (mid new : LinksIn) (out out_new : List SessionFrame) : Type 0 where
  added : List SessionFrame
  handed : out_new ≡ out ++ added
  left : RoomLeft handle.0 mid.outgoing new.outgoing added
  links : new.links ≡ mid.links

reply-left : (handle : OutputHandle) (reply : Option LinkFlow) (mid new : LinksIn) (out out_new : List SessionFrame)
    → Replies gives handle reply mid out new out_new → ReplyLeft handle mid new out out_new
reply-left handle None mid new out out_new (same, silent) =
    record {
      added = [];
      handed = silent ∙ sym (append-nil out);
      left = left-room handle.0 mid.outgoing new.outgoing [] (ap (λ (s : LinksIn). s.outgoing) same) refl;
      links = ap (λ (s : LinksIn). s.links) same;
    }
reply-left handle (Some flow) mid new out out_new r =
    let s = r.sent.stepped in
    record {
      added = option_to_list r.frame;
      handed = r.handed;
      left =
          behind-room handle.0 mid.fields mid.outgoing.next_outgoing_id _ r.sent.left r.frame mid.outgoing new.outgoing
          s.0.0 s.0.1 s.1;
      links = ap (λ (t : LinksIn). t.links) s.2;
    }

pub kept-left : (handle : OutputHandle) (kept : Option LinkFlow) (old new : Linked) (out out_new : List SessionFrame)
    → TakesKept handle kept old out new out_new → KeptLeft handle kept old out new out_new
kept-left handle None old new out out_new t =
    let same : new.session ≡ old.session = t.takes.0 in
    record {
      frames =
          omega (
            arith,
            ap (λ (fs : List SessionFrame). length fs) t.takes.1,
            ap (λ (s : LinksIn). frames_in s.outgoing.queues) same,
          );
      room = ap (λ (s : LinksIn). s.outgoing.room) same;
      place = omega (arith, ap (λ (s : LinksIn). room_behind handle.0 1 s.outgoing.queues) same);
      link = λ link there. ap (λ (s : LinksIn). end_in s handle) same ∙ there;
    }
kept-left handle (Some flow) old new out out_new t =
    let f = t.takes in
    let r : ReplyLeft handle f.mid new.session out out_new =
    reply-left handle f.reply f.mid new.session out out_new f.replies in
    let waits : f.mid.outgoing ≡ old.session.outgoing =
    taken-waits handle flow f.reply old.session f.mid f.takes in
    record {
      frames =
          omega (
            arith,
            ap (λ (fs : List SessionFrame). length fs) r.handed,
            length-append out r.added,
            r.left.frames,
            ap (λ (o : sending.State TransferFrame BehindFrame). frames_in o.queues) waits,
          );
      room = r.left.room ∙ ap (λ (o : sending.State TransferFrame BehindFrame). o.room) waits;
      place =
          omega (
            arith,
            r.left.place,
            ap (λ (o : sending.State TransferFrame BehindFrame). room_behind handle.0 1 o.queues) waits,
          );
      link = λ link there.
          subst
          (λ (links : List (Option (Numbered End))).
          end_in (record f.mid { links = links }) handle ≡ Some (flowed link flow))
          (sym r.links) (taken-link handle flow f.reply old.session f.mid f.takes link there);
    }

-- a link that told of messages has the credit that it had
sender-told : (n count : ℕ) (s : Sending) (flow : LinkFlow) (b : Bool)
    → n ≤ (if b then record s { flow = sender_flowed s.flow flow } else s).flow.link_credit
    → let told = with_ended s (drop count s.messages.resolved) in
    n ≤ (if b then record told { flow = sender_flowed s.flow flow } else told).flow.link_credit
sender-told n count s flow true has = has
sender-told n count s flow false has = has

told-credit : (n count : ℕ) (kept : Option LinkFlow) (e : End) → HasCreditFor n (flowed_by kept e)
    → HasCreditFor n (flowed_by kept (behind_told count e))
told-credit n count None (Sender s) has = has
told-credit n count None (Receiver r) has = has
told-credit n count (Some flow) (Sender s) has = sender-told n count s flow (is_attached s.base.local_state) has
told-credit n count (Some flow) (Receiver r) has = has

-- it stands behind what it told
tells-link : (count : ℕ) (handle : OutputHandle) (o : Option (Numbered End)) (old new : LinksIn)
    → link_at old handle.0 ≡ o → TellsIn count handle o old new → (link : End) → end_in old handle ≡ Some link
    → end_in new handle ≡ Some (behind_told count link)
tells-link count handle None old new is same link there =
    let none : None ≡ Some link =
    sym (ap (λ (x : Option (Numbered End)). option_map (λ (m : Numbered End). m.link) x) is) ∙ there in
    absurd (none-some link none)
tells-link count handle (Some had) old new is stepped link there =
    let after : Numbered End = record had { link = behind_told count had.link } in
    let same : had.link ≡ link = same_Some had.link link (sym (end_there old handle had (sym is)) ∙ there) in
    let stands : link_at new handle.0 ≡ Some after =
    ap (λ (s : LinksIn). link_at s handle.0) stepped.1 ∙ replaced old handle.0 had after (sym stepped.0) in
    end_there new handle after (sym stands) ∙ ap (λ (e : End). Some (behind_told count e)) same

pub credit-behind : (kept : Option LinkFlow) (handle : OutputHandle) (on : OnReady) (count : ℕ) (old told : Linked)
    (given : LinksIn) → HasCreditBehind kept handle on old
    → TellsFirst count handle (link_at old.session handle.0) old told → given.links ≡ told.session.links
    → HasCreditBehind kept handle on (record told { session = given })
credit-behind kept handle on count old told given has tells same =
    record {
      link = behind_told count has.link;
      there =
          subst
          (λ (links : List (Option (Numbered End))).
          end_in (record told.session { links = links }) handle ≡ Some (behind_told count has.link))
          (sym same)
          (tells-link count handle (link_at old.session handle.0) old.session told.session refl tells.tells has.link
          has.there);
      credit =
          told-credit (length on.sending.batches.items) count kept has.link has.credit;
    }

-- a place behind a reply serves as long as what waits stays
pub behind-still : (old new : Linked) (handle : OutputHandle) (on : Option OnReady)
    → new.session.outgoing.queues ≡ old.session.outgoing.queues → HasPlaceBehind old handle on
    → HasPlaceBehind new handle on
behind-still old new handle None same serves = tt
behind-still old new handle (Some on) same serves = (
  serves.0,
  subst (λ (qs : Queues TransferFrame BehindFrame). room_behind handle.0 2 qs ≤ on.place) (sym same) serves.1,
)

-- room for two frames behind what waits is room for one more than for one
less-room : {T F : Type 0} (us : List (Outbound T F)) (n : ℕ) → 1 ≤ n → last_room 2 us ≤ n → last_room 1 us + 1 ≤ n
less-room [] n some few = omega (arith, some)
less-room (u ∷ []) n some few = omega (arith, few)
less-room (u ∷ v ∷ us) n some few = less-room (v ∷ us) n some few

pub place-behind : (handle : OutputHandle) (on : OnReady) (old given : LinksIn) → 2 ≤ on.place
    → room_behind handle.0 2 old.outgoing.queues ≤ on.place
    → ((most : ℕ) → 1 ≤ most → room_behind handle.0 1 old.outgoing.queues ≤ most
    → room_behind handle.0 1 given.outgoing.queues ≤ most)
    → room_behind handle.0 1 given.outgoing.queues + 1 ≤ on.place
place-behind handle on old given some serves keeps =
    let one : room_behind handle.0 1 old.outgoing.queues + 1 ≤ on.place =
    less-room (units_of handle.0 old.outgoing.queues) on.place (omega (arith, some)) serves in
    let still : room_behind handle.0 1 given.outgoing.queues ≤ on.place - 1 =
    keeps (on.place - 1) (omega (arith, some)) (omega (arith, one)) in
    omega (arith, still, some)

-- what is left of what was made ready, once the link took what was kept of a Flow
pub record Left (closing : Closing) (on : Option OnReady) (flow : FlowReady) : Type 0 where
  pub its : OnReady
  pub on_is : on ≡ Some its
  pub flow_is : flow ≡ record { sending = its.sending; closing = record closing { place = its.place } }

pub some-left : (closing : Closing) (on : Option OnReady) (flow : FlowReady) → flow_ready closing on ≡ Some flow
    → Left closing on flow
some-left closing None flow is = absurd (none-some flow is)
some-left closing (Some its) flow is =
    record { its = its; on_is = refl; flow_is = sym (same_Some _ _ is) }

pub none-left : (closing : Closing) (on : Option OnReady) → flow_ready closing on ≡ None → on ≡ None
none-left closing None is = refl
none-left closing (Some its) is = absurd (none-some _ (sym is))

-- so the link sends on
module _ (closing : Closing) (on : Option OnReady) (flow : FlowReady) (left : Left closing on flow)
    (kept : Option LinkFlow) (given new : Linked) (out_up out_new : List SessionFrame)
    (takes : TakesKept closing.handle kept given out_up new out_new) where
  after : KeptLeft closing.handle kept given out_up new out_new
  after = kept-left closing.handle kept given new out_up out_new takes

  pub may-go-on : HasCreditBehind kept closing.handle left.its given → AreTagged on → MayGoOn flow new
  may-go-on has tagged =
      subst (λ (f : FlowReady). MayGoOn f new) (sym left.flow_is)
      (record {
        link = flowed_by kept has.link;
        there = after.link has.link has.there;
        credit = has.credit;
        tagged = subst AreTagged left.on_is tagged;
      })

  pub has-room-on : (len_up len_new capacity : ℕ) → len_up ≡ length out_up → len_new ≡ length out_new
      → count_on on ≤ given.session.outgoing.room
      → len_up + (frames_in given.session.outgoing.queues + given.session.outgoing.room) + 2 ≤ capacity
      → 1 ≤ left.its.place
      → room_behind closing.handle.0 1 given.session.outgoing.queues + 1 ≤ left.its.place
      → HasRoomToGoOn flow 1 new len_new capacity
  has-room-on len_up len_new capacity up is few spare some place =
      subst (λ (f : FlowReady). HasRoomToGoOn f 1 new len_new capacity) (sym left.flow_is)
      (record {
        room =
            let are : count_on on ≡ transfers_in left.its.sending.batches.items = ap count_on left.on_is in
            omega (arith, few, are, after.room);
        spare = omega (arith, spare, after.frames, after.room, up, is);
        place = record { some = some; serves = omega (arith, place, after.place) };
      })
