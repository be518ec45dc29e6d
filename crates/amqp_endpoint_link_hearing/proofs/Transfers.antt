-- The peer's Transfer, once it is heard.
use Rattle.std.proofs.Common.{◌≡◌, inl, inr, ℕ, ◌+◌, Bool, true, false, List, [], ◌++◌, Option, Some}
use Rattle.std.proofs.Common.{None, Ok, IsSome, refl, sym, ap, subst, ◌∙◌, append-nil, arith}
use Rattle.std.specs.Prelude.{IfErr, IsErrAnd, Result, Err, ⊤, is_some, if◌then◌else◌, slice_index_or}
use Rattle.std.proofs.lemmas.Option.{none-some, same_Some}
use Rattle.amqp_session_types.specs.declared.channels.IncomingChannel.{IncomingChannel}
use Rattle.amqp_session_types.specs.declared.handles.OutputHandle.{OutputHandle}
use Rattle.amqp_session_performatives.specs.declared.session_frame.SessionFrame.{SessionFrame}
use Rattle.amqp_session_performatives.specs.declared.transfer.Transfer.{Transfer}
use Rattle.amqp_session_core.specs.State.{link_at, live_in, reached}
use Rattle.amqp_session_core.specs.Steps.{Changes, Step}
use Rattle.amqp_session_core.specs.Told.{TransferAt}
use Rattle.amqp_session_core.specs.declared.relay.TransferAnswer.{TransferAnswer}
use Rattle.amqp_session_core.specs.declared.incoming.TransferTaken.{TransferTaken}
use Rattle.std.specs.FinMap as map
use Rattle.amqp_link_receiver.specs.declared.answer.Message.{Message}
use Rattle.amqp_link_receiver.specs.declared.answer.Told.{Told}
use Rattle.amqp_link_receiver.specs.declared.answer.Told.TheVariants as tells
use Rattle.amqp_link_types.specs.declared.refusals.ReceiverTransferError.{ReceiverTransferError}
use Rattle.amqp_endpoint_links.specs.declared.hearing.LinkPerformative.TheVariants as said
use Rattle.amqp_endpoint_links.specs.declared.hearing.PerformativeTaken.TheVariants as taken
use Rattle.amqp_endpoint_conversation.specs.declared.hearing.Heard.TheVariants.{Live}
use Rattle.amqp_endpoint_conversation.specs.Hearing.{Answered}
use Rattle.amqp_endpoint_fitting.specs.Read.{IsRead}
use Rattle.amqp_endpoint_fitting.proofs.Due.{due}
use Rattle.amqp_endpoint_model.specs.declared.error.EndpointError.{EndpointError}
use Rattle.amqp_endpoint_model.specs.declared.error.EndpointError.TheVariants.{Memory}
use Rattle.amqp_endpoint_model.specs.declared.event.Event.{Event}
use Rattle.amqp_endpoint_model.specs.Relay.{IsSessionFault}
use Rattle.amqp_endpoint_model.specs.State.{fits, frame_of}
use Rattle.amqp_endpoint_conversation.proofs.Alone.{answer-alone}
use Rattle.amqp_endpoint_attached.specs.Linked.{Linked, gives}
use Rattle.amqp_endpoint_attached.proofs.There.{replaced}
use Rattle.amqp_endpoint_linking.specs.Linking.{Link, Links, Session, Talk}
use Rattle.amqp_endpoint_linking.specs.Handed.{Tells}
use Rattle.amqp_endpoint_link_hearing.specs.Saying.{Answers, FailsBySaid, LinkHeard}
use Rattle.amqp_endpoint_link_hearing.specs.InSession.{ChangesEnd, GoesOn}
use Rattle.amqp_endpoint_link_hearing.specs.Naming.{link_in, link_of}
use Rattle.amqp_endpoint_link_hearing.specs.Reached.{completes_of, counts_by, counts_of, link_among, link_on}
use Rattle.amqp_endpoint_link_hearing.specs.Reached.{link_under}
use Rattle.amqp_endpoint_link_hearing.specs.Reached.{link_within, recounted}
use Rattle.amqp_endpoint_link_hearing.specs.Taking.{ClosesBy, DoneFor, FailsFor, FailsIn, FlowFits, HandsBy, HasBack}
use Rattle.amqp_endpoint_link_hearing.specs.Taking.{HasNumber, HasNumberIn, MayBeNumbered, StandsIn, TakenIn}
use Rattle.amqp_endpoint_link_hearing.specs.Taking.{reached_in, reached_of}
use Rattle.amqp_endpoint_link_hearing.specs.Transferring.{Becomes, ClosedBy, Comes, HandsOver, HearsTransfer}
use Rattle.amqp_endpoint_link_hearing.specs.Transferring.{IsPutBack, IsUnclosed, IsUnnumbered, RefusesTransfer}
use Rattle.amqp_endpoint_link_hearing.specs.Transferring.{StandsAgain, transfer_of}
use Rattle.amqp_endpoint_link_hearing.specs.declared.reaching.Counts.{Counts}
use Rattle.amqp_endpoint_link_hearing.proofs.Stepped.{link-back, link-completes}
use Rattle.amqp_endpoint_link_hearing.proofs.Heard.{IsTaken, taken-in}

-- a handle that reached a link reaches it while the link is there
still-live : (links new : List (Option Link)) (r : Option ℕ) (handle : ℕ) (link : Link)
    → live_in links r ≡ Some handle → slice_index_or new handle None ≡ Some link → live_in new r ≡ Some handle
still-live links new None handle link is there = absurd (none-some _ is)
still-live links new (Some h) handle link is there = by (is_some (slice_index_or links h None)) is
  where
    by : (b : Bool) → (if b then Some h else None) ≡ Some handle → live_in new (Some h) ≡ Some handle
    by true e =
        let same : h ≡ handle = same_Some _ _ e in
        let P : ℕ → Type 0 = λ k. live_in new (Some k) ≡ Some handle in
        let here : live_in new (Some handle) ≡ Some handle =
        ap (λ (o : Option Link). if is_some o then Some handle else None) there in subst P (sym same) here
    by false e = absurd (none-some _ e)

-- the link that the peer's handle reached took its Transfer
pub record TransferredThere (old new : Linked) (it : Transfer) (payload : List ℕ) (told : TransferTaken Told)
    : Type 0 where
  pub handle : ℕ
  pub reaches : reached old.session it.handle.0 ≡ Some handle
  pub still : reached new.session it.handle.0 ≡ Some handle
  pub link : Link
  pub there : link_at new.session handle ≡ Some link
  pub before : Link
  pub had : link_at old.session handle ≡ Some before
  pub answer : TransferAnswer Told
  pub tells : told.told ≡ answer.told
  pub took : gives.transfers before it payload (Ok answer) link

transfer-in : (old new : Linked) (it : Transfer) (payload : List ℕ) (at : Option ℕ) (told : TransferTaken Told)
    → TransferAt gives old.session it payload at (Ok told) new.session → TransferredThere old new it payload told
transfer-in old new it payload None told t = absurd t
transfer-in old new it payload (Some handle) told t =
    let s = t.stepped in
    let there : link_at new.session handle ≡ Some (s.1).after =
    ap (λ (ls : List (Option Link)). slice_index_or ls handle None) (s.1).others
    ∙ replaced old.session handle (s.1).before (s.1).after (sym (s.1).had) in
    record {
      handle = handle;
      reaches = s.0;
      still =
          ap (λ st. reached st it.handle.0) s.3
          ∙ still-live old.session.links new.session.links (map.get old.session.routes it.handle.0) handle
          (s.1).after s.0 there;
      link = (s.1).after;
      there = there;
      before = (s.1).before;
      had = (s.1).had;
      answer = t.answer;
      tells = t.told;
      took = (s.1).stepped;
    }

-- the Flow of the session fits
flow-fits : (o : Option SessionFrame)
    → ((flow : SessionFrame) → o ≡ Some flow → IsRead flow → fits 512 (frame_of flow) ≡ true) → FlowFits o
flow-fits None f = tt
flow-fits (Some flow) f = f flow refl

module _ (old : Talk) (channel : IncomingChannel) (out : List SessionFrame) (it : Transfer) (payload : List ℕ)
    (session : ℕ) (told : TransferTaken Told) (mid : Talk) (out_mid : List SessionFrame)
    (t : Answered gives old out channel (said.Transfer it payload) (Ok (Live session (taken.Transfer told))) mid
    out_mid) where
  taken-there : IsTaken old channel out (said.Transfer it payload) session (taken.Transfer told) mid out_mid
  taken-there = taken-in old channel out (said.Transfer it payload) session (taken.Transfer told) mid out_mid t

  link-there : TransferredThere (taken-there.before).value ((taken-there.takes).after).value it payload told
  link-there =
      transfer-in (taken-there.before).value ((taken-there.takes).after).value it payload
      (reached ((taken-there.before).value).session it.handle.0) told
      ((((taken-there.takes).hears).heard).0).0

  -- as it stood before
  was-on : link_on old channel it.handle.0 ≡ Some link-there.before
  was-on =
      ap (λ (o : Option ℕ). link_among old o it.handle.0) taken-there.reaches
      ∙ ap (λ (o : Option Session). link_within o it.handle.0) taken-there.live
      ∙ ap (λ (o : Option ℕ). link_under (taken-there.before).value o) link-there.reaches
      ∙ link-there.had

  was-of : (handle : OutputHandle) → link-there.handle ≡ handle.0 → link_of old session handle ≡ Some link-there.before
  was-of handle same =
      ap (λ (o : Option Session). link_in o handle) taken-there.live
      ∙ ap (λ (h : ℕ). link_at (taken-there.before).value.session h) (sym same)
      ∙ link-there.had

  -- a number is left for its message
  numbered-by : (given : ℕ) → MayBeNumbered old given channel it payload → (tell : Told) → told.told ≡ tell
      → HasNumber tell given
  numbered-by given may (tells.Message message) is =
      may
      (ap (λ (o : Option Link). completes_of o it payload) was-on
      ∙ link-completes it payload link-there.answer link-there.before link-there.link link-there.took message
      (sym link-there.tells ∙ is))
  numbered-by given may (tells.Refused error) is = tt
  numbered-by given may tells.Nothing is = tt
  numbered-by given may (tells.Joined number tag) is = tt
  numbered-by given may tells.Dropped is = tt

  -- with the counts of before it stands as before
  stands-again : (counts : Counts) → counts ≡ counts_by (link-there.before).link → (error : ReceiverTransferError)
      → told.told ≡ tells.Refused error → (handle : OutputHandle) → link-there.handle ≡ handle.0 → (new : Talk)
      → GoesOn (ChangesEnd (recounted counts) handle) mid session new
      → GoesOn (StandsAgain handle link-there.before) mid session new
  stands-again counts counted error refuses handle same new g =
      let d = g.done in
      let here : (taken-there.takes).after ≡ g.before = same_Some _ _ (sym taken-there.stands ∙ (g.stepped).0) in
      let there : link_at (g.before).value.session handle.0 ≡ Some link-there.link =
      ap (λ (s : Session). link_at s.value.session handle.0) (sym here)
      ∙ ap (λ (h : ℕ). link_at ((taken-there.takes).after).value.session h) (sym same)
      ∙ link-there.there in
      let is : d.link ≡ link-there.link = same_Some _ _ (sym (d.changed).0 ∙ there) in
      let back : record d.link { link = recounted counts (d.link).link } ≡ link-there.before =
      ap (λ (l : Link). record l { link = recounted counts l.link }) is
      ∙ ap (λ (c : Counts). record (link-there.link) { link = recounted c (link-there.link).link }) counted
      ∙ link-back it payload link-there.answer link-there.before link-there.link link-there.took error
      (sym link-there.tells ∙ refuses) in
      record {
        before = g.before;
        after = g.after;
        done =
            record {
              spent = d.link;
              number = ap (λ (l : Link). l.number) is ∙ (link-there.took).1;
              changed =
                  subst
                  (λ (l : Link).
                  Step gives (g.before).value.session (Changes handle.0 d.link l) (g.after).value.session) back d.changed;
              rest = d.rest;
            };
        stepped = g.stepped;
        rest = g.rest;
      }

  reaches-on : reached_of mid session it.handle.0 ≡ Some link-there.handle
  reaches-on = ap (λ (o : Option Session). reached_in o it.handle.0) taken-there.stands ∙ link-there.still

  stands : IsSome (reached_of mid session it.handle.0) × FlowFits told.flow
  stands = (
    ap is_some reaches-on,
    flow-fits told.flow
        (λ flow is reads.
        due gives 512 (taken-there.before).value ((taken-there.takes).after).value out out_mid
        (said.Transfer it payload) told flow (omega arith) ((taken-there.takes).hears).heard is reads),
  )

  -- its message is handed out
  handed-by : (message : Message) (given : ℕ) (frames : List SessionFrame) (events : List Event) (new : Talk)
      (given_new : ℕ) → HandsBy message given mid session it.handle.0 events new → frames ≡ []
      → given_new ≡ given + 1 → HandsOver old given it session message mid frames events new given_new
  handed-by message given frames events new given_new h none counted =
      let same : link-there.handle ≡ (h.handle).0 = same_Some _ _ (sym reaches-on ∙ h.reaches) in
      record {
        left = h.left;
        stood = taken-there.before;
        live = taken-there.live;
        handle = h.handle;
        reaches = link-there.reaches ∙ ap (λ (n : ℕ). Some n) same;
        link = h.link;
        there = h.there;
        remembers = h.remembers;
        silent = none;
        tells = h.tells;
        counted = counted;
      }

  -- it is closed for its fault
  closed-by : (error : ReceiverTransferError) (frames : List SessionFrame) (events : List Event) (new : Talk)
      → ClosesBy error mid session it.handle.0 frames events new
      → ClosedBy old it session error mid frames events new
  closed-by error frames events new c =
      let same : link-there.handle ≡ (c.handle).0 = same_Some _ _ (sym reaches-on ∙ c.reaches) in
      record {
        stood = taken-there.before;
        live = taken-there.live;
        handle = c.handle;
        reaches = link-there.reaches ∙ ap (λ (n : ℕ). Some n) same;
        link = (c.closed).link;
        there = (c.closed).there;
        closes = (c.closed).closes;
        tells = (c.closed).tells;
      }

  comes : (tell : Told) (given : ℕ) (frames : List SessionFrame) (events : List Event) (new : Talk) (given_new : ℕ)
      → DoneFor tell given mid session it.handle.0 frames events new given_new
      → Comes tell old given it session mid frames events new given_new
  comes (tells.Message message) given frames events new given_new d =
      handed-by message given frames events new given_new d.0 d.1 d.2
  comes (tells.Refused error) given frames events new given_new d = (closed-by error frames events new d.0, d.1)
  comes tells.Nothing given frames events new given_new d = d
  comes (tells.Joined number tag) given frames events new given_new d = d
  comes tells.Dropped given frames events new given_new d = d

  put-back : (counts : Counts) → counts ≡ counts_of (link_on old channel it.handle.0)
      → (error : ReceiverTransferError) → told.told ≡ tells.Refused error → (new : Talk)
      → HasBack counts mid session it.handle.0 new → IsPutBack old it session mid new
  put-back counts counted error refuses new b =
      let same : link-there.handle ≡ (b.handle).0 = same_Some _ _ (sym reaches-on ∙ b.reaches) in
      record {
        stood = taken-there.before;
        live = taken-there.live;
        handle = b.handle;
        reaches = link-there.reaches ∙ ap (λ (n : ℕ). Some n) same;
        link = link-there.before;
        was = was-of b.handle same;
        back =
            stands-again counts (counted ∙ ap counts_of was-on) error refuses b.handle same new b.back;
      }

  unclosed-for : (counts : Counts) → counts ≡ counts_of (link_on old channel it.handle.0) → (tell : Told)
      → told.told ≡ tell → (e : EndpointError) (new : Talk)
      → FailsFor tell counts mid session it.handle.0 e new
      → Answers old channel (said.Transfer it payload) (Ok (Live session (taken.Transfer told))) [] mid
      → IsSessionFault e × IsUnclosed old channel it payload e new
  unclosed-for counts counted (tells.Refused error) is e new (fails, back) answered =
      let why : IsSessionFault e = subst IsSessionFault (sym fails) tt in (
        why,
        record {
          heard = Live session (taken.Transfer told);
          mid = mid;
          answered = answered;
          session = session;
          took = told;
          error = error;
          by_link = refl;
          refused = is;
          back = put-back counts counted error is new back;
          is = fails;
        },
      )
  unclosed-for counts counted (tells.Message message) is e new fails answered = absurd fails
  unclosed-for counts counted tells.Nothing is e new fails answered = absurd fails
  unclosed-for counts counted (tells.Joined number tag) is e new fails answered = absurd fails
  unclosed-for counts counted tells.Dropped is e new fails answered = absurd fails

module _ (old : Talk) (channel : IncomingChannel) (out : List SessionFrame) (it : Transfer) (payload : List ℕ) where
  stands-so : (heard : LinkHeard) (mid : Talk) (out_mid : List SessionFrame)
      → Answered gives old out channel (said.Transfer it payload) (Ok heard) mid out_mid
      → StandsIn mid it.handle.0 (transfer_of heard)
  stands-so (Live session (taken.Transfer told)) mid out_mid t =
      stands old channel out it payload session told mid out_mid t
  stands-so heard mid out_mid t = tt

  pub stands-for : (heard : LinkHeard) (took : Option (ℕ × TransferTaken Told)) → took ≡ transfer_of heard
      → (mid : Talk) (out_mid : List SessionFrame)
      → Answered gives old out channel (said.Transfer it payload) (Ok heard) mid out_mid
      → StandsIn mid it.handle.0 took
  stands-for heard took is mid out_mid t =
      subst (λ (o : Option (ℕ × TransferTaken Told)). StandsIn mid it.handle.0 o) (sym is)
      (stands-so heard mid out_mid t)

  numbered-so : (given : ℕ) → MayBeNumbered old given channel it payload → (heard : LinkHeard) (mid : Talk)
      (out_mid : List SessionFrame) → Answered gives old out channel (said.Transfer it payload) (Ok heard) mid out_mid
      → HasNumberIn (transfer_of heard) given
  numbered-so given may (Live session (taken.Transfer told)) mid out_mid t =
      numbered-by old channel out it payload session told mid out_mid t given may told.told refl
  numbered-so given may heard mid out_mid t = tt

  pub numbered-for : (given : ℕ) → MayBeNumbered old given channel it payload → (heard : LinkHeard)
      (took : Option (ℕ × TransferTaken Told)) → took ≡ transfer_of heard → (mid : Talk) (out_mid : List SessionFrame)
      → Answered gives old out channel (said.Transfer it payload) (Ok heard) mid out_mid → HasNumberIn took given
  numbered-for given may heard took is mid out_mid t =
      subst (λ (o : Option (ℕ × TransferTaken Told)). HasNumberIn o given) (sym is)
      (numbered-so given may heard mid out_mid t)

  becomes : (heard : LinkHeard) (given : ℕ) (mid : Talk) (out_mid frames : List SessionFrame) (events : List Event)
      (new : Talk) (given_new : ℕ) → Answered gives old out channel (said.Transfer it payload) (Ok heard) mid out_mid
      → TakenIn (transfer_of heard) given mid it.handle.0 frames events new given_new
      → Becomes (transfer_of heard) old given it mid frames events new given_new
  becomes (Live session (taken.Transfer told)) given mid out_mid frames events new given_new t l =
      record {
        own = l.own;
        comes =
            comes old channel out it payload session told mid out_mid t told.told given l.own events new given_new
            l.done;
        sent = l.sent;
      }
  becomes heard given mid out_mid frames events new given_new t l = l

  heard-alone : (heard : LinkHeard) (mid : Talk) (out_mid : List SessionFrame) → out_mid ≡ out
      → Answered gives old out channel (said.Transfer it payload) (Ok heard) mid out_mid
      → Answers old channel (said.Transfer it payload) (Ok heard) [] mid
  heard-alone heard mid out_mid same t =
      answer-alone gives old mid channel (said.Transfer it payload) (Ok heard) out out_mid []
      (same ∙ sym (append-nil out)) t

  pub transfer-taken : (heard : LinkHeard) (took : Option (ℕ × TransferTaken Told)) → took ≡ transfer_of heard
      → (given given_new : ℕ) (mid : Talk) (out_mid : List SessionFrame)
      (links links_new : Links) (new : Talk) (told told_new : List Event) (out_new : List SessionFrame)
      → out_mid ≡ out → links_new ≡ links
      → Answered gives old out channel (said.Transfer it payload) (Ok heard) mid out_mid
      → Tells (λ (frames : List SessionFrame) (events : List Event).
      TakenIn took given mid it.handle.0 frames events new given_new) out_mid told out_new told_new
      → Tells (λ (frames : List SessionFrame) (events : List Event).
      HearsTransfer old links given channel it payload frames events new links_new given_new) out told out_new told_new
  transfer-taken heard took is given given_new mid out_mid links links_new new told told_new out_new same rest t l =
      record {
        frames = l.frames;
        events = l.events;
        is_so =
            inl (record {
              heard = heard;
              mid = mid;
              answered = heard-alone heard mid out_mid same t;
              becomes =
                  becomes heard given mid out_mid l.frames l.events new given_new t
                  (subst (λ (o : Option (ℕ × TransferTaken Told)).
                  TakenIn o given mid it.handle.0 l.frames l.events new given_new) is l.is_so);
              same = rest;
            });
        queued = l.queued ∙ ap (λ (o : List SessionFrame). o ++ l.frames) same;
        are_told = l.are_told;
      }

  pub transfer-fails : (given : ℕ) (links links_new : Links) (new : Talk)
      (told told_new : List Event) (out_new : List SessionFrame)
      → Tells (λ (frames : List SessionFrame) (events : List Event).
      FailsBySaid old links channel (said.Transfer it payload) frames events new links_new) out told out_new told_new
      → Tells (λ (frames : List SessionFrame) (events : List Event).
      HearsTransfer old links given channel it payload frames events new links_new given) out told out_new told_new
  transfer-fails given links links_new new told told_new out_new t =
      record {
        frames = t.frames;
        events = t.events;
        is_so = inr (record { fails = t.is_so; uncounted = refl });
        queued = t.queued;
        are_told = t.are_told;
      }

  -- there is no memory for the Detach of the link
  unclosed-so : (counts : Counts) → counts ≡ counts_of (link_on old channel it.handle.0) → (heard : LinkHeard)
      (mid : Talk) (out_mid : List SessionFrame) (e : EndpointError) (new : Talk) → out_mid ≡ out
      → Answered gives old out channel (said.Transfer it payload) (Ok heard) mid out_mid
      → FailsIn (transfer_of heard) counts mid it.handle.0 e new
      → IsSessionFault e × IsUnclosed old channel it payload e new
  unclosed-so counts counted (Live session (taken.Transfer told)) mid out_mid e new same t fails =
      unclosed-for old channel out it payload session told mid out_mid t counts counted told.told refl e new fails
      (heard-alone (Live session (taken.Transfer told)) mid out_mid same t)
  unclosed-so counts counted heard mid out_mid e new same t fails = absurd fails

  pub transfer-unclosed : (counts : Counts) → counts ≡ counts_of (link_on old channel it.handle.0)
      → (heard : LinkHeard) (took : Option (ℕ × TransferTaken Told)) → took ≡ transfer_of heard
      → (given : ℕ) (mid : Talk) (out_mid : List SessionFrame) (e : EndpointError) (new : Talk)
      → out_mid ≡ out → Answered gives old out channel (said.Transfer it payload) (Ok heard) mid out_mid
      → FailsIn took counts mid it.handle.0 e new
      → IsSessionFault e × RefusesTransfer old given channel it payload e new
  transfer-unclosed counts counted heard took is given mid out_mid e new same t fails =
      let (why, unclosed) =
      unclosed-so counts counted heard mid out_mid e new same t
      (subst (λ (o : Option (ℕ × TransferTaken Told)). FailsIn o counts mid it.handle.0 e new) is fails) in
      (why, inr (inr unclosed))

-- no number is left for its message, or there is no memory even for what is told: that is what is answered
module _ (r : Result ⊤ EndpointError) (why : EndpointError) (is : IsErrAnd r (λ (e : EndpointError). e ≡ why))
    (old : Talk) (given : ℕ) (channel : IncomingChannel) (it : Transfer) (payload : List ℕ) where
  carried : (r : Result ⊤ EndpointError) → IsErrAnd r (λ (e : EndpointError). e ≡ why)
      → IsSessionFault why × RefusesTransfer old given channel it payload why old
      → IfErr r (λ (e : EndpointError). IsSessionFault e × RefusesTransfer old given channel it payload e old)
  carried (Ok done) is refuses = tt
  carried (Err e) is refuses =
      subst (λ (x : EndpointError). IsSessionFault x × RefusesTransfer old given channel it payload x old) (sym is)
      refuses

  pub unnumbered-carried : IsUnnumbered old given channel it payload why old
      → IfErr r (λ (e : EndpointError). IsSessionFault e × RefusesTransfer old given channel it payload e old)
  unnumbered-carried u = carried r is (subst IsSessionFault (sym u.is) tt, inl u)

  pub unready-carried : why ≡ Memory
      → IfErr r (λ (e : EndpointError). IsSessionFault e × RefusesTransfer old given channel it payload e old)
  unready-carried memory = carried r is (subst IsSessionFault (sym memory) tt, inr (inl (inr (memory, refl))))
