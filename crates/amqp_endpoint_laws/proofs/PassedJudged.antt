-- What all that a session does keeps is kept as frames pass in it.
use Rattle.std.proofs.Common.{◌≡◌, ◌≢◌, ◌==◌, ℕ, Bool, true, false, List, [], ◌∷◌, ◌++◌, Option, Some, None, Ok, Err}
use Rattle.std.proofs.Common.{ap, refl, sym, subst, ◌∙◌}
use Rattle.std.specs.Prelude.{IsSome, Result, ⊤, map}
use Rattle.std.proofs.lemmas.List.{map-append}
use Rattle.std.proofs.lemmas.Option.{none-some, same_Some}
use Rattle.amqp_session_types.specs.declared.channels.IncomingChannel.{IncomingChannel}
use Rattle.amqp_session_types.specs.declared.error.Error.{Error}
use Rattle.amqp_session_types.specs.declared.refusals.SessionError.{SessionError}
use Rattle.amqp_session_types.specs.declared.refusals.SessionError.TheVariants.{Memory}
use Rattle.amqp_session_types.specs.declared.refusals.TryEndError.{TryEndError}
use Rattle.amqp_session_performatives.specs.declared.begin.Begin.{Begin}
use Rattle.amqp_session_performatives.specs.declared.end.End.{End}
use Rattle.amqp_session_performatives.specs.declared.session_frame.SessionFrame.{SessionFrame}
use Rattle.amqp_session_frames.specs.declared.frame.FrameBody.{FrameBody}
use Rattle.amqp_session_frames.specs.declared.frame.FrameBody.TheVariants as body
use Rattle.amqp_session_frames.specs.Steps.{named_session}
use Rattle.amqp_session_core.specs.Steps.{TakesBegin as SessionTakesBegin}
use Rattle.amqp_endpoint_attached.specs.Linked.{gives}
use Rattle.amqp_endpoint_attached.specs.Links.{attach_frame}
use Rattle.amqp_endpoint_links.specs.declared.hearing.LinkPerformative.{LinkPerformative}
use Rattle.amqp_endpoint_tables.specs.State.{asked_at, asked_in, asked_of, asked_on, ended_place, first_of, live_at}
use Rattle.amqp_endpoint_tables.specs.State.{live_of, peer_end_of, place_at, reached, routed, routed_in, told_place}
use Rattle.amqp_endpoint_tables.specs.State.{when_asked, with_channel, with_live}
use Rattle.amqp_endpoint_tables.specs.Steps.{Accepts, Asks, Begins, ChangesLive, EndTold, Ends, TakesBegin, TakesEnd}
use Rattle.amqp_endpoint_tables.specs.Steps.{TellsEnd}
use Rattle.amqp_endpoint_tables.specs.declared.place.PeerEnd.TheVariants.{Missing, Received}
use Rattle.amqp_endpoint_tables.specs.declared.place.Place.TheVariants.{Asked, Live, Ending, Over}
use Rattle.amqp_endpoint_tables.proofs.Owning.{at, same_number}
use Rattle.amqp_endpoint_conversation.specs.declared.ending.EndHeard.{EndHeard}
use Rattle.amqp_endpoint_conversation.specs.Beginning.{AcceptsHere, AsksFor, BeginBarred, BeginDropped, BeginsHere}
use Rattle.amqp_endpoint_conversation.specs.Beginning.{BeginsThere, Leads, with_links}
use Rattle.amqp_endpoint_conversation.specs.Ending.{EndReply, EndsHere, EndsThere, end_frame}
use Rattle.amqp_endpoint_conversation.specs.Faults.{fault_error}
use Rattle.amqp_endpoint_conversation.specs.Hearing.{LiveFails}
use Rattle.amqp_endpoint_linking.specs.Linking.{Link, Session, Sessions, Stood, Talk}
use Rattle.amqp_endpoint_laws.specs.Following.{comes, goes}
use Rattle.amqp_endpoint_laws.specs.Reading.{Wired}
use Rattle.amqp_endpoint_conversation.specs.Inside.{Batches, said_in}
use Rattle.amqp_endpoint_conversation.specs.Windows.{Came, Passing, Went, body_said, went}
use Rattle.amqp_endpoint_laws.specs.Passed.{begun_by, sent_in}
use Rattle.amqp_endpoint_laws.specs.Seen.{passing_of}
use Rattle.amqp_endpoint_laws.proofs.AskedCameInside.{step-keeps}
use Rattle.amqp_endpoint_laws.proofs.PassedPlaces.{AllPassed, AreBeside, AskedBy, GoesBy, IsGone, Keeping, Passed}
use Rattle.amqp_endpoint_laws.proofs.PassedPlaces.{all-passed, asked-passed, by-step, by-steps, eq-same, free-passed}
use Rattle.amqp_endpoint_laws.proofs.PassedPlaces.{going-passed, hears, judged-at, live-passed, none-at-all, none-came}
use Rattle.amqp_endpoint_laws.proofs.PassedPlaces.{none-passed, opens, passed-on, stays-asked, stays-by, takes-said}
use Rattle.amqp_endpoint_laws.proofs.PassedWalk.{AttachGoes, IsRest, Walk}

-- a session that a channel of the peer's reaches stands somewhere
abbrev IsThere : Option Stood → Type 0
IsThere None = ⊥
IsThere (Some stood) = Unit {0}

channel-there : (k n : ℕ) (o : Option Stood) → with_channel k o ≡ Some n → (k ≡ n) × IsThere o
channel-there k n None e = absurd (none-some n e)
channel-there k n (Some (Live channel s)) e = (same_Some k n e, tt)
channel-there k n (Some (Ending channel own_end)) e = (same_Some k n e, tt)
channel-there k n (Some (Asked channel a)) e = absurd (none-some n e)
channel-there k n (Some (Over peer_end complete)) e = absurd (none-some n e)

asked-there : (k n : ℕ) (o : Option Stood) → when_asked k o ≡ Some n → (k ≡ n) × IsThere o
asked-there k n None e = absurd (none-some n e)
asked-there k n (Some (Asked channel a)) e = (same_Some k n e, tt)
asked-there k n (Some (Live channel s)) e = absurd (none-some n e)
asked-there k n (Some (Ending channel own_end)) e = absurd (none-some n e)
asked-there k n (Some (Over peer_end complete)) e = absurd (none-some n e)

module _ (s : Sessions) (n : ℕ) where
  routed-there : (o : Option ℕ) → routed_in s o ≡ Some n → IsThere (place_at s n)
  routed-there None e = absurd (none-some n e)
  routed-there (Some k) e =
      let (same, there) = channel-there k n (place_at s k) e in
      subst (λ (m : ℕ). IsThere (place_at s m)) same there

  asked-in-there : (o : Option ℕ) → asked_in s o ≡ Some n → IsThere (place_at s n)
  asked-in-there None e = absurd (none-some n e)
  asked-in-there (Some k) e =
      let (same, there) = asked-there k n (place_at s k) e in
      subst (λ (m : ℕ). IsThere (place_at s m)) same there

  either-there : (a b : Option ℕ) → (a ≡ Some n → IsThere (place_at s n)) → (b ≡ Some n → IsThere (place_at s n))
      → first_of a b ≡ Some n → IsThere (place_at s n)
  either-there None b f g e = g e
  either-there (Some k) b f g e = f e

  reached-there : (channel : ℕ) → reached s channel ≡ Some n → IsThere (place_at s n)
  reached-there channel e =
      either-there (routed s channel) (asked_on s channel) (routed-there _) (asked-in-there _) e

-- one that neither goes on nor is asked for is over
is-gone : (o : Option Stood) → asked_of o ≡ None → live_of o ≡ None → IsThere o → IsGone o
is-gone None a l there = absurd there
is-gone (Some (Asked channel asked)) a l there = absurd (none-some asked (sym a))
is-gone (Some (Live channel s)) a l there = absurd (none-some s (sym l))
is-gone (Some (Ending channel own_end)) a l there = tt
is-gone (Some (Over peer_end complete)) a l there = tt

-- the answer to the peer's End is of no link
end-free : (stood : Stood) (ended : Option Session) (frames : List SessionFrame) → EndReply stood ended [] frames
    → said_in (sent_in (went frames)) ≡ []
end-free (Live channel s) ended frames (is, sent) =
    ap (λ (fs : List SessionFrame). said_in (sent_in (went fs))) sent
end-free (Asked channel a) ended frames (is, none) =
    ap (λ (fs : List SessionFrame). said_in (sent_in (went fs))) none
end-free (Ending channel own_end) ended frames (is, none) =
    ap (λ (fs : List SessionFrame). said_in (sent_in (went fs))) none
end-free (Over peer_end complete) ended frames (is, none) =
    ap (λ (fs : List SessionFrame). said_in (sent_in (went fs))) none

end-gone : (stood : Stood) → IsGone (Some (ended_place stood))
end-gone (Asked channel a) = tt
end-gone (Live channel s) = tt
end-gone (Ending channel own_end) = tt
end-gone (Over peer_end complete) = tt

-- the session of which the peer's End came is over
told-gone : (stood : Stood) → peer_end_of (Some stood) ≡ Received → IsGone (Some (told_place stood))
told-gone (Over peer_end complete) is = tt
told-gone (Asked channel a) is = let clash : Missing ≡ Received = is in absurd cc
told-gone (Live channel s) is = let clash : Missing ≡ Received = is in absurd cc
told-gone (Ending channel own_end) is = tt

-- behind the step that leads a channel all stand as before, and the session has the channel that the Begin names
module _ (old : Talk) (channel : IncomingChannel) (begin : Begin) (number : ℕ) (mid : Sessions)
    (l : Leads gives old channel begin number mid) where
  pub led-same : (n : ℕ) → place_at mid n ≡ place_at old.sessions n
  led-same n = (at n old.sessions (TakesBegin number channel begin) mid l.stepped).other refl

  pub led-by : begun_by old.sessions begin.remote_channel ≡ with_channel number (place_at old.sessions number)
  led-by = by begin.remote_channel refl l.names_one
    where
      by : (o : Option ℕ) → begin.remote_channel ≡ o → IsSome o
          → begun_by old.sessions o ≡ with_channel number (place_at old.sessions number)
      by None e some = absurd cc
      by (Some named) e some =
          ap (λ (x : Option ℕ). routed_in old.sessions x)
          (ap (λ (x : Option ℕ). named_session old.sessions.connection x) (sym e) ∙ ((l.stepped).0).0)

has-channel : (number : ℕ) (o : Option Stood) (s : Session) → live_of o ≡ Some s
    → with_channel number o ≡ Some number
has-channel number None s is = absurd (none-some s is)
has-channel number (Some (Live channel before)) s is = refl
has-channel number (Some (Asked channel a)) s is = absurd (none-some s is)
has-channel number (Some (Ending channel own_end)) s is = absurd (none-some s is)
has-channel number (Some (Over peer_end complete)) s is = absurd (none-some s is)

-- so a session that goes on behind it is the one that takes it
pub live-begun : (old : Talk) (channel : IncomingChannel) (begin : Begin) (number : ℕ) (mid : Sessions)
    (before : Session) (l : Leads gives old channel begin number mid) → live_at mid number ≡ Some before
    → begun_by old.sessions begin.remote_channel ≡ Some number
live-begun old channel begin number mid before l live =
    led-by old channel begin number mid l
    ∙ has-channel number (place_at old.sessions number) before
    (ap live_of (sym (led-same old channel begin number mid l number)) ∙ live)

no-memory : {X : Type 0} (t : X) → Ok t ≢ Err Memory
no-memory t is = let clash = is in absurd cc

-- frames that go, as they pass
pub goes-pass : (frames : List SessionFrame) → map passing_of (goes frames) ≡ went frames
goes-pass [] = refl
goes-pass (frame ∷ frames) = ap (λ (ps : List Passing). Went frame ∷ ps) (goes-pass frames)

module _ {Allows : Batches → Type 0} (J : ℕ → Option Stood → List Passing → Option Stood → Type 0)
    (k : Keeping Allows J) where
  abbrev pub PassedBy : ℕ → List Wired → Talk → Talk → Type 0
  PassedBy m ws old new = Passed J k m (map passing_of ws) old new

  abbrev pub AllPassedBy : Option ℕ → List Wired → Talk → Talk → Type 0
  AllPassedBy o ws old new = AllPassed J k o (map passing_of ws) old new

  module _ (m : ℕ) (frames : List SessionFrame) (old new : Talk) where
    by-going : Passed J k m (went frames) old new → PassedBy m (goes frames) old new
    by-going p = subst (λ (ps : List Passing). Passed J k m ps old new) (sym (goes-pass frames)) p

    by-coming : (channel : ℕ) (it : FrameBody) → Passed J k m (Came it ∷ went frames) old new
        → PassedBy m (comes channel it ∷ goes frames) old new
    by-coming channel it p =
        subst (λ (ps : List Passing). Passed J k m (Came it ∷ ps) old new) (sym (goes-pass frames)) p

  both-passed : (m : ℕ) (ws more : List Wired) (old mid new : Talk) → PassedBy m ws old mid → PassedBy m more mid new
      → PassedBy m (ws ++ more) old new
  both-passed m ws more old mid new p q =
      subst (λ (ps : List Passing). Passed J k m ps old new) (sym (map-append passing_of ws more))
      (passed-on J k m (map passing_of ws) (map passing_of more) old mid new p q)

  -- each goes on where the one does, and the others
  passed-each : (m : ℕ) (old new : Talk) → Passed J k m [] old new → (n : ℕ)
      → J old.first_transfer_number (place_at old.sessions n) [] (place_at new.sessions n)
  passed-each m old new p n = by (n == m) refl
    where
      by : (b : Bool) → (n == m) ≡ b
          → J old.first_transfer_number (place_at old.sessions n) [] (place_at new.sessions n)
      by true e =
          subst
          (λ (j : ℕ). J old.first_transfer_number (place_at old.sessions j) [] (place_at new.sessions j))
          (sym (same_number n m e)) p.here
      by false e = p.others n e

  unheard : (m : ℕ) (channel : ℕ) (it : LinkPerformative) (talk : Talk) → reached talk.sessions channel ≡ Some m
      → asked_at talk.sessions m ≡ None → live_at talk.sessions m ≡ None
      → Passed J k m (Came (body_said it) ∷ []) talk talk
  unheard m channel it talk reaches asked live =
      record {
        here =
            k.gone _ _ _ (Came (body_said it) ∷ [])
            (is-gone (place_at talk.sessions m) asked live (reached-there talk.sessions m channel reaches))
            refl;
        others = λ n e. k.still _ _ _ refl;
        first = refl;
      }

  -- a session's own side ends
  ends-passed : (number : ℕ) (error : Option Error) (session : Session) (ps : List Passing) (old new : Talk)
      (out out_new : List SessionFrame) → said_in (sent_in ps) ≡ []
      → EndsHere old out number error session new out_new → Passed J k number ps old new
  ends-passed number error session ps old new out out_new all e =
      let (was, is) =
      (at number old.sessions (Ends number e.channel session true) new.sessions e.stepped).about (eq-same number) in
      by-step J k number (Ends number e.channel session true) old new ps (λ n other. other) e.stepped e.rest
      (judged-at J k old.first_transfer_number (Some (Live e.channel session)) (Some (Ending e.channel true)) _ _ ps was
      is
      (k.gone _ _ _ ps tt all))

  module _ (channel : IncomingChannel) (begin : Begin) where
    abbrev beginning : FrameBody
    beginning = body.Begin begin

    -- the session that has the channel stands as the others do behind the step that leads the channel to it
    led : (number : ℕ) (old : Talk) (mid : Sessions) → Leads gives old channel begin number mid
        → Passed J k number [] old (record old { sessions = mid })
    led number old mid l =
        record {
          here = k.still _ _ _ (led-same old channel begin number mid l number);
          others = λ n e. k.still _ _ _ (led-same old channel begin number mid l n);
          first = refl;
        }

    asks-passed : (number : ℕ) (old new : Talk) → AsksFor gives old channel begin number new
        → Passed J k number (Came beginning ∷ []) old new
    asks-passed number old new a =
        let (was, is) =
        (at number old.sessions (Asks number channel a.asked) new.sessions a.stepped).about (eq-same number) in
        by-step J k number (Asks number channel a.asked) old new (Came beginning ∷ []) (λ n e. e) a.stepped a.rest
        (judged-at J k old.first_transfer_number None (Some (Asked channel a.asked)) _ _ (Came beginning ∷ []) was is
        (k.asks old.first_transfer_number channel a.asked begin a.by_begin))

    begun-passed : (number : ℕ) (frames : List SessionFrame) (old new : Talk)
        → BeginsThere gives old [] channel begin number new frames
        → Passed J k number (Came beginning ∷ went frames) old new
    begun-passed number frames old new b =
        let t = b.takes in
        let taken_so = (t.taken).0 in
        let there : Talk = record old { sessions = b.mid } in
        let g : GoesBy [] t.before.value.session t.after.value.session (Came beginning ∷ went frames) =
        opens refl channel begin taken_so.base taken_so.left taken_so.frames taken_so.stepped
        (ap (λ (fs : List SessionFrame). Came beginning ∷ went fs) taken_so.added) in
        let a : AskedBy t.before.value t.after.value (Came beginning ∷ went frames) =
        stays-asked
        (step-keeps (SessionTakesBegin channel begin taken_so.base taken_so.left taken_so.frames) t.before.value
        t.after.value (t.taken).1 refl taken_so.stepped)
        (λ theirs.
        subst (λ (came : List FrameBody). AreBeside theirs (beginning ∷ came)) (sym (none-came frames))
        ((tt, tt), refl)) in
        passed-on J k number [] (Came beginning ∷ went frames) old there new (led number old b.mid b.led)
        (live-passed J k number t.before t.after there new (Came beginning ∷ went frames) t.stepped b.rest g a)

    -- one that doesn't go on drops it
    dropped-passed : (old new : Talk) → BeginDropped gives old channel begin new
        → AllPassed J k (begun_by old.sessions begin.remote_channel) (Came beginning ∷ []) old new
    dropped-passed old new d =
        subst (λ (o : Option ℕ). AllPassed J k o (Came beginning ∷ []) old new)
        (sym (led-by old channel begin d.number new.sessions d.led)) (by (place_at old.sessions d.number) refl)
      where
        first : new.first_transfer_number ≡ old.first_transfer_number
        first = ap (λ (t : Talk). t.first_transfer_number) d.rest

        same : (n : ℕ) → place_at new.sessions n ≡ place_at old.sessions n
        same n = led-same old channel begin d.number new.sessions d.led n

        none : AllPassed J k None (Came beginning ∷ []) old new
        none = record { all = λ n. k.still _ _ _ (same n); first = first }

        by : (o : Option Stood) → place_at old.sessions d.number ≡ o
            → AllPassed J k (with_channel d.number o) (Came beginning ∷ []) old new
        by None e = none
        by (Some (Asked c a)) e = none
        by (Some (Over peer_end complete)) e = none
        by (Some (Live c s)) e = absurd (none-some s (sym d.not_live ∙ ap live_of (same d.number ∙ e)))
        by (Some (Ending c own_end)) e =
            all-passed J k d.number (Came beginning ∷ []) old new
            (record {
              here =
                  k.gone _ _ _ (Came beginning ∷ []) (subst IsGone (sym (same d.number ∙ e)) tt) refl;
              others = λ n other. k.still _ _ _ (same n);
              first = first;
            })

    barred-passed : (number : ℕ) (error : Option Error) (session : Session) (frames : List SessionFrame)
        (old mid new : Talk) → BeginBarred gives old channel begin number mid
        → EndsHere mid [] number error session new frames → Passed J k number (Came beginning ∷ went frames) old new
    barred-passed number error session frames old mid new b e =
        let to_mid : Passed J k number [] old mid =
        subst (λ (t : Talk). Passed J k number [] old t) (sym b.rest) (led number old mid.sessions b.led) in
        let over : Passed J k number (Came beginning ∷ went frames) mid new =
        ends-passed number error session (Came beginning ∷ went frames) mid new [] frames
        (ap (λ (fs : List SessionFrame). said_in (sent_in (went fs))) e.queued) e in
        passed-on J k number [] (Came beginning ∷ went frames) old mid new to_mid over

  -- the peer's End
  ended-passed : (channel : IncomingChannel) (end : End) (h : EndHeard Link) (frames : List SessionFrame)
      (old new : Talk) → EndsThere old [] channel end h new frames
      → Passed J k h.number (Came (body.End end) ∷ went frames) old new
  ended-passed channel end h frames old new a =
      let (was, is) =
      (at h.number old.sessions (TakesEnd h.number channel end a.stood) new.sessions a.stepped).about
      (eq-same h.number) in
      let ps : List Passing = Came (body.End end) ∷ went frames in
      by-step J k h.number (TakesEnd h.number channel end a.stood) old new ps (λ n e. e) a.stepped a.rest
      (judged-at J k old.first_transfer_number (Some a.stood) (Some (ended_place a.stood)) _ _ ps was is
      (k.gone _ _ _ ps (end-gone a.stood) (end-free a.stood h.ended frames a.reply)))

  -- a session begins, with its Begin
  begins-passed : (number : ℕ) (frames : List SessionFrame) (old new : Talk)
      → BeginsHere gives old [] number new frames → Passed J k number (went frames) old new
  begins-passed number frames old new b =
      let first : ℕ = old.first_transfer_number in
      let (was, is) =
      (at number old.sessions (Begins number b.channel b.session) new.sessions b.stepped).about (eq-same number) in
      let ps : List Passing = went (b.frame ∷ []) in
      let j : J first None ps (Some (Live b.channel b.session)) =
      k.begins first old.incoming_window b.channel b.session b.frame b.begun in
      let p : Passed J k number ps old new =
      by-step J k number (Begins number b.channel b.session) old new ps (λ n e. e) b.stepped b.rest
      (judged-at J k first None (Some (Live b.channel b.session)) _ _ ps was is j) in
      subst (λ (fs : List SessionFrame). Passed J k number (went fs) old new)
      (sym b.queued) p

  -- or one that the peer asked for, to which the links go over that are asked for in it
  accepts-passed : (channel : IncomingChannel) (number : ℕ) (frames : List SessionFrame) (old new : Talk)
      → AcceptsHere gives old [] channel number new frames → Passed J k number (went frames) old new
  accepts-passed channel number frames old new a =
      let first : ℕ = old.first_transfer_number in
      let taken : Session = with_links a.session a.wanted.value.links in
      let (was, is) =
      (at number old.sessions (Accepts number a.incoming a.wanted a.outgoing a.session) a.mid a.stepped).about
      (eq-same number) in
      let (stood, stands, lives, becomes) =
      (at number a.mid (ChangesLive number a.session taken) new.sessions a.taken_over).about (eq-same number) in
      let same : stood ≡ Live a.outgoing a.session = same_Some stood (Live a.outgoing a.session) (sym stands ∙ is) in
      let ps : List Passing = went (a.frame ∷ []) in
      let p : Passed J k number ps old new =
      record {
        here =
            judged-at J k first (Some (Asked a.incoming a.wanted)) (Some (Live a.outgoing taken)) _ _ ps was
            (becomes ∙ ap (λ (x : Stood). Some (with_live x taken)) same)
            (k.accepts first old.incoming_window a.incoming channel a.wanted a.outgoing a.session a.frame a.accepted);
        others = λ n e.
            k.still _ _ _
            ((at n a.mid (ChangesLive number a.session taken) new.sessions a.taken_over).other e
            ∙ (at n old.sessions (Accepts number a.incoming a.wanted a.outgoing a.session) a.mid a.stepped).other e);
        first = ap (λ (t : Talk). t.first_transfer_number) a.rest;
      } in
      subst (λ (fs : List SessionFrame). Passed J k number (went fs) old new) (sym a.queued) p

  -- a session that refuses what it hears is ending by its fault
  fails-passed : (number : ℕ) (it : LinkPerformative) (fault : SessionError) (frames : List SessionFrame)
      (before session : Session) (old new : Talk) → LiveFails gives old [] number before it fault session new frames
      → Passed J k number (Came (body_said it) ∷ went frames) old new
  fails-passed number it fault frames before session old new f =
      let h = f.refuses.hears in
      let e = f.ends in
      let (stood, was, lives, becomes) =
      (at number old.sessions (ChangesLive number before session) f.mid.sessions h.stepped).about (eq-same number) in
      let (stands, is) =
      (at number f.mid.sessions (Ends number e.channel session true) new.sessions e.stepped).about (eq-same number) in
      let end : SessionFrame = end_frame e.channel (Some (fault_error fault)) in
      let ps : List Passing = Came (body_said it) ∷ went f.out_mid in
      let g : GoesBy [] before.value.session session.value.session ps =
      hears refl it (Err fault) f.out_mid before.value session.value
      (λ (same : Err fault ≡ Err Memory). f.refuses.is_fault (let x : fault ≡ Memory = cc in x)) h.heard refl refl
      refl in
      let p : Passed J k number (ps ++ went (end ∷ [])) old new =
      record {
        here =
            judged-at J k old.first_transfer_number (Some stood) (Some (Ending e.channel true)) _ _
            (ps ++ went (end ∷ [])) was is
            (k.fails old.first_transfer_number stood before session ps (went (end ∷ []))
            (Some (Ending e.channel true)) lives
            g refl tt);
        others = λ n other.
            k.still _ _ _
            ((at n f.mid.sessions (Ends number e.channel session true) new.sessions e.stepped).other other
            ∙ (at n old.sessions (ChangesLive number before session) f.mid.sessions h.stepped).other other);
        first =
            ap (λ (t : Talk). t.first_transfer_number) e.rest
            ∙ ap (λ (t : Talk). t.first_transfer_number) f.refuses.rest;
      } in
      subst (λ (qs : List Passing). Passed J k number (Came (body_said it) ∷ qs) old new)
      (sym (ap went e.queued ∙ map-append Went f.out_mid (end ∷ []))) p

  -- the caller is told of the peer's End
  told-passed : (number : ℕ) (result : Result ⊤ TryEndError) (old new : Talk)
      → EndTold old.sessions number result new.sessions → IsRest old new → Passed J k number [] old new
  told-passed number (Ok ok) old new t rest =
      let (stood, was, came, is) =
      (at number old.sessions (TellsEnd number) new.sessions t).about (eq-same number) in
      by-step J k number (TellsEnd number) old new [] (λ n e. e) t rest
      (judged-at J k old.first_transfer_number (Some stood) (Some (told_place stood)) _ _ [] was is
      (k.gone _ _ _ [] (told-gone stood came) refl))
  told-passed number (Err e) old new t rest =
      record {
        here = k.still _ _ _ (ap (λ (s : Sessions). place_at s number) t.1);
        others = λ n other. k.still _ _ _ (ap (λ (s : Sessions). place_at s n) t.1);
        first = ap (λ (x : Talk). x.first_transfer_number) rest;
      }

  pub judging : Walk Allows PassedBy AllPassedBy
  judging =
      record {
        quiet = k.quiet;
        none = λ m old new same. none-passed J k m old new same;
        on = both-passed;
        at = λ m ws old new p. all-passed J k m (map passing_of ws) old new p;
        silent = λ o m old new p. none-at-all J k o old new (passed-each m old new p) p.first;
        free = λ m frames session talk live said on. by-going m frames talk talk (free-passed J k m frames talk said);
        inside = λ m accepted frames before after old new allowed s rest d keeps.
            by-going m frames old new
            (going-passed J k m accepted before after old new (went frames) allowed s rest (by-steps frames d refl)
            (stays-by before.value after.value frames keeps));
        hears = λ m channel it told frames before after old new reaches h rest.
            by-coming m frames old new channel (body_said it)
            (live-passed J k m before after old new (Came (body_said it) ∷ went frames) h.stepped rest
            (hears refl it (Ok told) frames before.value after.value (no-memory told) h.heard refl refl refl)
            (takes-said it told frames h.heard refl));
        fails = λ m channel it fault frames before session old new reaches f.
            by-coming m frames old new channel (body_said it)
            (fails-passed m it fault frames before session old new f);
        asked = λ m channel it before old new reaches t.
            asked-passed J k m before t.after it old new t.stepped t.rest t.heard;
        unheard = unheard;
        asks = λ channel begin number old new a. asks-passed channel begin number old new a;
        begun = λ channel begin number frames old new b.
            by-coming number frames old new channel.0 (body.Begin begin)
            (begun-passed channel begin number frames old new b);
        dropped = λ channel begin old new d. dropped-passed channel begin old new d;
        barred = λ channel begin number error session frames old mid new b e.
            by-coming number frames old new channel.0 (body.Begin begin)
            (barred-passed channel begin number error session frames old mid new b e);
        ended = λ channel end h frames old new a.
            by-coming h.number frames old new channel.0 (body.End end)
            (ended-passed channel end h frames old new a);
        begins = λ number frames old new b. by-going number frames old new (begins-passed number frames old new b);
        accepts = λ channel number frames old new a.
            by-going number frames old new (accepts-passed channel number frames old new a);
        ends = λ number error session out out_new old new e.
            ends-passed number error session (went (end_frame e.channel error ∷ [])) old new out out_new refl e;
        told = told-passed;
      }

  -- an Attach goes
  pub attach-judged : AttachGoes PassedBy
  attach-judged m attach session talk live =
      let frames : List SessionFrame = attach_frame session.value.session attach ∷ [] in
      by-going m frames talk talk (free-passed J k m frames talk refl)

  -- so it is of what passes in the session to which frames belong
  module _ (o : Option ℕ) (frames : List SessionFrame) (old new : Talk) where
    pub going-judged : AllPassedBy o (goes frames) old new → AllPassed J k o (went frames) old new
    going-judged p = subst (λ (ps : List Passing). AllPassed J k o ps old new) (goes-pass frames) p

    pub coming-judged : (channel : ℕ) (it : FrameBody) → AllPassedBy o (comes channel it ∷ goes frames) old new
        → AllPassed J k o (Came it ∷ went frames) old new
    coming-judged channel it p =
        subst (λ (ps : List Passing). AllPassed J k o (Came it ∷ ps) old new) (goes-pass frames) p
