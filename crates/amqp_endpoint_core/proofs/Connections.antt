-- What an end was fed since the latest break is what its connection was fed.
use Rattle.std.proofs.Common.{◌≡◌, ℕ, Bool, true, false, not, ◌&&◌, List, [], ◌∷◌, ◌++◌, map, take, drop, refl, sym, ◌∙◌, ap, subst, Option, Some, None, inl, inr, if◌then◌else◌}
use Rattle.std.proofs.lemmas.List.{append-nil}
use Rattle.amqp_session_frames.specs.Cutting.{joined}
use Rattle.amqp_endpoint_model.specs.declared.call.Call.{Call}
use Rattle.amqp_endpoint_model.specs.declared.call.Call.TheVariants.{Connect, Feed, Pull, Queued, IsIdle, Heartbeat}
use Rattle.amqp_endpoint_model.specs.declared.call.Call.TheVariants.{BreakOff, Close, IsClosed, TryClose, Begin}
use Rattle.amqp_endpoint_model.specs.declared.call.Call.TheVariants.{AcceptBegin, End as EndCall, IsEnded, TryEnd}
use Rattle.amqp_endpoint_model.specs.declared.call.Call.TheVariants.{AttachSender, AttachReceiver, Detach as DetachCall}
use Rattle.amqp_endpoint_model.specs.declared.call.Call.TheVariants.{CloseLink, Grant, Drain, Credit, HeldBack}
use Rattle.amqp_endpoint_model.specs.declared.call.Call.TheVariants.{Waiting as WaitingCall}
use Rattle.amqp_endpoint_model.specs.declared.call.Call.TheVariants.{Resume, Send, Dispose, DisposeAll}
use Rattle.amqp_endpoint_model.specs.declared.error.EndpointError.{EndpointError}
use Rattle.amqp_endpoint_model.specs.declared.error.EndpointError.TheVariants.{Memory, AlreadyConnected, NotConnected, IllegalState, NumbersUsedUp, ProtocolHeaderMismatch, SizeUnder8, SizeOverLimit, PeerLimitUnder512, Frame as FrameFault, Connection, Session}
use Rattle.amqp_endpoint_model.specs.declared.event.Event.{Event}
use Rattle.amqp_endpoint_model.specs.declared.phase.Phase.{Phase}
use Rattle.amqp_endpoint_model.specs.declared.phase.Phase.TheVariants.{Unconnected, Greeting, Running, Over}
use Rattle.amqp_endpoint_model.specs.declared.settings.Settings.{Settings}
use Rattle.amqp_endpoint_model.specs.Relay.{Relations}
use Rattle.amqp_endpoint_model.specs.Said.{Said, done, refused, fed, count, truth, tried_close, session_begun}
use Rattle.amqp_endpoint_model.specs.Said.{tried_end, attaching, link_closed, credit_is, waiting, message_sent, Told}
use Rattle.amqp_endpoint_model.specs.State.{State, is_unconnected, is_running, has_opened, waiting_of}
use Rattle.amqp_endpoint_model.specs.Step.{Breaks, Ends, EndsByFault, FeedsIn, Greets, Pulls, ReadsOn, SessionsDo, Step as EndpointStep, opened}
use Rattle.amqp_endpoint_model.specs.History.{Summary, note, note_fed, nothing, summary}
use Rattle.amqp_endpoint_core.specs.declared.step.End.{End}
use Rattle.amqp_endpoint_core.specs.declared.step.End.TheVariants.{A, B}
use Rattle.amqp_endpoint_core.specs.declared.step.Step.{Step}
use Rattle.amqp_endpoint_core.specs.declared.step.Step.TheVariants.{Call as CallAt, Move, Break}
use Rattle.amqp_endpoint_core.specs.WorldState.{IsNewWorld, Way, WorldState, state_at, stream_to, way_from}
use Rattle.amqp_endpoint_core.specs.WorldSaid.{WorldSaid, called, moved, broken, WorldTold}
use Rattle.amqp_endpoint_core.specs.WorldStep.{CallsAs, Carries, Drains, Feeds, WorldRun, WorldStep, fault_breaks_off}
use Rattle.amqp_endpoint_core.specs.WorldStep.{finds_none, has_broken_off, is_the_worlds}
use Rattle.amqp_endpoint_core.specs.EndHistory.{OfItsConnection, break_call, break_told, calls_at, calls_in}
use Rattle.amqp_endpoint_core.specs.EndHistory.{fed_since_break, feed_call, feed_told, pull_calls, pulled_since_break}
use Rattle.amqp_endpoint_core.specs.EndHistory.{pulls_told, queued_at, stream_behind, then_fed, then_pulled, told_at}
use Rattle.amqp_endpoint_core.specs.EndHistory.{told_in}
use Rattle.amqp_endpoint_core.proofs.EndLaws.{BreaksOne, one_breaks, stream-step}
use Rattle.amqp_endpoint_core.proofs.OnTheWay.{Matched, fed-append, matched-feed, matched-pulls, matched_in}
use Rattle.amqp_endpoint_core.proofs.OnTheWay.{pulled-append, nothing_yet}

summary-append : (σ : Summary) (calls : List Call) (ts : List Told) (more : List Call) (us : List Told)
    → Matched calls ts
    → summary σ (calls ++ more) (ts ++ us) ≡ summary (summary σ calls ts) more us
summary-append σ [] [] more us m = refl
summary-append σ [] (t ∷ ts) more us m = absurd m
summary-append σ (call ∷ calls) [] more us m = absurd m
summary-append σ (call ∷ calls) (t ∷ ts) more us m = summary-append (note σ call t.answer) calls ts more us m

-- a heartbeat and a Close are refused where there is no connection
heartbeat_connected : (p : Phase) (own : Bool)
    → (if is_running p && not own then None else Some NotConnected) ≡ None → is_unconnected p ≡ false
heartbeat_connected Unconnected own e = cc
heartbeat_connected Greeting own e = refl
heartbeat_connected Running own e = refl
heartbeat_connected Over own e = refl

close_connected : (p : Phase) (own : Bool)
    → (if has_opened p then (if own then Some IllegalState else None) else Some NotConnected) ≡ None
    → is_unconnected p ≡ false
close_connected Unconnected own e = cc
close_connected Greeting own e = refl
close_connected Running own e = refl
close_connected Over own e = refl

-- no session goes on without a connection
none_goes_on : (p : Phase) → is_unconnected p ≡ true → is_running p ≡ false
none_goes_on Unconnected e = refl
none_goes_on Greeting e = cc
none_goes_on Running e = cc
none_goes_on Over e = cc

connect_unconnected : (b : Bool) → (if b then None else Some AlreadyConnected) ≡ None → b ≡ true
connect_unconnected true e = refl
connect_unconnected false e = cc

-- what a feed takes
noted-fed : (σ : Summary) (bytes : List ℕ) (events : List Event) (fault : Option EndpointError)
    → (note_fed σ bytes events fault).fed ≡ (if finds_none fault then σ.fed else σ.fed ++ bytes)
noted-fed σ bytes events (Some NotConnected) = refl
noted-fed σ bytes events fault = refl

-- a refused call says nothing
noted-refused : (σ : Summary) (call : Call) (e : EndpointError) → note σ call (refused e) ≡ σ
noted-refused σ Connect e = refl
noted-refused σ (Feed bytes) e = refl
noted-refused σ call e = refl

-- nor do pulls
noted-pulls : (σ : Summary) (pulled : List (List ℕ)) (n : ℕ) → summary σ (pull_calls pulled) (pulls_told pulled n) ≡ σ
noted-pulls σ [] n = refl
noted-pulls σ (bytes ∷ others) n = noted-pulls σ others n

module _ {S : Type 0} where
  -- what stands of an end, with what was pulled of it, fed to it, and fed to its connection
  abbrev StandsAs : Bool → State S → List ℕ → List ℕ → List ℕ → Type 0
  StandsAs true s p f c = (s.queue ≡ []) × (p ≡ []) × (f ≡ [])
  StandsAs false s p f c = f ≡ c

  abbrev Stands : State S → List ℕ → List ℕ → List ℕ → Type 0
  Stands s p f c = StandsAs (is_unconnected s.phase) s p f c

  stands-as : (b : Bool) (old new : State S) (p f c : List ℕ) → new.queue ≡ old.queue → StandsAs b old p f c
      → StandsAs b new p f c
  stands-as true old new p f c same (none, unpulled, unfed) = (same ∙ none, unpulled, unfed)
  stands-as false old new p f c same is = is

  -- the phase and the queue stay
  stands-same : (old new : State S) (p f c : List ℕ) → new.phase ≡ old.phase → new.queue ≡ old.queue
      → Stands old p f c → Stands new p f c
  stands-same old new p f c phase queue s =
      let P : Phase → Type 0 = λ q. StandsAs (is_unconnected q) new p f c in
      subst P (sym phase) (stands-as (is_unconnected old.phase) old new p f c queue s)

  fed_is : (b : Bool) (s : State S) (p f c : List ℕ) → b ≡ false → StandsAs b s p f c → f ≡ c
  fed_is true s p f c connected is = cc
  fed_is false s p f c connected is = is

  unfed_is : (b : Bool) (s : State S) (p f c : List ℕ) → b ≡ true → StandsAs b s p f c → f ≡ []
  unfed_is true s p f c unconnected (none, unpulled, unfed) = unfed
  unfed_is false s p f c unconnected is = cc

  stands_connected : (s : State S) (p f c : List ℕ) → is_unconnected s.phase ≡ false → f ≡ c → Stands s p f c
  stands_connected s p f c connected is =
      let P : Bool → Type 0 = λ b. StandsAs b s p f c in subst P (sym connected) is

  -- a pull
  pulls-stand : (b : Bool) (old new : State S) (bytes p f c : List ℕ) → Pulls old (Some bytes) new
      → StandsAs b old p f c → StandsAs b new (p ++ bytes) f c
  pulls-stand true old new bytes p f c (first, others, was, is, after) (none, unpulled, unfed) =
      let bad : first ∷ others ≡ [] = sym was ∙ none in cc
  pulls-stand false old new bytes p f c pulls is = is

  drains_stand : (old : State S) (pulled : List (List ℕ)) (new : State S) (n : ℕ) (p f c : List ℕ)
      → Drains old pulled new → Stands old p f c
      → Stands new (pulled_since_break p (pull_calls pulled) (pulls_told pulled n))
      (fed_since_break f (pull_calls pulled) (pulls_told pulled n)) c
  drains_stand old [] new n p f c same s = let P : State S → Type 0 = λ x. Stands x p f c in subst P (sym same) s
  drains_stand old (bytes ∷ others) new n p f c (mid, (first, rest, was, is, after), drains) s =
      let P : Phase → Type 0 = λ q. StandsAs (is_unconnected q) mid (p ++ bytes) f c in
      drains_stand mid others new n (p ++ bytes) f c drains
      (subst P (sym (ap (λ x. x.phase) after))
      (pulls-stand (is_unconnected old.phase) old mid bytes p f c (first, rest, was, is, after) s))

module _ {S : Type 0} (does : Relations S) where
  -- a fault with a Close doesn't take the connection away
  fault_connected : (mid : State S) (left : List ℕ) (e : EndpointError) (new : State S)
      → fault_breaks_off (Some e) ≡ false → EndsByFault does mid left e new → is_unconnected new.phase ≡ false
  fault_connected mid left Memory new kept r = cc
  fault_connected mid left NumbersUsedUp new kept r = cc
  fault_connected mid left ProtocolHeaderMismatch new kept r = cc
  fault_connected mid left SizeUnder8 new kept r = ap (λ s. is_unconnected s.phase) r.after.1
  fault_connected mid left SizeOverLimit new kept r = ap (λ s. is_unconnected s.phase) r.after.1
  fault_connected mid left PeerLimitUnder512 new kept r = ap (λ s. is_unconnected s.phase) r.after.1
  fault_connected mid left (FrameFault e) new kept r = ap (λ s. is_unconnected s.phase) r.after.1
  fault_connected mid left (Connection e) new kept r = ap (λ s. is_unconnected s.phase) r.after.1
  fault_connected mid left (Session e) new kept r = ap (λ s. is_unconnected s.phase) r.after.1
  fault_connected mid left e new kept r = absurd r.refused.0

  ends_connected : (q : Phase) (mid : State S) (left : List ℕ) (fault : Option EndpointError) (new : State S)
      → mid.phase ≡ q → fault_breaks_off fault ≡ false → Ends does mid q left fault new
      → is_unconnected new.phase ≡ false
  ends_connected Unconnected mid left fault new at kept r = absurd r
  ends_connected Greeting mid left fault new at kept r = absurd r
  ends_connected Over mid left (Some e) new at kept r = absurd r
  ends_connected Over mid left None new at kept r = ap (λ s. is_unconnected s.phase) r ∙ ap (λ q. is_unconnected q) at
  ends_connected Running mid left (Some e) new at kept r = fault_connected mid left e new kept r
  ends_connected Running mid left None new at kept (waits, is) =
      ap (λ s. is_unconnected s.phase) is ∙ ap (λ q. is_unconnected q) at

  reads_connected : (old : State S) (bytes : List ℕ) (events : List Event) (fault : Option EndpointError)
      (new : State S) → fault_breaks_off fault ≡ false → ReadsOn does old bytes events fault new
      → is_unconnected new.phase ≡ false
  reads_connected old bytes events fault new kept r = ends_connected r.mid.phase r.mid r.left fault new refl kept r.ends

  greets_connected : (old : State S) (bytes : List ℕ) (events : List Event) (fault : Option EndpointError)
      (new : State S) → old.phase ≡ Greeting → fault_breaks_off fault ≡ false → Greets does old bytes events fault new
      → is_unconnected new.phase ≡ false
  greets_connected old bytes events fault new at kept (inl (short, none, is, after)) =
      ap (λ s. is_unconnected s.phase) after ∙ ap (λ q. is_unconnected q) at
  greets_connected old bytes events fault new at kept (inr (inl (long, differs, none, is, breaks))) =
      let bad : true ≡ false = sym (ap (λ o. fault_breaks_off o) is) ∙ kept in cc
  greets_connected old bytes events fault new at kept (inr (inr (inl (header, reads)))) =
      reads_connected (opened does old) (drop 8 bytes) events fault new kept reads
  greets_connected old bytes events fault new at kept (inr (inr (inr (none, is, breaks)))) =
      let bad : true ≡ false = sym (ap (λ o. fault_breaks_off o) is) ∙ kept in cc

  -- what a feed takes is fed to its connection
  fed-both : (f : List ℕ) (σ : Summary) (bytes : List ℕ) (events : List Event) (fault : Option EndpointError)
      → f ≡ σ.fed → then_fed f (Feed bytes) (fed events fault) ≡ (note σ (Feed bytes) (fed events fault)).fed
  fed-both f σ bytes events fault is =
      ap (λ x. if finds_none fault then x else x ++ bytes) is ∙ sym (noted-fed σ bytes events fault)

  feed_stands : (q : Phase) (old : State S) (bytes : List ℕ) (events : List Event) (fault : Option EndpointError)
      (new : State S) (p f : List ℕ) (σ : Summary) → old.phase ≡ q → fault_breaks_off fault ≡ false
      → FeedsIn does q old bytes events fault new → StandsAs (is_unconnected q) old p f σ.fed
      → Stands new p (then_fed f (Feed bytes) (fed events fault)) (note σ (Feed bytes) (fed events fault)).fed
  feed_stands Unconnected old bytes events fault new p f σ at kept (none, is, same) s =
      let P : Option EndpointError → Type 0 = λ o.
      Stands new p (then_fed f (Feed bytes) (fed events o)) (note σ (Feed bytes) (fed events o)).fed in
      let Q : State S → Type 0 = λ x. Stands x p f σ.fed in
      let R : Phase → Type 0 = λ x. StandsAs (is_unconnected x) old p f σ.fed in
      subst P (sym is) (subst Q (sym same) (subst R (sym at) s))
  feed_stands Over old bytes events fault new p f σ at kept (none, is, same) s =
      stands_connected new p (then_fed f (Feed bytes) (fed events fault)) (note σ (Feed bytes) (fed events fault)).fed
      (ap (λ x. is_unconnected x.phase) same ∙ ap (λ x. is_unconnected x) at) (fed-both f σ bytes events fault s)
  feed_stands Greeting old bytes events fault new p f σ at kept greets s =
      stands_connected new p (then_fed f (Feed bytes) (fed events fault)) (note σ (Feed bytes) (fed events fault)).fed
      (greets_connected old (old.rest ++ bytes) events fault new at kept greets) (fed-both f σ bytes events fault s)
  feed_stands Running old bytes events fault new p f σ at kept reads s =
      stands_connected new p (then_fed f (Feed bytes) (fed events fault)) (note σ (Feed bytes) (fed events fault)).fed
      (reads_connected old (old.rest ++ bytes) events fault new kept reads) (fed-both f σ bytes events fault s)

  receives_stand : (said : Said) (piece : List ℕ) (from old new : State S) (n : ℕ) (p f : List ℕ) (σ : Summary)
      → Feeds does said piece from old new → has_broken_off said ≡ false → Stands old p f σ.fed
      → Stands new (pulled_since_break p (feed_call piece said) (feed_told said n))
      (fed_since_break f (feed_call piece said) (feed_told said n))
      (summary σ (feed_call piece said) (feed_told said n)).fed
  receives_stand (fed events fault) piece from old new n p f σ (all, feeds) kept s =
      feed_stands old.phase old piece events fault new p f σ refl kept feeds s
  receives_stand (refused e) piece from old new n p f σ (memory, same) kept s =
      let P : State S → Type 0 = λ x. Stands x p f σ.fed in subst P (sym same) s
  receives_stand said piece from old new n p f σ feeds kept s = absurd feeds

  -- a break
  break_stands : (old new : State S) (c : List ℕ) → Breaks does old new → Stands new [] [] c
  break_stands old new c (finishes, is) =
      let P : State S → Type 0 = λ x. Stands x [] [] c in subst P (sym is) (refl, refl, refl)

  tail_stands : (b : Bool) (mid new : State S) (n : ℕ) (p f : List ℕ) (σ : Summary) → BreaksOne does b mid new
      → (b ≡ false → Stands mid p f σ.fed)
      → Stands new (pulled_since_break p (break_call b) (break_told b n))
      (fed_since_break f (break_call b) (break_told b n)) (summary σ (break_call b) (break_told b n)).fed
  tail_stands true mid new n p f σ breaks s = break_stands mid new σ.fed breaks
  tail_stands false mid new n p f σ same s =
      let P : State S → Type 0 = λ x. Stands x p f σ.fed in subst P (sym same) (s refl)

  joined_stands : (new : State S) (p f : List ℕ) (σ : Summary) (calls : List Call) (ts : List Told) (more : List Call)
      (us : List Told) → Matched calls ts
      → Stands new (pulled_since_break (pulled_since_break p calls ts) more us)
      (fed_since_break (fed_since_break f calls ts) more us) (summary (summary σ calls ts) more us).fed
      → Stands new (pulled_since_break p (calls ++ more) (ts ++ us)) (fed_since_break f (calls ++ more) (ts ++ us))
      (summary σ (calls ++ more) (ts ++ us)).fed
  joined_stands new p f σ calls ts more us m s =
      let g = fed_since_break (fed_since_break f calls ts) more us in
      let c = (summary (summary σ calls ts) more us).fed in
      let q = pulled_since_break p (calls ++ more) (ts ++ us) in
      let P : List ℕ → Type 0 = λ x. Stands new x g c in
      let Q : List ℕ → Type 0 = λ x. Stands new q x c in
      let R : List ℕ → Type 0 = λ x. Stands new q (fed_since_break f (calls ++ more) (ts ++ us)) x in
      subst R (sym (ap (λ x. x.fed) (summary-append σ calls ts more us m)))
      (subst Q (sym (fed-append f calls ts more us m)) (subst P (sym (pulled-append p calls ts more us m)) s))

  -- the sessions do what they are called for, and send nothing without a connection
  sessions-at : (b : Bool) (call : Call) (answer : Said) (old new : State S) (p f c : List ℕ)
      → is_unconnected old.phase ≡ b → SessionsDo does old call answer new → Stands old p f c → Stands new p f c
  sessions-at true call answer old new p f c is d s =
      let none : d.frames ≡ [] = d.quiet (none_goes_on old.phase is) in
      stands-same old new p f c (ap (λ x. x.phase) d.queued)
      (ap (λ x. x.queue) d.queued ∙ ap (λ fs. old.queue ++ map waiting_of fs) none ∙ append-nil old.queue) s
  sessions-at false call answer old new p f c is d s =
      stands_connected new p f c (ap (λ x. is_unconnected x.phase) d.queued ∙ is)
      (fed_is (is_unconnected old.phase) old p f c is s)

  sessions-stand : (call : Call) (answer : Said) (old new : State S) (p f c : List ℕ)
      → SessionsDo does old call answer new → Stands old p f c → Stands new p f c
  sessions-stand call answer old new p f c d s =
      sessions-at (is_unconnected old.phase) call answer old new p f c refl d s

  -- the sessions answer, and nothing changes
  answer-stands : (old new : State S) (p f c : List ℕ) → new ≡ old → Stands old p f c → Stands new p f c
  answer-stands old new p f c same s =
      stands-same old new p f c (ap (λ x. x.phase) same) (ap (λ x. x.queue) same) s

  -- a call that isn't the world's own
  own-stands : (call : Call) (said : Said) (old new : State S) (p f : List ℕ) (σ : Summary)
      → is_the_worlds call ≡ false → EndpointStep does old call said new → Stands old p f σ.fed
      → Stands new p f (note σ call said).fed
  own-stands call (refused e) old new p f σ own (why, same) s =
      let P : Summary → Type 0 = λ τ. Stands new p f τ.fed in
      subst P (sym (noted-refused σ call e))
      (stands-same old new p f σ.fed (ap (λ x. x.phase) same) (ap (λ x. x.queue) same) s)
  own-stands (Feed bytes) said old new p f σ own step s = cc
  own-stands Pull said old new p f σ own step s = cc
  own-stands BreakOff said old new p f σ own step s = cc
  own-stands Connect done old new p f σ own (none, is) s =
      stands_connected new p f [] (ap (λ x. is_unconnected x.phase) is)
      (unfed_is (is_unconnected old.phase) old p f σ.fed (connect_unconnected (is_unconnected old.phase) none) s)
  own-stands Connect said old new p f σ own step s = absurd step
  own-stands Queued (count n) old new p f σ own (is, same) s =
      stands-same old new p f σ.fed (ap (λ x. x.phase) same) (ap (λ x. x.queue) same) s
  own-stands Queued said old new p f σ own step s = absurd step
  own-stands IsIdle (truth b) old new p f σ own (is, same) s =
      stands-same old new p f σ.fed (ap (λ x. x.phase) same) (ap (λ x. x.queue) same) s
  own-stands IsIdle said old new p f σ own step s = absurd step
  own-stands Heartbeat done old new p f σ own (none, is) s =
      let connected : is_unconnected old.phase ≡ false = heartbeat_connected old.phase old.own_close none in
      stands_connected new p f σ.fed (ap (λ x. is_unconnected x.phase) is ∙ connected)
      (fed_is (is_unconnected old.phase) old p f σ.fed connected s)
  own-stands Heartbeat said old new p f σ own step s = absurd step
  own-stands Close done old new p f σ own (none, closes, is) s =
      let connected : is_unconnected old.phase ≡ false = close_connected old.phase old.own_close none in
      stands_connected new p f σ.fed (ap (λ x. is_unconnected x.phase) is ∙ connected)
      (fed_is (is_unconnected old.phase) old p f σ.fed connected s)
  own-stands Close said old new p f σ own step s = absurd step
  own-stands IsClosed (truth b) old new p f σ own (is, same) s =
      stands-same old new p f σ.fed (ap (λ x. x.phase) same) (ap (λ x. x.queue) same) s
  own-stands IsClosed said old new p f σ own step s = absurd step
  own-stands TryClose (tried_close o) old new p f σ own (is, same) s =
      stands-same old new p f σ.fed (ap (λ x. x.phase) same) (ap (λ x. x.queue) same) s
  own-stands TryClose said old new p f σ own step s = absurd step
  own-stands Begin (session_begun n) old new p f σ own step s =
      sessions-stand Begin (session_begun n) old new p f σ.fed step s
  own-stands Begin said old new p f σ own step s = absurd step
  own-stands (AcceptBegin channel) (session_begun n) old new p f σ own step s =
      sessions-stand (AcceptBegin channel) (session_begun n) old new p f σ.fed step s
  own-stands (AcceptBegin channel) said old new p f σ own step s = absurd step
  own-stands (EndCall number) done old new p f σ own step s =
      sessions-stand (EndCall number) done old new p f σ.fed step s
  own-stands (EndCall number) said old new p f σ own step s = absurd step
  own-stands (IsEnded number) (truth b) old new p f σ own step s = answer-stands old new p f σ.fed step.same s
  own-stands (IsEnded number) said old new p f σ own step s = absurd step
  own-stands (TryEnd number) (tried_end o) old new p f σ own step s =
      sessions-stand (TryEnd number) (tried_end o) old new p f σ.fed step s
  own-stands (TryEnd number) said old new p f σ own step s = absurd step
  own-stands (AttachSender session settings) (attaching link events) old new p f σ own step s =
      sessions-stand (AttachSender session settings) (attaching link events) old new p f σ.fed step s
  own-stands (AttachSender session settings) said old new p f σ own step s = absurd step
  own-stands (AttachReceiver session settings) (attaching link events) old new p f σ own step s =
      sessions-stand (AttachReceiver session settings) (attaching link events) old new p f σ.fed step s
  own-stands (AttachReceiver session settings) said old new p f σ own step s = absurd step
  own-stands (Resume link session) (attaching number events) old new p f σ own step s =
      sessions-stand (Resume link session) (attaching number events) old new p f σ.fed step s
  own-stands (Resume link session) said old new p f σ own step s = absurd step
  own-stands (DetachCall link) done old new p f σ own step s =
      sessions-stand (DetachCall link) done old new p f σ.fed step s
  own-stands (DetachCall link) said old new p f σ own step s = absurd step
  own-stands (CloseLink link) (link_closed events) old new p f σ own step s =
      sessions-stand (CloseLink link) (link_closed events) old new p f σ.fed step s
  own-stands (CloseLink link) said old new p f σ own step s = absurd step
  own-stands (Grant link credit) (credit_is left) old new p f σ own step s =
      sessions-stand (Grant link credit) (credit_is left) old new p f σ.fed step s
  own-stands (Grant link credit) said old new p f σ own step s = absurd step
  own-stands (Drain link) done old new p f σ own step s =
      sessions-stand (Drain link) done old new p f σ.fed step s
  own-stands (Drain link) said old new p f σ own step s = absurd step
  own-stands (Send link message) (message_sent tag outcome) old new p f σ own step s =
      sessions-stand (Send link message) (message_sent tag outcome) old new p f σ.fed step s
  own-stands (Send link message) said old new p f σ own step s = absurd step
  own-stands (Dispose link message disposal) done old new p f σ own step s =
      sessions-stand (Dispose link message disposal) done old new p f σ.fed step s
  own-stands (Dispose link message disposal) said old new p f σ own step s = absurd step
  own-stands (DisposeAll link messages disposal) done old new p f σ own step s =
      sessions-stand (DisposeAll link messages disposal) done old new p f σ.fed step s
  own-stands (DisposeAll link messages disposal) said old new p f σ own step s = absurd step
  own-stands (Credit link) (credit_is left) old new p f σ own step s = answer-stands old new p f σ.fed step.same s
  own-stands (Credit link) said old new p f σ own step s = absurd step
  own-stands (HeldBack session) (count n) old new p f σ own step s = answer-stands old new p f σ.fed step.same s
  own-stands (HeldBack session) said old new p f σ own step s = absurd step
  own-stands (WaitingCall session) (waiting turn) old new p f σ own step s = answer-stands old new p f σ.fed step.same s
  own-stands (WaitingCall session) said old new p f σ own step s = absurd step

  unpulled : (p : List ℕ) (call : Call) (said : Said) → is_the_worlds call ≡ false → then_pulled p call said ≡ p
  unpulled p Pull said own = cc
  unpulled p BreakOff said own = cc
  unpulled p call said own = refl

  unfed : (f : List ℕ) (call : Call) (said : Said) → is_the_worlds call ≡ false → then_fed f call said ≡ f
  unfed f (Feed bytes) said own = cc
  unfed f BreakOff said own = cc
  unfed f call said own = refl

  call_stands : (b : Bool) (call : Call) (said : Said) (old new : State S) (n : ℕ) (p f : List ℕ) (σ : Summary)
      → is_the_worlds call ≡ b → CallsAs does b old call said new → Stands old p f σ.fed
      → Stands new
      (pulled_since_break p (if b then [] else call ∷ []) (if b then [] else record { answer = said; queued = n } ∷ []))
      (fed_since_break f (if b then [] else call ∷ []) (if b then [] else record { answer = said; queued = n } ∷ []))
      (summary σ (if b then [] else call ∷ []) (if b then [] else record { answer = said; queued = n } ∷ [])).fed
  call_stands true call said old new n p f σ is (why, same) s =
      let P : State S → Type 0 = λ x. Stands x p f σ.fed in subst P (sym same) s
  call_stands false call said old new n p f σ is step s =
      let P : List ℕ → Type 0 = λ x. Stands new x (then_fed f call said) (note σ call said).fed in
      let Q : List ℕ → Type 0 = λ x. Stands new p x (note σ call said).fed in
      subst P (sym (unpulled p call said is))
      (subst Q (sym (unfed f call said is)) (own-stands call said old new p f σ is step s))

  sends_stand : (k : ℕ) (pulled : List (List ℕ)) (said : Said) (old mid : Way S) (new : State S) (n : ℕ)
      (p f : List ℕ) (σ : Summary) → Carries does k pulled said old mid
      → BreaksOne does (has_broken_off said) mid.from new → Stands old.from p f σ.fed
      → Stands new
      (pulled_since_break p (pull_calls pulled ++ break_call (has_broken_off said))
      (pulls_told pulled n ++ break_told (has_broken_off said) n))
      (fed_since_break f (pull_calls pulled ++ break_call (has_broken_off said))
      (pulls_told pulled n ++ break_told (has_broken_off said) n))
      (summary σ (pull_calls pulled ++ break_call (has_broken_off said))
      (pulls_told pulled n ++ break_told (has_broken_off said) n)).fed
  sends_stand k pulled said old mid new n p f σ c breaks s =
      let b = has_broken_off said in
      let calls = pull_calls pulled in
      let ts = pulls_told pulled n in
      let q = pulled_since_break p calls ts in
      let g = fed_since_break f calls ts in
      let P : Summary → Type 0 = λ x. Stands mid.from q g x.fed in
      joined_stands new p f σ calls ts (break_call b) (break_told b n) (matched-pulls pulled n)
      (tail_stands b mid.from new n q g (summary σ calls ts) breaks
      (λ kept. subst P (sym (noted-pulls σ pulled n)) (drains_stand old.from pulled mid.from n p f σ.fed c.pulls s)))

  receives_all_stand : (k : ℕ) (pulled : List (List ℕ)) (said : Said) (old mid : Way S) (new : State S) (n : ℕ)
      (p f : List ℕ) (σ : Summary) → Carries does k pulled said old mid
      → BreaksOne does (has_broken_off said) mid.to new → Stands old.to p f σ.fed
      → Stands new
      (pulled_since_break p (feed_call (take k (old.stream ++ joined pulled)) said ++ break_call (has_broken_off said))
      (feed_told said n ++ break_told (has_broken_off said) n))
      (fed_since_break f (feed_call (take k (old.stream ++ joined pulled)) said ++ break_call (has_broken_off said))
      (feed_told said n ++ break_told (has_broken_off said) n))
      (summary σ (feed_call (take k (old.stream ++ joined pulled)) said ++ break_call (has_broken_off said))
      (feed_told said n ++ break_told (has_broken_off said) n)).fed
  receives_all_stand k pulled said old mid new n p f σ c breaks s =
      let b = has_broken_off said in
      let piece = take k (old.stream ++ joined pulled) in
      let calls = feed_call piece said in
      let ts = feed_told said n in
      joined_stands new p f σ calls ts (break_call b) (break_told b n) (matched-feed piece said n)
      (tail_stands b mid.to new n (pulled_since_break p calls ts) (fed_since_break f calls ts) (summary σ calls ts)
      breaks
      (λ kept. receives_stand said piece mid.from old.to mid.to n p f σ c.feeds kept s))

  step_stands : (end : End) (old : WorldState S) (step : Step) (did : WorldSaid) (n : ℕ) (new : WorldState S)
      (p f : List ℕ) (σ : Summary) → WorldStep does old step did new → Stands (state_at end old) p f σ.fed
      → Stands (state_at end new)
      (pulled_since_break p (calls_in end (stream_to end old) step did) (told_in end step did n))
      (fed_since_break f (calls_in end (stream_to end old) step did) (told_in end step did n))
      (summary σ (calls_in end (stream_to end old) step did) (told_in end step did n)).fed
  step_stands A old (CallAt A call) (called said) n new p f σ (one, rest) s =
      call_stands (is_the_worlds call) call said old.a new.a n p f σ refl one s
  step_stands A old (CallAt B call) (called said) n new p f σ (one, rest) s =
      let P : State S → Type 0 = λ x. Stands x p f σ.fed in subst P (sym (ap (λ w. w.a) rest)) s
  step_stands B old (CallAt A call) (called said) n new p f σ (one, rest) s =
      let P : State S → Type 0 = λ x. Stands x p f σ.fed in subst P (sym (ap (λ w. w.b) rest)) s
  step_stands B old (CallAt B call) (called said) n new p f σ (one, rest) s =
      call_stands (is_the_worlds call) call said old.b new.b n p f σ refl one s
  step_stands A old (Move A k) (moved bytes said) n new p f σ m s =
      sends_stand k bytes said (way_from A old) (way_from A m.mid) new.a n p f σ m.carries
      (one_breaks does A (has_broken_off said) m.mid new m.behind) s
  step_stands A old (Move B k) (moved bytes said) n new p f σ m s =
      receives_all_stand k bytes said (way_from B old) (way_from B m.mid) new.a n p f σ m.carries
      (one_breaks does A (has_broken_off said) m.mid new m.behind) s
  step_stands B old (Move A k) (moved bytes said) n new p f σ m s =
      receives_all_stand k bytes said (way_from A old) (way_from A m.mid) new.b n p f σ m.carries
      (one_breaks does B (has_broken_off said) m.mid new m.behind) s
  step_stands B old (Move B k) (moved bytes said) n new p f σ m s =
      sends_stand k bytes said (way_from B old) (way_from B m.mid) new.b n p f σ m.carries
      (one_breaks does B (has_broken_off said) m.mid new m.behind) s
  step_stands A old Break broken n new p f σ r s = break_stands old.a new.a σ.fed r.a
  step_stands B old Break broken n new p f σ r s = break_stands old.b new.b σ.fed r.b
  step_stands end old step did n new p f σ step_is s = absurd step_is

  stands_run : (end : End) (old : WorldState S) (steps : List Step) (ts : List WorldTold) (new : WorldState S)
      (p f : List ℕ) (σ : Summary) → WorldRun does old steps ts new → Stands (state_at end old) p f σ.fed
      → Stands (state_at end new)
      (pulled_since_break p (calls_at end (stream_to end old) steps ts) (told_at end steps ts))
      (fed_since_break f (calls_at end (stream_to end old) steps ts) (told_at end steps ts))
      (summary σ (calls_at end (stream_to end old) steps ts) (told_at end steps ts)).fed
  stands_run end old [] [] new p f σ same s =
      let P : WorldState S → Type 0 = λ w. Stands (state_at end w) p f σ.fed in subst P (sym same) s
  stands_run end old [] (t ∷ ts) new p f σ run s = absurd run
  stands_run end old (step ∷ steps) [] new p f σ run s = absurd run
  stands_run end old (step ∷ steps) (t ∷ ts) new p f σ (mid, one, a, b, rest) s =
      let v = stream_to end old in
      let n = queued_at end t in
      let calls = calls_in end v step t.did in
      let said = told_in end step t.did n in
      let q = pulled_since_break p calls said in
      let g = fed_since_break f calls said in
      let τ = summary σ calls said in
      let P : List ℕ → Type 0 = λ x. Stands (state_at end new)
      (pulled_since_break q (calls_at end x steps ts) (told_at end steps ts))
      (fed_since_break g (calls_at end x steps ts) (told_at end steps ts))
      (summary τ (calls_at end x steps ts) (told_at end steps ts)).fed in
      joined_stands (state_at end new) p f σ calls said (calls_at end (stream_behind end v step t.did) steps ts)
      (told_at end steps ts) (matched_in end v step t.did n)
      (subst P (stream-step does end old step t.did mid one)
      (stands_run end mid steps ts new q g τ rest (step_stands end old step t.did n mid p f σ one s)))

  new_stands : (end : End) (a b : Settings) (start : WorldState S) → IsNewWorld does a b start
      → Stands (state_at end start) [] [] []
  new_stands A a b start n =
      let P : WorldState S → Type 0 = λ w. Stands w.a [] [] [] in subst P (sym n.is) (refl, refl, refl)
  new_stands B a b start n =
      let P : WorldState S → Type 0 = λ w. Stands w.b [] [] [] in subst P (sym n.is) (refl, refl, refl)

  of_its_connection : (b : Bool) (s : State S) (p f c : List ℕ) → StandsAs b s p f c → OfItsConnection b p f c
  of_its_connection true s p f c (none, unpulled, unfed) = (unpulled, unfed)
  of_its_connection false s p f c is = is

  pub fed_to_its_connection : (end : End) (a b : Settings) (start new : WorldState S) (steps : List Step)
      (ts : List WorldTold) → IsNewWorld does a b start → WorldRun does start steps ts new
      → OfItsConnection (is_unconnected (state_at end new).phase)
      (pulled_since_break [] (calls_at end [] steps ts) (told_at end steps ts))
      (fed_since_break [] (calls_at end [] steps ts) (told_at end steps ts))
      (summary nothing (calls_at end [] steps ts) (told_at end steps ts)).fed
  fed_to_its_connection end a b start new steps ts n run =
      let P : List ℕ → Type 0 = λ x. Stands (state_at end new)
      (pulled_since_break [] (calls_at end x steps ts) (told_at end steps ts))
      (fed_since_break [] (calls_at end x steps ts) (told_at end steps ts))
      (summary nothing (calls_at end x steps ts) (told_at end steps ts)).fed in
      of_its_connection (is_unconnected (state_at end new).phase) (state_at end new)
      (pulled_since_break [] (calls_at end [] steps ts) (told_at end steps ts))
      (fed_since_break [] (calls_at end [] steps ts) (told_at end steps ts))
      (summary nothing (calls_at end [] steps ts) (told_at end steps ts)).fed
      (subst P (nothing_yet does end a b start n)
      (stands_run end start steps ts new [] [] nothing run (new_stands end a b start n)))
