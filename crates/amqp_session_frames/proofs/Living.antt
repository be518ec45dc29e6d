-- Live sessions have outgoing channels of their own, within both channel-max.
use Rattle.std.proofs.Common.{◌≡◌, ◌≢◌, ◌≤◌, ◌⊎◌, inl, inr, ℕ, Bool, true, false, cond, List, [], ◌∷◌, ◌++◌, Option, Some, None, Ok, Err, All, nat_eq, refl, sym, ap, ◌∙◌, subst, ◌==◌, is_some}
use Rattle.std.specs.Prelude.{min, not}
use Rattle.std.specs.Cmp.{nat_eq_equiv}
use Rattle.std.specs.FinMap as map
use Rattle.std.specs.List.{IsDistinct, AllByRecursion}
use Rattle.std.specs.Map.{keys_of, lookup}
use Rattle.std.proofs.lemmas.Bool.{eqb-true}
use Rattle.std.proofs.lemmas.Bool.Decides.{eqb_tells}
use Rattle.std.proofs.lemmas.List.Elements.{All-nil, All-cons, All-filter}
use Rattle.std.proofs.lemmas.Map.{NonePasses, none_passes_from_lookup}
use Rattle.std.proofs.lemmas.Map.Entries.{lookup-filter-keys}
use Rattle.std.proofs.lemmas.Map.Keys.{IsDistinct-cons}
use Rattle.std.proofs.lemmas.Map.Made.{IsDistinct-keys_filter}
use Rattle.amqp_session_types.specs.declared.channels.IncomingChannel.{IncomingChannel}
use Rattle.amqp_session_types.specs.declared.refusals.ConnectionError.TheVariants.{NotFound}
use Rattle.amqp_session_performatives.specs.declared.open.Open.{Open}
use Rattle.amqp_session_performatives.specs.declared.begin.Begin.{Begin}
use Rattle.amqp_session_frames.specs.declared.state.ConnectionState.{ConnectionState}
use Rattle.amqp_session_frames.specs.State.{State, Table, fresh, highest_channel}
use Rattle.amqp_session_frames.specs.Steps.{Act, Step, History, DeallocateSession, named_session, SetsStopReason}
use Rattle.amqp_session_frames.specs.Steps.{SendsHeader, TakesHeader, SendsOpen, TakesOpen, SendsClose}
use Rattle.amqp_session_frames.specs.Steps.{TakesClose, SendsBegin, SendsEnd, AllocatesSession}
use Rattle.amqp_session_frames.specs.Steps.{DeallocatesSession, TakesBegin, AcceptsRoute, TakesEnd, FindsSession}
use Rattle.amqp_session_frames.specs.Told.{without, still_live, live_after, learned, peer_channel_max}
use Rattle.amqp_session_frames.proofs.Histories.{last_step}
use Rattle.amqp_session_frames.proofs.States.{is_settled, send_header_moves, incoming_header_moves, send_open_moves}
use Rattle.amqp_session_frames.proofs.States.{send_close_moves, incoming_close_moves, open_comes_first, begun_settled}
use Rattle.amqp_session_types.proofs.Tables.{get-put, get-take}
use Rattle.amqp_session_frames.proofs.Tables.{get-none}

-- no live session has a channel above this
abbrev Below : ℕ → List (ℕ × ℕ) → Type 0
Below limit live = All (λ (s : ℕ × ℕ). s.0 ≤ limit) live

-- what a state has of these live sessions
pub record Lives (opening : Open) (peer : Option ℕ) (live : List (ℕ × ℕ)) (s : State) : Type 0 where
  pub own : s.local_open ≡ opening
  pub peers : s.remote_channel_max ≡ peer
  pub tells : (channel : ℕ) → map.get s.live channel ≡ lookup (nat_eq channel) live
  pub apart : IsDistinct nat_eq (keys_of live)
  pub within : Below (highest_channel opening.channel_max peer) live
  pub settled : (is_settled s.local_state ≡ true) ⊎ (live ≡ [])

nothing_apart : IsDistinct nat_eq []
unfolding IsDistinct
nothing_apart = tt

over_keys : (channel : ℕ) (live : List (ℕ × ℕ)) → NonePasses (nat_eq channel) live → AllByRecursion (λ (c : ℕ). nat_eq channel c ≡ false) (keys_of live)
over_keys channel [] n = tt
over_keys channel (s ∷ live) n = (n.0, over_keys channel live n.1)

turned : {X : Type 0} (b : Bool) (x : Option X) → cond (not b) x None ≡ cond b None x
turned true x = refl
turned false x = refl

-- where one channel's sessions are left out, each other channel has what it had
lookup-without : (channel q : ℕ) (live : List (ℕ × ℕ)) → lookup (nat_eq q) (without channel live) ≡ cond (q == channel) None (lookup (nat_eq q) live)
lookup-without channel q live =
    lookup-filter-keys (nat_eq q) (λ (c : ℕ). not (channel == c)) (not (channel == q)) (λ k e. ap (λ (c : ℕ). not (channel == c)) (sym (eqb-true q k e))) live
    ∙ turned (channel == q) (lookup (nat_eq q) live) ∙ ap (λ (b : Bool). cond b None (lookup (nat_eq q) live)) (nat_eq_equiv.symm channel q)

module _ (opening : Open) (peer : Option ℕ) (live : List (ℕ × ℕ)) where
  -- what a call leaves as it was
  kept : {t : State} (old new : State) → new ≡ t → t.local_open ≡ old.local_open → t.remote_channel_max ≡ old.remote_channel_max → t.live ≡ old.live
      → (is_settled old.local_state ≡ true → is_settled new.local_state ≡ true) → Lives opening peer live old → Lives opening peer live new
  kept old new is a b l settles w = record {
    own = ap (λ (s : State). s.local_open) is ∙ a ∙ w.own;
    peers = ap (λ (s : State). s.remote_channel_max) is ∙ b ∙ w.peers;
    tells = λ channel. ap (λ (s : State). map.get s.live channel) is ∙ ap (λ (t : Table). map.get t channel) l ∙ w.tells channel;
    apart = w.apart;
    within = w.within;
    settled = elim w.settled [ inl h ↦ inl (settles h) | inr e ↦ inr e ];
  }

  -- a call that moves no state, either
  still : {t : State} (old new : State) → new ≡ t → t.local_open ≡ old.local_open → t.remote_channel_max ≡ old.remote_channel_max → t.live ≡ old.live → t.local_state ≡ old.local_state
      → Lives opening peer live old → Lives opening peer live new
  still old new is a b l c w = kept old new is a b l (λ h. ap (λ (s : State). is_settled s.local_state) is ∙ ap is_settled c ∙ h) w

  same : (old new : State) → new ≡ old → Lives opening peer live old → Lives opening peer live new
  same old new is w = still old new is refl refl refl refl w

  allocated : (old new : State) (channel session : ℕ) → channel ≡ old.offered → map.get old.live old.offered ≡ None → old.offered ≤ highest_channel old.local_open.channel_max old.remote_channel_max
      → is_settled old.local_state ≡ true → new ≡ record old { live = map.insert old.live old.offered session; offered = new.offered }
      → Lives opening peer live old → Lives opening peer ((channel, session) ∷ live) new
  allocated old new channel session given vacant low begun is w = record {
    own = ap (λ (s : State). s.local_open) is ∙ w.own;
    peers = ap (λ (s : State). s.remote_channel_max) is ∙ w.peers;
    tells = λ q. ap (λ (s : State). map.get s.live q) is ∙ get-put old.live old.offered q session
        ∙ ap (λ (c : ℕ). cond (q == c) (Some session) (map.get old.live q)) (sym given) ∙ ap (λ (o : Option ℕ). cond (q == channel) (Some session) o) (w.tells q);
    apart = IsDistinct-cons nat_eq channel (keys_of live) (over_keys channel live (none_passes_from_lookup (nat_eq channel) live (sym (w.tells channel) ∙ ap (map.get old.live) given ∙ vacant))) w.apart;
    within = All-cons (λ (s : ℕ × ℕ). s.0 ≤ highest_channel opening.channel_max peer) (channel, session) live
        (subst (λ (c : ℕ). c ≤ highest_channel opening.channel_max peer) (sym given)
        (subst (λ (m : Option ℕ). old.offered ≤ highest_channel opening.channel_max m) w.peers
        (subst (λ (o : Open). old.offered ≤ highest_channel o.channel_max old.remote_channel_max) w.own low))) w.within;
    settled = inl (ap (λ (s : State). is_settled s.local_state) is ∙ begun);
  }

  -- what the table has behind a channel that is taken back
  taken_back : (old new : State) (channel : ℕ) (session : Option ℕ) → map.get old.live channel ≡ session → DeallocateSession old channel session new
      → (q : ℕ) → map.get new.live q ≡ cond (q == channel) None (map.get old.live q)
  taken_back old new channel (Some session) had s q = ap (λ (s : State). map.get s.live q) s ∙ get-take old.live channel q
  taken_back old new channel None had s q = ap (λ (s : State). map.get s.live q) s ∙ by_key (eqb_tells q channel)
    where
      by_key : ((q == channel) ≡ true) × (q ≡ channel) ⊎ ((q == channel) ≡ false) × (q ≢ channel) → map.get old.live q ≡ cond (q == channel) None (map.get old.live q)
      by_key (inl p) = ap (map.get old.live) p.1 ∙ had ∙ ap (λ (b : Bool). cond b None (map.get old.live q)) (sym p.0)
      by_key (inr p) = ap (λ (b : Bool). cond b None (map.get old.live q)) (sym p.0)

  stays : {X : Type 0} (f : State → X) (old new : State) (channel : ℕ) (session : Option ℕ) → ((t : Table) (offered : ℕ) → f (record old { live = t; offered = offered }) ≡ f old)
      → DeallocateSession old channel session new → f new ≡ f old
  stays f old new channel None same s = ap f s
  stays f old new channel (Some session) same s = ap f s ∙ same _ _

  deallocated : (old new : State) (channel : ℕ) → DeallocateSession old channel (map.get old.live channel) new → Lives opening peer live old → Lives opening peer (without channel live) new
  deallocated old new channel s w = record {
    own = stays (λ (s : State). s.local_open) old new channel _ (λ t o. refl) s ∙ w.own;
    peers = stays (λ (s : State). s.remote_channel_max) old new channel _ (λ t o. refl) s ∙ w.peers;
    tells = λ q. taken_back old new channel _ refl s q ∙ ap (λ (o : Option ℕ). cond (q == channel) None o) (w.tells q) ∙ sym (lookup-without channel q live);
    apart = IsDistinct-keys_filter nat_eq (λ (s : ℕ × ℕ). not (channel == s.0)) live w.apart;
    within = All-filter (λ (s : ℕ × ℕ). not (channel == s.0)) (λ (s : ℕ × ℕ). s.0 ≤ highest_channel opening.channel_max peer) live w.within;
    settled = elim w.settled [
      | inl h ↦ inl (ap is_settled (stays (λ (s : State). s.local_state) old new channel _ (λ t o. refl) s) ∙ h)
      | inr e ↦ inr (ap (without channel) e)
    ];
  }

  -- the peer's Open comes before any session has a channel
  told : (old new : State) (max : ℕ) (next : ConnectionState) → (is_settled old.local_state ≡ true → ⊥) → new ≡ record old { local_state = next; remote_channel_max = Some max }
      → Lives opening peer live old → Lives opening (Some max) live new
  told old new max next early is w =
      let none : live ≡ [] = elim w.settled [ inl h ↦ absurd (early h) | inr e ↦ e ] in
      record {
        own = ap (λ (s : State). s.local_open) is ∙ w.own;
        peers = ap (λ (s : State). s.remote_channel_max) is;
        tells = λ q. ap (λ (s : State). map.get s.live q) is ∙ w.tells q;
        apart = w.apart;
        within = subst (Below (highest_channel opening.channel_max (Some max))) (sym none) (All-nil _);
        settled = inr none;
      }

  step_lives : (step : Act) (old new : State) → Step old step new → Lives opening peer live old
      → Lives opening (learned step peer) (still_live step live) new
  step_lives (SetsStopReason reason) old new s w = still old new s refl refl refl refl w
  step_lives (SendsHeader (Err e)) old new s w = same old new s.2 w
  step_lives (SendsHeader (Ok x)) old new s w = kept old new s.1 refl refl refl (send_header_moves old.local_state new.local_state s.0).settled w
  step_lives (TakesHeader (Err e)) old new s w = same old new s.2 w
  step_lives (TakesHeader (Ok x)) old new s w = kept old new s.1 refl refl refl (incoming_header_moves old.local_state new.local_state s.0).settled w
  step_lives (SendsOpen (Err e)) old new s w = same old new s.1 w
  step_lives (SendsOpen (Ok frame)) old new s w = kept old new s.2 refl refl refl (send_open_moves old.local_state new.local_state s.1).settled w
  step_lives (TakesOpen channel remote (Err e)) old new s w = same old new s.2 w
  step_lives (TakesOpen channel remote (Ok x)) old new s w = told old new remote.channel_max new.local_state (open_comes_first old.local_state new.local_state s.0) s.1 w
  step_lives (SendsClose error (Err e)) old new s w = same old new s.2 w
  step_lives (SendsClose error (Ok frame)) old new s w = kept old new s.2 refl refl refl (send_close_moves (is_some error) old.local_state new.local_state s.1).settled w
  step_lives (TakesClose channel closing (Err e)) old new s w = same old new s.2 w
  step_lives (TakesClose channel closing (Ok x)) old new s w = kept old new s.1 refl refl refl (incoming_close_moves old.local_state new.local_state s.0).settled w
  step_lives (SendsBegin channel beginning frame) old new s w = same old new s.1 w
  step_lives (SendsEnd channel ending frame) old new s w = same old new s.1 w
  step_lives (AllocatesSession session (Err e)) old new s w = same old new s.1 w
  step_lives (AllocatesSession session (Ok channel)) old new s w = allocated old new channel.0 session s.2 s.3 s.1 (begun_settled old.local_state s.0) s.4 w
  step_lives (DeallocatesSession channel) old new s w = deallocated old new channel.0 s w
  step_lives (TakesBegin channel beginning (Err e)) old new s w = same old new s.1 w
  step_lives (TakesBegin channel beginning (Ok session)) old new s w = still old new s.1 refl refl refl refl w
  step_lives (AcceptsRoute channel session (Err e)) old new s w = same old new s w
  step_lives (AcceptsRoute channel session (Ok x)) old new s w = still old new s refl refl refl refl w
  step_lives (TakesEnd channel ending (Err e)) old new s w = same old new s.2 w
  step_lives (TakesEnd channel ending (Ok session)) old new s w = still old new s.1 refl refl refl refl w
  step_lives (FindsSession channel answer) old new s w = same old new s.1 w

history_lives : (opening : Open) (peer : Option ℕ) (live : List (ℕ × ℕ)) (steps : List Act) (start end : State)
    → History start steps end → Lives opening peer live start
    → Lives opening (peer_channel_max peer steps) (live_after live steps) end
history_lives opening peer live [] start end run w = same opening peer live start end run w
history_lives opening peer live (step ∷ steps) start end run w =
    history_lives opening (learned step peer) (still_live step live) steps run.0 end run.2 (step_lives opening peer live step start run.0 run.1 w)

module _ (state : ConnectionState) (opening : Open) where
  lives : (end : State) (steps : List Act) → History (fresh state opening) steps end
      → Lives opening (peer_channel_max None steps) (live_after [] steps) end
  lives end steps run =
      history_lives opening None [] steps (fresh state opening) end run (record {
        own = refl;
        peers = refl;
        tells = get-none;
        apart = nothing_apart;
        within = All-nil _;
        settled = inr refl;
      })

  pub live_apart : (end : State) (steps : List Act) → History (fresh state opening) steps end
      → IsDistinct nat_eq (keys_of (live_after [] steps))
  live_apart end steps run = (lives end steps run).apart

  pub live_within : (end : State) (steps : List Act) → History (fresh state opening) steps end
      → Below (highest_channel opening.channel_max (peer_channel_max None steps)) (live_after [] steps)
  live_within end steps run = (lives end steps run).within

  pub live_allowed : (end : State) (steps : List Act) (peer : ℕ) → History (fresh state opening) steps end
      → peer_channel_max None steps ≡ Some peer → Below (min opening.channel_max peer) (live_after [] steps)
  live_allowed end steps peer run is = subst (λ (o : Option ℕ). Below (highest_channel opening.channel_max o) (live_after [] steps)) is (live_within end steps run)

  module _ (end : State) (steps : List Act) (channel : IncomingChannel) (beginning : Begin) (named : ℕ) where
    pub reached : (session : ℕ) → History (fresh state opening) (steps ++ TakesBegin channel beginning (Ok session) ∷ []) end → beginning.remote_channel ≡ Some named → lookup (nat_eq named) (live_after [] steps) ≡ Some session
    reached session run names =
        let l = last_step steps (TakesBegin channel beginning (Ok session)) (fresh state opening) end run in
        sym ((lives l.mid steps l.before).tells named) ∙ sym (ap (named_session l.mid) names) ∙ l.last.0

    pub not_reached : History (fresh state opening) (steps ++ TakesBegin channel beginning (Err NotFound) ∷ []) end → beginning.remote_channel ≡ Some named → lookup (nat_eq named) (live_after [] steps) ≡ None
    not_reached run names =
        let l = last_step steps (TakesBegin channel beginning (Err NotFound)) (fresh state opening) end run in
        sym ((lives l.mid steps l.before).tells named) ∙ sym (ap (named_session l.mid) names) ∙ l.last.0.1
