-- What goes in a session is read off its channel.
use Rattle.std.proofs.Common.{◌≡◌, ◌≢◌, ◌⊎◌, inl, inr, ℕ, suc, ◌+◌, ◌<◌, ◌==◌, ◌&&◌, Bool, true, false, List, []}
use Rattle.std.proofs.Common.{◌∷◌, ◌++◌, Option, Some, None, ap, arith, refl, sym, subst, ◌∙◌}
use Rattle.std.specs.Prelude.{if◌then◌else◌}
use Rattle.std.proofs.lemmas.Bool.Decides.{eqb_tells}
use Rattle.std.proofs.lemmas.Option.{none-some, same_Some}
use Rattle.amqp_session_frames.specs.declared.frame.Frame.{Frame}
use Rattle.amqp_session_frames.specs.declared.frame.FrameBody.{FrameBody}
use Rattle.amqp_session_frames.specs.declared.frame.FrameBody.TheVariants as body
use Rattle.amqp_session_performatives.specs.declared.begin.Begin.{Begin}
use Rattle.amqp_session_performatives.specs.declared.session_frame.SessionFrame.{SessionFrame}
use Rattle.amqp_session_performatives.specs.declared.session_frame.SessionFrameBody.{SessionFrameBody}
use Rattle.amqp_session_performatives.specs.declared.session_frame.SessionFrameBody.TheVariants as session
use Rattle.amqp_endpoint_laws.specs.Channel.{Awaits, Behind, Turn, Within, begins_sent, begun_behind, goings}
use Rattle.amqp_endpoint_laws.specs.Channel.{is_within, one_sent, sent_on, turn_sent}
use Rattle.amqp_endpoint_laws.specs.Reading.{ByChannel, Comes, Goes, Reader, Wired, begun_here, behind, behind_all}
use Rattle.amqp_endpoint_laws.specs.Reading.{behind_coming, behind_going, goes_for, is_of, nothing_read, own_begins}
use Rattle.amqp_endpoint_laws.specs.Reading.{peer_begins, peer_ends, reaches, read_of, read_on, whose, with_at}
use Rattle.amqp_endpoint_laws.proofs.Rows.{goes}
use Rattle.amqp_endpoint_laws.proofs.Views.{Found, apart, found, here, unless-some}
use Rattle.amqp_endpoint_laws.proofs.Beside.{itself}

-- a number is not another
differs : (o : Option ℕ) (m : ℕ) → o ≢ Some m → is_of o m ≡ false
differs None m ne = refl
differs (Some n) m ne = by (eqb_tells n m)
  where
    by : (((n == m) ≡ true) × (n ≡ m)) ⊎ (((n == m) ≡ false) × (n ≢ m)) → (n == m) ≡ false
    by (inl p) = absurd (ne (ap Some p.1))
    by (inr p) = p.0

-- an entry of a table is the one that was put, or one from before
put-entry : (old : ByChannel) (n : ℕ) (x : Option ℕ) (c : ℕ) → Found old n x (with_at old n x) c
put-entry old n x c = found old n x (with_at old n x) (λ d. refl) c

-- where a part fails the whole does
and-false : (b : Bool) → (b && false) ≡ false
and-false true = refl
and-false false = refl

module _ (m : ℕ) where
  -- the number has been given, and the peer asks for it on no channel: no own Begin is for it any more
  pub record Begun (r : Reader) : Type 0 where
    pub given : m < r.begun
    pub unasked : (c : ℕ) → r.asked c ≢ Some m

  -- what is known of a number behind any frames
  pub record Numbered (r : Reader) : Type 0 where
    pub bound : (c : ℕ) → r.asked c ≡ Some m → m < r.begun
    pub one : (c d : ℕ) → r.asked c ≡ Some m → r.asked d ≡ Some m → c ≡ d
    pub speaking : (c : ℕ) → r.speaks c ≡ Some m → Begun r

  -- where nothing is read nothing has a number
  pub numbered-first : Numbered nothing_read
  numbered-first =
      record {
        bound = λ c e. absurd (none-some m e);
        one = λ c d e f. absurd (none-some m e);
        speaking = λ c e. absurd (none-some m e);
      }

  -- behind its own Begin it has begun
  begins : (o : Option ℕ) (channel : ℕ) (r : Reader) → Numbered r → begun_here r o ≡ Some m
      → Begun (own_begins o channel r)
  begins None channel r k e =
      let same : r.begun ≡ m = same_Some r.begun m e in
      record {
        given = omega (arith, same);
        unasked = λ c a. let lt : m < r.begun = k.bound c a in absurd (omega (arith, same, lt));
      }
  begins (Some named) channel r k e =
      record { given = k.bound named e; unasked = λ c a. by c a (put-entry r.asked named None c) }
    where
      by : (c : ℕ) → with_at r.asked named None c ≡ Some m → Found r.asked named None (with_at r.asked named None) c → ⊥
      by c a (here b eq so) = none-some m (sym so ∙ a)
      by c a (apart b ne so) = ne (k.one c named (sym so ∙ a) e)

  -- and it has behind an own Begin
  begun-own : (o : Option ℕ) (channel : ℕ) (r : Reader) → Begun r → Begun (own_begins o channel r)
  begun-own None channel r g =
      let lt : m < r.begun = g.given in record { given = omega (arith, lt); unasked = g.unasked }
  begun-own (Some named) channel r g =
      record { given = g.given; unasked = λ c a. by c a (put-entry r.asked named None c) }
    where
      by : (c : ℕ) → with_at r.asked named None c ≡ Some m → Found r.asked named None (with_at r.asked named None) c → ⊥
      by c a (here b eq so) = none-some m (sym so ∙ a)
      by c a (apart b ne so) = g.unasked c (sym so ∙ a)

  -- behind the peer's Begin
  begun-begins : (o : Option ℕ) (channel : ℕ) (r : Reader) → Begun r → Begun (peer_begins o channel r)
  begun-begins None channel r g =
      let lt : m < r.begun = g.given in
      record { given = omega (arith, lt); unasked = λ c a. by c a (put-entry r.asked channel (Some r.begun) c) }
    where
      by : (c : ℕ) → with_at r.asked channel (Some r.begun) c ≡ Some m
          → Found r.asked channel (Some r.begun) (with_at r.asked channel (Some r.begun)) c → ⊥
      by c a (here b eq so) =
          let same : r.begun ≡ m = same_Some r.begun m (sym so ∙ a) in
          let lt : m < r.begun = g.given in
          absurd (omega (arith, same, lt))
      by c a (apart b ne so) = g.unasked c (sym so ∙ a)
  begun-begins (Some named) channel r g = record { given = g.given; unasked = g.unasked }

  -- behind its End
  begun-ends : (o : Option ℕ) (r : Reader) → Begun r → Begun (peer_ends o r)
  begun-ends None r g = g
  begun-ends (Some n) r g = record { given = g.given; unasked = λ c a. g.unasked c (unless-some n m (r.asked c) a).0 }

  -- behind whatever comes
  begun-coming : (channel : ℕ) (it : FrameBody) (r : Reader) → Begun r → Begun (behind_coming channel it r)
  begun-coming channel body.Empty r g = g
  begun-coming channel (body.Open opening) r g = g
  begun-coming channel (body.Begin begin) r g = begun-begins begin.remote_channel channel r g
  begun-coming channel (body.Attach attach) r g = g
  begun-coming channel (body.Flow flow) r g = g
  begun-coming channel (body.Transfer transfer payload) r g = g
  begun-coming channel (body.Disposition disposition) r g = g
  begun-coming channel (body.Detach detach) r g = g
  begun-coming channel (body.End end) r g = begun-ends (reaches r channel) r g
  begun-coming channel (body.Close closing) r g = g

  -- behind whatever goes
  begun-going : (channel : ℕ) (it : SessionFrameBody) (r : Reader) → Begun r → Begun (behind_going channel it r)
  begun-going channel (session.Begin begin) r g = begun-own begin.remote_channel channel r g
  begun-going channel (session.Attach attach) r g = g
  begun-going channel (session.Flow flow) r g = g
  begun-going channel (session.Transfer transfer payload) r g = g
  begun-going channel (session.Disposition disposition) r g = g
  begun-going channel (session.Detach detach) r g = g
  begun-going channel (session.End end) r g = g

  -- behind whatever passes
  begun-behind : (it : Wired) (r : Reader) → Begun r → Begun (behind r it)
  begun-behind (Comes frame) r g = begun-coming frame.channel frame.body r g
  begun-behind (Goes frame) r g = begun-going frame.channel frame.body r g

  -- behind them all
  begun-all : (ws : List Wired) (r : Reader) → Begun r → Begun (behind_all r ws)
  begun-all [] r g = g
  begun-all (it ∷ ws) r g = begun-all ws (behind r it) (begun-behind it r g)

  -- so no own Begin is for it
  no-begin : (o : Option ℕ) (r : Reader) → Begun r → begun_here r o ≢ Some m
  no-begin None r g e =
      let same : r.begun ≡ m = same_Some r.begun m e in
      let lt : m < r.begun = g.given in
      absurd (omega (arith, same, lt))
  no-begin (Some named) r g e = g.unasked named e

  -- what is known stays so behind an own Begin
  numbered-own : (o : Option ℕ) (channel : ℕ) (r : Reader) → Numbered r → Numbered (own_begins o channel r)
  numbered-own None channel r k =
      record {
        bound = λ c a. let lt : m < r.begun = k.bound c a in omega (arith, lt);
        one = k.one;
        speaking = λ c s. by c s (put-entry r.speaks channel (Some r.begun) c);
      }
    where
      by : (c : ℕ) → with_at r.speaks channel (Some r.begun) c ≡ Some m
          → Found r.speaks channel (Some r.begun) (with_at r.speaks channel (Some r.begun)) c
          → Begun (own_begins None channel r)
      by c s (here b eq so) = begins None channel r k (sym so ∙ s)
      by c s (apart b ne so) = begun-own None channel r (k.speaking c (sym so ∙ s))
  numbered-own (Some named) channel r k =
      record {
        bound = λ c a. k.bound c (before c a);
        one = λ c d a e. k.one c d (before c a) (before d e);
        speaking = λ c s. by c s (put-entry r.speaks channel (r.asked named) c);
      }
    where
      was : (c : ℕ) → with_at r.asked named None c ≡ Some m
          → Found r.asked named None (with_at r.asked named None) c → r.asked c ≡ Some m
      was c a (here b eq so) = absurd (none-some m (sym so ∙ a))
      was c a (apart b ne so) = sym so ∙ a

      before : (c : ℕ) → with_at r.asked named None c ≡ Some m → r.asked c ≡ Some m
      before c a = was c a (put-entry r.asked named None c)

      by : (c : ℕ) → with_at r.speaks channel (r.asked named) c ≡ Some m
          → Found r.speaks channel (r.asked named) (with_at r.speaks channel (r.asked named)) c
          → Begun (own_begins (Some named) channel r)
      by c s (here b eq so) = begins (Some named) channel r k (sym so ∙ s)
      by c s (apart b ne so) = begun-own (Some named) channel r (k.speaking c (sym so ∙ s))

  -- the peer asks for the next on a channel
  abbrev with_now : Reader → ℕ → ByChannel
  with_now r channel = with_at r.asked channel (Some r.begun)

  -- a channel on which it asks for that, or another
  abbrev Entry : Reader → ℕ → ℕ → Type 0
  Entry r channel c = Found r.asked channel (Some r.begun) (with_now r channel) c

  -- behind the peer's Begin
  numbered-begins : (o : Option ℕ) (channel : ℕ) (r : Reader) → Numbered r → Numbered (peer_begins o channel r)
  numbered-begins None channel r k =
      record {
        bound = λ c a. within c a (entry c);
        one = λ c d a e. same c d a e (entry c) (entry d);
        speaking = λ c s. begun-begins None channel r (k.speaking c s);
      }
    where
      entry : (c : ℕ) → Entry r channel c
      entry c = put-entry r.asked channel (Some r.begun) c

      within : (c : ℕ) → with_now r channel c ≡ Some m → Entry r channel c → m < suc r.begun
      within c a (here b eq so) =
          let is : r.begun ≡ m = same_Some r.begun m (sym so ∙ a) in omega (arith, is)
      within c a (apart b ne so) = let lt : m < r.begun = k.bound c (sym so ∙ a) in omega (arith, lt)

      clash : (c : ℕ) → Some r.begun ≡ Some m → r.asked c ≡ Some m → ⊥
      clash c e a =
          let is : r.begun ≡ m = same_Some r.begun m e in
          let lt : m < r.begun = k.bound c a in
          absurd (omega (arith, is, lt))

      same : (c d : ℕ) → with_now r channel c ≡ Some m → with_now r channel d ≡ Some m → Entry r channel c
          → Entry r channel d → c ≡ d
      same c d a e (here b eq so) (here p is to) = eq ∙ sym is
      same c d a e (here b eq so) (apart p differ to) = absurd (clash d (sym so ∙ a) (sym to ∙ e))
      same c d a e (apart b ne so) (here p is to) = absurd (clash c (sym to ∙ e) (sym so ∙ a))
      same c d a e (apart b ne so) (apart p differ to) = k.one c d (sym so ∙ a) (sym to ∙ e)
  numbered-begins (Some named) channel r k =
      record {
        bound = k.bound;
        one = k.one;
        speaking = λ c s. begun-begins (Some named) channel r (k.speaking c s);
      }

  -- behind its End
  numbered-ends : (o : Option ℕ) (r : Reader) → Numbered r → Numbered (peer_ends o r)
  numbered-ends None r k = k
  numbered-ends (Some n) r k =
      record {
        bound = λ c a. k.bound c (unless-some n m (r.asked c) a).0;
        one = λ c d a e. k.one c d (unless-some n m (r.asked c) a).0 (unless-some n m (r.asked d) e).0;
        speaking = λ c s. begun-ends (Some n) r (k.speaking c s);
      }

  -- behind whatever comes
  numbered-coming : (channel : ℕ) (it : FrameBody) (r : Reader) → Numbered r → Numbered (behind_coming channel it r)
  numbered-coming channel body.Empty r k = k
  numbered-coming channel (body.Open opening) r k = k
  numbered-coming channel (body.Begin begin) r k = numbered-begins begin.remote_channel channel r k
  numbered-coming channel (body.Attach attach) r k = k
  numbered-coming channel (body.Flow flow) r k = k
  numbered-coming channel (body.Transfer transfer payload) r k = k
  numbered-coming channel (body.Disposition disposition) r k = k
  numbered-coming channel (body.Detach detach) r k = k
  numbered-coming channel (body.End end) r k = numbered-ends (reaches r channel) r k
  numbered-coming channel (body.Close closing) r k = k

  -- behind whatever goes
  numbered-going : (channel : ℕ) (it : SessionFrameBody) (r : Reader) → Numbered r
      → Numbered (behind_going channel it r)
  numbered-going channel (session.Begin begin) r k = numbered-own begin.remote_channel channel r k
  numbered-going channel (session.Attach attach) r k = k
  numbered-going channel (session.Flow flow) r k = k
  numbered-going channel (session.Transfer transfer payload) r k = k
  numbered-going channel (session.Disposition disposition) r k = k
  numbered-going channel (session.Detach detach) r k = k
  numbered-going channel (session.End end) r k = k

  -- before its own Begin no frame that goes is its
  not-begun : (channel : ℕ) (it : SessionFrameBody) (r : Reader) → Numbered r
      → (Begun (behind_going channel it r) → ⊥) → goes_for r channel it ≢ Some m
  not-begun channel (session.Begin begin) r k never e = never (begins begin.remote_channel channel r k e)
  not-begun channel (session.Attach attach) r k never e = never (k.speaking channel e)
  not-begun channel (session.Flow flow) r k never e = never (k.speaking channel e)
  not-begun channel (session.Transfer transfer payload) r k never e = never (k.speaking channel e)
  not-begun channel (session.Disposition disposition) r k never e = never (k.speaking channel e)
  not-begun channel (session.Detach detach) r k never e = never (k.speaking channel e)
  not-begun channel (session.End end) r k never e = never (k.speaking channel e)

  -- where each session speaks behind an own Begin
  spoken-own : (o : Option ℕ) (channel : ℕ) (r : Reader) (c : ℕ)
      → (own_begins o channel r).speaks c ≡ with_at r.speaks channel (begun_here r o) c
  spoken-own None channel r c = refl
  spoken-own (Some named) channel r c = refl

  -- behind the peer's Begin
  spoken-begins : (o : Option ℕ) (channel : ℕ) (r : Reader) (c : ℕ) → (peer_begins o channel r).speaks c ≡ r.speaks c
  spoken-begins None channel r c = refl
  spoken-begins (Some named) channel r c = refl

  -- behind its End
  spoken-ends : (o : Option ℕ) (r : Reader) (c : ℕ) → (peer_ends o r).speaks c ≡ r.speaks c
  spoken-ends None r c = refl
  spoken-ends (Some n) r c = refl

  -- behind whatever comes each speaks where it did
  spoken-coming : (channel : ℕ) (it : FrameBody) (r : Reader) (c : ℕ)
      → (behind_coming channel it r).speaks c ≡ r.speaks c
  spoken-coming channel body.Empty r c = refl
  spoken-coming channel (body.Open opening) r c = refl
  spoken-coming channel (body.Begin begin) r c = spoken-begins begin.remote_channel channel r c
  spoken-coming channel (body.Attach attach) r c = refl
  spoken-coming channel (body.Flow flow) r c = refl
  spoken-coming channel (body.Transfer transfer payload) r c = refl
  spoken-coming channel (body.Disposition disposition) r c = refl
  spoken-coming channel (body.Detach detach) r c = refl
  spoken-coming channel (body.End end) r c = spoken-ends (reaches r channel) r c
  spoken-coming channel (body.Close closing) r c = refl

  -- a frame that comes isn't one that goes
  none-goes : (b : Bool) (frame : Frame) (ws : List Wired)
      → goings ((if b then Comes frame ∷ [] else []) ++ ws) ≡ goings ws
  none-goes true frame ws = refl
  none-goes false frame ws = refl

  -- one that goes is, if it is read
  one-goes : (b : Bool) (frame : SessionFrame) (ws : List Wired)
      → goings ((if b then Goes frame ∷ [] else []) ++ ws) ≡ (if b then frame ∷ [] else []) ++ goings ws
  one-goes true frame ws = refl
  one-goes false frame ws = refl

  module _ (channel : ℕ) where
    -- where the turn stands behind a frame that goes
    abbrev next : Turn → ℕ → SessionFrameBody → Turn
    next turn c it = if c == channel then turn_sent turn it else turn

    -- the session speaks on this channel alone, in its turn
    abbrev SpeaksIn : Turn → Reader → Type 0
    SpeaksIn turn r = (c : ℕ) → is_of (r.speaks c) m ≡ (c == channel && is_within turn)

    -- behind a Begin, if it is on the channel
    abbrev turned : Turn → Bool → Turn
    turned turn b = if b then begun_behind turn else turn

    -- behind an own Begin of another session
    begins-other : (turn : Turn) (o : Option ℕ) (c : ℕ) (r : Reader) → begun_behind turn ≡ Behind → Begun r
        → SpeaksIn turn r → SpeaksIn (turned turn (c == channel)) (own_begins o c r)
    begins-other turn o c r over g speaks d =
        ap (λ (x : Option ℕ). is_of x m) (spoken-own o c r d)
        ∙ by (put-entry r.speaks c (begun_here r o) d) (eqb_tells c channel) (eqb_tells d channel)
      where
        by : Found r.speaks c (begun_here r o) (with_at r.speaks c (begun_here r o)) d
            → (((c == channel) ≡ true) × (c ≡ channel)) ⊎ (((c == channel) ≡ false) × (c ≢ channel))
            → (((d == channel) ≡ true) × (d ≡ channel)) ⊎ (((d == channel) ≡ false) × (d ≢ channel))
            → is_of (with_at r.speaks c (begun_here r o) d) m ≡ (d == channel && is_within (turned turn (c == channel)))
        by (here b eq so) (inl p) q =
            ap (λ (x : Option ℕ). is_of x m) so ∙ differs (begun_here r o) m (no-begin o r g)
            ∙ sym (ap (λ (t : Bool). d == channel && is_within (turned turn t)) p.0
            ∙ ap (λ (t : Turn). d == channel && is_within t) over ∙ and-false (d == channel))
        by (here b eq so) (inr p) (inl q) = absurd (p.1 (sym eq ∙ q.1))
        by (here b eq so) (inr p) (inr q) =
            ap (λ (x : Option ℕ). is_of x m) so ∙ differs (begun_here r o) m (no-begin o r g)
            ∙ sym (ap (λ (t : Bool). t && is_within (turned turn (c == channel))) q.0)
        by (apart b ne so) (inl p) (inl q) = absurd (ne (q.1 ∙ sym p.1))
        by (apart b ne so) (inl p) (inr q) =
            ap (λ (x : Option ℕ). is_of x m) so ∙ speaks d ∙ ap (λ (t : Bool). t && is_within turn) q.0
            ∙ sym (ap (λ (t : Bool). t && is_within (turned turn (c == channel))) q.0)
        by (apart b ne so) (inr p) q =
            ap (λ (x : Option ℕ). is_of x m) so ∙ speaks d
            ∙ sym (ap (λ (t : Bool). d == channel && is_within (turned turn t)) p.0)

    -- a Begin that goes then is not its
    begin-read : (turn : Turn) (o : Option ℕ) (c : ℕ) (r : Reader) → begun_behind turn ≡ Behind → Begun r
        → is_of (begun_here r o) m
        ≡ (c == channel && is_within (turned turn (c == channel)))
    begin-read turn o c r over g = differs (begun_here r o) m (no-begin o r g) ∙ sym (by (c == channel))
      where
        by : (b : Bool) → (b && is_within (turned turn b)) ≡ false
        by true = ap is_within over
        by false = refl

    -- a turn that doesn't change
    either : (turn : Turn) (b : Bool) → (if b then turn else turn) ≡ turn
    either turn true = refl
    either turn false = refl

    -- the session's Begin is over still
    begun-over : (turn : Turn) (b : Bool) → begun_behind turn ≡ Behind
        → begun_behind (turned turn b) ≡ Behind
    begun-over turn true over = ap begun_behind over
    begun-over turn false over = over

    -- whether a frame that goes from its own Begin on is its, and what is known behind it
    pub record Read (turn : Turn) (c : ℕ) (it : SessionFrameBody) (r : Reader) : Type 0 where
      pub its : is_of (goes_for r c it) m ≡ (c == channel && is_within (next turn c it))
      pub speaks : SpeaksIn (next turn c it) (behind_going c it r)
      pub over : begun_behind (next turn c it) ≡ Behind

    -- the same of a frame that is no Begin
    abbrev Plain : Turn → ℕ → Reader → Turn → Type 0
    Plain turn c r now =
        (is_of (r.speaks c) m ≡ (c == channel && is_within now)) × SpeaksIn now r × (begun_behind now ≡ Behind)

    -- such a frame changes nothing
    plain : (turn : Turn) (c : ℕ) (r : Reader) → begun_behind turn ≡ Behind → SpeaksIn turn r
        → Plain turn c r (if c == channel then turn else turn)
    plain turn c r over speaks =
        subst (λ (t : Turn). Plain turn c r t) (sym (either turn (c == channel))) (speaks c, speaks, over)

    -- each frame that goes from its own Begin on
    read : (turn : Turn) (c : ℕ) (it : SessionFrameBody) (r : Reader) → begun_behind turn ≡ Behind → Begun r
        → SpeaksIn turn r → Read turn c it r
    read turn c (session.Begin begin) r over g speaks =
        record {
          its = begin-read turn begin.remote_channel c r over g;
          speaks = begins-other turn begin.remote_channel c r over g speaks;
          over = begun-over turn (c == channel) over;
        }
    read turn c (session.Attach attach) r over g speaks =
        let p = plain turn c r over speaks in record { its = p.0; speaks = p.1; over = p.2 }
    read turn c (session.Flow flow) r over g speaks =
        let p = plain turn c r over speaks in record { its = p.0; speaks = p.1; over = p.2 }
    read turn c (session.Transfer transfer payload) r over g speaks =
        let p = plain turn c r over speaks in record { its = p.0; speaks = p.1; over = p.2 }
    read turn c (session.Disposition disposition) r over g speaks =
        let p = plain turn c r over speaks in record { its = p.0; speaks = p.1; over = p.2 }
    read turn c (session.Detach detach) r over g speaks =
        let p = plain turn c r over speaks in record { its = p.0; speaks = p.1; over = p.2 }
    read turn c (session.End end) r over g speaks =
        let p = plain turn c r over speaks in record { its = p.0; speaks = p.1; over = p.2 }

    -- behind its own Begin
    later-read : (turn : Turn) (ws : List Wired) (r : Reader) → begun_behind turn ≡ Behind → Begun r → SpeaksIn turn r
        → goings (read_on m r ws) ≡ sent_on channel turn (goings ws)
    later-read turn [] r over g speaks = refl
    later-read turn (Comes frame ∷ ws) r over g speaks =
        none-goes (is_of (whose r (Comes frame)) m) frame (read_on m (behind r (Comes frame)) ws)
        ∙ later-read turn ws (behind r (Comes frame)) over (begun-coming frame.channel frame.body r g)
        (λ c. ap (λ (x : Option ℕ). is_of x m) (spoken-coming frame.channel frame.body r c) ∙ speaks c)
    later-read turn (Goes frame ∷ ws) r over g speaks =
        let it = read turn frame.channel frame.body r over g speaks in
        one-goes (is_of (goes_for r frame.channel frame.body) m) frame (read_on m (behind r (Goes frame)) ws)
        ∙ ap (λ (b : Bool). (if b then frame ∷ [] else []) ++ goings (read_on m (behind r (Goes frame)) ws)) it.its
        ∙ ap
        (λ (fs : List SessionFrame).
        (if frame.channel == channel && is_within (next turn frame.channel frame.body) then frame ∷ [] else []) ++ fs)
        (later-read (next turn frame.channel frame.body) ws (behind r (Goes frame)) it.over
        (begun-going frame.channel frame.body r g) it.speaks)

    -- where each session speaks behind its own Begin
    abbrev with_own : Reader → Begin → ByChannel
    with_own r begin = with_at r.speaks channel (begun_here r begin.remote_channel)

    -- its own Begin
    own-read : (begin : Begin) (later : List Wired) (r : Reader) → Numbered r
        → begun_here r begin.remote_channel ≡ Some m
        → goings (read_on m r (goes channel (session.Begin begin) ∷ later))
        ≡ sent_on channel (Awaits 0) (goings (goes channel (session.Begin begin) ∷ later))
    own-read begin later r k e =
        let frame : SessionFrame = record { channel = channel; body = session.Begin begin } in
        let after : Reader = own_begins begin.remote_channel channel r in
        one-goes (is_of (begun_here r begin.remote_channel) m) frame (read_on m after later)
        ∙ ap (λ (b : Bool). (if b then frame ∷ [] else []) ++ goings (read_on m after later))
        (ap (λ (x : Option ℕ). is_of x m) e ∙ itself m)
        ∙ ap (λ (fs : List SessionFrame). frame ∷ fs)
        (later-read Within later after refl (begins begin.remote_channel channel r k e) here-alone)
        ∙ sym
        (ap
        (λ (b : Bool).
        (if b && is_within (if b then Within else Awaits 0) then frame ∷ [] else [])
        ++ sent_on channel (if b then Within else Awaits 0) (goings later))
        (itself channel))
      where
        silent : (c : ℕ) → r.speaks c ≢ Some m
        silent c s = no-begin begin.remote_channel r (k.speaking c s) e

        by : (c : ℕ) → Found r.speaks channel (begun_here r begin.remote_channel) (with_own r begin) c
            → is_of (with_own r begin c) m ≡ (c == channel && true)
        by c (here b eq so) =
            ap (λ (x : Option ℕ). is_of x m) (so ∙ e) ∙ itself m ∙ sym (ap (λ (t : Bool). t && true) b)
        by c (apart b ne so) =
            ap (λ (x : Option ℕ). is_of x m) so ∙ differs (r.speaks c) m (silent c)
            ∙ sym (ap (λ (t : Bool). t && true) b)

        here-alone : SpeaksIn Within (own_begins begin.remote_channel channel r)
        here-alone c =
            ap (λ (x : Option ℕ). is_of x m) (spoken-own begin.remote_channel channel r c)
            ∙ by c (put-entry r.speaks channel (begun_here r begin.remote_channel) c)

    -- each Begin that goes before it on the channel is counted
    counted : (c : ℕ) (it : SessionFrameBody) (others : ℕ)
        → next (Awaits ((if c == channel then one_sent it else 0) + others)) c it ≡ Awaits others
    counted c it others = by (c == channel) it
      where
        by : (b : Bool) (it : SessionFrameBody)
            → (if b then turn_sent (Awaits ((if b then one_sent it else 0) + others)) it
            else Awaits ((if b then one_sent it else 0) + others))
            ≡ Awaits others
        by false it = ap Awaits (omega arith)
        by true (session.Begin begin) =
            ap (λ (n : ℕ). begun_behind (Awaits n)) (let is : 1 + others ≡ suc others = omega arith in is)
        by true (session.Attach attach) = ap Awaits (omega arith)
        by true (session.Flow flow) = ap Awaits (omega arith)
        by true (session.Transfer transfer payload) = ap Awaits (omega arith)
        by true (session.Disposition disposition) = ap Awaits (omega arith)
        by true (session.Detach detach) = ap Awaits (omega arith)
        by true (session.End end) = ap Awaits (omega arith)

    -- and no frame that goes before it is its
    first-read : (first rest : List Wired) (o : Option ℕ) (r : Reader) → Numbered r
        → begun_here (behind_all r first) o ≡ Some m
        → ((q : Reader) → Numbered q → begun_here q o ≡ Some m
        → goings (read_on m q rest) ≡ sent_on channel (Awaits 0) (goings rest))
        → goings (read_on m r (first ++ rest))
        ≡ sent_on channel (Awaits (begins_sent channel (goings first))) (goings (first ++ rest))
    first-read [] rest o r k e onward = onward r k e
    first-read (Comes frame ∷ first) rest o r k e onward =
        none-goes (is_of (whose r (Comes frame)) m) frame (read_on m (behind r (Comes frame)) (first ++ rest))
        ∙ first-read first rest o (behind r (Comes frame)) (numbered-coming frame.channel frame.body r k) e onward
    first-read (Goes frame ∷ first) rest o r k e onward =
        let after : Reader = behind r (Goes frame) in
        let others : ℕ = begins_sent channel (goings first) in
        one-goes (is_of (goes_for r frame.channel frame.body) m) frame (read_on m after (first ++ rest))
        ∙ ap (λ (b : Bool). (if b then frame ∷ [] else []) ++ goings (read_on m after (first ++ rest)))
        (differs (goes_for r frame.channel frame.body) m
        (not-begun frame.channel frame.body r k (λ g. no-begin o (behind_all after first) (begun-all first after g) e)))
        ∙ first-read first rest o after (numbered-going frame.channel frame.body r k) e onward
        ∙ sym
        (ap
        (λ (t : Turn).
        (if frame.channel == channel && is_within t then frame ∷ [] else [])
        ++ sent_on channel t (goings (first ++ rest)))
        (counted frame.channel frame.body others)
        ∙ ap
        (λ (b : Bool).
        (if b then frame ∷ [] else []) ++ sent_on channel (Awaits others) (goings (first ++ rest)))
        (and-false (frame.channel == channel)))

    -- a frame that goes
    abbrev frame_of : ℕ → SessionFrameBody → SessionFrame
    frame_of c said = record { channel = c; body = said }

    -- what goes in the session is read off the channel and the count
    pub going-read : (first later : List Wired) (frame : SessionFrame) (begin : Begin) → frame.channel ≡ channel
        → frame.body ≡ session.Begin begin
        → begun_here (behind_all nothing_read first) begin.remote_channel ≡ Some m
        → goings (read_of m (first ++ Goes frame ∷ later))
        ≡ sent_on channel (Awaits (begins_sent channel (goings first))) (goings (first ++ Goes frame ∷ later))
    going-read first later frame begin on is e =
        subst
        (λ (f : SessionFrame). goings (read_of m (first ++ Goes f ∷ later))
        ≡ sent_on channel (Awaits (begins_sent channel (goings first))) (goings (first ++ Goes f ∷ later)))
        (sym it)
        (first-read first (goes channel (session.Begin begin) ∷ later) begin.remote_channel nothing_read numbered-first
        e (λ q k e. own-read begin later q k e))
      where
        it : frame ≡ frame_of channel (session.Begin begin)
        it =
            ap (λ (c : ℕ). frame_of c frame.body) on ∙ ap (λ (b : SessionFrameBody). frame_of channel b) is
