-- The frames that come in one session are read off the channel on which they come.
use Rattle.std.proofs.Common.{◌≡◌, ◌≢◌, ◌⊎◌, inl, inr, ℕ, suc, ◌+◌, ◌==◌, ◌&&◌, Bool, true, false, List, []}
use Rattle.std.proofs.Common.{◌∷◌, ◌++◌, Option, Some, None, IsSome, ap, arith, is_some, refl, sym, subst, ◌∙◌}
use Rattle.std.proofs.Common.{true≢false}
use Rattle.std.specs.Prelude.{if◌then◌else◌}
use Rattle.std.proofs.lemmas.Bool.Decides.{eqb_tells}
use Rattle.std.proofs.lemmas.Option.{none-some}
use Rattle.amqp_session_frames.specs.declared.frame.Frame.{Frame}
use Rattle.amqp_session_frames.specs.declared.frame.FrameBody.{FrameBody}
use Rattle.amqp_session_frames.specs.declared.frame.FrameBody.TheVariants as body
use Rattle.amqp_session_performatives.specs.declared.begin.Begin.{Begin}
use Rattle.amqp_session_performatives.specs.declared.session_frame.SessionFrame.{SessionFrame}
use Rattle.amqp_session_performatives.specs.declared.session_frame.SessionFrameBody.{SessionFrameBody}
use Rattle.amqp_session_performatives.specs.declared.session_frame.SessionFrameBody.TheVariants as session
use Rattle.amqp_endpoint_tables.specs.State.{first_of}
use Rattle.amqp_endpoint_laws.specs.Reading.{ByChannel, Comes, Goes, Reader, Wired, begun_here}
use Rattle.amqp_endpoint_laws.specs.Reading.{begun_there, behind, behind_all}
use Rattle.amqp_endpoint_laws.specs.Reading.{behind_coming, behind_going, comes_for, is_of, nothing_read, own_begins}
use Rattle.amqp_endpoint_laws.specs.Reading.{peer_begins, peer_ends, reaches, read_of, read_on, unless_it, whose}
use Rattle.amqp_endpoint_laws.specs.Reading.{with_at}
use Rattle.amqp_endpoint_laws.specs.Channel.{AllAnswer, AnswersAsked, Awaits, Behind, ByTurns, MayCome, NoneBegins}
use Rattle.amqp_endpoint_laws.specs.Channel.{OtherBegin, Turn, Within, begins_come, come_on, comings, is_its}
use Rattle.amqp_endpoint_laws.specs.Channel.{is_open, one_come, turn_come}
use Rattle.amqp_endpoint_laws.proofs.Views.{unless-other, unless-same, unless-some}

-- what a test on two numbers tells
abbrev Told : ℕ → ℕ → Type 0
Told a b = (((a == b) ≡ true) × (a ≡ b)) ⊎ (((a == b) ≡ false) × (a ≢ b))

-- an entry of a table is the new one
at-here : (t : ByChannel) (n d : ℕ) (x : Option ℕ) → d ≡ n → with_at t n x d ≡ x
at-here t n d x same = by (eqb_tells d n)
  where
    by : Told d n → (if d == n then x else t d) ≡ x
    by (inl p) = ap (λ (b : Bool). if b then x else t d) p.0
    by (inr p) = absurd (p.1 same)

-- or as before
at-apart : (t : ByChannel) (n d : ℕ) (x : Option ℕ) → d ≢ n → with_at t n x d ≡ t d
at-apart t n d x ne = by (eqb_tells d n)
  where
    by : Told d n → (if d == n then x else t d) ≡ t d
    by (inl p) = absurd (ne p.1)
    by (inr p) = ap (λ (b : Bool). if b then x else t d) p.0

-- a number is itself
itself : (n : ℕ) → (n == n) ≡ true
itself n = by (eqb_tells n n)
  where
    by : Told n n → (n == n) ≡ true
    by (inl p) = p.0
    by (inr p) = absurd (p.1 refl)

-- one that goes isn't among those that come
goes-left : (b : Bool) (frame : SessionFrame) (more : List Wired)
    → comings ((if b then Goes frame ∷ [] else []) ++ more) ≡ comings more
goes-left true frame more = refl
goes-left false frame more = refl

-- one that comes is, at both
comes-both : (b a : Bool) (frame : Frame) (more : List Wired) (others : List Frame) → b ≡ a → comings more ≡ others
    → comings ((if b then Comes frame ∷ [] else []) ++ more) ≡ (if a then frame ∷ [] else []) ++ others
comes-both b a frame more others is same =
    by b ∙ ap (λ (x : Bool). (if x then frame ∷ [] else []) ++ comings more) is
    ∙ ap (λ (fs : List Frame). (if a then frame ∷ [] else []) ++ fs) same
  where
    by : (b : Bool) → comings ((if b then Comes frame ∷ [] else []) ++ more)
        ≡ (if b then frame ∷ [] else []) ++ comings more
    by true = refl
    by false = refl

-- behind the session's End no frame is its
behind-none : (it : FrameBody) → is_its Behind it ≡ false
behind-none body.Empty = refl
behind-none (body.Open opening) = refl
behind-none (body.Close closing) = refl
behind-none (body.Begin begin) = refl
behind-none (body.Attach attach) = refl
behind-none (body.Flow flow) = refl
behind-none (body.Transfer transfer payload) = refl
behind-none (body.Disposition disposition) = refl
behind-none (body.Detach detach) = refl
behind-none (body.End end) = refl

-- and nothing changes any more
behind-stays : (it : FrameBody) → turn_come Behind it ≡ Behind
behind-stays body.Empty = refl
behind-stays (body.Open opening) = refl
behind-stays (body.Close closing) = refl
behind-stays (body.Begin begin) = refl
behind-stays (body.Attach attach) = refl
behind-stays (body.Flow flow) = refl
behind-stays (body.Transfer transfer payload) = refl
behind-stays (body.Disposition disposition) = refl
behind-stays (body.Detach detach) = refl
behind-stays (body.End end) = refl

-- one is added
one-more : (n : ℕ) → 1 + n ≡ suc n
one-more n = omega arith

-- or none
none-more : (n : ℕ) → 0 + n ≡ n
none-more n = omega arith

-- before its Begin none is
awaits-none : (n : ℕ) (it : FrameBody) → is_its (Awaits (one_come it + n)) it ≡ false
awaits-none n body.Empty = refl
awaits-none n (body.Open opening) = refl
awaits-none n (body.Close closing) = refl
awaits-none n (body.Begin begin) =
    ap (λ (m : ℕ). is_its (Awaits m) (body.Begin begin)) (one-more n)
awaits-none n (body.Attach attach) = refl
awaits-none n (body.Flow flow) = refl
awaits-none n (body.Transfer transfer payload) = refl
awaits-none n (body.Disposition disposition) = refl
awaits-none n (body.Detach detach) = refl
awaits-none n (body.End end) = refl

-- and a Begin is counted
awaits-on : (n : ℕ) (it : FrameBody) → turn_come (Awaits (one_come it + n)) it ≡ Awaits n
awaits-on n body.Empty = ap Awaits (none-more n)
awaits-on n (body.Open opening) = ap Awaits (none-more n)
awaits-on n (body.Close closing) = ap Awaits (none-more n)
awaits-on n (body.Begin begin) = ap (λ (m : ℕ). turn_come (Awaits m) (body.Begin begin)) (one-more n)
awaits-on n (body.Attach attach) = ap Awaits (none-more n)
awaits-on n (body.Flow flow) = ap Awaits (none-more n)
awaits-on n (body.Transfer transfer payload) = ap Awaits (none-more n)
awaits-on n (body.Disposition disposition) = ap Awaits (none-more n)
awaits-on n (body.Detach detach) = ap Awaits (none-more n)
awaits-on n (body.End end) = ap Awaits (none-more n)

-- the count of Begins on a channel goes down by the one that comes
module _ (d c n : ℕ) (it : FrameBody) where
  abbrev Counted : Turn
  Counted = Awaits ((if d == c then one_come it else 0) + n)

  -- none is its
  counted-none : (d == c && is_its Counted it) ≡ false
  counted-none = by (d == c)
    where
      by : (b : Bool) → (b && is_its (Awaits ((if b then one_come it else 0) + n)) it) ≡ false
      by true = awaits-none n it
      by false = refl

  -- and so many come before its own then
  counted-on : (if d == c then turn_come Counted it else Counted) ≡ Awaits n
  counted-on = by (d == c)
    where
      by : (b : Bool) → (if b then turn_come (Awaits ((if b then one_come it else 0) + n)) it
          else Awaits ((if b then one_come it else 0) + n)) ≡ Awaits n
      by true = awaits-on n it
      by false = ap Awaits (none-more n)

  -- over there none is its either
  passed-none : (d == c && is_its Behind it) ≡ false
  passed-none = by (d == c)
    where
      by : (b : Bool) → (b && is_its Behind it) ≡ false
      by true = behind-none it
      by false = refl

  -- and it stays over
  passed-on : (if d == c then turn_come Behind it else Behind) ≡ Behind
  passed-on = by (d == c)
    where
      by : (b : Bool) → (if b then turn_come Behind it else Behind) ≡ Behind
      by true = behind-stays it
      by false = refl

module _ (k : ℕ) where
  -- it isn't this session
  abbrev Not : Option ℕ → Type 0
  Not o = o ≢ Some k

  -- nor is none
  none-not : Not None
  none-not e = none-some k e

  -- a frame of another, or of none, isn't its
  is-not : (o : Option ℕ) → Not o → is_of o k ≡ false
  is-not None ne = refl
  is-not (Some m) ne = by (eqb_tells m k)
    where
      by : Told m k → (m == k) ≡ false
      by (inl p) = absurd (ne (ap Some p.1))
      by (inr p) = p.0

  -- its own is
  is-this : (o : Option ℕ) → o ≡ Some k → is_of o k ≡ true
  is-this o e = ap (λ (x : Option ℕ). is_of x k) e ∙ itself k

  -- of two that it isn't it is neither
  either-not : (b : Bool) (x y : Option ℕ) → Not x → Not y → Not (if b then x else y)
  either-not true x y one other = one
  either-not false x y one other = other

  -- nor the first of the two
  first-not : (l a : Option ℕ) → Not l → Not a → Not (first_of l a)
  first-not None a one other = other
  first-not (Some m) a one other = one

  -- nor what is left of one as a session is over
  unless-not : (m : ℕ) (o : Option ℕ) → Not o → Not (unless_it m o)
  unless-not m o ne e = ne (unless-some m k o e).0

  -- it is none that a channel of the peer's leads to, or for which the peer asks there
  abbrev NotOn : Reader → ℕ → Type 0
  NotOn r d = Not (r.led d) × Not (r.asked d)

  -- on no channel
  abbrev Nowhere : Reader → Type 0
  Nowhere r = (d : ℕ) → NotOn r d

  -- nor does one reach it there
  reaches-not : (r : Reader) (d : ℕ) → NotOn r d → Not (reaches r d)
  reaches-not r d (one, other) = first-not (r.led d) (r.asked d) one other

  -- so a frame there is another's
  for-not : (r : Reader) (d : ℕ) (it : FrameBody) → Not (reaches r d) → OtherBegin k r it → Not (comes_for r d it)
  for-not r d body.Empty ne other = none-not
  for-not r d (body.Open opening) ne other = none-not
  for-not r d (body.Close closing) ne other = none-not
  for-not r d (body.Begin begin) ne other = other
  for-not r d (body.Attach attach) ne other = ne
  for-not r d (body.Flow flow) ne other = ne
  for-not r d (body.Transfer transfer payload) ne other = ne
  for-not r d (body.Disposition disposition) ne other = ne
  for-not r d (body.Detach detach) ne other = ne
  for-not r d (body.End end) ne other = ne

  -- where it isn't it comes in neither by a Begin for another session nor by an End
  peer-not : (r : Reader) (d : ℕ) (remote : Option ℕ) → Not (begun_there r remote) → (e : ℕ) → NotOn r e
      → NotOn (peer_begins remote d r) e
  peer-not r d None ne e (one, other) = (one, either-not (e == d) (Some r.begun) (r.asked e) ne other)
  peer-not r d (Some named) ne e (one, other) = (either-not (e == d) (r.own named) (r.led e) ne one, other)

  -- since an End only takes away
  ends-not : (r : Reader) (o : Option ℕ) (e : ℕ) → NotOn r e → NotOn (peer_ends o r) e
  ends-not r None e s = s
  ends-not r (Some m) e (one, other) = (unless-not m (r.led e) one, unless-not m (r.asked e) other)

  -- nor by whatever comes
  come-not : (r : Reader) (d : ℕ) (it : FrameBody) → OtherBegin k r it → (e : ℕ) → NotOn r e
      → NotOn (behind_coming d it r) e
  come-not r d body.Empty other e s = s
  come-not r d (body.Open opening) other e s = s
  come-not r d (body.Close closing) other e s = s
  come-not r d (body.Begin begin) other e s = peer-not r d begin.remote_channel other e s
  come-not r d (body.Attach attach) other e s = s
  come-not r d (body.Flow flow) other e s = s
  come-not r d (body.Transfer transfer payload) other e s = s
  come-not r d (body.Disposition disposition) other e s = s
  come-not r d (body.Detach detach) other e s = s
  come-not r d (body.End end) other e s = ends-not r (reaches r d) e s

  -- an own Begin only moves what is there
  own-nowhere : (r : Reader) (d : ℕ) (remote : Option ℕ) → Nowhere r → Nowhere (own_begins remote d r)
  own-nowhere r d None s e = s e
  own-nowhere r d (Some named) s e = (
    either-not (e == named) (r.asked named) (r.led e) (s named).1 (s e).0,
    either-not (e == named) None (r.asked e) none-not (s e).1,
  )

  -- and so does whatever goes
  goes-nowhere : (r : Reader) (d : ℕ) (it : SessionFrameBody) → Nowhere r → Nowhere (behind_going d it r)
  goes-nowhere r d (session.Begin begin) s = own-nowhere r d begin.remote_channel s
  goes-nowhere r d (session.Attach attach) s = s
  goes-nowhere r d (session.Flow flow) s = s
  goes-nowhere r d (session.Transfer transfer payload) s = s
  goes-nowhere r d (session.Disposition disposition) s = s
  goes-nowhere r d (session.Detach detach) s = s
  goes-nowhere r d (session.End end) s = s

  -- behind the End of the session's none is its
  pub all-behind : (c : ℕ) (later : List Wired) (r : Reader) → Nowhere r → NoneBegins k r later
      → comings (read_on k r later) ≡ come_on c Behind (comings later)
  all-behind c [] r s none = refl
  all-behind c (Goes frame ∷ later) r s none =
      goes-left (is_of (whose r (Goes frame)) k) frame (read_on k (behind r (Goes frame)) later)
      ∙ all-behind c later (behind r (Goes frame)) (goes-nowhere r frame.channel frame.body s) none.1
  all-behind c (Comes frame ∷ later) r s none =
      let d = frame.channel in
      let it = frame.body in
      comes-both (is_of (comes_for r d it) k) (d == c && is_its Behind it) frame
      (read_on k (behind r (Comes frame)) later)
      (come_on c (if d == c then turn_come Behind it else Behind) (comings later))
      (is-not (comes_for r d it) (for-not r d it (reaches-not r d (s d)) none.0) ∙ sym (passed-none d c 0 it))
      (all-behind c later (behind r (Comes frame)) (λ e. come-not r d it none.0 e (s e)) none.1
      ∙ sym (ap (λ (t : Turn). come_on c t (comings later)) (passed-on d c 0 it)))

  -- the channel: while no session is open there, it leads to none and none is asked for there, and else one of the two
  -- at most stands there
  module _ (c : ℕ) where
    abbrev Turned : Bool → Reader → Type 0
    Turned false r = (r.led c ≡ None) × (r.asked c ≡ None)
    Turned true r = (r.led c ≡ None) ⊎ (r.asked c ≡ None)

    -- at most one of the two, whether or not a session is open
    turned-one : (on : Bool) (r : Reader) → Turned on r → Turned true r
    turned-one false r t = inl t.0
    turned-one true r t = t

    -- what has nothing there stays so
    turned-kept : (on : Bool) (r q : Reader) → (r.led c ≡ None → q.led c ≡ None)
        → (r.asked c ≡ None → q.asked c ≡ None) → Turned on r → Turned on q
    turned-kept false r q led asked (l, a) = (led l, asked a)
    turned-kept true r q led asked (inl l) = inl (led l)
    turned-kept true r q led asked (inr a) = inr (asked a)

    -- a Begin there
    begin-here : (d : ℕ) (remote : Option ℕ) (r : Reader) → Turned false r → Turned true (peer_begins remote d r)
    begin-here d None r t = inl t.0
    begin-here d (Some named) r t = inr t.1

    -- or elsewhere
    begin-apart : (d : ℕ) → c ≢ d → (remote : Option ℕ) (on : Bool) (r : Reader) → Turned on r
        → Turned on (peer_begins remote d r)
    begin-apart d ne None on r t =
        turned-kept on r (peer_begins None d r) (λ l. l) (λ a. at-apart r.asked d c (Some r.begun) ne ∙ a) t
    begin-apart d ne (Some named) on r t =
        turned-kept on r (peer_begins (Some named) d r) (λ l. at-apart r.led d c (r.own named) ne ∙ l) (λ a. a) t

    -- an End there
    end-here : (r : Reader) → Turned true r → Turned false (peer_ends (reaches r c) r)
    end-here r t = by (r.led c) (r.asked c) refl refl t
      where
        by : (l a : Option ℕ) → r.led c ≡ l → r.asked c ≡ a → Turned true r → Turned false (peer_ends (first_of l a) r)
        by None None led asked t = (led, asked)
        by None (Some m) led asked t = (ap (unless_it m) led, ap (unless_it m) asked ∙ unless-same m)
        by (Some m) a led asked (inl l) = absurd (none-some m (sym l ∙ led))
        by (Some m) a led asked (inr n) = (ap (unless_it m) led ∙ unless-same m, ap (unless_it m) n)

    -- or elsewhere
    end-apart : (o : Option ℕ) (on : Bool) (r : Reader) → Turned on r → Turned on (peer_ends o r)
    end-apart None on r t = t
    end-apart (Some m) on r t =
        turned-kept on r (peer_ends (Some m) r) (λ l. ap (unless_it m) l) (λ a. ap (unless_it m) a) t

    -- whatever comes there
    turned-here : (d : ℕ) → d ≡ c → (it : FrameBody) (on : Bool) (r : Reader) → MayCome on it → Turned on r
        → Turned (is_open on it) (behind_coming d it r)
    turned-here d same body.Empty on r may t = t
    turned-here d same (body.Open opening) on r may t = t
    turned-here d same (body.Close closing) on r may t = t
    turned-here d same (body.Begin begin) on r may t =
        begin-here d begin.remote_channel r (subst (λ (b : Bool). Turned b r) may t)
    turned-here d same (body.Attach attach) on r may t = t
    turned-here d same (body.Flow flow) on r may t = t
    turned-here d same (body.Transfer transfer payload) on r may t = t
    turned-here d same (body.Disposition disposition) on r may t = t
    turned-here d same (body.Detach detach) on r may t = t
    turned-here d same (body.End end) on r may t =
        subst (λ (x : ℕ). Turned false (peer_ends (reaches r x) r)) (sym same) (end-here r (turned-one on r t))

    -- or elsewhere
    turned-apart : (d : ℕ) → c ≢ d → (it : FrameBody) (on : Bool) (r : Reader) → Turned on r
        → Turned on (behind_coming d it r)
    turned-apart d ne body.Empty on r t = t
    turned-apart d ne (body.Open opening) on r t = t
    turned-apart d ne (body.Close closing) on r t = t
    turned-apart d ne (body.Begin begin) on r t = begin-apart d ne begin.remote_channel on r t
    turned-apart d ne (body.Attach attach) on r t = t
    turned-apart d ne (body.Flow flow) on r t = t
    turned-apart d ne (body.Transfer transfer payload) on r t = t
    turned-apart d ne (body.Disposition disposition) on r t = t
    turned-apart d ne (body.Detach detach) on r t = t
    turned-apart d ne (body.End end) on r t = end-apart (reaches r d) on r t

    -- or anywhere
    turned-come : (d : ℕ) (it : FrameBody) (on : Bool) (r : Reader) → (d ≡ c → MayCome on it) → Turned on r
        → Turned (if d == c then is_open on it else on) (behind_coming d it r)
    turned-come d it on r may t = by (eqb_tells d c)
      where
        by : Told d c → Turned (if d == c then is_open on it else on) (behind_coming d it r)
        by (inl p) =
            subst (λ (b : Bool). Turned (if b then is_open on it else on) (behind_coming d it r)) (sym p.0)
            (turned-here d p.1 it on r (may p.1) t)
        by (inr p) =
            subst (λ (b : Bool). Turned (if b then is_open on it else on) (behind_coming d it r)) (sym p.0)
            (turned-apart d (λ same. p.1 (sym same)) it on r t)

    -- an own Begin leads it to the one that is asked for there
    own-turned : (d : ℕ) (remote : Option ℕ) (on : Bool) (r : Reader) → Turned on r
        → Turned on (own_begins remote d r)
    own-turned d None on r t = turned-kept on r (own_begins None d r) (λ l. l) (λ a. a) t
    own-turned d (Some named) on r t = by (eqb_tells c named)
      where
        gone : c ≡ named → with_at r.asked named None c ≡ None
        gone same = at-here r.asked named c None same

        here : (on : Bool) → c ≡ named → Turned on r → Turned on (own_begins (Some named) d r)
        here false same (l, a) = (at-here r.led named c (r.asked named) same ∙ sym (ap r.asked same) ∙ a, gone same)
        here true same t = inr (gone same)

        by : Told c named → Turned on (own_begins (Some named) d r)
        by (inl p) = here on p.1 t
        by (inr p) =
            turned-kept on r (own_begins (Some named) d r) (λ l. at-apart r.led named c (r.asked named) p.1 ∙ l)
            (λ a. at-apart r.asked named c None p.1 ∙ a) t

    -- and whatever goes
    goes-turned : (d : ℕ) (it : SessionFrameBody) (on : Bool) (r : Reader) → Turned on r
        → Turned on (behind_going d it r)
    goes-turned d (session.Begin begin) on r t = own-turned d begin.remote_channel on r t
    goes-turned d (session.Attach attach) on r t = t
    goes-turned d (session.Flow flow) on r t = t
    goes-turned d (session.Transfer transfer payload) on r t = t
    goes-turned d (session.Disposition disposition) on r t = t
    goes-turned d (session.Detach detach) on r t = t
    goes-turned d (session.End end) on r t = t

    -- before the session's Begin none is its, and what follows is read from there on
    abbrev After : List Wired → Reader → Type 0
    After rest r =
        (on : Bool) → Nowhere r → Turned on r → ByTurns c on (comings rest) → AllAnswer r rest
        → comings (read_on k r rest) ≡ come_on c (Awaits 0) (comings rest)

    pub all-before : (rest first : List Wired) (r : Reader) (on : Bool) → Nowhere r → Turned on r
        → NoneBegins k r first → ByTurns c on (comings (first ++ rest)) → AllAnswer r (first ++ rest)
        → After rest (behind_all r first)
        → comings (read_on k r (first ++ rest))
        ≡ come_on c (Awaits (begins_come c (comings first))) (comings (first ++ rest))
    all-before rest [] r on s t none turns answers after = after on s t turns answers
    all-before rest (Goes frame ∷ first) r on s t none turns answers after =
        goes-left (is_of (whose r (Goes frame)) k) frame (read_on k (behind r (Goes frame)) (first ++ rest))
        ∙ all-before rest first (behind r (Goes frame)) on (goes-nowhere r frame.channel frame.body s)
        (goes-turned frame.channel frame.body on r t) none.1 turns answers.1 after
    all-before rest (Comes frame ∷ first) r on s t none turns answers after =
        let d = frame.channel in
        let it = frame.body in
        let n = begins_come c (comings first) in
        comes-both (is_of (comes_for r d it) k) (d == c && is_its (Counted d c n it) it) frame
        (read_on k (behind r (Comes frame)) (first ++ rest))
        (come_on c (if d == c then turn_come (Counted d c n it) it else Counted d c n it) (comings (first ++ rest)))
        (is-not (comes_for r d it) (for-not r d it (reaches-not r d (s d)) none.0) ∙ sym (counted-none d c n it))
        (all-before rest first (behind r (Comes frame)) (if d == c then is_open on it else on)
        (λ e. come-not r d it none.0 e (s e)) (turned-come d it on r turns.0 t) none.1 turns.1 answers.1 after
        ∙ sym (ap (λ (t : Turn). come_on c t (comings (first ++ rest))) (counted-on d c n it)))

    -- within it the session stands there in one of the two tables, and nowhere else
    abbrev Here : Reader → Type 0
    Here r = ((r.led c ≡ Some k) × (r.asked c ≡ None)) ⊎ ((r.led c ≡ None) × (r.asked c ≡ Some k))

    abbrev Alone : Reader → Type 0
    Alone r = Here r × ((d : ℕ) → d ≢ c → NotOn r d)

    -- frames there reach it
    reaches-here : (r : Reader) → Here r → reaches r c ≡ Some k
    reaches-here r (inl p) = ap (λ (o : Option ℕ). first_of o (r.asked c)) p.0
    reaches-here r (inr p) = ap (λ (o : Option ℕ). first_of o (r.asked c)) p.0 ∙ p.1

    -- it stands there as long as the entries of the channel stay
    here-kept : (r q : Reader) → q.led c ≡ r.led c → q.asked c ≡ r.asked c → Here r → Here q
    here-kept r q led asked (inl p) = inl (led ∙ p.0, asked ∙ p.1)
    here-kept r q led asked (inr p) = inr (led ∙ p.0, asked ∙ p.1)

    -- as its Begin comes
    alone-begun : (d : ℕ) → d ≡ c → (remote : Option ℕ) (r : Reader) → begun_there r remote ≡ Some k → Nowhere r
        → Turned false r → Alone (peer_begins remote d r)
    alone-begun d same None r is s (l, a) = (
      inr (l, at-here r.asked d c (Some r.begun) (sym same) ∙ is),
      λ e ne. (
        (s e).0,
        λ so. (s e).1 (sym (at-apart r.asked d e (Some r.begun) (λ eq. ne (eq ∙ same))) ∙ so),
      ),
    )
    alone-begun d same (Some named) r is s (l, a) = (
      inl (at-here r.led d c (r.own named) (sym same) ∙ is, a),
      λ e ne. (
        λ so. (s e).0 (sym (at-apart r.led d e (r.own named) (λ eq. ne (eq ∙ same))) ∙ so),
        (s e).1,
      ),
    )

    -- an own Begin moves it at most from those that are asked for to those that are led
    alone-own : (d : ℕ) (remote : Option ℕ) (r : Reader) → IsSome (begun_here r remote) → Alone r
        → Alone (own_begins remote d r)
    alone-own d None r answers s = s
    alone-own d (Some named) r answers (here, apart) =
        (by (eqb_tells c named) here, λ e ne. there e ne (eqb_tells e named))
      where
        led : c ≢ named → with_at r.led named (r.asked named) c ≡ r.led c
        led ne = at-apart r.led named c (r.asked named) ne

        asked : c ≢ named → with_at r.asked named None c ≡ r.asked c
        asked ne = at-apart r.asked named c None ne

        by : Told c named → Here r → Here (own_begins (Some named) d r)
        by (inl p) (inl (l, a)) =
            absurd (true≢false (sym answers ∙ ap is_some (sym (ap r.asked p.1) ∙ a)))
        by (inl p) (inr (l, a)) =
            inl (
              at-here r.led named c (r.asked named) p.1 ∙ sym (ap r.asked p.1) ∙ a,
              at-here r.asked named c None p.1,
            )
        by (inr p) h = here-kept r (own_begins (Some named) d r) (led p.1) (asked p.1) h

        there : (e : ℕ) → e ≢ c → Told e named → NotOn (own_begins (Some named) d r) e
        there e ne (inl p) = (
          λ so. (apart e ne).1 (ap r.asked p.1 ∙ sym (at-here r.led named e (r.asked named) p.1) ∙ so),
          either-not (e == named) None (r.asked e) none-not (apart e ne).1,
        )
        there e ne (inr p) = (
          λ so. (apart e ne).0 (sym (at-apart r.led named e (r.asked named) p.1) ∙ so),
          either-not (e == named) None (r.asked e) none-not (apart e ne).1,
        )

    -- whatever goes
    goes-alone : (d : ℕ) (it : SessionFrameBody) (r : Reader) → AnswersAsked r it → Alone r
        → Alone (behind_going d it r)
    goes-alone d (session.Begin begin) r answers s = alone-own d begin.remote_channel r answers s
    goes-alone d (session.Attach attach) r answers s = s
    goes-alone d (session.Flow flow) r answers s = s
    goes-alone d (session.Transfer transfer payload) r answers s = s
    goes-alone d (session.Disposition disposition) r answers s = s
    goes-alone d (session.Detach detach) r answers s = s
    goes-alone d (session.End end) r answers s = s

    -- a Begin elsewhere, for another
    begin-alone : (d : ℕ) → d ≢ c → (remote : Option ℕ) (r : Reader) → Not (begun_there r remote) → Alone r
        → Alone (peer_begins remote d r)
    begin-alone d ne None r other (here, apart) = (
      here-kept r (peer_begins None d r) refl (at-apart r.asked d c (Some r.begun) (λ same. ne (sym same))) here,
      λ e off. peer-not r d None other e (apart e off),
    )
    begin-alone d ne (Some named) r other (here, apart) = (
      here-kept r (peer_begins (Some named) d r) (at-apart r.led d c (r.own named) (λ same. ne (sym same))) refl here,
      λ e off. peer-not r d (Some named) other e (apart e off),
    )

    -- an End of another
    end-alone : (o : Option ℕ) (r : Reader) → Not o → Alone r → Alone (peer_ends o r)
    end-alone None r other s = s
    end-alone (Some m) r other (here, apart) = (by here, λ e off. ends-not r (Some m) e (apart e off))
      where
        stays : unless_it m (Some k) ≡ Some k
        stays = unless-other m k (λ same. other (ap Some (sym same)))

        by : Here r → Here (peer_ends (Some m) r)
        by (inl p) = inl (ap (unless_it m) p.0 ∙ stays, ap (unless_it m) p.1)
        by (inr p) = inr (ap (unless_it m) p.0, ap (unless_it m) p.1 ∙ stays)

    -- whatever comes
    come-alone : (d : ℕ) → d ≢ c → (it : FrameBody) (r : Reader) → OtherBegin k r it → Alone r
        → Alone (behind_coming d it r)
    come-alone d ne body.Empty r other s = s
    come-alone d ne (body.Open opening) r other s = s
    come-alone d ne (body.Close closing) r other s = s
    come-alone d ne (body.Begin begin) r other s = begin-alone d ne begin.remote_channel r other s
    come-alone d ne (body.Attach attach) r other s = s
    come-alone d ne (body.Flow flow) r other s = s
    come-alone d ne (body.Transfer transfer payload) r other s = s
    come-alone d ne (body.Disposition disposition) r other s = s
    come-alone d ne (body.Detach detach) r other s = s
    come-alone d ne (body.End end) r other s = end-alone (reaches r d) r (reaches-not r d (s.1 d ne)) s

    -- its End there
    over-nowhere : (r : Reader) (o : Option ℕ) → o ≡ Some k → Nowhere (peer_ends o r)
    over-nowhere r o is =
        subst (λ (x : Option ℕ). Nowhere (peer_ends x r)) (sym is)
        (λ e. (λ so. (unless-some k k (r.led e) so).1 refl, λ so. (unless-some k k (r.asked e) so).1 refl))

    -- each frame there is its
    here-its : (d : ℕ) → d ≡ c → (it : FrameBody) (r : Reader) → MayCome true it → Here r
        → is_of (comes_for r d it) k ≡ is_its Within it
    here-its d same body.Empty r may here = refl
    here-its d same (body.Open opening) r may here = refl
    here-its d same (body.Close closing) r may here = refl
    here-its d same (body.Begin begin) r may here = absurd (true≢false may)
    here-its d same (body.Attach attach) r may here =
        is-this (reaches r d) (ap (reaches r) same ∙ reaches-here r here)
    here-its d same (body.Flow flow) r may here =
        is-this (reaches r d) (ap (reaches r) same ∙ reaches-here r here)
    here-its d same (body.Transfer transfer payload) r may here =
        is-this (reaches r d) (ap (reaches r) same ∙ reaches-here r here)
    here-its d same (body.Disposition disposition) r may here =
        is-this (reaches r d) (ap (reaches r) same ∙ reaches-here r here)
    here-its d same (body.Detach detach) r may here =
        is-this (reaches r d) (ap (reaches r) same ∙ reaches-here r here)
    here-its d same (body.End end) r may here =
        is-this (reaches r d) (ap (reaches r) same ∙ reaches-here r here)

    -- what follows is read so
    abbrev ReadSo : List Wired → Turn → Reader → Type 0
    ReadSo later turn r = comings (read_on k r later) ≡ come_on c turn (comings later)

    abbrev GoesOn : List Wired → Type 0
    GoesOn later =
        (r : Reader) → Alone r → NoneBegins k r later → ByTurns c true (comings later) → AllAnswer r later
        → ReadSo later Within r

    -- behind a frame that comes there it goes on, or is over by its End
    here-on : (d : ℕ) → d ≡ c → (it : FrameBody) (r : Reader) (later : List Wired) → GoesOn later → Alone r
        → MayCome true it → NoneBegins k (behind_coming d it r) later → ByTurns c (is_open true it) (comings later)
        → AllAnswer (behind_coming d it r) later → ReadSo later (turn_come Within it) (behind_coming d it r)
    here-on d same body.Empty r later next s may none turns answers = next r s none turns answers
    here-on d same (body.Open opening) r later next s may none turns answers = next r s none turns answers
    here-on d same (body.Close closing) r later next s may none turns answers = next r s none turns answers
    here-on d same (body.Begin begin) r later next s may none turns answers = absurd (true≢false may)
    here-on d same (body.Attach attach) r later next s may none turns answers = next r s none turns answers
    here-on d same (body.Flow flow) r later next s may none turns answers = next r s none turns answers
    here-on d same (body.Transfer transfer payload) r later next s may none turns answers = next r s none turns answers
    here-on d same (body.Disposition disposition) r later next s may none turns answers = next r s none turns answers
    here-on d same (body.Detach detach) r later next s may none turns answers = next r s none turns answers
    here-on d same (body.End end) r later next s may none turns answers =
        all-behind c later (peer_ends (reaches r d) r)
        (over-nowhere r (reaches r d) (ap (reaches r) same ∙ reaches-here r s.0)) none

    -- and behind one that comes anywhere
    come-on : (d : ℕ) (it : FrameBody) (r : Reader) (later : List Wired) → GoesOn later → Alone r → Told d c
        → OtherBegin k r it → (d ≡ c → MayCome true it) → NoneBegins k (behind_coming d it r) later
        → ByTurns c (if d == c then is_open true it else true) (comings later)
        → AllAnswer (behind_coming d it r) later
        → (is_of (comes_for r d it) k ≡ (d == c && is_its Within it))
        × ReadSo later (if d == c then turn_come Within it else Within) (behind_coming d it r)
    come-on d it r later next s (inl p) other may none turns answers = (
      here-its d p.1 it r (may p.1) s.0 ∙ sym (ap (λ (b : Bool). b && is_its Within it) p.0),
      subst (λ (b : Bool). ReadSo later (if b then turn_come Within it else Within) (behind_coming d it r)) (sym p.0)
          (here-on d p.1 it r later next s (may p.1) none
          (subst (λ (b : Bool). ByTurns c (if b then is_open true it else true) (comings later)) p.0 turns) answers),
    )
    come-on d it r later next s (inr p) other may none turns answers = (
      is-not (comes_for r d it) (for-not r d it (reaches-not r d (s.1 d p.1)) other)
          ∙ sym (ap (λ (b : Bool). b && is_its Within it) p.0),
      subst (λ (b : Bool). ReadSo later (if b then turn_come Within it else Within) (behind_coming d it r)) (sym p.0)
          (next (behind_coming d it r) (come-alone d p.1 it r other s) none
          (subst (λ (b : Bool). ByTurns c (if b then is_open true it else true) (comings later)) p.0 turns) answers),
    )

    -- so until its End those there are its
    pub all-within : (later : List Wired) → GoesOn later
    all-within [] r s none turns answers = refl
    all-within (Goes frame ∷ later) r s none turns answers =
        goes-left (is_of (whose r (Goes frame)) k) frame (read_on k (behind r (Goes frame)) later)
        ∙ all-within later (behind r (Goes frame)) (goes-alone frame.channel frame.body r answers.0 s) none.1 turns
        answers.1
    all-within (Comes frame ∷ later) r s none turns answers =
        let d = frame.channel in
        let it = frame.body in
        let (one, rest) =
        come-on d it r later (all-within later) s (eqb_tells d c) none.0 turns.0 none.1 turns.1 answers.1 in
        comes-both (is_of (comes_for r d it) k) (d == c && is_its Within it) frame
        (read_on k (behind r (Comes frame)) later)
        (come_on c (if d == c then turn_come Within it else Within) (comings later)) one rest

    -- its Begin, and what follows
    begins-on : (d : ℕ) → d ≡ c → (it : FrameBody) (begin : Begin) → it ≡ body.Begin begin → (r : Reader)
        → begun_there r begin.remote_channel ≡ Some k → (later : List Wired)
        → NoneBegins k (behind_coming d it r) later → (on : Bool) → Nowhere r → Turned on r → MayCome on it
        → ByTurns c (if d == c then is_open on it else on) (comings later) → AllAnswer (behind_coming d it r) later
        → (is_of (comes_for r d it) k ≡ (d == c && is_its (Awaits 0) it))
        × ReadSo later (if d == c then turn_come (Awaits 0) it else Awaits 0) (behind_coming d it r)
    begins-on d same it begin says r is later none on s t may turns answers = by (eqb_tells d c)
      where
        closed : on ≡ false
        closed = subst (MayCome on) says may

        alone : Alone (behind_coming d it r)
        alone =
            subst (λ (b : FrameBody). Alone (behind_coming d b r)) (sym says)
            (alone-begun d same begin.remote_channel r is s (subst (λ (b : Bool). Turned b r) closed t))

        by : Told d c → (is_of (comes_for r d it) k ≡ (d == c && is_its (Awaits 0) it))
            × ReadSo later (if d == c then turn_come (Awaits 0) it else Awaits 0) (behind_coming d it r)
        by (inr p) = absurd (p.1 same)
        by (inl p) = (
          is-this (comes_for r d it) (ap (comes_for r d) says ∙ is)
              ∙ sym (ap (λ (b : Bool). b && is_its (Awaits 0) it) p.0 ∙ ap (is_its (Awaits 0)) says),
          subst (λ (turn : Turn). ReadSo later turn (behind_coming d it r))
              (sym (ap (λ (b : Bool). if b then turn_come (Awaits 0) it else Awaits 0) p.0
              ∙ ap (turn_come (Awaits 0)) says))
              (all-within later (behind_coming d it r) alone none
              (subst (λ (b : Bool). ByTurns c b (comings later))
              (ap (λ (b : Bool). if b then is_open on it else on) p.0 ∙ ap (is_open on) says) turns)
              answers),
        )

    -- all of them
    pub all-come : (first later : List Wired) (frame : Frame) (begin : Begin) → frame.channel ≡ c
        → frame.body ≡ body.Begin begin
        → begun_there (behind_all nothing_read first) begin.remote_channel ≡ Some k
        → NoneBegins k nothing_read first
        → NoneBegins k (behind (behind_all nothing_read first) (Comes frame)) later
        → ByTurns c false (comings (first ++ Comes frame ∷ later))
        → AllAnswer nothing_read (first ++ Comes frame ∷ later)
        → comings (read_of k (first ++ Comes frame ∷ later))
        ≡ come_on c (Awaits (begins_come c (comings first))) (comings (first ++ Comes frame ∷ later))
    all-come first later frame begin same says is none after turns answers =
        all-before (Comes frame ∷ later) first nothing_read false (λ e. (none-not, none-not)) (refl, refl) none turns
        answers from
      where
        from : After (Comes frame ∷ later) (behind_all nothing_read first)
        from on s t turns answers =
            let r = behind_all nothing_read first in
            let d = frame.channel in
            let it = frame.body in
            let (one, rest) =
            begins-on d same it begin says r is later after on s t (turns.0 same) turns.1 answers.1 in
            comes-both (is_of (comes_for r d it) k) (d == c && is_its (Awaits 0) it) frame
            (read_on k (behind r (Comes frame)) later)
            (come_on c (if d == c then turn_come (Awaits 0) it else Awaits 0) (comings later)) one rest
