-- Two feeds, one behind the other, do and tell what one feed of all their bytes does and tells.
use Rattle.std.proofs.Common.{◌≡◌, ◌≢◌, ◌⊎◌, ℕ, ◌≤◌, List, [], ◌++◌, length, take, drop, refl, sym, ◌∙◌, ap, arith, append_assoc, length-append, subst, Option, Some, None, inl, inr}
use Rattle.std.proofs.lemmas.List.{append-nil, take-append-le, drop-append-le, length-take}
use Rattle.amqp_session_frames.specs.declared.frame.Frame.{Frame}
use Rattle.amqp_session_frames.specs.Cutting.{ReadsAs}
use Rattle.amqp_session_frames.proofs.CuttingLaws.{said_size-append, reads-append}
use Rattle.amqp_endpoint_model.specs.declared.error.EndpointError.{EndpointError}
use Rattle.amqp_endpoint_model.specs.declared.error.EndpointError.TheVariants.{Memory, NumbersUsedUp, SizeUnder8, SizeOverLimit, PeerLimitUnder512, Frame as FrameFault, Connection, Session}
use Rattle.amqp_endpoint_model.specs.declared.event.Event.{Event}
use Rattle.amqp_endpoint_model.specs.declared.phase.Phase.{Phase}
use Rattle.amqp_endpoint_model.specs.declared.phase.Phase.TheVariants.{Unconnected, Greeting, Running, Over}
use Rattle.amqp_endpoint_model.specs.Relay.{Relations}
use Rattle.amqp_endpoint_model.specs.State.{State, protocol_header}
use Rattle.amqp_endpoint_model.specs.Step.{Admits, Front, FrontBarred, FrontRefused, AfterFault, EndsRunning, EndsOver, Ends, ReadsOn, Greets, FeedsIn, TakesAll, Breaks, opened, condition_of}
use Rattle.amqp_endpoint_model.specs.History.{first_fault}
use Rattle.amqp_endpoint_model.proofs.Takings.{TakesAll-append, rest_none, same_settings}

pub Front-more : (limit : ℕ) (left piece more : List ℕ) → Front limit left piece → Front limit (left ++ more) piece
Front-more limit left piece more f = record {
  more = f.more ++ more;
  whole = ap (λ x. x ++ more) f.whole ∙ append_assoc piece f.more more;
  piece_is = f.piece_is;
  short = f.short;
}

longer : (left more : List ℕ) → 4 ≤ length left → 4 ≤ length (left ++ more)
longer left more le = omega (arith, le, length-append left more)

pub none_later : (first later : Option EndpointError) → later ≡ None → first_fault first later ≡ first
none_later (Some e) later is = refl
none_later None later is = is

-- eight bytes that are the header are eight bytes
pub header_long : (bytes : List ℕ) → take 8 bytes ≡ protocol_header → 8 ≤ length bytes
header_long bytes is = omega (arith, ap length is, length-take 8 bytes)

module _ {S : Type 0} (does : Relations S) where
  barred-more : (mid : State S) (left more : List ℕ) (e : EndpointError) (sessions : S)
      → FrontBarred does mid left e sessions → FrontBarred does mid (left ++ more) e sessions
  barred-more mid left more e sessions b = record {
    piece = b.piece;
    frame = b.frame;
    front = Front-more mid.settings.max_frame_size left b.piece more b.front;
    text = b.text;
    refuses = b.refuses;
  }

  refused-more : (mid : State S) (left more : List ℕ) (e : EndpointError) (sessions : S)
      → FrontRefused does mid left e sessions → FrontRefused does mid (left ++ more) e sessions
  refused-more mid left more Memory sessions (inl same) = inl same
  refused-more mid left more Memory sessions (inr (e, b)) = inr (e, barred-more mid left more e sessions b)
  refused-more mid left more PeerLimitUnder512 sessions b = barred-more mid left more PeerLimitUnder512 sessions b
  refused-more mid left more (Connection e) sessions b = barred-more mid left more (Connection e) sessions b
  refused-more mid left more (Session e) sessions b = barred-more mid left more (Session e) sessions b
  refused-more mid left more NumbersUsedUp sessions b = barred-more mid left more NumbersUsedUp sessions b
  refused-more mid left more SizeUnder8 sessions ((four, under), same) =
      ((longer left more four, omega (arith, under, said_size-append left more four)), same)
  refused-more mid left more SizeOverLimit sessions ((four, least, over), same) = (
    (
      longer left more four,
      omega (arith, least, said_size-append left more four),
      omega (arith, over, said_size-append left more four),
    ),
    same,
  )
  refused-more mid left more (FrameFault e) sessions ((piece, front, none), same) =
      ((piece, Front-more mid.settings.max_frame_size left piece more front, none), same)
  refused-more mid left more e sessions r = absurd r.0

  -- a fault is the same with more bytes behind it
  fault-more : (mid : State S) (left more : List ℕ) (e : EndpointError) (new : State S)
      → EndsRunning does mid left (Some e) new → EndsRunning does mid (left ++ more) (Some e) new
  fault-more mid left more e new r = record {
    sessions = r.sessions;
    refused = refused-more mid left more e r.sessions r.refused;
    after = r.after;
  }

  -- behind a fault the connection is over, or there is none
  pub fault-phase : (condition : Option (List ℕ)) (s new : State S) → AfterFault does condition s new
      → (new.phase ≡ Over) ⊎ (new.phase ≡ Unconnected)
  fault-phase (Some condition) s new (closes, after) = inl (ap (λ x. x.phase) after)
  fault-phase None s new (finishes, after) = inr (ap (λ x. x.phase) after)

  -- behind the peer's Close nothing more is read
  silent : (p : Phase) (s : State S) (more : List ℕ) (ds : List Event) (fault : Option EndpointError) (end : State S)
      → p ≡ Over → FeedsIn does p s more ds fault end → (ds ≡ []) × (fault ≡ None) × (end ≡ s)
  silent Over s more ds fault end is f = f
  silent Unconnected s more ds fault end is f = cc
  silent Greeting s more ds fault end is f = cc
  silent Running s more ds fault end is f = cc

  -- nor behind a fault
  unheard : (p : Phase) (s : State S) (more : List ℕ) (ds : List Event) (fault : Option EndpointError) (end : State S)
      → (p ≡ Over) ⊎ (p ≡ Unconnected) → FeedsIn does p s more ds fault end → (ds ≡ []) × (end ≡ s)
  unheard Over s more ds fault end is f = (f.0, f.2)
  unheard Unconnected s more ds fault end is f = (f.0, f.2)
  unheard Greeting s more ds fault end (inl is) f = cc
  unheard Greeting s more ds fault end (inr is) f = cc
  unheard Running s more ds fault end (inl is) f = cc
  unheard Running s more ds fault end (inr is) f = cc

  -- how reading ended, and what came of more bytes
  reads_then-ends : (p : Phase) (old : State S) (frames : List Frame) (left : List ℕ) (mid : State S)
      (bytes more : List ℕ) (es ds : List Event) (fault later : Option EndpointError) (new end : State S)
      → mid.phase ≡ p
      → ReadsAs (Admits old.settings.max_frame_size) bytes frames left
      → TakesAll does (record old { rest = [] }) frames es mid → mid.settings ≡ old.settings
      → Ends does mid p left fault new → FeedsIn does new.phase new more ds later end
      → ReadsOn does old (bytes ++ more) (es ++ ds) (first_fault fault later) end
  reads_then-ends Unconnected old frames left mid bytes more es ds fault later new end is read taken same ends next =
      absurd ends
  reads_then-ends Greeting old frames left mid bytes more es ds fault later new end is read taken same ends next =
      absurd ends
  reads_then-ends Over old frames left mid bytes more es ds (Some e) later new end is read taken same ends next =
      absurd ends
  reads_then-ends Over old frames left mid bytes more es ds None later new end is read taken same ends next =
      let (none, well, stays) = silent new.phase new more ds later end (ap (λ s. s.phase) ends ∙ is) next in
      let limit : ℕ = old.settings.max_frame_size in
      let P : List Frame → Type 0 = λ x. ReadsAs (Admits limit) (bytes ++ more) x (left ++ more) in
      let Q : List Event → Type 0 = λ x. TakesAll does (record old { rest = [] }) frames x mid in
      let R : Phase → Type 0 = λ x. Ends does mid x (left ++ more) later end in
      let O : Option EndpointError → Type 0 = λ o. EndsOver does mid o end in
      let over : EndsOver does mid later end = subst O (sym well) (stays ∙ ends) in
      record {
        frames = frames;
        left = left ++ more;
        mid = mid;
        read = subst P (append-nil frames)
            (reads-append (Admits limit) bytes frames [] left (left ++ more) more read refl);
        taken = subst Q (sym (ap (λ x. es ++ x) none ∙ append-nil es)) taken;
        ends = subst R (sym is) over;
      }
  reads_then-ends Running old frames left mid bytes more es ds (Some e) later new end is read taken same ends next =
      let ended : (new.phase ≡ Over) ⊎ (new.phase ≡ Unconnected) = fault-phase (condition_of e) _ new ends.after in
      let (none, stays) = unheard new.phase new more ds later end ended next in
      let limit : ℕ = old.settings.max_frame_size in
      let P : List Frame → Type 0 = λ x. ReadsAs (Admits limit) (bytes ++ more) x (left ++ more) in
      let Q : List Event → Type 0 = λ x. TakesAll does (record old { rest = [] }) frames x mid in
      let R : Phase → Type 0 = λ x. Ends does mid x (left ++ more) (Some e) end in
      let E : State S → Type 0 = λ x. EndsRunning does mid (left ++ more) (Some e) x in
      record {
        frames = frames;
        left = left ++ more;
        mid = mid;
        read = subst P (append-nil frames)
            (reads-append (Admits limit) bytes frames [] left (left ++ more) more read refl);
        taken = subst Q (sym (ap (λ x. es ++ x) none ∙ append-nil es)) taken;
        ends = subst R (sym is) (subst E (sym stays) (fault-more mid left more e new ends));
      }
  reads_then-ends Running old frames left mid bytes more es ds None later new end is read taken same
      (waits, after) next =
      let here : State S = record mid { rest = left } in
      let P : State S → Type 0 = λ s. FeedsIn does s.phase s more ds later end in
      let Q : Phase → Type 0 = λ p. FeedsIn does p here more ds later end in
      let on : ReadsOn does here (left ++ more) ds later end = subst Q is (subst P after next) in
      let none : mid.rest ≡ [] = rest_none does (record old { rest = [] }) frames es mid refl taken in
      let clean : record mid { rest = [] } ≡ mid = ap (λ r. record mid { rest = r }) (sym none) in
      let limit : ℕ = old.settings.max_frame_size in
      let R : State S → Type 0 = λ s. TakesAll does s on.frames ds on.mid in
      let L : ℕ → Type 0 = λ l. ReadsAs (Admits l) (left ++ more) on.frames on.left in
      let read2 : ReadsAs (Admits limit) (left ++ more) on.frames on.left
      = subst L (ap (λ s. s.max_frame_size) same) on.read in
      record {
        frames = frames ++ on.frames;
        left = on.left;
        mid = on.mid;
        read = reads-append (Admits limit) bytes frames on.frames left on.left more read read2;
        taken = TakesAll-append does (record old { rest = [] }) frames es mid on.frames ds on.mid taken
            (subst R clean on.taken);
        ends = on.ends;
      }

  reads_then : (old : State S) (bytes more : List ℕ) (es ds : List Event) (fault later : Option EndpointError)
      (new end : State S) → ReadsOn does old bytes es fault new → FeedsIn does new.phase new more ds later end
      → ReadsOn does old (bytes ++ more) (es ++ ds) (first_fault fault later) end
  reads_then old bytes more es ds fault later new end r next =
      let same : r.mid.settings ≡ old.settings
      = same_settings does (record old { rest = [] }) r.frames es r.mid r.taken in
      reads_then-ends r.mid.phase old r.frames r.left r.mid bytes more es ds fault later new end refl r.read r.taken
      same r.ends next

  -- where a connection was broken off nothing more is read
  broken_then : (old new : State S) (more : List ℕ) (ds : List Event) (later : Option EndpointError) (end : State S)
      → Breaks does old new → FeedsIn does new.phase new more ds later end → (ds ≡ []) × Breaks does old end
  broken_then old new more ds later end breaks next =
      let (none, stays) = unheard new.phase new more ds later end (inr (ap (λ s. s.phase) breaks.1)) next in
      let P : State S → Type 0 = λ s. Breaks does old s in
      (none, subst P (sym stays) breaks)

  -- the header was awaited
  greets_then : (old : State S) (bytes more : List ℕ) (es ds : List Event) (fault later : Option EndpointError)
      (new end : State S) → old.phase ≡ Greeting → fault ≢ Some Memory → Greets does old bytes es fault new
      → FeedsIn does new.phase new more ds later end
      → Greets does old (bytes ++ more) (es ++ ds) (first_fault fault later) end
  greets_then old bytes more es ds fault later new end is n (inl (short, none, well, after)) next =
      let P : State S → Type 0 = λ s. FeedsIn does s.phase s more ds later end in
      let Q : Phase → Type 0 = λ p. FeedsIn does p (record old { rest = bytes }) more ds later end in
      let on : Greets does (record old { rest = bytes }) (bytes ++ more) ds later end
      = subst Q is (subst P after next) in
      let R : List Event → Type 0 = λ x. Greets does old (bytes ++ more) (x ++ ds) (first_fault fault later) end in
      let F : Option EndpointError → Type 0 = λ x. Greets does old (bytes ++ more) ds (first_fault x later) end in
      subst R (sym none) (subst F (sym well) on)
  greets_then old bytes more es ds fault later new end is n (inr (inl (long, other, none, mismatch, breaks))) next =
      let (still, breaks2) = broken_then old new more ds later end breaks next in
      inr (inl (
        omega (arith, long, length-append bytes more),
        λ e. other (sym (take-append-le 8 bytes more long) ∙ e),
        ap (λ x. x ++ ds) none ∙ still,
        ap (λ x. first_fault x later) mismatch,
        breaks2,
      ))
  greets_then old bytes more es ds fault later new end is n (inr (inr (inl (header, reads)))) next =
      let long : 8 ≤ length bytes = header_long bytes header in
      let start : State S = opened does old in
      let P : List ℕ → Type 0 = λ x. ReadsOn does start x (es ++ ds) (first_fault fault later) end in
      inr (inr (inl (
        take-append-le 8 bytes more long ∙ header,
        subst P (sym (drop-append-le 8 bytes more long))
            (reads_then start (drop 8 bytes) more es ds fault later new end reads next),
      )))
  greets_then old bytes more es ds fault later new end is n (inr (inr (inr (none, memory, breaks)))) next =
      absurd (n memory)

  feeds_then-in : (p : Phase) (old : State S) (bytes more : List ℕ) (es ds : List Event)
      (fault later : Option EndpointError) (new end : State S) → old.phase ≡ p → fault ≢ Some Memory
      → FeedsIn does p old bytes es fault new → FeedsIn does new.phase new more ds later end
      → FeedsIn does p old (bytes ++ more) (es ++ ds) (first_fault fault later) end
  feeds_then-in Unconnected old bytes more es ds fault later new end is n (none, unconnected, same) next =
      let (still, stays) = unheard new.phase new more ds later end (inr (ap (λ s. s.phase) same ∙ is)) next in
      (ap (λ x. x ++ ds) none ∙ still, ap (λ x. first_fault x later) unconnected, stays ∙ same)
  feeds_then-in Greeting old bytes more es ds fault later new end is n f next =
      let P : List ℕ → Type 0 = λ x. Greets does old x (es ++ ds) (first_fault fault later) end in
      subst P (append_assoc old.rest bytes more)
      (greets_then old (old.rest ++ bytes) more es ds fault later new end is n f next)
  feeds_then-in Running old bytes more es ds fault later new end is n f next =
      let P : List ℕ → Type 0 = λ x. ReadsOn does old x (es ++ ds) (first_fault fault later) end in
      subst P (append_assoc old.rest bytes more)
      (reads_then old (old.rest ++ bytes) more es ds fault later new end f next)
  feeds_then-in Over old bytes more es ds fault later new end is n (none, well, same) next =
      let (still, again, stays) = silent new.phase new more ds later end (ap (λ s. s.phase) same ∙ is) next in
      (ap (λ x. x ++ ds) none ∙ still, ap (λ x. first_fault x later) well ∙ again, stays ∙ same)

  -- a feed, and behind it another
  pub feeds_then : (old : State S) (bytes more : List ℕ) (es ds : List Event) (fault later : Option EndpointError)
      (new end : State S) → fault ≢ Some Memory → FeedsIn does old.phase old bytes es fault new
      → FeedsIn does new.phase new more ds later end
      → FeedsIn does old.phase old (bytes ++ more) (es ++ ds) (first_fault fault later) end
  feeds_then old bytes more es ds fault later new end n f next =
      feeds_then-in old.phase old bytes more es ds fault later new end refl n f next
