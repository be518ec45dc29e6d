-- What a connection queues: its header, and behind it frames, each of which has a text.
use Rattle.std.proofs.Common.{◌≡◌, ℕ, Bool, true, false, List, [], ◌∷◌, ◌++◌, Option, Some, None, inl, inr}
use Rattle.std.proofs.Common.{ap, refl, subst, sym, ◌∙◌, if◌then◌else◌}
use Rattle.std.specs.Prelude.{◌==◌, ◌^◌, All, flat_map, map, nat_le, nat_lt}
use Rattle.std.proofs.lemmas.List.{append_assoc, map-append}
use Rattle.std.proofs.lemmas.List.Elements.{All-head, All-tail}
use Rattle.serde_amqp_item.specs.Canon.{◌>>=◌}
use Rattle.amqp_session_performatives.specs.declared.session_frame.SessionFrame.{SessionFrame}
use Rattle.amqp_session_frames.specs.Cutting.{joined}
use Rattle.amqp_session_frames.specs.Sizes.{HasText}
use Rattle.amqp_session_frames.specs.Text.{frame_text, texts}
use Rattle.amqp_session_frames.specs.declared.frame.Frame.{Frame}
use Rattle.amqp_endpoint_model.specs.declared.error.EndpointError.{EndpointError}
use Rattle.amqp_endpoint_model.specs.declared.error.EndpointError.TheVariants.{FrameTooLarge, LimitUnder512}
use Rattle.amqp_endpoint_model.specs.declared.error.EndpointError.TheVariants.{WindowOutOfRange}
use Rattle.amqp_endpoint_model.specs.declared.settings.Settings.{Settings}
use Rattle.amqp_endpoint_model.specs.State.{Waiting, fits, frame_of, heartbeat, own_open, text_fits, text_of}
use Rattle.amqp_endpoint_model.specs.State.{text_or_nothing, the_frame, the_header, waiting_of, written}
use Rattle.amqp_endpoint_model.specs.Step.{refusal_of_settings}
use Rattle.amqp_endpoint_laws.specs.Deeds.{AreOfOne, Closes, Deed, Does, Finishes, Hears, IsInOrder, IsOwnFrame}
use Rattle.amqp_endpoint_laws.specs.Deeds.{KeepToFrames, Moves, Queues, Refuses, Renews, Takes, Throughout, come_to}
use Rattle.amqp_endpoint_laws.specs.Deeds.{opened_behind, queued_by}
use Rattle.amqp_endpoint_laws.specs.Between.{frame_in, sent_by}

-- what is read off lists, one behind the other
flat-append : {X A : Type 0} (f : X → List A) (these more : List X)
    → flat_map f (these ++ more) ≡ flat_map f these ++ flat_map f more
flat-append f [] more = refl
flat-append f (x ∷ these) more =
    ap (λ (ys : List _). f x ++ ys) (flat-append f these more)
    ∙ sym (append_assoc (f x) (flat_map f these) (flat_map f more))

-- frames alone wait
abbrev AreFrames : List Waiting → Type 0
AreFrames ws = ws ≡ map the_frame (flat_map frame_in ws)

are-append : (a b : List Waiting) → AreFrames a → AreFrames b → AreFrames (a ++ b)
are-append a b first others =
    ap (λ (ws : List Waiting). ws ++ b) first
    ∙ ap (λ (ws : List Waiting). map the_frame (flat_map frame_in a) ++ ws) others
    ∙ sym (map-append the_frame (flat_map frame_in a) (flat_map frame_in b))
    ∙ ap (λ (fs : List Frame). map the_frame fs) (sym (flat-append frame_in a b))

are-sessions : (frames : List SessionFrame) → AreFrames (map waiting_of frames)
are-sessions [] = refl
are-sessions (f ∷ fs) = ap (λ (ws : List Waiting). waiting_of f ∷ ws) (are-sessions fs)

are-frames : (settings : Settings) (deeds : List Deed) → KeepToFrames settings deeds → AreFrames (queued_by deeds)
are-frames settings [] k = refl
are-frames settings (Queues the_header ∷ deeds) k = absurd k
are-frames settings (Queues (the_frame frame) ∷ deeds) (own, k) =
    ap (λ (ws : List Waiting). the_frame frame ∷ ws) (are-frames settings deeds k)
are-frames settings (Hears frame events ∷ deeds) k = are-frames settings deeds k
are-frames settings (Takes limit frame frames events ∷ deeds) k =
    are-append (map waiting_of frames) (queued_by deeds) (are-sessions frames) (are-frames settings deeds k)
are-frames settings (Refuses limit frame error own_close ∷ deeds) k = are-frames settings deeds k
are-frames settings (Does limit call answer frames ∷ deeds) k =
    are-append (map waiting_of frames) (queued_by deeds) (are-sessions frames) (are-frames settings deeds k)
are-frames settings (Moves connection ∷ deeds) k = are-frames settings deeds k
are-frames settings (Renews ∷ deeds) k = absurd k
are-frames settings (Closes ∷ deeds) k = are-frames settings deeds k
are-frames settings (Finishes ∷ deeds) k = are-frames settings deeds k

-- the header is queued first
pub header-first : (settings : Settings) (since : List Deed) → AreOfOne settings since
    → queued_by since ≡ the_header ∷ map the_frame (sent_by since)
header-first settings since one =
    subst (λ (ds : List Deed). queued_by ds ≡ the_header ∷ map the_frame (sent_by ds))
    (sym (one.is ∙ ap (λ (ds : List Deed). Renews ∷ ds) one.header))
    (ap (λ (ws : List Waiting). the_header ∷ ws) (are-frames settings one.behind one.frames))

-- each has a text
abbrev pub AllHaveTexts : List Frame → Type 0
AllHaveTexts [] = Unit {0}
AllHaveTexts (f ∷ fs) = HasText (frame_text f) × AllHaveTexts fs

texts-append : (a b : List Frame) → AllHaveTexts a → AllHaveTexts b → AllHaveTexts (a ++ b)
texts-append [] b t u = u
texts-append (f ∷ a) b (first, t) u = (first, texts-append a b t u)

fit-text : (limit : ℕ) (o : Option (List ℕ)) → text_fits limit o ≡ true → HasText o
fit-text limit None fit = absurd cc
fit-text limit (Some text) fit = record { bytes = text; is = refl }

heartbeat-fits : fits 512 heartbeat ≡ true
heartbeat-fits = refl

own-text : (settings : Settings) (f : Frame) → fits 512 (own_open settings) ≡ true → IsOwnFrame settings f
    → HasText (frame_text f)
own-text settings f opens (inl is) =
    subst (λ (g : Frame). HasText (frame_text g)) (sym is) (fit-text 512 (frame_text (own_open settings)) opens)
own-text settings f opens (inr (inl is)) =
    subst (λ (g : Frame). HasText (frame_text g)) (sym is) (fit-text 512 (frame_text heartbeat) heartbeat-fits)
own-text settings f opens (inr (inr (error, is, fit))) = fit-text 512 (frame_text f) fit

session-texts : (limit : ℕ) (frames : List SessionFrame)
    → All (λ (f : SessionFrame). fits limit (frame_of f) ≡ true) frames
    → AllHaveTexts (flat_map frame_in (map waiting_of frames))
session-texts limit [] fit = tt
session-texts limit (f ∷ fs) fit =
    let P : SessionFrame → Type 0 = λ g. fits limit (frame_of g) ≡ true in
    (fit-text limit (frame_text (frame_of f)) (All-head P f fs fit), session-texts limit fs (All-tail P f fs fit))

behind-sessions : (limit : ℕ) (frames : List SessionFrame) (deeds : List Deed)
    → All (λ (f : SessionFrame). fits limit (frame_of f) ≡ true) frames → AllHaveTexts (sent_by deeds)
    → AllHaveTexts (flat_map frame_in (map waiting_of frames ++ queued_by deeds))
behind-sessions limit frames deeds fit t =
    subst (λ (fs : List Frame). AllHaveTexts fs) (sym (flat-append frame_in (map waiting_of frames) (queued_by deeds)))
    (texts-append (flat_map frame_in (map waiting_of frames)) (sent_by deeds) (session-texts limit frames fit) t)

all-texts : (settings : Settings) (peer : Option ℕ) (deeds : List Deed) → fits 512 (own_open settings) ≡ true
    → KeepToFrames settings deeds → Throughout opened_behind IsInOrder peer deeds → AllHaveTexts (sent_by deeds)
all-texts settings peer [] opens k t = tt
all-texts settings peer (Queues the_header ∷ deeds) opens k t = absurd k
all-texts settings peer (Queues (the_frame frame) ∷ deeds) opens (own, k) (first, t) =
    (own-text settings frame opens own, all-texts settings peer deeds opens k t)
all-texts settings peer (Hears frame events ∷ deeds) opens k (first, t) =
    all-texts settings (opened_behind peer (Hears frame events)) deeds opens k t
all-texts settings peer (Takes limit frame frames events ∷ deeds) opens k ((theirs, (allowed, fit)), t) =
    behind-sessions limit frames deeds fit (all-texts settings peer deeds opens k t)
all-texts settings peer (Refuses limit frame error own_close ∷ deeds) opens k (first, t) =
    all-texts settings peer deeds opens k t
all-texts settings peer (Does limit call answer frames ∷ deeds) opens k ((allowed, fit), t) =
    behind-sessions limit frames deeds fit (all-texts settings peer deeds opens k t)
all-texts settings peer (Moves connection ∷ deeds) opens k (first, t) = all-texts settings peer deeds opens k t
all-texts settings peer (Renews ∷ deeds) opens k t = absurd k
all-texts settings peer (Closes ∷ deeds) opens k (first, t) = all-texts settings peer deeds opens k t
all-texts settings peer (Finishes ∷ deeds) opens k (first, t) = all-texts settings peer deeds opens k t

-- what is so throughout deeds is so of the last
throughout-last : {A : Type 0} (behind : A → Deed → A) (P : A → Deed → Type 0) (before since : List Deed) (from : A)
    → Throughout behind P from (before ++ since) → Throughout behind P (come_to behind from before) since
throughout-last behind P [] since from t = t
throughout-last behind P (deed ∷ before) since from (first, t) =
    throughout-last behind P before since (behind from deed) t

-- all that a connection sends has a text, where its Open does
pub sent-texts : (settings : Settings) (before since : List Deed) → fits 512 (own_open settings) ≡ true
    → AreOfOne settings since → Throughout opened_behind IsInOrder None (before ++ since)
    → AllHaveTexts (sent_by since)
sent-texts settings before since opens one t =
    let is : since ≡ Renews ∷ Queues the_header ∷ one.behind =
    one.is ∙ ap (λ (ds : List Deed). Renews ∷ ds) one.header in
    let (any, (header, later)) =
    subst (λ (ds : List Deed). Throughout opened_behind IsInOrder (come_to opened_behind None before) ds) is
    (throughout-last opened_behind IsInOrder before since None t) in
    subst (λ (ds : List Deed). AllHaveTexts (sent_by ds)) (sym is)
    (all-texts settings None one.behind opens one.frames later)

-- frames that have texts are written as these, one behind the other
pub texts-are : (fs : List Frame) → AllHaveTexts fs → texts fs ≡ Some (joined (map text_of (map the_frame fs)))
unfolding written
texts-are [] t = refl
texts-are (f ∷ fs) (first, t) =
    let others : List ℕ = joined (map text_of (map the_frame fs)) in
    ap (λ (o : Option (List ℕ)). o >>= λ a. texts fs >>= λ b. Some (a ++ b)) first.is
    ∙ ap (λ (o : Option (List ℕ)). o >>= λ b. Some (first.bytes ++ b)) (texts-are fs t)
    ∙ ap (λ (o : Option (List ℕ)). Some (text_or_nothing o ++ others)) (sym first.is)

-- settings that are accepted have an Open that fits
fits-last : (b c d e : Bool) (x y z : EndpointError)
    → (if b then Some x else if c then Some y else if d then Some y else if e then None else Some z) ≡ None → e ≡ true
fits-last true c d e x y z none = absurd cc
fits-last false true d e x y z none = absurd cc
fits-last false false true e x y z none = absurd cc
fits-last false false false true x y z none = refl
fits-last false false false false x y z none = absurd cc

pub accepted-open : (s : Settings) → refusal_of_settings s ≡ None → fits 512 (own_open s) ≡ true
accepted-open s none =
    fits-last (nat_lt s.max_frame_size 512) (s.incoming_window == 0) (nat_le (2 ^ 31) s.incoming_window)
    (fits 512 (own_open s)) LimitUnder512 WindowOutOfRange FrameTooLarge none
