-- What is done in a session that is lent.
use Rattle.std.proofs.Common.{◌≡◌, ◌≤◌, ℕ, true, List, [], Option, Some, None, Result, Ok}
use Rattle.std.proofs.Common.{Err, IsSome, OnOk, OnErr, refl, sym, ap, subst, ◌∙◌, append-nil, length, drop}
use Rattle.std.specs.Prelude.{All, ⊤, option_map}
use Rattle.std.specs.Box.{with_value}
use Rattle.std.proofs.lemmas.List.Elements.{All-nil}
use Rattle.amqp_session_types.specs.declared.error.Error.{Error}
use Rattle.amqp_session_types.specs.declared.handles.OutputHandle.{OutputHandle}
use Rattle.amqp_session_performatives.specs.declared.session_frame.SessionFrame.{SessionFrame}
use Rattle.amqp_session_core.specs.State.{link_at}
use Rattle.amqp_endpoint_tables.specs.Lends.{set_live}
use Rattle.amqp_endpoint_tables.specs.State.{live_at}
use Rattle.amqp_endpoint_fitting.specs.Read.{IsRead}
use Rattle.amqp_endpoint_model.specs.State.{fits, frame_of}
use Rattle.amqp_endpoint_conversation.specs.Going.{Goes, Rests}
use Rattle.amqp_endpoint_attached.specs.Linked.{Linked, end_at}
use Rattle.amqp_endpoint_linking.specs.Linking.{Link, Session, Sessions, Talk}
use Rattle.amqp_endpoint_linking.specs.Handed.{Hands}
use Rattle.amqp_endpoint_link_hearing.specs.InSession.{Closes, GoesOn}
use Rattle.amqp_endpoint_link_hearing.specs.Leaving.{HasPlace}
use Rattle.amqp_endpoint_link_hearing.specs.Naming.{link_in, link_of}
use Rattle.amqp_endpoint_link_hearing.proofs.Doing.{closes-done, done-goes, done-rests}
use Rattle.amqp_endpoint_link_hearing.proofs.Lending.{unlent}
use Rattle.amqp_endpoint_fitting.proofs.Frames.{larger_fits}
use Rattle.amqp_endpoint_attached.specs.Detaching.{own_detach}
use Rattle.amqp_endpoint_link_hearing.specs.Leaving.{detach_frame}

-- where nothing was done
pub goes-same : (limit : ℕ) (old new : Talk) (out out_new : List SessionFrame) → new ≡ old → out_new ≡ out
    → Goes limit old new out out_new
goes-same limit old new out out_new is same =
    let P : Talk → Type 0 = λ talk. Goes limit old talk out out_new in
    subst P (sym is)
    (record {
      waits = λ within. within;
      still = record { state = refl; opening = refl };
      frames = [];
      queued = same ∙ sym (append-nil out);
      fit = λ least within. All-nil (λ (f : SessionFrame). fits limit (frame_of f) ≡ true);
    })

pub rests-same : (old new : Talk) (out out_new : List SessionFrame) → new ≡ old → out_new ≡ out
    → Rests old new out out_new
rests-same old new out out_new is same =
    let P : Talk → Type 0 = λ talk. Rests old talk out out_new in
    subst P (sym is) (record { silent = λ none. same; idle = λ none. none })

some-end : (o : Option Link) → IsSome o → IsSome (option_map (λ (n : Link). n.link) o)
some-end None is = is
some-end (Some link) is = refl

-- the session with the link is lent
pub end-lent : (talk : Talk) (session : ℕ) (handle : OutputHandle) (lent : Session)
    → Some lent ≡ live_at talk.sessions session → IsSome (link_of talk session handle)
    → IsSome (end_at lent.value handle)
end-lent talk session handle lent is there =
    let here : IsSome (link_in (Some lent) handle) =
    subst (λ (o : Option Session). IsSome (link_in o handle)) (sym is) there in
    some-end (link_at lent.value.session handle.0) here

pub none-lent : (talk : Talk) (session : ℕ) (handle : OutputHandle) → None ≡ live_at talk.sessions session
    → IsSome (link_of talk session handle) → ⊥
none-lent talk session handle is there =
    let here : IsSome (link_in None handle) =
    subst (λ (o : Option Session). IsSome (link_in o handle)) (sym is) there in absurd cc

-- the sessions with it as it is behind that
abbrev pub behind-talk : Talk → ℕ → Session → Linked → Talk
behind-talk old session lent after =
    record old { sessions = set_live old.sessions session (with_value lent after) }

pub unlent-talk : (old : Talk) (session : ℕ) (lent : Session) (after : Linked)
    → Some lent ≡ live_at old.sessions session → after ≡ lent.value → behind-talk old session lent after ≡ old
unlent-talk old session lent after is same =
    ap (λ (ss : Sessions). record old { sessions = ss })
    (ap (λ (s : Linked). set_live old.sessions session (with_value lent s)) same
    ∙ unlent old.sessions session lent (sym is))

module _ (Does : List SessionFrame → Linked → Linked → Type 0) (old : Talk) (session : ℕ) (lent : Session)
    (is : Some lent ≡ live_at old.sessions session) (before after : Linked) (same : before ≡ lent.value)
    (out out_new : List SessionFrame) where
  pub hands-on : Hands (λ (frames : List SessionFrame). Does frames before after) out out_new
      → Hands (λ (frames : List SessionFrame). GoesOn (Does frames) old session (behind-talk old session lent after))
      out out_new
  hands-on h =
      record {
        frames = h.frames;
        is_so =
            record {
              before = lent;
              after = with_value lent after;
              done = subst (λ (s : Linked). Does h.frames s after) same h.is_so;
              stepped = (sym is, refl);
              rest = refl;
            };
        queued = h.queued;
      }

-- a link is closed, where there is a place for its Detach
module _ (old : Talk) (session : ℕ) (handle : OutputHandle) (why : Option Error) (new : Talk)
    (out out_new : List SessionFrame) where
  abbrev ClosedSo : Type 0
  ClosedSo = Hands (λ (frames : List SessionFrame). GoesOn (Closes why handle frames) old session new) out out_new

  pub closed-goes : (limit from place : ℕ) → (h : ClosedSo) → from ≡ length out → All IsRead (drop from out_new)
      → ((s : Session) → live_at old.sessions session ≡ Some s → HasPlace s.value handle true why place)
      → 512 ≤ limit → Goes limit old new out out_new
  closed-goes limit from place h is reads places least =
      let g = h.is_so in
      let before = (g.before).value in
      let short = (places g.before (g.stepped).0).fit in
      done-goes (Closes why handle) old session new out out_new h limit from is reads
      (closes-done limit why before handle h.frames (g.after).value
      (larger_fits limit
      (frame_of (detach_frame before.session.fields.channel (own_detach handle true why))) least short) g.done)

  pub closed-rests : ClosedSo → Rests old new out out_new
  closed-rests h = done-rests (Closes why handle) old session new out out_new h

-- what holds of an answer that is no refusal
pub on-ok : {E X Y : Type 0} (r : Result ⊤ E) → (X → Y) → OnOk r X → OnOk r Y
on-ok (Ok done) f x = f x
on-ok (Err e) f x = x

pub on-err : {E X Y : Type 0} (r : Result ⊤ E) → (X → Y) → OnErr r X → OnErr r Y
on-err (Ok done) f x = x
on-err (Err e) f x = f x
