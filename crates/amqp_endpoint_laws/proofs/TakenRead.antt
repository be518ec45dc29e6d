-- The frames that come in a session are read of one attachment by a name and a count.
use Rattle.std.proofs.Common.{◌≡◌, ◌&&◌, ℕ, suc, Bool, true, false, List, [], ◌∷◌, ◌++◌, ap, append_assoc, refl}
use Rattle.std.proofs.Common.{sym, ◌∙◌}
use Rattle.std.proofs.lemmas.List.{append-nil}
use Rattle.std.proofs.lemmas.Slice.Eq.{bytes_eq-Decides}
use Rattle.std.specs.Prelude.{if◌then◌else◌}
use Rattle.amqp_session_types.specs.declared.modes.Role.TheVariants.{Sender}
use Rattle.amqp_session_performatives.specs.declared.attach.Attach.{Attach}
use Rattle.amqp_session_frames.specs.declared.frame.FrameBody.{FrameBody}
use Rattle.amqp_session_frames.specs.declared.frame.FrameBody.TheVariants as body
use Rattle.amqp_link_base.specs.Readings.{Piece, Reading, brought, nothing, opened, read_on, readings}
use Rattle.amqp_link_base.specs.Said.{Said, whole}
use Rattle.amqp_endpoint_conversation.specs.Windows.{Came, Passing, Went}
use Rattle.amqp_endpoint_laws.specs.Attachments.{Follows, Past, Stand, Waits, attachment, is_named, is_sending}
use Rattle.amqp_endpoint_laws.specs.Attachments.{named_behind, piece_at, pieces_from, stand_behind, uses}
use Rattle.amqp_endpoint_laws.specs.Handed.{piece_on, pieces_come}
use Rattle.amqp_endpoint_laws.specs.Passed.{came_in}
use Rattle.amqp_endpoint_laws.specs.Taken.{IsOther, NoneAttaches}
use Rattle.amqp_endpoint_laws.proofs.HandedOut.{readings-both}

-- what comes among both of two lists of what passes
pub came-both : (ps qs : List Passing) → came_in (ps ++ qs) ≡ came_in ps ++ came_in qs
came-both [] qs = refl
came-both (Came it ∷ ps) qs = ap (λ (xs : List FrameBody). it ∷ xs) (came-both ps qs)
came-both (Went frame ∷ ps) qs = came-both ps qs

-- and the transfers on a handle among both of two lists of what comes
pub come-both : (theirs : ℕ) (first later : List FrameBody)
    → pieces_come theirs (first ++ later) ≡ pieces_come theirs first ++ pieces_come theirs later
come-both theirs [] later = refl
come-both theirs (it ∷ first) later =
    ap (λ (xs : List Piece). piece_on theirs it ++ xs) (come-both theirs first later)
    ∙ sym (append_assoc (piece_on theirs it) (pieces_come theirs first) (pieces_come theirs later))

pub none-both : (theirs : ℕ) (first later : List FrameBody) → NoneAttaches theirs first → NoneAttaches theirs later
    → NoneAttaches theirs (first ++ later)
none-both theirs [] later none more = more
none-both theirs (it ∷ first) later (one, none) more = (one, none-both theirs first later none more)

module _ (name : List ℕ) where
  -- a sending end's Attach with the name
  pub named-so : (attach : Attach) → attach.name ≡ name → attach.role ≡ Sender → is_named name attach ≡ true
  named-so attach is sends =
      ap (λ (b : Bool). b && is_sending attach.role) ((bytes_eq-Decides attach.name name).1 is)
      ∙ ap is_sending sends

  -- all Attaches that come before it pass by
  waits-one : (same : Bool) (handle n : ℕ) (came : List FrameBody)
      → pieces_from name (if same then named_behind (if same then suc n else n) handle
      else Waits (if same then suc n else n)) came
      ≡ pieces_from name (Waits n) came
  waits-one true handle n came = refl
  waits-one false handle n came = refl

  waited-by : (it : FrameBody) (first later : List FrameBody)
      → attachment name (uses name first) (first ++ later) ≡ attachment name 0 later
      → attachment name (uses name (it ∷ first)) (it ∷ first ++ later) ≡ attachment name 0 later
  waited-by (body.Attach attach) first later rest =
      waits-one (is_named name attach) attach.handle.0 (uses name first) (first ++ later) ∙ rest
  waited-by it first later rest = rest

  waited : (first later : List FrameBody)
      → attachment name (uses name first) (first ++ later) ≡ attachment name 0 later
  waited [] later = refl
  waited (it ∷ first) later = waited-by it first later (waited first later)

  -- its handle is its own from its Attach on
  stands-still : (theirs : ℕ) (it : FrameBody) → IsOther theirs it → stand_behind name (Follows theirs) it ≡ Follows theirs
  stands-still theirs (body.Attach attach) other =
      ap (λ (b : Bool). if b then Past else Follows theirs) other
  stands-still theirs it other = refl

  followed : (theirs : ℕ) (came : List FrameBody) → NoneAttaches theirs came
      → pieces_from name (Follows theirs) came ≡ pieces_come theirs came
  followed theirs [] none = refl
  followed theirs (it ∷ came) (other, none) =
      ap (λ (xs : List Piece). piece_on theirs it ++ xs)
      (ap (λ (stand : Stand). pieces_from name stand came) (stands-still theirs it other)
      ∙ followed theirs came none)

  -- an attachment is read as the transfers on its handle, as long as no other Attach takes that
  pub attachment-read : (attach : Attach) (earlier later : List FrameBody) → is_named name attach ≡ true
      → NoneAttaches attach.handle.0 later
      → attachment name (uses name earlier) (earlier ++ body.Attach attach ∷ later)
      ≡ pieces_come attach.handle.0 later
  attachment-read attach earlier later is none =
      waited earlier (body.Attach attach ∷ later)
      ∙ ap (λ (b : Bool). pieces_from name (if b then Follows attach.handle.0 else Waits 0) later) is
      ∙ followed attach.handle.0 later none

  -- of a beginning of the frames one reads a beginning
  stands-behind : (stand : Stand) (first later : List FrameBody)
      → (rest : List Piece) × (pieces_from name stand (first ++ later) ≡ pieces_from name stand first ++ rest)
  stands-behind stand [] later = (pieces_from name stand later, refl)
  stands-behind stand (it ∷ first) later =
      let (rest, is) = stands-behind (stand_behind name stand it) first later in (
        rest,
        ap (λ (xs : List Piece). piece_at stand it ++ xs) is
            ∙ sym (append_assoc (piece_at stand it) (pieces_from name (stand_behind name stand it) first) rest),
      )

  begins-read : (others : ℕ) (first later : List FrameBody)
      → (rest : List Piece)
      × (attachment name others (first ++ later) ≡ attachment name others first ++ rest)
  begins-read others first later = stands-behind (Waits others) first later

-- more transfers say no message less
grows : (aborted more : Bool) (r : Reading) (d : Said)
    → (rest : List Said) × ((brought aborted more r d).messages ≡ r.messages ++ rest)
grows true more r d = ([], sym (append-nil r.messages))
grows false true r d = ([], sym (append-nil r.messages))
grows false false r d = (whole d ∷ [], refl)

pub more-said : (r : Reading) (ps : List Piece) → (rest : List Said) × ((readings r ps).messages ≡ r.messages ++ rest)
more-said r [] = ([], sym (append-nil r.messages))
more-said r (p ∷ ps) =
    let (one, is) = grows p.performative.aborted p.performative.more r (opened r.held p) in
    let (later, are) = more-said (read_on r p) ps in
    (one ++ later, are ∙ ap (λ (xs : List Said). xs ++ later) is ∙ append_assoc r.messages one later)

-- so of a beginning of the frames one reads a beginning of the messages
pub begins-said : (name : List ℕ) (others : ℕ) (first later : List FrameBody)
    → (rest : List Said)
    × ((readings nothing (attachment name others (first ++ later))).messages
    ≡ (readings nothing (attachment name others first)).messages ++ rest)
begins-said name others first later =
    let (ps, is) = begins-read name others first later in
    let read : List Piece = attachment name others first in
    let (rest, more) = more-said (readings nothing read) ps in (
      rest,
      ap (λ (xs : List Piece). (readings nothing xs).messages) is
          ∙ ap (λ (r : Reading). r.messages) (readings-both nothing read ps) ∙ more,
    )
