-- What a link that attaches hands out stands by itself, whatever was handed out before.
use Rattle.std.proofs.Common.{◌≡◌, ℕ, List, [], ◌∷◌, ◌++◌, Option, Some, None, refl, ap, ◌∙◌, append_assoc}
use Rattle.amqp_session_types.specs.declared.handles.InputHandle.{InputHandle}
use Rattle.amqp_session_performatives.specs.declared.session_frame.SessionFrame.{SessionFrame}
use Rattle.amqp_link.specs.declared.end.End.{End}
use Rattle.amqp_endpoint_attached.specs.Linked.{Linked}
use Rattle.amqp_endpoint_attached.specs.Links.{attach_frame}
use Rattle.amqp_endpoint_link_calls.specs.Attaching.{AttachedBy, AttachesIn}
use Rattle.amqp_endpoint_link_calls.specs.Places.{LinkTalk}
use Rattle.amqp_endpoint_link_calls.specs.declared.placed.Placed.{Placed}

module _ (before after : Linked) (out out_new : List SessionFrame) (limit : ℕ) (link : End) (placed : Placed) where
  record OwnBy (input : Option InputHandle) : Type 0 where
    pub frames : List SessionFrame
    pub queued : out_new ≡ out ++ frames
    pub attached : AttachedBy input before [] limit link placed after frames

  own-by : (input : Option InputHandle) → AttachedBy input before out limit link placed after out_new → OwnBy input
  own-by None (a, told) =
      record {
        frames = attach_frame before.session a.attach ∷ [];
        queued = a.handed;
        attached = (
          record {
            attach = a.attach;
            attaching = a.attaching;
            sends = a.sends;
            allocates = a.allocates;
            rest = a.rest;
            handed = refl;
          },
          told,
        );
      }
  own-by (Some input) a =
      let s = a.answers in
      let first : List SessionFrame = attach_frame a.ready.session s.attach ∷ [] in
      record {
        frames = first ++ a.frames;
        queued =
            a.queued ∙ ap (λ (fs : List SessionFrame). fs ++ a.frames) s.handed ∙ append_assoc out first a.frames;
        attached =
            record {
              ready = a.ready;
              makes_room = a.makes_room;
              answered = a.answered;
              handled = a.handled;
              mid = a.mid;
              out_mid = first;
              answers =
                  record {
                    asked = s.asked;
                    is_asked = s.is_asked;
                    attach = s.attach;
                    becomes = s.becomes;
                    exchanges = s.exchanges;
                    allocates = s.allocates;
                    kept = s.kept;
                    rest = s.rest;
                    handed = refl;
                  };
              frames = a.frames;
              behind = a.behind;
              goes = a.goes;
              queued = refl;
              told = a.told;
            };
      }

-- the frames of a link that attaches
pub record Own (old : LinkTalk) (out : List SessionFrame) (limit session : ℕ) (link : End) (placed : Placed)
    (new : LinkTalk) (out_new : List SessionFrame) : Type 0 where
  pub frames : List SessionFrame
  pub queued : out_new ≡ out ++ frames
  pub attaches : AttachesIn old [] limit session link placed new frames

pub own : (old new : LinkTalk) (out out_new : List SessionFrame) (limit session : ℕ) (link : End) (placed : Placed)
    → AttachesIn old out limit session link placed new out_new → Own old out limit session link placed new out_new
own old new out out_new limit session link placed a =
    let one = a.attached in
    let o =
    own-by (a.before).value (a.after).value out out_new limit link placed one.input one.attached in
    record {
      frames = o.frames;
      queued = o.queued;
      attaches =
          record {
            before = a.before;
            after = a.after;
            attached = record { input = one.input; meets = one.meets; attached = o.attached };
            held = a.held;
            stepped = a.stepped;
            rest = a.rest;
          };
    }
