-- Credit that is given by a link of a session.
use Rattle.std.proofs.Common.{◌≡◌, ℕ, ◌<◌, ◌^◌, List, ◌++◌, true, Some, refl, sym, ◌∙◌, ap, subst}
use Rattle.std.specs.Prelude.{option_to_list, slice_set}
use Rattle.amqp_session_types.specs.declared.handles.OutputHandle.{OutputHandle}
use Rattle.amqp_session_performatives.specs.declared.link_flow.LinkFlow.{LinkFlow}
use Rattle.amqp_session_performatives.specs.declared.session_frame.SessionFrame.{SessionFrame}
use Rattle.amqp_session_core.specs.declared.batch.BehindFrame.TheVariants.{Flow}
use Rattle.amqp_session_core.specs.State.{link_at}
use Rattle.amqp_session_core.specs.Steps.{Step, SendsBehind}
use Rattle.amqp_link_receiver.specs.declared.flowing.Granted.{Granted}
use Rattle.amqp_link_receiver.specs.State.{ReceiverState}
use Rattle.amqp_link.specs.declared.end.End.{End}
use Rattle.amqp_link.specs.declared.end.End.TheVariants.{Sender, Receiver}
use Rattle.amqp_endpoint_links.specs.declared.numbered.Numbered.{Numbered}
use Rattle.amqp_endpoint_attached.specs.Linked.{Linked, LinksIn, gives}
use Rattle.amqp_endpoint_attached.specs.Receiving.{CreditGiven, DrainWanted, DrainsIn, GivesCredit, GivesIn, WantsDrain, is_receiving}
use Rattle.amqp_endpoint_attached.specs.Sent.{HandsOut}

module _ (s : LinksIn) (handle : OutputHandle) where
  -- another end in a link's place
  abbrev with_end : ℕ → End → LinksIn
  with_end number end =
      record s { links = slice_set s.links handle.0 (Some (record { number = number; link = end })) }

  gives_in_by : (number credit : ℕ) (granted : Granted) (before after : End)
      → Some (record { number = number; link = before }) ≡ link_at s handle.0 → is_receiving (Some before) ≡ true
      → GivesCredit before credit granted after → GivesIn s handle credit granted (with_end number after)
  gives_in_by number credit granted (Sender t) after there is gave = absurd gave
  gives_in_by number credit granted (Receiver r) (Sender t) there is gave = absurd gave
  gives_in_by number credit granted (Receiver r) (Receiver t) there is gave =
      record {
        number = number;
        receiver = r;
        attached = is;
        told = gave.0;
        changed = (sym there, ap (λ (x : ReceiverState). with_end number (Receiver x)) gave.1);
      }

  -- a link's end gave credit in its session
  pub gives_in : (n : Numbered End) (credit : ℕ) (granted : Granted) (after : End) → Some n ≡ link_at s handle.0
      → is_receiving (Some n.link) ≡ true → GivesCredit n.link credit granted after
      → GivesIn s handle credit granted
      (record s { links = slice_set s.links handle.0 (Some (record n { link = after })) })
  gives_in n credit granted after there is gave = gives_in_by n.number credit granted n.link after there is gave

  drains_in_by : (number : ℕ) (flow : LinkFlow) (before after : End)
      → Some (record { number = number; link = before }) ≡ link_at s handle.0 → is_receiving (Some before) ≡ true
      → WantsDrain before flow after → DrainsIn s handle flow (with_end number after)
  drains_in_by number flow (Sender t) after there is wants = absurd wants
  drains_in_by number flow (Receiver r) (Sender t) there is wants = absurd wants
  drains_in_by number flow (Receiver r) (Receiver t) there is wants =
      record {
        number = number;
        receiver = r;
        attached = is;
        told = wants.0;
        changed = (sym there, ap (λ (x : ReceiverState). with_end number (Receiver x)) wants.1);
      }

  -- or wants it used up
  pub drains_in : (n : Numbered End) (flow : LinkFlow) (after : End) → Some n ≡ link_at s handle.0
      → is_receiving (Some n.link) ≡ true → WantsDrain n.link flow after
      → DrainsIn s handle flow (record s { links = slice_set s.links handle.0 (Some (record n { link = after })) })
  drains_in n flow after there is wants = drains_in_by n.number flow n.link after there is wants

-- the Flow on the link's own handle
abbrev on_handle : OutputHandle → LinkFlow → LinkFlow
on_handle handle flow = record flow { handle = record { 0 = handle.0 } }

-- the credit is given, and its Flow handed out
pub credit_given : (old : Linked) (handle : OutputHandle) (credit : ℕ) (granted : Granted) (mid new : LinksIn)
    (out out_mid out_new : List SessionFrame) → credit < 2 ^ 31 → GivesIn old.session handle credit granted mid
    → out_mid ≡ out → HandsOut gives mid handle (Flow (on_handle handle granted.flow)) out_mid new out_new
    → CreditGiven old handle credit granted.left out (record old { session = new }) out_new
credit_given old handle credit granted mid new out out_mid out_new in_range gave same handed =
    record {
      number = gave.number;
      receiver = gave.receiver;
      frames = option_to_list handed.answer;
      attached = gave.attached;
      in_range = in_range;
      was_left = ap (λ (g : Granted). g.left) gave.told;
      sent =
          record {
            mid = mid;
            changed = gave.changed;
            left = handed.left;
            answer = handed.answer;
            sent =
                subst (λ (g : Granted). Step gives mid
                (SendsBehind handle (Flow (on_handle handle g.flow)) handed.left handed.answer) new)
                gave.told handed.sent;
            frames_are = refl;
            rest = refl;
          };
      added = handed.added ∙ ap (λ (frames : List SessionFrame). frames ++ option_to_list handed.answer) same;
    }

pub drain_wanted : (old : Linked) (handle : OutputHandle) (flow : LinkFlow) (mid new : LinksIn)
    (out out_mid out_new : List SessionFrame) → DrainsIn old.session handle flow mid
    → out_mid ≡ out → HandsOut gives mid handle (Flow (on_handle handle flow)) out_mid new out_new
    → DrainWanted old handle out (record old { session = new }) out_new
drain_wanted old handle flow mid new out out_mid out_new wants same handed =
    record {
      number = wants.number;
      receiver = wants.receiver;
      frames = option_to_list handed.answer;
      attached = wants.attached;
      sent =
          record {
            mid = mid;
            changed = wants.changed;
            left = handed.left;
            answer = handed.answer;
            sent =
                subst (λ (f : LinkFlow). Step gives mid
                (SendsBehind handle (Flow (on_handle handle f)) handed.left handed.answer) new)
                wants.told handed.sent;
            frames_are = refl;
            rest = refl;
          };
      added = handed.added ∙ ap (λ (frames : List SessionFrame). frames ++ option_to_list handed.answer) same;
    }
