-- A Detach that the peer takes.
use Rattle.std.proofs.Common.{◌≡◌, ◌≤◌, ◌<◌, ℕ, Bool, true, false, sym}
use Rattle.std.proofs.Common.{ap, subst, ◌∙◌}
use Rattle.std.specs.Prelude.{◌^◌, ◌↔◌, IsTrue, Option, Some, None, if◌then◌else◌}
use Rattle.serde_amqp_item.specs.Canon.{canon}
use Rattle.amqp_session_types.specs.declared.channels.OutgoingChannel.{OutgoingChannel}
use Rattle.amqp_session_performatives.specs.Detach.{detach_item}
use Rattle.amqp_session_performatives.specs.declared.detach.Detach.{Detach}
use Rattle.amqp_link_unsettled.specs.Listing.{FitsText}
use Rattle.amqp_endpoint_model.specs.State.{fits, frame_of}
use Rattle.amqp_session_types.specs.declared.error.Error.{Error}
use Rattle.amqp_session_types.specs.declared.handles.OutputHandle.{OutputHandle}
use Rattle.amqp_endpoint_fitting.proofs.Frames.{detach_fits, larger_fits}
use Rattle.amqp_endpoint_attached.specs.Detaching.{own_detach}
use Rattle.amqp_endpoint_messages.proofs.Sizes.{fits-text, same-test, text-fits}
use Rattle.amqp_endpoint_link_hearing.specs.Leaving.{detach_frame, repeated}

pub detach-fits-so : (limit : ℕ) → limit < 2 ^ 32 → (channel : OutgoingChannel) (detach : Detach) (r : Bool)
    → (IsTrue r ↔ FitsText limit (canon (detach_item detach)))
    → r ≡ fits limit (frame_of (detach_frame channel detach))
detach-fits-so limit small channel detach r is =
    same-test (FitsText limit (canon (detach_item detach))) r (fits limit (frame_of (detach_frame channel detach))) is
    (λ h. text-fits limit channel.0 (canon (detach_item detach)) small h)
    (λ h. fits-text limit channel.0 (canon (detach_item detach)) h)

-- the peer's error is repeated, or left out
abbrev pub AnswerFits : ℕ → OutgoingChannel → OutputHandle → Bool → Option Error → Bool
AnswerFits limit channel handle closed error =
    fits limit (frame_of (detach_frame channel (own_detach handle closed error)))

module _ (limit : ℕ) (channel : OutgoingChannel) (handle : OutputHandle) (closed : Bool) (error e : Option Error)
    (is : e ≡ error) where
  pub repeated-kept : AnswerFits limit channel handle closed e ≡ true
      → (e ≡ repeated limit channel handle closed error)
      × (512 ≤ limit → AnswerFits limit channel handle closed e ≡ true)
  repeated-kept fit =
      let so : AnswerFits limit channel handle closed error ≡ true =
      subst (λ (x : Option Error). AnswerFits limit channel handle closed x ≡ true) is fit in (
        is ∙ sym (ap (λ (b : Bool). if b then error else None) so),
        λ least. fit,
      )

  pub repeated-none : AnswerFits limit channel handle closed e ≡ false → handle.0 < 2 ^ 32
      → (None ≡ repeated limit channel handle closed error)
      × (512 ≤ limit → AnswerFits limit channel handle closed None ≡ true)
  repeated-none fit small =
      let so : AnswerFits limit channel handle closed error ≡ false =
      subst (λ (x : Option Error). AnswerFits limit channel handle closed x ≡ false) is fit in (
        sym (ap (λ (b : Bool). if b then error else None) so),
        λ least.
            larger_fits limit (frame_of (detach_frame channel (own_detach handle closed None))) least
            (detach_fits channel.0 (own_detach handle closed None) (record { handle = small; error = tt })),
      )
