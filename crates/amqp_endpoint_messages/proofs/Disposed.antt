-- Deliveries of a session are disposed of, and the Dispositions that tell it are sent.
use Rattle.std.proofs.Common.{◌≡◌, ℕ, ◌<◌, ◌^◌, Bool, true, List, [], ◌∷◌, ◌++◌, All, Some, refl, sym, ap, subst, ◌∙◌}
use Rattle.std.proofs.lemmas.List.Elements.{All-nil, All-cons}
use Rattle.std.specs.Prelude.{◌&&◌, Option, Result, Ok, Err, option_map}
use Rattle.amqp_session_types.specs.declared.handles.OutputHandle.{OutputHandle}
use Rattle.amqp_session_states.specs.declared.delivery_state.DeliveryState.{DeliveryState}
use Rattle.amqp_session_performatives.specs.declared.disposition.Disposition.{Disposition}
use Rattle.amqp_session_performatives.specs.declared.session_frame.SessionFrame.{SessionFrame}
use Rattle.amqp_session_core.specs.declared.fields.SessionFields.{SessionFields}
use Rattle.amqp_session_core.specs.Steps.{Changes, Step}
use Rattle.amqp_link_receiver.specs.declared.disposable.Disposable.{Disposable}
use Rattle.amqp_link_receiver.specs.declared.disposable.DisposeRefusal.{DisposeRefusal}
use Rattle.amqp_link_receiver.specs.DisposingAll.{AllPrepared, Named, Prepared, TellsRuns, named_all}
use Rattle.amqp_link_receiver.specs.State.{ReceiverState}
use Rattle.amqp_link_receiver.proofs.Prepared.{committed-is}
use Rattle.amqp_link.specs.declared.end.End.{End}
use Rattle.amqp_link.specs.declared.end.End.TheVariants.{Receiver}
use Rattle.amqp_endpoint_links.specs.declared.numbered.Numbered.{Numbered}
use Rattle.amqp_endpoint_attached.specs.Linked.{Linked, LinksIn, end_in, gives}
use Rattle.amqp_endpoint_attached.specs.Receiving.{receiving}
use Rattle.amqp_endpoint_messages.specs.Disposing.{Commits, DisposesOfAll, DisposesOfOne, EndPrepares}
use Rattle.amqp_endpoint_messages.specs.Dispositions.{IsDisposed, SendsEach, SendsOne, frames_of}
use Rattle.amqp_endpoint_messages.specs.Longest.{all_fit}
use Rattle.amqp_endpoint_messages.specs.Refusals.{delivery_fits, fits_by, one_fits}
use Rattle.amqp_endpoint_messages.proofs.DispositionsSent.{all-kept}
use Rattle.amqp_endpoint_messages.proofs.StatesTold.{Tells, are-receivers, runs-tell, told-fit}

-- whatever is disposed of so by links alone
module _ (Disposes : LinksIn → List Disposition → LinksIn → Type 0) (limit : ℕ) (old : Linked) (state : DeliveryState)
    (told : List Disposition) (mid new : LinksIn) (did : Disposes old.session told mid)
    (links : mid ≡ record old.session { links = mid.links }) (tells : All (Tells state) told)
    (sends : SendsEach gives mid told new) where
  same-fields : mid.fields ≡ old.session.fields
  same-fields = ap (λ (s : LinksIn). s.fields) links

  disposed-so : (out room out_new : List SessionFrame) → limit < 2 ^ 32 → all_fit limit told ≡ true
      → room ≡ out → out_new ≡ room ++ frames_of mid.fields told
      → IsDisposed Disposes limit old out (record old { session = new }) out_new
  disposed-so out room out_new least fit kept added =
      record {
        told = told;
        mid = mid;
        disposes = did;
        sends = sends;
        rest = refl;
        added =
            added
            ∙ ap (λ (fs : List SessionFrame). fs ++ frames_of mid.fields told) kept
            ∙ ap (λ (f : SessionFields). out ++ frames_of f told) same-fields;
        fit = told-fit limit (old.session).fields told least fit;
      }

  waits-so : (new.outgoing ≡ old.session.outgoing) × (new.fields ≡ old.session.fields)
  waits-so =
      let kept = all-kept gives mid told new (are-receivers state told tells) sends in (
        kept.0 ∙ ap (λ (s : LinksIn). s.outgoing) links,
        kept.1 ∙ same-fields,
      )

-- the receiving link of a session that is changed
there : (old : LinksIn) (handle : OutputHandle) (number : ℕ) (before after : ReceiverState) (new : LinksIn)
    → Step gives old (Changes handle.0 (receiving number before) (receiving number after)) new
    → end_in old handle ≡ Some (Receiver before)
there old handle number before after new step =
    ap (λ (o : Option (Numbered End)). option_map (λ (n : Numbered End). n.link) o) step.0

-- all of several, as it was made ready
module _ (old : LinksIn) (handle : OutputHandle) (tags : List (List ℕ)) (state : DeliveryState) (asked : Option Bool)
    (p : Prepared) (told : List Disposition) (mid : LinksIn) (same : told ≡ p.told) (c : Commits handle p old mid)
  where
    done-by : (n : Result Named DisposeRefusal) → named_all c.receiver tags ≡ n → AllPrepared n c.receiver state asked p
        → DisposesOfAll handle tags state asked old told mid
    done-by (Err why) are ready = absurd ready
    done-by (Ok named) are ready =
        record {
          number = c.number;
          receiver = c.receiver;
          attached = c.attached;
          named = named;
          are_named = are;
          tells =
              subst
              (λ (l : List Disposition). TellsRuns (c.receiver.base.terms).rcv_settle_mode named state asked l)
              (sym same) ready.tells;
          changed =
              subst
              (λ (r : ReceiverState).
              Step gives old (Changes handle.0 (receiving c.number c.receiver) (receiving c.number r)) mid)
              (committed-is c.receiver named state asked p ready.are_named ready.are_copies ready.is_asked) c.changed;
        }

    pub all-done : EndPrepares (end_in old handle) tags state asked p
        → DisposesOfAll handle tags state asked old told mid
    all-done ready =
        done-by (named_all c.receiver tags) refl
        (subst (λ (o : Option End). EndPrepares o tags state asked p)
        (there old handle c.number c.receiver _ mid c.changed) ready)

-- all of several
module _ (limit : ℕ) (old : Linked) (handle : OutputHandle) (tags : List (List ℕ)) (state : DeliveryState)
    (asked : Option Bool) (told : List Disposition) (mid new : LinksIn)
    (did : DisposesOfAll handle tags state asked old.session told mid) (sends : SendsEach gives mid told new)
  where
    all-links : mid ≡ record old.session { links = mid.links }
    all-links = did.changed.1 ∙ ap (λ (s : LinksIn). record old.session { links = s.links }) (sym did.changed.1)

    all-tell : All (Tells state) told
    all-tell =
        runs-tell (did.receiver.base.terms).rcv_settle_mode did.named state asked told did.tells

    pub all-disposed : (out room out_new : List SessionFrame) → limit < 2 ^ 32 → all_fit limit told ≡ true
        → room ≡ out → out_new ≡ room ++ frames_of mid.fields told
        → IsDisposed (DisposesOfAll handle tags state asked) limit old out (record old { session = new }) out_new
    all-disposed =
        disposed-so (DisposesOfAll handle tags state asked) limit old state told mid new did all-links all-tell sends

    pub all-waits : (new.outgoing ≡ old.session.outgoing) × (new.fields ≡ old.session.fields)
    all-waits =
        waits-so (DisposesOfAll handle tags state asked) limit old state told mid new did all-links all-tell sends

-- one
module _ (limit : ℕ) (old : Linked) (handle : OutputHandle) (tag : List ℕ) (state : DeliveryState)
    (asked : Option Bool) (one : Disposition) (mid new : LinksIn)
    (did : DisposesOfOne handle tag state asked old.session (one ∷ []) mid) (sent : SendsOne gives mid one new)
  where
    one-links : mid ≡ record old.session { links = mid.links }
    one-links = did.changed.1 ∙ ap (λ (s : LinksIn). record old.session { links = s.links }) (sym did.changed.1)

    one-tells : All (Tells state) (one ∷ [])
    one-tells =
        subst (λ (l : List Disposition). All (Tells state) l) (sym did.tells)
        (All-cons (Tells state) _ [] refl (All-nil (Tells state)))

    sends-one : SendsEach gives mid (one ∷ []) new
    sends-one = (new, sent, refl)

    link-is : end_in old.session handle ≡ Some (Receiver did.receiver)
    link-is = there old.session handle did.number did.receiver _ mid did.changed

    -- the Disposition that was looked at is the one that goes
    one-fit : one_fits limit (end_in old.session handle) tag state asked ≡ true → all_fit limit (one ∷ []) ≡ true
    one-fit fit =
        let fits : delivery_fits limit did.receiver did.delivery state asked ≡ true =
        sym
        (ap (λ (o : Option End). one_fits limit o tag state asked) link-is
        ∙ ap (λ (d : Result Disposable DisposeRefusal). fits_by limit did.receiver d state asked) did.is_kept)
        ∙ fit in
        ap (λ (l : List Disposition). all_fit limit l) did.tells ∙ ap (λ (b : Bool). b && true) fits

    pub one-disposed : one_fits limit (end_in old.session handle) tag state asked ≡ true
        → (out room out_new : List SessionFrame) → limit < 2 ^ 32 → room ≡ out → out_new ≡ room ++ frames_of mid.fields (one ∷ [])
        → IsDisposed (DisposesOfOne handle tag state asked) limit old out (record old { session = new }) out_new
    one-disposed fit out room out_new least kept added =
        disposed-so (DisposesOfOne handle tag state asked) limit old state (one ∷ []) mid new did one-links one-tells
        sends-one out room out_new least (one-fit fit) kept added

    pub one-waits : (new.outgoing ≡ old.session.outgoing) × (new.fields ≡ old.session.fields)
    one-waits =
        waits-so (DisposesOfOne handle tag state asked) limit old state (one ∷ []) mid new did one-links one-tells
        sends-one
