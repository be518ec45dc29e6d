-- Of no deliveries nothing is told, and nothing changes.
use Rattle.std.proofs.Common.{◌≡◌, ℕ, Bool, List, [], ◌∷◌, ◌++◌, map, length, arith, refl, sym, ap, subst}
use Rattle.std.proofs.Common.{◌∙◌, append-nil}
use Rattle.std.proofs.lemmas.List.{length-map, set-get_or}
use Rattle.std.proofs.lemmas.List.Sorted.{length_permutation}
use Rattle.std.specs.Prelude.{Option, Some, None, Result, Ok, Err, replicate, slice_set}
use Rattle.amqp_session_types.specs.declared.handles.OutputHandle.{OutputHandle}
use Rattle.amqp_session_states.specs.declared.delivery_state.DeliveryState.{DeliveryState}
use Rattle.amqp_session_performatives.specs.declared.disposition.Disposition.{Disposition}
use Rattle.amqp_session_performatives.specs.declared.session_frame.SessionFrame.{SessionFrame}
use Rattle.amqp_link_receiver.specs.declared.disposable.Disposable.{Disposable}
use Rattle.amqp_link_receiver.specs.declared.disposable.DisposeRefusal.{DisposeRefusal}
use Rattle.amqp_link_receiver.specs.DisposingAll.{Named, each_disposed, run_disposition, runs_of}
use Rattle.amqp_endpoint_links.specs.declared.numbered.Numbered.{Numbered}
use Rattle.amqp_link.specs.declared.end.End.{End}
use Rattle.amqp_endpoint_attached.specs.Linked.{Linked, LinksIn, gives}
use Rattle.amqp_endpoint_attached.specs.Receiving.{receiving}
use Rattle.amqp_endpoint_messages.specs.Disposing.{DisposesOfAll}
use Rattle.amqp_endpoint_messages.specs.Dispositions.{IsDisposed, SendsEach, frames_of}

empty : {X : Type 0} → (xs : List X) → length xs ≡ 0 → xs ≡ []
empty [] e = refl
empty (x ∷ xs) e = absurd (omega (arith, e))

abbrev those : Result Named DisposeRefusal → Named
those (Ok named) = named
those (Err why) = []

module _ (handle : OutputHandle) (state : DeliveryState) (asked : Option Bool) (old mid : LinksIn)
    (told : List Disposition) (d : DisposesOfAll handle [] state asked old told mid) where
  none-named : d.named ≡ []
  none-named = sym (ap those d.are_named)

  none-ordered : (d.tells).ordered ≡ []
  none-ordered =
      let deliveries : List Disposable = map (λ (e : List ℕ × Disposable). e.1) d.named in
      empty (d.tells).ordered
      (length_permutation deliveries (d.tells).ordered ((d.tells).in_order).same
      ∙ length-map d.named (λ (e : List ℕ × Disposable). e.1)
      ∙ ap length none-named)

  none-told : told ≡ []
  none-told =
      (d.tells).is
      ∙ ap (λ (l : List Disposable).
      map (run_disposition ((d.receiver.base).terms).rcv_settle_mode state asked) (runs_of l)) none-ordered

  abbrev with_link : Option (Numbered End) → LinksIn
  with_link o = record old { links = slice_set old.links handle.0 o }

  none-changed : mid ≡ old
  none-changed =
      d.changed.1
      ∙ ap (λ (n : Named).
      with_link (Some (receiving d.number (each_disposed d.receiver n (replicate (length n) state) asked)))) none-named
      ∙ ap with_link (sym d.changed.0)
      ∙ ap (λ (l : List (Option (Numbered End))). record old { links = l }) (set-get_or old.links handle.0 None)

pub none-disposed : (limit : ℕ) (old new : Linked) (handle : OutputHandle) (state : DeliveryState)
    (asked : Option Bool) (out out_new : List SessionFrame)
    → IsDisposed (DisposesOfAll handle [] state asked) limit old out new out_new → (new ≡ old) × (out_new ≡ out)
none-disposed limit old new handle state asked out out_new did =
    let none : did.told ≡ [] = none-told handle state asked old.session did.mid did.told did.disposes in
    let stays : new.session ≡ did.mid =
    subst (λ (l : List Disposition). SendsEach gives did.mid l new.session) none did.sends in (
      did.rest
          ∙ ap (λ (s : LinksIn). record old { session = s })
          (stays ∙ none-changed handle state asked old.session did.mid did.told did.disposes),
      did.added
          ∙ ap (λ (l : List Disposition). out ++ frames_of (old.session).fields l) none
          ∙ append-nil out,
    )
