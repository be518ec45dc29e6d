-- How many messages of links are open behind a disposition of the peer.
use Rattle.std.proofs.Common.{◌≡◌, ◌≤◌, ◌==◌, ℕ, List, [], ◌∷◌, Bool, true, false, cond, Option, Some, None, length}
use Rattle.std.proofs.Common.{All, refl, sym, ap, subst, ◌∙◌, arith}
use Rattle.std.specs.Prelude.{if◌then◌else◌, option_map, slice_index_or}
use Rattle.std.specs.Map.{remove_entry, set_value}
use Rattle.std.specs.Str.{bytes_eq}
use Rattle.amqp_session_types.specs.declared.modes.Role.{Role}
use Rattle.amqp_session_types.specs.declared.modes.Role.TheVariants as role
use Rattle.amqp_session_types.specs.declared.handles.OutputHandle.{OutputHandle}
use Rattle.amqp_session_states.specs.declared.delivery_state.DeliveryState.{DeliveryState}
use Rattle.amqp_session_performatives.specs.declared.disposition.Disposition.{Disposition}
use Rattle.amqp_session_outgoing.specs.Table.{Table}
use Rattle.amqp_session_core.specs.Disposing.{AreTouched}
use Rattle.amqp_session_core.specs.Echoes.{opposite, without}
use Rattle.amqp_session_core.specs.State.{link_at}
use Rattle.amqp_session_core.specs.Steps.{SendsDispositionStep, table_of, with_table}
use Rattle.amqp_session_core.specs.Told.{DispositionTaken}
use Rattle.amqp_session_core.specs.declared.dispositions.Touched.{Touched}
use Rattle.amqp_link_base.specs.State.{is_attached}
use Rattle.amqp_link_unsettled.specs.Messages.{MessageLists, disposed_at, open_at, resolved_as, told_at}
use Rattle.amqp_link_unsettled.specs.Resolutions.{ends, resolution_of}
use Rattle.amqp_link_unsettled.specs.Told.{told}
use Rattle.amqp_link_unsettled.specs.declared.open.Open.{Open}
use Rattle.amqp_link.specs.Ends.{state_of}
use Rattle.amqp_link.specs.declared.end.End.{End}
use Rattle.amqp_link.specs.declared.end.End.TheVariants.{Sender, Receiver}
use Rattle.amqp_endpoint_links.specs.declared.numbered.Numbered.{Numbered}
use Rattle.amqp_endpoint_attached.specs.Linked.{LinksIn, gives}
use Rattle.amqp_endpoint_messages.specs.All.{open_count}
use Rattle.amqp_endpoint_messages.specs.Dispositions.{SendsEach}
use Rattle.amqp_endpoint_messages.specs.Outcomes.{end_disposed, one_disposed}
use Rattle.amqp_endpoint_messages.specs.Reached.{behind_one, behind_reached, end_behind, link_behind}
use Rattle.amqp_endpoint_messages.proofs.EndedTold.{Link, all_disposed, disposed-at, disposed_link, link_told_on}
use Rattle.amqp_endpoint_messages.proofs.EndedTold.{mapped, told-at, walked-links}

-- how many messages of a link are open, where it is there
abbrev pub opens : Option Link → ℕ
opens o = open_count (option_map (λ (l : Link). l.link) o)

-- a message taken out or noted leaves no more
removed-short : {X : Type 0} → (q : List ℕ → Bool) (es : List (List ℕ × X)) → length (remove_entry q es) ≤ length es
removed-short q [] = omega arith
removed-short q (e ∷ es) = by (q e.0) (removed-short q es)
  where
    by : (c : Bool) → length (remove_entry q es) ≤ length es
        → length (cond c es (e ∷ remove_entry q es)) ≤ length (e ∷ es)
    by true less = omega arith
    by false less = omega (arith, less)

noted-short : {X : Type 0} → (q : List ℕ → Bool) (es : List (List ℕ × X)) (x : X)
    → length (set_value q es x) ≤ length es
noted-short q [] x = omega arith
noted-short q (e ∷ es) x = by (q e.0) (noted-short q es x)
  where
    by : (c : Bool) → length (set_value q es x) ≤ length es
        → length (cond c ((e.0, x) ∷ es) (e ∷ set_value q es x)) ≤ length (e ∷ es)
    by true less = omega arith
    by false less = omega (arith, less)

if-short : (a b : MessageLists) (n : ℕ) → length a.unsettled ≤ n → length b.unsettled ≤ n → (c : Bool)
    → length (if c then a else b).unsettled ≤ n
if-short a b n x y true = x
if-short a b n x y false = y

at-short : (m : MessageLists) (tag : List ℕ) (settled : Bool) (state : Option DeliveryState) (o : Option Open)
    → length (disposed_at m tag o settled state).unsettled ≤ length m.unsettled
at-short m tag settled state None = omega arith
at-short m tag settled state (Some message) =
    if-short (resolved_as m tag (resolution_of state))
    (record m { unsettled = told_at m.unsettled tag (Some message) state }) (length m.unsettled)
    (removed-short (bytes_eq tag) m.unsettled) (noted-short (bytes_eq tag) m.unsettled (told message state))
    (ends settled state)

end-short : (by_role : Role) (settled : Bool) (state : Option DeliveryState) (tag : List ℕ) (e : End)
    → open_count (Some (end_disposed by_role settled state tag e)) ≤ open_count (Some e)
end-short role.Receiver settled state tag (Sender s) =
    at-short s.messages tag settled state (open_at s.messages tag)
end-short role.Receiver settled state tag (Receiver r) = omega arith
end-short role.Sender settled state tag (Sender s) = omega arith
end-short role.Sender settled state tag (Receiver r) = omega arith

module _ (it : Disposition) where
  link-short : (tag : List ℕ) (o : Option Link) → opens (mapped (disposed_link it tag) o) ≤ opens o
  link-short tag None = omega arith
  link-short tag (Some link) = end-short it.role it.settled it.state tag link.link

  one-short : (s : LinksIn) (d : Touched) (h : ℕ) → opens (link_at (one_disposed it s d) h) ≤ opens (link_at s h)
  one-short s d h =
      subst (λ (o : Option Link). opens o ≤ opens (link_at s h)) (sym (disposed-at it s d h)) (by (d.handle.0 == h))
    where
      by : (b : Bool)
          → opens (if b then mapped (disposed_link it d.tag) (link_at s h) else link_at s h) ≤ opens (link_at s h)
      by true = link-short d.tag (link_at s h)
      by false = omega arith

  all-short : (h : ℕ) (s : LinksIn) (ds : List Touched)
      → opens (link_at (all_disposed it s ds) h) ≤ opens (link_at s h)
  all-short h s [] = omega arith
  all-short h s (d ∷ rest) = omega (arith, all-short h (one_disposed it s d) rest, one-short s d h)

-- no link has more messages open behind a disposition of the peer
pub opens-fall : (it : Disposition) (old new : LinksIn) (echoes : List Disposition) (ds : List Touched)
    → DispositionTaken gives old it echoes new → AreTouched it (table_of it.role old) ds → (h : ℕ)
    → opens (link_at new h) ≤ opens (link_at old h)
opens-fall it old new echoes ds t a h =
    subst (λ (ls : List (Option Link)). opens (slice_index_or ls h None) ≤ opens (link_at old h))
    (walked-links it old new echoes ds t a) (all-short it h old ds)

-- nor where links tell what became of messages
told-opens : (tag : List ℕ) (o : Option Link) → opens (mapped (link_told_on tag) o) ≡ opens o
told-opens tag None = refl
told-opens tag (Some link) = by link.link
  where
    by : (e : End) → open_count (Some (end_behind tag e)) ≡ open_count (Some e)
    by (Sender s) = refl
    by (Receiver r) = refl

one-told : (s : LinksIn) (d : Touched) (h : ℕ) → opens (link_at (behind_one s d) h) ≡ opens (link_at s h)
one-told s d h = ap opens (told-at s d h) ∙ by (d.handle.0 == h)
  where
    by : (b : Bool)
        → opens (if b then mapped (link_told_on d.tag) (link_at s h) else link_at s h) ≡ opens (link_at s h)
    by true = told-opens d.tag (link_at s h)
    by false = refl

pub reached-opens : (s : LinksIn) (ds : List Touched) (h : ℕ)
    → opens (link_at (behind_reached s ds) h) ≡ opens (link_at s h)
reached-opens s [] h = refl
reached-opens s (d ∷ rest) h = reached-opens (behind_one s d) rest h ∙ one-told s d h

-- what a session says of itself, and what waits in it, stays
pub record Stays (old new : LinksIn) : Type 0 where
  pub fields : new.fields ≡ old.fields
  pub queues : new.outgoing.queues ≡ old.outgoing.queues

stays-same : (s : LinksIn) → Stays s s
stays-same s = record { fields = refl; queues = refl }

stays-on : (old mid new : LinksIn) → Stays old mid → Stays mid new → Stays old new
stays-on old mid new a b = record { fields = b.fields ∙ a.fields; queues = b.queues ∙ a.queues }

table-stays : (by_role : Role) (table : Table) (s : LinksIn) → Stays s (with_table by_role table s)
table-stays role.Receiver table s = record { fields = refl; queues = refl }
table-stays role.Sender table s = record { fields = refl; queues = refl }

table-links : (by_role : Role) (table : Table) (s : LinksIn) → (with_table by_role table s).links ≡ s.links
table-links role.Receiver table s = refl
table-links role.Sender table s = refl

-- as a disposition of the peer is taken
pub taken-stays : (it : Disposition) (old new : LinksIn) (echoes : List Disposition)
    → DispositionTaken gives old it echoes new → Stays old new
taken-stays it old new echoes t =
    let mid : LinksIn = record old { links = new.links } in
    let behind : Stays old mid = record { fields = refl; queues = refl } in
    subst (λ (x : LinksIn). Stays old x) (sym (t.stepped).becomes)
    (stays-on old mid _ behind (table-stays it.role _ mid))

-- as links tell what became of messages
one-stays : (s : LinksIn) (h : ℕ) (tag : List ℕ) (o : Option Link) → Stays s (link_behind s h tag o)
one-stays s h tag None = stays-same s
one-stays s h tag (Some link) = record { fields = refl; queues = refl }

pub reached-stays : (s : LinksIn) (ds : List Touched) → Stays s (behind_reached s ds)
reached-stays s [] = stays-same s
reached-stays s (d ∷ rest) =
    stays-on s (behind_one s d) (behind_reached (behind_one s d) rest)
    (one-stays s d.handle.0 d.tag (link_at s d.handle.0)) (reached-stays (behind_one s d) rest)

-- and as Dispositions are sent, where the links stay too
step-stays : (settled : Bool) (old : LinksIn) (d : Disposition) (numbers : List ℕ) (new : LinksIn)
    → SendsDispositionStep gives settled old d numbers new → Stays old new × (new.links ≡ old.links)
step-stays false old d numbers new s =
    (subst (λ (x : LinksIn). Stays old x) (sym s.1) (stays-same old), ap (λ (x : LinksIn). x.links) s.1)
step-stays true old d numbers new s = (
  subst (λ (x : LinksIn). Stays old x) (sym s.1)
      (table-stays (opposite d.role) (without (table_of (opposite d.role) old) numbers) old),
  ap (λ (x : LinksIn). x.links) s.1
      ∙ table-links (opposite d.role) (without (table_of (opposite d.role) old) numbers) old,
)

pub sent-stays : (old : LinksIn) (told : List Disposition) (new : LinksIn) → SendsEach gives old told new
    → Stays old new × (new.links ≡ old.links)
sent-stays old [] new same =
    (subst (λ (x : LinksIn). Stays old x) (sym same) (stays-same old), ap (λ (x : LinksIn). x.links) same)
sent-stays old (d ∷ rest) new (mid, one, others) =
    let first = step-stays d.settled old d one.settled mid one.stepped in
    let later = sent-stays mid rest new others in
    (stays-on old mid new first.0 later.0, later.1 ∙ first.1)
