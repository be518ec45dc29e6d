-- Which of the peer's handles leads to a link.
use Rattle.std.proofs.Common.{◌≡◌, ◌≢◌, ◌⊎◌, inl, inr, ⊎_elim, ℕ, Bool, true, false, true≢false, Option, Some, None}
use Rattle.std.proofs.Common.{Result, Ok, Err, OnOk, OnErr, refl, sym, ap, ◌∙◌, ◌==◌, eq-eqb, ne_eqb}
use Rattle.std.proofs.lemmas.Bool.{cond-true, cond-false}
use Rattle.std.proofs.lemmas.Bool.Decides.{eqb_tells}
use Rattle.std.proofs.lemmas.Option.{none-some, same_Some}
use Rattle.std.specs.Ordering.{nat_cmp}
use Rattle.std.specs.FinMap as map
use Rattle.std.specs.FinMap.{get-empty}
use Rattle.amqp_session_core.specs.Tables.{RouteTable, IsSole, is_to, leads, leads_by, unless_to}
use Rattle.amqp_session_types.proofs.Tables.{get-put, get-put-other, get-take}

which : (a b : ℕ) → (a ≡ b) ⊎ (a ≢ b)
which a b = ⊎_elim (λ p. inl p.1) (λ p. inr p.1) (eqb_tells a b)

-- the same under the number itself, and without it
module _ (t : RouteTable) (key : ℕ) where
  get-put-same : (v : ℕ) → map.get (map.insert t key v) key ≡ Some v
  get-put-same v = get-put t key key v ∙ cond-true (key == key) (Some v) (map.get t key) (eq-eqb key key refl)

  get-take-same : map.get (map.remove t key) key ≡ None
  get-take-same = get-take t key key ∙ cond-true (key == key) None (map.get t key) (eq-eqb key key refl)

  get-take-other : (q : ℕ) → q ≢ key → map.get (map.remove t key) q ≡ map.get t q
  get-take-other q ne = get-take t key q ∙ cond-false (q == key) None (map.get t q) (ne_eqb q key ne)

-- a route to this link is taken away, and another isn't
module _ (link : ℕ) where
  is_to-same : (o : Option ℕ) → o ≡ Some link → is_to link o ≡ true
  is_to-same None same = absurd (none-some _ same)
  is_to-same (Some to) same = eq-eqb to link (same_Some _ _ same)

  unless-same : (o : Option ℕ) → is_to link o ≡ true → None ≡ unless_to link o
  unless-same None same = refl
  unless-same (Some to) same = sym (cond-true (to == link) None (Some to) same)

  unless-other : (o : Option ℕ) → o ≢ Some link → o ≡ unless_to link o
  unless-other None other = refl
  unless-other (Some to) other =
      sym (cond-false (to == link) None (Some to) (ne_eqb to link (λ e. other (ap (λ (n : ℕ). Some n) e))))

  unless-is : (to : ℕ) (o : Option ℕ) → unless_to link o ≡ Some to → (o ≡ Some to) × (to ≢ link)
  unless-is to None is = absurd (none-some _ is)
  unless-is to (Some x) is =
      elim (which x link) [
        | inl e ↦ absurd (none-some _ (sym (cond-true (x == link) None (Some x) (eq-eqb x link e)) ∙ is))
        | inr ne ↦
            let same : Some x ≡ Some to = sym (cond-false (x == link) None (Some x) (ne_eqb x link ne)) ∙ is in
            (same, λ e. ne (same_Some _ _ same ∙ e))
      ]

module _ (handles noted : RouteTable) where
  -- no route is there to be noted
  pub sole-none : handles ≡ map.empty → IsSole handles noted false
  sole-none none not h l has =
      absurd (none-some _ (sym (ap (λ (t : RouteTable). map.get t h) none ∙ get-empty nat_cmp h) ∙ has))

  -- a handle is noted for a link to which none led
  module _ (handle link : ℕ) (was : IsSole handles noted false) (none : leads handles noted link ≡ false) where
    never-led : (h : ℕ) → map.get handles h ≢ Some link
    never-led h has =
        true≢false
        (sym (ap (leads_by handles link) (was refl h link has) ∙ is_to-same link (map.get handles h) has) ∙ none)

    -- each route is that of the handle, or was there
    sole-put : (new : RouteTable)
        → ((h l : ℕ) → map.get new h ≡ Some l → ((h ≡ handle) × (l ≡ link)) ⊎ (map.get handles h ≡ Some l))
        → IsSole new (map.insert noted link handle) false
    sole-put new routes not h l has =
        elim (routes h l has) [
          | inl this ↦
              ap (λ (k : ℕ). map.get (map.insert noted link handle) k) this.1 ∙ get-put-same noted link handle
              ∙ ap (λ (k : ℕ). Some k) (sym this.0)
          | inr old ↦
              elim (which l link) [
                | inl e ↦ absurd (never-led h (old ∙ ap (λ (k : ℕ). Some k) e))
                | inr ne ↦ get-put-other noted link l handle ne ∙ was refl h l old
              ]
        ]

    -- the handle leads to the link then, or there was no memory for that
    pub sole-tried : {T E : Type 0} (result : Result T E) (new : RouteTable)
        → OnOk result (new ≡ map.insert handles handle link) → OnErr result (new ≡ handles)
        → IsSole new (map.insert noted link handle) false
    sole-tried (Err e) new ok err = sole-put new (λ h l has. inr (ap (λ (t : RouteTable). map.get t h) (sym err) ∙ has))
    sole-tried (Ok x) new ok err =
        sole-put new (λ h l has.
        let put : map.get (map.insert handles handle link) h ≡ Some l =
        ap (λ (t : RouteTable). map.get t h) (sym ok) ∙ has in
        elim (which h handle) [
          | inl e ↦
              inl (
                e,
                same_Some _ _ (sym put ∙ ap (λ (k : ℕ). map.get (map.insert handles handle link) k) e
                    ∙ get-put-same handles handle link),
              )
          | inr ne ↦ inr (sym (get-put-other handles handle h link ne) ∙ put)
        ])

  module _ (several : Bool) (was : IsSole handles noted several) where
    -- a route less
    pub sole-less : (handle : ℕ) → IsSole (map.remove handles handle) noted several
    sole-less handle not h l has =
        elim (which h handle) [
          | inl e ↦
              absurd (none-some _ (sym (ap (λ (k : ℕ). map.get (map.remove handles handle) k) e
              ∙ get-take-same handles handle) ∙ has))
          | inr ne ↦ was not h l (sym (get-take-other handles handle h ne) ∙ has)
        ]

    -- no route to a link
    pub sole-forgotten : (link : ℕ) (left : RouteTable)
        → ((h : ℕ) → map.get left h ≡ unless_to link (map.get handles h)) → IsSole left (map.remove noted link) several
    sole-forgotten link left are not h l has =
        let found : (map.get handles h ≡ Some l) × (l ≢ link) =
        unless-is link l (map.get handles h) (sym (are h) ∙ has) in
        get-take-other noted link l found.1 ∙ was not h l found.0

-- the one handle that leads to a link leads there no longer
pub led-here : (handles : RouteTable) (link handle : ℕ)
    → ((h : ℕ) → map.get handles h ≡ Some link → Some handle ≡ Some h) → is_to link (map.get handles handle) ≡ true
    → (h : ℕ) → map.get (map.remove handles handle) h ≡ unless_to link (map.get handles h)
led-here handles link handle sole here h =
    elim (which h handle) [
      | inl e ↦
          ap (λ (k : ℕ). map.get (map.remove handles handle) k) e ∙ get-take-same handles handle
          ∙ unless-same link (map.get handles handle) here
          ∙ ap (λ (k : ℕ). unless_to link (map.get handles k)) (sym e)
      | inr ne ↦
          get-take-other handles handle h ne
          ∙ unless-other link (map.get handles h) (λ has. ne (sym (same_Some _ _ (sole h has))))
    ]
