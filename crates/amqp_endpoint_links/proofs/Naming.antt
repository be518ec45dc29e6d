-- The handles of asked links by their names, as links come and go.
use Rattle.std.proofs.lemmas.Bool.Decides.{eqb_tells}
use Rattle.std.proofs.lemmas.Slice.Eq.{bytes_eq-Decides}
use Rattle.std.proofs.Common.{◌≡◌, ◌≢◌, ◌⊎◌, inl, inr, ℕ, Bool, true, false, true≢false, cond, List, [], Option, Some, None, refl, sym, ap, subst, IsSome, IfSome, ◌∙◌, ◌==◌}
use Rattle.std.specs.Ordering.{nat_cmp}
use Rattle.std.specs.FinMap as map
use Rattle.std.specs.FinMap.{get-empty}
use Rattle.std.specs.Map.{lookup}
use Rattle.std.specs.Str.{bytes_eq}
use Rattle.amqp_session_performatives.specs.declared.link_flow.LinkFlow.{LinkFlow}
use Rattle.amqp_endpoint_links.specs.declared.links.AskedLink.{AskedLink}
use Rattle.amqp_endpoint_links.specs.Asked.{Asked, HasName, IsNewName}
use Rattle.amqp_endpoint_links.specs.Inside.{AreNamed}
use Rattle.amqp_session_types.proofs.Tables.{get-put, get-take, get-put-other, get-take-other}

abbrev Handles : Type 0
Handles = List (List ℕ × ℕ)

-- two names are one, or they aren't
told_apart : (x y : List ℕ) → ((bytes_eq x y ≡ true) × (x ≡ y)) ⊎ ((bytes_eq x y ≡ false) × (x ≢ y))
told_apart x y = by (bytes_eq x y) refl
  where
    by : (b : Bool) → bytes_eq x y ≡ b → ((bytes_eq x y ≡ true) × (x ≡ y)) ⊎ ((bytes_eq x y ≡ false) × (x ≢ y))
    by true e = inl (e, (bytes_eq-Decides x y).0 e)
    by false e = inr (e, λ same. true≢false (sym ((bytes_eq-Decides x y).1 same) ∙ e))

some≢none : {X : Type 0} {x : X} → Some x ≡ None → ⊥
some≢none e = absurd cc

eqb_of : (x y : ℕ) → x ≡ y → (x == y) ≡ true
eqb_of x y e = by (eqb_tells x y)
  where
    by : (((x == y) ≡ true) × (x ≡ y)) ⊎ (((x == y) ≡ false) × (x ≢ y)) → (x == y) ≡ true
    by (inl p) = p.0
    by (inr p) = absurd (p.1 e)

some_apart : {X : Type 0} (x y : X) → Some x ≡ Some y → x ≡ y
some_apart x y e = cc

-- no links have no names
pub none-named : (asked : Asked) (handles : Handles) → asked ≡ map.empty → handles ≡ [] → AreNamed asked handles
none-named asked handles nothing none =
    record {
      each = λ handle link there. absurd (some≢none (sym there ∙ ap (λ (t : Asked). map.get t handle) nothing ∙ get-empty nat_cmp handle));
      only = λ name handle found. absurd (some≢none (sym found ∙ ap (λ (hs : Handles). lookup (bytes_eq name) hs) none));
    }

module _ (asked : Asked) (handles : Handles) (named : AreNamed asked handles) where
  -- a name that no handle stands under is new
  pub new_name : (name : List ℕ) → lookup (bytes_eq name) handles ≡ None → IsNewName asked name
  new_name name none handle link there is =
      let found = ap (λ (n : List ℕ). lookup (bytes_eq n) handles) (sym is) ∙ named.each handle link there in
      absurd (some≢none (sym found ∙ none))

  -- and a new name has no handle
  pub no_handle : (name : List ℕ) → IsNewName asked name → lookup (bytes_eq name) handles ≡ None
  no_handle name new = by (lookup (bytes_eq name) handles) refl
    where
      by : (o : Option ℕ) → lookup (bytes_eq name) handles ≡ o → lookup (bytes_eq name) handles ≡ None
      by None e = e
      by (Some handle) e = let h = named.only name handle e in absurd (new handle h.link h.there h.is)

  module _ (link : AskedLink) (handle : ℕ) (more : Handles) where
    -- a link is asked for under a new name and a vacant handle
    pub asked-named : map.get asked handle ≡ None → lookup (bytes_eq (link.attach).name) handles ≡ None
        → ((q : List ℕ) → lookup (bytes_eq q) more ≡ cond (bytes_eq (link.attach).name q) (Some handle) (lookup (bytes_eq q) handles))
        → AreNamed (map.insert asked handle link) more
    asked-named vacant new u = record { each = each; only = only }
      where
        name : List ℕ
        name = (link.attach).name

        each : (h : ℕ) (l : AskedLink) → map.get (map.insert asked handle link) h ≡ Some l → lookup (bytes_eq (l.attach).name) more ≡ Some h
        each h l there = by (eqb_tells h handle)
          where
            own : h ≡ handle → link ≡ l → lookup (bytes_eq (l.attach).name) more ≡ Some h
            own is same =
                u (l.attach).name
                ∙ ap (λ (b : Bool). cond b (Some handle) (lookup (bytes_eq (l.attach).name) handles)) ((bytes_eq-Decides name (l.attach).name).1 (ap (λ (k : AskedLink). (k.attach).name) same))
                ∙ ap (λ (k : ℕ). Some k) (sym is)

            others : map.get asked h ≡ Some l → lookup (bytes_eq (l.attach).name) more ≡ Some h
            others was = by_name (told_apart name (l.attach).name)
              where
                by_name : ((bytes_eq name (l.attach).name ≡ true) × (name ≡ (l.attach).name)) ⊎ ((bytes_eq name (l.attach).name ≡ false) × (name ≢ (l.attach).name))
                    → lookup (bytes_eq (l.attach).name) more ≡ Some h
                by_name (inl p) = absurd (some≢none (sym (named.each h l was) ∙ ap (λ (n : List ℕ). lookup (bytes_eq n) handles) (sym p.1) ∙ new))
                by_name (inr p) =
                    u (l.attach).name
                    ∙ ap (λ (b : Bool). cond b (Some handle) (lookup (bytes_eq (l.attach).name) handles)) p.0
                    ∙ named.each h l was

            by : (((h == handle) ≡ true) × (h ≡ handle)) ⊎ (((h == handle) ≡ false) × (h ≢ handle)) → lookup (bytes_eq (l.attach).name) more ≡ Some h
            by (inl p) =
                own p.1 (some_apart link l (sym (get-put asked handle h link ∙ ap (λ (b : Bool). cond b (Some link) (map.get asked h)) p.0) ∙ there))
            by (inr p) = others (sym (get-put-other asked handle h link p.1) ∙ there)

        only : (n : List ℕ) (h : ℕ) → lookup (bytes_eq n) more ≡ Some h → HasName (map.insert asked handle link) h n
        only n h found = by (told_apart name n)
          where
            by : ((bytes_eq name n ≡ true) × (name ≡ n)) ⊎ ((bytes_eq name n ≡ false) × (name ≢ n)) → HasName (map.insert asked handle link) h n
            by (inl p) =
                let is : handle ≡ h = some_apart handle h (sym (u n ∙ ap (λ (b : Bool). cond b (Some handle) (lookup (bytes_eq n) handles)) p.0) ∙ found) in
                record {
                  link = link;
                  there =
                      get-put asked handle h link
                      ∙ ap (λ (b : Bool). cond b (Some link) (map.get asked h)) (eqb_of h handle (sym is));
                  is = p.1;
                }
            by (inr p) =
                let h_old = named.only n h (sym (u n ∙ ap (λ (b : Bool). cond b (Some handle) (lookup (bytes_eq n) handles)) p.0) ∙ found) in
                record {
                  link = h_old.link;
                  there = get-put-other asked handle h link (apart h_old.link h_old.there) ∙ h_old.there;
                  is = h_old.is;
                }
              where
                apart : (l : AskedLink) → map.get asked h ≡ Some l → h ≢ handle
                apart l there is = some≢none (sym there ∙ ap (λ (k : ℕ). map.get asked k) is ∙ vacant)

    -- a link is taken out
    pub taken-named : map.get asked handle ≡ Some link
        → ((q : List ℕ) → lookup (bytes_eq q) more ≡ cond (bytes_eq (link.attach).name q) None (lookup (bytes_eq q) handles))
        → AreNamed (map.remove asked handle) more
    taken-named there u = record { each = each; only = only }
      where
        name : List ℕ
        name = (link.attach).name

        each : (h : ℕ) (l : AskedLink) → map.get (map.remove asked handle) h ≡ Some l → lookup (bytes_eq (l.attach).name) more ≡ Some h
        each h l left = by (eqb_tells h handle)
          where
            others : h ≢ handle → map.get asked h ≡ Some l → lookup (bytes_eq (l.attach).name) more ≡ Some h
            others ne was = by_name (told_apart name (l.attach).name)
              where
                by_name : ((bytes_eq name (l.attach).name ≡ true) × (name ≡ (l.attach).name)) ⊎ ((bytes_eq name (l.attach).name ≡ false) × (name ≢ (l.attach).name))
                    → lookup (bytes_eq (l.attach).name) more ≡ Some h
                by_name (inl p) =
                    absurd (ne (some_apart h handle (sym (named.each h l was) ∙ ap (λ (n : List ℕ). lookup (bytes_eq n) handles) (sym p.1) ∙ named.each handle link there)))
                by_name (inr p) =
                    u (l.attach).name
                    ∙ ap (λ (b : Bool). cond b None (lookup (bytes_eq (l.attach).name) handles)) p.0
                    ∙ named.each h l was

            by : (((h == handle) ≡ true) × (h ≡ handle)) ⊎ (((h == handle) ≡ false) × (h ≢ handle)) → lookup (bytes_eq (l.attach).name) more ≡ Some h
            by (inl p) = absurd (some≢none (sym left ∙ get-take asked handle h ∙ ap (λ (b : Bool). cond b None (map.get asked h)) p.0))
            by (inr p) = others p.1 (sym (get-take-other asked handle h p.1) ∙ left)

        only : (n : List ℕ) (h : ℕ) → lookup (bytes_eq n) more ≡ Some h → HasName (map.remove asked handle) h n
        only n h found = by (told_apart name n)
          where
            by : ((bytes_eq name n ≡ true) × (name ≡ n)) ⊎ ((bytes_eq name n ≡ false) × (name ≢ n)) → HasName (map.remove asked handle) h n
            by (inl p) = absurd (some≢none (sym found ∙ u n ∙ ap (λ (b : Bool). cond b None (lookup (bytes_eq n) handles)) p.0))
            by (inr p) =
                let h_old = named.only n h (sym (u n ∙ ap (λ (b : Bool). cond b None (lookup (bytes_eq n) handles)) p.0) ∙ found) in
                record {
                  link = h_old.link;
                  there = get-take-other asked handle h (apart h_old.link h_old.there h_old.is) ∙ h_old.there;
                  is = h_old.is;
                }
              where
                apart : (l : AskedLink) → map.get asked h ≡ Some l → (l.attach).name ≡ n → h ≢ handle
                apart l was is same =
                    p.1 (ap (λ (k : AskedLink). (k.attach).name) (some_apart link l (sym there ∙ ap (λ (k : ℕ). map.get asked k) (sym same) ∙ was)) ∙ is)

  -- something else than its name is told of a link
  pub told-named : (handle : ℕ) (link told : AskedLink) → map.get asked handle ≡ Some link → (told.attach).name ≡ (link.attach).name
      → AreNamed (map.insert asked handle told) handles
  told-named handle link told there same = record { each = each; only = only }
    where
      each : (h : ℕ) (l : AskedLink) → map.get (map.insert asked handle told) h ≡ Some l → lookup (bytes_eq (l.attach).name) handles ≡ Some h
      each h l left = by (eqb_tells h handle)
        where
          by : (((h == handle) ≡ true) × (h ≡ handle)) ⊎ (((h == handle) ≡ false) × (h ≢ handle)) → lookup (bytes_eq (l.attach).name) handles ≡ Some h
          by (inl p) =
              let is : told ≡ l = some_apart told l (sym (get-put asked handle h told ∙ ap (λ (b : Bool). cond b (Some told) (map.get asked h)) p.0) ∙ left) in
              ap (λ (k : AskedLink). lookup (bytes_eq (k.attach).name) handles) (sym is)
              ∙ ap (λ (n : List ℕ). lookup (bytes_eq n) handles) same
              ∙ named.each handle link there
              ∙ ap (λ (k : ℕ). Some k) (sym p.1)
          by (inr p) = named.each h l (sym (get-put-other asked handle h told p.1) ∙ left)

      only : (n : List ℕ) (h : ℕ) → lookup (bytes_eq n) handles ≡ Some h → HasName (map.insert asked handle told) h n
      only n h found = by (eqb_tells h handle)
        where
          h_old : HasName asked h n
          h_old = named.only n h found

          by : (((h == handle) ≡ true) × (h ≡ handle)) ⊎ (((h == handle) ≡ false) × (h ≢ handle)) → HasName (map.insert asked handle told) h n
          by (inl p) =
              record {
                link = told;
                there = get-put asked handle h told ∙ ap (λ (b : Bool). cond b (Some told) (map.get asked h)) p.0;
                is =
                    same
                    ∙ ap (λ (k : AskedLink). (k.attach).name) (some_apart link h_old.link (sym there ∙ ap (λ (k : ℕ). map.get asked k) (sym p.1) ∙ h_old.there))
                    ∙ h_old.is;
              }
          by (inr p) =
              record {
                link = h_old.link;
                there = get-put-other asked handle h told p.1 ∙ h_old.there;
                is = h_old.is;
              }

  -- so it is with what a Flow tells of the link with its handle
  pub flow-named : (handle : ℕ) (flow : LinkFlow) (new : Asked) → IsSome (map.get asked handle)
      → IfSome (map.get asked handle) (λ link. new ≡ map.insert asked handle (record link { flow = Some flow })) → AreNamed new handles
  flow-named handle flow new = by (map.get asked handle) refl
    where
      by : (o : Option AskedLink) → map.get asked handle ≡ o → IsSome o → IfSome o (λ link. new ≡ map.insert asked handle (record link { flow = Some flow })) → AreNamed new handles
      by None e there told = absurd cc
      by (Some link) e there told =
          subst (λ (t : Asked). AreNamed t handles) (sym told) (told-named handle link (record link { flow = Some flow }) e refl)
