-- Tables of sessions by channel, of which one entry is new, beside those that are read.
use Rattle.std.proofs.Common.{◌≡◌, ◌≢◌, ◌⊎◌, inl, inr, ℕ, suc, ◌+◌, ◌==◌, Bool, true, false, cond, Option, Some}
use Rattle.std.proofs.Common.{None}
use Rattle.std.proofs.Common.{ap, arith, refl, sym, subst, ◌∙◌}
use Rattle.std.specs.Prelude.{if◌then◌else◌}
use Rattle.std.proofs.lemmas.Bool.Decides.{eqb_tells}
use Rattle.std.proofs.lemmas.Option.{none-some, same_Some}
use Rattle.amqp_endpoint_tables.specs.State.{first_of}
use Rattle.amqp_endpoint_laws.specs.Beside.{Role, Nowhere, AskedOn, Has, Gone, IsLed, from}
use Rattle.amqp_endpoint_laws.specs.Reading.{ByChannel, Reader, own_begins, peer_begins, peer_ends, unless_it}
use Rattle.amqp_endpoint_laws.specs.Reading.{with_at}
use Rattle.amqp_endpoint_laws.specs.Reading.{without}

module _ {X : Type 0} where
  -- one entry is new
  abbrev pub IsPut : (ℕ → X) → ℕ → X → (ℕ → X) → Type 0
  IsPut old n x new = (m : ℕ) → new m ≡ cond (m == n) x (old m)

  -- it is here, or it is another
  pub data Found (old : ℕ → X) (n : ℕ) (x : X) (new : ℕ → X) (m : ℕ) : Type 0 where
    here : (m == n) ≡ true → m ≡ n → new m ≡ x → Found old n x new m
    apart : (m == n) ≡ false → m ≢ n → new m ≡ old m → Found old n x new m

  pub found : (old : ℕ → X) (n : ℕ) (x : X) (new : ℕ → X) → IsPut old n x new → (m : ℕ) → Found old n x new m
  found old n x new put m = by (eqb_tells m n)
    where
      by : (((m == n) ≡ true) × (m ≡ n)) ⊎ (((m == n) ≡ false) × (m ≢ n)) → Found old n x new m
      by (inl p) = here p.0 p.1 (put m ∙ ap (λ (b : Bool). cond b x (old m)) p.0)
      by (inr p) = apart p.0 p.1 (put m ∙ ap (λ (b : Bool). cond b x (old m)) p.0)

-- what is read of one new entry
pub put-read : (base : ℕ) (old new : ByChannel) (table : ByChannel) (n : ℕ) (x : Option ℕ) (is : Option ℕ)
    → x ≡ from base is → IsPut old n x new → ((m : ℕ) → old m ≡ from base (table m)) → (m : ℕ)
    → new m ≡ from base (with_at table n is m)
put-read base old new table n x is same put was m = by (found old n x new put m)
  where
    by : Found old n x new m → new m ≡ from base (if m == n then is else table m)
    by (here e eq so) = so ∙ same ∙ sym (ap (λ (b : Bool). from base (if b then is else table m)) e)
    by (apart e ne so) = so ∙ was m ∙ sym (ap (λ (b : Bool). from base (if b then is else table m)) e)

-- a session that is over, by the number that it has here
shifted : (base n m : ℕ) → (base + m == base + n) ≡ (m == n)
shifted base n m = by (eqb_tells m n) (eqb_tells (base + m) (base + n))
  where
    by : (((m == n) ≡ true) × (m ≡ n)) ⊎ (((m == n) ≡ false) × (m ≢ n))
        → (((base + m == base + n) ≡ true) × (base + m ≡ base + n))
        ⊎ (((base + m == base + n) ≡ false) × (base + m ≢ base + n)) → (base + m == base + n) ≡ (m == n)
    by (inl p) (inl q) = q.0 ∙ sym p.0
    by (inr p) (inr q) = q.0 ∙ sym p.0
    by (inl p) (inr q) = absurd (q.1 (ap (λ (k : ℕ). base + k) p.1))
    by (inr p) (inl q) = absurd (p.1 (omega (arith, q.1)))

from-if : (base m : ℕ) (b : Bool)
    → from base (if b then None else Some m) ≡ (if b then None else Some (base + m))
from-if base m true = refl
from-if base m false = refl

pub unless-read : (base n : ℕ) (o : Option ℕ)
    → unless_it (base + n) (from base o) ≡ from base (unless_it n o)
unless-read base n None = refl
unless-read base n (Some m) =
    ap (λ (b : Bool). if b then None else Some (base + m)) (shifted base n m) ∙ sym (from-if base m (m == n))

pub over-read : (base n : ℕ) (old new table : ByChannel) → ((m : ℕ) → new m ≡ unless_it (base + n) (old m))
    → ((m : ℕ) → old m ≡ from base (table m)) → (m : ℕ) → new m ≡ from base (without n table m)
over-read base n old new table drops was m =
    drops m ∙ ap (unless_it (base + n)) (was m) ∙ unless-read base n (table m)

pub first-read : (base : ℕ) (a b : Option ℕ) → first_of (from base a) (from base b) ≡ from base (first_of a b)
first-read base None b = refl
first-read base (Some n) b = refl

-- a session stays where another is over, and one that is over goes
pub unless-same : (n : ℕ) → unless_it n (Some n) ≡ None
unless-same n = by (eqb_tells n n)
  where
    by : (((n == n) ≡ true) × (n ≡ n)) ⊎ (((n == n) ≡ false) × (n ≢ n)) → (if n == n then None else Some n) ≡ None
    by (inl p) = ap (λ (b : Bool). if b then None else Some n) p.0
    by (inr p) = absurd (p.1 refl)

pub unless-other : (n m : ℕ) → m ≢ n → unless_it n (Some m) ≡ Some m
unless-other n m ne = by (eqb_tells m n)
  where
    by : (((m == n) ≡ true) × (m ≡ n)) ⊎ (((m == n) ≡ false) × (m ≢ n)) → (if m == n then None else Some m) ≡ Some m
    by (inl p) = absurd (ne p.1)
    by (inr p) = ap (λ (b : Bool). if b then None else Some m) p.0

-- the number of a session whose role is such
abbrev pub when_has : ℕ → Role → Option ℕ
when_has n (Has channel) = Some n
when_has n role = None

abbrev pub when_asks : ℕ → Role → Option ℕ
when_asks n (AskedOn channel) = Some n
when_asks n role = None

abbrev pub via : (ℕ → Role → Option ℕ) → (ℕ → Role) → Option ℕ → Option ℕ
via tells role None = None
via tells role (Some n) = tells n (role n)

-- it tells the number, or nothing
abbrev pub Tells : (ℕ → Role → Option ℕ) → Type 0
Tells tells = (n : ℕ) (role : Role) → (tells n role ≡ None) ⊎ (tells n role ≡ Some n)

pub has-tells : Tells when_has
has-tells n Nowhere = inl refl
has-tells n (AskedOn channel) = inl refl
has-tells n (Has channel) = inr refl
has-tells n Gone = inl refl

pub asks-tells : Tells when_asks
asks-tells n Nowhere = inl refl
asks-tells n (AskedOn channel) = inr refl
asks-tells n (Has channel) = inl refl
asks-tells n Gone = inl refl

-- nothing changes for the session that is told
pub via-same : (tells : ℕ → Role → Option ℕ) (old new : ℕ → Role) (o p : Option ℕ) → p ≡ o
    → ((m : ℕ) → o ≡ Some m → tells m (new m) ≡ tells m (old m)) → via tells new p ≡ via tells old o
via-same tells old new o p is same = ap (via tells new) is ∙ by o same
  where
    by : (o : Option ℕ) → ((m : ℕ) → o ≡ Some m → tells m (new m) ≡ tells m (old m))
        → via tells new o ≡ via tells old o
    by None same = refl
    by (Some m) same = same m refl

-- a session is over
pub via-gone : (tells : ℕ → Role → Option ℕ) → Tells tells → (n : ℕ) → tells n Gone ≡ None
    → (old new : ℕ → Role) → IsPut old n Gone new → (o p : Option ℕ) → p ≡ o
    → via tells new p ≡ unless_it n (via tells old o)
via-gone tells which n none old new put o p is = ap (via tells new) is ∙ by o
  where
    at : (m : ℕ) → m ≢ n → (tells m (old m) ≡ None) ⊎ (tells m (old m) ≡ Some m)
        → tells m (old m) ≡ unless_it n (tells m (old m))
    at m ne (inl e) = e ∙ sym (ap (unless_it n) e)
    at m ne (inr e) = e ∙ sym (unless-other n m ne) ∙ sym (ap (unless_it n) e)

    over : (m : ℕ) → (tells m (old m) ≡ None) ⊎ (tells m (old m) ≡ Some m) → m ≡ n
        → None ≡ unless_it n (tells m (old m))
    over m (inl e) same = sym (ap (unless_it n) e)
    over m (inr e) same = sym (ap (unless_it n) (e ∙ ap Some same) ∙ unless-same n)

    one : (m : ℕ) → Found old n Gone new m → tells m (new m) ≡ unless_it n (tells m (old m))
    one m (here e same so) =
        ap (tells m) so ∙ ap (λ (k : ℕ). tells k Gone) same ∙ none ∙ over m (which m (old m)) same
    one m (apart e ne so) = ap (tells m) so ∙ at m ne (which m (old m))

    by : (o : Option ℕ) → via tells new o ≡ unless_it n (via tells old o)
    by None = refl
    by (Some m) = one m (found old n Gone new put m)

-- sessions and their channels, as one sees them from outside
pub record View : Type 0 where
  pub count : ℕ
  pub live : ByChannel
  pub routes : ByChannel
  pub asked : ByChannel
  pub role : ℕ → Role

abbrev pub led_in : View → ByChannel
led_in v channel = via when_has v.role (v.routes channel)

abbrev pub asked_in : View → ByChannel
asked_in v channel = via when_asks v.role (v.asked channel)

pub record Stand (v : View) : Type 0 where
  pub has : (n c : ℕ) → v.role n ≡ Has c → v.live c ≡ Some n
  pub had : (n c : ℕ) → v.live c ≡ Some n → v.role n ≡ Has c
  pub asks : (n c : ℕ) → v.role n ≡ AskedOn c → v.asked c ≡ Some n
  pub asked : (n c e : ℕ) → v.asked c ≡ Some n → v.role n ≡ AskedOn e → e ≡ c
  pub led_there : (n c : ℕ) → v.routes c ≡ Some n → IsLed (v.role n)
  pub asked_there : (n c : ℕ) → v.asked c ≡ Some n → v.role n ≡ Nowhere → ⊥

pub record Agree (base : ℕ) (r : Reader) (v : View) : Type 0 where
  pub count : v.count ≡ base + r.begun
  pub own : (c : ℕ) → v.live c ≡ from base (r.own c)
  pub led : (c : ℕ) → led_in v c ≡ from base (r.led c)
  pub asked : (c : ℕ) → asked_in v c ≡ from base (r.asked c)

-- roles are told apart
pub not-both : {A : Type 0} (channel other : ℕ) → Has channel ≡ AskedOn other → A
not-both channel other e = absurd cc

has-not-nowhere : {A : Type 0} (channel : ℕ) → Has channel ≡ Nowhere → A
has-not-nowhere channel e = absurd cc

asks-not-nowhere : {A : Type 0} (channel : ℕ) → AskedOn channel ≡ Nowhere → A
asks-not-nowhere channel e = absurd cc

gone-not : {A : Type 0} (role : Role) → Gone ≡ role → ((role ≡ Gone) → ⊥) → A
gone-not role e ne = absurd (ne (sym e))

pub same-channel : (c d : ℕ) → Has c ≡ Has d → c ≡ d
same-channel c d e = cc

same-asked : (c d : ℕ) → AskedOn c ≡ AskedOn d → c ≡ d
same-asked c d e = cc

-- all is as before
module _ (v w : View) (count : w.count ≡ v.count) (live : (c : ℕ) → w.live c ≡ v.live c)
    (routes : (c : ℕ) → w.routes c ≡ v.routes c) (asked : (c : ℕ) → w.asked c ≡ v.asked c)
    (role : (n : ℕ) → w.role n ≡ v.role n) where
  pub still-stand : Stand v → Stand w
  still-stand s =
      record {
        has = λ n c e. live c ∙ s.has n c (sym (role n) ∙ e);
        had = λ n c e. role n ∙ s.had n c (sym (live c) ∙ e);
        asks = λ n c e. asked c ∙ s.asks n c (sym (role n) ∙ e);
        asked = λ n c e a b. s.asked n c e (sym (asked c) ∙ a) (sym (role n) ∙ b);
        led_there = λ n c a. subst IsLed (sym (role n)) (s.led_there n c (sym (routes c) ∙ a));
        asked_there = λ n c a b. s.asked_there n c (sym (asked c) ∙ a) (sym (role n) ∙ b);
      }

  pub still-agree : (base : ℕ) (r : Reader) → Agree base r v → Agree base r w
  still-agree base r a =
      record {
        count = count ∙ a.count;
        own = λ c. live c ∙ a.own c;
        led = λ c.
            via-same when_has v.role w.role (v.routes c) (w.routes c) (routes c)
            (λ m e. ap (when_has m) (role m)) ∙ a.led c;
        asked = λ c.
            via-same when_asks v.role w.role (v.asked c) (w.asked c) (asked c)
            (λ m e. ap (when_asks m) (role m)) ∙ a.asked c;
      }

-- a session that is new stands in no table yet
new-same : (tells : ℕ → Role → Option ℕ) (n : ℕ) (role : Role) (old new : ℕ → Role) → IsPut old n role new
    → (m : ℕ) → m ≢ n → tells m (new m) ≡ tells m (old m)
new-same tells n role old new put m ne = by (found old n role new put m)
  where
    by : Found old n role new m → tells m (new m) ≡ tells m (old m)
    by (here e same so) = absurd (ne same)
    by (apart e other so) = ap (tells m) so

-- a session begins here, with a channel that none has
module _ (v w : View) (n channel : ℕ) (is_next : n ≡ v.count) (is_new : v.role n ≡ Nowhere)
    (vacant : v.live channel ≡ None) (count : w.count ≡ suc v.count) (live : IsPut v.live channel (Some n) w.live)
    (routes : (c : ℕ) → w.routes c ≡ v.routes c) (asked : (c : ℕ) → w.asked c ≡ v.asked c)
    (role : IsPut v.role n (Has channel) w.role) where
  pub begun-agree : (base : ℕ) (r : Reader) → Stand v → Agree base r v → Agree base (own_begins None channel r) w
  begun-agree base r s a =
      record {
        count =
            let e : v.count ≡ base + r.begun = a.count in
            let f : w.count ≡ suc v.count = count in
            omega (arith, e, f);
        own =
            put-read base v.live w.live r.own channel (Some n) (Some r.begun)
            (ap Some (is_next ∙ a.count)) live a.own;
        led = λ c.
            via-same when_has v.role w.role (v.routes c) (w.routes c) (routes c)
            (λ m e.
            new-same when_has n (Has channel) v.role w.role role m
            (λ same. subst IsLed (ap v.role same ∙ is_new) (s.led_there m c e))) ∙ a.led c;
        asked = λ c.
            via-same when_asks v.role w.role (v.asked c) (w.asked c) (asked c)
            (λ m e.
            new-same when_asks n (Has channel) v.role w.role role m
            (λ same. s.asked_there m c e (ap v.role same ∙ is_new))) ∙ a.asked c;
      }

  pub begun-stand : Stand v → Stand w
  begun-stand s =
      record {
        has = λ m c e. has m c e (found v.role n (Has channel) w.role role m);
        had = λ m c e. had m c e (found v.live channel (Some n) w.live live c);
        asks = λ m c e. asks m c e (found v.role n (Has channel) w.role role m);
        asked = λ m c other a e. asks_one m c other a e (found v.role n (Has channel) w.role role m);
        led_there = λ m c a. there m c a (found v.role n (Has channel) w.role role m);
        asked_there = λ m c a e. asked_so m c a e (found v.role n (Has channel) w.role role m);
      }
    where
      with_live : (m c : ℕ) → v.live c ≡ Some m → Found v.live channel (Some n) w.live c → w.live c ≡ Some m
      with_live m c e (here b same so) = absurd (none-some m (sym vacant ∙ ap v.live (sym same) ∙ e))
      with_live m c e (apart b ne so) = so ∙ e

      has : (m c : ℕ) → w.role m ≡ Has c → Found v.role n (Has channel) w.role m → w.live c ≡ Some m
      has m c e (here b same so) =
          let is : channel ≡ c = same-channel channel c (sym so ∙ e) in
          at_it m c is same (found v.live channel (Some n) w.live live c)
        where
          at_it : (m c : ℕ) → channel ≡ c → m ≡ n → Found v.live channel (Some n) w.live c → w.live c ≡ Some m
          at_it m c is same (here b eq so) = so ∙ ap Some (sym same)
          at_it m c is same (apart b ne so) = absurd (ne (sym is))
      has m c e (apart b ne so) =
          with_live m c (s.has m c (sym so ∙ e)) (found v.live channel (Some n) w.live live c)

      had : (m c : ℕ) → w.live c ≡ Some m → Found v.live channel (Some n) w.live c → w.role m ≡ Has c
      had m c e (here b same so) =
          let is : n ≡ m = same_Some n m (sym so ∙ e) in
          at_it m c is same (found v.role n (Has channel) w.role role m)
        where
          at_it : (m c : ℕ) → n ≡ m → c ≡ channel → Found v.role n (Has channel) w.role m → w.role m ≡ Has c
          at_it m c is same (here b eq so) = so ∙ ap Has (sym same)
          at_it m c is same (apart b ne so) = absurd (ne (sym is))
      had m c e (apart b ne so) = other m c (s.had m c (sym so ∙ e)) (found v.role n (Has channel) w.role role m)
        where
          other : (m c : ℕ) → v.role m ≡ Has c → Found v.role n (Has channel) w.role m → w.role m ≡ Has c
          other m c e (here b same so) =
              has-not-nowhere c (sym e ∙ ap v.role same ∙ is_new)
          other m c e (apart b ne so) = so ∙ e

      asks : (m c : ℕ) → w.role m ≡ AskedOn c → Found v.role n (Has channel) w.role m → w.asked c ≡ Some m
      asks m c e (here b same so) = not-both channel c (sym so ∙ e)
      asks m c e (apart b ne so) = asked c ∙ s.asks m c (sym so ∙ e)

      asks_one : (m c other : ℕ) → w.asked c ≡ Some m → w.role m ≡ AskedOn other
          → Found v.role n (Has channel) w.role m → other ≡ c
      asks_one m c other a e (here b same so) = not-both channel other (sym so ∙ e)
      asks_one m c other a e (apart b ne so) = s.asked m c other (sym (asked c) ∙ a) (sym so ∙ e)

      there : (m c : ℕ) → w.routes c ≡ Some m → Found v.role n (Has channel) w.role m → IsLed (w.role m)
      there m c a (here b same so) = subst IsLed (sym so) tt
      there m c a (apart b ne so) = subst IsLed (sym so) (s.led_there m c (sym (routes c) ∙ a))

      asked_so : (m c : ℕ) → w.asked c ≡ Some m → w.role m ≡ Nowhere → Found v.role n (Has channel) w.role m → ⊥
      asked_so m c a e (here b same so) = has-not-nowhere channel (sym so ∙ e)
      asked_so m c a e (apart b ne so) = s.asked_there m c (sym (asked c) ∙ a) (sym so ∙ e)

-- the peer asks for a session, on a channel that reaches none
module _ (v w : View) (n channel : ℕ) (is_next : n ≡ v.count) (is_new : v.role n ≡ Nowhere)
    (unasked : asked_in v channel ≡ None) (count : w.count ≡ suc v.count) (live : (c : ℕ) → w.live c ≡ v.live c)
    (routes : (c : ℕ) → w.routes c ≡ v.routes c) (asked : IsPut v.asked channel (Some n) w.asked)
    (role : IsPut v.role n (AskedOn channel) w.role) where
  asked-put : Stand v → IsPut (asked_in v) channel (Some n) (asked_in w)
  asked-put s m = by (found v.asked channel (Some n) w.asked asked m)
    where
      at_n : Found v.role n (AskedOn channel) w.role n → when_asks n (w.role n) ≡ Some n
      at_n (here b same so) = ap (when_asks n) so
      at_n (apart b ne so) = absurd (ne refl)

      by : Found v.asked channel (Some n) w.asked m → asked_in w m ≡ cond (m == channel) (Some n) (asked_in v m)
      by (here b same so) =
          ap (via when_asks w.role) so ∙ at_n (found v.role n (AskedOn channel) w.role role n)
          ∙ sym (ap (λ (c : Bool). cond c (Some n) (asked_in v m)) b)
      by (apart b ne so) =
          via-same when_asks v.role w.role (v.asked m) (w.asked m) so
          (λ k e.
          new-same when_asks n (AskedOn channel) v.role w.role role k
          (λ same. s.asked_there k m e (ap v.role same ∙ is_new)))
          ∙ sym (ap (λ (c : Bool). cond c (Some n) (asked_in v m)) b)

  pub asked-agree : (base : ℕ) (r : Reader) → Stand v → Agree base r v → Agree base (peer_begins None channel r) w
  asked-agree base r s a =
      record {
        count =
            let e : v.count ≡ base + r.begun = a.count in
            let f : w.count ≡ suc v.count = count in
            omega (arith, e, f);
        own = λ c. live c ∙ a.own c;
        led = λ c.
            via-same when_has v.role w.role (v.routes c) (w.routes c) (routes c)
            (λ m e.
            new-same when_has n (AskedOn channel) v.role w.role role m
            (λ same. subst IsLed (ap v.role same ∙ is_new) (s.led_there m c e))) ∙ a.led c;
        asked =
            put-read base (asked_in v) (asked_in w) r.asked channel (Some n) (Some r.begun)
            (ap Some (is_next ∙ a.count)) (asked-put s) a.asked;
      }

  pub asked-stand : Stand v → Stand w
  asked-stand s =
      record {
        has = λ m c e. has m c e (found v.role n (AskedOn channel) w.role role m);
        had = λ m c e. had m c e (found v.role n (AskedOn channel) w.role role m);
        asks = λ m c e. asks m c e (found v.role n (AskedOn channel) w.role role m);
        asked = λ m c other a e. asked_one m c other a e (found v.asked channel (Some n) w.asked asked c);
        led_there = λ m c a. there m c a (found v.role n (AskedOn channel) w.role role m);
        asked_there = λ m c a e. asked_so m c a e (found v.asked channel (Some n) w.asked asked c);
      }
    where
      has : (m c : ℕ) → w.role m ≡ Has c → Found v.role n (AskedOn channel) w.role m → w.live c ≡ Some m
      has m c e (here b same so) = not-both c channel (sym e ∙ so)
      has m c e (apart b ne so) = live c ∙ s.has m c (sym so ∙ e)

      had : (m c : ℕ) → w.live c ≡ Some m → Found v.role n (AskedOn channel) w.role m → w.role m ≡ Has c
      had m c e (here b same so) =
          has-not-nowhere c (sym (s.had m c (sym (live c) ∙ e)) ∙ ap v.role same ∙ is_new)
      had m c e (apart b ne so) = so ∙ s.had m c (sym (live c) ∙ e)

      -- no other stands on the channel
      none_on : (m : ℕ) → v.role m ≡ AskedOn channel → ⊥
      none_on m e =
          none-some m
          (sym unasked ∙ ap (via when_asks v.role) (s.asks m channel e) ∙ ap (when_asks m) e)

      asks : (m c : ℕ) → w.role m ≡ AskedOn c → Found v.role n (AskedOn channel) w.role m → w.asked c ≡ Some m
      asks m c e (here b same so) =
          at_it m c (same-asked channel c (sym so ∙ e)) same (found v.asked channel (Some n) w.asked asked c)
        where
          at_it : (m c : ℕ) → channel ≡ c → m ≡ n → Found v.asked channel (Some n) w.asked c → w.asked c ≡ Some m
          at_it m c is same (here b eq so) = so ∙ ap Some (sym same)
          at_it m c is same (apart b ne so) = absurd (ne (sym is))
      asks m c e (apart b ne so) = other m c (sym so ∙ e) (found v.asked channel (Some n) w.asked asked c)
        where
          other : (m c : ℕ) → v.role m ≡ AskedOn c → Found v.asked channel (Some n) w.asked c → w.asked c ≡ Some m
          other m c e (here b same so) = absurd (none_on m (e ∙ ap AskedOn same))
          other m c e (apart b ne so) = so ∙ s.asks m c e

      asked_one : (m c other : ℕ) → w.asked c ≡ Some m → w.role m ≡ AskedOn other
          → Found v.asked channel (Some n) w.asked c → other ≡ c
      asked_one m c other a e (here b same so) =
          at_it (found v.role n (AskedOn channel) w.role role m)
        where
          at_it : Found v.role n (AskedOn channel) w.role m → other ≡ c
          at_it (here d eq is) = sym (same-asked channel other (sym is ∙ e)) ∙ sym same
          at_it (apart d ne is) = absurd (ne (sym (same_Some n m (sym so ∙ a))))
      asked_one m c other a e (apart b ne so) = by (found v.role n (AskedOn channel) w.role role m)
        where
          by : Found v.role n (AskedOn channel) w.role m → other ≡ c
          by (here d eq is) = absurd (s.asked_there m c (sym so ∙ a) (ap v.role eq ∙ is_new))
          by (apart d nm is) = s.asked m c other (sym so ∙ a) (sym is ∙ e)

      there : (m c : ℕ) → w.routes c ≡ Some m → Found v.role n (AskedOn channel) w.role m → IsLed (w.role m)
      there m c a (here b same so) =
          absurd (subst IsLed (ap v.role same ∙ is_new) (s.led_there m c (sym (routes c) ∙ a)))
      there m c a (apart b ne so) = subst IsLed (sym so) (s.led_there m c (sym (routes c) ∙ a))

      asked_so : (m c : ℕ) → w.asked c ≡ Some m → w.role m ≡ Nowhere → Found v.asked channel (Some n) w.asked c → ⊥
      asked_so m c a e (here b same so) = at_it (found v.role n (AskedOn channel) w.role role m)
        where
          at_it : Found v.role n (AskedOn channel) w.role m → ⊥
          at_it (here d eq is) = asks-not-nowhere channel (sym is ∙ e)
          at_it (apart d ne is) = ne (sym (same_Some n m (sym so ∙ a)))
      asked_so m c a e (apart b ne so) = by (found v.role n (AskedOn channel) w.role role m)
        where
          by : Found v.role n (AskedOn channel) w.role m → ⊥
          by (here d eq is) = asks-not-nowhere channel (sym is ∙ e)
          by (apart d nm is) = s.asked_there m c (sym so ∙ a) (sym is ∙ e)

-- one that the peer asks for on a channel begins here, and the channel is led to it
module _ (v w : View) (n channel outgoing : ℕ) (is_asked : v.role n ≡ AskedOn channel)
    (vacant : v.live outgoing ≡ None) (count : w.count ≡ v.count) (live : IsPut v.live outgoing (Some n) w.live)
    (routes : IsPut v.routes channel (Some n) w.routes) (asked : IsPut v.asked channel None w.asked)
    (role : IsPut v.role n (Has outgoing) w.role) where
  at_n : Found v.role n (Has outgoing) w.role n → w.role n ≡ Has outgoing
  at_n (here b same so) = so
  at_n (apart b ne so) = absurd (ne refl)

  now : w.role n ≡ Has outgoing
  now = at_n (found v.role n (Has outgoing) w.role role n)

  led-put : Stand v → IsPut (led_in v) channel (Some n) (led_in w)
  led-put s m = by (found v.routes channel (Some n) w.routes routes m)
    where
      by : Found v.routes channel (Some n) w.routes m → led_in w m ≡ cond (m == channel) (Some n) (led_in v m)
      by (here b same so) =
          ap (via when_has w.role) so ∙ ap (when_has n) now
          ∙ sym (ap (λ (c : Bool). cond c (Some n) (led_in v m)) b)
      by (apart b ne so) =
          via-same when_has v.role w.role (v.routes m) (w.routes m) so
          (λ k e.
          new-same when_has n (Has outgoing) v.role w.role role k
          (λ same. subst IsLed (ap v.role same ∙ is_asked) (s.led_there k m e)))
          ∙ sym (ap (λ (c : Bool). cond c (Some n) (led_in v m)) b)

  answered-put : Stand v → IsPut (asked_in v) channel None (asked_in w)
  answered-put s m = by (found v.asked channel None w.asked asked m)
    where
      by : Found v.asked channel None w.asked m → asked_in w m ≡ cond (m == channel) None (asked_in v m)
      by (here b same so) =
          ap (via when_asks w.role) so ∙ sym (ap (λ (c : Bool). cond c None (asked_in v m)) b)
      by (apart b ne so) =
          via-same when_asks v.role w.role (v.asked m) (w.asked m) so
          (λ k e.
          new-same when_asks n (Has outgoing) v.role w.role role k
          (λ same. ne (sym (s.asked k m channel e (ap v.role same ∙ is_asked)))))
          ∙ sym (ap (λ (c : Bool). cond c None (asked_in v m)) b)

  asked-told : (base : ℕ) (r : Reader) → Stand v → Agree base r v → Some n ≡ from base (r.asked channel)
  asked-told base r s a =
      sym (ap (via when_asks v.role) (s.asks n channel is_asked) ∙ ap (when_asks n) is_asked) ∙ a.asked channel

  pub accepted-agree : (base : ℕ) (r : Reader) → Stand v → Agree base r v
      → Agree base (own_begins (Some channel) outgoing r) w
  accepted-agree base r s a =
      record {
        count = count ∙ a.count;
        own =
            put-read base v.live w.live r.own outgoing (Some n) (r.asked channel) (asked-told base r s a) live a.own;
        led =
            put-read base (led_in v) (led_in w) r.led channel (Some n) (r.asked channel) (asked-told base r s a)
            (led-put s) a.led;
        asked = put-read base (asked_in v) (asked_in w) r.asked channel None None refl (answered-put s) a.asked;
      }

  pub accepted-stand : Stand v → Stand w
  accepted-stand s =
      record {
        has = λ m c e. has m c e (found v.role n (Has outgoing) w.role role m);
        had = λ m c e. had m c e (found v.live outgoing (Some n) w.live live c);
        asks = λ m c e. asks m c e (found v.role n (Has outgoing) w.role role m);
        asked = λ m c other a e. asked_one m c other a e (found v.asked channel None w.asked asked c);
        led_there = λ m c a. there m c a (found v.role n (Has outgoing) w.role role m);
        asked_there = λ m c a e. asked_so m c a e (found v.asked channel None w.asked asked c);
      }
    where
      with_live : (m c : ℕ) → v.live c ≡ Some m → Found v.live outgoing (Some n) w.live c → w.live c ≡ Some m
      with_live m c e (here b same so) = absurd (none-some m (sym vacant ∙ ap v.live (sym same) ∙ e))
      with_live m c e (apart b ne so) = so ∙ e

      has : (m c : ℕ) → w.role m ≡ Has c → Found v.role n (Has outgoing) w.role m → w.live c ≡ Some m
      has m c e (here b same so) =
          at_it m c (same-channel outgoing c (sym so ∙ e)) same (found v.live outgoing (Some n) w.live live c)
        where
          at_it : (m c : ℕ) → outgoing ≡ c → m ≡ n → Found v.live outgoing (Some n) w.live c → w.live c ≡ Some m
          at_it m c is same (here b eq so) = so ∙ ap Some (sym same)
          at_it m c is same (apart b ne so) = absurd (ne (sym is))
      has m c e (apart b ne so) =
          with_live m c (s.has m c (sym so ∙ e)) (found v.live outgoing (Some n) w.live live c)

      had : (m c : ℕ) → w.live c ≡ Some m → Found v.live outgoing (Some n) w.live c → w.role m ≡ Has c
      had m c e (here b same so) =
          ap w.role (sym (same_Some n m (sym so ∙ e))) ∙ now ∙ ap Has (sym same)
      had m c e (apart b ne so) = other m c (s.had m c (sym so ∙ e)) (found v.role n (Has outgoing) w.role role m)
        where
          other : (m c : ℕ) → v.role m ≡ Has c → Found v.role n (Has outgoing) w.role m → w.role m ≡ Has c
          other m c e (here b same so) = not-both c channel (sym e ∙ ap v.role same ∙ is_asked)
          other m c e (apart b ne so) = so ∙ e

      asks : (m c : ℕ) → w.role m ≡ AskedOn c → Found v.role n (Has outgoing) w.role m → w.asked c ≡ Some m
      asks m c e (here b same so) = not-both outgoing c (sym so ∙ e)
      asks m c e (apart b ne so) = other (found v.asked channel None w.asked asked c)
        where
          other : Found v.asked channel None w.asked c → w.asked c ≡ Some m
          other (here d same is) =
              let had : v.asked channel ≡ Some m = ap v.asked (sym same) ∙ s.asks m c (sym so ∙ e) in
              absurd (ne (same_Some m n (sym had ∙ s.asks n channel is_asked)))
          other (apart d nc is) = is ∙ s.asks m c (sym so ∙ e)

      asked_one : (m c other : ℕ) → w.asked c ≡ Some m → w.role m ≡ AskedOn other
          → Found v.asked channel None w.asked c → other ≡ c
      asked_one m c other a e (here b same so) = absurd (none-some m (sym so ∙ a))
      asked_one m c other a e (apart b ne so) = by (found v.role n (Has outgoing) w.role role m)
        where
          by : Found v.role n (Has outgoing) w.role m → other ≡ c
          by (here d eq is) = not-both outgoing other (sym is ∙ e)
          by (apart d nm is) = s.asked m c other (sym so ∙ a) (sym is ∙ e)

      there : (m c : ℕ) → w.routes c ≡ Some m → Found v.role n (Has outgoing) w.role m → IsLed (w.role m)
      there m c a (here b same so) = subst IsLed (sym so) tt
      there m c a (apart b ne so) = subst IsLed (sym so) (by (found v.routes channel (Some n) w.routes routes c))
        where
          by : Found v.routes channel (Some n) w.routes c → IsLed (v.role m)
          by (here d eq is) = absurd (ne (sym (same_Some n m (sym is ∙ a))))
          by (apart d nc is) = s.led_there m c (sym is ∙ a)

      asked_so : (m c : ℕ) → w.asked c ≡ Some m → w.role m ≡ Nowhere → Found v.asked channel None w.asked c → ⊥
      asked_so m c a e (here b same so) = none-some m (sym so ∙ a)
      asked_so m c a e (apart b ne so) = by (found v.role n (Has outgoing) w.role role m)
        where
          by : Found v.role n (Has outgoing) w.role m → ⊥
          by (here d eq is) = has-not-nowhere outgoing (sym is ∙ e)
          by (apart d nm is) = s.asked_there m c (sym so ∙ a) (sym is ∙ e)

-- the peer's Begin leads a channel to the session that has the channel that it names
module _ (v w : View) (n channel named : ℕ) (is_named : v.live named ≡ Some n) (count : w.count ≡ v.count)
    (live : (c : ℕ) → w.live c ≡ v.live c) (routes : IsPut v.routes channel (Some n) w.routes)
    (asked : (c : ℕ) → w.asked c ≡ v.asked c) (role : (m : ℕ) → w.role m ≡ v.role m) where
  taken-put : Stand v → IsPut (led_in v) channel (Some n) (led_in w)
  taken-put s m = by (found v.routes channel (Some n) w.routes routes m)
    where
      by : Found v.routes channel (Some n) w.routes m → led_in w m ≡ cond (m == channel) (Some n) (led_in v m)
      by (here b same so) =
          ap (via when_has w.role) so ∙ ap (when_has n) (role n ∙ s.had n named is_named)
          ∙ sym (ap (λ (c : Bool). cond c (Some n) (led_in v m)) b)
      by (apart b ne so) =
          via-same when_has v.role w.role (v.routes m) (w.routes m) so (λ k e. ap (when_has k) (role k))
          ∙ sym (ap (λ (c : Bool). cond c (Some n) (led_in v m)) b)

  pub led-agree : (base : ℕ) (r : Reader) → Stand v → Agree base r v
      → Agree base (peer_begins (Some named) channel r) w
  led-agree base r s a =
      record {
        count = count ∙ a.count;
        own = λ c. live c ∙ a.own c;
        led =
            put-read base (led_in v) (led_in w) r.led channel (Some n) (r.own named) (sym is_named ∙ a.own named)
            (taken-put s) a.led;
        asked = λ c.
            via-same when_asks v.role w.role (v.asked c) (w.asked c) (asked c)
            (λ m e. ap (when_asks m) (role m)) ∙ a.asked c;
      }

  pub led-stand : Stand v → Stand w
  led-stand s =
      record {
        has = λ m c e. live c ∙ s.has m c (sym (role m) ∙ e);
        had = λ m c e. role m ∙ s.had m c (sym (live c) ∙ e);
        asks = λ m c e. asked c ∙ s.asks m c (sym (role m) ∙ e);
        asked = λ m c other a e. s.asked m c other (sym (asked c) ∙ a) (sym (role m) ∙ e);
        led_there = λ m c a.
            subst IsLed (sym (role m)) (there m c a (found v.routes channel (Some n) w.routes routes c));
        asked_there = λ m c a e. s.asked_there m c (sym (asked c) ∙ a) (sym (role m) ∙ e);
      }
    where
      there : (m c : ℕ) → w.routes c ≡ Some m → Found v.routes channel (Some n) w.routes c → IsLed (v.role m)
      there m c a (here b same so) =
          subst IsLed (ap v.role (same_Some n m (sym so ∙ a))) (subst IsLed (sym (s.had n named is_named)) tt)
      there m c a (apart b ne so) = s.led_there m c (sym so ∙ a)

-- a session is over: an entry that told it may be cut
pub data Cut (n : ℕ) (told old new : Option ℕ) : Type 0 where
  stays : new ≡ old → Cut n told old new
  cut : told ≡ Some n → new ≡ None → Cut n told old new

pub unless-some : (n m : ℕ) (o : Option ℕ) → unless_it n o ≡ Some m → (o ≡ Some m) × (m ≢ n)
unless-some n m None e = absurd (none-some m e)
unless-some n m (Some k) e = by (eqb_tells k n)
  where
    by : (((k == n) ≡ true) × (k ≡ n)) ⊎ (((k == n) ≡ false) × (k ≢ n)) → (Some k ≡ Some m) × (m ≢ n)
    by (inl p) =
        absurd (none-some m (sym (ap (λ (b : Bool). if b then None else Some k) p.0) ∙ e))
    by (inr p) =
        let is : Some k ≡ Some m = sym (ap (λ (b : Bool). if b then None else Some k) p.0) ∙ e in
        (is, λ same. p.1 (same_Some k m is ∙ same))

module _ (v w : View) (n : ℕ) (count : w.count ≡ v.count) (live : (c : ℕ) → w.live c ≡ unless_it n (v.live c))
    (routes : (c : ℕ) → Cut n (led_in v c) (v.routes c) (w.routes c))
    (asked : (c : ℕ) → Cut n (asked_in v c) (v.asked c) (w.asked c)) (role : IsPut v.role n Gone w.role) where
  told-over : (tells : ℕ → Role → Option ℕ) → Tells tells → tells n Gone ≡ None → (old new : Option ℕ)
      → Cut n (via tells v.role old) old new → via tells w.role new ≡ unless_it n (via tells v.role old)
  told-over tells which none old new (stays is) = via-gone tells which n none v.role w.role role old new is
  told-over tells which none old new (cut told is) =
      ap (via tells w.role) is ∙ sym (unless-same n) ∙ sym (ap (unless_it n) told)

  pub over-agree : (base k : ℕ) (r : Reader) → n ≡ base + k → Agree base r v → Agree base (peer_ends (Some k) r) w
  over-agree base k r is a =
      record {
        count = count ∙ a.count;
        own = over-read base k v.live w.live r.own (λ c. live c ∙ ap (λ (m : ℕ). unless_it m (v.live c)) is) a.own;
        led =
            over-read base k (led_in v) (led_in w) r.led
            (λ c.
            told-over when_has has-tells refl (v.routes c) (w.routes c) (routes c)
            ∙ ap (λ (m : ℕ). unless_it m (led_in v c)) is) a.led;
        asked =
            over-read base k (asked_in v) (asked_in w) r.asked
            (λ c.
            told-over when_asks asks-tells refl (v.asked c) (w.asked c) (asked c)
            ∙ ap (λ (m : ℕ). unless_it m (asked_in v c)) is) a.asked;
      }

  pub over-stand : Stand v → Stand w
  over-stand s =
      record {
        has = λ m c e. has m c e (found v.role n Gone w.role role m);
        had = λ m c e. had m c e (found v.role n Gone w.role role m);
        asks = λ m c e. asks m c e (found v.role n Gone w.role role m) (asked c);
        asked = λ m c other a e. asked_one m c other a e (found v.role n Gone w.role role m) (asked c);
        led_there = λ m c a. there m c a (found v.role n Gone w.role role m) (routes c);
        asked_there = λ m c a e. asked_so m c a e (found v.role n Gone w.role role m) (asked c);
      }
    where
      gone-has : {A : Type 0} (c : ℕ) → Gone ≡ Has c → A
      gone-has c e = absurd cc

      gone-asks : {A : Type 0} (c : ℕ) → Gone ≡ AskedOn c → A
      gone-asks c e = absurd cc

      gone-nowhere : {A : Type 0} → Gone ≡ Nowhere → A
      gone-nowhere e = absurd cc

      has : (m c : ℕ) → w.role m ≡ Has c → Found v.role n Gone w.role m → w.live c ≡ Some m
      has m c e (here b same so) = gone-has c (sym so ∙ e)
      has m c e (apart b ne so) =
          live c ∙ ap (unless_it n) (s.has m c (sym so ∙ e)) ∙ unless-other n m ne

      had : (m c : ℕ) → w.live c ≡ Some m → Found v.role n Gone w.role m → w.role m ≡ Has c
      had m c e (here b same so) = absurd ((unless-some n m (v.live c) (sym (live c) ∙ e)).1 same)
      had m c e (apart b ne so) = so ∙ s.had m c (unless-some n m (v.live c) (sym (live c) ∙ e)).0

      asks : (m c : ℕ) → w.role m ≡ AskedOn c → Found v.role n Gone w.role m
          → Cut n (asked_in v c) (v.asked c) (w.asked c) → w.asked c ≡ Some m
      asks m c e (here b same so) x = gone-asks c (sym so ∙ e)
      asks m c e (apart b ne so) (stays is) = is ∙ s.asks m c (sym so ∙ e)
      asks m c e (apart b ne so) (cut told is) =
          let was : v.role m ≡ AskedOn c = sym so ∙ e in
          absurd
          (ne
          (same_Some m n
          (sym (ap (via when_asks v.role) (s.asks m c was) ∙ ap (when_asks m) was) ∙ told)))

      asked_one : (m c other : ℕ) → w.asked c ≡ Some m → w.role m ≡ AskedOn other → Found v.role n Gone w.role m
          → Cut n (asked_in v c) (v.asked c) (w.asked c) → other ≡ c
      asked_one m c other a e (here b same so) x = gone-asks other (sym so ∙ e)
      asked_one m c other a e (apart b ne so) (stays is) = s.asked m c other (sym is ∙ a) (sym so ∙ e)
      asked_one m c other a e (apart b ne so) (cut told is) = absurd (none-some m (sym is ∙ a))

      there : (m c : ℕ) → w.routes c ≡ Some m → Found v.role n Gone w.role m
          → Cut n (led_in v c) (v.routes c) (w.routes c) → IsLed (w.role m)
      there m c a (here b same so) x = subst IsLed (sym so) tt
      there m c a (apart b ne so) (stays is) = subst IsLed (sym so) (s.led_there m c (sym is ∙ a))
      there m c a (apart b ne so) (cut told is) = absurd (none-some m (sym is ∙ a))

      asked_so : (m c : ℕ) → w.asked c ≡ Some m → w.role m ≡ Nowhere → Found v.role n Gone w.role m
          → Cut n (asked_in v c) (v.asked c) (w.asked c) → ⊥
      asked_so m c a e (here b same so) x = gone-nowhere (sym so ∙ e)
      asked_so m c a e (apart b ne so) (stays is) = s.asked_there m c (sym is ∙ a) (sym so ∙ e)
      asked_so m c a e (apart b ne so) (cut told is) = none-some m (sym is ∙ a)
