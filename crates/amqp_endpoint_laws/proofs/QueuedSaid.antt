-- What transfers say doesn't depend on the handle and the number that their session writes into them.
use Rattle.std.proofs.Common.{◌≡◌, Bool, true, false, List, [], ◌∷◌, ◌++◌, Option, Some, None, refl, sym, ap, ◌∙◌}
use Rattle.std.proofs.Common.{append-nil, append_assoc}
use Rattle.std.specs.Prelude.{map, option_map}
use Rattle.amqp_link_base.specs.Readings.{Piece, Reading, brought, nothing, opened, read_on, readings}
use Rattle.amqp_link_base.specs.Said.{Said, whole}
use Rattle.amqp_endpoint_laws.specs.Queued.{Message, SayMessages, message_of}
use Rattle.amqp_endpoint_laws.proofs.GivenUp.{AllAborted}

-- a transfer without what its session writes into it
abbrev pub bare : Piece → Piece
bare p = record p { performative = record p.performative { handle = record { 0 = 0 }; delivery_id = None } }

abbrev pub bare_said : Said → Said
bare_said d = record d { performative = record d.performative { handle = record { 0 = 0 }; delivery_id = None } }

abbrev bare_reading : Reading → Reading
bare_reading r = record { messages = map bare_said r.messages; held = option_map bare_said r.held }

pub map-both : {A B : Type 0} (f : A → B) (xs ys : List A) → map f (xs ++ ys) ≡ map f xs ++ map f ys
map-both f [] ys = refl
map-both f (x ∷ xs) ys = ap (λ (zs : List _). f x ∷ zs) (map-both f xs ys)

brought-bare : (aborted more : Bool) (r : Reading) (d : Said)
    → brought aborted more (bare_reading r) (bare_said d) ≡ bare_reading (brought aborted more r d)
brought-bare true more r d = refl
brought-bare false true r d = refl
brought-bare false false r d =
    ap (λ (ms : List Said). record { messages = ms; held = None }) (sym (map-both bare_said r.messages (whole d ∷ [])))

opened-bare : (o : Option Said) (p : Piece) → opened (option_map bare_said o) (bare p) ≡ bare_said (opened o p)
opened-bare None p = refl
opened-bare (Some d) p = refl

on-bare : (r : Reading) (p : Piece) → read_on (bare_reading r) (bare p) ≡ bare_reading (read_on r p)
on-bare r p =
    ap (λ (d : Said). brought p.performative.aborted p.performative.more (bare_reading r) d) (opened-bare r.held p)
    ∙ brought-bare p.performative.aborted p.performative.more r (opened r.held p)

readings-bare : (ps : List Piece) (r : Reading) → readings (bare_reading r) (map bare ps) ≡ bare_reading (readings r ps)
readings-bare [] r = refl
readings-bare (p ∷ ps) r =
    ap (λ (x : Reading). readings x (map bare ps)) (on-bare r p) ∙ readings-bare ps (read_on r p)

none-bare : (o : Option Said) → option_map bare_said o ≡ None → o ≡ None
none-bare None is = refl
none-bare (Some d) is = absurd cc

messages-bare : (ds : List Said) → map message_of (map bare_said ds) ≡ map message_of ds
messages-bare [] = refl
messages-bare (d ∷ ds) = ap (λ (ms : List Message). message_of d ∷ ms) (messages-bare ds)

-- transfers say the same as others that differ from them in that alone
pub says-alike : (ps qs : List Piece) (ms : List Message) → map bare qs ≡ map bare ps → SayMessages ps ms
    → SayMessages qs ms
says-alike ps qs ms same s =
    let alike : bare_reading (readings nothing qs) ≡ bare_reading (readings nothing ps) =
    sym (readings-bare qs nothing) ∙ ap (λ (xs : List Piece). readings nothing xs) same ∙ readings-bare ps nothing in
    record {
      whole =
          none-bare (readings nothing qs).held
          (ap (λ (r : Reading). r.held) alike ∙ ap (λ (o : Option Said). option_map bare_said o) s.whole);
      says =
          sym (messages-bare (readings nothing qs).messages)
          ∙ ap (λ (r : Reading). map message_of r.messages) alike ∙ messages-bare (readings nothing ps).messages
          ∙ s.says;
    }

pub bare-one : (ps : List Piece) (d : Said) → readings nothing ps ≡ record { messages = d ∷ []; held = None }
    → readings nothing (map bare ps) ≡ record { messages = bare_said d ∷ []; held = None }
bare-one ps d is = readings-bare ps nothing ∙ ap (λ (r : Reading). bare_reading r) is

-- behind messages that were said before
abbrev behind : List Said → Reading → Reading
behind ds r = record r { messages = ds ++ r.messages }

brought-behind : (aborted more : Bool) (ds : List Said) (r : Reading) (d : Said)
    → brought aborted more (behind ds r) d ≡ behind ds (brought aborted more r d)
brought-behind true more ds r d = refl
brought-behind false true ds r d = refl
brought-behind false false ds r d =
    ap (λ (ms : List Said). record { messages = ms; held = None }) (append_assoc ds r.messages (whole d ∷ []))

readings-behind : (ps : List Piece) (ds : List Said) (r : Reading)
    → readings (behind ds r) ps ≡ behind ds (readings r ps)
readings-behind [] ds r = refl
readings-behind (p ∷ ps) ds r =
    ap (λ (x : Reading). readings x ps)
    (brought-behind p.performative.aborted p.performative.more ds r (opened r.held p))
    ∙ readings-behind ps ds (read_on r p)

readings-both : (ps qs : List Piece) (r : Reading) → readings r (ps ++ qs) ≡ readings (readings r ps) qs
readings-both [] qs r = refl
readings-both (p ∷ ps) qs r = readings-both ps qs (read_on r p)

whole-behind : (r : Reading) → r.held ≡ None → r ≡ behind r.messages nothing
whole-behind r none =
    ap (λ (o : Option Said). record { messages = r.messages; held = o }) none
    ∙ ap (λ (ms : List Said). record { messages = ms; held = None }) (sym (append-nil r.messages))

-- behind these messages one more is said
pub says-more : (ps qs : List Piece) (ms : List Message) (d : Said) → SayMessages ps ms
    → readings nothing qs ≡ record { messages = d ∷ []; held = None }
    → SayMessages (ps ++ qs) (ms ++ message_of d ∷ [])
says-more ps qs ms d s one =
    let r : Reading = readings nothing ps in
    let all : readings nothing (ps ++ qs) ≡ behind r.messages (record { messages = d ∷ []; held = None }) =
    readings-both ps qs nothing ∙ ap (λ (x : Reading). readings x qs) (whole-behind r s.whole)
    ∙ readings-behind qs r.messages nothing ∙ ap (λ (x : Reading). behind r.messages x) one in
    record {
      whole = ap (λ (x : Reading). x.held) all;
      says =
          ap (λ (x : Reading). map message_of x.messages) all ∙ map-both message_of r.messages (d ∷ [])
          ∙ ap (λ (xs : List Message). xs ++ message_of d ∷ []) s.says;
    }

-- transfers that give deliveries up say nothing
aborted-read : (qs : List Piece) (r : Reading) → AllAborted qs → r.held ≡ None → readings r qs ≡ r
aborted-read [] r are none = refl
aborted-read (q ∷ qs) r (is, are) none =
    let one : read_on r q ≡ r =
    ap (λ (b : Bool). brought b q.performative.more r (opened r.held q)) is
    ∙ ap (λ (o : Option Said). record { messages = r.messages; held = o }) (sym none) in
    ap (λ (x : Reading). readings x qs) one ∙ aborted-read qs r are none

pub says-aborted : (ps qs : List Piece) (ms : List Message) → AllAborted qs → SayMessages ps ms
    → SayMessages (ps ++ qs) ms
says-aborted ps qs ms are s =
    let all : readings nothing (ps ++ qs) ≡ readings nothing ps =
    readings-both ps qs nothing ∙ aborted-read qs (readings nothing ps) are s.whole in
    record {
      whole = ap (λ (x : Reading). x.held) all ∙ s.whole;
      says = ap (λ (x : Reading). map message_of x.messages) all ∙ s.says;
    }

pub says-none : SayMessages [] []
says-none = record { whole = refl; says = refl }

bare-twice : (ps : List Piece) → map bare (map bare ps) ≡ map bare ps
bare-twice [] = refl
bare-twice (p ∷ ps) = ap (λ (qs : List Piece). bare p ∷ qs) (bare-twice ps)

-- so it is of transfers of which this is known without what their session writes into them
pub says-bare : (ps accepted : List Piece) (ms : List Message) → map bare ps ≡ accepted → SayMessages accepted ms
    → SayMessages ps ms
says-bare ps accepted ms is s =
    says-alike accepted ps ms (sym (bare-twice ps) ∙ ap (λ (qs : List Piece). map bare qs) is) s
