use Rattle.std.proofs.Common.{◌≡◌, ℕ, List, [], append-nil, ap, sym, ◌∙◌, refl}
use Rattle.std.specs.Prelude.{Option, Some}
use Rattle.amqp_link_base.specs.Starts.{behind, start_of}
use Rattle.amqp_link_base.proofs.scan.read_place.Goals as goal

pub returns-in-Some : goal.returns-in-Some
returns-in-Some c =
    let payload : List ℕ = c.args.payload.now in
    let found : start_of payload c.args.place.section_number ≡ Some c.in-Some.start =
    ap (λ (l : List ℕ). start_of l c.args.place.section_number) (sym (append-nil payload)) ∙ c.in-Some.ensures.found [] [] c.new-scan.ensures in
    c.reach.ensures payload refl ∙ ap (λ (o : Option ℕ). behind payload c.args.place.section_offset o) (sym found)

pub returns-in-None : goal.returns-in-None
returns-in-None c =
    let payload : List ℕ = c.args.payload.now in
    ap (λ (o : Option ℕ). behind payload c.args.place.section_offset o) (c.in-None.ensures.value payload (c.in_default.ensures.scanned [] c.new-scan.ensures))

pub returns-in-Some-started : goal.returns-in-Some-started
returns-in-Some-started c =
    let payload : List ℕ = c.args.payload.now in
    c.reach-in-Some-started.ensures payload refl
    ∙ ap (λ (o : Option ℕ). behind payload c.args.place.section_offset o) (c.in-Some-started.ensures.value payload (c.in_default.ensures.scanned [] c.new-scan.ensures))
