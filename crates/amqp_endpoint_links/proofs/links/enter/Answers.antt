use Rattle.std.proofs.Common.{rules, ◌≡◌, ◌∙◌, ap, sym, subst, List, Err, ℕ}
use Rattle.std.specs.FinMap as map
use Rattle.amqp_endpoint_links.specs.Asked.{Asked, Asks, asked_with}
use Rattle.amqp_endpoint_links.specs.Inside.{AreNamed, PutsUnder}
use Rattle.amqp_endpoint_links.specs.declared.links.AskRefusal.{AskRefusal}
use Rattle.amqp_endpoint_links.specs.declared.links.AskRefusal.TheVariants.{Memory}
use Rattle.amqp_endpoint_links.proofs.Naming.{asked-named, no_handle}
use Rattle.amqp_session_types.proofs.Tables.{taken-back}
use Rattle.amqp_endpoint_links.proofs.links.enter.Goals as goal

pub returns-in_default-clause-named : goal.returns-in_default-clause-named
returns-in_default-clause-named c =
    let put : c.insert.new.self ≡ map.insert c.args.links.now (c.args.attach.handle).0 (asked_with c.args.attach) = search rules in
    let under : PutsUnder c.args.attach.name (c.args.attach.handle).0 c.args.handles.now.entries c.name_it.new.handles.entries = search rules in
    subst (λ (t : Asked). AreNamed t c.name_it.new.handles.entries) (sym put)
    (asked-named c.args.links.now c.args.handles.now.entries c.requires.named (asked_with c.args.attach) (c.args.attach.handle).0 c.name_it.new.handles.entries
    c.requires.vacant (no_handle c.args.links.now c.args.handles.now.entries c.requires.named c.args.attach.name c.requires.unused) under)

-- the link that was entered is taken out again
back : (c : goal.Joined-remove) → c.remove.new.self ≡ c.args.links.now
back c =
    let put : c.insert.new.self ≡ map.insert c.args.links.now (c.args.attach.handle).0 (asked_with c.args.attach) = search rules in
    let gone : c.remove.new.self ≡ map.remove c.insert.new.self (c.args.attach.handle).0 = search rules in
    gone ∙ ap (λ (t : Asked). map.remove t (c.args.attach.handle).0) put ∙ taken-back c.args.links.now (c.args.attach.handle).0 (asked_with c.args.attach) c.requires.vacant

pub returns-clause-asks : goal.returns-clause-asks
returns-clause-asks c =
    let is : c.in-Err.refusal ≡ Memory = search rules in
    subst (λ (e : AskRefusal). Asks c.args.links.now c.args.attach (Err e) c.remove.new.self) (sym is) (c.requires.vacant, c.requires.unused, back c)

pub returns-clause-named : goal.returns-clause-named
returns-clause-named c =
    let kept : c.name_it.new.handles.entries ≡ c.args.handles.now.entries = search rules in
    subst (λ (t : Asked). AreNamed t c.name_it.new.handles.entries) (sym (back c))
    (subst (λ (hs : List (List ℕ × ℕ)). AreNamed c.args.links.now hs) (sym kept) c.requires.named)
