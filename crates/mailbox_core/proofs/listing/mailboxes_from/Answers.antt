use Rattle.std.proofs.Common.{ℕ, false, List, Bor, map, subst, sym, ◌∙◌}
use Rattle.mailbox_core.specs.Listing.{Walked, names_in}
use Rattle.mailbox_core.proofs.Walking.{walk_left, walk_on, fewer}
use Rattle.mailbox_core.proofs.NameRows.{pushed_name}
use Rattle.mailbox_core.proofs.listing.mailboxes_from.Goals as goal

pub returns-then-not-starts_with : goal.returns-then-not-starts_with
returns-then-not-starts_with c =
    walk_left c.args.front.now (names_in false c.args.user c.args.tables.now) c.names.last.now (map (λ (x : Bor (List ℕ)). x.now) c.names.names.items) c.names.invariant c.in-Some.name.now c.in-Some.ensures
    (sym c.starts_with.ensures.value ∙ c.if-not-starts_with.true)

pub names-smaller : goal.names-smaller
names-smaller c = fewer c.names.last.now c.in-Some.name.now (names_in false c.args.user c.args.tables.now) c.in-Some.ensures

pub names-preserved : goal.names-preserved
names-preserved c =
    let all = names_in false c.args.user c.args.tables.now in
    subst (λ (l : List (List ℕ)). Walked c.args.front.now all c.in-Some.name.now l) (sym (pushed_name c.names.names.items c.push.new.self.items c.in-Some.name c.in_ok-push.ensures.items))
    (walk_on c.args.front.now all c.names.last.now (map (λ (x : Bor (List ℕ)). x.now) c.names.names.items) c.names.invariant c.in-Some.name.now c.in-Some.ensures (sym c.starts_with.ensures.value ∙ c.if-not-starts_with.false))
