use Rattle.std.proofs.Common.{sym, ap, subst}
use Rattle.mime_tree.specs.Contents.{content_of}
use Rattle.mime_tree.specs.Trees.{Content}
use Rattle.shredder.specs.Making.{HasBarePart, Here, Leads, holding}
use Rattle.shredder.proofs.parts.add_part.Goals as goal

pub returns-in_ok-add_inner-in-Multi-clause-rows : goal.returns-in_ok-add_inner-in-Multi-clause-rows
returns-in_ok-add_inner-in-Multi-clause-rows g c t now added e b none =
    let both = holding added c.args.store.now.placed in
    subst (λ (content : Content). Leads c.args.message t now both c.args.changes.now.items (Here c.args.path.now) (HasBarePart c.args.message c.args.path.now content) both c.add_inner.new.changes.items) (sym (ap content_of c.in-Multi.is))
    (c.in_ok-add_inner-in-Multi.ensures t now both b none)

pub returns-in_ok-add_inner-in-Nested-clause-rows : goal.returns-in_ok-add_inner-in-Nested-clause-rows
returns-in_ok-add_inner-in-Nested-clause-rows g c t now added e b none =
    let both = holding added c.args.store.now.placed in
    subst (λ (content : Content). Leads c.args.message t now both c.args.changes.now.items (Here c.args.path.now) (HasBarePart c.args.message c.args.path.now content) both c.add_inner-in-Nested.new.changes.items) (sym (ap content_of c.in-Nested.is))
    (c.in_ok-add_inner-in-Nested.ensures t now both b none)
