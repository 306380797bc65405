use Rattle.std.proofs.Common.{◌≡◌, [], sym, ◌∙◌}
use Rattle.std.proofs.lemmas.Bool.{eqb-true}
use Rattle.mailbox_core.proofs.Unchanged.{behaves_unchanged, made_unchanged, none_there}
use Rattle.mailbox_core.proofs.finishing.finish_any.Goals as goal

pub returns-then-is_empty-clause-behaves : goal.returns-then-is_empty-clause-behaves
returns-then-is_empty-clause-behaves g c after runs owners =
    behaves_unchanged g.D.Disk.told c.args.store.now c.args.answer (c.is_settled.ensures.stays c.requires.usable) c.requires.fresh c.requires.usable

pub returns-then-is_empty-clause-made : goal.returns-then-is_empty-clause-made
returns-then-is_empty-clause-made g c world next stands leads =
    let none : c.args.changes.items ≡ [] = none_there c.args.changes.items (sym c.args.changes.ok.0 ∙ eqb-true _ _ (sym c.is_empty.ensures ∙ c.if-is_empty.true)) in
    made_unchanged g.D.Disk.told c.args.store.now c.args.answer (c.is_settled.ensures.stays c.requires.usable) world next c.args.changes.items none stands leads

pub returns-else-is_empty-clause-behaves : goal.returns-else-is_empty-clause-behaves
returns-else-is_empty-clause-behaves g c after runs owners = c.finish.ensures.behaves after runs owners

pub returns-else-is_empty-clause-made : goal.returns-else-is_empty-clause-made
returns-else-is_empty-clause-made g c world next stands leads = c.finish.ensures.made world next stands leads
