use Rattle.std.proofs.Common.{◌∙◌, ap, refl}
use Rattle.row_tables.specs.Names.{mailbox_named}
use Rattle.row_tables.specs.TableRows.{HeadRows, TableRows}
use Rattle.row_tables.proofs.tables.Tables.mailbox_named.Goals as goal

pub returns : goal.returns
returns c =
    c.row_named.ensures (c.args.owner, c.args.name.now) refl refl
    ∙ ap (λ (h : HeadRows). mailbox_named c.args.owner c.args.name.now h.mailboxes) c.heads.view_is ∙ ap (λ (t : TableRows). mailbox_named c.args.owner c.args.name.now t.heads.mailboxes) c.self.view_is
