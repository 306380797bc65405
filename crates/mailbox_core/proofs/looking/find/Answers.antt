use Rattle.std.proofs.Common.{◌≡◌, ◌∙◌, Option, Some, None, ap, subst, refl}
use Rattle.std.specs.Option.{option_map}
use Rattle.row_tables.specs.TableRows.{TableRows}
use Rattle.row_tables.specs.Names as rows
use Rattle.row_tables.specs.declared.heads.Mailbox.{Mailbox as Head}
use Rattle.row_store.specs.Holding.{in_row}
use Rattle.mail_world.specs.Names.{mailbox_name}
use Rattle.mail_world.specs.Worlds.{Mailbox, mailbox_named}
use Rattle.mailbox_core.proofs.looking.find.Goals as goal

id_of_head : (o : Option Mailbox) → option_map (λ (row : Head). row.id) (option_map (λ (m : Mailbox). m.head) o) ≡ option_map (λ (m : Mailbox). m.head.id) o
id_of_head None = refl
id_of_head (Some m) = refl

pub returns-clause-world : goal.returns-clause-world
returns-clause-world g c w stands =
    let t = c.args.store.now.tables in
    let name = mailbox_name c.args.name.now in
    let id : c.mailbox_named.result ≡ option_map (λ (row : Head). row.id) (rows.mailbox_named c.args.user name t.heads.mailboxes) =
    subst (λ (u : TableRows). c.mailbox_named.result ≡ option_map (λ (row : Head). row.id) (rows.mailbox_named c.args.user name u.heads.mailboxes)) c.tables.ensures c.mailbox_named.ensures.id in
    id ∙ (ap (λ (o : Option Head). option_map (λ (row : Head). row.id) o) (c.mailbox_rows.ensures.named in_row t w c.args.user name stands) ∙ id_of_head (mailbox_named c.args.user name w.mailboxes))
