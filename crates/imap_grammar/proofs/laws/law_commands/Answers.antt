use Rattle.std.proofs.Common.{refl, true, false}
use Rattle.std.specs.Prelude.{codes}
use Rattle.imap_grammar.specs.declared.commands.Command.TheVariants as command
use Rattle.imap_grammar.proofs.WrittenLaws.{astring_read, pattern_read, alone_read, mailbox_read, login_read, rename_read, list_read}
use Rattle.imap_grammar.proofs.laws.law_commands.Goals as goal

pub returns-clause-strings : goal.returns-clause-strings
returns-clause-strings c = astring_read

pub returns-clause-patterns : goal.returns-clause-patterns
returns-clause-patterns c = pattern_read

pub returns-clause-login : goal.returns-clause-login
returns-clause-login c = login_read

pub returns-clause-rename : goal.returns-clause-rename
returns-clause-rename c = rename_read

pub returns-clause-list : goal.returns-clause-list
returns-clause-list c = list_read (codes "LIST") false (λ text. refl)

pub returns-clause-lsub : goal.returns-clause-lsub
returns-clause-lsub c = list_read (codes "LSUB") true (λ text. refl)

pub returns-clause-capability : goal.returns-clause-capability
returns-clause-capability c = alone_read (codes "CAPABILITY") command.Capability refl

pub returns-clause-noop : goal.returns-clause-noop
returns-clause-noop c = alone_read (codes "NOOP") command.Noop refl

pub returns-clause-logout : goal.returns-clause-logout
returns-clause-logout c = alone_read (codes "LOGOUT") command.Logout refl

pub returns-clause-check : goal.returns-clause-check
returns-clause-check c = alone_read (codes "CHECK") command.Check refl

pub returns-clause-close : goal.returns-clause-close
returns-clause-close c = alone_read (codes "CLOSE") command.Close refl

pub returns-clause-expunge : goal.returns-clause-expunge
returns-clause-expunge c = alone_read (codes "EXPUNGE") command.Expunge refl

pub returns-clause-create : goal.returns-clause-create
returns-clause-create c = mailbox_read (codes "CREATE") command.Create (λ text. refl)

pub returns-clause-delete : goal.returns-clause-delete
returns-clause-delete c = mailbox_read (codes "DELETE") command.Delete (λ text. refl)

pub returns-clause-subscribe : goal.returns-clause-subscribe
returns-clause-subscribe c = mailbox_read (codes "SUBSCRIBE") command.Subscribe (λ text. refl)

pub returns-clause-unsubscribe : goal.returns-clause-unsubscribe
returns-clause-unsubscribe c = mailbox_read (codes "UNSUBSCRIBE") command.Unsubscribe (λ text. refl)
