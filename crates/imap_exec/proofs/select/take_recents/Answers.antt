use Rattle.std.proofs.Common.{Bool, sym, subst}
use Rattle.imap_exec.specs.Selecting.{Changes, recents_if}
use Rattle.imap_exec.proofs.Selected.{changes_made, goes_on_behaved}
use Rattle.imap_exec.proofs.select.take_recents.Goals as goal

pub returns-then-taken-clause-changes : goal.returns-then-taken-clause-changes
returns-then-taken-clause-changes g c w stands m at =
    subst (λ (taken : Bool). Changes g.D.Disk.told c.take_recent.result c.args.store.now c.take_recent.new.store w (recents_if taken c.args.mailbox)) (sym c.if-taken.true)
    (changes_made g.D.Disk.told c.take_recent.result c.args.store.now c.take_recent.new.store w c.args.mailbox tt m at (c.take_recent.ensures.makes w stands))

pub returns-then-taken-clause-goes_on : goal.returns-then-taken-clause-goes_on
returns-then-taken-clause-goes_on g c = goes_on_behaved g.D.Disk.told c.take_recent.result c.args.store.now c.take_recent.new.store c.take_recent.ensures.behaves
