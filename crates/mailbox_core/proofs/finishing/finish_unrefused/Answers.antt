use Rattle.std.proofs.Common.{Ok, Err, refl}
use Rattle.std.proofs.lemmas.Bool.{false≢true}
use Rattle.mail_stands.specs.Leading.{KeepsOwners}
use Rattle.mailbox_core.specs.Faults.{fault_in}
use Rattle.mailbox_core.proofs.Behaving.{behaves_err, behaves_kept, behaves_ok, is_outage}
use Rattle.mailbox_core.proofs.Leaving.{is_made}
use Rattle.mailbox_core.proofs.finishing.finish_unrefused.Goals as goal

pub returns-in-Ok-clause-commits : goal.returns-in-Ok-clause-commits
returns-in-Ok-clause-commits g c after runs =
    behaves_ok g.D.Disk.told c.args.store.now c.commit.new.self after c.args.answer (c.in-Ok.ensures.crash after runs)
    (c.changes_have_one_end.ensures c.args.store.now.tables c.args.changes.items c.commit.new.self.tables after c.in-Ok.ensures.made runs)
    c.in-Ok.ensures.forgotten c.in-Ok.ensures.goes_on c.in-Ok.ensures.faults

pub returns-in-Ok-clause-behaves : goal.returns-in-Ok-clause-behaves
returns-in-Ok-clause-behaves g c after runs owners =
    behaves_kept KeepsOwners g.D.Disk.told (Ok c.args.answer) c.args.store.now c.commit.new.self after owners (returns-in-Ok-clause-commits g c after runs)

pub returns-in-Err-clause-commits : goal.returns-in-Err-clause-commits
returns-in-Err-clause-commits g c after runs =
    behaves_err g.D.Disk.told c.args.store.now c.commit.new.self after c.in-Err.fault (c.in-Err.ensures.crash after runs) c.in-Err.ensures.untouched c.in-Err.ensures.faults

pub returns-in-Err-clause-behaves : goal.returns-in-Err-clause-behaves
returns-in-Err-clause-behaves g c after runs owners =
    behaves_kept KeepsOwners g.D.Disk.told (Err (fault_in c.in-Err.fault)) c.args.store.now c.commit.new.self after owners (returns-in-Err-clause-commits g c after runs)

pub returns-in-Ok-clause-made : goal.returns-in-Ok-clause-made
returns-in-Ok-clause-made g c world next stands leads =
    is_made g.D.Disk.told (Ok c.args.answer) c.args.store.now c.commit.new.self leads.after world next (c.in-Ok.ensures.crash leads.after leads.runs) stands leads.stands
    c.args.answer refl
    (λ ok. c.changes_have_one_end.ensures c.args.store.now.tables c.args.changes.items c.commit.new.self.tables leads.after c.in-Ok.ensures.made leads.runs)

pub returns-in-Err-clause-made : goal.returns-in-Err-clause-made
returns-in-Err-clause-made g c world next stands leads =
    is_made g.D.Disk.told (Err (fault_in c.in-Err.fault)) c.args.store.now c.commit.new.self leads.after world next (c.in-Err.ensures.crash leads.after leads.runs) stands leads.stands
    c.args.answer (is_outage c.in-Err.fault (fault_in c.in-Err.fault) refl) (λ ok. absurd (false≢true ok))
