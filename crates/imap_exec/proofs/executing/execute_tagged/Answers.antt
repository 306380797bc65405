use Rattle.std.proofs.Common.{codes}
use Rattle.imap_grammar.specs.declared.commands.Command.TheVariants.{Capability, Noop, Logout, Check, Authenticate, Create, Delete, Subscribe, Unsubscribe, Status, Append, Select, Rename, Store, Fetch, List as ListNames}
use Rattle.session_view.specs.Parts.{state_of}
use Rattle.imap_steps.specs.Stepping.{completed}
use Rattle.imap_steps.specs.Executing.{capability, commanded, logout, unserved, while_selected}
use Rattle.imap_exec.proofs.Guarding.{as_command}
use Rattle.imap_exec.proofs.Unserved.{unserved_else}
use Rattle.imap_exec.proofs.Saying.{executed_as, said_alone, said_always, said_begun}
use Rattle.imap_exec.proofs.executing.execute_tagged.Goals as goal

pub returns-in-Capability : goal.returns-in-Capability
unfolding capability
returns-in-Capability g c =
    as_command g.D.Disk.told c.capability.result c.args.store.now c.args.store.now c.args.sessions.now c.args.sessions.now c.args.answer.now.items c.capability.new.answer.items c.args.number c.args.now c.args.tag.now c.args.command.now Capability c.in-Capability.is
    (said_always g.D.Disk.told c.capability.result c.args.store.now c.args.sessions.now c.args.answer.now.items c.capability.new.answer.items (λ shared. capability shared c.args.tag.now) c.requires.ready c.capability.ensures)

pub returns-in-Noop : goal.returns-in-Noop
returns-in-Noop g c =
    as_command g.D.Disk.told c.complete.result c.args.store.now c.args.store.now c.args.sessions.now c.args.sessions.now c.args.answer.now.items c.complete.new.answer.items c.args.number c.args.now c.args.tag.now c.args.command.now Noop c.in-Noop.is
    (said_always g.D.Disk.told c.complete.result c.args.store.now c.args.sessions.now c.args.answer.now.items c.complete.new.answer.items (λ shared. completed shared c.args.tag.now (codes "NOOP")) c.requires.ready c.complete.ensures)

pub returns-in-Logout : goal.returns-in-Logout
unfolding logout
returns-in-Logout g c =
    as_command g.D.Disk.told c.logout.result c.args.store.now c.args.store.now c.args.sessions.now c.args.sessions.now c.args.answer.now.items c.logout.new.answer.items c.args.number c.args.now c.args.tag.now c.args.command.now Logout c.in-Logout.is
    (said_always g.D.Disk.told c.logout.result c.args.store.now c.args.sessions.now c.args.answer.now.items c.logout.new.answer.items (λ shared. logout shared c.args.tag.now) c.requires.ready c.logout.ensures)

pub returns-in-Check : goal.returns-in-Check
returns-in-Check g c =
    as_command g.D.Disk.told c.check.result c.args.store.now c.args.store.now c.args.sessions.now c.args.sessions.now c.args.answer.now.items c.check.new.answer.items c.args.number c.args.now c.args.tag.now c.args.command.now Check c.in-Check.is
    (said_alone g.D.Disk.told c.check.result c.args.store.now c.args.sessions.now c.args.answer.now.items c.check.new.answer.items (λ shared. while_selected shared c.args.tag.now (state_of c.args.number shared.parts) (completed shared c.args.tag.now (codes "CHECK"))) c.requires.ready c.check.ensures)

pub returns-in-Authenticate : goal.returns-in-Authenticate
returns-in-Authenticate g c =
    as_command g.D.Disk.told c.authenticate.result c.args.store.now c.args.store.now c.args.sessions.now c.authenticate.new.sessions c.args.answer.now.items c.authenticate.new.answer.items c.args.number c.args.now c.args.tag.now c.args.command.now (Authenticate c.in-Authenticate.mechanism) c.in-Authenticate.is
    (said_begun g.D.Disk.told c.authenticate.result c.args.store.now c.args.sessions.now c.authenticate.new.sessions c.args.answer.now.items c.authenticate.new.answer.items c.args.number c.args.tag.now c.in-Authenticate.mechanism c.requires.ready c.authenticate.ensures)

pub returns-in-Create : goal.returns-in-Create
returns-in-Create g c =
    as_command g.D.Disk.told c.create.result c.args.store.now c.create.new.store c.args.sessions.now c.args.sessions.now c.args.answer.now.items c.create.new.answer.items c.args.number c.args.now c.args.tag.now c.args.command.now (Create c.in-Create.name) c.in-Create.is
    c.create.ensures

pub returns-in-Delete : goal.returns-in-Delete
returns-in-Delete g c =
    as_command g.D.Disk.told c.delete.result c.args.store.now c.delete.new.store c.args.sessions.now c.args.sessions.now c.args.answer.now.items c.delete.new.answer.items c.args.number c.args.now c.args.tag.now c.args.command.now (Delete c.in-Delete.name) c.in-Delete.is
    c.delete.ensures

pub returns-in-Subscribe : goal.returns-in-Subscribe
returns-in-Subscribe g c =
    as_command g.D.Disk.told c.subscribe.result c.args.store.now c.subscribe.new.store c.args.sessions.now c.args.sessions.now c.args.answer.now.items c.subscribe.new.answer.items c.args.number c.args.now c.args.tag.now c.args.command.now (Subscribe c.in-Subscribe.name) c.in-Subscribe.is
    c.subscribe.ensures

pub returns-in-Unsubscribe : goal.returns-in-Unsubscribe
returns-in-Unsubscribe g c =
    as_command g.D.Disk.told c.unsubscribe.result c.args.store.now c.unsubscribe.new.store c.args.sessions.now c.args.sessions.now c.args.answer.now.items c.unsubscribe.new.answer.items c.args.number c.args.now c.args.tag.now c.args.command.now (Unsubscribe c.in-Unsubscribe.name) c.in-Unsubscribe.is
    c.unsubscribe.ensures

pub returns-in-Status : goal.returns-in-Status
returns-in-Status g c =
    as_command g.D.Disk.told c.status.result c.args.store.now c.args.store.now c.args.sessions.now c.args.sessions.now c.args.answer.now.items c.status.new.answer.items c.args.number c.args.now c.args.tag.now c.args.command.now
    (Status c.in-Status.name c.in-Status.items) c.in-Status.is c.status.ensures

pub returns-in-Rename : goal.returns-in-Rename
returns-in-Rename g c =
    as_command g.D.Disk.told c.rename.result c.args.store.now c.rename.new.store c.args.sessions.now c.args.sessions.now c.args.answer.now.items c.rename.new.answer.items c.args.number c.args.now c.args.tag.now c.args.command.now
    (Rename c.in-Rename.from c.in-Rename.to) c.in-Rename.is c.rename.ensures

pub returns-in-List : goal.returns-in-List
returns-in-List g c =
    as_command g.D.Disk.told c.list.result c.args.store.now c.args.store.now c.args.sessions.now c.args.sessions.now c.args.answer.now.items c.list.new.answer.items c.args.number c.args.now c.args.tag.now c.args.command.now
    (ListNames c.in-List.reference c.in-List.name c.in-List.subscribed) c.in-List.is c.list.ensures

pub returns-in-Select : goal.returns-in-Select
returns-in-Select g c =
    as_command g.D.Disk.told c.select.result c.args.store.now c.select.new.store c.args.sessions.now c.select.new.sessions c.args.answer.now.items c.select.new.answer.items c.args.number c.args.now c.args.tag.now c.args.command.now
    (Select c.in-Select.name c.in-Select.examine c.in-Select.condstore c.in-Select.resync) c.in-Select.is c.select.ensures

pub returns-in-Append : goal.returns-in-Append
returns-in-Append g c =
    as_command g.D.Disk.told c.append.result c.args.store.now c.append.new.store c.args.sessions.now c.args.sessions.now c.args.answer.now.items c.append.new.answer.items c.args.number c.args.now c.args.tag.now c.args.command.now
    (Append c.in-Append.name c.in-Append.flags c.in-Append.stamp c.in-Append.text) c.in-Append.is c.append.ensures

pub returns-in-Store : goal.returns-in-Store
returns-in-Store g c =
    as_command g.D.Disk.told c.store_flags.result c.args.store.now c.store_flags.new.store c.args.sessions.now c.args.sessions.now c.args.answer.now.items c.store_flags.new.answer.items c.args.number c.args.now c.args.tag.now c.args.command.now
    (Store c.in-Store.by_uid c.in-Store.set c.in-Store.unchanged_since c.in-Store.how c.in-Store.silent c.in-Store.flags) c.in-Store.is c.store_flags.ensures

pub returns-in-Fetch : goal.returns-in-Fetch
returns-in-Fetch g c =
    as_command g.D.Disk.told c.fetch.result c.args.store.now c.fetch.new.store c.args.sessions.now c.args.sessions.now c.args.answer.now.items c.fetch.new.answer.items c.args.number c.args.now c.args.tag.now c.args.command.now
    (Fetch c.in-Fetch.by_uid c.in-Fetch.set c.in-Fetch.items c.in-Fetch.changed_since c.in-Fetch.vanished) c.in-Fetch.is c.fetch.ensures

pub returns-in_default : goal.returns-in_default
returns-in_default g c =
    let number = c.args.number in
    let command = c.args.command.now in
    executed_as g.D.Disk.told c.unserved.result c.args.store.now c.args.store.now c.args.sessions.now c.args.sessions.now c.args.answer.now.items c.unserved.new.answer.items
    (λ shared. unserved shared c.args.tag.now) (λ shared. commanded shared number (state_of number shared.parts) c.args.tag.now command c.args.now)
    (λ world. unserved_else (record { world = world; parts = c.args.sessions.now }) number c.args.now (state_of number c.args.sessions.now) c.args.tag.now command (record {
      capability = c.in_default.not-Capability;
      noop = c.in_default.not-Noop;
      logout = c.in_default.not-Logout;
      check = c.in_default.not-Check;
      login = c.in_default.not-Login;
      authenticate = c.in_default.not-Authenticate;
      create = c.in_default.not-Create;
      delete = c.in_default.not-Delete;
      subscribe = c.in_default.not-Subscribe;
      unsubscribe = c.in_default.not-Unsubscribe;
      status = c.in_default.not-Status;
      rename = c.in_default.not-Rename;
      list = c.in_default.not-List;
      select = c.in_default.not-Select;
      append = c.in_default.not-Append;
      store = c.in_default.not-Store;
      fetch = c.in_default.not-Fetch;
    }))
    (said_always g.D.Disk.told c.unserved.result c.args.store.now c.args.sessions.now c.args.answer.now.items c.unserved.new.answer.items (λ shared. unserved shared c.args.tag.now) c.requires.ready c.unserved.ensures)
