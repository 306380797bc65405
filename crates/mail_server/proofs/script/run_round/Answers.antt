use Rattle.std.proofs.Common.{◌≡◌, false, sym, ◌∙◌}
use Rattle.mail_rounds.specs.Held.{held}
use Rattle.mail_server.proofs.Handed.{part_keeps, round_keeps}
use Rattle.mail_server.proofs.Playing.{begun_crashes, done_crashes, round_goes_on, round_made}
use Rattle.mail_server.proofs.script.run_round.Goals as goal

pub returns-else-starved-clause-on_script : goal.returns-else-starved-clause-on_script
returns-else-starved-clause-on_script g c first on some =
    let told : c.round-outcome.new.ports.starved ≡ false = sym c.starved-starved.ensures.starved ∙ c.if-starved.false in
    round_goes_on g.C.Core.seen first c.args.ports.now.plan.events c.args.ports.now c.round-outcome.new.ports (held c.args.server.now) (held c.round-outcome.new.self) c.requires.kept
    c.in-Ok.ensures.done c.round-outcome.ensures.plan told (c.starved-starved.ensures.answers told) on some

pub returns-else-starved-clause-made : goal.returns-else-starved-clause-made
returns-else-starved-clause-made g c first on =
    round_made g.C.Core.seen first c.args.ports.now.plan.events c.args.ports.now c.round-outcome.new.ports (held c.args.server.now) (held c.round-outcome.new.self) c.in-Ok.ensures.done (sym c.starved-starved.ensures.starved ∙ c.if-starved.false) on

-- The record of a call found no memory.
pub returns-then-starved-clause-crash : goal.returns-then-starved-clause-crash
returns-then-starved-clause-crash g c first on =
    done_crashes g.C.Core.seen first c.args.ports.now.plan.events c.args.ports.now c.round-outcome.new.ports (held c.args.server.now) (held c.round-outcome.new.self) c.steps_record_their_changes.ensures.left c.requires.kept
    c.in-Ok.ensures.done c.round-outcome.ensures.plan c.starved-starved.ensures.answers on

pub returns-in-Err-StoreFault-clause-crash : goal.returns-in-Err-StoreFault-clause-crash
returns-in-Err-StoreFault-clause-crash g c first on =
    begun_crashes g.C.Core.seen first c.args.ports.now.plan.events c.args.ports.now c.round-outcome.new.ports (held c.args.server.now) (held c.round-outcome.new.self) c.steps_record_their_changes.ensures.left c.requires.kept
    (rw c.in-Err-StoreFault.is at c.round-outcome.ensures.part) c.round-outcome.ensures.plan c.starved-starved.ensures.answers on

pub returns-in-Err-ListenFault-clause-crash : goal.returns-in-Err-ListenFault-clause-crash
returns-in-Err-ListenFault-clause-crash g c first on =
    begun_crashes g.C.Core.seen first c.args.ports.now.plan.events c.args.ports.now c.round-outcome.new.ports (held c.args.server.now) (held c.round-outcome.new.self) c.steps_record_their_changes.ensures.left c.requires.kept
    (rw c.in-Err-ListenFault.is at c.round-outcome.ensures.part) c.round-outcome.ensures.plan c.starved-starved.ensures.answers on

pub returns-in-Err-NoMemory-clause-crash : goal.returns-in-Err-NoMemory-clause-crash
returns-in-Err-NoMemory-clause-crash g c first on =
    begun_crashes g.C.Core.seen first c.args.ports.now.plan.events c.args.ports.now c.round-outcome.new.ports (held c.args.server.now) (held c.round-outcome.new.self) c.steps_record_their_changes.ensures.left c.requires.kept
    (rw c.in-Err-NoMemory.is at c.round-outcome.ensures.part) c.round-outcome.ensures.plan c.starved-starved.ensures.answers on

pub returns-then-starved-clause-keeps : goal.returns-then-starved-clause-keeps
returns-then-starved-clause-keeps g c first on =
    round_keeps g.C.Core.seen first c.args.ports.now.plan.events c.args.ports.now c.round-outcome.new.ports (held c.args.server.now) (held c.round-outcome.new.self)
    c.in-Ok.ensures.done c.round-outcome.ensures.plan c.starved-starved.ensures.answers on

pub returns-in-Err-StoreFault-clause-keeps : goal.returns-in-Err-StoreFault-clause-keeps
returns-in-Err-StoreFault-clause-keeps g c first on =
    part_keeps g.C.Core.seen first c.args.ports.now.plan.events c.args.ports.now c.round-outcome.new.ports (held c.args.server.now) (held c.round-outcome.new.self)
    (rw c.in-Err-StoreFault.is at c.round-outcome.ensures.part) c.round-outcome.ensures.plan c.starved-starved.ensures.answers on

pub returns-in-Err-ListenFault-clause-keeps : goal.returns-in-Err-ListenFault-clause-keeps
returns-in-Err-ListenFault-clause-keeps g c first on =
    part_keeps g.C.Core.seen first c.args.ports.now.plan.events c.args.ports.now c.round-outcome.new.ports (held c.args.server.now) (held c.round-outcome.new.self)
    (rw c.in-Err-ListenFault.is at c.round-outcome.ensures.part) c.round-outcome.ensures.plan c.starved-starved.ensures.answers on

pub returns-in-Err-NoMemory-clause-keeps : goal.returns-in-Err-NoMemory-clause-keeps
returns-in-Err-NoMemory-clause-keeps g c first on =
    part_keeps g.C.Core.seen first c.args.ports.now.plan.events c.args.ports.now c.round-outcome.new.ports (held c.args.server.now) (held c.round-outcome.new.self)
    (rw c.in-Err-NoMemory.is at c.round-outcome.ensures.part) c.round-outcome.ensures.plan c.starved-starved.ensures.answers on
