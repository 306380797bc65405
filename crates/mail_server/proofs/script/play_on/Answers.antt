use Rattle.std.proofs.Common.{ℕ, ◌≡◌, false, List, [], sym, ap, ◌∙◌, subst}
use Rattle.port_model.specs.declared.events.Event.{Event}
use Rattle.port_model.specs.Script.{AreEvents}
use Rattle.port_model.specs.ScriptPorts.{Scripted}
use Rattle.mail_model.specs.Machine.{after}
use Rattle.mail_rounds.specs.Held.{held}
use Rattle.mail_server.specs.Keeping.{KeepsScript}
use Rattle.mail_server.specs.OnScript.{HasPlayed, IsOnScript, LeavesScript}
use Rattle.mail_server.specs.Rounds.{plan_of}
use Rattle.mail_server.proofs.Crashing.{leaves_alone, leaves_script, leaves_still}
use Rattle.mail_server.proofs.Handed.{flush_keeps, keeps_begun}
use Rattle.mail_server.proofs.Playing.{script_begins, script_ends, script_partway}
use Rattle.mail_server.proofs.script.play_on.Goals as goal

pub returns-in_err-run_rounds-clause-crash : goal.returns-in_err-run_rounds-clause-crash
returns-in_err-run_rounds-clause-crash g c first serves =
    let its : c.in_ok-ports.ports.plan.events ≡ c.args.events.items = ap (λ (p : Scripted). p.plan.events) c.in_ok-ports.ensures in
    let e : c.in_ok-ports.ports ≡ record { plan = plan_of c.args.events.items; calls = []; starved = false; starved_accepts = 0; starved_calls = 0 } =
    subst (λ (sends : List ℕ). c.in_ok-ports.ports ≡ record { plan = record { events = c.args.events.items; sends = sends }; calls = []; starved = false; starved_accepts = 0; starved_calls = 0 }) c.new.ensures.items c.in_ok-ports.ensures in
    let on = subst (λ (script : List Event). IsOnScript g.C.Core.seen first script c.in_ok-ports.ports (held c.args.server.now)) (sym its)
    (script_begins g.C.Core.seen first c.args.events.items c.in_ok-ports.ports (held c.args.server.now) serves e) in
    subst (λ (script : List Event). LeavesScript g.C.Core.seen (held c.args.server.now).core (held c.run_rounds.new.server).core first script) its (c.in_err-run_rounds.ensures.crash first on)

pub returns-clause-plays : goal.returns-clause-plays
returns-clause-plays g c first serves =
    let seen = g.C.Core.seen in
    let told : c.flush.new.ports.starved ≡ false = sym c.starved.ensures.starved ∙ c.if-starved.false in
    let its : c.in_ok-ports.ports.plan.events ≡ c.args.events.items = ap (λ (p : Scripted). p.plan.events) c.in_ok-ports.ensures in
    let e : c.in_ok-ports.ports ≡ record { plan = plan_of c.args.events.items; calls = []; starved = false; starved_accepts = 0; starved_calls = 0 } =
    subst (λ (sends : List ℕ). c.in_ok-ports.ports ≡ record { plan = record { events = c.args.events.items; sends = sends }; calls = []; starved = false; starved_accepts = 0; starved_calls = 0 }) c.new.ensures.items c.in_ok-ports.ensures in
    let begun = subst (λ (script : List Event). IsOnScript seen first script c.in_ok-ports.ports (held c.args.server.now)) (sym its)
    (script_begins seen first c.args.events.items c.in_ok-ports.ports (held c.args.server.now) serves e) in
    let on = c.in_ok-run_rounds.ensures.on_script first begun in
    let ended = script_ends seen first c.in_ok-ports.ports.plan.events c.run_rounds.new.ports c.flush.new.ports (held c.run_rounds.new.server) (held c.flush.new.self)
    (subst AreEvents (sym its) c.requires.kept) c.flush.ensures.goes c.flush.ensures.plan told (c.starved.ensures.answers told) on (c.in_ok-run_rounds.ensures.done first begun) in
    subst (λ (script : List Event). HasPlayed seen first script c.flush.new.ports.calls c.last.result c.flush.new.self.core) its
    (subst (λ (n : ℕ). HasPlayed seen first c.in_ok-ports.ports.plan.events c.flush.new.ports.calls n c.flush.new.self.core) (sym c.last.ensures) ended)

-- All was played, or the record of a call of the last flush found no memory: the flush left the files alone.
pub returns-clause-crash : goal.returns-clause-crash
returns-clause-crash g c first serves =
    let seen = g.C.Core.seen in
    let its : c.in_ok-ports.ports.plan.events ≡ c.args.events.items = ap (λ (p : Scripted). p.plan.events) c.in_ok-ports.ensures in
    let e : c.in_ok-ports.ports ≡ record { plan = plan_of c.args.events.items; calls = []; starved = false; starved_accepts = 0; starved_calls = 0 } =
    subst (λ (sends : List ℕ). c.in_ok-ports.ports ≡ record { plan = record { events = c.args.events.items; sends = sends }; calls = []; starved = false; starved_accepts = 0; starved_calls = 0 }) c.new.ensures.items c.in_ok-ports.ensures in
    let begun = subst (λ (script : List Event). IsOnScript seen first script c.in_ok-ports.ports (held c.args.server.now)) (sym its)
    (script_begins seen first c.args.events.items c.in_ok-ports.ports (held c.args.server.now) serves e) in
    subst (λ (script : List Event). LeavesScript seen (held c.args.server.now).core (held c.flush.new.self).core first script) its
    (leaves_script seen (held c.args.server.now).core (held c.flush.new.self).core first c.in_ok-ports.ports.plan.events c.run_rounds.new.ports.calls
    (leaves_still seen (held c.args.server.now).core (held c.run_rounds.new.server).core (held c.flush.new.self).core first (after first c.run_rounds.new.ports.calls).changes (c.in_ok-run_rounds.ensures.made first begun) c.flush.ensures.files)
    (script_partway seen first c.in_ok-ports.ports.plan.events c.run_rounds.new.ports (held c.run_rounds.new.server) (subst AreEvents (sym its) c.requires.kept) (c.in_ok-run_rounds.ensures.on_script first begun)))

pub returns-then-starved-clause-crash : goal.returns-then-starved-clause-crash
returns-then-starved-clause-crash g c first serves =
    let seen = g.C.Core.seen in
    let its : c.in_ok-ports.ports.plan.events ≡ c.args.events.items = ap (λ (p : Scripted). p.plan.events) c.in_ok-ports.ensures in
    let e : c.in_ok-ports.ports ≡ record { plan = plan_of c.args.events.items; calls = []; starved = false; starved_accepts = 0; starved_calls = 0 } =
    subst (λ (sends : List ℕ). c.in_ok-ports.ports ≡ record { plan = record { events = c.args.events.items; sends = sends }; calls = []; starved = false; starved_accepts = 0; starved_calls = 0 }) c.new.ensures.items c.in_ok-ports.ensures in
    let begun = subst (λ (script : List Event). IsOnScript seen first script c.in_ok-ports.ports (held c.args.server.now)) (sym its)
    (script_begins seen first c.args.events.items c.in_ok-ports.ports (held c.args.server.now) serves e) in
    subst (λ (script : List Event). LeavesScript seen (held c.args.server.now).core (held c.flush.new.self).core first script) its
    (leaves_script seen (held c.args.server.now).core (held c.flush.new.self).core first c.in_ok-ports.ports.plan.events c.run_rounds.new.ports.calls
    (leaves_still seen (held c.args.server.now).core (held c.run_rounds.new.server).core (held c.flush.new.self).core first (after first c.run_rounds.new.ports.calls).changes (c.in_ok-run_rounds.ensures.made first begun) c.flush.ensures.files)
    (script_partway seen first c.in_ok-ports.ports.plan.events c.run_rounds.new.ports (held c.run_rounds.new.server) (subst AreEvents (sym its) c.requires.kept) (c.in_ok-run_rounds.ensures.on_script first begun)))

pub returns-in_err-ports-clause-crash : goal.returns-in_err-ports-clause-crash
returns-in_err-ports-clause-crash g c first serves = leaves_alone g.C.Core.seen (held c.args.server.now).core first c.args.events.items

pub returns-clause-keeps : goal.returns-clause-keeps
returns-clause-keeps g c first serves =
    let its : c.in_ok-ports.ports.plan.events ≡ c.args.events.items = ap (λ (p : Scripted). p.plan.events) c.in_ok-ports.ensures in
    let e : c.in_ok-ports.ports ≡ record { plan = plan_of c.args.events.items; calls = []; starved = false; starved_accepts = 0; starved_calls = 0 } =
    subst (λ (sends : List ℕ). c.in_ok-ports.ports ≡ record { plan = record { events = c.args.events.items; sends = sends }; calls = []; starved = false; starved_accepts = 0; starved_calls = 0 }) c.new.ensures.items c.in_ok-ports.ensures in
    let begun = subst (λ (script : List Event). IsOnScript g.C.Core.seen first script c.in_ok-ports.ports (held c.args.server.now)) (sym its)
    (script_begins g.C.Core.seen first c.args.events.items c.in_ok-ports.ports (held c.args.server.now) serves e) in
    subst (λ (script : List Event). KeepsScript g.C.Core.seen (held c.flush.new.self).core first script) its
    (flush_keeps g.C.Core.seen first c.in_ok-ports.ports.plan.events c.run_rounds.new.ports c.flush.new.ports (held c.run_rounds.new.server) (held c.flush.new.self)
    c.flush.ensures.goes c.flush.ensures.plan c.starved.ensures.answers (c.in_ok-run_rounds.ensures.on_script first begun))

pub returns-then-starved-clause-keeps : goal.returns-then-starved-clause-keeps
returns-then-starved-clause-keeps g c first serves =
    let its : c.in_ok-ports.ports.plan.events ≡ c.args.events.items = ap (λ (p : Scripted). p.plan.events) c.in_ok-ports.ensures in
    let e : c.in_ok-ports.ports ≡ record { plan = plan_of c.args.events.items; calls = []; starved = false; starved_accepts = 0; starved_calls = 0 } =
    subst (λ (sends : List ℕ). c.in_ok-ports.ports ≡ record { plan = record { events = c.args.events.items; sends = sends }; calls = []; starved = false; starved_accepts = 0; starved_calls = 0 }) c.new.ensures.items c.in_ok-ports.ensures in
    let begun = subst (λ (script : List Event). IsOnScript g.C.Core.seen first script c.in_ok-ports.ports (held c.args.server.now)) (sym its)
    (script_begins g.C.Core.seen first c.args.events.items c.in_ok-ports.ports (held c.args.server.now) serves e) in
    subst (λ (script : List Event). KeepsScript g.C.Core.seen (held c.flush.new.self).core first script) its
    (flush_keeps g.C.Core.seen first c.in_ok-ports.ports.plan.events c.run_rounds.new.ports c.flush.new.ports (held c.run_rounds.new.server) (held c.flush.new.self)
    c.flush.ensures.goes c.flush.ensures.plan c.starved.ensures.answers (c.in_ok-run_rounds.ensures.on_script first begun))

pub returns-in_err-run_rounds-clause-keeps : goal.returns-in_err-run_rounds-clause-keeps
returns-in_err-run_rounds-clause-keeps g c first serves =
    let its : c.in_ok-ports.ports.plan.events ≡ c.args.events.items = ap (λ (p : Scripted). p.plan.events) c.in_ok-ports.ensures in
    let e : c.in_ok-ports.ports ≡ record { plan = plan_of c.args.events.items; calls = []; starved = false; starved_accepts = 0; starved_calls = 0 } =
    subst (λ (sends : List ℕ). c.in_ok-ports.ports ≡ record { plan = record { events = c.args.events.items; sends = sends }; calls = []; starved = false; starved_accepts = 0; starved_calls = 0 }) c.new.ensures.items c.in_ok-ports.ensures in
    let begun = subst (λ (script : List Event). IsOnScript g.C.Core.seen first script c.in_ok-ports.ports (held c.args.server.now)) (sym its)
    (script_begins g.C.Core.seen first c.args.events.items c.in_ok-ports.ports (held c.args.server.now) serves e) in
    subst (λ (script : List Event). KeepsScript g.C.Core.seen (held c.run_rounds.new.server).core first script) its (c.in_err-run_rounds.ensures.keeps first begun)

pub returns-in_err-ports-clause-keeps : goal.returns-in_err-ports-clause-keeps
returns-in_err-ports-clause-keeps g c first serves = keeps_begun g.C.Core.seen first c.args.events.items (held c.args.server.now) serves
