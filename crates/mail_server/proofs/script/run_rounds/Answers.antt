use Rattle.std.proofs.Common.{◌≡◌, ◌≢◌, ◌<◌, ◌≤◌, ◌+◌, true, [], List, sym, ◌∙◌, ap, subst, refl, length, arith}
use Rattle.port_model.specs.declared.calls.PortCall.{PortCall}
use Rattle.port_model.specs.declared.events.Event.{Event}
use Rattle.port_model.specs.Playing.{Plan, playing}
use Rattle.mail_model.specs.Machine.{after}
use Rattle.mail_rounds.specs.Crashes.{MachineCrashes}
use Rattle.mail_rounds.specs.Held.{held}
use Rattle.mail_server.specs.Keeping.{KeepsScript}
use Rattle.mail_server.specs.OnScript.{IsOnScript, LeavesMade, PartCrashes}
use Rattle.mail_server.proofs.Crashing.{leaves_none, leaves_on, part_leaves}
use Rattle.mail_server.proofs.Playing.{none-left}
use Rattle.mail_server.proofs.Transfers.{OnErr-always}
use Rattle.mail_server.proofs.script.run_rounds.Goals as goal

pub rounds-init : goal.rounds-init
rounds-init g c = record {
  going = c.requires.going;
  plan = refl;
  on_script = λ first on. (
    on,
    subst (λ (calls : List PortCall). length (playing c.args.ports.now.plan calls).left + 0 ≤ c.args.most) (sym c.requires.none) (omega (arith, c.requires.within)),
  );
  leaves = λ first on. subst (λ (calls : List PortCall). LeavesMade g.C.Core.seen (held c.args.server.now).core (held c.args.server.now).core first (after first calls).changes) (sym c.requires.none)
      (leaves_none g.C.Core.seen (held c.args.server.now).core first);
  stored = refl;
}

pub rounds-preserved : goal.rounds-preserved
rounds-preserved g c =
    let inv = c.rounds.invariant in
    let its : c.rounds.ports.plan.events ≡ c.args.ports.now.plan.events = ap (λ (p : Plan). p.events) inv.plan in
    let some : (first : _) → IsOnScript g.C.Core.seen first c.args.ports.now.plan.events c.rounds.ports (held c.rounds.server) → (playing c.rounds.ports.plan c.rounds.ports.calls).left ≢ [] =
    λ first on e. let ended : c.done.result ≡ true = (c.done.ensures.left on.told).1 e in absurd (cc (c.if-not-done.true, ended)) in
    record {
      going = c.in_ok-run_round.ensures.going;
      plan = c.run_round.ensures.plan ∙ inv.plan;
      on_script = λ first on.
          let so_far = inv.on_script first on in
          let step = subst (λ (script : List Event). IsOnScript g.C.Core.seen first script c.rounds.ports (held c.rounds.server) → (playing c.rounds.ports.plan c.rounds.ports.calls).left ≢ []
          → IsOnScript g.C.Core.seen first script c.run_round.new.ports (held c.run_round.new.server)
          × (length (playing c.run_round.new.ports.plan c.run_round.new.ports.calls).left < length (playing c.rounds.ports.plan c.rounds.ports.calls).left)) its
          (c.in_ok-run_round.ensures.on_script first) so_far.0 (some first so_far.0) in
          (step.0, omega (arith, step.1, so_far.1));
      leaves = λ first on.
          let made = subst (λ (script : List Event). IsOnScript g.C.Core.seen first script c.rounds.ports (held c.rounds.server)
          → MachineCrashes g.C.Core.seen (held c.rounds.server).core (held c.run_round.new.server).core first c.rounds.ports.calls c.run_round.new.ports.calls) its
          (c.in_ok-run_round.ensures.made first) (inv.on_script first on).0 in
          leaves_on g.C.Core.seen (held c.args.server.now).core (held c.rounds.server).core (held c.run_round.new.server).core first c.rounds.ports.calls c.run_round.new.ports.calls
          c.worlds_reach_back.ensures.first c.worlds_reach_back.ensures.more c.changes_stand_by_their_answers.ensures.world (inv.leaves first on) made;
      stored = c.in_ok-run_round.ensures.stored (λ e. cc) ∙ inv.stored;
    }

pub returns-after-rounds-clause-done : goal.returns-after-rounds-clause-done
returns-after-rounds-clause-done g c first on =
    none-left (playing c.rounds.ports.plan c.rounds.ports.calls).left (omega (arith, (c.rounds.invariant.on_script first on).1, c.rounds-test.false))

pub returns-in_err-run_round-clause-crash : goal.returns-in_err-run_round-clause-crash
returns-in_err-run_round-clause-crash g c =
    OnErr-always c.from_residual.result _ (λ first on.
    let inv = c.rounds.invariant in
    let its : c.rounds.ports.plan.events ≡ c.args.ports.now.plan.events = ap (λ (p : Plan). p.events) inv.plan in
    let part = subst (λ (script : List Event). IsOnScript g.C.Core.seen first script c.rounds.ports (held c.rounds.server)
    → PartCrashes g.C.Core.seen (held c.rounds.server).core (held c.run_round.new.server).core first script c.rounds.ports.calls) its
    (c.in_err-run_round.ensures.crash first) (inv.on_script first on).0 in
    part_leaves g.C.Core.seen (held c.args.server.now).core (held c.rounds.server).core (held c.run_round.new.server).core first c.args.ports.now.plan.events c.rounds.ports.calls
    c.worlds_reach_back.ensures.first c.worlds_reach_back.ensures.more c.changes_stand_by_their_answers.ensures.world (inv.leaves first on) part)

pub returns-in_err-run_round-clause-keeps : goal.returns-in_err-run_round-clause-keeps
returns-in_err-run_round-clause-keeps g c =
    OnErr-always c.from_residual.result _ (λ first on.
    let inv = c.rounds.invariant in
    let its : c.rounds.ports.plan.events ≡ c.args.ports.now.plan.events = ap (λ (p : Plan). p.events) inv.plan in
    subst (λ (script : List Event). IsOnScript g.C.Core.seen first script c.rounds.ports (held c.rounds.server) → KeepsScript g.C.Core.seen (held c.run_round.new.server).core first script) its
    (c.in_err-run_round.ensures.keeps first) (inv.on_script first on).0)
