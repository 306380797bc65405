use Rattle.std.proofs.Common.{◌<◌, [], length, refl, sym, ◌∙◌, arith}
use Rattle.mail_rounds.specs.Calls.{Asks}
use Rattle.mail_rounds.specs.Held.{held, AtEach}
use Rattle.mail_rounds.proofs.Chains.{never_falls}
use Rattle.mail_rounds.proofs.Making.{ask_begins, does_none, each_then}
use Rattle.mail_rounds.proofs.OneLink.{on_err_always}
use Rattle.mail_rounds.proofs.server.Server.ask_all.Goals as goal

pub asks-init : goal.asks-init
asks-init g c = record {
  plan = refl;
  counts = record { listen = omega arith; each = λ n. omega arith };
  quiet = refl;
  goes = does_none g.C.Core.seen (AtEach Asks []) (held c.args.self.now) (g.P.Ports.history c.args.ports.now) (λ first before. refl);
  others = λ k above. refl;
  same_length = refl;
  ready = c.requires.ready;
  stored = refl;
  spent = refl;
}

pub asks-preserved : goal.asks-preserved
asks-preserved g c =
    let so_far = c.asks.invariant in
    let step = c.in_ok-ask.ensures in
    let within : c.asks.i < length c.args.self.now.links.items = omega arith in
    record {
      plan = step.plan ∙ so_far.plan;
      counts = never_falls _ _ _ _ _ _ so_far.counts step.counts;
      quiet = step.quiet ∙ so_far.quiet;
      goes = each_then g.C.Core.seen Asks c.args.self.now.links.items c.asks.self.links.items c.asks.i c.asks.i (held c.args.self.now) (held c.asks.self) (held c.ask.new.self)
          (g.P.Ports.history c.args.ports.now) (g.P.Ports.history c.asks.ports) (g.P.Ports.history c.ask.new.ports) within (sym (so_far.others c.asks.i (omega arith))) so_far.goes step.done;
      others = λ k above. step.others k (omega (arith, above)) ∙ so_far.others k (omega (arith, above));
      same_length = step.count ∙ so_far.same_length;
      ready = step.ready;
      stored = step.stored (λ e. cc) ∙ so_far.stored;
      spent = step.spent ∙ so_far.spent;
    }

pub returns-in_err-ask-clause-part : goal.returns-in_err-ask-clause-part
returns-in_err-ask-clause-part g c =
    let so_far = c.asks.invariant in
    let within : c.asks.i < length c.args.self.now.links.items = omega arith in
    on_err_always c.from_residual.result
    (ask_begins g.C.Core.seen c.args.count c.args.self.now.links.items c.asks.self.links.items c.asks.i (held c.args.self.now) (held c.asks.self) (held c.ask.new.self)
    (g.P.Ports.history c.args.ports.now) (g.P.Ports.history c.asks.ports) (g.P.Ports.history c.ask.new.ports) within (omega arith) (sym (so_far.others c.asks.i (omega arith))) so_far.goes c.in_err-ask.ensures.part)
