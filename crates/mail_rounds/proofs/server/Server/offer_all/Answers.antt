use Rattle.std.proofs.Common.{◌<◌, [], length, refl, sym, ◌∙◌, arith}
use Rattle.mail_rounds.specs.Calls.{Offers}
use Rattle.mail_rounds.specs.Held.{held, AtEach}
use Rattle.mail_rounds.proofs.Crashes.{files-same, files-then}
use Rattle.mail_rounds.proofs.Chains.{never_falls}
use Rattle.mail_rounds.proofs.Making.{does_none, each_all, each_then}
use Rattle.mail_rounds.proofs.server.Server.offer_all.Goals as goal

pub offers-init : goal.offers-init
offers-init g c = record {
  plan = refl;
  counts = record { listen = omega arith; each = λ n. omega arith };
  quiet = refl;
  goes = does_none g.C.Core.seen (AtEach Offers []) (held c.args.self.now) (g.P.Ports.history c.args.ports.now) (λ first before. refl);
  others = λ k above. refl;
  count = refl;
  ready = c.requires.ready;
  files = files-same g.C.Core.seen c.args.self.now.core;
  spent = refl;
}

pub offers-preserved : goal.offers-preserved
offers-preserved g c =
    let so_far = c.offers.invariant in
    let step = c.offer_at.ensures in
    let within : c.offers.i < length c.args.self.now.links.items = omega arith in
    record {
      plan = step.plan ∙ so_far.plan;
      counts = never_falls _ _ _ _ _ _ so_far.counts step.counts;
      quiet = step.quiet ∙ so_far.quiet;
      goes = each_then g.C.Core.seen Offers c.args.self.now.links.items c.offers.self.links.items c.offers.i c.offers.i (held c.args.self.now) (held c.offers.self) (held c.offer_at.new.self)
          (g.P.Ports.history c.args.ports.now) (g.P.Ports.history c.offers.ports) (g.P.Ports.history c.offer_at.new.ports) within (sym (so_far.others c.offers.i (omega arith))) so_far.goes step.goes;
      others = λ k above. step.others k (omega (arith, above)) ∙ so_far.others k (omega (arith, above));
      count = step.count ∙ so_far.count;
      ready = step.ready;
      files = files-then g.C.Core.seen c.args.self.now.core c.offers.self.core c.offer_at.new.self.core so_far.files step.files;
      spent = step.spent ∙ so_far.spent;
    }

pub returns-clause-goes : goal.returns-clause-goes
returns-clause-goes g c =
    each_all g.C.Core.seen Offers c.args.self.now.links.items c.offers.i (held c.args.self.now) (held c.offers.self) (g.P.Ports.history c.args.ports.now) (g.P.Ports.history c.offers.ports) (omega arith) c.offers.invariant.goes
