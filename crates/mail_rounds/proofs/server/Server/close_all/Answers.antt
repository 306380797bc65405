use Rattle.std.proofs.Common.{ℕ, ◌≡◌, ◌<◌, ◌+◌, ◌-◌, length, take, drop, refl, sym, ◌∙◌, ap, subst, arith}
use Rattle.mail_rounds.specs.Calls.{GoesOn, Closes}
use Rattle.mail_rounds.specs.Held.{held, AtEach}
use Rattle.mail_rounds.specs.Serves.{Does}
use Rattle.mail_rounds.proofs.Chains.{never_falls, rest-more, rest-at}
use Rattle.mail_rounds.proofs.Making.{does_none, each_all, each_then}
use Rattle.mail_rounds.proofs.server.Server.close_all.Goals as goal

pub closing-preserved : goal.closing-preserved
closing-preserved g c =
    let so_far = c.closing.invariant in
    let step = c.close_or_pass-i.ensures in
    let links = c.args.self.now.links.items in
    let looked = c.closing.i + (length links - length c.closing.self.links.items) in
    let gone = length links - length c.close_or_pass-i.new.self.links.items in
    let one_more : looked + 1 ≡ c.close_or_pass-i.result + gone = omega (arith, step.index, step.within.0, step.within.1) in
    let within : looked < length links = omega arith in
    record {
      plan = step.plan ∙ so_far.plan;
      counts = never_falls _ _ _ _ _ _ so_far.counts step.counts;
      quiet = step.quiet ∙ so_far.quiet;
      within = step.within.0;
      fewer = omega (arith, step.within.1);
      rest = step.rest ∙ rest-more c.closing.self.links.items links c.closing.i looked so_far.rest ∙ ap (λ (k : ℕ). drop k links) one_more;
      goes = subst (λ (k : ℕ). GoesOn (Does g.C.Core.seen (AtEach Closes (take k links)) (held c.args.self.now) (held c.close_or_pass-i.new.self)) (g.P.Ports.history c.args.ports.now) (g.P.Ports.history c.close_or_pass-i.new.ports)) one_more
          (each_then g.C.Core.seen Closes links c.closing.self.links.items looked c.closing.i (held c.args.self.now) (held c.closing.self) (held c.close_or_pass-i.new.self)
          (g.P.Ports.history c.args.ports.now) (g.P.Ports.history c.closing.ports) (g.P.Ports.history c.close_or_pass-i.new.ports) within
          (sym (rest-at c.closing.self.links.items links c.closing.i looked so_far.rest)) so_far.goes step.goes);
      core = step.core ∙ so_far.core;
      spent = step.spent ∙ so_far.spent;
    }

pub closing-init : goal.closing-init
closing-init g c =
    let links = c.args.self.now.links.items in
    let none : 0 + (length links - length links) ≡ 0 = omega arith in
    record {
      plan = refl;
      counts = record { listen = omega arith; each = λ n. omega arith };
      quiet = refl;
      within = omega arith;
      fewer = omega arith;
      rest = ap (λ (k : ℕ). drop k links) (sym none);
      goes = subst (λ (k : ℕ). GoesOn (Does g.C.Core.seen (AtEach Closes (take k links)) (held c.args.self.now) (held c.args.self.now)) (g.P.Ports.history c.args.ports.now) (g.P.Ports.history c.args.ports.now)) (sym none)
          (does_none g.C.Core.seen (AtEach Closes (take 0 links)) (held c.args.self.now) (g.P.Ports.history c.args.ports.now) (λ first before. refl));
      core = refl;
      spent = refl;
    }

pub returns-clause-goes : goal.returns-clause-goes
returns-clause-goes g c =
    let links = c.args.self.now.links.items in
    each_all g.C.Core.seen Closes links (c.closing.i + (length links - length c.closing.self.links.items)) (held c.args.self.now) (held c.closing.self) (g.P.Ports.history c.args.ports.now) (g.P.Ports.history c.closing.ports)
    (omega arith) c.closing.invariant.goes
