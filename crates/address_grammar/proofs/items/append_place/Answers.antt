use Rattle.std.proofs.Common.{sym, subst}
use Rattle.address_grammar.specs.Steps.{Appends, given}
use Rattle.address_grammar.proofs.StepLemmas.{no_next, step_found, step_refused}
use Rattle.address_grammar.proofs.items.append_place.Goals as goal

pub returns-in_default : goal.returns-in_default
returns-in_default c = λ rest. no_next c.args.within c.args.place.now c.args.ending rest c.requires (sym c.in_default.ensures)

pub returns-then-fits : goal.returns-then-fits
returns-then-fits c =
    step_found c.args.out.now.items c.append_inner.new.out.items c.args.within c.in-Some.next c.args.place.now c.args.ending (sym c.in-Some.ensures)
    (subst (λ b. Appends c.args.out.now.items c.append_inner.new.out.items (given c.args.within c.args.ending c.args.place.now) b) c.if-fits.true c.in_ok-fits.ensures)

pub returns-else-fits : goal.returns-else-fits
returns-else-fits c =
    step_refused c.args.out.now.items c.append_inner.new.out.items c.args.within c.in-Some.next c.args.place.now c.args.ending (sym c.in-Some.ensures)
    (subst (λ b. Appends c.args.out.now.items c.append_inner.new.out.items (given c.args.within c.args.ending c.args.place.now) b) c.if-fits.false c.in_ok-fits.ensures)
