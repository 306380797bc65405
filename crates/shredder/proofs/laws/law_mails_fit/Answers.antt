use Rattle.shredder.proofs.Weighed.{light_fits, kept_fits}
use Rattle.shredder.proofs.laws.law_mails_fit.Goals as goal

pub returns-clause-light : goal.returns-clause-light
returns-clause-light c = light_fits

pub returns-clause-kept : goal.returns-clause-kept
returns-clause-kept c = kept_fits c.law_sizes.ensures (λ text tree. (c.law_reading.ensures.exact text tree).0)
