use Rattle.std.proofs.Common.{◌∙◌}
use Rattle.mail_text.proofs.FrontLemmas.{found}
use Rattle.mail_text.proofs.fronts.has_byte.Goals as goal

pub returns : goal.returns
returns c = c.is_some.ensures ∙ found c.args.b c.args.text.now c.memchr.result c.memchr.ensures
