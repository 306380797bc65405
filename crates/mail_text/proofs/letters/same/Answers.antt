use Rattle.mail_text.proofs.CaseLemmas.{is_same-value}
use Rattle.mail_text.proofs.letters.same.Goals as goal

pub returns-clause-value : goal.returns-clause-value
returns-clause-value c = is_same-value _ _ _ c.eq_ignore_ascii_case.ensures.test.0 c.eq_ignore_ascii_case.ensures.test.1
