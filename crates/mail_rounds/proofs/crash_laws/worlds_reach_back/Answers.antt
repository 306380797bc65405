use Rattle.mail_rounds.proofs.Crashes.{since-last, since-first, since-more}
use Rattle.mail_rounds.proofs.crash_laws.worlds_reach_back.Goals as goal

pub returns-clause-last : goal.returns-clause-last
returns-clause-last c = since-last

pub returns-clause-first : goal.returns-clause-first
returns-clause-first c = since-first

pub returns-clause-more : goal.returns-clause-more
returns-clause-more c = since-more
