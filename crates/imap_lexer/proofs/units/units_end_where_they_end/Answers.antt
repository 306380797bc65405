use Rattle.imap_lexer.proofs.Cuts.{first-parts, first-is_whole, first-shortest, first-none, first-stays, first-at_last}
use Rattle.imap_lexer.proofs.units.units_end_where_they_end.Goals as goal

pub returns-clause-parts : goal.returns-clause-parts
returns-clause-parts c = first-parts

pub returns-clause-whole : goal.returns-clause-whole
returns-clause-whole c = first-is_whole

pub returns-clause-shortest : goal.returns-clause-shortest
returns-clause-shortest c = first-shortest

pub returns-clause-none : goal.returns-clause-none
returns-clause-none c = first-none

pub returns-clause-stays : goal.returns-clause-stays
returns-clause-stays c = first-stays

pub returns-clause-at_last : goal.returns-clause-at_last
returns-clause-at_last c = first-at_last
