use Rattle.imap_lexer.proofs.Turns.{unit-first, unit-fronts, unit-written}
use Rattle.imap_lexer.proofs.units.lines_and_literals_are_units.Goals as goal

pub returns-clause-unit : goal.returns-clause-unit
returns-clause-unit c = unit-first

pub returns-clause-fronts : goal.returns-clause-fronts
returns-clause-fronts c = unit-fronts

pub returns-clause-every : goal.returns-clause-every
returns-clause-every c = unit-written
