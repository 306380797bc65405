use Rattle.mail_stands.proofs.Naming.{names_are, free_of}
use Rattle.mail_stands.proofs.Written.{distinct_differ}
use Rattle.mail_stands.proofs.arriving.names_grow.Goals as goal

pub returns-clause-named : goal.returns-clause-named
returns-clause-named c = names_are c.insertion.ensures

pub returns-clause-differ : goal.returns-clause-differ
returns-clause-differ c = distinct_differ

pub returns-clause-free : goal.returns-clause-free
returns-clause-free c names next id none from = free_of c.keys.ensures.numbers next names none id from
