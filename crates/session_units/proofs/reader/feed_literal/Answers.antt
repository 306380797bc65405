use Rattle.std.proofs.Common.{take}
use Rattle.session_units.proofs.Lines.{imap-closed, imap-open, imap-quiet}
use Rattle.session_units.proofs.reader.feed_literal.Goals as goal

pub feed_literal-requires : goal.feed_literal-requires
feed_literal-requires c = imap-open c.args.imap.now.form c.args.imap.now.bytes c.requires

pub returns-clause-each : goal.returns-clause-each
returns-clause-each c = imap-quiet c.args.imap.now.form c.args.imap.now.bytes (take c.in_ok-count.count c.args.piece.now) c.in_ok-count.ensures.each

pub returns-clause-none : goal.returns-clause-none
returns-clause-none c = imap-closed c.feed_literal.new.self.form c.feed_literal.new.self.bytes c.in_ok-count.ensures.none
