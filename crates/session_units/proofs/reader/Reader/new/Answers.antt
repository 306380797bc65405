use Rattle.session_units.proofs.Lines.{imap-closed}
use Rattle.session_units.proofs.reader.Reader.new.Goals as goal

pub returns-clause-none : goal.returns-clause-none
returns-clause-none c = imap-closed c.in_ok-new.field-0.form c.in_ok-new.field-0.bytes c.in_ok-new.ensures.none
