use Rattle.std.proofs.Common.{ap}
use Rattle.ordered_rows.specs.RowKey.{number_key}
use Rattle.ordered_rows.specs.Listed.{row_at}
use Rattle.row_tables.specs.Keys.{user_key}
use Rattle.row_tables.specs.Names.{user_named}
use Rattle.mail_stands.proofs.laws.user_rows.Goals as goal

pub returns-clause-at : goal.returns-clause-at
returns-clause-at c content t world id s = ap (row_at user_key (number_key id)) s.users

pub returns-clause-named : goal.returns-clause-named
returns-clause-named c content t world name s = ap (user_named name) s.users
