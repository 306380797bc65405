use Rattle.mailbox_core.proofs.Reopening.{loaded_stand}
use Rattle.mailbox_core.proofs.laws.loaded_tables_stand.Goals as goal

pub returns : goal.returns
returns c files worlds content t holds held =
    loaded_stand (record { tables = c.files_hold_one_thing.ensures.tables; contents = c.files_hold_one_thing.ensures.contents }) files content t held worlds holds
