use Rattle.row_store.specs.Holding.{Holds, nothing_stored}
use Rattle.row_store.proofs.InMemory.{read_before}
use Rattle.row_store.proofs.in_memory.empty_store.Goals as goal

pub returns-in-Ok-clause-empty : goal.returns-in-Ok-clause-empty
returns-in-Ok-clause-empty c =
    let store = c.in-Ok.store in
    let none = read_before c.format.new.files store.files (λ bytes. Holds bytes nothing_stored.tables nothing_stored.contents) c.in-Ok.ensures.sure c.in_ok-format.ensures.holds in
    c.files_hold_one_thing.ensures.tables _ store.tables nothing_stored.tables _ nothing_stored.contents c.in-Ok.ensures.loaded.holds none
