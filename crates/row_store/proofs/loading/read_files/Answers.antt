use Rattle.row_store.proofs.Loads.{no_store}
use Rattle.row_store.proofs.loading.read_files.Goals as goal

pub returns-clause-not_a_store : goal.returns-clause-not_a_store
returns-clause-not_a_store g c is =
    no_store g.D.Disk.told (record { log0 = c.read_log.new.disk; log1 = c.make_sure.new.disk; bodies = c.make_sure-2.new.disk }) (c.read_log.ensures.not_a_store is) c.in_ok-make_sure.ensures.rest c.in_ok-make_sure-2.ensures.rest
