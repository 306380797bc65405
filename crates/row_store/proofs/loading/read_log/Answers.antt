use Rattle.std.proofs.Common.{◌≡◌, Err, sym, ap, ◌∙◌}
use Rattle.row_store.specs.declared.faults.LoadFault.{LoadFault}
use Rattle.row_store.proofs.Loads.{from_none, no_log_alone, no_log, other_format, no_changes}
use Rattle.row_store.proofs.loading.read_log.Goals as goal

pub returns-in-Err-clause-not_a_store : goal.returns-in-Err-clause-not_a_store
returns-in-Err-clause-not_a_store g c is =
    let same : c.refusal.result ≡ LoadFault.NotAStore = cc in
    let fault = no_log_alone c.in-Err.fault (sym c.refusal.ensures ∙ same) in
    no_log g.D.Disk.told c.load.new.disk (c.load.ensures.not_a_log (c.in-Err.is ∙ ap Err fault))

pub returns-then-format_byte-ne-FORMAT-clause-not_a_store : goal.returns-then-format_byte-ne-FORMAT-clause-not_a_store
returns-then-format_byte-ne-FORMAT-clause-not_a_store g c is =
    other_format g.D.Disk.told c.a_text_says_one_thing.ensures c.load.new.disk c.in-Ok.loaded.0 c.in-Ok.loaded.1.items c.in-Ok.ensures.loaded
    (λ e. c.if-format_byte-ne-FORMAT.true (c.format_byte.ensures ∙ e))

pub returns-in-None-clause-not_a_store : goal.returns-in-None-clause-not_a_store
returns-in-None-clause-not_a_store g c is =
    no_changes g.D.Disk.told c.a_text_says_one_thing.ensures c.load.new.disk c.in-Ok.loaded.0 c.in-Ok.loaded.1.items c.in-Ok.ensures.loaded
    (from_none c.in_ok-tables.field-0 c.in-None.is c.in_ok-tables.ensures.none)
