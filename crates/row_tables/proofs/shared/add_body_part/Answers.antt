use Rattle.std.proofs.Common.{sym, subst, refl}
use Rattle.ordered_rows.specs.Listed.{with_row}
use Rattle.row_tables.specs.Indexes.{AreDigests}
use Rattle.row_tables.specs.Keys.{digest_entry_key, body_part_key}
use Rattle.row_tables.proofs.Entries.{Numbers, digests_with, entry_is_new}
use Rattle.row_tables.specs.declared.indexes.DigestEntry.{DigestEntry}
use Rattle.row_tables.proofs.shared.add_body_part.Goals as goal

pub insert-requires-2 : goal.insert-requires-2
insert-requires-2 c = entry_is_new c.args.digests.now c.args.rows.now c.args.row c.requires.indexed c.requires.new_id

pub returns-in-Ok-clause-indexed : goal.returns-in-Ok-clause-indexed
returns-in-Ok-clause-indexed c =
    let entry : DigestEntry = record { digest = c.args.row.digest; id = c.args.row.id } in
    let bodies : Numbers body_part_key = record { same = c.numbers_after_insert.ensures.same; other = c.numbers_after_insert.ensures.other } in
    let entries : Numbers digest_entry_key = record { same = c.numbers_after_insert-2.ensures.same; other = c.numbers_after_insert-2.ensures.other } in
    let goal_at = digests_with c.args.digests.now c.args.rows.now entry c.args.row bodies entries c.keys.ensures.numbers c.requires.indexed refl refl c.insert-2.ensures.order c.insert.ensures.order in
    subst (λ l. AreDigests l c.insert.new.self) (sym c.in-Ok.ensures.ok) (subst (λ l. AreDigests (with_row digest_entry_key entry c.args.digests.now) l) (sym c.in_ok-insert.ensures.ok) goal_at)
