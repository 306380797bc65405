use Rattle.std.proofs.Common.{◌≡◌, ◌++◌, ℕ, [], map, drop}
use Rattle.ordered_rows.specs.RowKey.{number_key}
use Rattle.ordered_rows.specs.Listed.{rows_from}
use Rattle.row_tables.specs.Keys.{flag_name_key}
use Rattle.mail_stands.specs.Naming.{flag_ids, flag_namings}
use Rattle.mailbox_core.proofs.arrivals.plan_flags.Given as goal

-- The ids and names that are planned, and those of the flags that are left.
abbrev pub invariant-loop-flag : goal.invariant-loop-flag
invariant-loop-flag l =
    (first : ℕ) × (rows_from flag_name_key (number_key first) l.tables.marks.flag_names ≡ [])
    × (l.plan.ids.items ++ flag_ids l.next l.tables.marks.flag_names (map (λ flag. flag.now) (drop l.flag-index l.flags))
    ≡ flag_ids first l.tables.marks.flag_names (map (λ flag. flag.now) l.flags))
    × (l.plan.names.items ++ flag_namings l.next l.tables.marks.flag_names (map (λ flag. flag.now) (drop l.flag-index l.flags))
    ≡ flag_namings first l.tables.marks.flag_names (map (λ flag. flag.now) l.flags))
