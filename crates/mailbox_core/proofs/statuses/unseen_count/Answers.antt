use Rattle.std.proofs.Common.{ℕ, ◌≡◌, ◌+◌, ◌≤◌, List, codes, length, sym, subst, ◌∙◌, arith}
use Rattle.std.specs.List.Sorted.{IsStrictlySortedBy}
use Rattle.std.specs.Ordering.{nat_cmp}
use Rattle.row_tables.specs.References.{flags_of, uids_of}
use Rattle.row_tables.specs.declared.marks.FlagRow.{FlagRow}
use Rattle.mailbox_core.specs.SummaryRows.{flagged_uids}
use Rattle.mailbox_core.proofs.Tallied.{without_named, without_unnamed}
use Rattle.mailbox_core.proofs.statuses.unseen_count.Goals as goal

pub all_but-requires : goal.all_but-requires
all_but-requires c =
    let t = c.args.tables.now in
    let id : ℕ = c.args.mailbox in
    let seen : ℕ = c.in-Some.seen in
    let rising : IsStrictlySortedBy nat_cmp (uids_of id t.marks.mailbox_messages) = subst (λ (l : List ℕ). IsStrictlySortedBy nat_cmp l) c.uids.ensures.uids c.uids.ensures.ascending in
    let sum = without_named t id (codes "\\Seen") c.keys.ensures.places c.are_whole.ensures.ordered c.are_whole.ensures.closed seen (sym c.in-Some.is ∙ c.flag_name_id.ensures) rising in
    let few : length (flagged_uids seen (flags_of id t.marks.flags)) ≤ c.entry_count-all.result = omega (arith, sum, c.entry_count-all.ensures) in
    subst (λ (rows : List FlagRow). length (flagged_uids seen rows) ≤ c.entry_count-all.result) (sym c.flags_of.ensures) few

pub returns-in-Some : goal.returns-in-Some
returns-in-Some c =
    let t = c.args.tables.now in
    let id : ℕ = c.args.mailbox in
    let seen : ℕ = c.in-Some.seen in
    let rising : IsStrictlySortedBy nat_cmp (uids_of id t.marks.mailbox_messages) = subst (λ (l : List ℕ). IsStrictlySortedBy nat_cmp l) c.uids.ensures.uids c.uids.ensures.ascending in
    let sum = without_named t id (codes "\\Seen") c.keys.ensures.places c.are_whole.ensures.ordered c.are_whole.ensures.closed seen (sym c.in-Some.is ∙ c.flag_name_id.ensures) rising in
    let left : c.all_but.result + length (flagged_uids seen (flags_of id t.marks.flags)) ≡ c.entry_count-all.result =
    subst (λ (rows : List FlagRow). c.all_but.result + length (flagged_uids seen rows) ≡ c.entry_count-all.result) c.flags_of.ensures c.all_but.ensures in
    omega (arith, sum, left, c.entry_count-all.ensures)

pub returns-in-None : goal.returns-in-None
returns-in-None c =
    c.entry_count-all.ensures ∙ without_unnamed c.args.tables.now c.args.mailbox (codes "\\Seen") (sym c.flag_name_id.ensures ∙ c.in-None.is)
