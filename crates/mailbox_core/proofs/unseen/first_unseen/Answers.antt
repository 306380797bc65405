use Rattle.std.proofs.Common.{ℕ, ◌≡◌, List, codes, not, sym, ap, subst, ◌∙◌}
use Rattle.std.specs.List.{position}
use Rattle.std.specs.List.Sorted.{IsStrictlySortedBy}
use Rattle.std.specs.Ordering.{nat_cmp}
use Rattle.row_tables.specs.References.{flags_of, uids_of}
use Rattle.row_tables.specs.declared.marks.FlagRow.{FlagRow}
use Rattle.mail_stands.specs.Flagging.{is_flagged}
use Rattle.mailbox_core.specs.SummaryRows.{flagged_uids, parts_at}
use Rattle.mailbox_core.proofs.Seen.{unseen_by, unseen_unnamed}
use Rattle.mailbox_core.proofs.unseen.first_unseen.Goals as goal

pub returns-in-Some : goal.returns-in-Some
returns-in-Some c =
    let t = c.args.tables.now in
    let id : ℕ = c.args.mailbox in
    let uids = uids_of id t.marks.mailbox_messages in
    let rising : IsStrictlySortedBy nat_cmp uids = subst (λ (l : List ℕ). IsStrictlySortedBy nat_cmp l) c.uids.ensures.uids c.uids.ensures.ascending in
    let found : c.first_without.result ≡ parts_at 0 c.args.uids.now (flagged_uids c.in-Some.seen (flags_of id t.marks.flags)) =
    c.first_without.ensures ∙ ap (λ (rows : List FlagRow). parts_at 0 c.args.uids.now (flagged_uids c.in-Some.seen rows)) c.flags_of.ensures in
    found ∙ subst (λ (l : List ℕ). parts_at 0 l (flagged_uids c.in-Some.seen (flags_of id t.marks.flags)) ≡ position (λ uid. not (is_flagged id uid (codes "\\Seen") t.marks.flag_names t.marks.flags)) l) (sym c.requires)
    (unseen_by t id (codes "\\Seen") c.keys.ensures.places c.are_whole.ensures.ordered c.are_whole.ensures.closed c.in-Some.seen (sym c.in-Some.is ∙ c.flag_name_id.ensures) rising)

pub returns-in-None : goal.returns-in-None
returns-in-None c =
    let t = c.args.tables.now in
    c.first_place.ensures ∙ unseen_unnamed t c.args.mailbox (codes "\\Seen") (sym c.flag_name_id.ensures ∙ c.in-None.is) c.args.uids.now
