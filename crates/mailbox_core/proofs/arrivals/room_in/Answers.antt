use Rattle.std.proofs.Common.{◌≡◌, ℕ, ◌+◌, true, false, nat_le, nat_lt, Option, Some, refl, sym, ◌∙◌, subst, arith}
use Rattle.ordered_rows.specs.RowKey.{number_key}
use Rattle.ordered_rows.specs.Listed.{row_at}
use Rattle.row_tables.specs.Keys.{mailbox_key}
use Rattle.mail_world.specs.Changes.{Refusal}
use Rattle.mail_world.specs.Limits.{last_modseq, most_messages}
use Rattle.mail_stands.specs.Arriving.{has_no_uid, message_count}
use Rattle.mailbox_core.specs.declared.faults.MailFault.{MailFault}
use Rattle.mailbox_core.specs.Appending.{HasNextFree}
use Rattle.mailbox_core.specs.Rooms.{PlansNone}
use Rattle.mailbox_core.proofs.Room.{refused_as}
use Rattle.mailbox_core.proofs.arrivals.room_in.Goals as goal
use Rattle.mailbox_core.proofs.arrivals.room_in.Goals.{then-has_most_messages-via-then-has_most_messages, then-has_most_messages-via-else-has_most_messages+then-row-ge-LAST_MODSEQ}

pub returns-then-has_most_messages-clause-none : goal.returns-then-has_most_messages-clause-none
returns-then-has_most_messages-clause-none c flags few =
    let t = c.args.tables.now in
    let id : ℕ = c.args.mailbox in
    let row = c.in-Some.row.now in
    let found : row_at mailbox_key (number_key id) t.heads.mailboxes ≡ Some row = sym c.in-Some.ensures in
    let P : Option Refusal → Type 0 = λ r. PlansNone (HasNextFree t id) MailFault.Full r in
    elim c.then-has_most_messages.branch [
      | then-has_most_messages-via-then-has_most_messages w ↦
          let many : nat_lt most_messages (message_count t id + 1) ≡ true = sym c.has_most_messages.ensures ∙ w.if-has_most_messages.true in
          subst P (sym (refused_as t id flags row true (nat_le last_modseq row.highest) (has_no_uid row) found few many refl refl)) refl
      | then-has_most_messages-via-else-has_most_messages+then-row-ge-LAST_MODSEQ w ↦
          let many : nat_lt most_messages (message_count t id + 1) ≡ false = sym c.has_most_messages.ensures ∙ w.if-has_most_messages.false in
          let high : nat_le last_modseq row.highest ≡ true = grind (arith, w.if-row-ge-LAST_MODSEQ.true) in
          subst P (sym (refused_as t id flags row false true (has_no_uid row) found few many high refl)) refl
    ]

pub returns-then-row-gt-LAST_UID-clause-none : goal.returns-then-row-gt-LAST_UID-clause-none
returns-then-row-gt-LAST_UID-clause-none c flags few =
    let t = c.args.tables.now in
    let id : ℕ = c.args.mailbox in
    let row = c.in-Some.row.now in
    let found : row_at mailbox_key (number_key id) t.heads.mailboxes ≡ Some row = sym c.in-Some.ensures in
    let many : nat_lt most_messages (message_count t id + 1) ≡ false = sym c.has_most_messages.ensures ∙ c.if-has_most_messages.false in
    let high : nat_le last_modseq row.highest ≡ false = grind (arith, c.if-row-ge-LAST_MODSEQ.false) in
    let none : has_no_uid row ≡ true = grind (arith, c.if-row-gt-LAST_UID.true) in
    subst (λ (r : Option Refusal). PlansNone (HasNextFree t id) MailFault.NoUid r) (sym (refused_as t id flags row false false true found few many high none)) refl

pub returns-clause-room : goal.returns-clause-room
returns-clause-room c flags few =
    let t = c.args.tables.now in
    let id : ℕ = c.args.mailbox in
    let row = c.in-Some.row.now in
    let found : row_at mailbox_key (number_key id) t.heads.mailboxes ≡ Some row = sym c.in-Some.ensures in
    let many : nat_lt most_messages (message_count t id + 1) ≡ false = sym c.has_most_messages.ensures ∙ c.if-has_most_messages.false in
    let high : nat_le last_modseq row.highest ≡ false = grind (arith, c.if-row-ge-LAST_MODSEQ.false) in
    let none : has_no_uid row ≡ false = grind (arith, c.if-row-gt-LAST_UID.false) in
    refused_as t id flags row false false false found few many high none
