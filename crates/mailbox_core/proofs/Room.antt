-- Whether there is room for a message, from the tests that are made one after another.
use Rattle.std.proofs.Common.{◌≡◌, ◌≤◌, ℕ, ◌+◌, ◌||◌, Bool, false, nat_le, nat_lt, List, [], ◌∷◌, length, Option, Some, ap, ◌∙◌, arith}
use Rattle.imap_grammar.specs.declared.flags.Flag.{Flag}
use Rattle.ordered_rows.specs.RowKey.{number_key}
use Rattle.ordered_rows.specs.Listed.{row_at}
use Rattle.row_tables.specs.Keys.{mailbox_key}
use Rattle.row_tables.specs.TableRows.{TableRows}
use Rattle.row_tables.specs.declared.heads.Mailbox.{Mailbox as Head}
use Rattle.mail_world.specs.Flags.{distinct}
use Rattle.mail_world.specs.Limits.{most_flags, most_messages, last_modseq}
use Rattle.mail_world.specs.Changes.{Refusal, Full, NoUid, first_refusal}
use Rattle.mail_stands.specs.Arriving.{append_refused, has_no_uid, is_full, message_count}
use Rattle.mail_stands.specs.Refusals.{unless_absent}
use Rattle.mailbox_core.proofs.Found.{row_is}

not_over : (a b : ℕ) → a ≤ b → nat_lt b a ≡ false
not_over a b le = grind (arith, le)

-- what is answered from the first two tests of a mailbox, of which one is made in parts
abbrev pub tests : Bool → Bool → Bool → Option Refusal
tests many high none = first_refusal ((many || high, Full) ∷ (none, NoUid) ∷ [])

-- With few enough flags it depends on the messages, the mod-sequence and the UID.
pub refused_as : (t : TableRows) (id : ℕ) (flags : List Flag) (row : Head) (many high none : Bool) → row_at mailbox_key (number_key id) t.heads.mailboxes ≡ Some row → length (distinct flags) ≤ most_flags
    → nat_lt most_messages (message_count t id + 1) ≡ many → nat_le last_modseq row.highest ≡ high → has_no_uid row ≡ none → append_refused t id flags ≡ tests many high none
refused_as t id flags row many high none found few e1 e2 e3 =
    ap (λ (o : Option Head). unless_absent o (λ r. first_refusal ((is_full t (length (distinct flags)) r, Full) ∷ (has_no_uid r, NoUid) ∷ []))) found
    ∙ (ap (λ (b : Bool). first_refusal ((b || nat_lt most_messages (message_count t row.id + 1) || nat_le last_modseq row.highest, Full) ∷ (has_no_uid row, NoUid) ∷ [])) (not_over (length (distinct flags)) most_flags few)
    ∙ (ap (λ (k : ℕ). tests (nat_lt most_messages (message_count t k + 1)) (nat_le last_modseq row.highest) (has_no_uid row)) (row_is t.heads.mailboxes id row found)
    ∙ (ap (λ (b : Bool). tests b (nat_le last_modseq row.highest) (has_no_uid row)) e1
    ∙ (ap (λ (b : Bool). tests many b (has_no_uid row)) e2
    ∙ ap (λ (b : Bool). tests many high b) e3))))

pub few_enough : (n : ℕ) → nat_lt most_flags n ≡ false → n ≤ most_flags
few_enough n e = grind (arith, e)
