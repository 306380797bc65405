-- Flags of messages that are stored, as rows (RFC 3501 §6.4.6).
use Rattle.std.specs.Prelude.{◌≡◌, ℕ, ◌+◌, ◌&&◌, ◌||◌, Bool, true, false, not, nat_le, nat_lt, if◌then◌else◌, List, [], ◌∷◌, ◌++◌, length, map, filter, Option, Some, None, is_some}
use Rattle.std.specs.Ordering.{nat_cmp}
use Rattle.std.specs.List.{flat_map, list_all, list_any}
use Rattle.std.specs.List.Sorted.{IsStrictlySortedBy}
use Rattle.std.specs.Option.{option_map}
use Rattle.imap_grammar.specs.declared.flags.Flag.{Flag}
use Rattle.imap_grammar.specs.declared.flags.FlagChange.{FlagChange}
use Rattle.imap_grammar.specs.declared.flags.FlagChange.TheVariants.{Set, Add, Remove}
use Rattle.imap_grammar.specs.Flags.{flag_text}
use Rattle.ordered_rows.specs.RowKey.{number_key}
use Rattle.ordered_rows.specs.Listed.{row_at}
use Rattle.row_tables.specs.Keys.{uid_key, uid_flag_key, mailbox_message_key, flag_name_key, flag_key}
use Rattle.row_tables.specs.References.{flags_at}
use Rattle.row_tables.specs.InTurn.{flag_insertions, flag_removals}
use Rattle.row_tables.specs.TableRows.{TableRows}
use Rattle.row_tables.specs.declared.heads.Mailbox.{Mailbox}
use Rattle.row_tables.specs.declared.marks.FlagName.{FlagName}
use Rattle.row_tables.specs.declared.marks.MailboxMessage.{MailboxMessage}
use Rattle.row_tables.specs.declared.change.RowChange.{RowChange}
use Rattle.row_tables.specs.declared.change.RowChange.TheVariants.{UpdateMailbox, UpdateMailboxMessage}
use Rattle.mail_world.specs.Flags.{is_flag, are_distinct}
use Rattle.mail_world.specs.Limits.{most_flags, last_modseq}
use Rattle.mail_world.specs.Changes.{Refusal, Full, first_refusal}
use Rattle.mail_stands.specs.Refusals.{refused_by}
use Rattle.mail_stands.specs.Facts.{has_flag_named}
use Rattle.mail_stands.specs.Flagging.{is_flagged}

-- What is asked of UIDs and of the flags that are named: each UID is below those behind it, and each flag is named once.
pub record AreStorable (uids : List ℕ) (flags : List Flag) : Type 0 where
  pub ascend : IsStrictlySortedBy nat_cmp uids
  pub proper : list_all is_flag flags ≡ true
  pub once : are_distinct flags ≡ true

-- ---- a message, and the flags that are named

abbrev pub is_there : TableRows → ℕ → ℕ → Bool
is_there t id uid = is_some (row_at mailbox_message_key (uid_key id uid) t.marks.mailbox_messages)

-- whether the message has the flag
abbrev pub has_row : TableRows → ℕ → ℕ → Flag → Bool
has_row t id uid flag = is_flagged id uid (flag_text flag) t.marks.flag_names t.marks.flags

-- the ids of its flags
abbrev pub ids_at : TableRows → ℕ → ℕ → List ℕ
ids_at t id uid = map (λ r. r.flag) (flags_at id uid t.marks.flags)

-- whether the name of a row is that of one of the flags
abbrev pub is_name_of : List Flag → Option FlagName → Bool
is_name_of flags None = false
is_name_of flags (Some row) = has_flag_named row.name flags

-- whether the flag of an id is one of the flags
abbrev pub is_named_id : TableRows → List Flag → ℕ → Bool
is_named_id t flags id = is_name_of flags (row_at flag_name_key (number_key id) t.marks.flag_names)

-- whether a flag is taken off that is named, or that isn't
abbrev pub drops : FlagChange → Bool → Bool
drops Set named = not named
drops Add named = false
drops Remove named = named

-- the flags that a message gets where it lacks them
abbrev pub given : FlagChange → List Flag → List Flag
given Set flags = flags
given Add flags = flags
given Remove flags = []

-- those that the message lacks
abbrev pub lacked : TableRows → ℕ → FlagChange → List Flag → ℕ → List Flag
lacked t id how flags uid = filter (λ flag. not (has_row t id uid flag)) (given how flags)

abbrev pub differs : TableRows → ℕ → FlagChange → List Flag → ℕ → Bool
differs t id how flags uid =
    list_any (λ flag. not (has_row t id uid flag)) (given how flags) || list_any (λ flag. drops how (is_named_id t flags flag)) (ids_at t id uid)

-- whether it would have more flags than a message may have
abbrev pub passes_limit : TableRows → ℕ → FlagChange → List Flag → ℕ → Bool
passes_limit t id Set flags uid = nat_lt most_flags (length flags)
passes_limit t id Add flags uid = nat_lt most_flags (length (ids_at t id uid) + length (lacked t id Add flags uid))
passes_limit t id Remove flags uid = false

abbrev pub is_changed : TableRows → ℕ → FlagChange → List Flag → ℕ → Bool
is_changed t id how flags uid = is_there t id uid && differs t id how flags uid

abbrev pub has_too_many : TableRows → ℕ → FlagChange → List Flag → ℕ → Bool
has_too_many t id how flags uid = is_there t id uid && passes_limit t id how flags uid

abbrev pub store_refused : TableRows → ℕ → List ℕ → FlagChange → List Flag → Option Refusal
store_refused t id uids how flags =
    refused_by t id (λ row.
    first_refusal ((
      list_any (has_too_many t id how flags) uids || (list_any (is_changed t id how flags) uids && nat_le last_modseq row.highest),
      Full,
    ) ∷ []))

-- ---- the rows, where the flags that messages may get have these ids

-- the ids of the flags that the message loses, and of those that it gets
abbrev pub dropped : TableRows → ℕ → FlagChange → List Flag → ℕ → List ℕ
dropped t id how flags uid = filter (λ flag. drops how (is_named_id t flags flag)) (ids_at t id uid)

abbrev pub added : TableRows → ℕ → List ℕ → ℕ → List ℕ
added t id ids uid = filter (λ flag. not (is_some (row_at flag_key (uid_flag_key id uid flag) t.marks.flags))) ids

abbrev pub with_modseq : ℕ → MailboxMessage → MailboxMessage
with_modseq modseq row = record row { modseq = modseq }

-- the row of a message that is there and whose flags change, with the mod-sequence of that
abbrev pub changed_row : TableRows → ℕ → FlagChange → List Flag → ℕ → ℕ → Option MailboxMessage
changed_row t id how flags modseq uid =
    if differs t id how flags uid
    then option_map (with_modseq modseq) (row_at mailbox_message_key (uid_key id uid) t.marks.mailbox_messages)
    else None

-- A message loses flags and gets flags, and its row is as given; nothing changes where there is none.
abbrev pub flag_changes : ℕ → ℕ → List ℕ → List ℕ → Option MailboxMessage → List RowChange
flag_changes id uid lost got None = []
flag_changes id uid lost got (Some row) = flag_removals id uid lost ++ (flag_insertions id uid got ++ UpdateMailboxMessage row ∷ [])

abbrev pub message_changes : TableRows → ℕ → FlagChange → List Flag → List ℕ → ℕ → ℕ → List RowChange
message_changes t id how flags ids modseq uid = flag_changes id uid (dropped t id how flags uid) (added t id ids uid) (changed_row t id how flags modseq uid)

-- the mailbox with the next mod-sequence
abbrev pub with_next_modseq : Mailbox → Mailbox
with_next_modseq row = record row { highest = row.highest + 1 }

-- The changes by which flags of messages of a mailbox are stored, of which the first add the names that aren't there.
abbrev pub store_changes : TableRows → Mailbox → List ℕ → FlagChange → List Flag → List ℕ → List RowChange → List RowChange
store_changes t row uids how flags ids names =
    names ++ (flat_map (message_changes t row.id how flags ids (row.highest + 1)) uids ++ UpdateMailbox (with_next_modseq row) ∷ [])
