-- What is planned before flags are stored.
use Rattle.std.proofs.Common.{◌≡◌, ℕ, ◌+◌, ◌||◌, ◌&&◌, Bool, true, false, cond, not, nat_le, List, [], ◌∷◌, ◌++◌, Option, Some, None, refl, ap, subst, ◌∙◌}
use Rattle.std.specs.List.{filter, flat_map, list_any}
use Rattle.std.proofs.lemmas.Bool.{true≢false, and_parts, not-true}
use Rattle.imap_grammar.specs.declared.flags.Flag.{Flag}
use Rattle.imap_grammar.specs.declared.flags.FlagChange.{FlagChange}
use Rattle.imap_grammar.specs.declared.flags.FlagChange.TheVariants.{Set, Add, Remove}
use Rattle.ordered_rows.specs.RowKey.{number_key}
use Rattle.ordered_rows.specs.Listed.{row_at}
use Rattle.row_tables.specs.InTurn.{flag_insertions, flag_removals}
use Rattle.row_tables.specs.Keys.{mailbox_key}
use Rattle.row_tables.specs.TableRows.{TableRows}
use Rattle.row_tables.specs.declared.contents.BodyPart.{BodyPart}
use Rattle.row_tables.specs.declared.heads.Mailbox.{Mailbox as Head}
use Rattle.row_tables.specs.declared.marks.MailboxMessage.{MailboxMessage}
use Rattle.row_tables.specs.declared.change.RowChange.{RowChange}
use Rattle.row_tables.specs.declared.change.RowChange.TheVariants.{UpdateMailbox, UpdateMailboxMessage}
use Rattle.row_store.specs.Bodies.{ArePlaced}
use Rattle.mail_world.specs.Flags.{are_distinct, distinct, same_flag}
use Rattle.mail_world.specs.Limits.{last_modseq}
use Rattle.mail_world.specs.Changes.{Full, first_refusal}
use Rattle.mail_stands.specs.Flagging.{NamesFlags}
use Rattle.mail_stands.specs.Refusals.{unless_absent}
use Rattle.mail_stands.specs.Storing.{added, changed_row, dropped, flag_changes, given, has_too_many, is_changed, message_changes, store_changes, store_refused, with_next_modseq}
use Rattle.mailbox_core.specs.Appending.{PlansFlags}
use Rattle.mailbox_core.specs.Messages.{AreProper}
use Rattle.mailbox_core.specs.Storing.{NamesGiven}

-- ---- flags that are named once

kept_all : (p : Flag → Bool) (flags : List Flag) → list_any p flags ≡ false → filter (λ other. not (p other)) flags ≡ flags
kept_all p [] e = refl
kept_all p (x ∷ flags) e = kept_one (p x) e (kept_all p flags)
  where
    kept_one : (b : Bool) → (b || list_any p flags) ≡ false → (list_any p flags ≡ false → filter (λ other. not (p other)) flags ≡ flags)
        → cond (not b) (x ∷ filter (λ other. not (p other)) flags) (filter (λ other. not (p other)) flags) ≡ x ∷ flags
    kept_one true q rest = absurd (true≢false q)
    kept_one false q rest = ap (λ (l : List Flag). x ∷ l) (rest q)

distinct_itself : (flags : List Flag) → are_distinct flags ≡ true → distinct flags ≡ flags
distinct_itself [] e = refl
distinct_itself (x ∷ flags) e =
    let parts = and_parts (not (list_any (same_flag x) flags)) (are_distinct flags) e in
    ap (λ (l : List Flag). x ∷ filter (λ other. not (same_flag x other)) l) (distinct_itself flags parts.1)
    ∙ ap (λ (l : List Flag). x ∷ l) (kept_all (same_flag x) flags (not-true (list_any (same_flag x) flags) parts.0))

pub names_given : (t : TableRows) (flags : List Flag) (ids : List ℕ) (names : List RowChange) → are_distinct flags ≡ true → PlansFlags t flags ids names → NamesGiven t flags ids names
names_given t flags ids names once planned = record { named = subst (λ (l : List Flag). NamesFlags t.marks l ids names) (distinct_itself flags once) planned.named; placed = planned.placed }

pub given_proper : (how : FlagChange) (flags : List Flag) → AreProper flags → AreProper (given how flags)
given_proper Set flags proper = proper
given_proper Add flags proper = proper
given_proper Remove flags proper = record { flags_are = refl; texts = tt }

pub given_once : (how : FlagChange) (flags : List Flag) → are_distinct flags ≡ true → are_distinct (given how flags) ≡ true
given_once Set flags once = once
given_once Add flags once = once
given_once Remove flags once = refl

-- ---- what is refused

-- It depends on the messages and the mod-sequence.
pub refused_as : (t : TableRows) (id : ℕ) (uids : List ℕ) (how : FlagChange) (flags : List Flag) (row : Head) (many changed last : Bool) → row_at mailbox_key (number_key id) t.heads.mailboxes ≡ Some row
    → list_any (has_too_many t id how flags) uids ≡ many → list_any (is_changed t id how flags) uids ≡ changed → nat_le last_modseq row.highest ≡ last → store_refused t id uids how flags ≡ first_refusal ((many || (changed && last), Full) ∷ [])
refused_as t id uids how flags row many changed last found e1 e2 e3 =
    ap (λ (o : Option Head). unless_absent o (λ r. first_refusal ((list_any (has_too_many t id how flags) uids || (list_any (is_changed t id how flags) uids && nat_le last_modseq r.highest), Full) ∷ []))) found
    ∙ (ap (λ (b : Bool). first_refusal ((b || (list_any (is_changed t id how flags) uids && nat_le last_modseq row.highest), Full) ∷ [])) e1
    ∙ (ap (λ (b : Bool). first_refusal ((many || (b && nat_le last_modseq row.highest), Full) ∷ [])) e2
    ∙ ap (λ (b : Bool). first_refusal ((many || (changed && b), Full) ∷ [])) e3))

-- ---- the changes place no body

placed_both : (placed : List BodyPart) (a b : List RowChange) → ArePlaced placed a → ArePlaced placed b → ArePlaced placed (a ++ b)
placed_both placed [] b p q = q
placed_both placed (x ∷ a) b p q = (p.0, placed_both placed a b p.1 q)

removals_placed : (placed : List BodyPart) (mailbox uid : ℕ) (ids : List ℕ) → ArePlaced placed (flag_removals mailbox uid ids)
removals_placed placed mailbox uid [] = tt
removals_placed placed mailbox uid (id ∷ ids) = (tt, removals_placed placed mailbox uid ids)

insertions_placed : (placed : List BodyPart) (mailbox uid : ℕ) (ids : List ℕ) → ArePlaced placed (flag_insertions mailbox uid ids)
insertions_placed placed mailbox uid [] = tt
insertions_placed placed mailbox uid (id ∷ ids) = (tt, insertions_placed placed mailbox uid ids)

changes_placed : (placed : List BodyPart) (id uid : ℕ) (lost got : List ℕ) (o : Option MailboxMessage) → ArePlaced placed (flag_changes id uid lost got o)
changes_placed placed id uid lost got None = tt
changes_placed placed id uid lost got (Some row) =
    placed_both placed (flag_removals id uid lost) (flag_insertions id uid got ++ UpdateMailboxMessage row ∷ []) (removals_placed placed id uid lost)
    (placed_both placed (flag_insertions id uid got) (UpdateMailboxMessage row ∷ []) (insertions_placed placed id uid got) (tt, tt))

all_placed : (placed : List BodyPart) (t : TableRows) (id : ℕ) (how : FlagChange) (flags : List Flag) (ids : List ℕ) (modseq : ℕ) (uids : List ℕ) → ArePlaced placed (flat_map (message_changes t id how flags ids modseq) uids)
all_placed placed t id how flags ids modseq [] = tt
all_placed placed t id how flags ids modseq (uid ∷ uids) =
    placed_both placed (message_changes t id how flags ids modseq uid) (flat_map (message_changes t id how flags ids modseq) uids)
    (changes_placed placed id uid (dropped t id how flags uid) (added t id ids uid) (changed_row t id how flags modseq uid)) (all_placed placed t id how flags ids modseq uids)

pub stored_placed : (placed : List BodyPart) (t : TableRows) (row : Head) (uids : List ℕ) (how : FlagChange) (flags : List Flag) (ids : List ℕ) (names : List RowChange) → ArePlaced placed names → ArePlaced placed (store_changes t row uids how flags ids names)
stored_placed placed t row uids how flags ids names are =
    placed_both placed names (flat_map (message_changes t row.id how flags ids (row.highest + 1)) uids ++ UpdateMailbox (with_next_modseq row) ∷ []) are
    (placed_both placed (flat_map (message_changes t row.id how flags ids (row.highest + 1)) uids) (UpdateMailbox (with_next_modseq row) ∷ []) (all_placed placed t row.id how flags ids (row.highest + 1) uids) (tt, tt))
