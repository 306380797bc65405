-- Messages that are expunged, as they are planned.
use Rattle.std.proofs.Common.{◌≡◌, ◌+◌, ◌&&◌, ◌||◌, ℕ, Bool, true, false, cond, nat_le, List, [], ◌∷◌, ◌++◌, map, Option, Some, None, is_some, refl, sym, ap, ◌∙◌, subst}
use Rattle.std.specs.List.{flat_map, list_any}
use Rattle.std.specs.Prelude.{IsSome}
use Rattle.std.proofs.lemmas.Bool.{true≢false, false≢true}
use Rattle.std.proofs.lemmas.List.{map-append}
use Rattle.ordered_rows.specs.RowKey.{number_key}
use Rattle.ordered_rows.specs.Listed.{row_at}
use Rattle.row_tables.specs.Keys.{deleted_message_key, mailbox_key, mailbox_message_key, uid_key}
use Rattle.row_tables.specs.References.{HasMailbox, flags_at}
use Rattle.row_tables.specs.InTurn.{entry_removals, gone_insertions}
use Rattle.row_tables.specs.TableRows.{TableRows}
use Rattle.row_tables.specs.declared.contents.BodyPart.{BodyPart}
use Rattle.row_tables.specs.declared.heads.Mailbox.{Mailbox as Head}
use Rattle.row_tables.specs.declared.marks.DeletedMessage.{DeletedMessage}
use Rattle.row_tables.specs.declared.marks.FlagRow.{FlagRow}
use Rattle.row_tables.specs.declared.change.RowChange.{RowChange}
use Rattle.row_tables.specs.declared.change.RowChange.TheVariants.{InsertDeletedMessage, UpdateMailbox}
use Rattle.row_store.specs.Bodies.{ArePlaced}
use Rattle.row_store.specs.Holding.{stored_by}
use Rattle.mail_world.specs.Changes.{Refusal, Full, first_refusal}
use Rattle.mail_world.specs.Limits.{last_modseq}
use Rattle.mail_world.specs.Worlds.{World}
use Rattle.mail_stands.specs.Facts.{IsEntryRow, Tied, entry_in}
use Rattle.mail_stands.specs.MovingInbox.{flag_row_removals}
use Rattle.mail_stands.specs.Refusals.{unless_absent}
use Rattle.mail_stands.specs.Storing.{is_there, with_next_modseq}
use Rattle.mail_stands.specs.Expunging.{AreNotGone, expunge_changes, expunge_refused, flags_among, gone_of, there_of}
use Rattle.mailbox_core.specs.Expunging.{is_gone}
use Rattle.mailbox_core.specs.Messages.{has_one_of}

-- ---- the rows

pub all_off : (t : TableRows) (id : ℕ) (uids : List ℕ) → flat_map (λ uid. flag_row_removals (flags_at id uid t.marks.flags)) uids ≡ flag_row_removals (flags_among t id uids)
all_off t id [] = refl
all_off t id (uid ∷ uids) =
    ap (λ (l : List RowChange). flag_row_removals (flags_at id uid t.marks.flags) ++ l) (all_off t id uids)
    ∙ sym (map-append _ (flags_at id uid t.marks.flags) (flags_among t id uids))

pub all_kept : (id modseq : ℕ) (uids : List ℕ) → map (λ uid. InsertDeletedMessage (record { mailbox = id; uid = uid; modseq = modseq })) uids ≡ gone_insertions (gone_of id modseq uids)
all_kept id modseq [] = refl
all_kept id modseq (uid ∷ uids) = ap (λ (l : List RowChange). InsertDeletedMessage (record { mailbox = id; uid = uid; modseq = modseq }) ∷ l) (all_kept id modseq uids)

-- ---- what is refused

-- It depends on the messages and the mod-sequence.
pub refused_as : (t : TableRows) (id : ℕ) (uids : List ℕ) (row : Head) (some last : Bool) → row_at mailbox_key (number_key id) t.heads.mailboxes ≡ Some row
    → list_any (is_there t id) uids ≡ some → nat_le last_modseq row.highest ≡ last → expunge_refused t id uids ≡ first_refusal ((some && last, Full) ∷ [])
refused_as t id uids row some last found e1 e2 =
    ap (λ (o : Option Head). unless_absent o (λ r. first_refusal ((list_any (is_there t id) uids && nat_le last_modseq r.highest, Full) ∷ []))) found
    ∙ (ap (λ (b : Bool). first_refusal ((b && nat_le last_modseq row.highest, Full) ∷ [])) e1
    ∙ ap (λ (b : Bool). first_refusal ((some && b, Full) ∷ [])) e2)

-- ---- gone ones

module _ (t : TableRows) (id : ℕ) where
  abbrev gone : ℕ → Option DeletedMessage
  gone uid = row_at deleted_message_key (uid_key id uid) t.marks.deleted_messages

  pub none_gone : (uids : List ℕ) → list_any (is_gone t id) uids ≡ false → AreNotGone t id (there_of t id uids)
  none_gone [] none = tt
  none_gone (uid ∷ uids) none = by (is_there t id uid) (gone uid) refl none (none_gone uids)
    where
      by : (b : Bool) (o : Option DeletedMessage) → gone uid ≡ o → ((b && is_some o) || list_any (is_gone t id) uids) ≡ false → (list_any (is_gone t id) uids ≡ false → AreNotGone t id (there_of t id uids))
          → AreNotGone t id (cond b (uid ∷ there_of t id uids) (there_of t id uids))
      by true None e none rest = (e, rest none)
      by true (Some r) e none rest = absurd (true≢false none)
      by false None e none rest = rest none
      by false (Some r) e none rest = rest none

  pub some_gone : (uids : List ℕ) → list_any (is_gone t id) uids ≡ true → AreNotGone t id (there_of t id uids) → ⊥
  some_gone [] some all = false≢true some
  some_gone (uid ∷ uids) some all = by (is_there t id uid) (gone uid) refl some all (some_gone uids)
    where
      by : (b : Bool) (o : Option DeletedMessage) → gone uid ≡ o → ((b && is_some o) || list_any (is_gone t id) uids) ≡ true → AreNotGone t id (cond b (uid ∷ there_of t id uids) (there_of t id uids))
          → (list_any (is_gone t id) uids ≡ true → AreNotGone t id (there_of t id uids) → ⊥) → ⊥
      by true None e some all rest = rest some all.1
      by true (Some r) e some all rest = false≢true (sym (ap (λ (o : Option DeletedMessage). is_some o) all.0) ∙ ap (λ (o : Option DeletedMessage). is_some o) e)
      by false None e some all rest = rest some all
      by false (Some r) e some all rest = rest some all

-- ---- the changes place no body

placed_both : (placed : List BodyPart) (a b : List RowChange) → ArePlaced placed a → ArePlaced placed b → ArePlaced placed (a ++ b)
placed_both placed [] b p q = q
placed_both placed (x ∷ a) b p q = (p.0, placed_both placed a b p.1 q)

flags_placed : (placed : List BodyPart) (rows : List FlagRow) → ArePlaced placed (flag_row_removals rows)
flags_placed placed [] = tt
flags_placed placed (row ∷ rows) = (tt, flags_placed placed rows)

entries_placed : (placed : List BodyPart) (id : ℕ) (uids : List ℕ) → ArePlaced placed (entry_removals id uids)
entries_placed placed id [] = tt
entries_placed placed id (uid ∷ uids) = (tt, entries_placed placed id uids)

gone_placed : (placed : List BodyPart) (rows : List DeletedMessage) → ArePlaced placed (gone_insertions rows)
gone_placed placed [] = tt
gone_placed placed (row ∷ rows) = (tt, gone_placed placed rows)

pub expunge_placed : (placed : List BodyPart) (t : TableRows) (row : Head) (uids : List ℕ) → ArePlaced placed (expunge_changes t row uids)
expunge_placed placed t row uids =
    placed_both placed (flag_row_removals (flags_among t row.id uids)) _ (flags_placed placed (flags_among t row.id uids))
    (placed_both placed (entry_removals row.id uids) _ (entries_placed placed row.id uids)
    (placed_both placed (gone_insertions (gone_of row.id (row.highest + 1) uids)) (UpdateMailbox (with_next_modseq row) ∷ []) (gone_placed placed (gone_of row.id (row.highest + 1) uids)) (tt, tt)))

-- ---- in a world

tied_some : {X Y : Type 0} (R : X → Y → Type 0) (a : Option X) (b : Option Y) → Tied R a b → is_some a ≡ is_some b
tied_some R None None tied = refl
tied_some R None (Some y) tied = absurd tied.tie
tied_some R (Some x) None tied = absurd tied.tie
tied_some R (Some x) (Some y) tied = refl

pub any_told : (content : BodyPart → List ℕ) (t : TableRows) (world : World) (id : ℕ)
    → ((uid : ℕ) → Tied (IsEntryRow (stored_by content t)) (row_at mailbox_message_key (uid_key id uid) t.marks.mailbox_messages) (entry_in id uid world.mailboxes))
    → (uids : List ℕ) → list_any (is_there t id) uids ≡ has_one_of world id uids
any_told content t world id tied [] = refl
any_told content t world id tied (uid ∷ uids) =
    ap (λ (b : Bool). b || list_any (is_there t id) uids) (tied_some (IsEntryRow (stored_by content t)) _ _ (tied uid)) ∙ ap (λ (b : Bool). is_some (entry_in id uid world.mailboxes) || b) (any_told content t world id tied uids)

-- the row of a mailbox that is there
pub found_row : (t : TableRows) (id : ℕ) → HasMailbox t id → (row : Head) × (row_at mailbox_key (number_key id) t.heads.mailboxes ≡ Some row)
found_row t id there = by (row_at mailbox_key (number_key id) t.heads.mailboxes) refl there
  where
    by : (o : Option Head) → row_at mailbox_key (number_key id) t.heads.mailboxes ≡ o → IsSome o → (row : Head) × (row_at mailbox_key (number_key id) t.heads.mailboxes ≡ Some row)
    by None e there = absurd (false≢true there)
    by (Some row) e there = (row, e)
