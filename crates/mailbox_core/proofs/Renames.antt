-- Mailboxes that are renamed: how they are tested, and the changes of their rows.
use Rattle.std.proofs.Common.{ℕ, ◌≡◌, ◌==◌, ◌||◌, ◌⊎◌, ◌+◌, ◌-◌, ◌≤◌, is_some, Bool, true, false, cond, List, [], ◌∷◌, ◌++◌, length, drop, Option, Some, None, inl, inr, refl, sym, ap, subst, ◌∙◌, append-nil, arith}
use Rattle.std.specs.List.{AllByRecursion, list_any}
use Rattle.std.proofs.lemmas.Bool.{true≢false, false≢true, eq-eqb, le-ltb, or_left, or_right, or_parts, or_cases}
use Rattle.std.proofs.lemmas.Grind.{common_steps}
use Rattle.std.proofs.lemmas.List.{length-append, map-append}
use Rattle.std.proofs.lemmas.List.Folds.{list_any-append}
use Rattle.row_tables.specs.Names.{mailbox_named}
use Rattle.row_tables.specs.TableRows.{TableRows}
use Rattle.row_tables.specs.declared.heads.Mailbox.{Mailbox}
use Rattle.row_tables.specs.declared.change.RowChange.{RowChange}
use Rattle.row_tables.specs.declared.change.RowChange.TheVariants.{UpdateMailbox}
use Rattle.mail_world.specs.Names.{is_mailbox_name, is_renamed}
use Rattle.mail_world.specs.Changes.{BadName, Exists}
use Rattle.mail_stands.specs.Renaming.{CanRename, IsRenamed, is_long, is_taken, rename_changes, with_new_name}
use Rattle.mailbox_core.specs.declared.faults.MailFault.{MailFault}
use Rattle.mailbox_core.specs.Renaming.{IsNextUnder, IsTested, Renames, TellsRefusal}
use Rattle.mailbox_core.proofs.FollowedNames.{Walks, walks_all, walks_first, walks_on}

-- ---- tests

pub short_name : (name : List ℕ) → is_mailbox_name name ≡ true → length name ≤ 255
unfolding is_mailbox_name
short_name name proper = grind (arith, common_steps)

pub room_for : (to rest : List ℕ) → is_mailbox_name to ≡ true → length rest ≤ 255 - length to → length to + length rest ≤ 255
room_for to rest proper room = omega (arith, short_name to proper, room)

-- a renamed mailbox, of whose new name this is the rest
pub tested : (t : TableRows) (owner : ℕ) (from to name rest : List ℕ) (row : Mailbox) (taken : Bool) → name ≡ row.name → is_renamed from name ≡ true → rest ≡ drop (length from) name → length to + length rest ≤ 255
    → taken ≡ is_some (mailbox_named owner (to ++ rest) t.heads.mailboxes) → IsTested t owner from to row taken
tested t owner from to name rest row taken same under behind room is =
    let its : rest ≡ drop (length from) row.name = behind ∙ ap (drop (length from)) same in
    record {
      short = λ e. le-ltb 255 (length (to ++ drop (length from) row.name)) (subst (λ (end : List ℕ). length (to ++ end) ≤ 255) its (omega (arith, length-append to rest, room)));
      same = λ e. sym (is ∙ ap (λ (end : List ℕ). is_some (mailbox_named owner (to ++ end) t.heads.mailboxes)) its);
      only = λ e. ap (is_renamed from) (sym same) ∙ under;
    }

-- what is known of those that were passed
pub record IsFree (t : TableRows) (owner : ℕ) (from to : List ℕ) (are_taken : Bool) (row : Mailbox) : Type 0 where
  pub short : is_long from to row ≡ false
  pub free : are_taken ≡ false → is_taken t owner from to row ≡ false

pub record IsChecked (t : TableRows) (owner : ℕ) (from to : List ℕ) (are_taken : Bool) (next : Option Mailbox) : Type 0 where
  pub walks : Walks t owner from (IsFree t owner from to are_taken) next
  pub some : are_taken ≡ true → (row : Mailbox) × IsRenamed t owner from row × (is_taken t owner from to row ≡ true)

module _ (t : TableRows) (owner : ℕ) (from to : List ℕ) where
  pub checked_first : (first : Mailbox) → mailbox_named owner from t.heads.mailboxes ≡ Some first → IsChecked t owner from to false (Some first)
  checked_first first found = record { walks = walks_first t owner from (IsFree t owner from to false) first found; some = λ e. absurd (false≢true e) }

  renamed_row : (are_taken : Bool) (row : Mailbox) → IsChecked t owner from to are_taken (Some row) → is_renamed from row.name ≡ true → IsRenamed t owner from row
  renamed_row are_taken row checked under = record { named = checked.walks.next_is.0; under = under }

  pub checked_more : (are_taken taken : Bool) (row : Mailbox) (next : Option Mailbox) → IsTested t owner from to row taken → IsNextUnder owner from row.name t.heads.mailboxes next
      → IsChecked t owner from to are_taken (Some row) → IsChecked t owner from to (are_taken || taken) next
  checked_more are_taken taken row next tested comes checked = record {
    walks = walks_on t owner from (IsFree t owner from to are_taken) (IsFree t owner from to (are_taken || taken)) row next
        (λ other its. record { short = its.short; free = λ e. its.free (or_parts are_taken taken e).0 })
        (λ is. record { short = tested.short is.under; free = λ e. tested.same is.under ∙ (or_parts are_taken taken e).1 })
        comes checked.walks;
    some = λ e. by (or_cases are_taken taken e);
  }
    where
      by : (are_taken ≡ true) ⊎ (taken ≡ true) → (other : Mailbox) × IsRenamed t owner from other × (is_taken t owner from to other ≡ true)
      by (inl before) = checked.some before
      by (inr now) = let under = tested.only now in (row, renamed_row are_taken row checked under, tested.same under ∙ now)

  module _ (proper : is_mailbox_name to ≡ true) (first : Mailbox) (found : mailbox_named owner from t.heads.mailboxes ≡ Some first) where
    pub long_told : (are_taken : Bool) (row : Mailbox) (fault : MailFault) → fault ≡ MailFault.BadName → is_renamed from row.name ≡ true → is_long from to row ≡ true
        → IsChecked t owner from to are_taken (Some row) → TellsRefusal t owner from to fault
    long_told are_taken row fault is under long checked =
        (BadName, is, inr (record { proper = proper; there = ap is_some found; row = row; renamed = renamed_row are_taken row checked under; long = long }))

    pub taken_told : (are_taken : Bool) → are_taken ≡ true → IsChecked t owner from to are_taken None → TellsRefusal t owner from to MailFault.Exists
    taken_told are_taken e checked =
        let its = checked.some e in (
          Exists,
          refl,
          record {
            proper = proper;
            there = ap is_some found;
            short = λ row is. (walks_all t owner from (IsFree t owner from to are_taken) checked.walks row is).short;
            row = its.0;
            renamed = its.1;
            taken = its.2;
          },
        )

    pub none_told : (are_taken : Bool) → are_taken ≡ false → IsChecked t owner from to are_taken None → CanRename t owner from to
    none_told are_taken e checked = record {
      proper = proper;
      there = ap is_some found;
      short = λ row is. (walks_all t owner from (IsFree t owner from to are_taken) checked.walks row is).short;
      free = λ row is. (walks_all t owner from (IsFree t owner from to are_taken) checked.walks row is).free e;
    }

-- ---- changes

-- whether the row of an id is among rows
abbrev IsAmong : List Mailbox → Mailbox → Type 0
IsAmong rows row = list_any (λ r. row.id == r.id) rows ≡ true

-- the changes of those that were passed
pub record Gathers (t : TableRows) (owner : ℕ) (from to : List ℕ) (changes : List RowChange) (next : Option Mailbox) : Type 0 where
  pub rows : List Mailbox
  pub each : AllByRecursion (IsRenamed t owner from) rows
  pub is : changes ≡ rename_changes from to rows
  pub walks : Walks t owner from (IsAmong rows) next

all_more : (P : Mailbox → Type 0) (rows : List Mailbox) (row : Mailbox) → AllByRecursion P rows → P row → AllByRecursion P (rows ++ row ∷ [])
all_more P [] row all p = (p, tt)
all_more P (r ∷ rows) row all p = (all.0, all_more P rows row all.1 p)

abbrev pub renaming_if : Bool → List ℕ → List ℕ → Mailbox → List RowChange
renaming_if b from to row = cond b (UpdateMailbox (with_new_name from to row) ∷ []) []

module _ (t : TableRows) (owner : ℕ) (from to : List ℕ) where
  pub gathers_first : (changes : List RowChange) (first : Mailbox) → changes ≡ [] → mailbox_named owner from t.heads.mailboxes ≡ Some first → Gathers t owner from to changes (Some first)
  gathers_first changes first none found = record { rows = []; each = tt; is = none; walks = walks_first t owner from (IsAmong []) first found }

  pub gathers_more : (changes more : List RowChange) (row : Mailbox) (next : Option Mailbox) → more ≡ changes ++ renaming_if (is_renamed from row.name) from to row → IsNextUnder owner from row.name t.heads.mailboxes next
      → Gathers t owner from to changes (Some row) → Gathers t owner from to more next
  gathers_more changes more row next is comes gathered = by (is_renamed from row.name) refl
    where
      with_row : List Mailbox
      with_row = gathered.rows ++ row ∷ []

      still : (other : Mailbox) → IsAmong gathered.rows other → IsAmong with_row other
      still other among = list_any-append (λ r. other.id == r.id) gathered.rows (row ∷ []) ∙ or_left (list_any (λ r. other.id == r.id) gathered.rows) (list_any (λ r. other.id == r.id) (row ∷ [])) among

      itself : IsAmong with_row row
      itself =
          list_any-append (λ r. row.id == r.id) gathered.rows (row ∷ [])
          ∙ or_right (list_any (λ r. row.id == r.id) gathered.rows) (list_any (λ r. row.id == r.id) (row ∷ [])) (or_left (row.id == row.id) false (eq-eqb row.id row.id refl))

      by : (b : Bool) → is_renamed from row.name ≡ b → Gathers t owner from to more next
      by true e = record {
        rows = with_row;
        each = all_more (IsRenamed t owner from) gathered.rows row gathered.each (record { named = gathered.walks.next_is.0; under = e });
        is = is ∙ ap (λ b. changes ++ renaming_if b from to row) e ∙ ap (λ l. l ++ UpdateMailbox (with_new_name from to row) ∷ []) gathered.is
            ∙ sym (map-append (λ r. UpdateMailbox (with_new_name from to r)) gathered.rows (row ∷ []));
        walks = walks_on t owner from (IsAmong gathered.rows) (IsAmong with_row) row next still (λ renamed. itself) comes gathered.walks;
      }
      by false e = record {
        rows = gathered.rows;
        each = gathered.each;
        is = is ∙ ap (λ b. changes ++ renaming_if b from to row) e ∙ append-nil changes ∙ gathered.is;
        walks = walks_on t owner from (IsAmong gathered.rows) (IsAmong gathered.rows) row next (λ other among. among) (λ renamed. absurd (true≢false (sym renamed.under ∙ e))) comes gathered.walks;
      }

  pub gathered_all : (changes : List RowChange) → Gathers t owner from to changes None → Renames t owner from to changes
  gathered_all changes gathered = record {
    rows = gathered.rows;
    are = record { each = gathered.each; all = walks_all t owner from (IsAmong gathered.rows) gathered.walks };
    is = gathered.is;
  }
