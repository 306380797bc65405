-- What is committed, or answered, where mailboxes are renamed.
use Rattle.std.proofs.Common.{◌≡◌, ◌⊎◌, ℕ, false, List, [], ◌∷◌, Option, Some, None, inl, inr, sym, ap, subst, ◌∙◌}
use Rattle.std.proofs.lemmas.Option.{none-some}
use Rattle.disk_model.specs.Told.{Told}
use Rattle.row_tables.specs.TableRows.{TableRows}
use Rattle.row_tables.specs.References.{AreClosed, AreOrdered}
use Rattle.row_tables.specs.Fits.{CanRun, Runs}
use Rattle.row_tables.specs.declared.contents.BodyPart.{BodyPart}
use Rattle.row_tables.specs.declared.heads.Mailbox.{Mailbox as Head}
use Rattle.row_tables.specs.declared.change.RowChange.{RowChange}
use Rattle.row_store.specs.Bodies.{ArePlaced}
use Rattle.row_store.specs.Holding.{stored, in_row}
use Rattle.row_store.specs.Crashes.{Stays}
use Rattle.row_store.specs.Kept.{Store}
use Rattle.mail_world.specs.Worlds.{World}
use Rattle.mail_world.specs.Names.{is_inbox, mailbox_name}
use Rattle.mail_world.specs.Changes.{Refusal, BadName, Absent, Exists, InUse, Full, NoUid, Rename}
use Rattle.mail_world.specs.Applying.{apply, refused}
use Rattle.mail_stands.specs.Stands.{Stands}
use Rattle.mail_stands.specs.Leading.{KeepsOwners, Leads}
use Rattle.mail_stands.specs.Renaming.{AreRenamed, CanRename, RefusesRename, rename_changes}
use Rattle.mailbox_core.specs.declared.faults.MailFault.{MailFault}
use Rattle.mailbox_core.specs.Faults.{IsOutage, IsRefusal}
use Rattle.mailbox_core.specs.Calls.{MakesUnless}
use Rattle.mailbox_core.specs.Renaming.{PlansNoRename, PlansRename}
use Rattle.mailbox_core.proofs.Behaving.{error_of, not_failed}
use Rattle.mailbox_core.proofs.Planned.{planned_none}

-- the laws of rows of mailboxes that are renamed
pub record Laws : Type 0 where
  pub refusal : (content : BodyPart → List ℕ) (t : TableRows) (world : World) (owner : ℕ) (from to : List ℕ) (refusal : Option Refusal) → Stands content t world
      → is_inbox from ≡ false → RefusesRename t owner from (mailbox_name to) refusal → refused world (Rename owner from to) ≡ refusal
  pub rows : (content : BodyPart → List ℕ) (t : TableRows) (world : World) (owner : ℕ) (from : List ℕ) → Stands content t world → (rows : List Head) × AreRenamed t owner from rows
  pub leads : (content : BodyPart → List ℕ) (t : TableRows) (world : World) (owner : ℕ) (from to : List ℕ) (rows : List Head) → AreOrdered t → AreClosed t → Stands content t world
      → is_inbox from ≡ false → CanRename t owner from (mailbox_name to) → AreRenamed t owner from rows → Leads content t (rename_changes from (mailbox_name to) rows) (apply world (Rename owner from to))
  pub fit : (t : TableRows) (owner : ℕ) (from to : List ℕ) (rows : List Head) → AreOrdered t → AreClosed t → CanRename t owner from to → AreRenamed t owner from rows → CanRun t (rename_changes from to rows)
  pub owners : (t after : TableRows) (owner : ℕ) (from to : List ℕ) (rows : List Head) → AreOrdered t → AreRenamed t owner from rows → Runs t (rename_changes from to rows) after → KeepsOwners t after

-- what the changes make of the tables
pub record Ends (t : TableRows) (changes : List RowChange) : Type 0 where
  pub after : TableRows
  pub runs : Runs t changes after
  pub owners : KeepsOwners t after

pub rename_ends : Laws → (t : TableRows) (owner : ℕ) (from to : List ℕ) (changes : List RowChange) → AreOrdered t → AreClosed t → PlansRename t owner from to changes → Ends t changes
rename_ends laws t owner from to changes ordered closed plan =
    let rows = plan.renames.rows in
    let can : CanRun t (rename_changes from to rows) = laws.fit t owner from to rows ordered closed plan.can plan.renames.are in
    record {
      after = can.0;
      runs = subst (λ (l : List RowChange). Runs t l can.0) (sym plan.renames.is) can.1;
      owners = laws.owners t can.0 owner from to rows ordered plan.renames.are can.1;
    }

renames_placed : (placed : List BodyPart) (from to : List ℕ) (rows : List Head) → ArePlaced placed (rename_changes from to rows)
renames_placed placed from to [] = tt
renames_placed placed from to (row ∷ rows) = (tt, renames_placed placed from to rows)

pub rename_placed : (placed : List BodyPart) (t : TableRows) (owner : ℕ) (from to : List ℕ) (changes : List RowChange) → PlansRename t owner from to changes → ArePlaced placed changes
rename_placed placed t owner from to changes plan = subst (λ (l : List RowChange). ArePlaced placed l) (sym plan.renames.is) (renames_placed placed from to plan.renames.rows)

pub rename_led : Laws → (t : TableRows) (world : World) (owner : ℕ) (from to : List ℕ) (changes : List RowChange) → AreOrdered t → AreClosed t → Stands in_row t world → is_inbox from ≡ false
    → PlansRename t owner from (mailbox_name to) changes → Leads in_row t changes (apply world (Rename owner from to))
rename_led laws t world owner from to changes ordered closed stands other plan =
    subst (λ (l : List RowChange). Leads in_row t l (apply world (Rename owner from to))) (sym plan.renames.is)
    (laws.leads in_row t world owner from to plan.renames.rows ordered closed stands other plan.can plan.renames.are)

-- ---- where nothing is planned

abbrev Answered : MailFault → Type 0
Answered fault = IsRefusal (BadName ∷ Absent ∷ Exists ∷ []) fault ⊎ IsOutage fault

module _ (t : TableRows) (owner : ℕ) (from to : List ℕ) (fault : MailFault) where
  pub rename_answers : PlansNoRename t owner from to fault → Answered fault
  rename_answers (inl starved) = inr (inr starved.0)
  rename_answers (inr (BadName, is, refuses)) = inl (inl is)
  rename_answers (inr (Absent, is, refuses)) = inl (inr (inl is))
  rename_answers (inr (Exists, is, refuses)) = inl (inr (inr (inl is)))
  rename_answers (inr (InUse, is, refuses)) = absurd refuses
  rename_answers (inr (Full, is, refuses)) = absurd refuses
  rename_answers (inr (NoUid, is, refuses)) = absurd refuses

  pub rename_sound : {T : Type 0} → PlansNoRename t owner from to fault → error_of T fault ≡ error_of T MailFault.Failed → ⊥
  rename_sound (inl starved) e = let is = starved.0 in cc
  rename_sound {T} (inr told) e = not_failed told.0 (sym e ∙ ap (λ (f : MailFault). error_of T f) told.1)

pub rename_none : Laws → {D : Type 0} (told : Told D) (store : Store D) (world : World) (owner : ℕ) (from to : List ℕ) (fault : MailFault) → Stays told (Unit {0}) store.files store.files (stored store.tables)
    → AreOrdered store.tables → AreClosed store.tables → Stands in_row store.tables world → is_inbox from ≡ false → PlansNoRename store.tables owner from (mailbox_name to) fault
    → MakesUnless told (error_of (Unit {0}) fault) store store world (apply world (Rename owner from to)) tt (refused world (Rename owner from to))
rename_none laws told store world owner from to fault stays ordered closed stands other (inl starved) =
    let rows = laws.rows in_row store.tables world owner from stands in
    planned_none told store world (apply world (Rename owner from to)) tt (Unit {0}) (rename_changes from (mailbox_name to) rows.0) fault None (refused world (Rename owner from to)) stays
    (sym (laws.refusal in_row store.tables world owner from to None stands other starved.1)) (inl starved.0) stands
    (λ none. (tt, laws.leads in_row store.tables world owner from to rows.0 ordered closed stands other starved.1 rows.1))
rename_none laws told store world owner from to fault stays ordered closed stands other (inr refuses) =
    planned_none told store world (apply world (Rename owner from to)) tt (Unit {0}) [] fault (Some refuses.0) (refused world (Rename owner from to)) stays
    (sym (laws.refusal in_row store.tables world owner from to (Some refuses.0) stands other refuses.2)) refuses.1 stands
    (λ none. absurd (none-some refuses.0 (sym none)))
