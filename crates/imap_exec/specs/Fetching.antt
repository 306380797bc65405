-- What FETCH is made of (RFC 3501 §6.4.5). These serve the contracts of private functions alone.
use Rattle.std.specs.Prelude.{◌≡◌, ℕ, Bool, true, false, List, [], ◌++◌, Option, Some, None, Result, IsOk, IsErrOf}
use Rattle.std.specs.List.{list_any}
use Rattle.std.specs.Option.{unwrap_or}
use Rattle.disk_model.specs.Told.{Told}
use Rattle.row_store.specs.ThreeFiles.{LeavesAllAlone, TellsFaults}
use Rattle.row_store.specs.Kept.{Store}
use Rattle.row_store.specs.declared.faults.StoreFault.{StoreFault}
use Rattle.mime_tree.specs.Trees.{Tree}
use Rattle.imap_grammar.specs.declared.items.FetchItem.{FetchItem}
use Rattle.envelope_view.specs.Structure.{fields_of}
use Rattle.fetch_writer.specs.Asked.{told_items, reads_header, reads_body}
use Rattle.fetch_writer.specs.Items.{items_line}
use Rattle.session_view.specs.declared.sessions.Selection.{Selection}
use Rattle.session_view.specs.declared.view.View.{View}
use Rattle.session_view.specs.Numbers.{number_of}
use Rattle.mail_world.specs.Worlds.{Entry}
use Rattle.imap_steps.specs.Stepping.{World}
use Rattle.imap_steps.specs.Fetching.{facts_of, fetched, fetch_line}

-- what is told of messages, some of which the command made seen
abbrev pub fetched_text : World → List ℕ → Selection → Bool → List FetchItem → List ℕ → List ℕ → Bool → List ℕ
fetched_text world tag selection by_uid items seen uids gone = fetched world selection by_uid items seen uids ++ fetch_line tag by_uid gone

-- the line of a message of the view, whose flags the command changed or not; none where it is gone
abbrev pub line_with : Bool → View → List FetchItem → Bool → Option Entry → List ℕ
line_with by_uid view items changed None = []
line_with by_uid view items changed (Some entry) =
    items_line (unwrap_or (number_of entry.uid view.uids) 0) (facts_of view entry) entry.message.mail.message (told_items by_uid items changed)

-- as much of a message as is read of it: all, the fields of its header, or nothing
pub record IsEnough (header body : Bool) (tree its : Tree) : Type 0 where
  pub whole : body ≡ true → its ≡ tree
  pub fields : header ≡ true → fields_of its ≡ fields_of tree

-- These are the items that are told of a message, and what is read of it for them.
pub record AreTold (by_uid : Bool) (asked : List FetchItem) (changed header body : Bool) (told : List FetchItem) : Type 0 where
  pub items : told ≡ told_items by_uid asked changed
  pub header_is : header ≡ list_any reads_header asked
  pub body_is : body ≡ list_any reads_body asked

-- A store was read, whatever its tables are: they are as before, and so is what a crash leaves. After Ok the store can be asked again, and
-- a fault is told only of a disk that counted one.
pub record Reads {D T : Type 0} (told : Told D) (result : Result T StoreFault) (old new : Store D) : Type 0 where
  pub tables : new.tables ≡ old.tables
  pub placed : new.placed ≡ old.placed
  pub goes_on : IsOk result → new.spent ≡ false
  pub alone : LeavesAllAlone told old.files new.files
  pub faults : TellsFaults told (IsErrOf result StoreFault.Failed) old.files new.files
