-- Which stores and sessions can be asked.
use Rattle.std.specs.Prelude.{◌≡◌, ℕ, false, List, [], IsSomeAnd}
use Rattle.std.specs.List.{AllByRecursion}
use Rattle.ordered_rows.specs.RowKey.{number_key}
use Rattle.ordered_rows.specs.Listed.{row_at}
use Rattle.row_tables.specs.Keys.{mailbox_key}
use Rattle.row_tables.specs.TableRows.{TableRows}
use Rattle.row_tables.specs.References.{HasUser}
use Rattle.row_store.specs.Kept.{Store}
use Rattle.session_view.specs.declared.sessions.SessionPart.{SessionPart}
use Rattle.session_view.specs.declared.sessions.State.{State}
use Rattle.session_view.specs.declared.sessions.State.TheVariants.{Fresh, Asked, Known, Selected}

-- a mailbox that is there and the user's
abbrev pub HasOwned : TableRows → ℕ → ℕ → Type 0
HasOwned t user mailbox = IsSomeAnd (row_at mailbox_key (number_key mailbox) t.heads.mailboxes) (λ row. row.owner ≡ user)

-- The user of a session is there, and so is the mailbox that it has selected, which is the user's.
abbrev pub IsLive : TableRows → State → Type 0
IsLive t Fresh = Unit {0}
IsLive t (Asked tag) = Unit {0}
IsLive t (Known user) = HasUser t user
IsLive t (Selected user selection) = HasUser t user × HasOwned t user selection.mailbox

abbrev pub AreLive : TableRows → List SessionPart → Type 0
AreLive t parts = AllByRecursion (λ part. IsLive t part.state) parts

-- No earlier call on the store answered a fault, no body is placed, and the sessions are those of users who are there.
pub record IsReady {D : Type 0} (store : Store D) (parts : List SessionPart) : Type 0 where
  pub unspent : store.spent ≡ false
  pub none_placed : store.placed ≡ []
  pub live : AreLive store.tables parts
