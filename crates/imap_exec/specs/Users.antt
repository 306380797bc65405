-- Who a session is. These serve the contracts of private functions alone.
use Rattle.std.specs.Prelude.{ℕ, Bool, true, false, List, Option, Some, None}
use Rattle.imap_grammar.specs.declared.selecting.Resync.{Resync}
use Rattle.session_view.specs.declared.sessions.Selection.{Selection}
use Rattle.session_view.specs.declared.sessions.State.{State}
use Rattle.session_view.specs.declared.sessions.State.TheVariants.{Fresh, Asked, Known, Selected}

-- the user as whom a session is authenticated
abbrev pub user_in : State → Option ℕ
user_in Fresh = None
user_in (Asked tag) = None
user_in (Known user) = Some user
user_in (Selected user selection) = Some user

abbrev pub is_fresh : State → Bool
is_fresh Fresh = true
is_fresh (Asked tag) = false
is_fresh (Known user) = false
is_fresh (Selected user selection) = false

abbrev pub is_selected : State → Bool
is_selected Fresh = false
is_selected (Asked tag) = false
is_selected (Known user) = false
is_selected (Selected user selection) = true

-- what a session has selected
abbrev pub selection_in : State → Option Selection
selection_in Fresh = None
selection_in (Asked tag) = None
selection_in (Known user) = None
selection_in (Selected user selection) = Some selection

-- the tag of the AUTHENTICATE whose line is awaited
abbrev pub tag_asked : State → Option (List ℕ)
tag_asked Fresh = None
tag_asked (Asked tag) = Some tag
tag_asked (Known user) = None
tag_asked (Selected user selection) = None

-- a SELECT that asks for nothing of CONDSTORE and QRESYNC
abbrev pub is_plain : Bool → Option Resync → Bool
is_plain true resync = false
is_plain false None = true
is_plain false (Some resync) = false
