-- The own parts of the sessions, by the sessions' numbers, and which mailboxes they have selected.
use Rattle.std.specs.Prelude.{ℕ, ◌==◌, Bool, false, List, [], ◌∷◌, Option, Some, None, find, if◌then◌else◌}
use Rattle.session_view.specs.declared.sessions.SessionPart.{SessionPart}
use Rattle.session_view.specs.declared.sessions.State.{State}
use Rattle.session_view.specs.declared.sessions.State.TheVariants.{Fresh, Asked, Known, Selected}

abbrev pub has_number : ℕ → SessionPart → Bool
has_number number part = part.number == number

-- the state of a session, that of a new one where it has no part
abbrev pub state_in : Option SessionPart → State
state_in None = Fresh
state_in (Some part) = part.state

abbrev pub state_of : ℕ → List SessionPart → State
state_of number parts = state_in (find (has_number number) parts)

-- the parts with another state of a session
abbrev pub with_state : ℕ → State → List SessionPart → List SessionPart
with_state number state [] = []
with_state number state (part ∷ parts) =
    if has_number number part then record { number = number; state = state } ∷ parts else part ∷ with_state number state parts

abbrev pub selects_mailbox : ℕ → State → Bool
selects_mailbox mailbox Fresh = false
selects_mailbox mailbox (Asked tag) = false
selects_mailbox mailbox (Known user) = false
selects_mailbox mailbox (Selected user selection) = selection.mailbox == mailbox

-- whether a session has a mailbox selected
abbrev pub has_selected : ℕ → SessionPart → Bool
has_selected mailbox part = selects_mailbox mailbox part.state
