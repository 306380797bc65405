-- Mailboxes that are deleted, and names that are subscribed (RFC 3501 §6.3.4, §6.3.6, §6.3.7).
use Rattle.std.specs.Prelude.{ℕ, List, [], ◌∷◌, codes, flat_map}
use Rattle.session_view.specs.declared.sessions.SessionPart.{SessionPart}
use Rattle.session_view.specs.declared.sessions.State.{State}
use Rattle.session_view.specs.declared.sessions.State.TheVariants.{Fresh, Asked, Known, Selected}
use Rattle.mail_world.specs.Changes.{Delete, Subscribe, Unsubscribe}
use Rattle.imap_steps.specs.Stepping.{Shared, Stepped, made}

-- the id of the mailbox that is selected, if one is
abbrev pub selected_in : State → List ℕ
selected_in Fresh = []
selected_in (Asked tag) = []
selected_in (Known user) = []
selected_in (Selected user selection) = selection.mailbox ∷ []

-- the mailboxes that sessions have selected
abbrev pub held : List SessionPart → List ℕ
held parts = flat_map (λ part. selected_in part.state) parts

-- A mailbox that a session has selected stays, also where it is the session that asks.
unfoldable pub delete : Shared → ℕ → List ℕ → List ℕ → Stepped
delete shared user tag name = made shared (Delete user name (held shared.parts)) tag (codes "DELETE")

unfoldable pub subscribe : Shared → ℕ → List ℕ → List ℕ → Stepped
subscribe shared user tag name = made shared (Subscribe user name) tag (codes "SUBSCRIBE")

unfoldable pub unsubscribe : Shared → ℕ → List ℕ → List ℕ → Stepped
unsubscribe shared user tag name = made shared (Unsubscribe user name) tag (codes "UNSUBSCRIBE")
