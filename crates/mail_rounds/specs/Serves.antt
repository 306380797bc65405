-- The relation between a server and the machine, and what keeps it.
use Rattle.std.specs.Prelude.{ℕ, ◌≡◌, ◌<◌, Bool, true, false, List, [], ◌∷◌, ◌++◌, Some, None, map, filter}
use Rattle.port_model.specs.declared.calls.Kind.{Kind}
use Rattle.port_model.specs.declared.calls.PortCall.{PortCall}
use Rattle.port_model.specs.History.{events, sent, is_closed}
use Rattle.session_units.specs.Awaited.{begun}
use Rattle.imap_steps.specs.Stepping.{World, Shared, Stepped, after_step}
use Rattle.imap_steps.specs.Step.{greeting}
use Rattle.mail_model.specs.Machine.{Session, is_open, session_at, after, at_once, standing_after}
use Rattle.mail_rounds.specs.declared.link.Link.{Link}
use Rattle.mail_rounds.specs.declared.server.Server.{Server}
use Rattle.mail_rounds.specs.CoreSeen.{CoreSeen}
use Rattle.mail_rounds.specs.Held.{Held, session_of, queue_of, Ascending}
use Rattle.mail_rounds.specs.Calls.{is_kept, is_lost}
use Rattle.mail_rounds.specs.Crashes.{MachineCrashes}

-- What was sent, with what is still to be sent, is what the machine answered. By a lost link its front was sent, and
-- nothing is still to be sent.
pub record Answered (lost : Bool) (sent queue out : List ℕ) : Type 0 where
  pub whole : lost ≡ false → sent ++ queue ≡ out
  pub front : lost ≡ true → (queue ≡ []) × ((rest : List ℕ) × (out ≡ sent ++ rest))

-- Only sessions that aren't open are closed.
abbrev pub OpenAreKept : List PortCall → List Session → Type 0
OpenAreKept history [] = Unit {0}
OpenAreKept history (session ∷ sessions) =
    (is_open session.standing ≡ true → is_closed history session.number ≡ false) × OpenAreKept history sessions

-- After a history that began with this world, the server holds what the machine has: what its core stands for,
-- and every session whose link isn't closed, in all its parts.
pub record Serves {C : Type 0} (seen : CoreSeen C) (first : World) (history : List PortCall) (held : Held C) : Type 0 where
  pub stands : seen.stands held.core (after first history).shared
  pub sessions : map session_of held.links ≡ filter (is_kept history) (after first history).sessions
  pub answered : (number : ℕ) → Answered (is_lost number (events history)) (sent history number) (queue_of number held.links) ((after first history).out number)
  pub ordered : Ascending 0 held.links held.last
  pub latest : held.last ≡ (after first history).last
  pub later_open : (number : ℕ) → held.last < number
      → (is_closed history number ≡ false) × (session_at number (after first history).sessions ≡ None) × (is_lost number (events history) ≡ false)
  pub open_kept : OpenAreKept history (after first history).sessions
  pub open_linked : (number : ℕ) (session : Session) → session_at number (after first history).sessions ≡ Some session → is_open session.standing ≡ true
      → is_lost number (events history) ≡ false

-- What a part of a round did, from one history to a later one: these calls, and what a crash leaves of it.
pub record Makes {C : Type 0} (seen : CoreSeen C) (Calls : World → List PortCall → List PortCall → Type 0) (old new : C) (first : World) (before later : List PortCall) : Type 0 where
  pub calls : Calls first before later
  pub crash : MachineCrashes seen old new first before later

-- A part of a round that went well: where the server held what the machine had, it holds what the machine has then.
abbrev pub Does : {C : Type 0} → CoreSeen C → (World → List PortCall → List PortCall → Type 0) → Held C → Held C → List PortCall → List PortCall → Type 0
Does seen Calls old new before later =
    (first : World) → Serves seen first before old → Makes seen Calls old.core new.core first before later × Serves seen first later new

-- A part of a round that ended with a fault.
abbrev pub Begins : {C : Type 0} → CoreSeen C → (World → List PortCall → List PortCall → Type 0) → Held C → Held C → List PortCall → List PortCall → Type 0
Begins seen Calls old new before later = (first : World) → Serves seen first before old → Makes seen Calls old.core new.core first before later

-- what a greeting leaves of the core and the new link
pub record IsGreeted {C : Type 0} (seen : CoreSeen C) (core : C) (link : Link) (shared : Shared) (number : ℕ) (greeted : Stepped) : Type 0 where
  pub stands : seen.stands core (after_step shared number greeted)
  pub session : session_of link ≡ record { number = number; standing = standing_after greeted.closes; awaited = begun greeted.next }
  pub answer : link.queue.items ≡ greeted.answer

-- A link of a new session stands behind the others: what it was greeted with is in its queue.
pub record Opens {C : Type 0} (seen : CoreSeen C) (before later : Held C) (number : ℕ) (kind : Kind) : Type 0 where
  pub link : Link
  pub links : later.links ≡ before.links ++ link ∷ []
  pub last : later.last ≡ number
  pub greeted : (shared : Shared) → seen.stands before.core shared
      → IsGreeted seen later.core link shared number (greeting shared number kind (at_once (map session_of before.links)))

-- The server is not given up, and its core can be asked.
abbrev pub IsGoing : {C : Type 0} → CoreSeen C → Server C → Type 0
IsGoing seen server = (server.spent ≡ false) × seen.ready server.core
