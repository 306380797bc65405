-- What a server holds, over plain values.
use Rattle.std.specs.Prelude.{ℕ, ◌<◌, ◌≤◌, ◌==◌, List, [], ◌∷◌, IfSome, slice_get, take, if◌then◌else◌}
use Rattle.port_model.specs.declared.calls.PortCall.{PortCall}
use Rattle.mail_model.specs.Machine.{Made, Session, Taking}
use Rattle.port_model.specs.Chain.{Chain}
use Rattle.imap_steps.specs.Stepping.{Shared, World}
use Rattle.mail_rounds.specs.declared.link.Link.{Link}
use Rattle.mail_rounds.specs.declared.server.Server.{Server}
use Rattle.mail_rounds.specs.Calls.{Due, Asks}

-- The core, the links that aren't closed, and the number of the latest one.
pub record Held (C : Type 0) : Type 0 where
  pub core : C
  pub links : List Link
  pub last : ℕ

abbrev pub held : {C : Type 0} → Server C → Held C
held server = record { core = server.core; links = server.links.items; last = server.last }

-- the session of a link
abbrev pub session_of : Link → Session
session_of link = record { number = link.number; standing = link.standing; awaited = link.reader }

-- what is due to the session of a link
abbrev pub due_of : Link → Due
due_of link = record { number = link.number; standing = link.standing; unsent = link.queue.items }

-- The calls for a link are these for what is due to its session.
abbrev pub AtLink : (Due → List PortCall → List PortCall → Type 0) → Link → List PortCall → List PortCall → Type 0
AtLink Calls link before later = Calls (due_of link) before later

-- The calls for the link at a place,
abbrev pub AtPlace : (Due → List PortCall → List PortCall → Type 0) → List Link → ℕ → World → List PortCall → List PortCall → Type 0
AtPlace Calls links i first before later = IfSome (slice_get links i) (λ link. AtLink Calls link before later)

-- and for one link after another.
abbrev pub AtEach : (Due → List PortCall → List PortCall → Type 0) → List Link → World → List PortCall → List PortCall → Type 0
AtEach Calls links first before later = Chain (AtLink Calls) links before later

-- The same as far as some of so many links were asked.
abbrev pub AsksPart : ℕ → List Link → World → List PortCall → List PortCall → Type 0
AsksPart count links first before later = (asked : ℕ) × (asked ≤ count) × AtEach Asks (take asked links) first before later

-- a link's session with what is shared, and its queue as what it is answered, where these changes were made
abbrev pub taking_in : Shared → Link → List Made → Taking
taking_in shared link made = record { shared = shared; session = session_of link; answers = link.queue.items; changes = made }

-- the answers of a number that aren't sent yet
abbrev pub queue_of : ℕ → List Link → List ℕ
queue_of number [] = []
queue_of number (link ∷ links) = if link.number == number then link.queue.items else queue_of number links

-- The numbers of the links rise, from above a bound up to the latest.
abbrev pub Ascending : ℕ → List Link → ℕ → Type 0
Ascending low [] last = low ≤ last
Ascending low (link ∷ links) last = (low < link.number) × Ascending link.number links last
