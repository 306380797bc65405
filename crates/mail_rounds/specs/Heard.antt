-- What one link has happen: what its event is, and what is left of it.
use Rattle.std.specs.Prelude.{ℕ, ◌≡◌, ◌≢◌, true, List, [], ◌∷◌, ◌++◌, Option, Some, None}
use Rattle.port_model.specs.declared.calls.PortCall.{PortCall}
use Rattle.port_model.specs.History.{PortEvent, Opened, Piece, Ended, Lost, events, sent, is_closed}
use Rattle.session_units.specs.Awaited.{Awaited, begun}
use Rattle.mail_model.specs.declared.standing.Standing.{Standing}
use Rattle.imap_steps.specs.Stepping.{Shared, Stepped, after_step}
use Rattle.mail_model.specs.Machine.{Session, Taking, is_open, standing_after, taking_of, hears_piece, leaves}
use Rattle.mail_rounds.specs.declared.link.Link.{Link}
use Rattle.mail_rounds.specs.CoreSeen.{CoreSeen}
use Rattle.mail_rounds.specs.Crashes.{TakingCrashes}
use Rattle.mail_rounds.specs.Calls.{Asks, Offers}
use Rattle.mail_rounds.specs.Held.{AtLink, session_of}

-- The event, if there is one, is of the link of a number, and opens none.
abbrev pub IsOfLink : ℕ → Option PortEvent → Type 0
IsOfLink number None = Unit {0}
IsOfLink number (Some (Opened who kind)) = ⊥
IsOfLink number (Some (Piece who piece moment)) = who ≡ number
IsOfLink number (Some (Ended who)) = who ≡ number
IsOfLink number (Some (Lost who)) = who ≡ number

-- the events with this one in front, if there is one
abbrev pub and_event : Option PortEvent → List PortEvent → List PortEvent
and_event None older = older
and_event (Some event) older = event ∷ older

-- what the event does to the session of its link
abbrev pub acts : Option PortEvent → Shared → Session → Taking
acts None shared session = taking_of shared session
acts (Some (Opened who kind)) shared session = taking_of shared session
acts (Some (Piece who piece moment)) shared session = hears_piece moment piece shared session
acts (Some (Ended who)) shared session = leaves shared session
acts (Some (Lost who)) shared session = leaves shared session

-- what a session takes, once the session is this one
abbrev pub in_session : Taking → Session → Taking
in_session taking session = record { shared = taking.shared; session = session; answers = taking.answers; changes = taking.changes }

-- A core and a link hold what a session's part in an event leaves.
pub record IsTaking {C : Type 0} (seen : CoreSeen C) (core : C) (link : Link) (taking : Taking) : Type 0 where
  pub stands : seen.stands core taking.shared
  pub session : session_of link ≡ taking.session
  pub answers : link.queue.items ≡ taking.answers

-- A link's parts after a step of its session: how it stands, what it awaits, and its queue with the answer added.
pub record AfterStep {C : Type 0} (seen : CoreSeen C) (core : C) (standing : Standing) (reader : Awaited) (before later : List ℕ) (shared : Shared) (number : ℕ) (stepped : Stepped) : Type 0 where
  pub stands : seen.stands core (after_step shared number stepped)
  pub standing_is : standing ≡ standing_after stepped.closes
  pub awaits : reader ≡ begun stepped.next
  pub answer : later ≡ before ++ stepped.answer

-- A link was asked what came by it, or it was not its turn. Nothing was sent and nothing was closed.
pub record Hears {C : Type 0} (seen : CoreSeen C) (core : C) (link : Link) (core' : C) (link' : Link) (before later : List PortCall) : Type 0 where
  pub event : Option PortEvent
  pub its : IsOfLink link.number event
  pub events_are : events later ≡ and_event event (events before)
  pub sent_same : (number : ℕ) → sent later number ≡ sent before number
  pub closed_same : (number : ℕ) → is_closed later number ≡ is_closed before number
  pub same : event ≡ None → (core' ≡ core) × (session_of link' ≡ session_of link) × (link'.queue.items ≡ link.queue.items)
  pub idle : event ≢ None → link.queue.items ≡ []
  pub was_open : event ≢ None → is_open link.standing ≡ true
  pub does : event ≢ None → (shared : Shared) → seen.stands core shared → IsTaking seen core' link' (acts event shared (session_of link))

-- The event, if there is one, is that the link of a number is lost.
abbrev pub IsLossOf : ℕ → Option PortEvent → Type 0
IsLossOf number None = Unit {0}
IsLossOf number (Some (Opened who kind)) = ⊥
IsLossOf number (Some (Piece who piece moment)) = ⊥
IsLossOf number (Some (Ended who)) = ⊥
IsLossOf number (Some (Lost who)) = who ≡ number

-- A link was offered what it had to send. What was sent with what is still to be sent is as before, unless the link
-- was lost: then its queue is dropped.
pub record Offered {C : Type 0} (seen : CoreSeen C) (core : C) (link : Link) (core' : C) (link' : Link) (before later : List PortCall) : Type 0 where
  pub event : Option PortEvent
  pub its : IsLossOf link.number event
  pub events_are : events later ≡ and_event event (events before)
  pub closed_same : (number : ℕ) → is_closed later number ≡ is_closed before number
  pub sent_same : (number : ℕ) → number ≢ link.number → sent later number ≡ sent before number
  pub idle : link.queue.items ≡ [] → (link'.queue.items ≡ []) × (sent later link.number ≡ sent before link.number)
  pub whole : event ≡ None → sent later link.number ++ link'.queue.items ≡ sent before link.number ++ link.queue.items
  pub dropped : event ≢ None → (link'.queue.items ≡ []) × (sent later link.number ≡ sent before link.number)
  pub no_answer : (shared : Shared) → seen.stands core shared
      → (seen.stands core' (acts event shared (session_of link)).shared) × (session_of link' ≡ (acts event shared (session_of link)).session)
  pub same : event ≡ None → (core' ≡ core) × (session_of link' ≡ session_of link)

-- What came by a link while it was asked, whether or not that ended with a fault: a crash leaves the world after some of the
-- changes that it makes.
pub record HearingCrashes {C : Type 0} (seen : CoreSeen C) (core : C) (link : Link) (core' : C) (before later : List PortCall) : Type 0 where
  pub event : Option PortEvent
  pub its : IsOfLink link.number event
  pub events_are : events later ≡ and_event event (events before)
  pub leaves : (shared : Shared) → seen.stands core shared → TakingCrashes seen core core' (taking_of shared (session_of link)) (acts event shared (session_of link))

-- The calls for a link that was offered what it had to send, what they did, and what a crash leaves of it.
pub record Offering {C : Type 0} (seen : CoreSeen C) (core : C) (link : Link) (core' : C) (link' : Link) (before later : List PortCall) : Type 0 where
  pub calls : AtLink Offers link before later
  pub offered : Offered seen core link core' link' before later
  pub crashes : HearingCrashes seen core link core' before later

-- The calls for a link that was asked, and what a crash leaves of it, whether or not that ended with a fault.
pub record Hearing {C : Type 0} (seen : CoreSeen C) (core : C) (link : Link) (core' : C) (before later : List PortCall) : Type 0 where
  pub calls : AtLink Asks link before later
  pub crashes : HearingCrashes seen core link core' before later
