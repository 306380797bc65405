-- The machine: sessions over one world, which take the events of their links in order.
use Rattle.std.specs.Prelude.{ℕ, ◌+◌, ◌<◌, ◌==◌, Bool, true, false, List, [], ◌∷◌, ◌++◌, Option, Some, None, codes, length, map, find, count_by, if◌then◌else◌}
use Rattle.port_model.specs.declared.calls.PortCall.{PortCall}
use Rattle.port_model.specs.History.{PortEvent, Opened, Piece, Ended, Lost, events, sent}
use Rattle.session_units.specs.Awaited.{Awaited, awaits_of, begun, is_prompting, with_more}
use Rattle.session_units.specs.Units.{Cut, first}
use Rattle.mail_model.specs.declared.standing.Standing.{Standing}
use Rattle.mail_model.specs.declared.standing.Standing.TheVariants.{Open, Closing}
use Rattle.imap_steps.specs.Stepping.{World, Change, Shared, Stepped, crlf, left_by, after_step}
use Rattle.imap_steps.specs.Step.{step, greeting}

-- A session: its number, how its link stands, and the unit that it awaits, as far as it came.
pub record Session : Type 0 where
  pub number : ℕ
  pub standing : Standing
  pub awaited : Awaited

-- A change that a step made: the session that it answered, and which of that session's answers its answer is, from so
-- many bytes on so many.
pub record Made : Type 0 where
  pub change : Change
  pub number : ℕ
  pub from : ℕ
  pub count : ℕ

-- What sessions share, the sessions that ever opened in the order of their opening, all that each number was answered,
-- the changes that were made, the newest first, and the number of the latest session, 0 before the first.
pub record Machine : Type 0 where
  pub shared : Shared
  pub sessions : List Session
  pub out : ℕ → List ℕ
  pub changes : List Made
  pub last : ℕ

-- One session with what is shared, as its bytes are taken, what it is answered for them, and the changes that they made.
pub record Taking : Type 0 where
  pub shared : Shared
  pub session : Session
  pub answers : List ℕ
  pub changes : List Made

abbrev pub is_open : Standing → Bool
is_open Open = true
is_open Closing = false

-- how a link stands after a step
abbrev pub standing_after : Bool → Standing
standing_after closes = if closes then Closing else Open

-- changes with that of a step in front, if it made one
abbrev pub and_change : Option Change → ℕ → ℕ → ℕ → List Made → List Made
and_change None number from count older = older
and_change (Some change) number from count older = record { change = change; number = number; from = from; count = count } ∷ older

-- what a unit leaves
abbrev pub after_unit : Taking → Stepped → Taking
after_unit taking stepped =
    record {
      shared = after_step taking.shared taking.session.number stepped;
      session = record { number = taking.session.number; standing = standing_after stepped.closes; awaited = begun stepped.next };
      answers = taking.answers ++ stepped.answer;
      changes = and_change stepped.change taking.session.number (length taking.answers) (length stepped.answer) taking.changes;
    }

abbrev pub take_unit : ℕ → Taking → Cut → Taking
take_unit moment taking cut = after_unit taking (step taking.shared taking.session.number (awaits_of taking.session.awaited) cut.shows cut.unit moment)

-- the prompt after which a peer sends the literal that it announced (RFC 3501 §7.5)
abbrev pub go_ahead : List ℕ
go_ahead = codes "+ go ahead" ++ crlf

-- what a byte leaves that ends no unit: a prompt is added where it ends an announcement
abbrev pub awaits_more : Taking → ℕ → Taking
awaits_more taking byte =
    record {
      shared = taking.shared;
      session = record { number = taking.session.number; standing = taking.session.standing; awaited = with_more taking.session.awaited (byte ∷ []) };
      answers = if is_prompting (with_more taking.session.awaited (byte ∷ [])) then taking.answers ++ go_ahead else taking.answers;
      changes = taking.changes;
    }

-- What one more byte leaves: it goes on with the unit that is awaited. Where that is whole then, it is one step. What comes to
-- a session that is closing is dropped.
unfoldable pub take_byte : ℕ → Taking → ℕ → Taking
take_byte moment taking byte =
    if is_open taking.session.standing
    then elim (first taking.session.awaited (byte ∷ [])) [ None ↦ awaits_more taking byte | Some cut ↦ take_unit moment taking cut ]
    else taking

-- the bytes of a piece are taken one after another
abbrev pub take_piece : ℕ → Taking → List ℕ → Taking
take_piece moment taking [] = taking
take_piece moment taking (byte ∷ bytes) = take_piece moment (take_byte moment taking byte) bytes

-- the session of a number
abbrev pub session_at : ℕ → List Session → Option Session
session_at number sessions = find (λ session. session.number == number) sessions

-- the sessions with a session in the place of that of its number
abbrev pub becomes : Session → List Session → List Session
becomes new sessions = map (λ session. if session.number == new.number then new else session) sessions

-- the answers with more of them for a number
abbrev pub adds : ℕ → List ℕ → (ℕ → List ℕ) → ℕ → List ℕ
adds number answers out who = if who == number then out who ++ answers else out who

-- how many sessions are at once: those that aren't closing
abbrev pub at_once : List Session → ℕ
at_once sessions = count_by (λ session. is_open session.standing) sessions

-- a change whose answer stands behind so many bytes more
abbrev pub behind : ℕ → Made → Made
behind count made = record { change = made.change; number = made.number; from = count + made.from; count = made.count }

-- the machine after a session of it took something
abbrev pub takes : Machine → Taking → Machine
takes machine taking =
    record {
      shared = taking.shared;
      sessions = becomes taking.session machine.sessions;
      out = adds taking.session.number taking.answers machine.out;
      changes = map (behind (length (machine.out taking.session.number))) taking.changes ++ machine.changes;
      last = machine.last;
    }

-- a session of a machine, with no answers yet
abbrev pub taking_of : Shared → Session → Taking
taking_of shared session = record { shared = shared; session = session; answers = []; changes = [] }

-- a session's part in what its link gave
abbrev pub hears_piece : ℕ → List ℕ → Shared → Session → Taking
hears_piece moment piece shared session = take_piece moment (taking_of shared session) piece

-- A session whose link ended or was lost is closing, and takes leave. If it was so before, nothing changes.
abbrev pub leaves : Shared → Session → Taking
leaves shared session =
    if is_open session.standing
    then record { shared = left_by shared session.number; session = record { number = session.number; standing = Closing; awaited = session.awaited }; answers = []; changes = [] }
    else taking_of shared session

-- the machine after the session of a number, where there is one, did something
abbrev pub of_session : Machine → ℕ → (Shared → Session → Taking) → Machine
of_session machine number act =
    elim (session_at number machine.sessions) [ None ↦ machine | Some session ↦ takes machine (act machine.shared session) ]

-- the machine with a new session, once it was greeted
abbrev pub opens : Machine → ℕ → Stepped → Machine
opens machine number greeted =
    record {
      shared = after_step machine.shared number greeted;
      sessions = machine.sessions ++ record { number = number; standing = standing_after greeted.closes; awaited = begun greeted.next } ∷ [];
      out = adds number greeted.answer machine.out;
      changes = and_change greeted.change number (length (machine.out number)) (length greeted.answer) machine.changes;
      last = number;
    }

-- What an event does: a new session is greeted, a piece is taken byte by byte, and a session whose peer ended or whose
-- link is lost is served no more. Nothing happens to a session that is closing.
abbrev pub take_event : Machine → PortEvent → Machine
take_event machine (Opened number kind) = opens machine number (greeting machine.shared number kind (at_once machine.sessions))
take_event machine (Piece number piece moment) = of_session machine number (hears_piece moment piece)
take_event machine (Ended number) = of_session machine number leaves
take_event machine (Lost number) = of_session machine number leaves

-- the machine before any event
abbrev pub start : World → Machine
start world = record { shared = record { world = world; parts = [] }; sessions = []; out = λ number. []; changes = []; last = 0 }

-- the machine after events, of which the newest is first
unfoldable pub machine : World → List PortEvent → Machine
machine world [] = start world
machine world (event ∷ older) = take_event (machine world older) event

-- the machine after a history of calls on ports
abbrev pub after : World → List PortCall → Machine
after world history = machine world (events history)

-- A change is handed out where a byte of its answer was sent.
abbrev pub IsHandedOut : List PortCall → Made → Type 0
IsHandedOut history made = (0 < made.count) × (made.from < length (sent history made.number))
