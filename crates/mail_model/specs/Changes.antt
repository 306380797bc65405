-- What the laws of changes say: what a machine's changes make of a world, and which answers they are told by.
use Rattle.std.specs.Prelude.{ℕ, ◌≡◌, ◌+◌, ◌≤◌, List, [], ◌∷◌, Some, None, length, map, take, drop, if◌then◌else◌}
use Rattle.port_model.specs.History.{PortEvent, Opened, Piece, Ended, Lost}
use Rattle.session_units.specs.Awaited.{awaits_of}
use Rattle.session_units.specs.Units.{Cut, first}
use Rattle.imap_steps.specs.Stepping.{World, Change, Stepped, applied}
use Rattle.imap_steps.specs.Step.{step, greeting}
use Rattle.mail_model.specs.Machine.{Machine, Made, Taking, is_open, take_byte, taking_of, session_at, at_once, machine}

-- the world after changes, of which the newest is first
abbrev pub folded : World → List Made → World
folded world [] = world
folded world (made ∷ older) = applied (folded world older) made.change

-- A change with the answer that tells of it, and the session that it answers.
pub record Told : Type 0 where
  pub change : Change
  pub number : ℕ
  pub answer : List ℕ

-- a change with the bytes that its range holds of what each session was answered
abbrev pub told : (ℕ → List ℕ) → Made → Told
told out made = record { change = made.change; number = made.number; answer = take made.count (drop made.from (out made.number)) }

-- what is told with the change of a step in front, if it made one, and the answer of that step
abbrev pub and_told : ℕ → Stepped → List Told → List Told
and_told number stepped older = elim stepped.change [ None ↦ older | Some change ↦ record { change = change; number = number; answer = stepped.answer } ∷ older ]

-- what is told after a unit
abbrev pub unit_tells : ℕ → Taking → Cut → List Told → List Told
unit_tells moment taking cut older = and_told taking.session.number (step taking.shared taking.session.number (awaits_of taking.session.awaited) cut.shows cut.unit moment) older

-- what is told after one more byte: where it completes a unit, that one's step tells
abbrev pub byte_tells : ℕ → Taking → ℕ → List Told → List Told
byte_tells moment taking byte older =
    if is_open taking.session.standing
    then elim (first taking.session.awaited (byte ∷ [])) [ None ↦ older | Some cut ↦ unit_tells moment taking cut older ]
    else older

-- what is told after the bytes of a piece
abbrev pub piece_tells : ℕ → Taking → List ℕ → List Told → List Told
piece_tells moment taking [] older = older
piece_tells moment taking (byte ∷ bytes) older = piece_tells moment (take_byte moment taking byte) bytes (byte_tells moment taking byte older)

-- what is told after an event: greetings and units are steps, the end of a link is none
abbrev pub event_tells : Machine → PortEvent → List Told → List Told
event_tells before (Opened number kind) older =
    and_told number (greeting before.shared number kind (at_once before.sessions)) older
event_tells before (Piece number piece moment) older =
    elim (session_at number before.sessions) [ None ↦ older | Some session ↦ piece_tells moment (taking_of before.shared session) piece older ]
event_tells before (Ended number) older = older
event_tells before (Lost number) older = older

-- The changes that the steps of events make, each with its step's answer, the newest first.
unfoldable pub tells : World → List PortEvent → List Told
tells world [] = []
tells world (event ∷ older) = event_tells (machine world older) event (tells world older)

-- the range of each change lies in what its session was answered
abbrev pub AllWithin : (ℕ → List ℕ) → List Made → Type 0
AllWithin out [] = Unit {0}
AllWithin out (made ∷ older) = (made.from + made.count ≤ length (out made.number)) × AllWithin out older

-- A machine made these changes of a first world, the newest first: each range of answers is the answer told, and the
-- world is the first one after the changes, the oldest first.
pub record Records (world : World) (before : Machine) (answered : List Told) : Type 0 where
  pub within : AllWithin before.out before.changes
  pub answers : map (told before.out) before.changes ≡ answered
  pub changed : before.shared.world ≡ folded world before.changes
