-- Which calls the rounds make on the ports, told by the machine, whatever the ports answer: in each round every session is
-- offered what it was answered since, those whose session is over are closed, one new session at most is taken, and each
-- open session is asked once.
use Rattle.std.specs.Prelude.{ℕ, ◌≡◌, ◌+◌, ◌-◌, ◌^◌, ◌==◌, ◌||◌, not, nat_eq, Bool, true, false, List, [], ◌∷◌, Option, Result, length, take, drop, map, filter, if◌then◌else◌}
use Rattle.port_model.specs.declared.calls.Kind.{Kind}
use Rattle.port_model.specs.declared.calls.ListenFault.{ListenFault}
use Rattle.port_model.specs.declared.calls.PortSend.{PortSend}
use Rattle.port_model.specs.declared.calls.ReadAnswer.{ReadAnswer}
use Rattle.port_model.specs.declared.calls.ReadAnswer.TheVariants.{Gave, Quiet, Ended as HasEnded, Lost as WasLost}
use Rattle.port_model.specs.declared.calls.PortCall.{PortCall}
use Rattle.port_model.specs.declared.calls.PortCall.TheVariants.{Accept, Read, Now, Send, Close}
use Rattle.port_model.specs.Chain.{Chain}
use Rattle.port_model.specs.History.{PortEvent, Opened, Piece, Ended, Lost, events, sent, is_closed}
use Rattle.mail_model.specs.declared.standing.Standing.{Standing}
use Rattle.mail_model.specs.declared.standing.Standing.TheVariants.{Open, Closing}
use Rattle.imap_steps.specs.Stepping.{World}
use Rattle.mail_model.specs.Machine.{Session, after}

-- From each history that ports may have had, a step like this leads to one that they may have now.
abbrev pub GoesOn : (List PortCall → List PortCall → Type 0) → (List PortCall → Type 0) → (List PortCall → Type 0) → Type 0
GoesOn Step old new = (before : List PortCall) → old before → (later : List PortCall) × new later × Step before later

-- how many bytes a link is read at a time
abbrev pub read_room : ℕ
read_room = 65536

-- whether a session's link is not closed
abbrev pub is_kept : List PortCall → Session → Bool
is_kept history session = not (is_closed history session.number)

-- whether an event is that the link of a number is lost
abbrev pub is_loss : ℕ → PortEvent → Bool
is_loss number (Opened who kind) = false
is_loss number (Piece who piece moment) = false
is_loss number (Ended who) = false
is_loss number (Lost who) = who == number

-- whether the link of a number was lost by one of some events
abbrev pub is_lost : ℕ → List PortEvent → Bool
is_lost number [] = false
is_lost number (event ∷ older) = is_loss number event || is_lost number older

-- What is due to a session whose link isn't closed: how the link stands, and the answers that weren't sent yet.
pub record Due : Type 0 where
  pub number : ℕ
  pub standing : Standing
  pub unsent : List ℕ

-- what a session was answered and what is not sent yet, which is nothing where its link is lost
abbrev pub unsent : World → List PortCall → ℕ → List ℕ
unsent first history number = if is_lost number (events history) then [] else drop (length (sent history number)) ((after first history).out number)

abbrev pub due_to : World → List PortCall → Session → Due
due_to first history session = record { number = session.number; standing = session.standing; unsent = unsent first history session.number }

-- what is due after a history, by the machine
abbrev pub dues : World → List PortCall → List Due
dues first history = map (due_to first history) (filter (is_kept history) (after first history).sessions)

abbrev pub OffersBytes : ℕ → List ℕ → List PortCall → List PortCall → Type 0
OffersBytes number [] before later = later ≡ before
OffersBytes number (byte ∷ bytes) before later = (answer : PortSend) × (later ≡ Send number (byte ∷ bytes) answer ∷ before)

-- A session with something unsent is offered all of it in one send, and no other is offered anything.
abbrev pub Offers : Due → List PortCall → List PortCall → Type 0
Offers due before later = OffersBytes due.number due.unsent before later

abbrev pub ClosesEmpty : Standing → ℕ → List ℕ → List PortCall → List PortCall → Type 0
ClosesEmpty Open number bytes before later = later ≡ before
ClosesEmpty Closing number (byte ∷ bytes) before later = later ≡ before
ClosesEmpty Closing number [] before later = later ≡ Close number ∷ before

-- The link of a session that isn't open and has nothing unsent is closed, and no other.
abbrev pub Closes : Due → List PortCall → List PortCall → Type 0
Closes due before later = ClosesEmpty due.standing due.number due.unsent before later

-- calls with the reading of the clock in front, where the latest of them gave bytes
abbrev pub clocked : ReadAnswer → ℕ → List PortCall → List PortCall
clocked (Gave bytes) reading calls = Now reading ∷ calls
clocked Quiet reading calls = calls
clocked HasEnded reading calls = calls
clocked WasLost reading calls = calls

-- One read into a buffer of 65,536 bytes, and one reading of the clock where it gave bytes.
abbrev pub ReadsOnce : ℕ → List PortCall → List PortCall → Type 0
ReadsOnce number before later =
    (answer : ReadAnswer) × (reading : ℕ) × (later ≡ clocked answer reading (Read number read_room answer ∷ before))

abbrev pub AsksIdle : Standing → ℕ → List ℕ → List PortCall → List PortCall → Type 0
AsksIdle Open number [] before later = ReadsOnce number before later
AsksIdle Open number (byte ∷ bytes) before later = later ≡ before
AsksIdle Closing number bytes before later = later ≡ before

-- A session that is open and has nothing unsent is read once, and no other.
abbrev pub Asks : Due → List PortCall → List PortCall → Type 0
Asks due before later = AsksIdle due.standing due.number due.unsent before later

abbrev pub AcceptsBelow : Bool → ℕ → List PortCall → List PortCall → Type 0
AcceptsBelow true last before later = later ≡ before
AcceptsBelow false last before later = (answer : Result (Option Kind) ListenFault) × (later ≡ Accept (last + 1) answer ∷ before)

-- One new link is asked for, with the number behind the latest, while numbers last.
abbrev pub Accepts : ℕ → List PortCall → List PortCall → Type 0
Accepts last before later = AcceptsBelow (nat_eq last (2 ^ 32 - 1)) last before later

-- The calls of `flush`: every session is offered what it has unsent, and then those that aren't open and have nothing unsent
-- any more are closed, each in the order of the numbers.
pub record Flushes (first : World) (before later : List PortCall) : Type 0 where
  pub mid : List PortCall
  pub offers : Chain Offers (dues first before) before mid
  pub closes : Chain Closes (dues first mid) mid later

-- The calls of `take`, as far as so many sessions were asked: one accept, and then the sessions that were there before it,
-- in the order of the numbers.
pub record TakesSome (asked : ℕ) (first : World) (before later : List PortCall) : Type 0 where
  pub mid : List PortCall
  pub accepts : Accepts (after first before).last before mid
  pub asks : Chain Asks (take asked (dues first before)) mid later

abbrev pub Takes : World → List PortCall → List PortCall → Type 0
Takes first before later = TakesSome (length (dues first before)) first before later

-- The same as far as some sessions were asked.
abbrev pub TakesPart : World → List PortCall → List PortCall → Type 0
TakesPart first before later = (asked : ℕ) × TakesSome asked first before later

-- The calls of a round: those of `flush`, and then those of `take`.
pub record Rounds (first : World) (before later : List PortCall) : Type 0 where
  pub flushed : List PortCall
  pub flushes : Flushes first before flushed
  pub takes : Takes first flushed later

-- The same as far as some sessions were asked.
pub record RoundsPart (first : World) (before later : List PortCall) : Type 0 where
  pub flushed : List PortCall
  pub flushes : Flushes first before flushed
  pub takes : TakesPart first flushed later
