-- A history in the middle of a script: what is left of the script leads the machine to where the whole script does.
use Rattle.std.specs.Prelude.{ℕ, ◌≡◌, ◌+◌, ◌<◌, ◌≤◌, Bool, true, false, List, [], ◌∷◌, length}
use Rattle.port_model.specs.declared.events.Event.{Event}
use Rattle.port_model.specs.declared.events.Event.TheVariants.{Opens, Piece, Ends, Loses}
use Rattle.port_model.specs.declared.calls.PortCall.{PortCall}
use Rattle.port_model.specs.History.{events, is_closed}
use Rattle.imap_steps.specs.Stepping.{World}
use Rattle.mail_model.specs.Machine.{Machine, Session, take_event, after}
use Rattle.mail_rounds.specs.Calls.{is_lost}
use Rattle.mail_server.specs.Script.{script_machine, port_event, and_opened}
use Rattle.mail_server.specs.Rounds.{left_in, has_loss}

-- a machine after the events that are left of a script
abbrev pub runs : Machine → List Event → Machine
runs before [] = before
runs before (event ∷ later) = runs (take_event before (port_event (before.last + 1) event)) later

-- A session was opened, and its link isn't closed.
pub record IsLinked (closed : ℕ → Bool) (last number : ℕ) : Type 0 where
  pub above : 0 < number
  pub opened : number ≤ last
  pub kept : closed number ≡ false

-- An event happens on a session whose link isn't closed, or opens one. A piece is no longer than one read.
abbrev pub IsNext : (ℕ → Bool) → ℕ → Event → Type 0
IsNext closed last (Opens kind) = Unit {0}
IsNext closed last (Piece number bytes at) = IsLinked closed last number × (length bytes ≤ 65536)
IsNext closed last (Ends number) = IsLinked closed last number
IsNext closed last (Loses number) = IsLinked closed last number

-- Each event that is left may happen, where this is the number of the latest session.
abbrev pub AreNext : (ℕ → Bool) → ℕ → List Event → Type 0
AreNext closed last [] = Unit {0}
AreNext closed last (event ∷ later) = IsNext closed last event × AreNext closed (and_opened last event) later

-- The sessions have the numbers from above a bound up to the latest, each once.
abbrev pub AreNumbered : ℕ → List Session → ℕ → Type 0
AreNumbered before [] last = before ≡ last
AreNumbered before (session ∷ sessions) last =
    (session.number ≡ before + 1) × AreNumbered (before + 1) sessions last

-- Only links that may be lost are, or are to be.
pub record MayLose (may lost : ℕ → Bool) (left : List Event) : Type 0 where
  pub were : (number : ℕ) → lost number ≡ true → may number ≡ true
  pub will : (number : ℕ) → has_loss number left ≡ true → may number ≡ true

-- What is left leads a machine to another one, where these links are closed, and these are lost.
pub record Leads (left : List Event) (closed may lost : ℕ → Bool) (before goal : Machine) : Type 0 where
  pub whole : runs before left ≡ goal
  pub next : AreNext closed before.last left
  pub numbered : AreNumbered 0 before.sessions before.last
  pub losses : MayLose may lost left

-- After a history what is left of a script leads to where the whole script does.
abbrev pub IsOn : World → List Event → List PortCall → Type 0
IsOn first script calls =
    Leads (left_in script calls) (is_closed calls) (λ number. has_loss number script) (λ number. is_lost number (events calls)) (after first calls) (script_machine first script)
