-- What the law of events between pieces says.
use Rattle.std.specs.Prelude.{ℕ, ◌≡◌, ◌≢◌, ◌==◌, true, false, List, [], ◌∷◌, Option, Some, None}
use Rattle.port_model.specs.History.{PortEvent, Opened, Piece, Ended, Lost}
use Rattle.session_units.specs.Units.{first}
use Rattle.mail_model.specs.Machine.{Session, is_open, session_at}

-- the link on which something happens
abbrev pub link_of : PortEvent → ℕ
link_of (Opened number kind) = number
link_of (Piece number piece moment) = number
link_of (Ended number) = number
link_of (Lost number) = number

-- one session at most has a number
abbrev pub IsAlone : ℕ → List Session → Type 0
IsAlone number [] = Unit {0}
IsAlone number (session ∷ later) = elim (session.number == number) [ true ↦ session_at number later ≡ None | false ↦ IsAlone number later ]

-- a piece ends no unit of a session, where there is one and it is served
abbrev pub EndsNoUnit : Option Session → List ℕ → Type 0
EndsNoUnit None piece = Unit {0}
EndsNoUnit (Some session) piece = is_open session.standing ≡ true → first session.awaited piece ≡ None

-- what happens is on other links
abbrev pub AllElsewhere : ℕ → List PortEvent → Type 0
AllElsewhere number [] = Unit {0}
AllElsewhere number (event ∷ older) = (link_of event ≢ number) × AllElsewhere number older
