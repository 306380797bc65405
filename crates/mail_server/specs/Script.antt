-- What a script has the machine do.
use Rattle.std.specs.Prelude.{ℕ, ◌+◌, List, [], ◌∷◌}
use Rattle.port_model.specs.declared.events.Event.{Event}
use Rattle.port_model.specs.declared.events.Event.TheVariants.{Opens, Piece, Ends, Loses}
use Rattle.port_model.specs.Streams.{moment}
use Rattle.port_model.specs.History.{PortEvent, Opened, Piece as CamePiece, Ended, Lost}
use Rattle.mail_model.specs.Machine.{Machine, machine}
use Rattle.imap_steps.specs.Stepping.{World}

-- an event of a script as its link has it, where this is the number of the next session that opens
abbrev pub port_event : ℕ → Event → PortEvent
port_event next (Opens kind) = Opened next kind
port_event next (Piece number bytes at) = CamePiece number bytes (moment at)
port_event next (Ends number) = Ended number
port_event next (Loses number) = Lost number

-- a number of sessions with that which an event opens, if it opens one
abbrev pub and_opened : ℕ → Event → ℕ
and_opened count (Opens kind) = count + 1
and_opened count (Piece number bytes at) = count
and_opened count (Ends number) = count
and_opened count (Loses number) = count

-- the events of a script as its links have them, in their order; the sessions that open get the numbers from one on
abbrev pub port_events : ℕ → List Event → List PortEvent
port_events next [] = []
port_events next (event ∷ later) = port_event next event ∷ port_events (and_opened next event) later

-- events that come after older ones, all with the newest first
abbrev pub newest_first : List PortEvent → List PortEvent → List PortEvent
newest_first older [] = older
newest_first older (event ∷ later) = newest_first (event ∷ older) later

-- The machine after a script that begins with this world. What happens to a session that was closed changes nothing.
abbrev pub script_machine : World → List Event → Machine
script_machine first events = machine first (newest_first [] (port_events 1 events))
