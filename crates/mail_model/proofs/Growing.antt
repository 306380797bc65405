-- What a session was answered is never taken back.
use Rattle.std.proofs.Common.{ℕ, ◌≡◌, ◌==◌, Bool, true, false, List, [], ◌∷◌, ◌++◌, Option, Some, None, cond, refl, sym, append-nil}
use Rattle.port_model.specs.History.{PortEvent, Opened, Piece, Ended, Lost}
use Rattle.mail_model.specs.Machine.{Machine, Session, Taking, takes, session_at, take_event, machine, hears_piece, leaves}
use Rattle.imap_steps.specs.Stepping.{Shared, World}

-- one list begins with the other
abbrev pub Grows : List ℕ → List ℕ → Type 0
Grows old new = (more : List ℕ) × (new ≡ old ++ more)

added : (same : Bool) (old answers : List ℕ) → Grows old (cond same (old ++ answers) old)
added true old answers = (answers, refl)
added false old answers = ([], sym (append-nil old))

of_session-grows : (m : Machine) (number who : ℕ) (act : Shared → Session → Taking) (found : Option Session)
    → Grows (m.out number) ((elim found as (λ f. Machine) [ None ↦ m | Some session ↦ takes m (act m.shared session) ]).out number)
of_session-grows m number who act None = ([], sym (append-nil (m.out number)))
of_session-grows m number who act (Some session) =
    added (number == (act m.shared session).session.number) (m.out number) (act m.shared session).answers

grows : (m : Machine) (event : PortEvent) (number : ℕ) → Grows (m.out number) ((take_event m event).out number)
grows m (Opened who kind) number = added (number == who) (m.out number) _
grows m (Piece who piece moment) number = of_session-grows m number who (hears_piece moment piece) (session_at who m.sessions)
grows m (Ended who) number = of_session-grows m number who leaves (session_at who m.sessions)
grows m (Lost who) number = of_session-grows m number who leaves (session_at who m.sessions)

pub machine-grows : (world : World) (event : PortEvent) (older : List PortEvent) (number : ℕ) → Grows ((machine world older).out number) ((machine world (event ∷ older)).out number)
unfolding machine
machine-grows world event older number = grows (machine world older) event number
