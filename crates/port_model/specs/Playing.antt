-- Ports that play a script: what each call is answered, and what it leaves of the script.
use Rattle.std.specs.Prelude.{ℕ, ◌≡◌, ◌<◌, ◌==◌, ◌&&◌, Bool, true, false, not, List, [], ◌∷◌, Option, Some, None, Result, Ok, Err, length, take, drop, min, filter, nat_lt, if◌then◌else◌}
use Rattle.port_model.specs.declared.calls.Kind.{Kind}
use Rattle.port_model.specs.declared.calls.PortSend.{PortSend}
use Rattle.port_model.specs.declared.calls.PortSend.TheVariants.{Took, Lost as SendLost}
use Rattle.port_model.specs.declared.calls.ReadAnswer.{ReadAnswer}
use Rattle.port_model.specs.declared.calls.ReadAnswer.TheVariants.{Gave, Quiet, Ended as HasEnded, Lost as WasLost}
use Rattle.port_model.specs.declared.calls.PortCall.{PortCall}
use Rattle.port_model.specs.declared.calls.PortCall.TheVariants.{Accept, Read, Now, Send, Close}
use Rattle.port_model.specs.declared.events.Event.{Event}
use Rattle.port_model.specs.declared.events.Event.TheVariants.{Opens, Piece, Ends, Loses}

-- What ports play: the events of a script, and how many bytes each send takes at most, in order. Behind the last
-- of these numbers a send takes all.
pub record Plan : Type 0 where
  pub events : List Event
  pub sends : List ℕ

-- What is left of a plan after some calls, and the moment of the last piece that was read, 0 before one.
pub record Playing : Type 0 where
  pub left : List Event
  pub sends : List ℕ
  pub moment : ℕ

-- whether an event happens on the session of a number
abbrev pub is_of : ℕ → Event → Bool
is_of number (Opens kind) = false
is_of number (Piece who bytes moment) = who == number
is_of number (Ends who) = who == number
is_of number (Loses who) = who == number

-- the link that an accept is given
abbrev pub answer_to_accept : List Event → Option Kind
answer_to_accept (Opens kind ∷ later) = Some kind
answer_to_accept later = None

-- what a read of a session's link is given, into a buffer with some room
abbrev pub given : Event → ℕ → ReadAnswer
given (Opens kind) room = Quiet
given (Piece who bytes moment) room = Gave (take room bytes)
given (Ends who) room = HasEnded
given (Loses who) room = WasLost

abbrev pub answer_to_read : List Event → ℕ → ℕ → ReadAnswer
answer_to_read [] number room = Quiet
answer_to_read (event ∷ later) number room = if is_of number event then given event room else Quiet

-- whether the next event loses the session of a number
abbrev pub loses : List Event → ℕ → Bool
loses (Loses who ∷ later) number = who == number
loses later number = false

-- how many of the bytes that it is offered a send takes
abbrev pub amount : List ℕ → ℕ → ℕ
amount [] offered = offered
amount (most ∷ later) offered = min most offered

abbrev pub answer_to_send : Playing → ℕ → ℕ → PortSend
answer_to_send playing number offered = if loses playing.left number then SendLost else Took (amount playing.sends offered)

-- The call has the answer that the script gives.
abbrev pub IsAnswered : PortCall → Playing → Type 0
IsAnswered (Accept number answer) playing = answer ≡ Ok (answer_to_accept playing.left)
IsAnswered (Read number room answer) playing = answer ≡ answer_to_read playing.left number room
IsAnswered (Now reading) playing = reading ≡ playing.moment
IsAnswered (Send number bytes answer) playing = answer ≡ answer_to_send playing number (length bytes)
IsAnswered (Close number) playing = Unit {0}

-- the events that are left once a link was taken
abbrev pub after_accept : List Event → List Event
after_accept (Opens kind ∷ later) = later
after_accept later = later

-- what a read leaves of the next event: the rest of a piece that the buffer had no room for
abbrev pub rest_of : Event → ℕ → List Event
rest_of (Piece who bytes moment) room = if nat_lt room (length bytes) then Piece who (drop room bytes) moment ∷ [] else []
rest_of event room = []

-- the moment after a read of an event
abbrev pub moment_of : Event → ℕ → ℕ
moment_of (Piece who bytes moment) before = moment
moment_of event before = before

abbrev pub after_read : Playing → ℕ → ℕ → List Event → Playing
after_read playing number room [] = playing
after_read playing number room (event ∷ later) =
    if is_of number event
    then record { left = Rattle.std.specs.Prelude.◌++◌ (rest_of event room) later; sends = playing.sends; moment = moment_of event playing.moment }
    else playing

abbrev pub after_send : List Event → ℕ → List Event
after_send (Loses who ∷ later) number = if who == number then later else Loses who ∷ later
after_send later number = later

-- What a call leaves. The events of a session are skipped once its link is closed.
abbrev pub plays : PortCall → Playing → Playing
plays (Accept number answer) playing = record { left = after_accept playing.left; sends = playing.sends; moment = playing.moment }
plays (Read number room answer) playing = after_read playing number room playing.left
plays (Now reading) playing = playing
plays (Send number bytes answer) playing = record { left = after_send playing.left number; sends = drop 1 playing.sends; moment = playing.moment }
plays (Close number) playing = record { left = filter (λ event. not (is_of number event)) playing.left; sends = playing.sends; moment = playing.moment }

-- what is left of a plan after a history, which has the newest call first
abbrev pub playing : Plan → List PortCall → Playing
playing plan [] = record { left = plan.events; sends = plan.sends; moment = 0 }
playing plan (call ∷ older) = plays call (playing plan older)

-- Each call of a history has the answer that the script gives.
abbrev pub IsPlayed : Plan → List PortCall → Type 0
IsPlayed plan [] = Unit {0}
IsPlayed plan (call ∷ older) = IsAnswered call (playing plan older) × IsPlayed plan older
