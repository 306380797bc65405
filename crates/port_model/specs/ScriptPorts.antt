-- What ports that play a script mean.
use Rattle.std.specs.Prelude.{ℕ, ◌≡◌, ◌⊎◌, ◌+◌, ◌-◌, ◌^◌, ◌==◌, Bool, true, false, List, [], ◌∷◌, Option, Some, min, if◌then◌else◌}
use Rattle.port_model.specs.declared.calls.PortCall.{PortCall}
use Rattle.port_model.specs.declared.calls.PortCall.TheVariants.{Accept, Read, Now, Send, Close}
use Rattle.port_model.specs.declared.calls.PortSend.{PortSend}
use Rattle.port_model.specs.declared.calls.PortSend.TheVariants.{Took, Lost as SendLost}
use Rattle.port_model.specs.declared.calls.ReadAnswer.{ReadAnswer}
use Rattle.port_model.specs.declared.calls.ReadAnswer.TheVariants.{Gave, Quiet, Ended, Lost}
use Rattle.port_model.specs.Playing.{Plan, playing, IsPlayed}
use Rattle.port_model.specs.History.{PortEvent, Opened, Piece, Ended as HasEnded, Lost as WentLost, event_of, piece_at, sent}
use Rattle.port_model.specs.Player.{Played}

-- Ports that play a script: their plan, the calls that they recorded, the newest first, whether a record of a call
-- ever found no memory, and how many calls since then could not be recorded: those that asked for a link, and all others.
pub record Scripted : Type 0 where
  pub plan : Plan
  pub calls : List PortCall
  pub starved : Bool
  pub starved_accepts : ℕ
  pub starved_calls : ℕ

-- With some events no link came, and no byte.
abbrev pub GiveNothing : List PortEvent → Type 0
GiveNothing [] = Unit {0}
GiveNothing (Opened number kind ∷ older) = ⊥
GiveNothing (Piece number bytes moment ∷ older) = ⊥
GiveNothing (HasEnded number ∷ older) = GiveNothing older
GiveNothing (WentLost number ∷ older) = GiveNothing older

-- Each call of a history has the answer that the script gives, up to one from which on calls give nothing.
abbrev pub IsPlayedUntil : Plan → List PortCall → Type 0
IsPlayedUntil plan [] = Unit {0}
IsPlayedUntil plan (call ∷ older) = IsPlayed plan (call ∷ older) ⊎ (GiveNothing (event_of call older) × IsPlayedUntil plan older)

-- The history of ports since a record of a call found no memory. Each piece has had its reading of the clock.
pub record Starves (plan : Plan) (history : List PortCall) : Type 0 where
  pub until : IsPlayedUntil plan history
  pub none_waits : (reading : ℕ) → piece_at reading history ≡ []

abbrev pub HasCalls : Bool → Plan → List PortCall → List PortCall → Type 0
HasCalls false plan calls history = history ≡ calls
HasCalls true plan calls history = Starves plan history

-- The history is the calls, as long as each was recorded.
abbrev pub script_history : Scripted → List PortCall → Type 0
script_history ports history = HasCalls ports.starved ports.plan ports.calls history

abbrev pub its_plan : Scripted → Option Plan
its_plan ports = Some ports.plan

abbrev pub listen_count : Scripted → ℕ
listen_count ports = ports.starved_accepts

-- whether a call on the link of a number was answered that the link is lost
abbrev pub is_lost_read : ReadAnswer → Bool
is_lost_read (Gave bytes) = false
is_lost_read Quiet = false
is_lost_read Ended = false
is_lost_read Lost = true

abbrev pub is_lost_send : PortSend → Bool
is_lost_send (Took n) = false
is_lost_send SendLost = true

-- how often the link of a number was lost by the script
abbrev pub losses : List PortCall → ℕ → ℕ
losses [] number = 0
losses (Accept who answer ∷ older) number = losses older number
losses (Read who room answer ∷ older) number = losses older number + (if who == number then (if is_lost_read answer then 1 else 0) else 0)
losses (Now reading ∷ older) number = losses older number
losses (Send who bytes answer ∷ older) number = losses older number + (if who == number then (if is_lost_send answer then 1 else 0) else 0)
losses (Close who ∷ older) number = losses older number

-- A link fails where the script loses it, and at each call that could not be recorded and asked for no link.
abbrev pub link_count : Scripted → ℕ → ℕ
link_count ports number = min (losses ports.calls number + ports.starved_calls) (2 ^ 64 - 1)

-- The player stands where the calls leave the script, each call had the script's answer, and the texts are what was sent.
pub record IsFollowed (played : Played) (calls : List PortCall) (texts : ℕ → List ℕ) : Type 0 where
  pub left : played.playing ≡ playing played.plan calls
  pub answers : IsPlayed played.plan calls
  pub each : (number : ℕ) → texts number ≡ sent calls number
