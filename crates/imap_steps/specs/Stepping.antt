-- What a step leaves, and the steps that commands are made of.
use Rattle.std.specs.Prelude.{ℕ, not, Bool, true, false, List, [], ◌++◌, Option, Some, None, codes, filter, if◌then◌else◌}
use Rattle.std.specs.List.{list_any}
use Rattle.session_units.specs.declared.forms.Awaits.{Awaits}
use Rattle.session_units.specs.declared.forms.Awaits.TheVariants.{Command as AwaitsCommand}
use Rattle.imap_writer.specs.declared.refusals.Refusal.{Refusal}
use Rattle.imap_writer.specs.declared.refusals.Refusal.TheVariants as line
use Rattle.imap_writer.specs.Tagged.{ok_line, no_line}
use Rattle.session_view.specs.declared.sessions.SessionPart.{SessionPart}
use Rattle.session_view.specs.declared.sessions.State.{State}
use Rattle.session_view.specs.Parts.{has_number, with_state}
use Rattle.mail_world.specs.Worlds as worlds
use Rattle.mail_world.specs.Changes as changes
use Rattle.mail_world.specs.Applying.{apply, refused}

-- The world of mail (`mail_world`), and a change of it.
abbrev pub World : Type 0
World = worlds.World

abbrev pub Change : Type 0
Change = changes.Change

-- the world after a change
unfoldable pub applied : World → Change → World
applied world change = apply world change

-- the world after a change, if there is one
abbrev pub changed : World → Option Change → World
changed world None = world
changed world (Some change) = applied world change

-- What sessions share: the world of mail, and their own parts, in the order of their opening.
pub record Shared : Type 0 where
  pub world : World
  pub parts : List SessionPart

-- What a step leaves: at most one change of the world, the answer to the session, the sessions' own parts after it,
-- whether the session is to be closed once its answers are sent, and the form of the unit that it awaits next.
pub record Stepped : Type 0 where
  pub change : Option Change
  pub answer : List ℕ
  pub parts : List SessionPart
  pub closes : Bool
  pub next : Awaits

-- What is left of what sessions share once a session took leave: its own part is gone.
unfoldable pub left_by : Shared → ℕ → Shared
left_by shared number = record { world = shared.world; parts = filter (λ part. not (has_number number part)) shared.parts }

-- whether a session has its own part in what sessions share
abbrev pub has_part : ℕ → Shared → Bool
has_part number shared = list_any (has_number number) shared.parts

-- what sessions share once a step was made
abbrev pub stepped_to : Shared → Stepped → Shared
stepped_to shared stepped = record { world = changed shared.world stepped.change; parts = stepped.parts }

-- the same once a session that the step closes took leave
abbrev pub after_step : Shared → ℕ → Stepped → Shared
after_step shared number stepped =
    if stepped.closes then left_by (stepped_to shared stepped) number else stepped_to shared stepped

-- ---- the steps that commands are made of

-- CRLF, the end of a line
abbrev pub crlf : List ℕ
crlf = codes "\r\n"

-- the line that says why the link is closed (RFC 3501 §7.1.5)
abbrev pub bye : List ℕ → List ℕ
bye reason = codes "* BYE " ++ reason ++ crlf

-- an answer after which the session goes on
abbrev pub answered : Shared → List ℕ → Stepped
answered shared answer = record { change = None; answer = answer; parts = shared.parts; closes = false; next = AwaitsCommand }

-- an answer after which the link is closed
abbrev pub answered_last : Shared → List ℕ → Stepped
answered_last shared answer = record { change = None; answer = answer; parts = shared.parts; closes = true; next = AwaitsCommand }

-- an answer after which the session has another state
abbrev pub turned : Shared → ℕ → State → List ℕ → Stepped
turned shared number state answer =
    record { change = None; answer = answer; parts = with_state number state shared.parts; closes = false; next = AwaitsCommand }

-- a refusal, told with the command's tag, or with `*` where it has none
abbrev pub refused_with : Shared → List ℕ → Refusal → Stepped
refused_with shared tag refusal = answered shared (no_line tag refusal)

abbrev pub refused_untagged : Shared → Stepped
refused_untagged shared = refused_with shared (codes "*") line.Syntax

-- a command that was carried out, and nothing else is told of it
abbrev pub completed : Shared → List ℕ → List ℕ → Stepped
completed shared tag name = answered shared (ok_line tag [] name)

-- how a refusal of a change is told
abbrev pub told_as : changes.Refusal → Refusal
told_as changes.BadName = line.BadName
told_as changes.Absent = line.Absent
told_as changes.Exists = line.Exists
told_as changes.InUse = line.InUse
told_as changes.Full = line.Full
told_as changes.NoUid = line.NoUid

-- A command that is one change of the world: the change is refused, or it is made and the command completed.
abbrev pub unless_refused : Shared → Change → List ℕ → List ℕ → Option changes.Refusal → Stepped
unless_refused shared change tag name None =
    record { change = Some change; answer = ok_line tag [] name; parts = shared.parts; closes = false; next = AwaitsCommand }
unless_refused shared change tag name (Some refusal) = refused_with shared tag (told_as refusal)

abbrev pub made : Shared → Change → List ℕ → List ℕ → Stepped
made shared change tag name = unless_refused shared change tag name (refused shared.world change)
