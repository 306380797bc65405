-- What a run of the server answers, reads and writes.
use Rattle.std.specs.Prelude.{ℕ, ◌≡◌, ◌≤◌, ◌+◌, nat_lt, Bool, true, false, List, [], ◌++◌, Option, Some, None, Result, Ok, Err, IfSome, IfOk, IsSomeAnd, length, flat_map, codes, decimal, if◌then◌else◌}
use Rattle.std.specs.List.{range_with_len}
use Rattle.disk_model.specs.Told.{Told}
use Rattle.disk_model.specs.declared.disk.Files.{Files}
use Rattle.port_model.specs.declared.calls.PortCall.{PortCall}
use Rattle.port_model.specs.declared.events.Event.{Event}
use Rattle.port_model.specs.History.{sent}
use Rattle.port_model.specs.Script.{script_events}
use Rattle.port_model.specs.Streams.{Reads as IsReading}
use Rattle.port_model.specs.Transcript.{session_lines}
use Rattle.imap_steps.specs.Stepping.{World}
use Rattle.row_store.specs.ThreeFiles.{IfRead, FaultRose, CountsNoFault, MakesAllSure}
use Rattle.row_store.specs.Holding.{HoldsNone}
use Rattle.mime_reader.specs.Wrapping.{mail}
use Rattle.canon_writer.specs.Printing.{print}
use Rattle.mail_server.specs.declared.answer.Answer.{Answer}
use Rattle.mail_server.specs.declared.status.Status.{Status}
use Rattle.mail_server.specs.declared.status.Status.TheVariants.{Done, Usage, NoMemory, ReadFault, WriteFault, StoreFault, NotAStore, Refused, BadScript, ListenFault}
use Rattle.mail_server.specs.declared.words.Task.{Task}
use Rattle.mail_server.specs.declared.words.Task.TheVariants.{Script, Canon}
use Rattle.mail_server.specs.Script.{script_machine}
use Rattle.mail_server.specs.Rounds.{PlaysOut}
use Rattle.mail_server.specs.WorldFiles.{IfWorld, SettledFor}

-- the number that the process ends with
abbrev pub code_of : Status → ℕ
code_of Done = 0
code_of Usage = 2
code_of NoMemory = 3
code_of ReadFault = 4
code_of WriteFault = 5
code_of StoreFault = 6
code_of NotAStore = 7
code_of Refused = 8
code_of BadScript = 9
code_of ListenFault = 10

-- How a run ends that nothing comes in between of, and all that it writes.
pub record End : Type 0 where
  pub status : Status
  pub lines : List ℕ

-- The word `script`

-- what the sessions from the first to the last were sent, as lines
abbrev pub transcript_of : ℕ → (ℕ → List ℕ) → List ℕ
transcript_of last out = flat_map (λ number. session_lines number (out number)) (range_with_len 1 last)

-- the line that says of a script which line is bad
abbrev pub bad_line : ℕ → List ℕ
bad_line number = codes "bad line " ++ decimal number ++ codes "\n"

-- A history plays a script to its end from a world, and the lines are those of what was sent in it, one session after another.
pub record IsPlayedOut (first : World) (script : List Event) (lines : List ℕ) : Type 0 where
  pub calls : List PortCall
  pub plays : PlaysOut first script calls
  pub lines_are : lines ≡ transcript_of (script_machine first script).last (sent calls)

-- The sessions of a script were served from the store that the files hold: where that stands for a world, the lines are those of the
-- rounds that play the script from this world, and the files hold what stands for the world after it, and are at rest.
abbrev pub ServesScript : {D : Type 0} → Told D → List Event → List ℕ → Files D → Files D → Type 0
ServesScript told script lines files files' =
    IfWorld told files (λ first. IsPlayedOut first script lines × SettledFor told files' (script_machine first script).shared.world) × CountsNoFault told files files'

-- how a run ends that serves a script's sessions, and what it leaves of the files
abbrev pub ServesEnd : {D : Type 0} → Told D → List Event → List ℕ → Files D → Files D → Status → Type 0
ServesEnd told script lines files files' Done = ServesScript told script lines files files'
ServesEnd told script lines files files' StoreFault = (lines ≡ []) × FaultRose told files files'
ServesEnd told script lines files files' NotAStore = (lines ≡ []) × IfRead told files HoldsNone × MakesAllSure told files files' × CountsNoFault told files files'
ServesEnd told script lines files files' Usage = ⊥
ServesEnd told script lines files files' NoMemory = ⊥
ServesEnd told script lines files files' ReadFault = ⊥
ServesEnd told script lines files files' WriteFault = ⊥
ServesEnd told script lines files files' Refused = ⊥
ServesEnd told script lines files files' BadScript = ⊥
ServesEnd told script lines files files' ListenFault = ⊥

abbrev pub EventsEnd : {D : Type 0} → Told D → Result (List Event) ℕ → Files D → Files D → End → Type 0
EventsEnd told (Ok events) files files' end = ServesEnd told events end.lines files files' end.status
EventsEnd told (Err number) files files' end = (end ≡ record { status = BadScript; lines = bad_line number }) × (files' ≡ files)

-- The word `canon`

-- The canonical text of a message that arrives at a moment: of the tree that its bytes are, or of the message that stands for
-- bytes that are none.
abbrev pub canonical : List ℕ → ℕ → List ℕ
canonical text now = print (mail text now).message

-- All words

-- how many bytes a text may have
abbrev pub limit_of : Task → ℕ
limit_of Script = 67108864
limit_of Canon = 33554432

-- how a run ends whose text is too long
abbrev pub end_of_long : Task → End
end_of_long Script = record { status = BadScript; lines = codes "bad script: too long\n" }
end_of_long Canon = record { status = Refused; lines = codes "refused: message too long\n" }

-- how the word `canon` ends, and what it writes
unfoldable pub canon_end : List ℕ → ℕ → End
canon_end text now = if nat_lt (limit_of Canon) (length text) then end_of_long Canon else record { status = Done; lines = canonical text now }

abbrev pub TextEnds : {D : Type 0} → Told D → Bool → Task → List ℕ → ℕ → Files D → Files D → End → Type 0
TextEnds told true task text now files files' end = (end ≡ end_of_long task) × (files' ≡ files)
TextEnds told false Script text now files files' end = EventsEnd told (script_events text) files files' end
TextEnds told false Canon text now files files' end = (end ≡ record { status = Done; lines = canonical text now }) × (files' ≡ files)

-- What a text has a run write and end with, at a moment of the clock, and leave of the files. That it is too long comes first.
unfoldable pub EndsAs : {D : Type 0} → Told D → Task → List ℕ → ℕ → Files D → Files D → End → Type 0
EndsAs told task text now files files' end = TextEnds told (nat_lt (limit_of task) (length text)) task text now files files' end

-- The moment that a run takes of its clock, where its readings tell it. A script has moments of its own, and leaves the clock alone.
abbrev pub TakesMoment : {C : Type 0} → (C → Option (List ℕ)) → Task → ℕ → C → C → Type 0
TakesMoment readings Script now old new = new ≡ old
TakesMoment readings Canon now old new = IsReading now (readings old) (readings new)

-- what is to be written, and how the run ends then
abbrev pub end_of : Answer → End
end_of answer = record { status = answer.status; lines = answer.lines.items }

-- What a text has a run write at the moment that it takes, unless memory is refused.
abbrev pub AnswersAt : {C D E : Type 0} → (C → Option (List ℕ)) → Told D → Task → List ℕ → Result Answer E → C → C → Files D → Files D → Type 0
AnswersAt readings told task text result old new files files' =
    (now : ℕ) × TakesMoment readings task now old new × IfOk result (λ answer. EndsAs told task text now files files' (end_of answer))

-- These bytes were read from the front of what was left, where the source tells it, which it does afterwards as before.
abbrev pub HasRead : List ℕ → Option (List ℕ) → Option (List ℕ) → Type 0
HasRead bytes (Some old) new = IsSomeAnd new (λ rest. old ≡ bytes ++ rest)
HasRead bytes None new = new ≡ None

-- Nothing is left, where the source tells it.
abbrev pub IsAtEnd : Option (List ℕ) → Type 0
IsAtEnd left = IfSome left (λ rest. rest ≡ [])

-- A source was read up to the first byte past a limit, or to its end.
pub record ReadsUpTo (limit : ℕ) (bytes : List ℕ) (old new : Option (List ℕ)) : Type 0 where
  pub taken : HasRead bytes old new
  pub within : length bytes ≤ limit + 1
  pub to_end : length bytes ≤ limit → IsAtEnd new

-- What was read of a source by a call that failed.
pub record ReadsSome (limit : ℕ) (old new : Option (List ℕ)) : Type 0 where
  pub bytes : List ℕ
  pub taken : HasRead bytes old new
  pub within : length bytes ≤ limit

-- What a run reads of its source: at most one byte more than its text may have.
pub record ReadsText (task : Task) (old new : Option (List ℕ)) : Type 0 where
  pub bytes : List ℕ
  pub taken : HasRead bytes old new
  pub within : length bytes ≤ limit_of task + 1
