-- What the words do that read a text: `script` and `canon`.
use Rattle.std.specs.Prelude.{ℕ, ◌≡◌, ◌⊎◌, List, [], Option, Some, None, Result, Ok, Err, IfSome}
use Rattle.fault_counts.specs.Rose.{Rose}
use Rattle.disk_model.specs.Told.{Told}
use Rattle.disk_model.specs.declared.disk.Files.{Files}
use Rattle.port_model.specs.declared.events.Event.{Event}
use Rattle.port_model.specs.Script.{script_events}
use Rattle.row_store.specs.ThreeFiles.{CountsNoFault}
use Rattle.imap_steps.specs.Stepping.{World}
use Rattle.mail_model.specs.Machine.{Made}
use Rattle.mail_server.specs.WorldFiles.{LeavesChanges}
use Rattle.mail_server.specs.Keeping.{KeepsText}
use Rattle.mail_server.specs.Script.{script_machine}
use Rattle.mail_server.specs.declared.status.Status.{Status}
use Rattle.mail_server.specs.declared.status.Status.TheVariants.{Done, Usage, NoMemory, ReadFault, WriteFault, StoreFault, NotAStore, Refused, BadScript, ListenFault}
use Rattle.mail_server.specs.declared.words.Task.{Task}
use Rattle.mail_server.specs.declared.words.Task.TheVariants.{Script, Canon}
use Rattle.mail_server.specs.Outside.{Outside, Tells, WritesAll, StopsWriting}
use Rattle.mail_server.specs.Run.{TakesMoment, End, ReadsText, ReadsUpTo, IsAtEnd, EndsAs, limit_of}

-- The text is all that a source has left, where it tells it.
abbrev pub IsText : List ℕ → Option (List ℕ) → Type 0
IsText text None = Unit {0}
IsText text (Some left) = left ≡ text

-- A text was read whole, or to the first byte past the longest, and no read failed. The moment was taken then.
pub record TakesText {S K C : Type 0} (tells : Tells S K C) (task : Task) (text : List ℕ) (now : ℕ) (old new : Outside S K C) : Type 0 where
  pub its : IsText text (tells.left old.source)
  pub read : (bytes : List ℕ) × ReadsUpTo (limit_of task) bytes (tells.left old.source) (tells.left new.source)
  pub quiet : tells.read_faults new.source ≡ tells.read_faults old.source
  pub moment : TakesMoment tells.readings task now old.clock new.clock

-- The run ended as the text has it, and all was written that the text has it write.
pub record Answers {S K C D : Type 0} (tells : Tells S K C) (told : Told D) (task : Task) (status : Status) (old new : Outside S K C) (files files' : Files D) : Type 0 where
  pub text : List ℕ
  pub now : ℕ
  pub end : End
  pub takes : TakesText tells task text now old new
  pub said : EndsAs told task text now files files' end
  pub ends : status ≡ end.status
  pub writes : WritesAll tells.written tells.write_faults end.lines old.sink new.sink

-- A write failed of what the text has the run write.
pub record StopsAnswering {S K C D : Type 0} (tells : Tells S K C) (told : Told D) (task : Task) (old new : Outside S K C) (files files' : Files D) : Type 0 where
  pub text : List ℕ
  pub now : ℕ
  pub end : End
  pub takes : TakesText tells task text now old new
  pub said : EndsAs told task text now files files' end
  pub stops : StopsWriting tells.written tells.write_faults end.lines old.sink new.sink

-- A read failed. Nothing was written, and the clock was left alone.
pub record StopsReading {S K C : Type 0} (tells : Tells S K C) (old new : Outside S K C) : Type 0 where
  pub rose : Rose (tells.read_faults old.source) (tells.read_faults new.source)
  pub unwritten : new.sink ≡ old.sink
  pub unread : new.clock ≡ old.clock

-- Memory was refused. No read failed, and nothing was written.
pub record WantsMemory {S K C : Type 0} (tells : Tells S K C) (task : Task) (old new : Outside S K C) : Type 0 where
  pub quiet : tells.read_faults new.source ≡ tells.read_faults old.source
  pub unwritten : new.sink ≡ old.sink
  pub clock : (new.clock ≡ old.clock) ⊎ ((now : ℕ) × TakesMoment tells.readings task now old.clock new.clock)

-- How the word `script` ends: each status that it can end with, with its cause and what it leaves.
abbrev pub ScriptEnds : {S K C D : Type 0} → Tells S K C → Told D → Status → Outside S K C → Outside S K C → Files D → Files D → Type 0
ScriptEnds tells told Done old new files files' = Answers tells told Script Done old new files files' × IsAtEnd (tells.left new.source)
ScriptEnds tells told BadScript old new files files' = Answers tells told Script BadScript old new files files'
ScriptEnds tells told NotAStore old new files files' = Answers tells told Script NotAStore old new files files'
ScriptEnds tells told StoreFault old new files files' = Answers tells told Script StoreFault old new files files'
ScriptEnds tells told NoMemory old new files files' = WantsMemory tells Script old new × CountsNoFault told files files'
ScriptEnds tells told ReadFault old new files files' = StopsReading tells old new × (files' ≡ files)
ScriptEnds tells told WriteFault old new files files' = StopsAnswering tells told Script old new files files'
ScriptEnds tells told Usage old new files files' = ⊥
ScriptEnds tells told Refused old new files files' = ⊥
ScriptEnds tells told ListenFault old new files files' = ⊥

-- the changes that what a text says makes from a world, the newest first; none where it is no script
abbrev pub changes_in : Result (List Event) ℕ → World → List Made
changes_in (Ok events) first = (script_machine first events).changes
changes_in (Err number) first = []

abbrev pub changes_of : List ℕ → World → List Made
changes_of text = changes_in (script_events text)

-- The word `script`: it serves the sessions of the script that its source has, from the store that the files hold.
pub record RunsScript {S K C D : Type 0} (tells : Tells S K C) (told : Told D) (status : Status) (old new : Outside S K C) (files files' : Files D) : Type 0 where
  pub ends : ScriptEnds tells told status old new files files'
  -- However it ends, the source is read no further than the first byte past the longest script, and the clock is left alone.
  pub reads : ReadsText Script (tells.left old.source) (tells.left new.source)
  pub clock : new.clock ≡ old.clock
  -- However it ends, what a crash leaves of the files stands for the world after some of the script's changes.
  pub leaves : IfSome (tells.left old.source) (λ text. LeavesChanges told (changes_of text) files files')
  -- However it ends, every change that was handed out by then is among those.
  pub keeps : IfSome (tells.left old.source) (λ text. KeepsText told text files files')

-- How the word `canon` ends.
abbrev pub CanonEnds : {S K C D : Type 0} → Tells S K C → Told D → Status → Outside S K C → Outside S K C → Files D → Files D → Type 0
CanonEnds tells told Done old new files files' = Answers tells told Canon Done old new files files' × IsAtEnd (tells.left new.source)
CanonEnds tells told Refused old new files files' = Answers tells told Canon Refused old new files files'
CanonEnds tells told NoMemory old new files files' = WantsMemory tells Canon old new
CanonEnds tells told ReadFault old new files files' = StopsReading tells old new
CanonEnds tells told WriteFault old new files files' = StopsAnswering tells told Canon old new files files'
CanonEnds tells told Usage old new files files' = ⊥
CanonEnds tells told StoreFault old new files files' = ⊥
CanonEnds tells told NotAStore old new files files' = ⊥
CanonEnds tells told BadScript old new files files' = ⊥
CanonEnds tells told ListenFault old new files files' = ⊥

-- The word `canon`: it writes the canonical text of the message that its source has.
pub record WritesCanonical {S K C D : Type 0} (tells : Tells S K C) (told : Told D) (status : Status) (old new : Outside S K C) (files files' : Files D) : Type 0 where
  pub ends : CanonEnds tells told status old new files files'
  -- However it ends, the source is read no further than the first byte past the longest message, and no file is touched.
  pub reads : ReadsText Canon (tells.left old.source) (tells.left new.source)
  pub untouched : files' ≡ files

-- what each of the two does
abbrev pub AnswersText : {S K C D : Type 0} → Tells S K C → Told D → Task → Status → Outside S K C → Outside S K C → Files D → Files D → Type 0
AnswersText tells told Script status old new files files' = RunsScript tells told status old new files files'
AnswersText tells told Canon status old new files files' = WritesCanonical tells told status old new files files'

-- what a text leaves of the files that it is answered from
abbrev pub LeavesText : {D : Type 0} → Told D → Task → List ℕ → Files D → Files D → Type 0
LeavesText told Script text files files' = LeavesChanges told (changes_of text) files files' × KeepsText told text files files'
LeavesText told Canon text files files' = files' ≡ files
