-- What a run does, by what its words ask for.
use Rattle.std.specs.Prelude.{ℕ, ◌≡◌, Option, Some, None}
use Rattle.disk_model.specs.Told.{Told}
use Rattle.disk_model.specs.declared.disk.Files.{Files}
use Rattle.mail_server.specs.declared.status.Status.{Status}
use Rattle.mail_server.specs.declared.status.Status.TheVariants.{Usage}
use Rattle.mail_server.specs.Outside.{Outside, Tells}
use Rattle.mail_server.specs.Run.{code_of}
use Rattle.mail_server.specs.Stores.{MakesStore, ListsTables}
use Rattle.mail_server.specs.Texts.{AnswersText}
use Rattle.mail_server.specs.Users.{AddsUser}
use Rattle.mail_server.specs.Words.{Asked, OfText, Init, Tables, AddUser, Serve}

-- Nothing is read, and the clock is left alone.
abbrev pub LeavesInputs : {S K C : Type 0} → Outside S K C → Outside S K C → Type 0
LeavesInputs old new = (new.source ≡ old.source) × (new.clock ≡ old.clock)

-- Other words are refused, and nothing is done. What `serve` does is all on its links.
abbrev pub Does : {S K C D : Type 0} → Tells S K C → Told D → Option Asked → Status → Outside S K C → Outside S K C → Files D → Files D → Type 0
Does tells told None status old new files files' = (status ≡ Usage) × (new ≡ old) × (files' ≡ files)
Does tells told (Some (OfText task)) status old new files files' = AnswersText tells told task status old new files files'
Does tells told (Some Init) status old new files files' = LeavesInputs old new × MakesStore tells.written tells.write_faults told status old.sink new.sink files files'
Does tells told (Some Tables) status old new files files' = LeavesInputs old new × ListsTables tells.written tells.write_faults told status old.sink new.sink files files'
Does tells told (Some (AddUser name password)) status old new files files' =
    LeavesInputs old new × AddsUser tells.written tells.write_faults told status name password old.sink new.sink files files'
Does tells told (Some (Serve rounds imap lmtp)) status old new files files' = new ≡ old

-- The same with the number that the run ends with: it is that of a status.
abbrev pub EndsRun : {S K C D : Type 0} → Tells S K C → Told D → Option Asked → ℕ → Outside S K C → Outside S K C → Files D → Files D → Type 0
EndsRun tells told asked code old new files files' = (status : Status) × (code ≡ code_of status) × Does tells told asked status old new files files'
