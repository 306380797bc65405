-- A run over a text ends as the table of its word has it.
use Rattle.std.proofs.Common.{◌≡◌, ℕ, ◌+◌, ◌<◌, ◌≤◌, Bool, true, false, nat_lt, nat_le, List, ◌∷◌, [], length, refl, sym, ◌∙◌, subst, inl, inr, arith}
use Rattle.std.specs.Prelude.{◌⊎◌, Option, Some, None, Result, Ok, Err, IfOk, IfSome, IsErr, MatchResult}
use Rattle.std.proofs.lemmas.Bool.Decides.{nat_tests}
use Rattle.std.specs.Option.{option_map}
use Rattle.fault_counts.specs.Rose.{Rose}
use Rattle.disk_model.specs.Told.{Told}
use Rattle.disk_model.specs.declared.disk.Files.{Files}
use Rattle.port_model.specs.declared.events.Event.{Event}
use Rattle.port_model.specs.Script.{script_events}
use Rattle.mail_server.specs.declared.answer.Answer.{Answer}
use Rattle.mail_server.specs.declared.status.Status.{Status}
use Rattle.mail_server.specs.declared.status.Status.TheVariants.{Done, Usage, NoMemory, ReadFault, WriteFault, StoreFault, NotAStore, Refused, BadScript, ListenFault}
use Rattle.mail_server.specs.declared.words.Command.{Command}
use Rattle.mail_server.specs.Commands.{meaning}
use Rattle.mail_server.specs.Words.{Asked}
use Rattle.mail_server.specs.declared.words.Task.{Task}
use Rattle.mail_server.specs.declared.words.Task.TheVariants.{Script, Canon}
use Rattle.mail_server.specs.Does.{EndsRun}
use Rattle.mail_server.specs.Outside.{Outside, Tells, EndsWriting}
use Rattle.mail_server.specs.Run.{End, EndsAs, EventsEnd, TextEnds, TakesMoment, AnswersAt, ReadsUpTo, ReadsSome, ReadsText, IsAtEnd, code_of, limit_of, end_of, end_of_long}
use Rattle.mail_server.specs.Texts.{IsText, TakesText, Answers, StopsAnswering, StopsReading, WantsMemory, ScriptEnds, CanonEnds, AnswersText}
use Rattle.imap_steps.specs.Stepping.{World}
use Rattle.mail_model.specs.Machine.{Made}
use Rattle.mailbox_core.specs.Left.{HoldsWorld, Left}
use Rattle.row_store.specs.ThreeFiles.{CountsNoFault, LogMoments}
use Rattle.mail_rounds.specs.Crashes.{worlds_since}
use Rattle.mail_server.specs.Run.{ServesEnd, canon_end}
use Rattle.mail_server.specs.WorldFiles.{LeavesChanges}
use Rattle.mail_server.specs.Texts.{LeavesText, changes_in, changes_of}
use Rattle.mail_server.specs.Serving.{ServesFiles}
use Rattle.mail_server.proofs.StoreFiles.{always-read}
use Rattle.mail_server.specs.Keeping.{KeepsSent, KeepsText}
use Rattle.mail_server.proofs.Crashing.{left_since}
use Rattle.mail_server.proofs.Handed.{text_keeps}
use Rattle.mail_server.proofs.Readings.{canon-ends, ends-read, ends-short, read-same, short-done}

-- The statuses that texts give

abbrev Fits : Task → Status → Type 0
Fits Script Done = Unit {0}
Fits Script BadScript = Unit {0}
Fits Script NotAStore = Unit {0}
Fits Script StoreFault = Unit {0}
Fits Canon Done = Unit {0}
Fits Canon Refused = Unit {0}
Fits task status = ⊥

serves-fit : {D : Type 0} (told : Told D) (script : List Event) (lines : List ℕ) (files files' : Files D) (status : Status) → ServesEnd told script lines files files' status → Fits Script status
serves-fit told script lines files files' Done ends = tt
serves-fit told script lines files files' StoreFault ends = tt
serves-fit told script lines files files' NotAStore ends = tt
serves-fit told script lines files files' Usage ends = ends
serves-fit told script lines files files' NoMemory ends = ends
serves-fit told script lines files files' ReadFault ends = ends
serves-fit told script lines files files' WriteFault ends = ends
serves-fit told script lines files files' Refused ends = ends
serves-fit told script lines files files' BadScript ends = tt
serves-fit told script lines files files' ListenFault ends = ends

end-fits : {D : Type 0} (told : Told D) (task : Task) (text : List ℕ) (now : ℕ) (files files' : Files D) (end : End) → EndsAs told task text now files files' end → Fits task end.status
unfolding EndsAs
end-fits told task text now files files' end ends = by_length task (nat_lt (limit_of task) (length text)) ends
  where
    at : (task : Task) (end' : End) → end ≡ end' → Fits task end'.status → Fits task end.status
    at task end' is fits = subst (λ (e : End). Fits task e.status) (sym is) fits

    of-events : (said : Result (List Event) ℕ) → EventsEnd told said files files' end → Fits Script end.status
    of-events (Ok events) is = serves-fit told events end.lines files files' end.status is
    of-events (Err number) is = at Script _ is.0 tt

    by_length : (task : Task) (long : Bool) → TextEnds told long task text now files files' end → Fits task end.status
    by_length Script true is = at Script (end_of_long Script) is.0 tt
    by_length Canon true is = at Canon (end_of_long Canon) is.0 tt
    by_length Script false is = of-events (script_events text) is
    by_length Canon false is = at Canon _ is.0 tt

fits : {S K C D : Type 0} (tells : Tells S K C) (told : Told D) (task : Task) (status : Status) (old new : Outside S K C) (files files' : Files D) → Answers tells told task status old new files files' → Fits task status
fits tells told task status old new files files' a = subst (Fits task) (sym a.ends) (end-fits told task a.text a.now files files' a.end a.said)

-- how the word of a task ends
abbrev Ends : {S K C D : Type 0} → Tells S K C → Told D → Task → Status → Outside S K C → Outside S K C → Files D → Files D → Type 0
Ends tells told Script status old new files files' = ScriptEnds tells told status old new files files'
Ends tells told Canon status old new files files' = CanonEnds tells told status old new files files'

answers-end : {S K C D : Type 0} (tells : Tells S K C) (told : Told D) (task : Task) (status : Status) (old new : Outside S K C) (files files' : Files D) (a : Answers tells told task status old new files files')
    → (status ≡ Done → IsAtEnd (tells.left new.source)) → Fits task status → Ends tells told task status old new files files'
answers-end tells told Script Done old new files files' a end f = (a, end refl)
answers-end tells told Script BadScript old new files files' a end f = a
answers-end tells told Script NotAStore old new files files' a end f = a
answers-end tells told Script StoreFault old new files files' a end f = a
answers-end tells told Script Usage old new files files' a end f = f
answers-end tells told Script NoMemory old new files files' a end f = absurd f
answers-end tells told Script ReadFault old new files files' a end f = absurd f
answers-end tells told Script WriteFault old new files files' a end f = absurd f
answers-end tells told Script Refused old new files files' a end f = f
answers-end tells told Script ListenFault old new files files' a end f = f
answers-end tells told Canon Done old new files files' a end f = (a, end refl)
answers-end tells told Canon Refused old new files files' a end f = a
answers-end tells told Canon Usage old new files files' a end f = f
answers-end tells told Canon NoMemory old new files files' a end f = absurd f
answers-end tells told Canon ReadFault old new files files' a end f = absurd f
answers-end tells told Canon WriteFault old new files files' a end f = absurd f
answers-end tells told Canon StoreFault old new files files' a end f = f
answers-end tells told Canon NotAStore old new files files' a end f = f
answers-end tells told Canon BadScript old new files files' a end f = f
answers-end tells told Canon ListenFault old new files files' a end f = f

stops-end : {S K C D : Type 0} (tells : Tells S K C) (told : Told D) (task : Task) (old new : Outside S K C) (files files' : Files D) → StopsAnswering tells told task old new files files'
    → Ends tells told task WriteFault old new files files'
stops-end tells told Script old new files files' stops = stops
stops-end tells told Canon old new files files' stops = stops

reading-end : {S K C D : Type 0} (tells : Tells S K C) (told : Told D) (task : Task) (old new : Outside S K C) (files : Files D) → StopsReading tells old new → Ends tells told task ReadFault old new files files
reading-end tells told Script old new files stops = (stops, refl)
reading-end tells told Canon old new files stops = stops

wants-end : {S K C D : Type 0} (tells : Tells S K C) (told : Told D) (task : Task) (old new : Outside S K C) (files files' : Files D) → WantsMemory tells task old new → CountsNoFault told files files'
    → Ends tells told task NoMemory old new files files'
wants-end tells told Script old new files files' wants quiet = (wants, quiet)
wants-end tells told Canon old new files files' wants quiet = wants

-- The text that a source has, by what was read of it: it ends a run as what was read does.
whole-text : {D : Type 0} (told : Told D) (task : Task) (bytes : List ℕ) (files files' : Files D) (old new : Option (List ℕ)) → ReadsUpTo (limit_of task) bytes old new
    → (text : List ℕ) × IsText text old × ((now : ℕ) (end : End) → EndsAs told task bytes now files files' end → EndsAs told task text now files files' end)
whole-text told task bytes files files' None new reads = (bytes, tt, (λ now end ends. ends))
whole-text told task bytes files files' (Some all) new reads = (all, refl, (λ now end. ends-read told task all bytes now files files' end new reads))

-- Files that are left alone leave what a crash leaves.
same-leaves : {D : Type 0} (told : Told D) (changes : World → List Made) (files : Files D) → LeavesChanges told changes files files
same-leaves told changes files =
    always-read told files (λ bytes. (world : World) → HoldsWorld bytes (world ∷ []) → (since : LogMoments) (earlier : List World) → Left told files since (world ∷ earlier)
    → Left told files since (worlds_since world (changes world) earlier)) (λ bytes world holds since earlier left. left_since told files since world (changes world) earlier left)

same-text : {D : Type 0} (told : Told D) (task : Task) (text : List ℕ) (files files' : Files D) → files' ≡ files → LeavesText told task text files files'
same-text {D} told Script text files files' same = subst (λ (f : Files D). LeavesText told Script text files f) (sym same) (same-leaves told (changes_of text) files, text_keeps told text files)
same-text told Canon text files files' same = same

-- The text that a source has leaves of the files what that does which was read of it.
leaves-left : {D : Type 0} (told : Told D) (task : Task) (bytes : List ℕ) (files files' : Files D) (old new : Option (List ℕ)) → ReadsUpTo (limit_of task) bytes old new
    → (limit_of task < length bytes → files' ≡ files) → LeavesText told task bytes files files' → IfSome old (λ text. LeavesText told task text files files')
leaves-left told task bytes files files' None new reads long leaves = tt
leaves-left told task bytes files files' (Some text) new reads long leaves = by_length (nat_le (length bytes) (limit_of task)) refl
  where
    by_length : (b : Bool) → nat_le (length bytes) (limit_of task) ≡ b → LeavesText told task text files files'
    by_length true is =
        let le : length bytes ≤ limit_of task = grind (arith, nat_tests, is) in
        subst (λ (t : List ℕ). LeavesText told task t files files') (sym (read-same (limit_of task) text bytes new reads le)) leaves
    by_length false is = same-text told task text files files' (long (grind (arith, nat_tests, is)))

of-left : (left : Option (List ℕ)) (P Q : List ℕ → Type 0) → ((text : List ℕ) → P text → Q text) → IfSome left P → IfSome left Q
of-left None P Q each some = tt
of-left (Some text) P Q each some = each text some

always-some : (left : Option (List ℕ)) (P : List ℕ → Type 0) → ((text : List ℕ) → P text) → IfSome left P
always-some None P each = tt
always-some (Some text) P each = each text

pub left-always : {D : Type 0} (told : Told D) (task : Task) (text : List ℕ) (files : Files D) → LeavesText told task text files files
left-always told task text files = same-text told task text files files refl

-- What a script has written ends a run as the table has it, and leaves of the files what its events do.
pub script_answers : {D E : Type 0} (told : Told D) (text : List ℕ) (events : List Event) (now : ℕ) (files files' : Files D) (answer : Result Answer E) → script_events text ≡ Ok events → length text ≤ limit_of Script
    → ServesFiles told events answer files files' → IfOk answer (λ answer. EndsAs told Script text now files files' (end_of answer))
script_answers told text events now files files' (Err error) says short serves = tt
script_answers told text events now files files' (Ok answer) says short serves =
    ends-short told Script text now files files' (end_of answer) short (subst (λ (said : Result (List Event) ℕ). EventsEnd told said files files' (end_of answer)) (sym says) serves.ends)

pub script_leaves : {D E : Type 0} (told : Told D) (text : List ℕ) (events : List Event) (files files' : Files D) (answer : Result Answer E) → script_events text ≡ Ok events
    → ServesFiles told events answer files files' → LeavesText told Script text files files'
script_leaves told text events files files' answer says serves =
    subst (λ (said : Result (List Event) ℕ). LeavesChanges told (changes_in said) files files' × IfOk said (λ script. KeepsSent told script files files')) (sym says) (serves.leaves, serves.keeps)

-- What a message has a run write ends it as the table has it.
pub canon-answers : {D E : Type 0} (told : Told D) (text : List ℕ) (now : ℕ) (files : Files D) (answer : Result Answer E) → IfOk answer (λ answer. end_of answer ≡ canon_end text now)
    → IfOk answer (λ answer. EndsAs told Canon text now files files (end_of answer))
canon-answers told text now files (Ok answer) is = canon-ends told text now files (end_of answer) is
canon-answers told text now files (Err error) is = tt

-- the tables hold for a task with what is kept however it ends
of-task : {S K C D : Type 0} (tells : Tells S K C) (told : Told D) (task : Task) (status : Status) (old new : Outside S K C) (files files' : Files D)
    → Ends tells told task status old new files files' → ReadsText task (tells.left old.source) (tells.left new.source) → (task ≡ Script → new.clock ≡ old.clock)
    → IfSome (tells.left old.source) (λ text. LeavesText told task text files files') → (task ≡ Canon → files' ≡ files)
    → AnswersText tells told task status old new files files'
of-task tells told Script status old new files files' ends reads clock leaves same =
    record { ends = ends; reads = reads; clock = clock refl; leaves = of-left (tells.left old.source) (λ text. LeavesText told Script text files files') (λ text. LeavesChanges told (changes_of text) files files') (λ text both. both.0) leaves; keeps = of-left (tells.left old.source) (λ text. LeavesText told Script text files files') (λ text. KeepsText told text files files') (λ text both. both.1) leaves }
of-task tells told Canon status old new files files' ends reads clock leaves same = record { ends = ends; reads = reads; untouched = same refl }

script-clock : {C : Type 0} (readings : C → Option (List ℕ)) (task : Task) (now : ℕ) (old new : C) → TakesMoment readings task now old new → task ≡ Script → new ≡ old
script-clock readings task now old new moment is = subst (λ (t : Task). TakesMoment readings t now old new) is moment

-- A text was read and answered.
pub answered : {S K C D : Type 0} (tells : Tells S K C) (told : Told D) (task : Task) (limit : ℕ) (bytes text : List ℕ) {E : Type 0} (answer : Result Answer E) (status : Status)
    (old new : Outside S K C) (files files' : Files D) → limit ≡ limit_of task → text ≡ bytes → ReadsUpTo limit bytes (tells.left old.source) (tells.left new.source)
    → tells.read_faults new.source ≡ tells.read_faults old.source → AnswersAt tells.readings told task text answer old.clock new.clock files files'
    → MatchResult answer (λ answer. EndsWriting tells.written tells.write_faults answer.status answer.lines.items status old.sink new.sink) (λ error. (status ≡ NoMemory) × (new.sink ≡ old.sink))
    → LeavesText told task text files files' → (limit_of task < length text → files' ≡ files) → (IsErr answer → CountsNoFault told files files') → (task ≡ Canon → files' ≡ files)
    → AnswersText tells told task status old new files files'
answered {S} {K} {C} {D} tells told task limit bytes text {E} answer status old new files files' bound whole read quiet at writes leaves long unhurt same =
    of-task tells told task status old new files files' (ends answer status at.2 writes unhurt) (record { bytes = bytes; taken = reads.taken; within = reads.within })
    (script-clock tells.readings task at.0 old.clock new.clock at.1)
    (leaves-left told task bytes files files' (tells.left old.source) (tells.left new.source) reads (subst (λ (b : List ℕ). limit_of task < length b → files' ≡ files) whole long)
    (subst (λ (b : List ℕ). LeavesText told task b files files') whole leaves)) same
  where
    reads : ReadsUpTo (limit_of task) bytes (tells.left old.source) (tells.left new.source)
    reads = subst (λ (n : ℕ). ReadsUpTo n bytes (tells.left old.source) (tells.left new.source)) bound read

    all : (all : List ℕ) × IsText all (tells.left old.source) × ((now : ℕ) (end : End) → EndsAs told task bytes now files files' end → EndsAs told task all now files files' end)
    all = whole-text told task bytes files files' (tells.left old.source) (tells.left new.source) reads

    takes : TakesText tells task all.0 at.0 old new
    takes = record { its = all.1; read = (bytes, reads); quiet = quiet; moment = at.1 }

    of-read : (end : End) → EndsAs told task text at.0 files files' end → EndsAs told task bytes at.0 files files' end
    of-read end = subst (λ (b : List ℕ). EndsAs told task b at.0 files files' end) whole

    ends : (answer : Result Answer E) (status : Status) → IfOk answer (λ answer. EndsAs told task text at.0 files files' (end_of answer))
        → MatchResult answer (λ answer. EndsWriting tells.written tells.write_faults answer.status answer.lines.items status old.sink new.sink) (λ error. (status ≡ NoMemory) × (new.sink ≡ old.sink))
        → (IsErr answer → CountsNoFault told files files') → Ends tells told task status old new files files'
    ends (Ok answer) status is (inl done) unhurt =
        let a : Answers tells told task status old new files files' = record {
          text = all.0;
          now = at.0;
          end = end_of answer;
          takes = takes;
          said = all.2 at.0 (end_of answer) (of-read (end_of answer) is);
          ends = done.0;
          writes = done.1;
        } in
        answers-end tells told task status old new files files' a
        (λ e. reads.to_end (short-done told task bytes at.0 files files' (end_of answer) (of-read (end_of answer) is) (sym done.0 ∙ e))) (fits tells told task status old new files files' a)
    ends (Ok answer) status is (inr stops) unhurt =
        subst (λ (s : Status). Ends tells told task s old new files files') (sym stops.0) (stops-end tells told task old new files files' (record {
          text = all.0;
          now = at.0;
          end = end_of answer;
          takes = takes;
          said = all.2 at.0 (end_of answer) (of-read (end_of answer) is);
          stops = stops.1;
        }))
    ends (Err error) status is none unhurt =
        subst (λ (s : Status). Ends tells told task s old new files files') (sym none.0) (wants-end tells told task old new files files' (record { quiet = quiet; unwritten = none.1; clock = inr (at.0, at.1) }) (unhurt refl))

-- A text could not be read.
pub unread : {S K C D : Type 0} (tells : Tells S K C) (told : Told D) (task : Task) (limit : ℕ) (status : Status) (old new : Outside S K C) (files : Files D) → limit ≡ limit_of task
    → ReadsSome (limit + 1) (tells.left old.source) (tells.left new.source) → new.sink ≡ old.sink → new.clock ≡ old.clock
    → ((status ≡ ReadFault) × Rose (tells.read_faults old.source) (tells.read_faults new.source)) ⊎ ((status ≡ NoMemory) × (tells.read_faults new.source ≡ tells.read_faults old.source))
    → AnswersText tells told task status old new files files
unread tells told task limit status old new files bound some unwritten clock how =
    of-task tells told task status old new files files (ends how)
    (record { bytes = some.bytes; taken = some.taken; within = subst (λ (n : ℕ). length some.bytes ≤ n + 1) bound some.within }) (λ is. clock)
    (always-some (tells.left old.source) (λ text. LeavesText told task text files files) (λ text. same-text told task text files files refl)) (λ is. refl)
  where
    ends : ((status ≡ ReadFault) × Rose (tells.read_faults old.source) (tells.read_faults new.source)) ⊎ ((status ≡ NoMemory) × (tells.read_faults new.source ≡ tells.read_faults old.source))
        → Ends tells told task status old new files files
    ends (inl fault) = subst (λ (s : Status). Ends tells told task s old new files files) (sym fault.0) (reading-end tells told task old new files (record { rose = fault.1; unwritten = unwritten; unread = clock }))
    ends (inr none) = subst (λ (s : Status). Ends tells told task s old new files files) (sym none.0) (wants-end tells told task old new files files (record { quiet = none.1; unwritten = unwritten; clock = inl clock }) (refl, refl, refl))

-- Words that are none of the program's do nothing.
pub unasked : {S K C D : Type 0} (tells : Tells S K C) (told : Told D) (asked : Option Asked) (found : Option Command) (code : ℕ) (old : Outside S K C) (files : Files D)
    → option_map meaning found ≡ asked → ((command : Command) → found ≡ Some command → ⊥) → code ≡ code_of Usage → EndsRun tells told asked code old old files files
unasked tells told asked None code old files is none e = subst (λ (o : Option Asked). EndsRun tells told o code old old files files) is (Usage, e, (refl, refl, refl))
unasked tells told asked (Some command) code old files is none e = absurd (none command refl)
