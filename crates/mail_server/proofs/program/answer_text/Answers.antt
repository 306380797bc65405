use Rattle.std.proofs.Common.{◌≡◌, ◌<◌, refl, sym, subst, length, List, ℕ}
use Rattle.std.specs.Prelude.{Result, Option}
use Rattle.std.specs.declared.alloc.AllocError.{AllocError}
use Rattle.disk_model.specs.Told.{Told}
use Rattle.disk_model.specs.declared.disk.Files.{Files}
use Rattle.mail_server.specs.declared.answer.Answer.{Answer}
use Rattle.mail_server.specs.declared.words.Task.{Task}
use Rattle.mail_server.specs.declared.words.Task.TheVariants.{Script, Canon}
use Rattle.mail_server.specs.Run.{AnswersAt, limit_of}
use Rattle.mail_server.specs.Texts.{LeavesText}
use Rattle.mail_server.proofs.Answering.{canon-answers, left-always}
use Rattle.mail_server.proofs.program.answer_text.Goals as goal

moment : {C D : Type 0} (readings : C → Option (List ℕ)) (told : Told D) (task other : Task) (text : List ℕ) (old new : C) (result : Result Answer AllocError) (files files' : Files D) → task ≡ other
    → AnswersAt readings told other text result old new files files' → AnswersAt readings told task text result old new files files'
moment readings told task other text old new result files files' is at = subst (λ (t : Task). AnswersAt readings told t text result old new files files') (sym is) at

pub returns-in-Script-clause-answers : goal.returns-in-Script-clause-answers
returns-in-Script-clause-answers g c =
    moment g.C.Clock.readings g.D.Disk.told c.args.task Script c.args.text.now c.args.clock.now c.args.clock.now c.answer_script.result.0 c.args.files c.answer_script.result.1 c.in-Script.is
    (0, refl, c.answer_script.ensures.answers 0)

pub returns-in-Script-clause-leaves : goal.returns-in-Script-clause-leaves
returns-in-Script-clause-leaves g c =
    subst (λ (t : Task). LeavesText g.D.Disk.told t c.args.text.now c.args.files c.answer_script.result.1) (sym c.in-Script.is) c.answer_script.ensures.leaves

pub returns-in-Script-clause-long : goal.returns-in-Script-clause-long
returns-in-Script-clause-long g c =
    subst (λ (t : Task). limit_of t < length c.args.text.now → c.answer_script.result.1 ≡ c.args.files) (sym c.in-Script.is) c.answer_script.ensures.long

pub returns-in-Canon-clause-answers : goal.returns-in-Canon-clause-answers
returns-in-Canon-clause-answers g c =
    moment g.C.Clock.readings g.D.Disk.told c.args.task Canon c.args.text.now c.args.clock.now c.now-now.new.self c.answer_message.result c.args.files c.args.files c.in-Canon.is
    (c.now-now.result, c.now-now.ensures, canon-answers g.D.Disk.told c.args.text.now c.now-now.result c.args.files c.answer_message.result c.answer_message.ensures)

pub returns-in-Canon-clause-leaves : goal.returns-in-Canon-clause-leaves
returns-in-Canon-clause-leaves g c = left-always g.D.Disk.told c.args.task c.args.text.now c.args.files
