use Rattle.std.proofs.Common.{◌≡◌, refl, sym, subst, ap}
use Rattle.std.specs.Prelude.{Result, IfOk, Ok, Err, ℕ, List}
use Rattle.port_model.specs.declared.events.Event.{Event}
use Rattle.mail_server.specs.declared.answer.Answer.{Answer}
use Rattle.mail_server.specs.declared.status.Status.TheVariants.{BadScript}
use Rattle.mail_server.specs.declared.words.Task.TheVariants.{Script}
use Rattle.mail_server.specs.Run.{End, EndsAs, EventsEnd, bad_line, end_of, end_of_long}
use Rattle.mail_server.proofs.Answering.{left-always, script_answers, script_leaves}
use Rattle.mail_server.proofs.Readings.{ends-long, ends-short}
use Rattle.mail_server.proofs.scripted.answer_script.Goals as goal

-- what an answer has an end do, where there is one
answer_ends : {E : Type 0} (result : Result Answer E) (P Q : End → Type 0) → ((end : End) → P end → Q end) → IfOk result (λ answer. P (end_of answer)) → IfOk result (λ answer. Q (end_of answer))
answer_ends (Ok answer) P Q implies p = implies (end_of answer) p
answer_ends (Err error) P Q implies p = tt

pub returns-then-text-gt-MOST_BYTES-clause-answers : goal.returns-then-text-gt-MOST_BYTES-clause-answers
returns-then-text-gt-MOST_BYTES-clause-answers g c now =
    answer_ends c.one_line-line.result (λ end. end ≡ end_of_long Script) (EndsAs g.D.Disk.told Script c.args.text.now now c.args.files c.args.files)
    (λ end. ends-long g.D.Disk.told Script c.args.text.now now c.args.files end c.if-text-gt-MOST_BYTES.true) c.one_line-line.ensures

pub returns-then-text-gt-MOST_BYTES-clause-leaves : goal.returns-then-text-gt-MOST_BYTES-clause-leaves
returns-then-text-gt-MOST_BYTES-clause-leaves g c = left-always g.D.Disk.told Script c.args.text.now c.args.files

pub returns-in-Ok-clause-answers : goal.returns-in-Ok-clause-answers
returns-in-Ok-clause-answers g c now =
    script_answers g.D.Disk.told c.args.text.now c.in-Ok.events.items now c.args.files c.serve_files.result.1 c.serve_files.result.0 c.in-Ok.ensures.events c.if-text-gt-MOST_BYTES.false c.serve_files.ensures

pub returns-in-Ok-clause-leaves : goal.returns-in-Ok-clause-leaves
returns-in-Ok-clause-leaves g c = script_leaves g.D.Disk.told c.args.text.now c.in-Ok.events.items c.args.files c.serve_files.result.1 c.serve_files.result.0 c.in-Ok.ensures.events c.serve_files.ensures

pub returns-in-Err-BadLine-clause-answers : goal.returns-in-Err-BadLine-clause-answers
returns-in-Err-BadLine-clause-answers g c now =
    answer_ends c.name_bad_line.result (λ end. end ≡ record { status = BadScript; lines = bad_line c.in-Err-BadLine.number }) (EndsAs g.D.Disk.told Script c.args.text.now now c.args.files c.args.files)
    (λ end is. ends-short g.D.Disk.told Script c.args.text.now now c.args.files c.args.files end c.if-text-gt-MOST_BYTES.false
    (subst (λ (said : Result (List Event) ℕ). EventsEnd g.D.Disk.told said c.args.files c.args.files end) (sym (c.in-Err-BadLine.ensures.bad_line c.in-Err-BadLine.number (ap Err c.in-Err-BadLine.field-0-is))) (is, refl))) c.name_bad_line.ensures

pub returns-in-Err-BadLine-clause-leaves : goal.returns-in-Err-BadLine-clause-leaves
returns-in-Err-BadLine-clause-leaves g c = left-always g.D.Disk.told Script c.args.text.now c.args.files

pub returns-in-Err-NoMemory-clause-leaves : goal.returns-in-Err-NoMemory-clause-leaves
returns-in-Err-NoMemory-clause-leaves g c = left-always g.D.Disk.told Script c.args.text.now c.args.files

pub returns-in-Ok-clause-quiet : goal.returns-in-Ok-clause-quiet
returns-in-Ok-clause-quiet g c = c.serve_files.ensures.quiet
