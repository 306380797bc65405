use Rattle.std.proofs.Common.{List, [], ℕ, subst}
use Rattle.mail_world.specs.Worlds.{no_world}
use Rattle.imap_steps.specs.Stepping.{answered}
use Rattle.imap_steps.specs.Fetching.{fetched, fetch_line}
use Rattle.imap_exec.specs.Answers.{Says}
use Rattle.imap_exec.proofs.FetchReading.{reads_then}
use Rattle.imap_exec.proofs.Saying.{said_behind}
use Rattle.imap_exec.proofs.fetch_lines.tell_fetched.Goals as goal

pub returns-clause-reads : goal.returns-clause-reads
returns-clause-reads g c =
    reads_then g.D.Disk.told c.tell_end.result c.args.store.now c.tell_messages.new.store c.in_ok-tell_messages.ensures.reads
    (c.tell_end.ensures (record { world = no_world; parts = [] })).memory

pub returns-clause-told : goal.returns-clause-told
returns-clause-told g c w stands shared =
    let text = fetched w c.args.selection.now c.args.by_uid c.args.items.now c.args.seen.now c.args.uids.now in
    let line = fetch_line c.args.tag.now c.args.by_uid c.args.gone in
    let said = subst (λ (l : List ℕ). Says c.tell_end.result shared.parts l c.tell_end.new.answer.items (answered shared line)) (c.in_ok-tell_messages.ensures.told w stands) (c.tell_end.ensures shared) in
    (said_behind c.tell_end.result c.args.answer.now.items text line c.tell_end.new.answer.items shared said).tells
