use Rattle.std.proofs.Common.{◌≡◌, ◌++◌, ℕ, List, arith, get_or, length, take, append_assoc, sym, ap, ◌∙◌}
use Rattle.std.proofs.Math.Seq.{take-length}
use Rattle.std.proofs.lemmas.List.{append-nil}
use Rattle.imap_steps.specs.Storing.{entry_of, told, told_if}
use Rattle.imap_exec.proofs.StoreLines.{told_more, told_none}
use Rattle.imap_exec.proofs.store_lines.tell_messages.Goals as goal

pub loop-uid-init : goal.loop-uid-init
loop-uid-init c content w stands =
    let before = c.args.answer.now.items in
    sym (ap (λ (l : List ℕ). before ++ l) (told_none w c.args.selection.now c.args.by_uid) ∙ append-nil before)

pub loop-uid-preserved : goal.loop-uid-preserved
loop-uid-preserved c content w stands =
    let chosen = c.args.selection.now in
    let by_uid = c.args.by_uid in
    let uids = c.args.uids.now in
    let k = c.loop-uid.uid-index in
    let before = c.args.answer.now.items in
    let line = told_if by_uid chosen.view (entry_of w chosen.mailbox (get_or uids k 0)) in
    c.in_ok-tell_message.ensures content w stands
    ∙ (ap (λ (l : List ℕ). l ++ line) (c.loop-uid.invariant content w stands)
    ∙ (append_assoc before (told w chosen by_uid (take k uids)) line
    ∙ ap (λ (l : List ℕ). before ++ l) (sym (told_more w chosen by_uid uids k c.loop-uid-test.true))))

pub returns : goal.returns
returns c content w stands =
    let uids = c.args.uids.now in
    let told_so = λ (l : List ℕ). told w c.args.selection.now c.args.by_uid l in
    let all : c.loop-uid.uid-index ≡ length uids = omega arith in
    c.loop-uid.invariant content w stands ∙ ap (λ (l : List ℕ). c.args.answer.now.items ++ told_so l) (ap (λ (n : ℕ). take n uids) all ∙ take-length uids)
