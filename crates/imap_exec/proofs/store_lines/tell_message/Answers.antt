use Rattle.std.proofs.Common.{◌≡◌, ◌++◌, List, ℕ, OnOk, sym, ap, subst, ◌∙◌}
use Rattle.std.proofs.lemmas.List.{append-nil}
use Rattle.imap_grammar.specs.declared.flags.Flag.{Flag}
use Rattle.imap_exec.specs.Storing.{flags_line}
use Rattle.imap_exec.proofs.StoreLines.{told_absent, told_of}
use Rattle.imap_exec.proofs.store_lines.tell_message.Goals as goal

pub returns-in-Some : goal.returns-in-Some
returns-in-Some c content w stands =
    let chosen = c.args.selection.now in
    let line = ap (λ (l : List Flag). flags_line c.args.by_uid chosen.view c.args.uid l) c.as_slice.ensures
    ∙ told_of w chosen.mailbox c.args.by_uid chosen.view c.args.uid c.in-Some.flags (sym c.in-Some.is ∙ c.in_ok-flags.ensures content w stands) in
    subst (λ (l : List ℕ). OnOk c.tell_flags.result (c.tell_flags.new.answer.items ≡ c.args.answer.now.items ++ l)) line c.tell_flags.ensures

pub returns-in-None : goal.returns-in-None
returns-in-None c content w stands =
    let chosen = c.args.selection.now in
    let before = c.args.answer.now.items in
    sym (ap (λ (l : List ℕ). before ++ l) (told_absent w chosen.mailbox c.args.by_uid chosen.view c.args.uid (sym c.in-None.is ∙ c.in_ok-flags.ensures content w stands)) ∙ append-nil before)
