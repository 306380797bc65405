use Rattle.std.proofs.Common.{◌≡◌, ℕ, ◌++◌, List, sym, ap, ◌∙◌}
use Rattle.std.proofs.lemmas.Result.{on_ok_weaker}
use Rattle.mailbox_names.specs.declared.listed.Listed.{Listed}
use Rattle.mailbox_names.specs.Listing.{listed}
use Rattle.mail_world.specs.Listing.{names_of}
use Rattle.imap_steps.specs.Listing.{list_lines, told_names}
use Rattle.imap_exec.proofs.Listing.{none_long, some_long, told_some}
use Rattle.imap_exec.proofs.list.tell_names.Goals as goal

pub returns-then-is_empty : goal.returns-then-is_empty
returns-then-is_empty g c w stands =
    let names = names_of c.args.subscribed c.args.user w in
    on_ok_weaker c.tell_separator.result (λ e. e ∙ ap (λ (l : List ℕ). c.args.answer.now.items ++ list_lines c.args.subscribed (told_names c.args.reference.now l names)) (sym (none_long c.args.name.now (sym c.is_empty.ensures ∙ c.if-is_empty.true))))
    c.tell_separator.ensures

pub returns-in_ok-all : goal.returns-in_ok-all
returns-in_ok-all g c w stands =
    let names = names_of c.args.subscribed c.args.user w in
    let all : c.deref-else-is_empty.result.now ≡ told_names c.args.reference.now c.args.name.now names =
    c.deref-else-is_empty.ensures.value
    ∙ (c.in_ok-all.ensures.world w stands
    ∙ (ap (λ (p : List ℕ). listed p names) (c.deref.ensures.value ∙ c.in_ok-pattern.ensures) ∙ sym (told_some c.args.reference.now c.args.name.now names (some_long c.args.name.now (sym c.is_empty.ensures ∙ c.if-is_empty.false))))) in
    on_ok_weaker c.tell_all.result (λ e. e ∙ ap (λ (l : List Listed). c.args.answer.now.items ++ list_lines c.args.subscribed l) all) c.tell_all.ensures
