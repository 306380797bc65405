use Rattle.std.proofs.Common.{◌≡◌, Result, Err, IsOk, rules, refl, sym, ap, subst, ◌∙◌}
use Rattle.std.specs.List.Sorted.{IsStrictlySortedBy}
use Rattle.row_store.specs.declared.faults.StoreFault.{StoreFault}
use Rattle.mailbox_core.specs.declared.faults.MailFault.{MailFault}
use Rattle.mail_world.specs.Applying.{refused}
use Rattle.imap_steps.specs.Fetching.{seeing, seen_unless}
use Rattle.imap_exec.proofs.FetchServed.{executes_failed, executes_plain, executes_seen, executes_unseen, fault_given, fault_told, no_failure, no_starving, none_long, not_made_so, same_store, some_long, unless_some}
use Rattle.imap_exec.proofs.fetch.serve_seen.Goals as goal

pub returns-then-is_empty : goal.returns-then-is_empty
returns-then-is_empty g c parts ready gone_is =
    let unseen = c.args.unseen.now in
    let mailbox = c.args.selection.now.mailbox in
    executes_plain g.D.Disk.told c.tell_fetched.result c.args.answer.now.items c.tell_fetched.new.answer.items c.args.tag.now c.args.selection.now c.args.by_uid c.args.items.now c.args.uids.now c.args.gone parts
    c.args.store.now c.tell_fetched.new.store c.tell_fetched.ensures.reads ready gone_is c.tell_fetched.ensures.told
    (λ world. seen_unless unseen (refused world (seeing mailbox unseen)))
    (λ world stands. unless_some unseen (refused world (seeing mailbox unseen)) (none_long unseen (sym c.is_empty.ensures ∙ c.if-is_empty.true)))

pub returns-in-Ok : goal.returns-in-Ok
returns-in-Ok g c parts ready gone_is =
    let call = c.store_flags-made in
    executes_seen g.D.Disk.told c.tell_fetched-in-Ok.result c.args.answer.now.items c.tell_fetched-in-Ok.new.answer.items c.args.tag.now c.args.selection.now c.args.by_uid c.args.items.now c.args.uids.now c.args.gone parts
    call.result c.args.unseen.now c.args.store.now call.new.store call.ensures.behaves ready call.ensures.makes
    c.tell_fetched-in-Ok.new.store (subst (λ (r : Result (Unit {0}) MailFault). IsOk r) (sym c.in-Ok.is) refl) (some_long c.args.unseen.now (sym c.is_empty.ensures ∙ c.if-is_empty.false)) c.tell_fetched-in-Ok.ensures.reads gone_is c.tell_fetched-in-Ok.ensures.told

pub tell_fetched-requires-in-Err-clause-usable : goal.tell_fetched-requires-in-Err-clause-usable
tell_fetched-requires-in-Err-clause-usable g c =
    let call = c.store_flags-made in
    let fits = subst (λ (r : Result _ StoreFault). IsOk r) (sym (sym c.refusal_of.ensures ∙ c.in_ok-refusal_of-in-Err.was)) refl in
    cc (same_store g.D.Disk.told call.result c.args.store.now call.new.store call.ensures.behaves c.in-Err.fault c.in-Err.is fits, c.requires.usable)

pub tell_fetched-requires-in-Err-clause-seen : goal.tell_fetched-requires-in-Err-clause-seen
unfolding IsStrictlySortedBy
tell_fetched-requires-in-Err-clause-seen g c = tt

pub returns-in_ok-refusal_of-in-Err : goal.returns-in_ok-refusal_of-in-Err
returns-in_ok-refusal_of-in-Err g c parts ready gone_is =
    let call = c.store_flags-made in
    let fits = subst (λ (r : Result _ StoreFault). IsOk r) (sym (sym c.refusal_of.ensures ∙ c.in_ok-refusal_of-in-Err.was)) refl in
    executes_unseen g.D.Disk.told c.tell_fetched-in-Err.result c.args.answer.now.items c.tell_fetched-in-Err.new.answer.items c.args.tag.now c.args.selection.now c.args.by_uid c.args.items.now c.args.uids.now c.args.gone parts
    call.result c.args.unseen.now c.args.store.now call.new.store call.ensures.behaves ready call.ensures.makes
    c.tell_fetched-in-Err.new.store (not_made_so c.in-Err.fault call.result c.in-Err.is) (no_failure c.in-Err.fault call.result c.in-Err.is fits) (no_starving c.in-Err.fault call.result c.in-Err.is fits)
    c.tell_fetched-in-Err.ensures.reads gone_is c.tell_fetched-in-Err.ensures.told

pub returns-in_err-refusal_of-in-Err : goal.returns-in_err-refusal_of-in-Err
returns-in_err-refusal_of-in-Err g c parts ready gone_is =
    let call = c.store_flags-made in
    let is : c.from_residual.result ≡ Err c.in_err-refusal_of-in-Err.field-0.0 = search rules in
    let line = sym c.refusal_of.ensures ∙ c.in_err-refusal_of-in-Err.was in
    executes_failed g.D.Disk.told c.from_residual.result c.args.answer.now.items c.args.answer.now.items c.args.tag.now c.args.selection.now c.args.by_uid c.args.items.now c.args.uids.now c.args.gone parts
    call.result c.args.unseen.now c.args.store.now call.new.store call.ensures.behaves ready call.ensures.makes
    c.in_err-refusal_of-in-Err.field-0.0 is
    (λ e. c.in-Err.is ∙ ap Err (fault_told c.in-Err.fault c.in_err-refusal_of-in-Err.field-0.0 line (cc (sym is ∙ e))))
    (λ e. is ∙ ap Err (fault_given c.in-Err.fault c.in_err-refusal_of-in-Err.field-0.0 line (cc (sym c.in-Err.is ∙ e))))
    (some_long c.args.unseen.now (sym c.is_empty.ensures ∙ c.if-is_empty.false))
