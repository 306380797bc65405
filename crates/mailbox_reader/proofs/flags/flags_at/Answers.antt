use Rattle.std.proofs.Common.{List, Some, sym, ap, ◌∙◌}
use Rattle.imap_grammar.specs.declared.flags.Flag.{Flag}
use Rattle.mail_stands.specs.Stands.{AreWhole}
use Rattle.mailbox_reader.proofs.FlagsTold.{tells_entry}
use Rattle.mailbox_reader.proofs.flags.flags_at.Goals as goal

pub returns-in_ok-flags : goal.returns-in_ok-flags
returns-in_ok-flags c content w stands =
    let whole : AreWhole c.args.tables.now = record { ordered = c.are_whole.ensures.ordered; closed = c.are_whole.ensures.closed; distinct = c.are_whole.ensures.distinct } in
    ap (λ (l : List Flag). Some l) c.from_vec.ensures
    ∙ tells_entry content c.args.tables.now w c.args.mailbox c.args.uid stands c.keys.ensures.same c.insertion.ensures whole c.in_ok-flags.flags.items c.in_ok-flags.ensures
    (sym c.if-is_there.true ∙ c.is_there.ensures.entry content w stands)
