use Rattle.mailbox_core.proofs.Renames.{room_for, short_name, tested}
use Rattle.mailbox_core.proofs.renaming.takes_name.Goals as goal

pub overflow_sub-to : goal.overflow_sub-to
overflow_sub-to c = short_name c.args.to.now c.requires

pub has_mailbox-requires : goal.has_mailbox-requires
has_mailbox-requires c = room_for c.args.to.now c.in-Some.rest.now c.requires c.if-rest-to.false

pub returns : goal.returns
returns c =
    tested c.args.tables.now c.args.owner c.args.from.now c.args.to.now c.as_slice.result.now c.in-Some.rest.now c.args.row.now c.has_mailbox.result c.as_slice.ensures c.in-Some.ensures.0 c.in-Some.ensures.1
    (room_for c.args.to.now c.in-Some.rest.now c.requires c.if-rest-to.false) c.has_mailbox.ensures
