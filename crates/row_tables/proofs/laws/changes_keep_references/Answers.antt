use Rattle.row_tables.proofs.Closed.{closed_after, ordered_after}
use Rattle.row_tables.proofs.laws.changes_keep_references.Goals as goal

pub returns-clause-order : goal.returns-clause-order
returns-clause-order c = ordered_after (record { keys = c.keys.ensures.same; users = c.insertion.ensures; mailboxes = c.insertion-2.ensures; messages = c.insertion-3.ensures; mailbox_messages = c.insertion-4.ensures; deleted_messages = c.insertion-5.ensures; flag_names = c.insertion-6.ensures; flags = c.insertion-7.ensures; bodyparts = c.insertion-8.ensures; part_numbers = c.insertion-9.ensures; field_names = c.insertion-10.ensures; header_fields = c.insertion-11.ensures; addresses = c.insertion-12.ensures; address_fields = c.insertion-13.ensures; date_fields = c.insertion-14.ensures; message_ids = c.insertion-15.ensures; unparsed_messages = c.insertion-16.ensures; subscriptions = c.insertion-17.ensures; replaced_mailboxes = record { same = c.row_after_replace.ensures.same; other = c.row_after_replace.ensures.other; order = c.order_after_replace.ensures }; replaced_messages = record { same = c.row_after_replace-2.ensures.same; other = c.row_after_replace-2.ensures.other; order = c.order_after_replace-2.ensures }; removed_mailboxes = c.row_after_remove.ensures.other; removed_messages = c.row_after_remove-2.ensures.other })

pub returns-clause-closed : goal.returns-clause-closed
returns-clause-closed c = closed_after (record { keys = c.keys.ensures.same; users = c.insertion.ensures; mailboxes = c.insertion-2.ensures; messages = c.insertion-3.ensures; mailbox_messages = c.insertion-4.ensures; deleted_messages = c.insertion-5.ensures; flag_names = c.insertion-6.ensures; flags = c.insertion-7.ensures; bodyparts = c.insertion-8.ensures; part_numbers = c.insertion-9.ensures; field_names = c.insertion-10.ensures; header_fields = c.insertion-11.ensures; addresses = c.insertion-12.ensures; address_fields = c.insertion-13.ensures; date_fields = c.insertion-14.ensures; message_ids = c.insertion-15.ensures; unparsed_messages = c.insertion-16.ensures; subscriptions = c.insertion-17.ensures; replaced_mailboxes = record { same = c.row_after_replace.ensures.same; other = c.row_after_replace.ensures.other; order = c.order_after_replace.ensures }; replaced_messages = record { same = c.row_after_replace-2.ensures.same; other = c.row_after_replace-2.ensures.other; order = c.order_after_replace-2.ensures }; removed_mailboxes = c.row_after_remove.ensures.other; removed_messages = c.row_after_remove-2.ensures.other })
