use Rattle.shredder.proofs.laws.row_laws.Goals as goal

pub returns : goal.returns
returns c = record {
  same = c.keys.ensures.same;
  places = c.keys.ensures.places;
  messages = c.insertion.ensures;
  part_numbers = c.insertion-2.ensures;
  header_fields = c.insertion-3.ensures;
  address_fields = c.insertion-4.ensures;
  date_fields = c.insertion-5.ensures;
  message_ids = c.insertion-6.ensures;
  unparsed_messages = c.insertion-7.ensures;
  bodyparts = c.insertion-8.ensures;
  field_names = c.insertion-9.ensures;
  addresses = c.insertion-10.ensures;
  order = c.changes_keep_references.ensures.order;
  closed = c.changes_keep_references.ensures.closed;
}
