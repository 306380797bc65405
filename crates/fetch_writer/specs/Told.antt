-- Items that are told of a message.
use Rattle.imap_grammar.specs.declared.items.FetchItem.{FetchItem}
use Rattle.imap_grammar.specs.declared.items.FetchItem.TheVariants as item
use Rattle.fetch_writer.specs.declared.asked.ToldItem.{ToldItem}
use Rattle.fetch_writer.specs.declared.asked.ToldItem.TheVariants.{Uid, Flags, Asked}

-- which item it is
abbrev pub item_told : ToldItem → FetchItem
item_told Uid = item.Uid
item_told Flags = item.Flags
item_told (Asked asked) = asked.now
