-- The answers to FETCH (RFC 3501 §7.4.2).
use Rattle.std.specs.Prelude.{ℕ, List, ◌++◌, map, codes, decimal}
use Rattle.imap_writer.specs.declared.fetches.MessageData.{MessageData}
use Rattle.imap_writer.specs.declared.fetches.MessageData.TheVariants.{Uid, Flags, Modseq, Size, InternalDate, Bytes, Absent, Printed}
use Rattle.imap_writer.specs.Texts.{literal}
use Rattle.imap_writer.specs.Flags.{flag_list_of}
use Rattle.imap_writer.specs.Spaced.{spaced}

abbrev pub size_text : ℕ → List ℕ
size_text size = codes "RFC822.SIZE " ++ decimal size

-- An item with its value.
abbrev pub message_data_text : MessageData → List ℕ
message_data_text (Uid uid) = codes "UID " ++ decimal uid
message_data_text (Flags flags recent) = codes "FLAGS " ++ flag_list_of flags.now recent
message_data_text (Modseq modseq) = codes "MODSEQ (" ++ decimal modseq ++ codes ")"
message_data_text (Size size) = size_text size
message_data_text (InternalDate date) = codes "INTERNALDATE \"" ++ date.now ++ codes "\""
message_data_text (Bytes item bytes) = item.now ++ codes " " ++ literal bytes.now
message_data_text (Absent item) = item.now ++ codes " NIL"
message_data_text (Printed item text) = item.now ++ codes " " ++ text.now

-- The line of a message, by its number, with the texts of its items.
abbrev pub message_line : ℕ → List (List ℕ) → List ℕ
message_line n items = codes "* " ++ decimal n ++ codes " FETCH (" ++ spaced items ++ codes ")\r\n"

unfoldable pub fetch_line : ℕ → List MessageData → List ℕ
fetch_line n values = message_line n (map message_data_text values)
