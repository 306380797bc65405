-- The items of STATUS as they are written (RFC 3501 §9, status-att).
use Rattle.std.specs.Prelude.{ℕ, List, codes}
use Rattle.imap_grammar.specs.declared.items.StatusItem.{StatusItem}
use Rattle.imap_grammar.specs.declared.items.StatusItem.TheVariants.{Messages, Recent, Uidnext, Uidvalidity, Unseen, Highest}

abbrev pub status_text : StatusItem → List ℕ
status_text Messages = codes "MESSAGES"
status_text Recent = codes "RECENT"
status_text Uidnext = codes "UIDNEXT"
status_text Uidvalidity = codes "UIDVALIDITY"
status_text Unseen = codes "UNSEEN"
status_text Highest = codes "HIGHESTMODSEQ"
