use Rattle.std.proofs.Common.{ℕ, List, Bor, map}
use Rattle.row_tables.specs.References.{flags_of}
use Rattle.mailbox_core.proofs.Words.{keywords_of_rows}
use Rattle.mailbox_core.proofs.keywords.keywords.Goals as goal

pub returns : goal.returns
returns c =
    keywords_of_rows c.args.tables.now.marks.flag_names c.in_ok-ids.ids.keys (flags_of c.args.mailbox c.args.tables.now.marks.flags) (map (λ (w : Bor (List ℕ)). w.now) c.in_ok-words.words.keys) c.in_ok-own.own
    c.in_ok-words.ensures c.in_ok-own.ensures c.in_ok-ids.ensures
