use Rattle.std.proofs.Common.{sym, subst}
use Rattle.header_reader.specs.Places.{IsNextLine}
use Rattle.header_reader.proofs.SearchLemmas.{nothing_left}
use Rattle.header_reader.proofs.PlaceLemmas.{next_first, next_none}
use Rattle.header_reader.proofs.line.next_line.Goals as goal

pub returns-in-Some : goal.returns-in-Some
returns-in-Some c = next_first _ _ _ c.in-Some.ensures

pub returns-in-None : goal.returns-in-None
returns-in-None c =
    let text = c.args.text.now in
    subst (IsNextLine text text) (sym (nothing_left text)) (next_none text c.in-None.ensures)
