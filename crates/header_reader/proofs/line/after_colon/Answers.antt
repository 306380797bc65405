use Rattle.std.proofs.Common.{◌+◌, ◌∙◌}
use Rattle.std.proofs.lemmas.List.{take_rest}
use Rattle.header_reader.proofs.SearchLemmas.{colon_found, no_colon, nothing_left}
use Rattle.header_reader.proofs.line.after_colon.Goals as goal

pub returns-in-Some : goal.returns-in-Some
returns-in-Some c = take_rest c.args.line.now (c.in-Some.at + 1) ∙ colon_found c.args.line.now c.in-Some.at c.in-Some.ensures

pub returns-in-None : goal.returns-in-None
returns-in-None c = nothing_left c.args.line.now ∙ no_colon c.args.line.now c.in-None.ensures
