use Rattle.mime_reader.proofs.CutLemmas.{parts_left}
use Rattle.mime_reader.proofs.bodies.behind_delimiter.Goals as goal

pub returns : goal.returns
returns c = parts_left c.args.boundary.now c.args.text.now c.first_piece.result.0.now c.first_piece.result.1 c.first_piece.ensures
