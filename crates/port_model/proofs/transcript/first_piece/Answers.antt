use Rattle.std.proofs.Common.{sym, ◌∙◌}
use Rattle.port_model.proofs.TranscriptLemmas.{pieces-Some, pieces-None}
use Rattle.port_model.proofs.transcript.first_piece.Goals as goal

pub returns-in-Some-clause-pieces : goal.returns-in-Some-clause-pieces
returns-in-Some-clause-pieces c =
    rw (c.split_at.ensures.front, c.split_at.ensures.back) (pieces-Some c.args.bytes.now c.in-Some.end c.requires (sym c.line_end.ensures ∙ c.in-Some.is))

pub returns-in-None-clause-pieces : goal.returns-in-None-clause-pieces
returns-in-None-clause-pieces c = pieces-None c.args.bytes.now c.requires (sym c.line_end.ensures ∙ c.in-None.is)
