use Rattle.port_model.proofs.TranscriptLemmas.{text_bytes-escaped}
use Rattle.port_model.proofs.transcript.law_escaped_text.Goals as goal

pub returns : goal.returns
returns c = text_bytes-escaped
