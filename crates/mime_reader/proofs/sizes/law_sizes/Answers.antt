use Rattle.mime_reader.proofs.SizeLemmas.{wrapped, read_size}
use Rattle.mime_reader.proofs.sizes.law_sizes.Goals as goal

pub returns : goal.returns
returns c = record { read = read_size c.law_lines.ensures c.law_weights.ensures c.law_fields.ensures; wrapped = wrapped }
