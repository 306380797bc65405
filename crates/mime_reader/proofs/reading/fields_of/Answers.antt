use Rattle.mime_reader.proofs.LineLemmas.{crlf_place}
use Rattle.mime_reader.proofs.reading.fields_of.Goals as goal

pub returns-in-Ok-typed-clause-body : goal.returns-in-Ok-typed-clause-body
returns-in-Ok-typed-clause-body c = c.law_fields.ensures.body_at c.args.text.now c.in-Ok.place c.in-Ok.ensures.place

pub returns-in-Ok-typed-clause-crlf : goal.returns-in-Ok-typed-clause-crlf
returns-in-Ok-typed-clause-crlf c crlf = crlf_place c.law_lines.ensures c.args.text.now c.in-Ok.place crlf c.in-Ok.ensures.place
