use Rattle.std.proofs.Common.{[], ◌+◌, false, ◌∙◌, ap, subst, refl, arith}
use Rattle.std.proofs.lemmas.List.{take_rest}
use Rattle.mail_text.specs.Lines.{joined, lines}
use Rattle.mime_tree.specs.Contents.{content_of}
use Rattle.mime_tree.specs.Sizes.{nodes_in}
use Rattle.header_reader.specs.Fields.{header}
use Rattle.header_reader.specs.Faults.{fault_of}
use Rattle.mime_reader.specs.Reading.{read}
use Rattle.mime_reader.specs.Steps.{Tells}
use Rattle.mime_reader.proofs.ReaderLemmas.{node_header_fails, node_body_fails, node_reads, fails_gives}
use Rattle.mime_reader.proofs.reading.read_whole.Goals as goal

pub returns-in-Ok-read_content-clause-exact : goal.returns-in-Ok-read_content-clause-exact
returns-in-Ok-read_content-clause-exact c =
    let bytes = c.args.bytes.now in
    let head = c.in-Ok.head in
    let content = content_of c.in-Ok-read_content.body in
    (node_reads 17 [] false 0 (0 + 1 + nodes_in content) bytes head.fields.items head.kind _ content (omega arith) (omega arith) c.in-Ok.ensures.sound c.in-Ok.ensures.fields
    c.in-Ok.ensures.kind (ap (λ z. joined (lines z)) (take_rest bytes head.place) ∙ c.in-Ok.ensures.body) (c.in-Ok-read_content.ensures, refl)).0

pub returns-in-Err-read_content-clause-exact : goal.returns-in-Err-read_content-clause-exact
returns-in-Err-read_content-clause-exact c =
    let bytes = c.args.bytes.now in
    let head = c.in-Ok.head in
    fails_gives c.in-Err-read_content.fault (read 17 [] false 0 bytes)
    (node_body_fails c.in-Err-read_content.fault 17 [] false 0 bytes head.kind _ (omega arith) (omega arith) c.in-Ok.ensures.sound c.in-Ok.ensures.kind
    (ap (λ z. joined (lines z)) (take_rest bytes head.place) ∙ c.in-Ok.ensures.body) c.in-Err-read_content.ensures)

pub returns-in-Err-clause-exact : goal.returns-in-Err-clause-exact
returns-in-Err-clause-exact c =
    fails_gives c.in-Err.fault (read 17 [] false 0 c.args.bytes.now)
    (node_header_fails c.in-Err.fault 17 [] false 0 c.args.bytes.now (omega arith) (omega arith) c.in-Err.ensures.fault)

pub returns-in-Err-clause-told : goal.returns-in-Err-clause-told
returns-in-Err-clause-told c e = subst (λ fault. Tells fault (fault_of (header (lines c.args.bytes.now)))) e c.in-Err.ensures.fault
