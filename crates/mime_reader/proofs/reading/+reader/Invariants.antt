use Rattle.std.proofs.Common.{◌+◌, ◌*◌}
use Rattle.mime_reader.specs.Reading.{read}
use Rattle.std.specs.Option.{option_map}
use Rattle.mime_reader.specs.Cutting.{texts}
use Rattle.mime_reader.proofs.CutLemmas.{left_texts, LeftCrlf, left_size}
use Rattle.mime_reader.proofs.ReaderLemmas.{AreRead}
use Rattle.mime_reader.proofs.reading.+reader.Given as goal

abbrev pub decreases-read_node : goal.decreases-read_node
decreases-read_node l = 5 * l.levels

abbrev pub decreases-read_parts : goal.decreases-read_parts
decreases-read_parts l = 5 * l.levels + 1

abbrev pub decreases-read_inner : goal.decreases-read_inner
decreases-read_inner l = 5 * l.levels + 2

abbrev pub decreases-read_multipart : goal.decreases-read_multipart
decreases-read_multipart l = 5 * l.levels + 3

abbrev pub decreases-read_body : goal.decreases-read_body
decreases-read_body l = 5 * l.levels + 4

-- The parts that were read, and those that are left.
abbrev pub invariant-read_parts-loop-left : goal.invariant-read_parts-loop-left
invariant-read_parts-loop-left l = record {
  read : AreRead (read l.levels l.enclosing l.digest) l.fn.number l.number l.out.items (left_texts l.boundary (option_map (λ x. x.now) l.left)) (texts l.boundary l.text);
  crlf : LeftCrlf l.boundary (option_map (λ x. x.now) l.left);
}

abbrev pub decreases-read_parts-loop-left : goal.decreases-read_parts-loop-left
decreases-read_parts-loop-left l = left_size l.boundary (option_map (λ x. x.now) l.left)
