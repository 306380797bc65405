use Rattle.std.proofs.Common.{◌≡◌, ◌+◌, length, drop}
use Rattle.canon_writer.specs.Counting.{capped}
use Rattle.canon_writer.specs.Printing.{print_header}
use Rattle.canon_writer.proofs.sizes.printed_header_size.Given as goal

-- What is counted, and the fields that are left.
abbrev pub invariant-loop-field : goal.invariant-loop-field
invariant-loop-field l = capped (l.size + length (print_header (drop l.field-index l.fields))) ≡ capped (length (print_header l.fields))
