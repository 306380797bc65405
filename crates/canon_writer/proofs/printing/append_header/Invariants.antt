use Rattle.std.proofs.Common.{◌≡◌, ◌++◌, drop}
use Rattle.canon_writer.specs.Printing.{header_lines, ended}
use Rattle.canon_writer.proofs.printing.append_header.Given as goal

-- What is written, and the fields that are left.
abbrev pub invariant-loop-field : goal.invariant-loop-field
invariant-loop-field l = l.out.items ++ ended (header_lines (drop l.field-index l.fields)) ≡ l.fn.out.items ++ ended (header_lines l.fields)
