use Rattle.std.proofs.Common.{◌≡◌, drop}
use Rattle.header_reader.specs.Kinds.{is_among}
use Rattle.envelope_view.proofs.sections.is_among.Given as goal

-- None of the names so far is the one.
abbrev pub invariant-loop-known : goal.invariant-loop-known
invariant-loop-known l = is_among (drop l.known-index l.names) l.name ≡ is_among l.names l.name
