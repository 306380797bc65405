use Rattle.std.proofs.Common.{◌≡◌, ◌<◌, ◌++◌, drop, take, vec_capacity}
use Rattle.lmtp_core.specs.declared.lines.LineShown.TheVariants.{More}
use Rattle.lmtp_core.specs.Lines.{line_behind, line_limit, line_shown}
use Rattle.lmtp_core.proofs.lines.take_bytes.Given as goal

abbrev pub invariant-bytes : goal.invariant-bytes
invariant-bytes l = record {
  count : l.count ≡ l.byte-index;
  more : line_shown l.bytes.items ≡ More;
  room : line_limit < vec_capacity l.bytes;
  items : l.bytes.items ≡ l.initial.bytes.items ++ take l.byte-index l.piece;
  behind : line_behind l.initial.bytes.items l.piece ≡ line_behind l.bytes.items (drop l.byte-index l.piece);
}
