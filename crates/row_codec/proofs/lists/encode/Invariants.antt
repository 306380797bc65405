use Rattle.std.proofs.Common.{◌≡◌, take}
use Rattle.row_codec.specs.Encoding.{HaveWidths, encoding}
use Rattle.row_codec.proofs.lists.encode.Given as goal

abbrev pub invariant-loop-change : goal.invariant-loop-change
invariant-loop-change l = record {
  bytes : l.out.items ≡ encoding (take l.change-index l.changes);
  widths : HaveWidths (take l.change-index l.changes);
}
