use Rattle.std.proofs.Common.{◌≡◌, ◌++◌, length}
use Rattle.row_codec.specs.Encoding.{HaveTexts, HaveWidths, encoding}
use Rattle.row_codec.proofs.Fields.{IsBytes}
use Rattle.row_codec.proofs.lists.decode.Given as goal

abbrev pub invariant-loop-rest : goal.invariant-loop-rest
invariant-loop-rest l = record {
  split : l.bytes ≡ encoding l.changes.items ++ l.rest;
  texts : HaveTexts l.changes.items;
  widths : HaveWidths l.changes.items;
  rest_fits : IsBytes l.rest;
}

abbrev pub decreases-loop-rest : goal.decreases-loop-rest
decreases-loop-rest l = length l.rest
