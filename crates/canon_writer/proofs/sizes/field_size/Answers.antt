use Rattle.std.proofs.Common.{◌^◌, ◌<◌, length, ◌∙◌, ap, subst}
use Rattle.canon_writer.specs.Counting.{named, with_bytes}
use Rattle.canon_writer.specs.Printing.{value_text}
use Rattle.canon_writer.proofs.CountLemmas.{counted_field}
use Rattle.canon_writer.proofs.sizes.field_size.Goals as goal

pub returns : goal.returns
returns c =
    let name = c.args.field.now.name in
    let value = value_text c.args.field.now.value in
    ap (λ f. f.size) (c.with_value.ensures ∙ ap (λ f. with_bytes f value) c.named.ensures.counted ∙ ap (λ n. with_bytes (named (length n)) value) c.as_slice.ensures)
    ∙ counted_field name value (subst (λ n. length n < 2 ^ 63) c.as_slice.ensures c.named.ensures.short)
