use Rattle.std.proofs.Common.{length, sym, ◌∙◌, ap}
use Rattle.transfer_codec.specs.Layout.{printed64_size}
use Rattle.canon_writer.specs.Counting.{capped}
use Rattle.canon_writer.proofs.PrintSizeLemmas.{size_or_most}
use Rattle.canon_writer.proofs.sizes.base64_size.Goals as goal

pub returns : goal.returns
returns c =
    let bytes = c.args.bytes.now in
    c.unwrap_or.ensures ∙ size_or_most c.printed64_len.result (printed64_size (length bytes)) c.printed64_len.ensures
    ∙ ap capped (sym (c.law_base64.ensures.size bytes))
