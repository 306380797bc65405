use Rattle.std.proofs.Common.{sym, ◌∙◌, ap}
use Rattle.transfer_codec.specs.Base64.{decoded}
use Rattle.transfer_codec.proofs.DecodeLemmas.{decoded-base64, decoded_exact, decoded_bytes}
use Rattle.transfer_codec.proofs.StandardLemmas.{encodes_standard, is_strict, none_is}
use Rattle.transfer_codec.proofs.engines.decode_letters.Goals as goal

pub returns-in-Ok : goal.returns-in-Ok
returns-in-Ok c =
    let engine = c.args.engine.now in
    let bytes = c.in-Ok.bytes.items in
    sym (ap decoded (c.in-Ok.ensures.exact (is_strict engine c.requires) ∙ encodes_standard engine bytes c.requires) ∙ decoded-base64 bytes c.in-Ok.ensures.bytes)

pub returns-in-Err-DecodeError : goal.returns-in-Err-DecodeError
returns-in-Err-DecodeError c =
    let engine = c.args.engine.now in
    let text = c.args.text.now in
    none_is (decoded text) (λ bytes e.
    let is = (c.decode.ensures.strict (is_strict engine c.requires) bytes (decoded_bytes text bytes e)).1
    (decoded_exact text bytes e ∙ sym (encodes_standard engine bytes c.requires)) in
    let err = rw c.in-Err-DecodeError.field-0-is at c.in-Err-DecodeError.ensures.err in cc (is, err))
