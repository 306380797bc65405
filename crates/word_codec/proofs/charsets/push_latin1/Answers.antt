use Rattle.std.proofs.Common.{◌++◌, ℕ, refl, ◌∙◌, ap, arith, string_bytes, encode_utf8_all}
use Rattle.std.proofs.lemmas.List.{map-id}
use Rattle.std.proofs.lemmas.Slice.{pushed}
use Rattle.std.specs.Char.{encode_utf8}
use Rattle.word_codec.proofs.CharsetLemmas.{char_more, chars_all}
use Rattle.word_codec.proofs.charsets.push_latin1.Goals as goal

pub loop-b-preserved : goal.loop-b-preserved
loop-b-preserved c =
    let bytes = c.args.bytes.now in
    let f : ℕ → ℕ = λ c. c in
    char_more f (string_bytes c.loop-b.out) _ _ bytes c.loop-b.b-index c.loop-b-test.true (pushed (encode_utf8 c.from.result) refl c.in_ok-push.was c.push.ensures.bytes ∙ ap (λ z. string_bytes c.loop-b.out ++ encode_utf8 z) c.from.ensures) c.loop-b.invariant

pub returns : goal.returns
returns c =
    let f : ℕ → ℕ = λ c. c in
    chars_all f (string_bytes c.loop-b.out) _ c.args.bytes.now c.loop-b.b-index (omega (arith, c.loop-b-test.false)) c.loop-b.invariant ∙ ap (λ z. string_bytes c.args.out.now ++ encode_utf8_all z) (map-id c.args.bytes.now)
