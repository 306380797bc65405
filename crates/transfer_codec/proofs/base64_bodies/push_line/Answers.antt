use Rattle.std.proofs.Common.{replicate, ◌++◌, ◌∷◌, [], OnOk, length, take, ◌∙◌, ap, subst, arith, append_assoc, length-append}
use Rattle.base64.specs.GeneralPurpose.{IsEncodedOver}
use Rattle.transfer_codec.specs.Base64.{base64}
use Rattle.transfer_codec.proofs.PrintLemmas.{letters_are, line_size}
use Rattle.transfer_codec.proofs.base64_bodies.push_line.Goals as goal

pub push_all-requires : goal.push_all-requires
push_all-requires c =
    let letters = letters_are c.args.engine.now c.args.bytes.now c.encode_slice.new.output c.in-Ok.len c.requires.standard
    (cc (c.in-Ok.is, c.encode_slice.ensures.fits (omega (arith, c.requires.short, line_size c.args.engine.now (length c.args.bytes.now) c.requires.standard)))) (subst (λ r. OnOk r (IsEncodedOver c.args.engine.now c.args.bytes.now (replicate 76 0) c.encode_slice.new.output)) c.in-Ok.is c.encode_slice.ensures.written) in
    omega (arith, c.requires.room, ap length letters, length-append (base64 c.args.bytes.now) (13 ∷ 10 ∷ []))

pub push_all-requires-2 : goal.push_all-requires-2
push_all-requires-2 c =
    let letters = letters_are c.args.engine.now c.args.bytes.now c.encode_slice.new.output c.in-Ok.len c.requires.standard
    (cc (c.in-Ok.is, c.encode_slice.ensures.fits (omega (arith, c.requires.short, line_size c.args.engine.now (length c.args.bytes.now) c.requires.standard)))) (subst (λ r. OnOk r (IsEncodedOver c.args.engine.now c.args.bytes.now (replicate 76 0) c.encode_slice.new.output)) c.in-Ok.is c.encode_slice.ensures.written) in
    omega (
      arith,
      c.requires.room,
      ap length letters,
      length-append (base64 c.args.bytes.now) (13 ∷ 10 ∷ []),
      ap length c.push_all.ensures.items,
      length-append c.args.out.now.items (take c.in-Ok.len c.encode_slice.new.output),
      c.push_all.ensures.room,
    )

pub returns-clause-items : goal.returns-clause-items
returns-clause-items c =
    let out = c.args.out.now.items in
    let text = take c.in-Ok.len c.encode_slice.new.output in
    let letters = letters_are c.args.engine.now c.args.bytes.now c.encode_slice.new.output c.in-Ok.len c.requires.standard
    (cc (c.in-Ok.is, c.encode_slice.ensures.fits (omega (arith, c.requires.short, line_size c.args.engine.now (length c.args.bytes.now) c.requires.standard)))) (subst (λ r. OnOk r (IsEncodedOver c.args.engine.now c.args.bytes.now (replicate 76 0) c.encode_slice.new.output)) c.in-Ok.is c.encode_slice.ensures.written) in
    c.push_all-2.ensures.items ∙ ap (λ z. z ++ 13 ∷ 10 ∷ []) c.push_all.ensures.items ∙ append_assoc out text (13 ∷ 10 ∷ [])
    ∙ ap (λ z. out ++ (z ++ 13 ∷ 10 ∷ [])) letters
