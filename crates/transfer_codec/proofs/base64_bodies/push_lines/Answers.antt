use Rattle.std.proofs.Common.{◌<◌, ◌++◌, length, length-append, sym, ◌∙◌, ap, arith, append_assoc}
use Rattle.std.proofs.lemmas.Bool.{eqb-true, eqb-false}
use Rattle.std.proofs.lemmas.List.{append-nil}
use Rattle.transfer_codec.specs.Base64.{base64}
use Rattle.transfer_codec.specs.Layout.{ended, printed64}
use Rattle.transfer_codec.proofs.PrintLemmas.{line_is, printed_none}
use Rattle.transfer_codec.proofs.base64_bodies.push_lines.Goals as goal

pub push_line-requires-clause-room : goal.push_line-requires-clause-room
push_line-requires-clause-room c =
    let line = ended (base64 c.split_at.result.0.now) in
    let behind = printed64 c.split_at.result.1.now in
    let some : 0 < length c.loop-rest.rest.now = let unequal = eqb-false (length c.loop-rest.rest.now) 0 (sym c.is_empty.ensures ∙ c.loop-rest-test.true) in omega arith in
    let cut = line_is c.loop-rest.rest.now c.split_at.result.0.now c.split_at.result.1.now c.min.result some c.min.ensures c.split_at.ensures.front c.split_at.ensures.back in
    omega (
      arith,
      c.requires,
      c.loop-rest.invariant.room,
      ap length cut,
      length-append line behind,
      ap length c.loop-rest.invariant.printed,
      length-append c.loop-rest.out.items (printed64 c.loop-rest.rest.now),
      length-append c.args.out.now.items (printed64 c.args.bytes.now),
    )

pub loop-rest-preserved : goal.loop-rest-preserved
loop-rest-preserved c =
    let out = c.loop-rest.out.items in
    let line = ended (base64 c.split_at.result.0.now) in
    let behind = printed64 c.split_at.result.1.now in
    let some : 0 < length c.loop-rest.rest.now = let unequal = eqb-false (length c.loop-rest.rest.now) 0 (sym c.is_empty.ensures ∙ c.loop-rest-test.true) in omega arith in
    let cut = line_is c.loop-rest.rest.now c.split_at.result.0.now c.split_at.result.1.now c.min.result some c.min.ensures c.split_at.ensures.front c.split_at.ensures.back in
    record {
      room = c.push_line.ensures.room ∙ c.loop-rest.invariant.room;
      printed = ap (λ z. z ++ behind) c.push_line.ensures.items ∙ append_assoc out line behind ∙ ap (λ z. out ++ z) (sym cut) ∙ c.loop-rest.invariant.printed;
    }

pub returns-clause-items : goal.returns-clause-items
returns-clause-items c =
    let rest = c.loop-rest.rest.now in
    let none = eqb-true (length rest) 0 (sym c.is_empty.ensures ∙ c.loop-rest-test.false) in
    sym (append-nil c.loop-rest.out.items) ∙ ap (λ z. c.loop-rest.out.items ++ z) (sym (printed_none rest none)) ∙ c.loop-rest.invariant.printed
