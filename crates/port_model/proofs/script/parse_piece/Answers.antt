use Rattle.std.proofs.Common.{sym, ◌∙◌}
use Rattle.port_model.specs.Script.{number_up_to, sized, text_bytes}
use Rattle.port_model.proofs.ScriptLemmas.{sent_piece-parts, piece-no_moment, piece-parts}
use Rattle.port_model.proofs.script.parse_piece.Goals as goal

pub returns-in_default-decimal_up_to : goal.returns-in_default-decimal_up_to
returns-in_default-decimal_up_to c =
    let parts = sent_piece-parts c.args.line.now c.split_at_byte.result.0.now c.split_at_byte.result.1.now c.split_at_byte-2.result.0.now c.split_at_byte-2.result.1.now
    c.split_at_byte.ensures.before c.split_at_byte.ensures.behind c.split_at_byte-2.ensures.before c.split_at_byte-2.ensures.behind in
    piece-no_moment _ (number_up_to 253402300799 c.split_at_byte-2.result.0.now) _ (sym c.decimal_up_to.ensures ∙ c.in_default-decimal_up_to.is) ∙ sym parts

pub returns : goal.returns
returns c =
    let parts = sent_piece-parts c.args.line.now c.split_at_byte.result.0.now c.split_at_byte.result.1.now c.split_at_byte-2.result.0.now c.split_at_byte-2.result.1.now
    c.split_at_byte.ensures.before c.split_at_byte.ensures.behind c.split_at_byte-2.ensures.before c.split_at_byte-2.ensures.behind in
    piece-parts (number_up_to 0xffff_ffff c.split_at_byte.result.0.now) (number_up_to 253402300799 c.split_at_byte-2.result.0.now) (sized (text_bytes c.split_at_byte-2.result.1.now))
    c.in-Some.number c.in-Some-decimal_up_to.moment c.in-Some-2.bytes
    (sym c.session_number.ensures ∙ c.in-Some.is) (sym c.decimal_up_to.ensures ∙ c.in-Some-decimal_up_to.is) (sym c.in_ok-bytes.ensures ∙ c.in-Some-2.is)
    ∙ sym parts
