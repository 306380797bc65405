use Rattle.std.proofs.Common.{◌++◌, ◌∷◌, [], sym, ◌∙◌, ap}
use Rattle.std.proofs.lemmas.Bool.{cond-false}
use Rattle.address_grammar.specs.Printing.{escaped, in_quotation, is_bare}
use Rattle.canon_writer.specs.Counting.{with_bytes}
use Rattle.canon_writer.proofs.PieceLemmas.{with_two}
use Rattle.canon_writer.proofs.value_sizes.with_bare_or_quoted.Goals as goal

pub returns : goal.returns
returns c =
    let field = c.args.field in
    let text = c.args.text.now in
    let quoted = with_two c.with_bytes-2.result c.with_escaped.result c.with_bytes-3.result (escaped text) (34 ∷ []) c.with_escaped.ensures c.with_bytes-3.ensures in
    with_two field c.with_bytes-2.result c.with_bytes-3.result (34 ∷ []) (escaped text ++ 34 ∷ []) c.with_bytes-2.ensures quoted
    ∙ ap (with_bytes field) (sym (cond-false (is_bare c.args.between text) text (in_quotation text) (sym c.is_bare.ensures ∙ c.if-is_bare.false)))
