use Rattle.std.proofs.Common.{◌++◌, ◌∷◌, [], sym, ◌∙◌, ap}
use Rattle.address_grammar.specs.Printing.{addr_text, phrase_text}
use Rattle.canon_writer.specs.Counting.{with_bytes}
use Rattle.canon_writer.proofs.FoldLemmas.{some_of}
use Rattle.canon_writer.proofs.PieceLemmas.{with_two, address_named}
use Rattle.canon_writer.proofs.value_sizes.with_address.Goals as goal

pub returns : goal.returns
returns c =
    let name = c.args.name.now in
    let local = c.args.local.now in
    let domain = c.args.domain.now in
    let field = c.args.field in
    let phrase = c.with_bare_or_quoted.result in
    let opened = c.with_bytes-named.result in
    let whole = c.with_bytes.result in
    let addr = addr_text local domain in
    let closed = with_two opened c.with_addr-2.result whole addr (62 ∷ []) c.with_addr-2.ensures c.with_bytes.ensures in
    let angled = with_two phrase opened whole (32 ∷ 60 ∷ []) (addr ++ 62 ∷ []) c.with_bytes-named.ensures closed in
    with_two field phrase whole (phrase_text name) (32 ∷ 60 ∷ (addr ++ 62 ∷ [])) c.with_bare_or_quoted.ensures angled
    ∙ ap (with_bytes field) (sym (address_named name local domain (some_of name (sym c.is_empty.ensures ∙ c.if-is_empty.false))))
