use Rattle.std.proofs.Common.{◌∷◌, []}
use Rattle.address_grammar.specs.Printing.{bare_or_quoted}
use Rattle.canon_writer.proofs.PieceLemmas.{with_two}
use Rattle.canon_writer.proofs.value_sizes.with_addr.Goals as goal

pub returns : goal.returns
returns c =
    let domain = c.args.domain.now in
    let local = c.with_bare_or_quoted.result in
    let at_domain = with_two local c.with_bytes-begun.result c.with_bytes.result (64 ∷ []) domain c.with_bytes-begun.ensures c.with_bytes.ensures in
    with_two c.args.field local c.with_bytes.result (bare_or_quoted 46 c.args.local.now) (64 ∷ domain) c.with_bare_or_quoted.ensures at_domain
