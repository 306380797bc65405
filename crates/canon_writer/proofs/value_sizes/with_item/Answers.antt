use Rattle.std.proofs.Common.{◌≡◌, ◌++◌, ◌∷◌, [], ◌∙◌, ap}
use Rattle.mime_tree.specs.declared.values.Item.TheVariants.{Address, Group}
use Rattle.address_grammar.specs.Printing.{address_text, phrase_text}
use Rattle.canon_writer.specs.Counting.{with_bytes, item_behind}
use Rattle.canon_writer.proofs.PieceLemmas.{with_two}
use Rattle.canon_writer.proofs.value_sizes.with_item.Goals as goal

pub returns-in-Address : goal.returns-in-Address
returns-in-Address c =
    let field = c.args.field in
    let between = c.args.between.now in
    let name = c.as_slice.result.now in
    let local = c.as_slice-in-Address.result.now in
    let domain = c.as_slice-in-Address-2.result.now in
    let same : Address name local domain ≡ c.args.item.now = cc in
    with_two field c.with_bytes.result c.with_address.result between (address_text name local domain) c.with_bytes.ensures c.with_address.ensures
    ∙ ap (λ item. with_bytes field (item_behind between item)) same

pub returns-in-Group : goal.returns-in-Group
returns-in-Group c =
    let field = c.args.field in
    let between = c.args.between.now in
    let begun = c.with_bytes-in-Group.result in
    let whole = c.with_bytes-in-Group-2.result in
    let name = c.as_slice-in-Group.result.now in
    let same : Group name ≡ c.args.item.now = cc in
    let ended = with_two begun c.with_bare_or_quoted-named.result whole (phrase_text name) (58 ∷ []) c.with_bare_or_quoted-named.ensures c.with_bytes-in-Group-2.ensures in
    with_two field begun whole between (phrase_text name ++ 58 ∷ []) c.with_bytes-in-Group.ensures ended
    ∙ ap (λ item. with_bytes field (item_behind between item)) same
