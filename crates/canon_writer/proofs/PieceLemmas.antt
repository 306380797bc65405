-- Values counted piece by piece.
use Rattle.std.proofs.Common.{◌≡◌, ℕ, ◌+◌, ◌<◌, List, [], ◌∷◌, ◌++◌, length, get_or, drop, refl, sym, ◌∙◌, ap, arith}
use Rattle.std.proofs.lemmas.List.{drop_more}
use Rattle.mime_tree.specs.declared.values.Item.{Item}
use Rattle.mime_tree.specs.declared.values.Item.TheVariants.{Address, Group, GroupEnd}
use Rattle.address_grammar.specs.Printing.{escaped, escaped_byte, phrase_text, addr_text, address_text, between, item_text, behind_of, printed_behind, printed}
use Rattle.address_grammar.specs.Words.{each_spaced, spaced}
use Rattle.canon_writer.specs.declared.counting.FieldSize.{FieldSize}
use Rattle.canon_writer.specs.Counting.{with_bytes, item_behind, between_behind, items_behind, ids_behind}
use Rattle.canon_writer.proofs.CountLemmas.{with_bytes-append}

-- Two pieces, one behind the other.
pub with_two : (field begun whole : FieldSize) (x y : List ℕ) → begun ≡ with_bytes field x → whole ≡ with_bytes begun y → whole ≡ with_bytes field (x ++ y)
with_two field begun whole x y first then = then ∙ ap (λ f. with_bytes f y) first ∙ sym (with_bytes-append field x y)

pub address_named : (name local domain : List ℕ) → 0 < length name → address_text name local domain ≡ phrase_text name ++ (32 ∷ 60 ∷ (addr_text local domain ++ 62 ∷ []))
address_named [] local domain h = absurd (omega arith)
address_named (c ∷ cs) local domain h = refl

-- The next item, and those that are left.
pub next_item : (field : FieldSize) (b : List ℕ) (items : List Item) (at : ℕ) (item : Item) → at < length items → item ≡ get_or items at item →
    with_bytes (with_bytes field (item_behind b item)) (items_behind (between_behind item) (drop (at + 1) items)) ≡ with_bytes field (items_behind b (drop at items))
next_item field b items at item h is =
    sym (with_bytes-append field (item_behind b item) (items_behind (between_behind item) (drop (at + 1) items)))
    ∙ ap (λ xs. with_bytes field (items_behind b xs)) (sym (drop_more items at item h ∙ ap (λ x. x ∷ drop (at + 1) items) (sym is)))

between-behind : (item : Item) → between (behind_of item) ≡ between_behind item
between-behind (Address name local domain) = refl
between-behind (Group name) = refl
between-behind GroupEnd = refl

item_text-behind : (item next : Item) → item_text (behind_of item) next ≡ item_behind (between_behind item) next
item_text-behind item (Address name local domain) = ap (λ b. b ++ address_text name local domain) (between-behind item)
item_text-behind item (Group name) = ap (λ b. b ++ (phrase_text name ++ 58 ∷ [])) (between-behind item)
item_text-behind item GroupEnd = refl

printed_items : (item : Item) (items : List Item) → printed_behind (behind_of item) items ≡ items_behind (between_behind item) items
printed_items item [] = refl
printed_items item (next ∷ items) =
    ap (λ t. t ++ printed_behind (behind_of next) items) (item_text-behind item next)
    ∙ ap (λ t. item_behind (between_behind item) next ++ t) (printed_items next items)

pub all_items : (items : List Item) → items_behind [] items ≡ printed items
all_items [] = refl
all_items (Address name local domain ∷ items) = ap (λ t. address_text name local domain ++ t) (sym (printed_items (Address name local domain) items))
all_items (Group name ∷ items) = ap (λ t. (phrase_text name ++ 58 ∷ []) ++ t) (sym (printed_items (Group name) items))
all_items (GroupEnd ∷ items) = ap (λ t. 59 ∷ t) (sym (printed_items GroupEnd items))

pub next_id : (field : FieldSize) (b : List ℕ) (ids : List (List ℕ)) (at : ℕ) (id : List ℕ) → at < length ids → id ≡ get_or ids at id →
    with_bytes (with_bytes (with_bytes field b) id) (ids_behind (32 ∷ []) (drop (at + 1) ids)) ≡ with_bytes field (ids_behind b (drop at ids))
next_id field b ids at id h is =
    ap (λ f. with_bytes f (ids_behind (32 ∷ []) (drop (at + 1) ids))) (sym (with_bytes-append field b id))
    ∙ sym (with_bytes-append field (b ++ id) (ids_behind (32 ∷ []) (drop (at + 1) ids)))
    ∙ ap (λ xs. with_bytes field (ids_behind b xs)) (sym (drop_more ids at id h ∙ ap (λ x. x ∷ drop (at + 1) ids) (sym is)))

spaced_ids : (ids : List (List ℕ)) → ids_behind (32 ∷ []) ids ≡ each_spaced ids
spaced_ids [] = refl
spaced_ids (id ∷ ids) = ap (λ t. 32 ∷ (id ++ t)) (spaced_ids ids)

pub all_ids : (ids : List (List ℕ)) → ids_behind [] ids ≡ spaced ids
all_ids [] = refl
all_ids (id ∷ ids) = ap (λ t. id ++ t) (spaced_ids ids)

pub next_escaped : (field : FieldSize) (text : List ℕ) (at : ℕ) → at < length text →
    with_bytes (with_bytes field (escaped_byte (get_or text at 0))) (escaped (drop (at + 1) text)) ≡ with_bytes field (escaped (drop at text))
next_escaped field text at h =
    sym (with_bytes-append field (escaped_byte (get_or text at 0)) (escaped (drop (at + 1) text)))
    ∙ ap (λ xs. with_bytes field (escaped xs)) (sym (drop_more text at 0 h))
