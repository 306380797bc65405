-- Items each once, item by item.
use Rattle.std.proofs.Common.{◌≡◌, Bool, true, false, cond, List, [], ◌∷◌, ◌++◌, refl, sym, ◌∙◌, ap, ℕ, ◌+◌, ◌<◌, length, get_or, take}
use Rattle.std.proofs.lemmas.List.{append_assoc, take_more}
use Rattle.imap_grammar.specs.declared.items.FetchItem.{FetchItem}
use Rattle.fetch_writer.specs.Asked.{has_item, first_ones, distinct_items}

-- an item that comes behind others, unless it is one of them
abbrev pub one_more : List FetchItem → FetchItem → List FetchItem
one_more before item = cond (has_item item before) [] (item ∷ [])

append_none : (xs : List FetchItem) → xs ++ [] ≡ xs
append_none [] = refl
append_none (x ∷ xs) = ap (λ l. x ∷ l) (append_none xs)

behind : (b : Bool) (item : FetchItem) (xs ys : List FetchItem) → cond b (xs ++ ys) (item ∷ (xs ++ ys)) ≡ cond b xs (item ∷ xs) ++ ys
behind true item xs ys = refl
behind false item xs ys = refl

first_more : (before items : List FetchItem) (item : FetchItem) → first_ones before (items ++ item ∷ []) ≡ first_ones before items ++ one_more (before ++ items) item
first_more before [] item = ap (λ l. one_more l item) (sym (append_none before))
first_more before (x ∷ xs) item =
    ap (λ l. cond (has_item x before) l (x ∷ l)) (first_more (before ++ x ∷ []) xs item ∙ ap (λ l. first_ones (before ++ x ∷ []) xs ++ one_more l item) (append_assoc before (x ∷ []) xs))
    ∙ behind (has_item x before) x (first_ones (before ++ x ∷ []) xs) (one_more (before ++ x ∷ xs) item)

pub distinct_none : distinct_items [] ≡ []
unfolding distinct_items
distinct_none = refl

distinct_more : (items : List FetchItem) (item : FetchItem) → distinct_items (items ++ item ∷ []) ≡ distinct_items items ++ one_more items item
unfolding distinct_items
distinct_more items item = first_more [] items item

-- the items up to one, and that one
pub distinct_next : (items told before : List FetchItem) (at : ℕ) (item : FetchItem) → at < length items → item ≡ get_or items at item →
    told ≡ before ++ distinct_items (take at items) →
    told ++ one_more (take at items) item ≡ before ++ distinct_items (take (at + 1) items)
distinct_next items told before at item h is e =
    ap (λ l. l ++ one_more (take at items) item) e
    ∙ append_assoc before (distinct_items (take at items)) (one_more (take at items) item)
    ∙ ap (λ l. before ++ l) (sym (distinct_more (take at items) item))
    ∙ ap (λ l. before ++ distinct_items l) (ap (λ i. take at items ++ i ∷ []) is ∙ sym (take_more items at item h))
