-- Items are told alike of messages that are alike in what they read.
use Rattle.std.proofs.Common.{◌≡◌, ℕ, Bool, true, false, ◌||◌, cond, List, [], ◌∷◌, ◌++◌, map, refl, sym, ◌∙◌, ap}
use Rattle.std.specs.Prelude.{Some, codes, option_map, not, ◌&&◌}
use Rattle.std.specs.List.{list_any}
use Rattle.std.proofs.lemmas.List.{map-append}
use Rattle.mime_tree.specs.Trees.{Tree}
use Rattle.mime_tree.specs.Trees.Tree.{node}
use Rattle.canon_writer.specs.Printing.{print_header}
use Rattle.imap_grammar.specs.declared.items.FetchItem.{FetchItem}
use Rattle.imap_grammar.specs.declared.items.FetchItem.TheVariants.{Body, BodyStructure, Envelope, Flags, InternalDate, Modseq, Rfc822, Rfc822Header, Rfc822Size, Rfc822Text, Uid, Part}
use Rattle.imap_grammar.specs.declared.items.SectionPart.{SectionPart}
use Rattle.imap_grammar.specs.declared.items.SectionPart.TheVariants.{Whole, Mime, Header, Fields, Text}
use Rattle.imap_writer.specs.Texts.{literal}
use Rattle.imap_writer.specs.Fetches.{message_line}
use Rattle.envelope_view.specs.Envelope.{envelope}
use Rattle.envelope_view.specs.Structure.{fields_of}
use Rattle.envelope_view.specs.Sections.{header, some_fields, section_of, at_path}
use Rattle.fetch_writer.specs.declared.facts.MessageFacts.{MessageFacts}
use Rattle.fetch_writer.specs.Names.{item_name}
use Rattle.fetch_writer.specs.Asked.{has_item, first_ones, distinct_items, uid_first, flags_last, told_items, is_of_header, reads_header, reads_body}
use Rattle.fetch_writer.specs.Items.{within, literal_or_nil, value_of, item_text, items_line}
use Rattle.fetch_writer.specs.Laws.{ReadingLaws}

-- ---- tests of all items

or_no : (a b : Bool) → (a || b) ≡ false → (a ≡ false) × (b ≡ false)
or_no true b h = absurd (cc)
or_no false b h = (refl, h)

not_no : (b : Bool) → not b ≡ false → b ≡ true
not_no true h = refl
not_no false h = absurd (cc)

-- ---- sections of the header

header_is : (a b : Tree) → fields_of a ≡ fields_of b → header a ≡ header b
header_is (node f c) (node g d) e = ap print_header e

some_fields_is : (names : List (List ℕ)) (except : Bool) (a b : Tree) → fields_of a ≡ fields_of b → some_fields names except a ≡ some_fields names except b
some_fields_is names except (node f c) (node g d) e = ap (λ fields. some_fields names except (node fields c)) e ∙ refl

section_is : (path : List ℕ) (part : SectionPart) (a b : Tree) → is_of_header path part ≡ true → fields_of a ≡ fields_of b → at_path path part a ≡ at_path path part b
section_is [] Whole a b h e = absurd (cc)
section_is [] Mime a b h e = absurd (cc)
section_is [] Header a b h e = ap Some (header_is a b e)
section_is [] (Fields names except) a b h e = ap Some (some_fields_is names except a b e)
section_is [] Text a b h e = absurd (cc)
section_is (n ∷ ns) part a b h e = absurd (cc)

-- ---- an item

by_header : (facts : MessageFacts) (a b : Tree) → fields_of a ≡ fields_of b → (item : FetchItem) → reads_body item ≡ false → value_of facts a item ≡ value_of facts b item
unfolding section_of
by_header facts a b e Body h = absurd (cc)
by_header facts a b e BodyStructure h = absurd (cc)
by_header facts a b e Envelope h = ap envelope e
by_header facts a b e Flags h = refl
by_header facts a b e InternalDate h = refl
by_header facts a b e Modseq h = refl
by_header facts a b e Rfc822 h = absurd (cc)
by_header facts a b e Rfc822Header h = ap literal (header_is a b e)
by_header facts a b e Rfc822Size h = refl
by_header facts a b e Rfc822Text h = absurd (cc)
by_header facts a b e Uid h = refl
by_header facts a b e (Part section peek bounds) h =
    ap (λ o. literal_or_nil (option_map (within bounds) o)) (section_is section.path section.part a b (not_no (is_of_header section.path section.part) h) e)

by_nothing : (facts : MessageFacts) (a b : Tree) (item : FetchItem) → reads_body item ≡ false → reads_header item ≡ false → value_of facts a item ≡ value_of facts b item
by_nothing facts a b Body h k = absurd (cc)
by_nothing facts a b BodyStructure h k = absurd (cc)
by_nothing facts a b Envelope h k = absurd (cc)
by_nothing facts a b Flags h k = refl
by_nothing facts a b InternalDate h k = refl
by_nothing facts a b Modseq h k = refl
by_nothing facts a b Rfc822 h k = absurd (cc)
by_nothing facts a b Rfc822Header h k = absurd (cc)
by_nothing facts a b Rfc822Size h k = refl
by_nothing facts a b Rfc822Text h k = absurd (cc)
by_nothing facts a b Uid h k = refl
by_nothing facts a b (Part section peek bounds) h k = absurd (let e = not_no (is_of_header section.path section.part) h in cc)

-- ---- all items

abbrev Alike : MessageFacts → Tree → Tree → FetchItem → Type 0
Alike facts a b item = item_text facts a item ≡ item_text facts b item

alike_value : (facts : MessageFacts) (a b : Tree) (item : FetchItem) → value_of facts a item ≡ value_of facts b item → Alike facts a b item
unfolding item_text
alike_value facts a b item e = ap (λ value. item_name item ++ codes " " ++ value) e

-- what holds of each item that passes neither test
alike_firsts : (test more : FetchItem → Bool) (facts : MessageFacts) (a b : Tree) →
    ((item : FetchItem) → test item ≡ false → more item ≡ false → Alike facts a b item) →
    (before items : List FetchItem) → list_any test items ≡ false → list_any more items ≡ false →
    map (item_text facts a) (first_ones before items) ≡ map (item_text facts b) (first_ones before items)
alike_firsts test more facts a b each before [] h k = refl
alike_firsts test more facts a b each before (item ∷ items) h k =
    let one = or_no (test item) (list_any test items) h in
    let other = or_no (more item) (list_any more items) k in
    let rest = alike_firsts test more facts a b each (before ++ item ∷ []) items one.1 other.1 in
    both (has_item item before) item (first_ones (before ++ item ∷ []) items) (each item one.0 other.0) rest
  where
    both : (seen : Bool) (item : FetchItem) (items : List FetchItem) → Alike facts a b item → map (item_text facts a) items ≡ map (item_text facts b) items →
        map (item_text facts a) (cond seen items (item ∷ items)) ≡ map (item_text facts b) (cond seen items (item ∷ items))
    both true item items e r = r
    both false item items e r = ap (λ text. text ∷ map (item_text facts a) items) e ∙ ap (λ texts. item_text facts b item ∷ texts) r

none_of : (items : List FetchItem) → list_any (λ item. false) items ≡ false
none_of [] = refl
none_of (item ∷ items) = none_of items

alike_uid : (facts : MessageFacts) (a b : Tree) (b' : Bool) → map (item_text facts a) (cond b' (Uid ∷ []) []) ≡ map (item_text facts b) (cond b' (Uid ∷ []) [])
alike_uid facts a b true = ap (λ text. text ∷ []) (alike_value facts a b Uid refl)
alike_uid facts a b false = refl

alike_flags : (facts : MessageFacts) (a b : Tree) (b' : Bool) → map (item_text facts a) (cond b' (Flags ∷ []) []) ≡ map (item_text facts b) (cond b' (Flags ∷ []) [])
alike_flags facts a b true = ap (λ text. text ∷ []) (alike_value facts a b Flags refl)
alike_flags facts a b false = refl

three : (f g : FetchItem → List ℕ) (xs ys zs : List FetchItem) → map f xs ≡ map g xs → map f ys ≡ map g ys → map f zs ≡ map g zs →
    map f (xs ++ ys ++ zs) ≡ map g (xs ++ ys ++ zs)
three f g xs ys zs x y z =
    map-append f (xs ++ ys) zs ∙ ap (λ l. l ++ map f zs) (map-append f xs ys) ∙ ap (λ l. l ++ map f ys ++ map f zs) x
    ∙ ap (λ l. map g xs ++ l ++ map f zs) y ∙ ap (λ l. map g xs ++ map g ys ++ l) z
    ∙ sym (map-append g (xs ++ ys) zs ∙ ap (λ l. l ++ map g zs) (map-append g xs ys))

alike_told : (test more : FetchItem → Bool) (facts : MessageFacts) (a b : Tree) →
    ((item : FetchItem) → test item ≡ false → more item ≡ false → Alike facts a b item) →
    (by_uid : Bool) (items : List FetchItem) (changed : Bool) → list_any test items ≡ false → list_any more items ≡ false →
    map (item_text facts a) (told_items by_uid items changed) ≡ map (item_text facts b) (told_items by_uid items changed)
unfolding told_items distinct_items
alike_told test more facts a b each by_uid items changed h k =
    three (item_text facts a) (item_text facts b) (uid_first by_uid items) (first_ones [] items) (flags_last changed items)
    (alike_uid facts a b (by_uid && not (has_item Uid items))) (alike_firsts test more facts a b each [] items h k)
    (alike_flags facts a b (changed && not (has_item Flags items)))

line_is : (number : ℕ) (facts : MessageFacts) (a b : Tree) (items : List FetchItem) → map (item_text facts a) items ≡ map (item_text facts b) items →
    items_line number facts a items ≡ items_line number facts b items
unfolding items_line
line_is number facts a b items e = ap (message_line number) e

pub reading_laws : ReadingLaws
reading_laws = record {
  header = λ number facts a b by_uid items changed h e.
      line_is number facts a b (told_items by_uid items changed)
      (alike_told reads_body (λ item. false) facts a b (λ item n _. alike_value facts a b item (by_header facts a b e item n)) by_uid items changed h (none_of items));
  nothing = λ number facts a b by_uid items changed h k.
      line_is number facts a b (told_items by_uid items changed)
      (alike_told reads_body reads_header facts a b (λ item n m. alike_value facts a b item (by_nothing facts a b item n m)) by_uid items changed h k);
}
