-- Sections are pieces of the print.
use Rattle.std.proofs.Common.{◌≡◌, ℕ, zero, suc, Bool, true, false, cond, eqb, Option, Some, None, List, [], ◌∷◌, ◌++◌, refl, sym, ap, ◌∙◌, subst}
use Rattle.std.specs.Option.{option_and_then}
use Rattle.std.proofs.lemmas.List.{append_assoc, append-nil}
use Rattle.mime_tree.specs.declared.values.Field.{Field}
use Rattle.mime_tree.specs.Trees.{Tree, Trees}
use Rattle.mime_tree.specs.Trees.Tree.{node}
use Rattle.mime_tree.specs.Trees.Content.{leaf, multi, nested}
use Rattle.mime_tree.specs.Trees.Trees.{none, more}
use Rattle.mime_reader.specs.Bodies.{delimiter}
use Rattle.mime_reader.specs.Kinds.{boundary_of}
use Rattle.canon_writer.specs.Printing.{print, print_header, print_body, print_parts}
use Rattle.imap_grammar.specs.declared.items.Section.{Section}
use Rattle.imap_grammar.specs.declared.items.SectionPart.{SectionPart}
use Rattle.imap_grammar.specs.declared.items.SectionPart.TheVariants.{Whole, Mime, Header, Fields, Text}
use Rattle.envelope_view.specs.Parts.{numbered, part_of_message, part_of_part, part_behind, part_at, message_within}
use Rattle.envelope_view.specs.Sections.{header, body, of_message, of_part, at_path, section_of}
use Rattle.envelope_view.specs.Laws.{IsSlice, IsOnePiece, SectionLaws}

itself : (text : List ℕ) → IsSlice text text
itself text = record { before = []; after = []; whole_is = sym (append-nil text) }

end : (x y : List ℕ) → IsSlice y (x ++ y)
end x y = record { before = x; after = []; whole_is = ap (λ z. x ++ z) (sym (append-nil y)) }

front : (x y : List ℕ) → IsSlice x (x ++ y)
front x y = record { before = []; after = y; whole_is = refl }

within : (a b c : List ℕ) → IsSlice a b → IsSlice b c → IsSlice a c
within a b c p q =
    record {
      before = q.before ++ p.before;
      after = p.after ++ q.after;
      whole_is =
          q.whole_is ∙ ap (λ z. q.before ++ (z ++ q.after)) p.whole_is
          ∙ simp append_assoc;
    }

-- Parts

first_part : (boundary : List ℕ) (t : Tree) (ts : Trees) → IsSlice (print t) (print_parts boundary (more t ts))
first_part boundary t ts =
    record {
      before = delimiter boundary ++ 13 ∷ 10 ∷ [];
      after = 13 ∷ 10 ∷ print_parts boundary ts;
      whole_is = sym (append_assoc (delimiter boundary) (13 ∷ 10 ∷ []) (print t ++ 13 ∷ 10 ∷ print_parts boundary ts));
    }

other_parts : (boundary : List ℕ) (t : Tree) (ts : Trees) → IsSlice (print_parts boundary ts) (print_parts boundary (more t ts))
other_parts boundary t ts =
    record {
      before = delimiter boundary ++ 13 ∷ 10 ∷ (print t ++ 13 ∷ 10 ∷ []);
      after = [];
      whole_is =
          ap (λ z. delimiter boundary ++ 13 ∷ 10 ∷ z) (sym (append_assoc (print t) (13 ∷ 10 ∷ []) (print_parts boundary ts)))
          ∙ sym (append_assoc (delimiter boundary) (13 ∷ 10 ∷ (print t ++ 13 ∷ 10 ∷ [])) (print_parts boundary ts))
          ∙ ap (λ z. (delimiter boundary ++ 13 ∷ 10 ∷ (print t ++ 13 ∷ 10 ∷ [])) ++ z) (sym (append-nil (print_parts boundary ts)));
    }

one_of : (n : ℕ) (boundary : List ℕ) (ts : Trees) (part : Tree) → numbered n ts ≡ Some part → IsSlice (print part) (print_parts boundary ts)
one_of n boundary none part is = absurd (let no : None ≡ Some part = is in cc)
one_of zero boundary (more t ts) part is = absurd (let no : None ≡ Some part = is in cc)
one_of (suc zero) boundary (more t ts) part is =
    let same : t ≡ part = (let e : Some t ≡ Some part = is in cc) in
    subst (λ (p : Tree). IsSlice (print p) (print_parts boundary (more t ts))) same (first_part boundary t ts)
one_of (suc (suc n)) boundary (more t ts) part is =
    within (print part) (print_parts boundary ts) (print_parts boundary (more t ts)) (one_of (suc n) boundary ts part is) (other_parts boundary t ts)

body_of : (tree : Tree) → IsSlice (body tree) (print tree)
body_of (node fields content) = end (print_header fields) (print_body (boundary_of fields) content)

header_of : (tree : Tree) → IsSlice (header tree) (print tree)
header_of (node fields content) = front (print_header fields) (print_body (boundary_of fields) content)

only : (b : Bool) (tree part : Tree) → cond b (Some tree) None ≡ Some part → IsSlice (print part) (print tree)
only true tree part is = let same : tree ≡ part = (let e : Some tree ≡ Some part = is in cc) in subst (λ (p : Tree). IsSlice (print p) (print tree)) same (itself (print tree))
only false tree part is = absurd (let no : None ≡ Some part = is in cc)

of_multipart : (n : ℕ) (fields : List Field) (ts : Trees) (part : Tree) → numbered n ts ≡ Some part → IsSlice (print part) (print (node fields (multi ts)))
of_multipart n fields ts part is =
    within (print part) (print_parts (boundary_of fields) ts) (print (node fields (multi ts))) (one_of n (boundary_of fields) ts part is) (body_of (node fields (multi ts)))

message_part : (n : ℕ) (tree part : Tree) → part_of_message n tree ≡ Some part → IsSlice (print part) (print tree)
message_part n (node fields (leaf encoding bytes)) part is = only (eqb n 1) (node fields (leaf encoding bytes)) part is
message_part n (node fields (multi ts)) part is = of_multipart n fields ts part is
message_part n (node fields (nested tree)) part is = only (eqb n 1) (node fields (nested tree)) part is

part_part : (n : ℕ) (tree part : Tree) → part_of_part n tree ≡ Some part → IsSlice (print part) (print tree)
part_part n (node fields (leaf encoding bytes)) part is = absurd (let no : None ≡ Some part = is in cc)
part_part n (node fields (multi ts)) part is = of_multipart n fields ts part is
part_part n (node fields (nested tree)) part is =
    within (print part) (print tree) (print (node fields (nested tree))) (message_part n tree part is) (body_of (node fields (nested tree)))

none_behind : (ns : List ℕ) → part_behind ns None ≡ None
none_behind [] = refl
none_behind (n ∷ ns) = none_behind ns

behind : (ns : List ℕ) (found : Option Tree) (tree part : Tree) → ((t : Tree) → found ≡ Some t → IsSlice (print t) (print tree)) →
    part_behind ns found ≡ Some part → IsSlice (print part) (print tree)
behind [] found tree part known is = known part is
behind (n ∷ ns) None tree part known is = absurd (let no : None ≡ Some part = sym (none_behind ns) ∙ is in cc)
behind (n ∷ ns) (Some t) tree part known is =
    behind ns (part_of_part n t) tree part (λ u e. within (print u) (print t) (print tree) (part_part n t u e) (known t refl)) is

-- Sections

message_in : (tree inner : Tree) → message_within tree ≡ Some inner → IsSlice (print inner) (print tree)
message_in (node fields (leaf encoding bytes)) inner is = absurd (let no : None ≡ Some inner = is in cc)
message_in (node fields (multi ts)) inner is = absurd (let no : None ≡ Some inner = is in cc)
message_in (node fields (nested tree)) inner is =
    let same : tree ≡ inner = (let e : Some tree ≡ Some inner = is in cc) in
    subst (λ (p : Tree). IsSlice (print p) (print (node fields (nested tree)))) same (body_of (node fields (nested tree)))

the_text : (a b whole : List ℕ) → Some a ≡ Some b → IsSlice a whole → IsSlice b whole
the_text a b whole is slice = let same : a ≡ b = cc in subst (λ (t : List ℕ). IsSlice t whole) same slice

message_text : (part : SectionPart) (tree : Tree) (text : List ℕ) → IsOnePiece part → of_message part tree ≡ Some text → IsSlice text (print tree)
message_text Whole tree text one is = the_text (print tree) text (print tree) is (itself (print tree))
message_text Mime tree text one is = absurd (let no : None ≡ Some text = is in cc)
message_text Header tree text one is = the_text (header tree) text (print tree) is (header_of tree)
message_text (Fields names except) tree text one is = absurd one
message_text Text tree text one is = the_text (body tree) text (print tree) is (body_of tree)

inner_text : (part : SectionPart) (found : Option Tree) (tree : Tree) (text : List ℕ) → IsOnePiece part → ((t : Tree) → found ≡ Some t → IsSlice (print t) (print tree)) →
    option_and_then (of_message part) found ≡ Some text → IsSlice text (print tree)
inner_text part None tree text one known is = absurd (let no : None ≡ Some text = is in cc)
inner_text part (Some t) tree text one known is = within text (print t) (print tree) (message_text part t text one is) (known t refl)

part_text : (part : SectionPart) (tree : Tree) (text : List ℕ) → IsOnePiece part → of_part part tree ≡ Some text → IsSlice text (print tree)
part_text Whole tree text one is = the_text (body tree) text (print tree) is (body_of tree)
part_text Mime tree text one is = the_text (header tree) text (print tree) is (header_of tree)
part_text Header tree text one is = inner_text Header (message_within tree) tree text one (λ t e. message_in tree t e) is
part_text (Fields names except) tree text one is = absurd one
part_text Text tree text one is = inner_text Text (message_within tree) tree text one (λ t e. message_in tree t e) is

found_text : (part : SectionPart) (found : Option Tree) (tree : Tree) (text : List ℕ) → IsOnePiece part → ((t : Tree) → found ≡ Some t → IsSlice (print t) (print tree)) →
    option_and_then (of_part part) found ≡ Some text → IsSlice text (print tree)
found_text part None tree text one known is = absurd (let no : None ≡ Some text = is in cc)
found_text part (Some t) tree text one known is = within text (print t) (print tree) (part_text part t text one is) (known t refl)

path_text : (path : List ℕ) (part : SectionPart) (tree : Tree) (text : List ℕ) → IsOnePiece part → at_path path part tree ≡ Some text → IsSlice text (print tree)
path_text [] part tree text one is = message_text part tree text one is
path_text (n ∷ ns) part tree text one is =
    found_text part (part_at n ns tree) tree text one (λ t e. behind ns (part_of_message n tree) tree t (λ u f. message_part n tree u f) e) is

section_text : (section : Section) (tree : Tree) (text : List ℕ) → IsOnePiece section.part → section_of section tree ≡ Some text → IsSlice text (print tree)
unfolding section_of
section_text section tree text one is = path_text section.path section.part tree text one is

two_pieces : (tree : Tree) → print tree ≡ header tree ++ body tree
two_pieces (node fields content) = refl

pub section_laws : SectionLaws
section_laws = record { slice = section_text; two_pieces = two_pieces }
