-- How long prints are, part by part.
use Rattle.std.proofs.Common.{◌≡◌, ℕ, ◌+◌, ◌-◌, ◌^◌, ◌<◌, inl, inr, Option, Some, None, List, [], ◌∷◌, ◌++◌, length, get_or, drop, sym, ◌∙◌, ap, arith}
use Rattle.std.specs.Option.{SomeIff, unwrap_or}
use Rattle.std.proofs.lemmas.Bool.{cases_lt}
use Rattle.std.proofs.lemmas.List.{length-append, drop_more, append_assoc}
use Rattle.mime_tree.specs.declared.values.Field.{Field}
use Rattle.mime_tree.specs.Trees.{Tree}
use Rattle.mime_tree.specs.Contents.{trees_of}
use Rattle.mime_reader.specs.Bodies.{delimiter, closing}
use Rattle.canon_writer.specs.Folding.{field_lines}
use Rattle.canon_writer.specs.Counting.{capped}
use Rattle.canon_writer.specs.Printing.{value_text, ended, print, print_header, header_lines, print_parts}
use Rattle.canon_writer.proofs.FoldLemmas.{ended-append}

-- Headers

header-more : (f : Field) (fs : List Field) → length (print_header (f ∷ fs)) ≡ length (ended (field_lines f.name (value_text f.value))) + length (print_header fs)
header-more f fs =
    let first = field_lines f.name (value_text f.value) in
    let rest = header_lines fs in
    ap (λ t. length (t ++ 13 ∷ 10 ∷ [])) (ended-append first rest) ∙ ap length (append_assoc (ended first) (ended rest) (13 ∷ 10 ∷ []))
    ∙ length-append (ended first) (ended rest ++ 13 ∷ 10 ∷ [])

pub next_field : (fields : List Field) (at size : ℕ) (f : Field) → at < length fields → f ≡ get_or fields at f →
    capped (capped (size + capped (length (ended (field_lines f.name (value_text f.value))))) + length (print_header (drop (at + 1) fields)))
    ≡ capped (size + length (print_header (drop at fields)))
next_field fields at size f h is =
    let more = ap (λ fs. length (print_header fs)) (drop_more fields at f h ∙ ap (λ g. g ∷ drop (at + 1) fields) (sym is)) ∙ header-more f (drop (at + 1) fields) in
    omega (arith, more)

-- Parts

parts-more : (boundary : List ℕ) (t : Tree) (ts : List Tree) →
    length (print_parts boundary (trees_of (t ∷ ts))) ≡ length boundary + 6 + length (print t) + length (print_parts boundary (trees_of ts))
parts-more boundary t ts =
    let rest = print_parts boundary (trees_of ts) in
    omega (arith, length-append (delimiter boundary) (13 ∷ 10 ∷ (print t ++ 13 ∷ 10 ∷ rest)), length-append (print t) (13 ∷ 10 ∷ rest))

parts-none : (boundary : List ℕ) → length (print_parts boundary (trees_of [])) ≡ length boundary + 6
parts-none boundary = omega (arith, length-append (closing boundary) (13 ∷ 10 ∷ []), length-append (delimiter boundary) (45 ∷ 45 ∷ []))

pub next_part : (boundary : List ℕ) (parts : List Tree) (at size around : ℕ) (t : Tree) → at < length parts → t ≡ get_or parts at t → around ≡ capped (length boundary + 6) →
    capped (capped (capped (size + around) + capped (length (print t))) + length (print_parts boundary (trees_of (drop (at + 1) parts))))
    ≡ capped (size + length (print_parts boundary (trees_of (drop at parts))))
next_part boundary parts at size around t h is e =
    let more = ap (λ ts. length (print_parts boundary (trees_of ts))) (drop_more parts at t h ∙ ap (λ u. u ∷ drop (at + 1) parts) (sym is))
    ∙ parts-more boundary t (drop (at + 1) parts) in
    omega (arith, more)

pub last_part : (boundary : List ℕ) (size around : ℕ) → around ≡ capped (length boundary + 6) →
    capped (size + around) ≡ capped (size + length (print_parts boundary (trees_of [])))
last_part boundary size around e = omega (arith, parts-none boundary)

-- A size that is told where there is one.
pub size_or_most : (found : Option ℕ) (size : ℕ) → SomeIff found (size < 2 ^ 64) size → unwrap_or found (2 ^ 64 - 1) ≡ capped size
size_or_most None size isnt = elim (cases_lt size (2 ^ 64)) [
  | inl less ↦ absurd (isnt less)
  | inr most ↦ omega arith
]
size_or_most (Some n) size (less, is) = omega arith
