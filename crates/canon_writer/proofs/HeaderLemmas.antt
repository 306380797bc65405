-- A header is written field by field.
use Rattle.std.proofs.Common.{◌≡◌, ℕ, ◌+◌, ◌<◌, List, ◌∷◌, ◌++◌, length, get_or, drop, sym, ◌∙◌, ap}
use Rattle.std.proofs.lemmas.List.{append_assoc, drop_more}
use Rattle.mime_tree.specs.declared.values.Field.{Field}
use Rattle.canon_writer.specs.Folding.{field_lines}
use Rattle.canon_writer.specs.Printing.{value_text, header_lines, ended}
use Rattle.canon_writer.proofs.FoldLemmas.{ended-append}

next_field : (fields : List Field) (at : ℕ) (f : Field) → at < length fields → f ≡ get_or fields at f → drop at fields ≡ f ∷ drop (at + 1) fields
next_field fields at f h is = drop_more fields at f h ∙ ap (λ g. g ∷ drop (at + 1) fields) (sym is)

pub header_more : (fields : List Field) (at : ℕ) (f : Field) (out : List ℕ) → at < length fields → f ≡ get_or fields at f →
    (out ++ ended (field_lines f.name (value_text f.value))) ++ ended (header_lines (drop (at + 1) fields)) ≡ out ++ ended (header_lines (drop at fields))
header_more fields at f out h is =
    let first = field_lines f.name (value_text f.value) in
    let left = header_lines (drop (at + 1) fields) in
    append_assoc out (ended first) (ended left) ∙ ap (λ z. out ++ z) (sym (ended-append first left))
    ∙ ap (λ fs. out ++ ended (header_lines fs)) (sym (next_field fields at f h is))
