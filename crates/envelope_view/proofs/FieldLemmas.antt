-- Some fields of a header.
use Rattle.std.proofs.Common.{◌≡◌, ℕ, ◌+◌, ◌<◌, Bool, true, false, cond, List, [], ◌∷◌, ◌++◌, length, get_or, drop, refl, sym, ◌∙◌, ap}
use Rattle.std.proofs.lemmas.List.{append_assoc, drop_more}
use Rattle.std.specs.List.{filter}
use Rattle.mime_tree.specs.declared.values.Field.{Field}
use Rattle.canon_writer.specs.Folding.{field_lines}
use Rattle.canon_writer.specs.Printing.{value_text, header_lines, ended}

ended-append : (a b : List (List ℕ)) → ended (a ++ b) ≡ ended a ++ ended b
ended-append [] b = refl
ended-append (l ∷ ls) b = ap (λ t. l ++ 13 ∷ 10 ∷ t) (ended-append ls b) ∙ sym (append_assoc l (13 ∷ 10 ∷ ended ls) (ended b))

-- What is left to be written of the fields that are taken.
abbrev pub left : (Field → Bool) → List Field → List ℕ
left test fields = ended (header_lines (filter test fields))

next_field : (fields : List Field) (at : ℕ) (f : Field) → at < length fields → f ≡ get_or fields at f → drop at fields ≡ f ∷ drop (at + 1) fields
next_field fields at f h is = drop_more fields at f h ∙ ap (λ g. g ∷ drop (at + 1) fields) (sym is)

one_taken : (test : Field → Bool) (f : Field) (fs : List Field) (b : Bool) → b ≡ true →
    ended (header_lines (cond b (f ∷ filter test fs) (filter test fs))) ≡ ended (field_lines f.name (value_text f.value)) ++ left test fs
one_taken test f fs b is = ap (λ b. ended (header_lines (cond b (f ∷ filter test fs) (filter test fs)))) is ∙ ended-append (field_lines f.name (value_text f.value)) (header_lines (filter test fs))

one_left_out : (test : Field → Bool) (f : Field) (fs : List Field) (b : Bool) → b ≡ false →
    ended (header_lines (cond b (f ∷ filter test fs) (filter test fs))) ≡ left test fs
one_left_out test f fs b is = ap (λ b. ended (header_lines (cond b (f ∷ filter test fs) (filter test fs)))) is

pub taken : (test : Field → Bool) (fields : List Field) (at : ℕ) (f : Field) (out : List ℕ) → at < length fields → f ≡ get_or fields at f → test f ≡ true →
    (out ++ ended (field_lines f.name (value_text f.value))) ++ left test (drop (at + 1) fields) ≡ out ++ left test (drop at fields)
taken test fields at f out h is t =
    append_assoc out (ended (field_lines f.name (value_text f.value))) (left test (drop (at + 1) fields))
    ∙ ap (λ z. out ++ z) (sym (one_taken test f (drop (at + 1) fields) (test f) t))
    ∙ ap (λ fs. out ++ left test fs) (sym (next_field fields at f h is))

pub left_out : (test : Field → Bool) (fields : List Field) (at : ℕ) (f : Field) (out : List ℕ) → at < length fields → f ≡ get_or fields at f → test f ≡ false →
    out ++ left test (drop (at + 1) fields) ≡ out ++ left test (drop at fields)
left_out test fields at f out h is t =
    ap (λ z. out ++ z) (sym (one_left_out test f (drop (at + 1) fields) (test f) t))
    ∙ ap (λ fs. out ++ left test fs) (sym (next_field fields at f h is))
