-- Unfolding, line by line.
use Rattle.std.proofs.Common.{◌≡◌, ℕ, ◌<◌, true, false, cond, List, [], ◌∷◌, ◌++◌, length, map, refl, sym, ◌∙◌, ap, arith}
use Rattle.std.proofs.lemmas.Bool.{cond_both, cond-true, cond-false}
use Rattle.std.proofs.lemmas.List.{append_assoc}
use Rattle.mail_text.specs.Texts.{begins, is_blank}
use Rattle.mail_text.specs.Lines.{lines}
use Rattle.header_reader.specs.declared.raw.RawField.{RawField}
use Rattle.header_reader.specs.Fields.{header, continued, unfolded, field_of, fields_of}
use Rattle.header_reader.specs.Places.{IsNextLine}
use Rattle.header_reader.proofs.PlaceLemmas.{header_some}

begins-append : (line m : List ℕ) → 0 < length line → begins is_blank (line ++ m) ≡ begins is_blank line
begins-append [] m h = absurd (omega arith)
begins-append (c ∷ cs) m h = refl

pub blank_some : (line : List ℕ) → begins is_blank line ≡ true → 0 < length line
blank_some [] e = absurd (cc)
blank_some (c ∷ cs) e = omega arith

pub taken_in : (current line : List ℕ) (us : List (List ℕ)) → begins is_blank line ≡ true → continued current (continued line us) ≡ continued (current ++ line) us
taken_in current line [] is = cond-true (begins is_blank line) ((current ++ line) ∷ []) (current ∷ line ∷ []) is
taken_in current line (m ∷ ms) is =
    cond_both (begins is_blank m) ((line ++ m) ∷ ms) (line ∷ m ∷ ms)
    (λ us. continued current us ≡ cond (begins is_blank m) (((current ++ line) ++ m) ∷ ms) ((current ++ line) ∷ m ∷ ms))
    (λ yes. cond-true (begins is_blank (line ++ m)) ((current ++ (line ++ m)) ∷ ms) (current ∷ (line ++ m) ∷ ms) (begins-append line m (blank_some line is) ∙ is)
    ∙ ap (λ z. z ∷ ms) (sym (append_assoc current line m)) ∙ sym (cond-true (begins is_blank m) (((current ++ line) ++ m) ∷ ms) ((current ++ line) ∷ m ∷ ms) yes))
    (λ no. cond-true (begins is_blank line) ((current ++ line) ∷ m ∷ ms) (current ∷ line ∷ m ∷ ms) is
    ∙ sym (cond-false (begins is_blank m) (((current ++ line) ++ m) ∷ ms) ((current ++ line) ∷ m ∷ ms) no))

pub stands_apart : (current line : List ℕ) (us : List (List ℕ)) → 0 < length line → begins is_blank line ≡ false → continued current (continued line us) ≡ current ∷ continued line us
stands_apart current line [] h isnt = cond-false (begins is_blank line) ((current ++ line) ∷ []) (current ∷ line ∷ []) isnt
stands_apart current line (m ∷ ms) h isnt =
    cond_both (begins is_blank m) ((line ++ m) ∷ ms) (line ∷ m ∷ ms) (λ us. continued current us ≡ current ∷ us)
    (λ _. cond-false (begins is_blank (line ++ m)) ((current ++ (line ++ m)) ∷ ms) (current ∷ (line ++ m) ∷ ms) (begins-append line m h ∙ isnt))
    (λ _. cond-false (begins is_blank line) ((current ++ line) ∷ m ∷ ms) (current ∷ line ∷ m ∷ ms) isnt)

-- The fields that are out, the line that is being unfolded, and the lines that are left.
abbrev pub IsUnfolded : List ℕ → List ℕ → List ℕ → List RawField → Type 0
IsUnfolded text rest current out = out ++ map field_of (unfolded (current ∷ header (lines rest))) ≡ fields_of (header (lines text))

pub unfold_first : (text line behind : List ℕ) (out : List RawField) → out ≡ [] → IsNextLine text line behind → 0 < length line → IsUnfolded text behind line out
unfold_first text line behind out none n h =
    ap (λ z. z ++ map field_of (unfolded (line ∷ header (lines behind)))) none ∙ sym (ap fields_of (n.same_header ∙ header_some line (lines behind) h))

pub unfold_none : (text line behind : List ℕ) (out : List RawField) → out ≡ [] → IsNextLine text line behind → line ≡ [] → out ≡ fields_of (header (lines text))
unfold_none text line behind out none n empty =
    none ∙ sym (ap fields_of (n.same_header ∙ ap (λ z. header (z ∷ lines behind)) empty))

pub unfold_more : (text rest line behind current : List ℕ) (out : List RawField) → IsUnfolded text rest current out → IsNextLine rest line behind → begins is_blank line ≡ true →
    IsUnfolded text behind (current ++ line) out
unfold_more text rest line behind current out u n is =
    let ls = header (lines behind) in
    let head : header (lines rest) ≡ line ∷ ls = n.same_header ∙ header_some line (lines behind) (blank_some line is) in
    ap (λ z. out ++ map field_of z) (sym (ap (λ z. unfolded (current ∷ z)) head ∙ taken_in current line (unfolded ls) is)) ∙ u

pub unfold_next : (text rest line behind current : List ℕ) (out : List RawField) → IsUnfolded text rest current out → IsNextLine rest line behind → 0 < length line →
    begins is_blank line ≡ false → IsUnfolded text behind line (out ++ field_of current ∷ [])
unfold_next text rest line behind current out u n h isnt =
    let ls = header (lines behind) in
    let head : header (lines rest) ≡ line ∷ ls = n.same_header ∙ header_some line (lines behind) h in
    append_assoc out (field_of current ∷ []) (map field_of (unfolded (line ∷ ls)))
    ∙ ap (λ z. out ++ map field_of z) (sym (ap (λ z. unfolded (current ∷ z)) head ∙ stands_apart current line (unfolded ls) h isnt)) ∙ u

pub unfold_last : (text rest line behind current : List ℕ) (out : List RawField) → IsUnfolded text rest current out → IsNextLine rest line behind → line ≡ [] →
    out ++ field_of current ∷ [] ≡ fields_of (header (lines text))
unfold_last text rest line behind current out u n empty =
    let head : header (lines rest) ≡ [] = n.same_header ∙ ap (λ z. header (z ∷ lines behind)) empty in
    ap (λ z. out ++ map field_of (unfolded (current ∷ z))) (sym head) ∙ u
