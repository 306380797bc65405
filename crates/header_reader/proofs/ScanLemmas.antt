-- A pass over the lines of a header: what was found, and what the lines that are left tell.
use Rattle.std.proofs.Common.{◌≡◌, ℕ, ◌+◌, ◌-◌, ◌^◌, ◌<◌, ◌≤◌, min, Bool, true, false, ◌&&◌, ◌||◌, not, ltb, List, [], ◌∷◌, length, refl, sym, ◌∙◌, ap, subst, arith}
use Rattle.std.proofs.lemmas.Bool.{ltb-true, lt-ltb}
use Rattle.mail_text.specs.Texts.{begins, is_blank}
use Rattle.mail_text.specs.Lines.{has, lines}
use Rattle.header_reader.specs.Fields.{header, is_field_line}
use Rattle.header_reader.specs.Faults.{have_cr, go_on, are_fields, header_size, longest_header}
use Rattle.header_reader.specs.Places.{IsBodyPlace, IsNextLine}
use Rattle.header_reader.proofs.PlaceLemmas.{header_some}

-- Whether the lines that are left are fields, from the first line on or behind it.
abbrev pub left_fit : Bool → List (List ℕ) → Bool
left_fit true ls = are_fields ls
left_fit false ls = go_on ls

pub record IsSeen (text rest : List ℕ) (first cr fields : Bool) (size : ℕ) : Type 0 where
  pub within : length rest ≤ length text
  pub cr_is : have_cr (header (lines text)) ≡ (cr || have_cr (header (lines rest)))
  pub fields_are : are_fields (header (lines text)) ≡ (fields && left_fit first (header (lines rest)))
  pub size_is : ltb longest_header (header_size (header (lines text))) ≡ ltb longest_header (size + header_size (header (lines rest)))
  pub place_is : (place : ℕ) → IsBodyPlace rest place → IsBodyPlace text (length text - length rest + place)

pub seen_none : (text : List ℕ) → IsSeen text text true false true 0
seen_none text = record {
  within = omega arith;
  cr_is = refl;
  fields_are = refl;
  size_is = ap (ltb longest_header) (omega arith);
  place_is = λ place s. subst (IsBodyPlace text) (let same : place ≡ length text - length text + place = omega arith in same) s;
}

cr_step : (a b c : Bool) → (a || (b || c)) ≡ ((a || b) || c)
cr_step true b c = refl
cr_step false b c = refl

or_none : (a : Bool) → a ≡ (a || false)
or_none true = refl
or_none false = refl

fields_step : (f : Bool) (line : List ℕ) (ls : List (List ℕ)) (first : Bool) →
    (f && left_fit first (line ∷ ls)) ≡ ((f && (is_field_line line || (not first && begins is_blank line))) && go_on ls)
fields_step false line ls first = refl
fields_step true line ls true = ap (λ t. t && go_on ls) (or_none (is_field_line line))
fields_step true line ls false = refl

same : (s t : Bool) → (s ≡ true → t ≡ true) → (t ≡ true → s ≡ true) → s ≡ t
same true t there back = sym (there refl)
same false true there back = back refl
same false false there back = refl

ltb_same : (n a b : ℕ) → (n < a → n < b) → (n < b → n < a) → ltb n a ≡ ltb n b
ltb_same n a b there back = same (ltb n a) (ltb n b) (λ e. lt-ltb n b (there (ltb-true n a e))) (λ e. lt-ltb n a (back (ltb-true n b e)))

size_step : (size l r : ℕ) → ltb longest_header (size + (l + 2 + r)) ≡ ltb longest_header (min (size + l + 2) (2 ^ 64 - 1) + r)
size_step size l r = ltb_same longest_header (size + (l + 2 + r)) (min (size + l + 2) (2 ^ 64 - 1) + r) (λ h. omega arith) (λ h. omega arith)

pub seen_more : (text rest line behind : List ℕ) (first cr fields : Bool) (size : ℕ) → IsSeen text rest first cr fields size → IsNextLine rest line behind → 0 < length line →
    IsSeen text behind false (cr || has 13 line) (fields && (is_field_line line || (not first && begins is_blank line))) (min (size + length line + 2) (2 ^ 64 - 1))
seen_more text rest line behind first cr fields size s n h =
    let ls = header (lines behind) in
    let head : header (lines rest) ≡ line ∷ ls = n.same_header ∙ header_some line (lines behind) h in
    record {
      within = omega (arith, s.within, n.within);
      cr_is = s.cr_is ∙ ap (λ z. cr || have_cr z) head ∙ cr_step cr (has 13 line) (have_cr ls);
      fields_are = s.fields_are ∙ ap (λ z. fields && left_fit first z) head ∙ fields_step fields line ls first;
      size_is = s.size_is ∙ ap (λ z. ltb longest_header (size + header_size z)) head ∙ size_step size (length line) (header_size ls);
      place_is = λ place b.
          subst (IsBodyPlace text) (omega (arith, s.within, n.within)) (s.place_is (length rest - length behind + place) (n.later place h b));
    }

-- What a whole pass tells.
pub record IsScanned (text : List ℕ) (cr fields : Bool) (size place : ℕ) : Type 0 where
  pub cr_is : cr ≡ have_cr (header (lines text))
  pub fields_are : fields ≡ are_fields (header (lines text))
  pub size_is : ltb longest_header size ≡ ltb longest_header (header_size (header (lines text)))
  pub place_is : IsBodyPlace text place

or_end : (a : Bool) → (a || false) ≡ a
or_end true = refl
or_end false = refl

and_end : (f first : Bool) → (f && left_fit first []) ≡ f
and_end true true = refl
and_end true false = refl
and_end false first = refl

pub seen_all : (text rest line behind : List ℕ) (first cr fields : Bool) (size : ℕ) → IsSeen text rest first cr fields size → IsNextLine rest line behind → line ≡ [] →
    IsScanned text cr fields size (length text - length behind)
seen_all text rest line behind first cr fields size s n none =
    let head : header (lines rest) ≡ [] = n.same_header ∙ ap (λ z. header (z ∷ lines behind)) none in
    record {
      cr_is = sym (s.cr_is ∙ ap (λ z. cr || have_cr z) head ∙ or_end cr);
      fields_are = sym (s.fields_are ∙ ap (λ z. fields && left_fit first z) head ∙ and_end fields first);
      size_is = sym (s.size_is ∙ ap (λ z. ltb longest_header (size + header_size z)) head ∙ ap (ltb longest_header) (let sum : size + 0 ≡ size = omega arith in sum));
      place_is = subst (IsBodyPlace text) (omega (arith, s.within, n.within)) (s.place_is (length rest - length behind) (n.at_end none));
    }
