-- Content types, read from the front.
use Rattle.std.proofs.Common.{◌≡◌, ℕ, zero, suc, Option, Some, None, ◌+◌, ◌-◌, ◌<◌, ◌≤◌, Bool, true, false, cond, ◌&&◌, eqb, List, [], ◌∷◌, ◌++◌, length, get_or, drop, refl, sym, ◌∙◌, ap, arith}
use Rattle.std.proofs.lemmas.Bool.{cond-true, cond-false}
use Rattle.std.proofs.lemmas.List.{drop_more, drop_all, length-drop, append_assoc, append-nil}
use Rattle.std.specs.Option.{option_map, option_and_then}
use Rattle.mail_text.specs.Texts.{begins, front, behind, is_blank}
use Rattle.mail_text.specs.Case.{is_same}
use Rattle.mime_reader.specs.declared.content_types.ContentType.{ContentType}
use Rattle.mime_reader.specs.declared.content_types.Parameter.{Parameter}
use Rattle.mime_reader.specs.ContentTypes.{is_token, with_byte, quoted_content, escaped_content, value_front, behind_byte, behind_mark, named_front, parameter_front, parameters_behind, parameters_of, with_subtype, content_type_of, parameter_value}
use Rattle.mime_reader.specs.Found.{IsFront}
use Rattle.mime_reader.proofs.SearchLemmas.{IsEnd, end_self, end_more, end_behind, end_then, drop-drop}

-- A byte at the front of a text that stands behind blanks.
mark_from : (mark : ℕ) (text after : List ℕ) → behind is_blank text ≡ after → 0 < length after → eqb (get_or after 0 0) mark ≡ true →
    behind_mark mark text ≡ Some (behind is_blank (drop 1 after))
mark_from mark text [] e h is = absurd (omega arith)
mark_from mark text (c ∷ cs) e h is = ap (behind_byte mark) e ∙ cond-true (eqb c mark) (Some (behind is_blank cs)) None is

pub mark_none : (mark : ℕ) (text : List ℕ) → behind is_blank text ≡ [] → behind_mark mark text ≡ None
mark_none mark text e = ap (behind_byte mark) e

pub mark_other : (mark : ℕ) (text : List ℕ) → eqb (get_or (behind is_blank text) 0 0) mark ≡ false → behind_mark mark text ≡ None
mark_other mark text isnt = of (behind is_blank text) isnt
  where
    of : (after : List ℕ) → eqb (get_or after 0 0) mark ≡ false → behind_byte mark after ≡ None
    of [] isnt = refl
    of (c ∷ cs) isnt = cond-false (eqb c mark) (Some (behind is_blank cs)) None isnt

pub not_empty : (n : ℕ) → false ≡ eqb n 0 → 0 < n
not_empty zero e = absurd (cc)
not_empty (suc n) e = omega arith

-- Where the byte stands.
pub record IsMarked (mark : ℕ) (text rest : List ℕ) : Type 0 where
  pub some : length rest < length text
  pub is_end : IsEnd text rest
  pub is : behind_mark mark text ≡ Some rest

end_tail : (xs : List ℕ) → IsEnd xs (drop 1 xs)
end_tail [] = end_self []
end_tail (c ∷ cs) = end_more c cs cs (end_self cs)

shorter_tail : (xs : List ℕ) → 0 < length xs → length (drop 1 xs) < length xs
shorter_tail [] h = absurd (omega arith)
shorter_tail (c ∷ cs) h = omega arith

pub marked : (mark : ℕ) (text : List ℕ) → 0 < length (behind is_blank text) → eqb (get_or (behind is_blank text) 0 0) mark ≡ true →
    IsMarked mark text (behind is_blank (drop 1 (behind is_blank text)))
marked mark text h is =
    let after = behind is_blank text in
    let blank = end_behind is_blank text in
    let more = end_behind is_blank (drop 1 after) in
    record {
      some = omega (arith, blank.within, more.within, shorter_tail after h);
      is_end = end_then text after (behind is_blank (drop 1 after)) blank (end_then after (drop 1 after) (behind is_blank (drop 1 after)) (end_tail after) more);
      is = mark_from mark text after refl h is;
    }

pub marked_at : (mark : ℕ) (text rest : List ℕ) → IsMarked mark text rest →
    (1 ≤ length text - length rest) × (length text - length rest ≤ length text) × (behind_mark mark text ≡ Some (drop (length text - length rest) text))
marked_at mark text rest m =
    let h = m.some in
    (omega arith, omega arith, m.is ∙ ap Some (sym m.is_end.is))

-- What a quoted string has, from a place on: at a place behind a `\` or elsewhere.
abbrev pub content_from : Bool → List ℕ → Option (List ℕ × List ℕ)
content_from true text = escaped_content text
content_from false text = quoted_content text

abbrev pub onto : List ℕ → Option (List ℕ × List ℕ) → Option (List ℕ × List ℕ)
onto w found = option_map (λ (f : List ℕ × List ℕ). (w ++ f.0, f.1)) found

onto_byte : (w : List ℕ) (c : ℕ) (found : Option (List ℕ × List ℕ)) → onto w (with_byte c found) ≡ onto (w ++ c ∷ []) found
onto_byte w c None = refl
onto_byte w c (Some f) = ap (λ z. Some (z, f.1)) (sym (append_assoc w (c ∷ []) f.0))

pub record Quotes (text : List ℕ) (content : List ℕ) (escaped : Bool) (at : ℕ) : Type 0 where
  pub within : at ≤ length text
  pub is : onto content (content_from escaped (drop at text)) ≡ quoted_content text

onto_none : (found : Option (List ℕ × List ℕ)) → onto [] found ≡ found
onto_none None = refl
onto_none (Some f) = refl

pub quotes_none : (text : List ℕ) → Quotes text [] false 0
quotes_none text = record { within = omega arith; is = onto_none (quoted_content text) }

module _ (text content : List ℕ) (at : ℕ) (h : at < length text) where
  here : drop at text ≡ get_or text at 0 ∷ drop (at + 1) text
  here = drop_more text at 0 h

  pub quotes_escaped : Quotes text content true at → Quotes text (content ++ get_or text at 0 ∷ []) false (at + 1)
  quotes_escaped q = record {
    within = omega arith;
    is = sym (onto_byte content (get_or text at 0) (quoted_content (drop (at + 1) text))) ∙ sym (ap (λ z. onto content (escaped_content z)) here) ∙ q.is;
  }

  pub quotes_escape : eqb (get_or text at 0) 34 ≡ false → eqb (get_or text at 0) 92 ≡ true → Quotes text content false at → Quotes text content true (at + 1)
  quotes_escape not_end is q =
      let c = get_or text at 0 in
      let left = drop (at + 1) text in
      record {
        within = omega arith;
        is = sym (ap (onto content) (ap quoted_content here
            ∙ cond-false (eqb c 34) (Some ([], left)) (cond (eqb c 92) (escaped_content left) (with_byte c (quoted_content left))) not_end
            ∙ cond-true (eqb c 92) (escaped_content left) (with_byte c (quoted_content left)) is)) ∙ q.is;
      }

  pub quotes_byte : eqb (get_or text at 0) 34 ≡ false → eqb (get_or text at 0) 92 ≡ false → Quotes text content false at →
      Quotes text (content ++ get_or text at 0 ∷ []) false (at + 1)
  quotes_byte not_end isnt q =
      let c = get_or text at 0 in
      let left = drop (at + 1) text in
      record {
        within = omega arith;
        is = sym (onto_byte content c (quoted_content left)) ∙ sym (ap (onto content) (ap quoted_content here
            ∙ cond-false (eqb c 34) (Some ([], left)) (cond (eqb c 92) (escaped_content left) (with_byte c (quoted_content left))) not_end
            ∙ cond-false (eqb c 92) (escaped_content left) (with_byte c (quoted_content left)) isnt)) ∙ q.is;
      }

  pub quotes_end : eqb (get_or text at 0) 34 ≡ true → Quotes text content false at → quoted_content text ≡ Some (content, drop (at + 1) text)
  quotes_end is q =
      let c = get_or text at 0 in
      let left = drop (at + 1) text in
      sym q.is ∙ ap (onto content) (ap quoted_content here ∙ cond-true (eqb c 34) (Some ([], left)) (cond (eqb c 92) (escaped_content left) (with_byte c (quoted_content left))) is)
      ∙ ap (λ z. Some (z, left)) (append-nil content)

content_none : (escaped : Bool) → content_from escaped [] ≡ None
content_none true = refl
content_none false = refl

pub quotes_open : (text content : List ℕ) (escaped : Bool) (at : ℕ) → length text ≤ at → Quotes text content escaped at → quoted_content text ≡ None
quotes_open text content escaped at h q = sym q.is ∙ ap (onto content) (ap (content_from escaped) (drop_all at text h) ∙ content_none escaped)

-- Values of parameters.
pub value_quoted : (text : List ℕ) (found : Option (List ℕ × ℕ)) → 0 < length text → eqb (get_or text 0 0) 34 ≡ true → value_front text ≡ quoted_content (drop 1 text)
value_quoted [] found h is = absurd (omega arith)
value_quoted (c ∷ cs) found h is = cond-true (eqb c 34) (quoted_content cs) (cond (is_token c) (Some (front is_token (c ∷ cs), behind is_token (c ∷ cs))) None) is

pub value_none : (text : List ℕ) → eqb (get_or text 0 0) 34 ≡ false → begins is_token text ≡ false → value_front text ≡ None
value_none [] isnt none = refl
value_none (c ∷ cs) isnt none =
    cond-false (eqb c 34) (quoted_content cs) (cond (is_token c) (Some (front is_token (c ∷ cs), behind is_token (c ∷ cs))) None) isnt
    ∙ cond-false (is_token c) (Some (front is_token (c ∷ cs), behind is_token (c ∷ cs))) None none

pub value_empty : (text : List ℕ) → length text ≡ 0 → value_front text ≡ None
value_empty [] e = refl
value_empty (c ∷ cs) e = absurd (omega arith)

pub value_token : (text : List ℕ) → eqb (get_or text 0 0) 34 ≡ false → begins is_token text ≡ true → value_front text ≡ Some (front is_token text, behind is_token text)
value_token [] isnt some = absurd (cc)
value_token (c ∷ cs) isnt some =
    cond-false (eqb c 34) (quoted_content cs) (cond (is_token c) (Some (front is_token (c ∷ cs), behind is_token (c ∷ cs))) None) isnt
    ∙ cond-true (is_token c) (Some (front is_token (c ∷ cs), behind is_token (c ∷ cs))) None some

-- What stands at a place, told from the front.
pub front_later : {A : Type 0} (text : List ℕ) (start : ℕ) (x : A) (size : ℕ) (at_place : Option (A × List ℕ)) → start ≤ length text → length (drop start text) ≡ length text - start →
    IsFront (drop start text) (Some (x, size)) at_place → IsFront text (Some (x, start + size)) at_place
front_later text start x size at_place h e f = (
  omega (arith, f.0),
  omega (arith, f.1, e),
  f.2 ∙ ap (λ z. Some (x, z)) (drop-drop start size text),
)

pub named_none : (text : List ℕ) → begins is_token text ≡ false → named_front text ≡ None
named_none text none =
    cond-false (begins is_token text)
    (option_map (λ (f : List ℕ × List ℕ). (record { name = front is_token text; value = f.0 }, f.1)) (option_and_then value_front (behind_mark 61 (behind is_token text))))
    None none

pub named_by : (text : List ℕ) (found : Option (List ℕ × List ℕ)) → begins is_token text ≡ true → option_and_then value_front (behind_mark 61 (behind is_token text)) ≡ found →
    named_front text ≡ option_map (λ (f : List ℕ × List ℕ). (record { name = front is_token text; value = f.0 }, f.1)) found
named_by text found some e =
    cond-true (begins is_token text)
    (option_map (λ (f : List ℕ × List ℕ). (record { name = front is_token text; value = f.0 }, f.1)) (option_and_then value_front (behind_mark 61 (behind is_token text))))
    None some
    ∙ ap (option_map (λ (f : List ℕ × List ℕ). (record { name = front is_token text; value = f.0 }, f.1))) e

-- The bytes that belong to a parameter are passed over.
pub parameters_over : (over : ℕ) (text : List ℕ) → parameters_behind over text ≡ parameters_behind 0 (drop over text)
unfolding parameters_behind
parameters_over zero text = refl
parameters_over (suc over) [] = refl
parameters_over (suc over) (c ∷ cs) = parameters_over over cs

pub parameters_none : (text : List ℕ) → parameter_front text ≡ None → parameters_behind 0 text ≡ []
unfolding parameters_behind
parameters_none [] e = refl
parameters_none (c ∷ cs) e = rw (e, parameters_behind) refl

pub parameters_more : (text : List ℕ) (p : Parameter) (size : ℕ) → 1 ≤ size → size ≤ length text → length (drop size text) ≡ length text - size →
    parameter_front text ≡ Some (p, drop size text) → parameters_behind 0 text ≡ p ∷ parameters_behind 0 (drop size text)
unfolding parameters_behind
parameters_more [] p size some h e is = absurd (omega arith)
parameters_more (c ∷ cs) p zero some h e is = absurd (omega arith)
parameters_more (c ∷ cs) p (suc size) some h e is =
    rw (is, parameters_behind) (ap (λ n. p ∷ parameters_behind n cs) (let same : length cs - length (drop size cs) ≡ size = omega (arith, e) in same)
    ∙ ap (λ z. p ∷ z) (parameters_over size cs))

-- A type and its subtype.
pub subtype_none : (kind text : List ℕ) → length text ≡ 0 → with_subtype kind text ≡ None
subtype_none kind [] e = refl
subtype_none kind (c ∷ cs) e = absurd (omega arith)

subtype_is : ContentType → List ℕ → List ℕ → Option ContentType
subtype_is type kind cs = Some type

pub subtype_other : (kind text : List ℕ) → (eqb (get_or text 0 0) 47 && begins is_token (drop 1 text)) ≡ false → with_subtype kind text ≡ None
subtype_other kind [] isnt = refl
subtype_other kind (c ∷ cs) isnt =
    cond-false (eqb c 47 && begins is_token cs) (Some (record { top_level = kind; subtype = front is_token cs; parameters = parameters_of (behind is_token cs) })) None isnt

pub subtype_some : (kind text : List ℕ) → 0 < length text → (eqb (get_or text 0 0) 47 && begins is_token (drop 1 text)) ≡ true →
    with_subtype kind text ≡ Some (record { top_level = kind; subtype = front is_token (drop 1 text); parameters = parameters_of (behind is_token (drop 1 text)) })
subtype_some kind [] h is = absurd (omega arith)
subtype_some kind (c ∷ cs) h is =
    cond-true (eqb c 47 && begins is_token cs) (Some (record { top_level = kind; subtype = front is_token cs; parameters = parameters_of (behind is_token cs) })) None is

pub type_none : (value : List ℕ) → begins is_token value ≡ false → content_type_of value ≡ None
type_none value none = cond-false (begins is_token value) (with_subtype (front is_token value) (behind is_token value)) None none

pub type_some : (value : List ℕ) → begins is_token value ≡ true → content_type_of value ≡ with_subtype (front is_token value) (behind is_token value)
type_some value some = cond-true (begins is_token value) (with_subtype (front is_token value) (behind is_token value)) None some

-- The first parameter with a name.
pub parameter_here : (name : List ℕ) (ps : List Parameter) (i : ℕ) (d : Parameter) → i < length ps → is_same (get_or ps i d).name name ≡ true →
    parameter_value name (drop i ps) ≡ Some (get_or ps i d).value
parameter_here name ps i d h is =
    ap (parameter_value name) (drop_more ps i d h)
    ∙ cond-true (is_same (get_or ps i d).name name) (Some (get_or ps i d).value) (parameter_value name (drop (i + 1) ps)) is

pub parameter_later : (name : List ℕ) (ps : List Parameter) (i : ℕ) (d : Parameter) → i < length ps → is_same (get_or ps i d).name name ≡ false →
    parameter_value name (drop i ps) ≡ parameter_value name (drop (i + 1) ps)
parameter_later name ps i d h isnt =
    ap (parameter_value name) (drop_more ps i d h)
    ∙ cond-false (is_same (get_or ps i d).name name) (Some (get_or ps i d).value) (parameter_value name (drop (i + 1) ps)) isnt

pub parameters_step : (out : List Parameter) (text rest : List ℕ) (p : Parameter) (size : ℕ) → IsFront rest (Some (p, size)) (parameter_front rest) →
    out ++ parameters_of rest ≡ parameters_of text → (out ++ p ∷ []) ++ parameters_of (drop size rest) ≡ parameters_of text
parameters_step out text rest p size f e =
    append_assoc out (p ∷ []) (parameters_of (drop size rest))
    ∙ ap (λ z. out ++ z) (sym (parameters_more rest p size f.0 f.1 (length-drop size rest) f.2)) ∙ e

pub parameters_done : (out : List Parameter) (text rest : List ℕ) → parameter_front rest ≡ None → out ++ parameters_of rest ≡ parameters_of text → out ≡ parameters_of text
parameters_done out text rest none e = sym (append-nil out) ∙ ap (λ z. out ++ z) (sym (parameters_none rest none)) ∙ e
