-- Content types (RFC 2045 §5.1), as the values of fields.
use Rattle.std.specs.Prelude.{ℕ, zero, suc, ◌-◌, Bool, ◌&&◌, not, ◌==◌, nat_le, if◌then◌else◌, List, [], ◌∷◌, length, codes, Option, Some, None}
use Rattle.std.specs.Option.{option_map, option_and_then}
use Rattle.mail_text.specs.Texts.{begins, front, behind, is_blank}
use Rattle.mail_text.specs.Lines.{has}
use Rattle.mail_text.specs.Case.{is_same}
use Rattle.mime_reader.specs.declared.content_types.ContentType.{ContentType}
use Rattle.mime_reader.specs.declared.content_types.Parameter.{Parameter}

-- A byte of a token: a printing character of ASCII but the specials.
abbrev pub is_token : ℕ → Bool
is_token c = nat_le 33 c && (nat_le c 126 && not (has c (codes "()<>@,;:\\\"/[]?=")))

-- A byte in front of a content, which has something behind it.
abbrev pub with_byte : ℕ → Option (List ℕ × List ℕ) → Option (List ℕ × List ℕ)
with_byte c found = option_map (λ (f : List ℕ × List ℕ). (c ∷ f.0, f.1)) found

abbrev mutual
  -- The content of a quoted string whose first quote stands in front of the text, and what is behind its last quote. A `\` makes
  -- the byte behind it content, whatever it is. None where the string doesn't end.
  pub quoted_content : List ℕ → Option (List ℕ × List ℕ)
  quoted_content [] = None
  quoted_content (c ∷ cs) =
      if c == 34 then Some ([], cs) else (if c == 92 then escaped_content cs else with_byte c (quoted_content cs))

  -- The same where a `\` stands in front of the text.
  pub escaped_content : List ℕ → Option (List ℕ × List ℕ)
  escaped_content [] = None
  escaped_content (c ∷ cs) = with_byte c (quoted_content cs)

-- The value of a parameter at the front of a text, a token or a quoted string, and what is behind it.
abbrev pub value_front : List ℕ → Option (List ℕ × List ℕ)
value_front [] = None
value_front (c ∷ cs) =
    if c == 34 then quoted_content cs
    else (if is_token c then Some (front is_token (c ∷ cs), behind is_token (c ∷ cs)) else None)

-- What is behind the byte at the front of a text, if it is this one, and the blanks around it.
abbrev pub behind_byte : ℕ → List ℕ → Option (List ℕ)
behind_byte mark [] = None
behind_byte mark (c ∷ cs) = if c == mark then Some (behind is_blank cs) else None

abbrev pub behind_mark : ℕ → List ℕ → Option (List ℕ)
behind_mark mark text = behind_byte mark (behind is_blank text)

-- The parameter whose name is at the front of a text, and what is behind it.
abbrev pub named_front : List ℕ → Option (Parameter × List ℕ)
named_front text =
    if begins is_token text
    then option_map (λ (f : List ℕ × List ℕ). (record { name = front is_token text; value = f.0 }, f.1))
    (option_and_then value_front (behind_mark 61 (behind is_token text)))
    else None

-- The parameter at the front of a text, with its `;`, and what is behind it.
abbrev pub parameter_front : List ℕ → Option (Parameter × List ℕ)
parameter_front text = option_and_then named_front (behind_mark 59 text)

-- The parameters at the front of a text, one behind another, up to the first place where none stands. So many bytes of the text
-- belong to a parameter that was found before.
unfoldable pub parameters_behind : ℕ → List ℕ → List Parameter
parameters_behind over [] = []
parameters_behind (suc over) (c ∷ cs) = parameters_behind over cs
parameters_behind zero (c ∷ cs) = elim (parameter_front (c ∷ cs)) [
  | Some found ↦ found.0 ∷ parameters_behind (length cs - length found.1) cs
  | None ↦ []
]

abbrev pub parameters_of : List ℕ → List Parameter
parameters_of text = parameters_behind 0 text

-- A top-level type, and the rest of a value behind it: `/`, a subtype, and parameters.
abbrev pub with_subtype : List ℕ → List ℕ → Option ContentType
with_subtype kind [] = None
with_subtype kind (c ∷ cs) =
    if (c == 47) && begins is_token cs
    then Some (record { top_level = kind; subtype = front is_token cs; parameters = parameters_of (behind is_token cs) })
    else None

-- The content type that a value names: two tokens with a `/` between, and parameters. What is behind the last parameter counts
-- for nothing.
abbrev pub content_type_of : List ℕ → Option ContentType
content_type_of value = if begins is_token value then with_subtype (front is_token value) (behind is_token value) else None

-- The value of the first parameter with a name, in any case.
abbrev pub parameter_value : List ℕ → List Parameter → Option (List ℕ)
parameter_value name [] = None
parameter_value name (p ∷ ps) = if is_same p.name name then Some p.value else parameter_value name ps
