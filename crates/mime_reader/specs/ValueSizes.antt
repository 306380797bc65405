-- How long the values of parameters are.
use Rattle.std.specs.Prelude.{ℕ, Bool, List, [], length, Option}
use Rattle.std.specs.Option.{option_map, unwrap_or}
use Rattle.mail_text.specs.Case.{is_same}
use Rattle.mime_reader.specs.declared.content_types.Parameter.{Parameter}
use Rattle.mime_reader.specs.ContentTypes.{parameter_value}

-- The length of what is at a front, and what is behind it.
abbrev pub sized : Option (List ℕ × List ℕ) → Option (ℕ × List ℕ)
sized found = option_map (λ (f : List ℕ × List ℕ). (length f.0, f.1)) found

-- Whether the parameter at a front has a name, in any case, how long its value is, and what is behind it.
abbrev pub named_size : List ℕ → Option (Parameter × List ℕ) → Option ((Bool × ℕ) × List ℕ)
named_size name found = option_map (λ (f : Parameter × List ℕ). ((is_same f.0.name name, length f.0.value), f.1)) found

-- How long the value of the first parameter with a name is; 0 where there is none.
abbrev pub parameter_size : List ℕ → List Parameter → ℕ
parameter_size name parameters = length (unwrap_or (parameter_value name parameters) [])
