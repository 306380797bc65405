-- How long the values of parameters are, told from where they stand.
use Rattle.std.proofs.Common.{◌≡◌, ℕ, Option, Some, None, ◌+◌, ◌<◌, ◌≤◌, Bool, true, false, eqb, List, [], ◌∷◌, ◌++◌, length, get_or, drop, refl, sym, ◌∙◌, ap, arith}
use Rattle.std.proofs.lemmas.Bool.{cond-true, cond-false}
use Rattle.std.proofs.lemmas.List.{length-append, length-drop}
use Rattle.std.specs.Option.{unwrap_or}
use Rattle.mail_text.specs.Case.{is_same}
use Rattle.mime_reader.specs.declared.content_types.Parameter.{Parameter}
use Rattle.mime_reader.specs.ContentTypes.{quoted_content, parameter_front, parameter_value, parameters_of}
use Rattle.mime_reader.specs.Found.{IsFront}
use Rattle.mime_reader.specs.ValueSizes.{sized, named_size, parameter_size}
use Rattle.mime_reader.proofs.TypeLemmas.{Quotes, quotes_none, quotes_escaped, quotes_escape, quotes_byte, quotes_end, quotes_open, parameters_more, parameters_none}

-- So many bytes of content stand before a place in a quoted string.
pub record Counts (text : List ℕ) (size : ℕ) (escaped : Bool) (at : ℕ) : Type 0 where
  pub content : List ℕ
  pub quotes : Quotes text content escaped at
  pub is : length content ≡ size
  pub small : size ≤ at

pub counts_none : (text : List ℕ) → Counts text 0 false 0
counts_none text = record { content = []; quotes = quotes_none text; is = refl; small = omega arith }

module _ (text : List ℕ) (size at : ℕ) (h : at < length text) where
  pub counts_escaped : Counts text size true at → Counts text (size + 1) false (at + 1)
  counts_escaped c =
      let few = c.small in
      record {
        content = c.content ++ get_or text at 0 ∷ [];
        quotes = quotes_escaped text c.content at h c.quotes;
        is = length-append c.content (get_or text at 0 ∷ []) ∙ ap (λ n. n + 1) c.is;
        small = omega arith;
      }

  pub counts_escape : eqb (get_or text at 0) 34 ≡ false → eqb (get_or text at 0) 92 ≡ true → Counts text size false at → Counts text size true (at + 1)
  counts_escape not_end is c =
      let few = c.small in
      record { content = c.content; quotes = quotes_escape text c.content at h not_end is c.quotes; is = c.is; small = omega arith }

  pub counts_byte : eqb (get_or text at 0) 34 ≡ false → eqb (get_or text at 0) 92 ≡ false → Counts text size false at → Counts text (size + 1) false (at + 1)
  counts_byte not_end isnt c =
      let few = c.small in
      record {
        content = c.content ++ get_or text at 0 ∷ [];
        quotes = quotes_byte text c.content at h not_end isnt c.quotes;
        is = length-append c.content (get_or text at 0 ∷ []) ∙ ap (λ n. n + 1) c.is;
        small = omega arith;
      }

  pub counts_end : eqb (get_or text at 0) 34 ≡ true → Counts text size false at → sized (quoted_content text) ≡ Some (size, drop (at + 1) text)
  counts_end is c = ap sized (quotes_end text c.content at h is c.quotes) ∙ ap (λ n. Some (n, drop (at + 1) text)) c.is

pub counts_open : (text : List ℕ) (size : ℕ) (escaped : Bool) (at : ℕ) → length text ≤ at → Counts text size escaped at → sized (quoted_content text) ≡ None
counts_open text size escaped at h c = ap sized (quotes_open text c.content escaped at h c.quotes)

-- The parameter at a front, by what was told of it.
pub record Tells (name text : List ℕ) (is_named : Bool) (size all : ℕ) : Type 0 where
  pub parameter : Parameter
  pub is : parameter_front text ≡ Some (parameter, drop all text)
  pub named : is_same parameter.name name ≡ is_named
  pub sized : length parameter.value ≡ size

tells_from : (name text : List ℕ) (is_named : Bool) (size all : ℕ) (found : Option (Parameter × List ℕ)) → parameter_front text ≡ found →
    named_size name found ≡ Some ((is_named, size), drop all text) → Tells name text is_named size all
tells_from name text is_named size all None e is = absurd (cc)
tells_from name text is_named size all (Some f) e is =
    let told : (Bool × ℕ) × List ℕ = ((is_named, size), drop all text) in
    let same : ◌≡◌ {A = (Bool × ℕ) × List ℕ} ((is_same f.0.name name, length f.0.value), f.1) told = ap (λ (found : Option ((Bool × ℕ) × List ℕ)). unwrap_or found told) is in
    record { parameter = f.0; is = e ∙ ap (λ (t : (Bool × ℕ) × List ℕ). Some (f.0, t.1)) same; named = ap (λ (t : (Bool × ℕ) × List ℕ). t.0.0) same; sized = ap (λ (t : (Bool × ℕ) × List ℕ). t.0.1) same }

tells : (name text : List ℕ) (is_named : Bool) (size all : ℕ) → IsFront text (Some ((is_named, size), all)) (named_size name (parameter_front text)) →
    Tells name text is_named size all
tells name text is_named size all f = tells_from name text is_named size all (parameter_front text) refl f.2

more : (name text : List ℕ) (is_named : Bool) (size all : ℕ) → IsFront text (Some ((is_named, size), all)) (named_size name (parameter_front text)) →
    (t : Tells name text is_named size all) → parameters_of text ≡ t.parameter ∷ parameters_of (drop all text)
more name text is_named size all f t = parameters_more text t.parameter all f.0 f.1 (length-drop all text) t.is

pub size_here : (name text : List ℕ) (size all : ℕ) → IsFront text (Some ((true, size), all)) (named_size name (parameter_front text)) →
    size ≡ parameter_size name (parameters_of text)
size_here name text size all f =
    let t = tells name text true size all f in
    let p = t.parameter in
    let ps = parameters_of (drop all text) in
    sym (ap (parameter_size name) (more name text true size all f t)
    ∙ ap (λ v. length (unwrap_or v [])) (cond-true (is_same p.name name) (Some p.value) (parameter_value name ps) t.named) ∙ t.sized)

pub size_later : (name text : List ℕ) (size all : ℕ) → IsFront text (Some ((false, size), all)) (named_size name (parameter_front text)) →
    parameter_size name (parameters_of (drop all text)) ≡ parameter_size name (parameters_of text)
size_later name text size all f =
    let t = tells name text false size all f in
    let p = t.parameter in
    let ps = parameters_of (drop all text) in
    sym (ap (parameter_size name) (more name text false size all f t)
    ∙ ap (λ v. length (unwrap_or v [])) (cond-false (is_same p.name name) (Some p.value) (parameter_value name ps) t.named))

no_front : (name text : List ℕ) (found : Option (Parameter × List ℕ)) → parameter_front text ≡ found → named_size name found ≡ None → parameter_front text ≡ None
no_front name text None e is = e
no_front name text (Some f) e is = absurd (cc)

pub size_none : (name text : List ℕ) → named_size name (parameter_front text) ≡ None → 0 ≡ parameter_size name (parameters_of text)
size_none name text e = sym (ap (parameter_size name) (parameters_none text (no_front name text (parameter_front text) refl e)))
