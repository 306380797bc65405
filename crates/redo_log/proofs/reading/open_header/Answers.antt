use Rattle.std.proofs.Common.{◌≡◌, ◌-◌, ◌<◌, ◌++◌, ◌∷◌, List, ℕ, None, Some, length, get_or, drop, codes, sym, ◌∙◌, ap, arith, length-append, length-take, length-drop}
use Rattle.std.proofs.lemmas.Bool.Decides.{Decides-eqb}
use Rattle.std.proofs.lemmas.Slice.{first_rest}
use Rattle.std.proofs.lemmas.Slice.Eq.{strip_prefix_is}
use Rattle.redo_log.specs.Text.{number_text, header}
use Rattle.redo_log.proofs.Texts.{header_is, header_long}
use Rattle.redo_log.proofs.reading.open_header.Goals as goal

-- behind the gate and the letters, a header has nine bytes more
too_short : (letters behind bytes : List ℕ) → letters ≡ 1 ∷ codes "MAILROW" → bytes ≡ letters ++ behind → length behind < 9 → (format generation : ℕ) (rest : List ℕ) → bytes ≡ header format generation ++ rest → ⊥
too_short letters behind bytes are split short format generation rest is = omega (arith, ap length are, ap length split, length-append letters behind, header_long format generation rest bytes is)

pub returns-in_err-strip_prefix-clause-none : goal.returns-in_err-strip_prefix-clause-none
returns-in_err-strip_prefix-clause-none c =
    rw c.from_residual.ensures (λ format generation rest fits is.
    strip_prefix_is Decides-eqb c.args.bytes.now c.as_slice.result.now None c.in_err-strip_prefix.ensures.cases (format ∷ (number_text generation ++ rest))
    (is ∙ header_is format generation rest ∙ ap (λ (l : List ℕ). l ++ format ∷ (number_text generation ++ rest)) (sym c.as_slice.ensures)))

pub returns-in_default-clause-none : goal.returns-in_default-clause-none
returns-in_default-clause-none c format generation rest fits is =
    let x = c.in_ok-strip_prefix.field-0 in
    too_short c.as_slice.result.now x.now c.args.bytes.now c.as_slice.ensures (strip_prefix_is Decides-eqb c.args.bytes.now c.as_slice.result.now (Some x) c.in_ok-strip_prefix.ensures.cases)
    (omega (arith, c.in_default.len_below)) format generation rest is

pub returns-in_err-generation-clause-none : goal.returns-in_err-generation-clause-none
returns-in_err-generation-clause-none c =
    rw c.from_residual-in_err-generation.ensures (λ format generation rest fits is. let x = c.in_ok-strip_prefix.field-0 in
    too_short c.as_slice.result.now x.now c.args.bytes.now c.as_slice.ensures (strip_prefix_is Decides-eqb c.args.bytes.now c.as_slice.result.now (Some x) c.in_ok-strip_prefix.ensures.cases)
    (omega (arith, c.in_err-generation.ensures.none, length-take (length x.now - 1) (drop 1 x.now), length-drop 1 x.now)) format generation rest is)

pub returns-clause-some : goal.returns-clause-some
returns-clause-some c =
    let x = c.in_ok-strip_prefix.field-0 in
    let format = get_or x.now 0 0 in
    strip_prefix_is Decides-eqb c.args.bytes.now c.as_slice.result.now (Some x) c.in_ok-strip_prefix.ensures.cases
    ∙ ap (λ (l : List ℕ). l ++ x.now) c.as_slice.ensures
    ∙ ap (λ (l : List ℕ). (1 ∷ codes "MAILROW") ++ l) (first_rest x.now 0 (omega (arith, c.in-len1-up.len_at_least)) ∙ ap (λ (l : List ℕ). format ∷ l) c.in_ok-generation.ensures.some)
    ∙ sym (header_is format c.in_ok-generation.generation c.in_ok-generation.rest.now)
