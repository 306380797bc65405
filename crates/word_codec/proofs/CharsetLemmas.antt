-- Characters appended one after another.
use Rattle.std.proofs.Common.{◌≡◌, ℕ, ◌+◌, ◌<◌, List, ◌++◌, length, get_or, drop, map, sym, ◌∙◌, ap, arith, encode_utf8_all, append_assoc}
use Rattle.std.proofs.lemmas.List.{drop_more, drop_all, append-nil}
use Rattle.std.specs.Char.{encode_utf8}

-- A character more is written, and one less is left.
pub char_more : (f : ℕ → ℕ) (out after all bytes : List ℕ) (at : ℕ) → at < length bytes → after ≡ out ++ encode_utf8 (f (get_or bytes at 0)) →
    out ++ encode_utf8_all (map f (drop at bytes)) ≡ all → after ++ encode_utf8_all (map f (drop (at + 1) bytes)) ≡ all
char_more f out after all bytes at h added before =
    let rest = encode_utf8_all (map f (drop (at + 1) bytes)) in
    ap (λ z. z ++ rest) added ∙ append_assoc out (encode_utf8 (f (get_or bytes at 0))) rest
    ∙ ap (λ z. out ++ encode_utf8_all (map f z)) (sym (drop_more bytes at 0 h)) ∙ before

pub chars_all : (f : ℕ → ℕ) (out all bytes : List ℕ) (at : ℕ) → length bytes < at + 1 → out ++ encode_utf8_all (map f (drop at bytes)) ≡ all → out ≡ all
chars_all f out all bytes at h before =
    sym (append-nil out) ∙ ap (λ z. out ++ encode_utf8_all (map f z)) (sym (drop_all at bytes (omega arith))) ∙ before
