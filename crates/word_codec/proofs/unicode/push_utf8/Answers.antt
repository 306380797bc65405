use Rattle.std.proofs.Common.{◌≡◌, ◌+◌, ◌-◌, ◌++◌, length, take, drop, refl, sym, ◌∙◌, ap, subst, append_assoc, string_bytes}
use Rattle.std.proofs.lemmas.List.{take_rest, drop-drop}
use Rattle.std.proofs.lemmas.Slice.{pushed}
use Rattle.std.specs.Char.{encode_utf8}
use Rattle.std.specs.Str.{IsValidUpTo}
use Rattle.word_codec.specs.Utf8.{replacement, utf8_text}
use Rattle.word_codec.proofs.Utf8Lemmas.{utf8_whole, utf8_more}
use Rattle.word_codec.proofs.unicode.push_utf8.Goals as goal

pub returns-in-Ok : goal.returns-in-Ok
returns-in-Ok c =
    let rest = c.bytes.rest.now in
    let out = string_bytes c.bytes.out in
    pushed c.in-Ok.text.now refl c.in_ok-push_str-in-Ok.was c.push_str.ensures.bytes
    ∙ ap (λ z. out ++ z) (c.in-Ok.ensures.cases.0 ∙ sym (utf8_whole rest c.in-Ok.ensures.cases.1)) ∙ c.bytes.invariant

replaced : encode_utf8 65533 ≡ replacement
unfolding encode_utf8
replaced = refl

pub bytes-preserved : goal.bytes-preserved
bytes-preserved c =
    let rest = c.bytes.rest.now in
    let out = string_bytes c.bytes.out in
    let n = c.valid_up_to.result in
    let valid = c.split_at.result.0.now in
    let behind = c.split_at.result.1.now in
    let v : IsValidUpTo rest n = subst (IsValidUpTo rest) (sym c.valid_up_to.ensures) c.in-Err.ensures.cases.1 in
    let left = utf8_text (drop (n + 1) rest) in
    let new_rest : take (length behind - 1) (drop 1 behind) ≡ drop (n + 1) rest = take_rest behind 1 ∙ ap (drop 1) c.split_at.ensures.back ∙ drop-drop 1 n rest in
    let written : string_bytes c.push.new.self ≡ (out ++ valid) ++ encode_utf8 65533 = pushed (encode_utf8 65533) c.in_ok-push_valid-in-Err.ensures c.in_ok-push-in-Err.was c.push.ensures.bytes in
    ap (λ z. string_bytes c.push.new.self ++ utf8_text z) new_rest
    ∙ ap (λ z. z ++ left) (written ∙ ap (λ z. (out ++ valid) ++ z) replaced) ∙ append_assoc (out ++ valid) replacement left ∙ append_assoc out valid (replacement ++ left)
    ∙ ap (λ z. out ++ (z ++ (replacement ++ left))) c.split_at.ensures.front ∙ ap (λ z. out ++ z) (sym (utf8_more rest n v)) ∙ c.bytes.invariant
