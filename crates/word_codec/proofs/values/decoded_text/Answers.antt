use Rattle.std.proofs.Common.{◌≡◌, ◌++◌, false, not, Option, Some, None, string_bytes, length, sym, ◌∙◌, ap}
use Rattle.std.specs.Option.{MatchOption, is_some}
use Rattle.word_codec.specs.Found.{NoneBefore}
use Rattle.word_codec.specs.Texts.{value_text}
use Rattle.word_codec.specs.Utf8.{utf8_text}
use Rattle.word_codec.proofs.CutLemmas.{no_words}
use Rattle.word_codec.proofs.values.decoded_text.Goals as goal
use Rattle.word_codec.proofs.values.decoded_text.Goals.{then-is_none+in_ok-push_utf8, else-is_none+in_ok-push_decoded}

-- What holds where there is nothing.
of_none : {A : Type 0} (o : Option A) (P : Type 0) (Q : A → Type 0) → is_some o ≡ false → MatchOption o P Q → P
of_none None P Q e h = h
of_none (Some x) P Q e h = absurd (cc e)

pub returns : goal.returns
returns c =
    let value = c.args.value.now in
    let empty = c.in_ok-out.ensures.bytes in
    elim c.if-is_none.branch [
      | then-is_none+in_ok-push_utf8 w ↦
          let none : NoneBefore value (length value) = of_none _ _ _ (c.is_none.ensures ∙ ap not w.if-is_none.true) c.first_word.ensures.first in
          ap string_bytes w.out-is ∙ w.in_ok-push_utf8.ensures ∙ ap (λ z. z ++ utf8_text value) empty ∙ sym (no_words value none)
      | else-is_none+in_ok-push_decoded w ↦ ap string_bytes w.out-is ∙ w.in_ok-push_decoded.ensures ∙ ap (λ z. z ++ value_text value) empty
    ]
