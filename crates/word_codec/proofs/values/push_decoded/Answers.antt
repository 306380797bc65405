use Rattle.std.proofs.Common.{◌≡◌, ℕ, ◌+◌, ◌-◌, ◌++◌, ◌&&◌, [], cond, true, Vec, Global, Some, None, string_bytes, length, take, drop, sym, ◌∙◌, ap, subst, arith}
use Rattle.std.proofs.lemmas.List.{take_rest}
use Rattle.std.specs.Option.{option_map}
use Rattle.word_codec.specs.Utf8.{utf8_text}
use Rattle.word_codec.specs.Charsets.{text_by}
use Rattle.word_codec.specs.Contents.{content_bytes}
use Rattle.word_codec.specs.Found.{IsFirst, NoneBefore, parts}
use Rattle.word_codec.specs.Texts.{are_blanks, value_text}
use Rattle.word_codec.specs.Words.{word_len}
use Rattle.word_codec.proofs.CutLemmas.{Written, written_none, written_all, word_stays, word_shown}
use Rattle.word_codec.proofs.values.push_decoded.Goals as goal

pub words-init : goal.words-init
words-init c = written_none c.args.value.now (string_bytes c.args.out.now)

pub words-preserved-in_default-2 : goal.words-preserved-in_default-2
words-preserved-in_default-2 c =
    let value = c.args.value.now in
    let shown = c.words.shown in
    let at = c.words.at in
    let start = c.in-Some.found.start in
    let word = parts c.in-Some.found.word in
    let out = string_bytes c.words.out in
    let all = string_bytes c.args.out.now ++ value_text value in
    let first : IsFirst (drop at value) start word = subst (λ text. IsFirst text start word) (take_rest value at) c.in-Some.ensures.first in
    let none : content_bytes word.encoding word.content ≡ None = sym c.in_ok-bytes.ensures ∙ ap (option_map (λ (v : Vec ℕ Global). v.items)) c.in_default-2.is in
    let end : at + start + word_len word ≡ at + c.in-Some.found.end = omega (arith, c.in-Some.ensures.end) in
    subst (λ k. Written value shown k c.words.behind_word out all) end (word_stays value shown at start c.words.behind_word out all word first none c.words.invariant)

pub words-preserved : goal.words-preserved
words-preserved c =
    let value = c.args.value.now in
    let shown = c.words.shown in
    let at = c.words.at in
    let start = c.in-Some.found.start in
    let word = parts c.in-Some.found.word in
    let bytes = c.in-Some-2.bytes.items in
    let out = string_bytes c.words.out in
    let all = string_bytes c.args.out.now ++ value_text value in
    let run = take (at + start - shown) (drop shown value) in
    let before = cond (c.words.behind_word && are_blanks run) [] (utf8_text run) in
    let first : IsFirst (drop at value) start word = subst (λ text. IsFirst text start word) (take_rest value at) c.in-Some.ensures.first in
    let some : content_bytes word.encoding word.content ≡ Some bytes = sym c.in_ok-bytes.ensures ∙ ap (option_map (λ (v : Vec ℕ Global). v.items)) c.in-Some-2.is in
    let end : at + start + word_len word ≡ at + c.in-Some.found.end = omega (arith, c.in-Some.ensures.end) in
    let written : string_bytes c.push_by.new.out ≡ (out ++ before) ++ text_by word.charset bytes =
    c.in_ok-push_by.ensures ∙ ap (λ z. z ++ text_by word.charset c.deref.result.now) c.in_ok-push_before_word.ensures
    ∙ ap (λ z. (out ++ before) ++ text_by word.charset z) c.deref.ensures.value in
    subst (λ z. Written value (at + c.in-Some.found.end) (at + c.in-Some.found.end) true z all) (sym written)
    (subst (λ k. Written value k k true ((out ++ before) ++ text_by word.charset bytes) all) end
    (word_shown value shown at start c.words.behind_word out all word bytes first some c.words.invariant))

pub returns : goal.returns
returns c =
    let value = c.args.value.now in
    let out = string_bytes c.words.out in
    let none = subst (λ text. NoneBefore text (length text)) (take_rest value c.words.at) c.in_default.ensures.first in
    c.in_ok-push_utf8.ensures ∙ ap (λ z. out ++ utf8_text z) (take_rest value c.words.shown)
    ∙ written_all value c.words.shown c.words.at c.words.behind_word out (string_bytes c.args.out.now ++ value_text value) none c.words.invariant
