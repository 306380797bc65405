-- Texts that begin with an encoded word.
use Rattle.std.proofs.Common.{◌≡◌, ℕ, ◌≤◌, Bool, true, false, cond, ◌&&◌, eqb, List, [], ◌∷◌, ◌++◌, length, Option, Some, None, refl, sym, ◌∙◌, ap, subst, arith}
use Rattle.std.proofs.lemmas.Bool.{cond-true, cond-false, cond_both, eqb-true, and_parts}
use Rattle.std.proofs.lemmas.List.{length-append}
use Rattle.mail_text.specs.Texts.{front, behind}
use Rattle.word_codec.specs.declared.words.Encoding.{Encoding}
use Rattle.word_codec.specs.Words.{Word, is_inner, word_at, word_behind, ended_word, encoding_of, word_len}
use Rattle.word_codec.specs.Laws.{AreInner, BeginsWith}

-- The bytes at the front that pass, and the rest

inner_front : (xs : List ℕ) (b : ℕ) (rest : List ℕ) → is_inner b ≡ false → AreInner xs → front is_inner (xs ++ b ∷ rest) ≡ xs
inner_front [] b rest h all = cond-false (is_inner b) (b ∷ front is_inner rest) [] h
inner_front (c ∷ cs) b rest h all =
    cond-true (is_inner c) (c ∷ front is_inner (cs ++ b ∷ rest)) [] all.0 ∙ ap (λ z. c ∷ z) (inner_front cs b rest h all.1)

inner_behind : (xs : List ℕ) (b : ℕ) (rest : List ℕ) → is_inner b ≡ false → AreInner xs → behind is_inner (xs ++ b ∷ rest) ≡ b ∷ rest
inner_behind [] b rest h all = cond-false (is_inner b) (behind is_inner rest) (b ∷ rest) h
inner_behind (c ∷ cs) b rest h all =
    cond-true (is_inner c) (behind is_inner (cs ++ b ∷ rest)) (c ∷ (cs ++ b ∷ rest)) all.0 ∙ inner_behind cs b rest h all.1

front_inner : (xs : List ℕ) → AreInner (front is_inner xs)
front_inner [] = tt
front_inner (c ∷ cs) = cond_both (is_inner c) (c ∷ front is_inner cs) [] AreInner (λ is. (is, front_inner cs)) (λ _. tt)

rejoined_step : (t : Bool) (c : ℕ) (xs ys cs : List ℕ) → xs ++ ys ≡ cs → cond t (c ∷ xs) [] ++ cond t ys (c ∷ cs) ≡ c ∷ cs
rejoined_step true c xs ys cs h = ap (λ z. c ∷ z) h
rejoined_step false c xs ys cs h = refl

rejoined : (xs : List ℕ) → front is_inner xs ++ behind is_inner xs ≡ xs
rejoined [] = refl
rejoined (c ∷ cs) = rejoined_step (is_inner c) c (front is_inner cs) (behind is_inner cs) cs (rejoined cs)

-- A text that begins with a word shows it.
pub word_shows : (word : Word) (text : List ℕ) → BeginsWith word text → word_at text ≡ Some word
unfolding word_at
word_shows word text b =
    let tail = word.content ++ 63 ∷ 61 ∷ b.rest in
    let inner = word.charset ++ 63 ∷ b.letter ∷ 63 ∷ tail in
    ap word_at b.text_is
    ∙ ap (λ z. word_behind z (behind is_inner inner)) (inner_front word.charset 63 (b.letter ∷ 63 ∷ tail) refl b.charset_inner)
    ∙ ap (word_behind word.charset) (inner_behind word.charset 63 (b.letter ∷ 63 ∷ tail) refl b.charset_inner)
    ∙ ap (λ o. ended_word word.charset o (front is_inner tail) (behind is_inner tail)) b.encoding_is
    ∙ ap (λ z. ended_word word.charset (Some word.encoding) z (behind is_inner tail)) (inner_front word.content 63 (61 ∷ b.rest) refl b.content_inner)
    ∙ ap (ended_word word.charset (Some word.encoding) word.content) (inner_behind word.content 63 (61 ∷ b.rest) refl b.content_inner)

-- What shows a word begins with it.

guarded : (t : Bool) (o : Option Word) (word : Word) → cond t o None ≡ Some word → (t ≡ true) × (o ≡ Some word)
guarded true o word e = (refl, e)
guarded false o word e = absurd (cc e)

tested : (c d x y : ℕ) (o : Option Word) (word : Word) → cond (eqb c x && eqb d y) o None ≡ Some word → (c ≡ x) × (d ≡ y) × (o ≡ Some word)
tested c d x y o word e =
    let got = guarded (eqb c x && eqb d y) o word e in
    let both = and_parts (eqb c x) (eqb d y) got.0 in
    (eqb-true c x both.0, eqb-true d y both.1, got.1)

record Ended (charset : List ℕ) (encoding : Option Encoding) (content rest : List ℕ) (word : Word) : Type 0 where
  charset_is : word.charset ≡ charset
  encoding_is : encoding ≡ Some word.encoding
  content_is : word.content ≡ content
  more : List ℕ
  rest_is : rest ≡ 63 ∷ 61 ∷ more

ended_is : (charset : List ℕ) (encoding : Option Encoding) (content rest : List ℕ) (word : Word) → ended_word charset encoding content rest ≡ Some word →
    Ended charset encoding content rest word
ended_is charset None content rest word e = absurd (cc e)
ended_is charset (Some encoding) content [] word e = absurd (cc e)
ended_is charset (Some encoding) content (c ∷ []) word e = absurd (cc e)
ended_is charset (Some encoding) content (c ∷ d ∷ rest) word e =
    let whole : Word = record { charset = charset; encoding = encoding; content = content } in
    let got = tested c d 63 61 (Some whole) word e in
    let same : whole ≡ word = cc got.2 in
    record {
      charset_is = ap (λ w. w.charset) (sym same);
      encoding_is = ap (λ w. Some w.encoding) same;
      content_is = ap (λ w. w.content) (sym same);
      more = rest;
      rest_is = ap (λ z. z ∷ d ∷ rest) got.0 ∙ ap (λ z. 63 ∷ z ∷ rest) got.1;
    }

record Behind (charset rest : List ℕ) (word : Word) : Type 0 where
  charset_is : word.charset ≡ charset
  letter : ℕ
  encoding_is : encoding_of letter ≡ Some word.encoding
  inner : AreInner word.content
  more : List ℕ
  rest_is : rest ≡ 63 ∷ letter ∷ 63 ∷ (word.content ++ 63 ∷ 61 ∷ more)

behind_is : (charset rest : List ℕ) (word : Word) → word_behind charset rest ≡ Some word → Behind charset rest word
behind_is charset [] word e = absurd (cc e)
behind_is charset (c ∷ []) word e = absurd (cc e)
behind_is charset (c ∷ l ∷ []) word e = absurd (cc e)
behind_is charset (c ∷ l ∷ d ∷ rest) word e =
    let got = tested c d 63 63 (ended_word charset (encoding_of l) (front is_inner rest) (behind is_inner rest)) word e in
    let ended = ended_is charset (encoding_of l) (front is_inner rest) (behind is_inner rest) word got.2 in
    record {
      charset_is = ended.charset_is;
      letter = l;
      encoding_is = ended.encoding_is;
      inner = subst AreInner (sym ended.content_is) (front_inner rest);
      more = ended.more;
      rest_is = ap (λ z. z ∷ l ∷ d ∷ rest) got.0 ∙ ap (λ z. 63 ∷ l ∷ z ∷ rest) got.1
          ∙ ap (λ z. 63 ∷ l ∷ 63 ∷ z) (sym (rejoined rest) ∙ ap (λ z. front is_inner rest ++ z) ended.rest_is ∙ ap (λ z. z ++ 63 ∷ 61 ∷ ended.more) (sym ended.content_is));
    }

pub begins : (word : Word) (text : List ℕ) → word_at text ≡ Some word → BeginsWith word text
unfolding word_at
begins word [] e = absurd (cc e)
begins word (c ∷ []) e = absurd (cc e)
begins word (c ∷ d ∷ rest) e =
    let got = tested c d 61 63 (word_behind (front is_inner rest) (behind is_inner rest)) word e in
    let b = behind_is (front is_inner rest) (behind is_inner rest) word got.2 in
    record {
      letter = b.letter;
      rest = b.more;
      encoding_is = b.encoding_is;
      charset_inner = subst AreInner (sym b.charset_is) (front_inner rest);
      content_inner = b.inner;
      text_is = ap (λ z. z ∷ d ∷ rest) got.0 ∙ ap (λ z. 61 ∷ z ∷ rest) got.1
          ∙ ap (λ z. 61 ∷ 63 ∷ z) (sym (rejoined rest) ∙ ap (λ z. front is_inner rest ++ z) b.rest_is
          ∙ ap (λ z. z ++ 63 ∷ b.letter ∷ 63 ∷ (word.content ++ 63 ∷ 61 ∷ b.more)) (sym b.charset_is));
    }

-- A word is within its text.
pub word_fits : (text : List ℕ) (word : Word) → word_at text ≡ Some word → word_len word ≤ length text
word_fits text word e =
    let b = begins word text e in
    let tail = word.content ++ 63 ∷ 61 ∷ b.rest in
    let size = ap length b.text_is in
    let outer = length-append word.charset (63 ∷ b.letter ∷ 63 ∷ tail) in
    let inner = length-append word.content (63 ∷ 61 ∷ b.rest) in
    omega arith
