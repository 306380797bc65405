-- Items and ids are no larger than their text.
use Rattle.std.proofs.Common.{◌≡◌, ℕ, zero, suc, ◌+◌, ◌*◌, ◌≤◌, Bool, true, false, ◌||◌, List, [], ◌∷◌, ◌++◌, length, Some, refl, sym, ◌∙◌, ap, inl, inr, arith}
use Rattle.std.proofs.lemmas.Bool.{cond_both, cases_Bool, cond-true, cond-false, and_parts}
use Rattle.std.proofs.lemmas.List.{length-append}
use Rattle.mail_text.specs.Texts.{behind, is_blank, before_trimmed, without_blank_end, trimmed}
use Rattle.mail_text.specs.Lines.{ahead}
use Rattle.mime_tree.specs.declared.values.Item.{Item}
use Rattle.mime_tree.specs.declared.values.Item.TheVariants.{GroupEnd}
use Rattle.address_grammar.specs.declared.pieces.Special.TheVariants.{Comma, Colon, Semicolon, Open, Close, At}
use Rattle.address_grammar.specs.declared.pieces.Piece.{Piece}
use Rattle.address_grammar.specs.declared.pieces.Piece.TheVariants.{Run, Quoted, Comment, Literal, Mark, Blank}
use Rattle.address_grammar.specs.Spelling.{Inside, spelled, content, IsSpelled, IsText}
use Rattle.address_grammar.specs.Spelling.Inside.{nothing, byte, pair, comment}
use Rattle.address_grammar.specs.Words.{is_gap, is_wordlike, word_text, are_gaps, bare, begins_word, words, each_spaced, spaced, is_phrase, local_of, domain_of, ending_gaps, comments, comment_name}
use Rattle.address_grammar.specs.Grammar.{IsAddrSpec, IsAlone, IsNamed, IsMember, Separated, IsGroup, IsPart, Reads, route}
use Rattle.address_grammar.specs.IdGrammar.{IsIdList, ReadsIds}
use Rattle.address_grammar.specs.Weights.{item_weight, weight, ids_weight}

-- How many bytes a piece takes at least.
abbrev piece_size : Piece → ℕ
piece_size (Run x) = length x
piece_size (Quoted x) = length x + 2
piece_size (Comment x) = length x + 2
piece_size (Literal x) = length x
piece_size (Mark special) = 1
piece_size Blank = 1

abbrev size_of : List Piece → ℕ
size_of [] = 0
size_of (p ∷ ps) = piece_size p + size_of ps

size-append : (ps qs : List Piece) → size_of (ps ++ qs) ≡ size_of ps + size_of qs
size-append [] qs = omega arith
size-append (p ∷ ps) qs = omega (arith, size-append ps qs)

-- Texts of pieces

content_le : (i : Inside) → length (content i) ≤ length (spelled i)
content_le nothing = omega arith
content_le (byte c i) = omega (arith, content_le i)
content_le (pair c i) = omega (arith, content_le i)
content_le (comment j i) =
    omega (arith, content_le j, content_le i, length-append (content j) (41 ∷ content i), length-append (spelled j) (41 ∷ spelled i))

one_piece : (p : Piece) (text : List ℕ) → IsSpelled p text → piece_size p ≤ length text
one_piece (Run x) text s = let e : length text ≡ length x = ap length s.0 in omega arith
one_piece (Quoted x) text (i, q, is, x_is) =
    let a = ap length is in
    let b = ap length x_is in
    omega (arith, a, b, content_le i, length-append (spelled i) (34 ∷ []))
one_piece (Comment x) text (i, q, is, x_is) =
    let a = ap length is in
    let b = ap length x_is in
    omega (arith, a, b, content_le i, length-append (spelled i) (41 ∷ []))
one_piece (Literal x) text (y, l, is, x_is) = let b = ap length x_is in omega arith
one_piece (Mark Comma) text s = let a = ap length s in omega arith
one_piece (Mark Colon) text s = let a = ap length s in omega arith
one_piece (Mark Semicolon) text s = let a = ap length s in omega arith
one_piece (Mark Open) text s = let a = ap length s in omega arith
one_piece (Mark Close) text s = let a = ap length s in omega arith
one_piece (Mark At) text s = let a = ap length s in omega arith
one_piece Blank text (inl s) = let a = ap length s in omega arith
one_piece Blank text (inr s) = let a = ap length s in omega arith

text_size : (ps : List Piece) (text : List ℕ) → IsText ps text → size_of ps ≤ length text
text_size [] text s = omega arith
text_size (p ∷ ps) text (here, rest, s, is, ends, more) =
    let a = ap length is in
    omega (arith, a, one_piece p here s, text_size ps rest more, length-append here rest)

-- Names

spaced_ahead : (w : List ℕ) (ws : List (List ℕ)) → length (spaced (ahead w ws)) ≡ length w + length (spaced ws)
spaced_ahead w [] = omega (arith, length-append w [])
spaced_ahead w (v ∷ vs) = omega (arith, length-append (w ++ v) (each_spaced vs), length-append w v, length-append v (each_spaced vs))

spaced_more : (ws : List (List ℕ)) → length (each_spaced ws) ≤ length (spaced ws) + 1
spaced_more [] = omega arith
spaced_more (w ∷ ws) = omega arith

word_size : (p : Piece) → length (word_text p) ≤ piece_size p
word_size (Run x) = omega arith
word_size (Quoted x) = omega arith
word_size (Comment x) = omega arith
word_size (Literal x) = omega arith
word_size (Mark special) = omega arith
word_size Blank = omega arith

gap_size : (p : Piece) → is_gap p ≡ true → 1 ≤ piece_size p
gap_size (Run x) is = absurd (cc)
gap_size (Quoted x) is = absurd (cc)
gap_size (Comment x) is = omega arith
gap_size (Literal x) is = absurd (cc)
gap_size (Mark special) is = absurd (cc)
gap_size Blank is = omega arith

-- The name of a phrase: its words, and where it doesn't begin with a word, a space before each of them.
record NameFits (ps : List Piece) : Type 0 where
  whole : length (spaced (words ps)) ≤ size_of ps
  apart : begins_word ps ≡ false → length (each_spaced (words ps)) ≤ size_of ps

name_word : (p : Piece) (ps : List Piece) → is_wordlike p ≡ true → NameFits ps → NameFits (p ∷ ps)
name_word p ps is f =
    let w = word_text p in
    let joins = ahead w (words ps) in
    let begins = w ∷ words ps in
    record {
      whole = rw (is) (
          cond_both (begins_word ps) joins begins (λ ws. length (spaced ws) ≤ piece_size p + size_of ps)
          (λ b. omega (arith, spaced_ahead w (words ps), f.whole, word_size p))
          (λ b. omega (arith, length-append w (each_spaced (words ps)), f.apart b, word_size p))
          );
      apart = λ b. let no : true ≡ false = sym is ∙ b in absurd (cc);
    }

name_gap : (p : Piece) (ps : List Piece) → is_wordlike p ≡ false → is_gap p ≡ true → NameFits ps → NameFits (p ∷ ps)
name_gap p ps isnt is f = record {
  whole = rw (isnt) (omega (arith, f.whole));
  apart = λ b. rw (isnt) (omega (arith, spaced_more (words ps), f.whole, gap_size p is));
}

gap_or : (a b : Bool) → (a || b) ≡ true → b ≡ false → a ≡ true
gap_or true b h n = refl
gap_or false true h n = absurd (cc)
gap_or false false h n = h

name_fits : (ps : List Piece) → is_phrase ps ≡ true → NameFits ps
name_fits [] h = record { whole = omega arith; apart = λ b. omega arith }
name_fits (p ∷ ps) h =
    let parts = and_parts (is_gap p || is_wordlike p) (is_phrase ps) h in
    elim (cases_Bool (is_wordlike p)) [
      | inl is ↦ name_word p ps is (name_fits ps parts.1)
      | inr isnt ↦ name_gap p ps isnt (gap_or (is_gap p) (is_wordlike p) parts.0 isnt) (name_fits ps parts.1)
    ]

-- Comments

trimmed_before : (c : ℕ) (text : List ℕ) → length (before_trimmed c text) ≤ length text + 1
trimmed_before c [] = cond_both (is_blank c) [] (c ∷ []) (λ t. length t ≤ 1) (λ _. omega arith) (λ _. omega arith)
trimmed_before c (d ∷ ds) = omega arith

trimmed_end : (text : List ℕ) → length (without_blank_end text) ≤ length text
trimmed_end [] = omega arith
trimmed_end (c ∷ cs) = omega (arith, trimmed_before c (without_blank_end cs), trimmed_end cs)

behind_size : (text : List ℕ) → length (behind is_blank text) ≤ length text
behind_size [] = omega arith
behind_size (c ∷ cs) =
    let more = behind_size cs in
    cond_both (is_blank c) (behind is_blank cs) (c ∷ cs) (λ t. length t ≤ suc (length cs)) (λ _. omega arith) (λ _. omega arith)

trimmed_size : (text : List ℕ) → length (trimmed text) ≤ length text
trimmed_size text = omega (arith, trimmed_end (behind is_blank text), behind_size text)

abbrev sizes : List (List ℕ) → ℕ
sizes [] = 0
sizes (t ∷ ts) = length t + sizes ts

comments_size : (ps : List Piece) → sizes (comments ps) ≤ size_of ps
comments_size [] = omega arith
comments_size (Comment text ∷ ps) = omega (arith, comments_size ps)
comments_size (Run x ∷ ps) = omega (arith, comments_size ps)
comments_size (Quoted x ∷ ps) = omega (arith, comments_size ps)
comments_size (Literal x ∷ ps) = omega (arith, comments_size ps)
comments_size (Mark special ∷ ps) = omega (arith, comments_size ps)
comments_size (Blank ∷ ps) = omega (arith, comments_size ps)

comment_size : (ts : List (List ℕ)) → length (comment_name ts) ≤ sizes ts
comment_size [] = omega arith
comment_size (text ∷ []) = omega (arith, trimmed_size text)
comment_size (text ∷ other ∷ more) = omega arith

-- Bare pieces, and the white space and comments behind them.

gaps_bare : (ps : List Piece) → are_gaps ps ≡ true → bare ps ≡ []
gaps_bare [] h = refl
gaps_bare (p ∷ ps) h =
    let parts = and_parts (is_gap p) (are_gaps ps) h in
    cond-true (is_gap p) (bare ps) (p ∷ bare ps) parts.0 ∙ gaps_bare ps parts.1

bare_size : (ps : List Piece) → size_of (bare ps) ≤ size_of ps
bare_size [] = omega arith
bare_size (p ∷ ps) =
    let more = bare_size ps in
    cond_both (is_gap p) (bare ps) (p ∷ bare ps) (λ qs. size_of qs ≤ piece_size p + size_of ps) (λ _. omega arith) (λ _. omega arith)

ending_size : (ps : List Piece) → size_of (bare ps) + size_of (ending_gaps ps) ≤ size_of ps
ending_size [] = omega arith
ending_size (p ∷ ps) =
    elim (cases_Bool (are_gaps (p ∷ ps))) [
      | inl is ↦
          let a : size_of (bare (p ∷ ps)) ≡ 0 = ap size_of (gaps_bare (p ∷ ps) is) in
          let b : size_of (ending_gaps (p ∷ ps)) ≡ size_of (p ∷ ps) = ap size_of (cond-true (are_gaps (p ∷ ps)) (p ∷ ps) (ending_gaps ps) is) in
          omega (arith, a, b)
      | inr isnt ↦
          let more = ending_size ps in
          let b : size_of (ending_gaps (p ∷ ps)) ≡ size_of (ending_gaps ps) = ap size_of (cond-false (are_gaps (p ∷ ps)) (p ∷ ps) (ending_gaps ps) isnt) in
          let a : size_of (bare (p ∷ ps)) ≤ piece_size p + size_of (bare ps) =
          cond_both (is_gap p) (bare ps) (p ∷ bare ps) (λ qs. size_of qs ≤ piece_size p + size_of (bare ps)) (λ _. omega arith) (λ _. omega arith) in
          omega (arith, a, b, more)
    ]

-- Addresses

local_size : (p : Piece) (local : List ℕ) → local_of p ≡ Some local → length local ≤ piece_size p
local_size (Run x) local e = let same : x ≡ local = cc in let l = ap length same in omega arith
local_size (Quoted x) local e = let same : x ≡ local = cc in let l = ap length same in omega arith
local_size p local e = absurd (cc)

domain_size : (p : Piece) (domain : List ℕ) → domain_of p ≡ Some domain → length domain ≤ piece_size p
domain_size (Run x) domain e = let same : x ≡ domain = cc in let l = ap length same in omega arith
domain_size (Literal x) domain e = let same : x ≡ domain = cc in let l = ap length same in omega arith
domain_size p domain e = absurd (cc)

spec_size : (ps : List Piece) (local domain : List ℕ) → IsAddrSpec ps local domain → length local + length domain + 1 ≤ size_of ps
spec_size ps local domain s =
    let e = ap size_of s.is in
    omega (arith, e, local_size s.l local s.local_is, domain_size s.d domain s.domain_is)

alone_size : (ps : List Piece) (item : Item) → IsAlone ps item → item_weight item ≤ size_of ps
alone_size ps item a =
    let cs = comments (ending_gaps ps) in
    let e = ap item_weight a.is in
    omega (arith, e, spec_size (bare ps) a.local a.domain a.is_addr, ending_size ps, comments_size (ending_gaps ps), comment_size cs)

named_size : (ps : List Piece) (item : Item) → IsNamed ps item → item_weight item ≤ size_of ps
named_size ps item n =
    let e = ap item_weight n.is in
    let a = ap size_of n.parts in
    let b = ap size_of n.within in
    let f = name_fits n.phrase n.named in
    omega (
      arith,
      e,
      a,
      b,
      f.whole,
      size-append n.phrase (Mark Open ∷ n.rest),
      bare_size n.rest,
      size-append (route n.domains) (n.addr ++ Mark Close ∷ []),
      size-append n.addr (Mark Close ∷ []),
      spec_size n.addr n.local n.domain n.is_addr,
    )

one_size : (ps : List Piece) (items : List Item) (item : Item) → item_weight item ≤ size_of ps → items ≡ item ∷ [] → weight items ≤ size_of ps
one_size ps items item h is = let e = ap weight is in omega (arith, e, h)

member_size : (ps : List Piece) (items : List Item) → IsMember ps items → weight items ≤ size_of ps
member_size ps items (inl (gaps, is)) = let e = ap weight is in omega (arith, e)
member_size ps items (inr (item, inl a, is)) = one_size ps items item (alone_size ps item a) is
member_size ps items (inr (item, inr n, is)) = one_size ps items item (named_size ps item n) is

-- Lists

weight-append : (items more : List Item) → weight (items ++ more) ≡ weight items + weight more
weight-append [] more = omega arith
weight-append (item ∷ items) more = omega (arith, weight-append items more)

separated_size : (Part : List Piece → List Item → Type 0) → ((ps : List Piece) (items : List Item) → Part ps items → weight items ≤ size_of ps) → (n : ℕ) (ps : List Piece) (items : List Item) →
    Separated Part n ps items → weight items ≤ size_of ps
separated_size Part each zero ps items s = each ps items s
separated_size Part each (suc n) ps items (part, rest, here, others, first, parts, is, more) =
    let a = ap size_of parts in
    let b = ap weight is in
    omega (arith, a, b, each part here first, separated_size Part each n rest others more, size-append part (Mark Comma ∷ rest), weight-append here others)

group_size : (ps : List Piece) (items : List Item) → IsGroup ps items → weight items ≤ size_of ps
group_size ps items g =
    let a = ap size_of g.parts in
    let b = ap weight g.is in
    let f = name_fits g.phrase g.named in
    omega (
      arith,
      a,
      b,
      f.whole,
      size-append g.phrase (Mark Colon ∷ (g.inside ++ Mark Semicolon ∷ g.after)),
      size-append g.inside (Mark Semicolon ∷ g.after),
      separated_size IsMember member_size g.commas g.inside g.found g.addresses,
      weight-append g.found (GroupEnd ∷ []),
    )

part_size : (ps : List Piece) (items : List Item) → IsPart ps items → weight items ≤ size_of ps
part_size ps items (inl m) = member_size ps items m
part_size ps items (inr g) = group_size ps items g

pub reads_weight : (value : List ℕ) (items : List Item) → Reads value items → weight items ≤ length value
reads_weight value items r =
    omega (arith, text_size r.pieces value r.spelled, separated_size IsPart part_size r.is_list.0 r.pieces items r.is_list.1)

-- Ids

ids_size : (value : List ℕ) (ids : List (List ℕ)) → IsIdList value ids → ids_weight ids ≤ 2 * length value
ids_size value [] l = omega arith
ids_size value (id ∷ ids) (gap, rest, blank, i, is, more) =
    let a = ap length is in
    let b = ap length i.is in
    omega (arith, a, b, length-append gap (id ++ rest), length-append id rest, ids_size rest ids more)

pub ids_fit : (value : List ℕ) (ids : List (List ℕ)) → ReadsIds value ids → ids_weight ids ≤ 2 * length value
ids_fit value ids r = ids_size value ids r.is_list
