-- Lines are counted piece by piece, and text by text where a CRLF stands between.
use Rattle.std.proofs.Common.{◌≡◌, ℕ, zero, suc, ◌+◌, ◌*◌, ◌/◌, ◌<◌, ◌≤◌, Bool, true, false, cond, eqb, List, [], ◌∷◌, ◌++◌, length, get_or, take, drop, refl, ap, ◌∙◌, sym, arith, eqb-true}
use Rattle.std.specs.Prelude.{◌&&◌}
use Rattle.std.specs.List.{flat_map}
use Rattle.std.proofs.lemmas.List.{append_assoc, length-append, length-take, length-drop, drop_more}
use Rattle.base64.specs.GeneralPurpose.{IsBytes}
use Rattle.mail_text.specs.Texts.{begins}
use Rattle.mail_text.specs.Lines.{LineLaws, is_lf, lines, pieces, put, without_first}
use Rattle.mime_tree.specs.declared.values.Field.{Field}
use Rattle.mime_tree.specs.Trees.{Tree, Content, Trees}
use Rattle.mime_tree.specs.Trees.Tree.{node}
use Rattle.mime_tree.specs.Trees.Trees.{none, more}
use Rattle.mime_tree.specs.Contents.{trees_of}
use Rattle.transfer_codec.specs.Base64.{base64}
use Rattle.transfer_codec.specs.Laws.{Base64Laws}
use Rattle.transfer_codec.specs.Layout as layout
use Rattle.transfer_codec.specs.Layout.{cut, pieces_of, printed64, printed64_size}
use Rattle.mime_reader.specs.Bodies.{delimiter, closing}
use Rattle.mime_reader.specs.Kinds.{boundary_of}
use Rattle.canon_writer.specs.Counting.{capped}
use Rattle.canon_writer.specs.Printing.{ended, header_lines, print, print_header, print_body, print_parts}
use Rattle.envelope_view.specs.Lines.{whole_lines, line_count, ended_lines}

-- Pieces

put_length : (c : ℕ) (ls : List (List ℕ)) → 1 ≤ length ls → length (put c ls) ≡ length ls
put_length c [] h = absurd (omega arith)
put_length c (l ∷ ls) h = refl

put-append : (c : ℕ) (ls ms : List (List ℕ)) → 1 ≤ length ls → put c (ls ++ ms) ≡ put c ls ++ ms
put-append c [] ms h = absurd (omega arith)
put-append c (l ∷ ls) ms h = refl

without-length : (ls : List (List ℕ)) → length (without_first ls) ≡ length ls
without-length [] = refl
without-length ([] ∷ ls) = refl
without-length ((c ∷ l) ∷ ls) = refl

without-append : (ls ms : List (List ℕ)) → 1 ≤ length ls → without_first (ls ++ ms) ≡ without_first ls ++ ms
without-append [] ms h = absurd (omega arith)
without-append ([] ∷ ls) ms h = refl
without-append ((c ∷ l) ∷ ls) ms h = refl

without_put : (c : ℕ) (ls : List (List ℕ)) → 1 ≤ length ls → without_first (put c ls) ≡ ls
without_put c [] h = absurd (omega arith)
without_put c (l ∷ ls) h = refl

put_some : (c : ℕ) (ls : List (List ℕ)) → 1 ≤ length (put c ls)
put_some c [] = omega arith
put_some c (l ∷ ls) = omega arith

choice_some : (b : Bool) (xs ys : List (List ℕ)) → 1 ≤ length xs → 1 ≤ length ys → 1 ≤ length (cond b xs ys)
choice_some true xs ys p q = p
choice_some false xs ys p q = q

-- There is one piece at least.
pub pieces_some : (text : List ℕ) → 1 ≤ length (pieces text)
pieces_some [] = omega arith
pieces_some (c ∷ cs) =
    let one : 1 ≤ length ([] ∷ without_first (pieces cs)) = omega arith in
    choice_some (eqb c 13 && begins is_lf cs) ([] ∷ without_first (pieces cs)) (put c (pieces cs)) one (put_some c (pieces cs))

more_lines : (l : List ℕ) (ls : List (List ℕ)) → 1 ≤ length ls → whole_lines (l ∷ ls) ≡ whole_lines ls + 1
more_lines l [] h = absurd (omega arith)
more_lines l (m ∷ ls) h = refl

-- The loops

-- A piece that was counted, and those behind it.
pub next_piece : (count : ℕ) (text line rest : List ℕ) → pieces text ≡ line ∷ pieces rest →
    capped (capped (count + 1) + whole_lines (pieces rest)) ≡ capped (count + whole_lines (pieces text))
next_piece count text line rest is =
    let e : whole_lines (pieces text) ≡ whole_lines (pieces rest) + 1 = ap whole_lines is ∙ more_lines line (pieces rest) (pieces_some rest) in
    omega (arith, e)

-- The last piece is a line where it isn't empty.
pub last_empty : (count : ℕ) (text : List ℕ) → pieces text ≡ text ∷ [] → true ≡ eqb (length text) 0 → capped (count + 0) ≡ capped (count + whole_lines (pieces text))
last_empty count [] is h = refl
last_empty count (c ∷ cs) is h = let none = eqb-true (length (c ∷ cs)) 0 (sym h) in absurd (omega arith)

pub last_some : (count : ℕ) (text : List ℕ) → pieces text ≡ text ∷ [] → false ≡ eqb (length text) 0 → capped (count + 1) ≡ capped (count + whole_lines (pieces text))
last_some count [] is h = absurd (let no : false ≡ true = h in cc)
last_some count (c ∷ cs) is h = ap (λ ls. capped (count + whole_lines ls)) (sym is)

pub next_ended : (count : ℕ) (text line rest : List ℕ) → pieces text ≡ line ∷ pieces rest →
    capped (capped (count + 1) + length (pieces rest)) ≡ capped (count + length (pieces text))
next_ended count text line rest is = let e = ap length is in omega (arith, e)

-- A CRLF between texts

test-append : (c : ℕ) (cs : List ℕ) (d : ℕ) (ds : List ℕ) → eqb d 10 ≡ false → begins is_lf (cs ++ d ∷ ds) ≡ begins is_lf cs
test-append c [] d ds h = h
test-append c (e ∷ cs) d ds h = refl

seam_choice : (b : Bool) (c : ℕ) (ls ms : List (List ℕ)) → 1 ≤ length ls →
    cond b ([] ∷ without_first (ls ++ ms)) (put c (ls ++ ms)) ≡ cond b ([] ∷ without_first ls) (put c ls) ++ ms
seam_choice true c ls ms h = ap (λ t. [] ∷ t) (without-append ls ms h)
seam_choice false c ls ms h = put-append c ls ms h

pub pieces-seam : (x y : List ℕ) → pieces (x ++ 13 ∷ 10 ∷ y) ≡ pieces x ++ pieces y
pieces-seam [] y = ap (λ t. [] ∷ t) (without_put 10 (pieces y) (pieces_some y))
pieces-seam (c ∷ cs) y =
    let whole = pieces (cs ++ 13 ∷ 10 ∷ y) in
    ap (λ b. cond (eqb c 13 && b) ([] ∷ without_first whole) (put c whole)) (test-append c cs 13 (10 ∷ y) refl)
    ∙ ap (λ ls. cond (eqb c 13 && begins is_lf cs) ([] ∷ without_first ls) (put c ls)) (pieces-seam cs y)
    ∙ seam_choice (eqb c 13 && begins is_lf cs) c (pieces cs) (pieces y) (pieces_some cs)

whole_lines-append : (ls ms : List (List ℕ)) → 1 ≤ length ms → whole_lines (ls ++ ms) ≡ length ls + whole_lines ms
whole_lines-append [] ms h = omega arith
whole_lines-append (l ∷ ls) ms h =
    let some : 1 ≤ length (ls ++ ms) = omega (arith, length-append ls ms) in
    omega (arith, more_lines l (ls ++ ms) some, whole_lines-append ls ms h)

pub lines-seam : (x y : List ℕ) → line_count (x ++ 13 ∷ 10 ∷ y) ≡ ended_lines x + line_count y
unfolding line_count ended_lines
lines-seam x y = ap whole_lines (pieces-seam x y) ∙ whole_lines-append (pieces x) (pieces y) (pieces_some y)

pub ended-seam : (x y : List ℕ) → ended_lines (x ++ 13 ∷ 10 ∷ y) ≡ ended_lines x + ended_lines y
unfolding ended_lines
ended-seam x y = ap length (pieces-seam x y) ∙ length-append (pieces x) (pieces y)

no_lines : line_count [] ≡ 0
unfolding line_count
no_lines = refl

one_line : ended_lines [] ≡ 1
unfolding ended_lines
one_line = refl

-- Headers

pub header-lines : (fields : List Field) → line_count (print_header fields) ≡ ended_lines (ended (header_lines fields))
header-lines fields = omega (arith, lines-seam (ended (header_lines fields)) [], no_lines)

module _ (fields : List Field) (body : List ℕ) where
  pub message-lines : line_count (print_header fields ++ body) ≡ ended_lines (ended (header_lines fields)) + line_count body
  message-lines = ap line_count (append_assoc (ended (header_lines fields)) (13 ∷ 10 ∷ []) body) ∙ lines-seam (ended (header_lines fields)) body

  pub message-ended : ended_lines (print_header fields ++ body) ≡ ended_lines (ended (header_lines fields)) + ended_lines body
  message-ended = ap ended_lines (append_assoc (ended (header_lines fields)) (13 ∷ 10 ∷ []) body) ∙ ended-seam (ended (header_lines fields)) body

-- Delimiters

pub delimiter-lines : (boundary : List ℕ) → ended_lines (delimiter boundary) ≡ ended_lines boundary
unfolding ended_lines
delimiter-lines boundary = put_length 45 (put 45 (pieces boundary)) (put_some 45 (pieces boundary)) ∙ put_length 45 (pieces boundary) (pieces_some boundary)

same_length : (b : Bool) (c : ℕ) (ls ms : List (List ℕ)) → 1 ≤ length ls → 1 ≤ length ms → length ls ≡ length ms →
    length (cond b ([] ∷ without_first ls) (put c ls)) ≡ length (cond b ([] ∷ without_first ms) (put c ms))
same_length true c ls ms p q e = omega (arith, without-length ls, without-length ms)
same_length false c ls ms p q e = omega (arith, put_length c ls p, put_length c ms q)

dashed : (text : List ℕ) → length (pieces (text ++ 45 ∷ 45 ∷ [])) ≡ length (pieces text)
dashed [] = refl
dashed (c ∷ cs) =
    let more = cs ++ 45 ∷ 45 ∷ [] in
    ap (λ b. length (cond (eqb c 13 && b) ([] ∷ without_first (pieces more)) (put c (pieces more)))) (test-append c cs 45 (45 ∷ []) refl)
    ∙ same_length (eqb c 13 && begins is_lf cs) c (pieces more) (pieces cs) (pieces_some more) (pieces_some cs) (dashed cs)

pub closing-lines : (boundary : List ℕ) → ended_lines (closing boundary) ≡ ended_lines boundary
unfolding ended_lines
closing-lines boundary = dashed (delimiter boundary) ∙ delimiter-lines boundary

-- Parts

pub parts-none : (boundary : List ℕ) → line_count (print_parts boundary none) ≡ ended_lines boundary
parts-none boundary = omega (arith, lines-seam (closing boundary) [], closing-lines boundary, no_lines)

pub parts-more : (boundary : List ℕ) (t : Tree) (ts : Trees) →
    line_count (print_parts boundary (more t ts)) ≡ ended_lines boundary + (ended_lines (print t) + line_count (print_parts boundary ts))
parts-more boundary t ts =
    let rest = print_parts boundary ts in
    omega (arith, lines-seam (delimiter boundary) (print t ++ 13 ∷ 10 ∷ rest), lines-seam (print t) rest, delimiter-lines boundary)

-- A CRLF stands at the end of the parts.
pub parts-ended : (boundary : List ℕ) (ts : Trees) → ended_lines (print_parts boundary ts) ≡ line_count (print_parts boundary ts) + 1
parts-ended boundary none = omega (arith, lines-seam (closing boundary) [], ended-seam (closing boundary) [], no_lines, one_line)
parts-ended boundary (more t ts) =
    let rest = print_parts boundary ts in
    omega (
      arith,
      lines-seam (delimiter boundary) (print t ++ 13 ∷ 10 ∷ rest),
      lines-seam (print t) rest,
      ended-seam (delimiter boundary) (print t ++ 13 ∷ 10 ∷ rest),
      ended-seam (print t) rest,
      parts-ended boundary ts,
    )

-- What is counted

module _ (known known' fields : List Field) (content : Content) (tree : Tree) (h b : ℕ) (same : known ≡ fields) (same' : known' ≡ fields) (is : node fields content ≡ tree)
    (head : h ≡ capped (ended_lines (ended (header_lines known)))) where
  in_header : h ≡ capped (ended_lines (ended (header_lines fields)))
  in_header = head ∙ ap (λ fs. capped (ended_lines (ended (header_lines fs)))) same

  pub message_counted : b ≡ capped (line_count (print_body (boundary_of known') content)) → capped (h + b) ≡ capped (line_count (print tree))
  message_counted e =
      let body = e ∙ ap (λ fs. capped (line_count (print_body (boundary_of fs) content))) same' in
      let whole = ap (λ t. line_count (print t)) (sym is) ∙ message-lines fields (print_body (boundary_of fields) content) in
      omega (arith, in_header, body, whole)

  pub ended_counted : b ≡ capped (ended_lines (print_body (boundary_of known') content)) → capped (h + b) ≡ capped (ended_lines (print tree))
  ended_counted e =
      let body = e ∙ ap (λ fs. capped (ended_lines (print_body (boundary_of fs) content))) same' in
      let whole = ap (λ t. ended_lines (print t)) (sym is) ∙ message-ended fields (print_body (boundary_of fields) content) in
      omega (arith, in_header, body, whole)

pub parts_counted : (boundary : List ℕ) (ts : Trees) (lines : ℕ) → lines ≡ capped (line_count (print_parts boundary ts)) → capped (lines + 1) ≡ capped (ended_lines (print_parts boundary ts))
parts_counted boundary ts lines e = omega (arith, e, parts-ended boundary ts)

pub next_part : (boundary : List ℕ) (parts : List Tree) (at count around lines : ℕ) (t : Tree) → at < length parts → t ≡ get_or parts at t →
    around ≡ capped (ended_lines boundary) → lines ≡ capped (ended_lines (print t)) →
    capped (capped (capped (count + around) + lines) + line_count (print_parts boundary (trees_of (drop (at + 1) parts))))
    ≡ capped (count + line_count (print_parts boundary (trees_of (drop at parts))))
next_part boundary parts at count around lines t h is e f =
    let more = ap (λ ts. line_count (print_parts boundary (trees_of ts))) (drop_more parts at t h ∙ ap (λ u. u ∷ drop (at + 1) parts) (sym is))
    ∙ parts-more boundary t (trees_of (drop (at + 1) parts)) in
    omega (arith, e, f, more)

pub last_part : (boundary : List ℕ) (count around : ℕ) → around ≡ capped (ended_lines boundary) → capped (count + around) ≡ capped (count + line_count (print_parts boundary (trees_of [])))
last_part boundary count around e = omega (arith, e, parts-none boundary)

-- Base64

cut_none : (text : List ℕ) → length text ≤ 0 → text ≡ []
cut_none [] h = refl
cut_none (c ∷ cs) h = absurd (omega arith)

-- So many lines have so many letters, each with two bytes more.
pub record IsCut (letters lines size : ℕ) : Type 0 where
  pub fits : letters ≤ 76 * lines
  pub full : 76 * lines < letters + 76
  pub size_is : size ≡ letters + 2 * lines

cut_is : (turns : ℕ) (text : List ℕ) → length text ≤ turns → IsCut (length text) (length (cut 76 turns text)) (length (flat_map layout.ended (cut 76 turns text)))
cut_is turns [] h = record { fits = omega arith; full = omega arith; size_is = omega arith }
cut_is zero (c ∷ cs) h = absurd (omega arith)
cut_is (suc turns) (c ∷ cs) h =
    let text = c ∷ cs in
    let rest = drop 76 text in
    let left = length-drop 76 text in
    let first = length-take 76 text in
    let fewer : length rest ≤ turns = omega (arith, left) in
    let r = cut_is turns rest fewer in
    let lines = cut 76 turns rest in
    let size = length-append (layout.ended (take 76 text)) (flat_map layout.ended lines) in
    let line = length-append (take 76 text) (13 ∷ 10 ∷ []) in
    let n : length (cut 76 (suc turns) text) ≡ length lines + 1 = omega arith in
    record {
      fits = omega (arith, r.fits, r.full, left, n);
      full = omega (arith, r.fits, r.full, left, n);
      size_is = omega (arith, r.fits, r.full, r.size_is, left, first, size, line, n);
    }

-- The size of what is printed tells how many lines there are.
lines_of_size : (letters lines size count : ℕ) → IsCut letters lines size → size ≡ printed64_size count → lines ≡ (count + 56) / 57
lines_of_size letters lines size count is e = omega (arith, is.fits, is.full, is.size_is, e)

module _ (line_laws : LineLaws) (laws : Base64Laws) (bytes : List ℕ) (are : IsBytes bytes) where
  pieces_are : pieces (printed64 bytes) ≡ pieces_of 76 (base64 bytes) ++ [] ∷ []
  pieces_are = line_laws.pieces_of_crlf (printed64 bytes) (laws.is_crlf bytes are) ∙ laws.lines_are bytes are

  many : length (pieces_of 76 (base64 bytes)) ≡ (length bytes + 56) / 57
  unfolding printed64
  many =
      let text = base64 bytes in
      lines_of_size (length text) (length (pieces_of 76 text)) (length (printed64 bytes)) (length bytes) (cut_is (length text) text (omega arith)) (laws.size bytes)

  pub base64-lines : line_count (printed64 bytes) ≡ (length bytes + 56) / 57
  unfolding line_count
  base64-lines = let one : 1 ≤ length {A = List ℕ} ([] ∷ []) = omega arith in omega (arith, ap whole_lines pieces_are, whole_lines-append (pieces_of 76 (base64 bytes)) ([] ∷ []) one, many)

  pub base64-ended : ended_lines (printed64 bytes) ≡ (length bytes + 56) / 57 + 1
  unfolding ended_lines
  base64-ended = omega (arith, ap length pieces_are, length-append (pieces_of 76 (base64 bytes)) ([] ∷ []), many)
