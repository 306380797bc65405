-- A printed header in front of a body.
use Rattle.std.proofs.Common.{◌≡◌, ℕ, ◌<◌, ◌≤◌, true, false, cond, ◌||◌, not, ltb, List, [], ◌∷◌, ◌++◌, length, map, Some, None, refl, sym, ◌∙◌, ap, subst, arith}
use Rattle.std.proofs.lemmas.Bool.{cond-false, and_parts, or_from, le-ltb, not_from_true}
use Rattle.std.proofs.lemmas.List.{append_assoc}
use Rattle.mail_text.specs.Texts.{begins, is_blank}
use Rattle.mail_text.specs.Lines.{lines, joined, has, AreLines, IsCrlf, LineLaws}
use Rattle.mime_tree.specs.declared.values.Field.{Field}
use Rattle.mime_tree.specs.declared.reasons.Reason.TheVariants.{LoneReturn, NoField, LongHeader}
use Rattle.header_reader.specs.declared.raw.RawField.{RawField}
use Rattle.header_reader.specs.Fields.{header, body, is_field_line, fields_of}
use Rattle.header_reader.specs.Faults.{have_cr, go_on, are_fields, header_size, longest_header, fault_of}
use Rattle.header_reader.specs.Good.{AllGood}
use Rattle.header_reader.specs.Values.{read_field}
use Rattle.mime_reader.specs.Reading.{AreFields, AreGoodFields}
use Rattle.canon_writer.specs.Printing.{header_lines, ended, print_header}
use Rattle.canon_writer.proofs.ValueLemmas.{ValueLaws}
use Rattle.canon_writer.proofs.KeptLemmas.{kept, kept_good, kept_again, kept_lines}
use Rattle.canon_writer.proofs.FieldLemmas.{lines_of, fields-lines_of, are_fields-lines_of, fields-go_on, AllLack, no_zero_in, no_lf_in, no_cr_in}

have_cr-none : (ls : List (List ℕ)) → AllLack 13 ls → have_cr ls ≡ false
have_cr-none [] h = refl
have_cr-none (l ∷ ls) h = or_from (has 13 l) (have_cr ls) h.0 (have_cr-none ls h.1)

no_fault : (ls : List (List ℕ)) → have_cr ls ≡ false → are_fields ls ≡ true → header_size ls ≤ longest_header → fault_of ls ≡ None
no_fault ls cr fields size =
    let long = cond (ltb longest_header (header_size ls)) (Some LongHeader) None in
    cond-false (have_cr ls) (Some LoneReturn) (cond (not (are_fields ls)) (Some NoField) long) cr
    ∙ cond-false (not (are_fields ls)) (Some NoField) long (not_from_true (are_fields ls) fields)
    ∙ cond-false (ltb longest_header (header_size ls)) (Some LongHeader) None (le-ltb longest_header (header_size ls) size)

-- What the printed lines of good fields have.
pub record IsHeader (fields : List Field) : Type 0 where
  pub are : are_fields (header_lines fields) ≡ true
  pub read : map read_field (fields_of (header_lines fields)) ≡ fields
  pub no_zero : AllLack 0 (header_lines fields)
  pub no_lf : AllLack 10 (header_lines fields)
  pub no_cr : AllLack 13 (header_lines fields)

-- The fields that some were read from.
record Origin (fields : List Field) : Type 0 where
  raws : List RawField
  good : AllGood raws
  read : map read_field raws ≡ fields

origin : (fields : List Field) → AreGoodFields fields → Origin fields
origin [] g = record { raws = []; good = tt; read = refl }
origin (f ∷ fs) g =
    let more = origin fs g.1 in
    let first = g.0 in
    record {
      raws = first.raw ∷ more.raws;
      good = (first.is_good, more.good);
      read = ap (λ z. z ∷ map read_field more.raws) (sym first.read) ∙ ap (λ z. f ∷ z) more.read;
    }

printed_header : ValueLaws → (fields : List Field) (raws : List RawField) → AllGood raws → map read_field raws ≡ fields → IsHeader fields
printed_header values fields raws good read =
    let again = map kept raws in
    let clean = kept_good values raws good in
    let same : lines_of again ≡ header_lines fields = sym (kept_lines raws) ∙ ap header_lines read in
    record {
      are = sym (ap are_fields same) ∙ are_fields-lines_of again clean;
      read = sym (ap (λ ls. map read_field (fields_of ls)) same) ∙ ap (map read_field) (fields-lines_of again clean) ∙ kept_again values raws ∙ read;
      no_zero = subst (AllLack 0) same (no_zero_in again clean);
      no_lf = subst (AllLack 10) same (no_lf_in again clean);
      no_cr = subst (AllLack 13) same (no_cr_in again clean);
    }

pub is_header : ValueLaws → (fields : List Field) → AreGoodFields fields → IsHeader fields
is_header values fields g = let o = origin fields g in printed_header values fields o.raws o.good o.read

pub header_reads : (fields : List Field) → IsHeader fields → header_size (header_lines fields) ≤ longest_header → AreFields (header_lines fields) fields
header_reads fields h size = record {
  sound = no_fault (header_lines fields) (have_cr-none (header_lines fields) h.no_cr) h.are size;
  read = h.read;
}

-- The header ends at the empty line.

some_line : (l : List ℕ) → (is_field_line l || begins is_blank l) ≡ true → 0 < length l
some_line [] h = absurd (cc)
some_line (c ∷ cs) h = omega arith

header_cons : (l : List ℕ) (ls : List (List ℕ)) → 0 < length l → header (l ∷ ls) ≡ l ∷ header ls
header_cons [] ls h = absurd (omega arith)
header_cons (c ∷ cs) ls h = refl

body_cons : (l : List ℕ) (ls : List (List ℕ)) → 0 < length l → body (l ∷ ls) ≡ body ls
body_cons [] ls h = absurd (omega arith)
body_cons (c ∷ cs) ls h = refl

pub header_stops : (hs ls : List (List ℕ)) → go_on hs ≡ true → header (hs ++ [] ∷ ls) ≡ hs
header_stops [] ls h = refl
header_stops (l ∷ hs) ls h =
    let parts = and_parts (is_field_line l || begins is_blank l) (go_on hs) h in
    header_cons l (hs ++ [] ∷ ls) (some_line l parts.0) ∙ ap (λ z. l ∷ z) (header_stops hs ls parts.1)

pub body_begins : (hs ls : List (List ℕ)) → go_on hs ≡ true → body (hs ++ [] ∷ ls) ≡ ls
body_begins [] ls h = refl
body_begins (l ∷ hs) ls h =
    let parts = and_parts (is_field_line l || begins is_blank l) (go_on hs) h in
    body_cons l (hs ++ [] ∷ ls) (some_line l parts.0) ∙ body_begins hs ls parts.1

-- Lines joined

joined_more : (l : List ℕ) (ls : List (List ℕ)) → (ls ≡ [] → ⊥) → joined (l ∷ ls) ≡ l ++ 13 ∷ 10 ∷ joined ls
joined_more l [] h = absurd (h refl)
joined_more l (m ∷ ls) h = refl

append-some : (ls ms : List (List ℕ)) → (ms ≡ [] → ⊥) → (ls ++ ms ≡ []) → ⊥
append-some [] ms some e = some e
append-some (l ∷ ls) ms some e = cc

pub joined-append : (ls ms : List (List ℕ)) → (ls ≡ [] → ⊥) → (ms ≡ [] → ⊥) → joined (ls ++ ms) ≡ joined ls ++ 13 ∷ 10 ∷ joined ms
joined-append [] ms some rest = absurd (some refl)
joined-append (l ∷ []) ms some rest = joined_more l ms rest
joined-append (l ∷ m ∷ ls) ms some rest =
    ap (λ z. l ++ 13 ∷ 10 ∷ z) (joined-append (m ∷ ls) ms (λ e. cc) rest) ∙ sym (append_assoc l (13 ∷ 10 ∷ joined (m ∷ ls)) (13 ∷ 10 ∷ joined ms))

joined-ended : (hs ls : List (List ℕ)) → (ls ≡ [] → ⊥) → joined (hs ++ [] ∷ ls) ≡ ended hs ++ 13 ∷ 10 ∷ joined ls
joined-ended [] ls some = joined_more [] ls some
joined-ended (h ∷ hs) ls some =
    joined_more h (hs ++ [] ∷ ls) (append-some hs ([] ∷ ls) (λ e. cc)) ∙ ap (λ z. h ++ 13 ∷ 10 ∷ z) (joined-ended hs ls some)
    ∙ sym (append_assoc h (13 ∷ 10 ∷ ended hs) (13 ∷ 10 ∷ joined ls))

lines_fit : (ls : List (List ℕ)) → AreLines ls → ls ≡ [] → ⊥
lines_fit [] h e = h
lines_fit (l ∷ ls) h e = cc

-- The body of a text has lines, or is empty.
abbrev LinesOrNone : List (List ℕ) → Type 0
LinesOrNone [] = Unit {0}
LinesOrNone (l ∷ ls) = AreLines (l ∷ ls)

body_lines : (ls : List (List ℕ)) → AreLines ls → LinesOrNone (body ls)
body_lines [] h = tt
body_lines ([] ∷ []) h = tt
body_lines ([] ∷ m ∷ ls) h = h.1
body_lines ((c ∷ l) ∷ []) h = tt
body_lines ((c ∷ l) ∷ m ∷ ls) h = body_lines (m ∷ ls) h.1

module _ (laws : LineLaws) where
  pub one_line : (l : List ℕ) → has 10 l ≡ false → lines l ≡ l ∷ []
  one_line l h = laws.read_again (l ∷ []) h

  pub line_crlf : (l y : List ℕ) → has 10 l ≡ false → lines (l ++ 13 ∷ 10 ∷ y) ≡ l ∷ lines y
  line_crlf l y h = laws.appended l y ∙ ap (λ z. z ++ lines y) (one_line l h)

  lines-ended : (hs : List (List ℕ)) (y : List ℕ) → AllLack 10 hs → lines (ended hs ++ 13 ∷ 10 ∷ y) ≡ hs ++ [] ∷ lines y
  lines-ended [] y h = line_crlf [] y refl
  lines-ended (l ∷ hs) y h =
      ap lines (append_assoc l (13 ∷ 10 ∷ ended hs) (13 ∷ 10 ∷ y)) ∙ line_crlf l (ended hs ++ 13 ∷ 10 ∷ y) h.0 ∙ ap (λ z. l ∷ z) (lines-ended hs y h.1)

  pub lines_some : (x : List ℕ) → lines x ≡ [] → ⊥
  lines_some x = lines_fit (lines x) (laws.are_lines x)

  joined_again : (ls : List (List ℕ)) → LinesOrNone ls → joined (lines (joined ls)) ≡ joined ls
  joined_again [] h = refl
  joined_again (l ∷ ls) h = ap joined (laws.read_again (l ∷ ls) h)

  pub body_crlf : (text : List ℕ) → IsCrlf (joined (body (lines text)))
  body_crlf text = joined_again (body (lines text)) (body_lines (lines text) (laws.are_lines text))

  pub crlf-append : (x y : List ℕ) → IsCrlf x → IsCrlf y → IsCrlf (x ++ 13 ∷ 10 ∷ y)
  crlf-append x y hx hy =
      ap joined (laws.appended x y) ∙ joined-append (lines x) (lines y) (lines_some x) (lines_some y)
      ∙ ap (λ z. z ++ 13 ∷ 10 ∷ joined (lines y)) hx ∙ ap (λ z. x ++ 13 ∷ 10 ∷ z) hy

  pub line_is_crlf : (l : List ℕ) → has 10 l ≡ false → IsCrlf l
  line_is_crlf l h = ap joined (one_line l h)

  -- A printed header and what is behind it.

  pub headed_lines : (fields : List Field) (bytes : List ℕ) → IsHeader fields → lines (print_header fields ++ bytes) ≡ header_lines fields ++ [] ∷ lines bytes
  headed_lines fields bytes h =
      ap lines (append_assoc (ended (header_lines fields)) (13 ∷ 10 ∷ []) bytes) ∙ lines-ended (header_lines fields) bytes h.no_lf

  pub headed_crlf : (fields : List Field) (bytes : List ℕ) → IsHeader fields → IsCrlf bytes → IsCrlf (print_header fields ++ bytes)
  headed_crlf fields bytes h crlf =
      let hs = header_lines fields in
      ap joined (headed_lines fields bytes h) ∙ joined-ended hs (lines bytes) (lines_some bytes) ∙ ap (λ z. ended hs ++ 13 ∷ 10 ∷ z) crlf
      ∙ sym (append_assoc (ended hs) (13 ∷ 10 ∷ []) bytes)

  pub headed_header : (fields : List Field) (bytes : List ℕ) → IsHeader fields → header (lines (print_header fields ++ bytes)) ≡ header_lines fields
  headed_header fields bytes h =
      ap header (headed_lines fields bytes h) ∙ header_stops (header_lines fields) (lines bytes) (fields-go_on (header_lines fields) h.are)

  pub headed_body : (fields : List Field) (bytes : List ℕ) → IsHeader fields → IsCrlf bytes → joined (body (lines (print_header fields ++ bytes))) ≡ bytes
  headed_body fields bytes h crlf =
      ap joined (ap body (headed_lines fields bytes h) ∙ body_begins (header_lines fields) (lines bytes) (fields-go_on (header_lines fields) h.are)) ∙ crlf
