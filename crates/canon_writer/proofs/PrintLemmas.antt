-- The print of a message that was read is read as that message.
use Rattle.std.proofs.Common.{◌≡◌, ℕ, suc, ◌<◌, ◌≤◌, Bool, true, false, cond, ◌&&◌, not, eqb, List, [], ◌∷◌, ◌++◌, length, map, Some, refl, sym, ◌∙◌, ap, subst, arith}
use Rattle.std.proofs.lemmas.Bool.{cond_both, and_parts, or_parts, not-true}
use Rattle.std.proofs.lemmas.List.{append-nil}
use Rattle.std.specs.List.{list_any}
use Rattle.std.specs.Str.{bytes_eq}
use Rattle.base64.specs.GeneralPurpose.{IsBytes}
use Rattle.mail_text.specs.Texts.{begins}
use Rattle.mail_text.specs.Lines.{put, is_lf, ahead, lines, joined, has, IsCrlf, LineLaws}
use Rattle.mime_tree.specs.declared.values.Field.{Field}
use Rattle.mime_tree.specs.declared.trees.Encoding.{Encoding}
use Rattle.mime_tree.specs.declared.trees.Encoding.TheVariants.{Plain, Base64}
use Rattle.mime_tree.specs.Trees.{Tree, Content, Trees}
use Rattle.mime_tree.specs.Trees.Tree.{node}
use Rattle.mime_tree.specs.Trees.Content.{leaf, multi, nested}
use Rattle.mime_tree.specs.Trees.Trees.{none, more}
use Rattle.mime_tree.specs.Sizes.{nodes, levels}
use Rattle.transfer_codec.specs.Layout.{without_layout, decoded64, printed64}
use Rattle.transfer_codec.specs.Laws.{Base64Laws}
use Rattle.mime_reader.specs.declared.kinds.BodyKind.{BodyKind}
use Rattle.mime_reader.specs.declared.kinds.BodyKind.TheVariants.{Multipart, Single}
use Rattle.mime_reader.specs.Kinds.{body_kind, boundary_of}
use Rattle.mime_reader.specs.Bodies.{delimiter, closing, pieces, behind_first, parts, is_boundary, is_usable}
use Rattle.mime_reader.specs.Reading.{AreFields, body_of, HasPart, Reads, ReadsBody, ReadsParts, IsMessage, most_levels, most_nodes, HasGoodFields, HasGoodFieldsIn, HaveGoodFields, ReadingLaws}
use Rattle.canon_writer.specs.Printing.{header_lines, print_header, print_leaf, print, print_body, print_parts, HeadersFit, HeadersFitIn, HeadersFitAll}
use Rattle.canon_writer.proofs.ValueLemmas.{ValueLaws}
use Rattle.canon_writer.proofs.FieldLemmas.{AllLack, AllLack-put, has-append, fields-go_on}
use Rattle.canon_writer.proofs.HeadLemmas.{IsHeader, is_header, header_reads, line_crlf, body_crlf, crlf-append, line_is_crlf, headed_lines, headed_crlf, headed_header, headed_body}
use Rattle.canon_writer.proofs.InsideLemmas.{IsFree, IsInside, AreInside, inside-append, inside_more, undashed_inside, empty_inside, go_on_undashed, lack_undashed, joined_inside, body_of_inside, lacks_zero}
use Rattle.canon_writer.proofs.DelimiterLemmas.{Boundary, boundary_facts, printing_lacks, closing_free, pieces_within, pieces_delimiter, pieces_closing, TextsInside, parts_inside, found}

-- A text without a byte has no line with it.
pub lines_lack : (b : ℕ) (x : List ℕ) → has b x ≡ false → AllLack b (lines x)
lines_lack b [] h = (refl, tt)
lines_lack b (c ∷ cs) h =
    let parts = or_parts (eqb c b) (has b cs) h in
    let later = lines_lack b cs parts.1 in
    cond_both (eqb c 13 && begins is_lf cs) (lines cs) (cond (eqb c 10) ([] ∷ lines cs) (put c (lines cs))) (AllLack b)
    (λ _. later) (λ _. cond_both (eqb c 10) ([] ∷ lines cs) (put c (lines cs)) (AllLack b) (λ _. (refl, later)) (λ _. AllLack-put b c (lines cs) parts.0 later))

lines_lack_lf : (x : List ℕ) → AllLack 10 (lines x)
lines_lack_lf [] = (refl, tt)
lines_lack_lf (c ∷ cs) =
    cond_both (eqb c 13 && begins is_lf cs) (lines cs) (cond (eqb c 10) ([] ∷ lines cs) (put c (lines cs))) (AllLack 10)
    (λ _. lines_lack_lf cs)
    (λ _. cond_both (eqb c 10) ([] ∷ lines cs) (put c (lines cs)) (AllLack 10) (λ _. (refl, lines_lack_lf cs)) (λ e. AllLack-put 10 c (lines cs) e (lines_lack_lf cs)))

has-joined : (ls : List (List ℕ)) → AllLack 0 ls → has 0 (joined ls) ≡ false
has-joined [] h = refl
has-joined (l ∷ []) h = h.0
has-joined (l ∷ m ∷ ls) h = has-append 0 l (13 ∷ 10 ∷ joined (m ∷ ls)) h.0 (has-joined (m ∷ ls) h.1)

whole_inside : (ls : List (List ℕ)) → AllLack 0 ls → AllLack 10 ls → AreInside [] ls
whole_inside [] zero lf = tt
whole_inside (l ∷ ls) zero lf = (record { free = tt; no_zero = zero.0; no_lf = lf.0 }, whole_inside ls zero.1 lf.1)

-- A text that stands for a tree inside multiparts, and can stand there.
pub record IsPrint (es : List (List ℕ)) (digest : Bool) (text : List ℕ) (tree : Tree) : Type 0 where
  pub crlf : IsCrlf text
  pub inside : AreInside es (lines text)
  pub reads : HeadersFit tree → Reads es digest text tree

-- The same of a body.
pub record IsBodyPrint (es : List (List ℕ)) (kind : BodyKind) (text : List ℕ) (content : Content) : Type 0 where
  pub crlf : IsCrlf text
  pub inside : AreInside es (lines text)
  pub reads : HeadersFitIn content → ReadsBody es kind text content

-- The prints of parts.
abbrev pub ArePrints : List (List ℕ) → Bool → Trees → Type 0
ArePrints es digest none = Unit {0}
ArePrints es digest (more tree trees) = IsPrint es digest (print tree) tree × ArePrints es digest trees

abbrev pub texts_of : Trees → List (List ℕ)
texts_of none = []
texts_of (more tree trees) = print tree ∷ texts_of trees

-- What the boundary of a multipart is, and where it stands.
pub record Bound (b : List ℕ) (es : List (List ℕ)) : Type 0 where
  pub is : Boundary b
  pub delimiter_free : IsFree es (delimiter b)
  pub closing_free : IsFree es (closing b)

delimiter_lacks : (n : ℕ) (b : List ℕ) → n < 32 → Boundary b → has n (delimiter b) ≡ false
delimiter_lacks n b low h = has-append n (45 ∷ 45 ∷ []) b (dashes n low) (printing_lacks n b low h.printing)
  where
    dashes : (n : ℕ) → n < 32 → has n (45 ∷ 45 ∷ []) ≡ false
    dashes n low = printing_lacks n (45 ∷ 45 ∷ []) low refl

closing_lacks : (n : ℕ) (b : List ℕ) → n < 32 → Boundary b → has n (closing b) ≡ false
closing_lacks n b low h = has-append n (delimiter b) (45 ∷ 45 ∷ []) (delimiter_lacks n b low h) (printing_lacks n (45 ∷ 45 ∷ []) low refl)

-- A line that is free.
free_line : (es : List (List ℕ)) (l : List ℕ) → IsFree es l → has 0 l ≡ false → has 10 l ≡ false → IsInside es l
free_line es l free zero lf = record { free = free; no_zero = zero; no_lf = lf }

some_parts : (es : List (List ℕ)) (digest : Bool) (ps : List (List ℕ)) (trees : Trees) → HasPart trees → ReadsParts es digest ps trees → 0 < length ps
some_parts es digest ps none h r = absurd h
some_parts es digest [] (more tree trees) h r = absurd r
some_parts es digest (p ∷ ps) (more tree trees) h r = omega arith

length_map : {A B : Type 0} (f : A → B) (xs : List A) → length (map f xs) ≡ length xs
length_map f [] = refl
length_map f (x ∷ xs) = ap suc (length_map f xs)

bound : (b : List ℕ) (es : List (List ℕ)) (text : List ℕ) → is_usable es b ≡ true → AreInside es (lines text) → 0 < length (parts b text) → Bound b es
bound b es text usable inside some =
    let halves = and_parts (is_boundary b) (not (list_any (λ outer. bytes_eq (closing b) (delimiter outer)) es)) usable in
    let facts = boundary_facts b halves.0 in
    let count : length (parts b text) ≡ length (behind_first (pieces b (lines text))) = length_map joined (behind_first (pieces b (lines text))) in
    let free = found b es (lines text) facts inside (omega (arith, count, some)) in
    record {
      is = facts;
      delimiter_free = free;
      closing_free = closing_free b es facts (not-true (list_any (λ outer. bytes_eq (closing b) (delimiter outer)) es) halves.1) free;
    }

-- What the print of trees stands on.
pub record Owed : Type 0 where
  pub lines : LineLaws
  pub base64 : Base64Laws
  pub values : ValueLaws
  pub boundary : (digest inner : Bool) (fields : List Field) (b : List ℕ) → body_kind digest fields ≡ Multipart (Some b) inner → boundary_of fields ≡ b

module _ (laws : Owed) where
  -- A header in front of a body.
  pub headed : (es : List (List ℕ)) (digest : Bool) (fields : List Field) (content : Content) (bytes : List ℕ) → IsHeader fields →
      IsBodyPrint es (body_kind digest fields) bytes content → IsPrint es digest (print_header fields ++ bytes) (node fields content)
  headed es digest fields content bytes h b =
      let hs = header_lines fields in
      record {
        crlf = headed_crlf laws.lines fields bytes h b.crlf;
        inside =
            subst (AreInside es) (sym (headed_lines laws.lines fields bytes h))
            (inside-append es hs ([] ∷ lines bytes) (undashed_inside es hs (go_on_undashed hs (fields-go_on hs h.are)) h.no_zero h.no_lf)
            ((empty_inside es).0, b.inside));
        reads = λ fit. (
          subst (λ ls. AreFields ls fields) (sym (headed_header laws.lines fields bytes h)) (header_reads fields h fit.0),
          subst (λ t. ReadsBody es (body_kind digest fields) t content) (sym (headed_body laws.lines fields bytes h b.crlf)) (b.reads fit.1),
        );
      }

  -- Leaves

  pub base64_print : (es : List (List ℕ)) (kind : BodyKind) (bytes : List ℕ) → IsBytes bytes → kind ≡ Single true → IsBodyPrint es kind (printed64 bytes) (leaf Base64 bytes)
  base64_print es kind bytes are is =
      let spelled = printed64 bytes in
      record {
        crlf = laws.base64.is_crlf bytes are;
        inside =
            undashed_inside es (lines spelled) (lack_undashed (lines spelled) (lines_lack 45 spelled (laws.base64.no_dash bytes are)))
            (lines_lack 0 spelled (laws.base64.no_zero bytes are)) (lines_lack_lf spelled);
        reads = λ _. (true, is, (refl, laws.base64.read_again bytes are));
      }

  leaf_again : (es : List (List ℕ)) (kind : BodyKind) (text bytes : List ℕ) (encoding : Encoding) → ReadsBody es kind text (leaf encoding bytes) → IsCrlf text → AreInside es (lines text) →
      IsBodyPrint es kind (print_leaf encoding bytes) (leaf encoding bytes)
  leaf_again es kind text bytes Plain r crlf inside =
      let l = r.2 in
      let same : bytes ≡ text = l.1 in
      record {
        crlf = subst IsCrlf (sym same) crlf;
        inside = subst (λ t. AreInside es (lines t)) (sym same) inside;
        reads = λ _. (r.0, r.1, (λ is. ap decoded64 same ∙ l.0 is, refl));
      }
  leaf_again es kind text bytes Base64 r crlf inside =
      let l = r.2 in
      base64_print es kind bytes (laws.base64.are_bytes (without_layout text) bytes l.1) (r.1 ∙ ap Single l.0)

  -- Multiparts

  parts_lines : (b : List ℕ) (es : List (List ℕ)) (tree : Tree) (trees : Trees) → Bound b es →
      lines (print_parts b (more tree trees)) ≡ delimiter b ∷ (lines (print tree) ++ lines (print_parts b trees))
  parts_lines b es tree trees h =
      line_crlf laws.lines (delimiter b) (print tree ++ 13 ∷ 10 ∷ print_parts b trees) (delimiter_lacks 10 b (omega arith) h.is)
      ∙ ap (λ z. delimiter b ∷ z) (laws.lines.appended (print tree) (print_parts b trees))

  closing_lines : (b : List ℕ) (es : List (List ℕ)) → Bound b es → lines (print_parts b none) ≡ closing b ∷ [] ∷ []
  closing_lines b es h = line_crlf laws.lines (closing b) [] (closing_lacks 10 b (omega arith) h.is)

  parts_crlf : (b : List ℕ) (es : List (List ℕ)) (digest : Bool) (trees : Trees) → Bound b es → ArePrints (b ∷ es) digest trees → IsCrlf (print_parts b trees)
  parts_crlf b es digest none h p =
      crlf-append laws.lines (closing b) [] (line_is_crlf laws.lines (closing b) (closing_lacks 10 b (omega arith) h.is)) refl
  parts_crlf b es digest (more tree trees) h p =
      crlf-append laws.lines (delimiter b) (print tree ++ 13 ∷ 10 ∷ print_parts b trees)
      (line_is_crlf laws.lines (delimiter b) (delimiter_lacks 10 b (omega arith) h.is))
      (crlf-append laws.lines (print tree) (print_parts b trees) p.0.crlf (parts_crlf b es digest trees h p.1))

  parts_print_inside : (b : List ℕ) (es : List (List ℕ)) (digest : Bool) (trees : Trees) → Bound b es → ArePrints (b ∷ es) digest trees → AreInside es (lines (print_parts b trees))
  parts_print_inside b es digest none h p =
      subst (AreInside es) (sym (closing_lines b es h))
      (free_line es (closing b) h.closing_free (closing_lacks 0 b (omega arith) h.is) (closing_lacks 10 b (omega arith) h.is), empty_inside es)
  parts_print_inside b es digest (more tree trees) h p =
      subst (AreInside es) (sym (parts_lines b es tree trees h)) (
        free_line es (delimiter b) h.delimiter_free (delimiter_lacks 0 b (omega arith) h.is) (delimiter_lacks 10 b (omega arith) h.is),
        inside-append es (lines (print tree)) (lines (print_parts b trees)) (inside_more b es (lines (print tree)) p.0.inside)
            (parts_print_inside b es digest trees h p.1),
      )

  -- A print of parts begins with a delimiter, so its first piece is empty; and its parts are the prints of the parts.
  parts_pieces : (b : List ℕ) (es : List (List ℕ)) (digest : Bool) (trees : Trees) → Bound b es → ArePrints (b ∷ es) digest trees →
      (ps : List (List (List ℕ))) × (pieces b (lines (print_parts b trees)) ≡ [] ∷ ps) × (map joined ps ≡ texts_of trees)
  parts_pieces b es digest none h p = ([], ap (pieces b) (closing_lines b es h) ∙ pieces_closing b ([] ∷ []), refl)
  parts_pieces b es digest (more tree trees) h p =
      let rest = parts_pieces b es digest trees h p.1 in
      let here = lines (print tree) in (
        (here ++ []) ∷ rest.0,
        ap (pieces b) (parts_lines b es tree trees h) ∙ pieces_delimiter b (here ++ lines (print_parts b trees)) h.is
            ∙ ap (λ z. [] ∷ z) (pieces_within b es here (lines (print_parts b trees)) p.0.inside ∙ ap (ahead here) rest.1),
        ap (λ z. joined z ∷ map joined rest.0) (append-nil here) ∙ ap (λ z. z ∷ map joined rest.0) p.0.crlf ∙ ap (λ z. print tree ∷ z) rest.2,
      )

  parts-print : (b : List ℕ) (es : List (List ℕ)) (digest : Bool) (trees : Trees) → Bound b es → ArePrints (b ∷ es) digest trees → parts b (print_parts b trees) ≡ texts_of trees
  parts-print b es digest trees h p =
      let found = parts_pieces b es digest trees h p in ap (λ ps. map joined (behind_first ps)) found.1 ∙ found.2

  prints_read : (es : List (List ℕ)) (digest : Bool) (trees : Trees) → ArePrints es digest trees → HeadersFitAll trees → ReadsParts es digest (texts_of trees) trees
  prints_read es digest none p fit = tt
  prints_read es digest (more tree trees) p fit = (p.0.reads fit.0, prints_read es digest trees p.1 fit.1)

  pub multi_print : (es : List (List ℕ)) (kind : BodyKind) (b : List ℕ) (digest : Bool) (trees : Trees) → kind ≡ Multipart (Some b) digest → is_usable es b ≡ true → HasPart trees → Bound b es →
      ArePrints (b ∷ es) digest trees → IsBodyPrint es kind (print_parts b trees) (multi trees)
  multi_print es kind b digest trees is usable some h p = record {
    crlf = parts_crlf b es digest trees h p;
    inside = parts_print_inside b es digest trees h p;
    reads = λ fit. (
      b,
      digest,
      is,
      usable,
      some,
      subst (λ ps. ReadsParts (b ∷ es) digest ps trees) (sym (parts-print b es digest trees h p)) (prints_read (b ∷ es) digest trees p fit),
    );
  }

  -- Trees

  mutual
    again : (es : List (List ℕ)) (digest : Bool) (text : List ℕ) (tree : Tree) → Reads es digest text tree → AreInside es (lines text) → HasGoodFields tree →
        IsPrint es digest (print tree) tree
    again es digest text (node fields content) r inside good =
        headed es digest fields content (print_body (boundary_of fields) content) (is_header laws.values fields good.0)
        (again_in es digest fields (body_of text) content r.1 (body_crlf laws.lines text) (body_of_inside laws.lines.read_again es text inside) good.1)

    again_in : (es : List (List ℕ)) (digest : Bool) (fields : List Field) (text : List ℕ) (content : Content) → ReadsBody es (body_kind digest fields) text content → IsCrlf text →
        AreInside es (lines text) → HasGoodFieldsIn content → IsBodyPrint es (body_kind digest fields) (print_body (boundary_of fields) content) content
    again_in es digest fields text (leaf encoding bytes) r crlf inside good = leaf_again es (body_kind digest fields) text bytes encoding r crlf inside
    again_in es digest fields text (nested tree) r crlf inside good =
        let p = again es false text tree r.1 inside good in record { crlf = p.crlf; inside = p.inside; reads = λ fit. (r.0, p.reads fit) }
    again_in es digest fields text (multi trees) r crlf inside good =
        let b = r.0 in
        let inner = r.1 in
        let h = bound b es text r.3 inside (some_parts (b ∷ es) inner (parts b text) trees r.4 r.5) in
        let p = again_all (b ∷ es) inner (parts b text) trees r.5 (parts_inside b es text (joined_inside laws.lines.read_again (b ∷ es)) inside) good in
        subst (λ x. IsBodyPrint es (body_kind digest fields) (print_parts x trees) (multi trees)) (sym (laws.boundary digest inner fields b r.2))
        (multi_print es (body_kind digest fields) b inner trees r.2 r.3 r.4 h p)

    again_all : (es : List (List ℕ)) (digest : Bool) (ps : List (List ℕ)) (trees : Trees) → ReadsParts es digest ps trees → TextsInside es ps → HaveGoodFields trees → ArePrints es digest trees
    again_all es digest [] none r inside good = tt
    again_all es digest [] (more tree trees) r inside good = absurd r
    again_all es digest (p ∷ ps) none r inside good = absurd r
    again_all es digest (p ∷ ps) (more tree trees) r inside good =
        (again es digest p tree r.0 inside.0 good.0, again_all es digest ps trees r.1 inside.1 good.1)

  -- Whole messages

  -- A print at the top is a message, where its size is that of one.
  pub message_of_print : (text : List ℕ) (tree : Tree) → IsPrint [] false text tree → HeadersFit tree → levels tree ≤ most_levels → nodes tree ≤ most_nodes → IsMessage text tree
  message_of_print text tree p fit deep many = record {
    no_zero = sym (ap (has 0) p.crlf) ∙ has-joined (lines text) (lacks_zero [] (lines text) p.inside);
    reads = p.reads fit;
    few_levels = deep;
    few_nodes = many;
  }

  module _ (reading : ReadingLaws) where
    pub message_again : (text : List ℕ) (tree : Tree) → IsMessage text tree → IsPrint [] false (print tree) tree
    message_again text tree m =
        again [] false text tree m.reads (whole_inside (lines text) (lines_lack 0 text m.no_zero) (lines_lack_lf text)) (reading.good text tree m)

    pub read_again : (text : List ℕ) (tree : Tree) → IsMessage text tree → HeadersFit tree → IsMessage (print tree) tree
    read_again text tree m fit = message_of_print (print tree) tree (message_again text tree m) fit m.few_levels m.few_nodes
