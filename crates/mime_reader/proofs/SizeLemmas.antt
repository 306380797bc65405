-- A message is no more than a few times its text.
use Rattle.std.proofs.Common.{◌≡◌, ℕ, ◌+◌, ◌*◌, ◌%◌, ◌≤◌, Bool, true, false, cond, not, ◌&&◌, leb, List, [], ◌∷◌, ◌++◌, ◌⊎◌, map, length, Option, Some, None, refl, sym, ◌∙◌, ap, subst, inl, inr, arith, length-append}
use Rattle.std.specs.Option.{option_map}
use Rattle.std.specs.Prelude.{◌==◌}
use Rattle.std.proofs.lemmas.Bool.{cond_both, cond-true, cond-false, and_right, cases_Bool}
use Rattle.mail_text.specs.Texts.{begins, front, behind, is_blank, before_trimmed, without_blank_end, trimmed}
use Rattle.mail_text.specs.Lines.{put, lines, joined, has, AreLines, LineLaws}
use Rattle.mime_tree.specs.declared.reasons.Reason.{Reason}
use Rattle.mime_tree.specs.declared.reasons.Reason.TheVariants.{ZeroByte, LoneReturn, NoField, LongHeader, NoBoundary, NoDelimiter, TooDeep, TooMany}
use Rattle.mime_tree.specs.declared.values.Field.{Field}
use Rattle.mime_tree.specs.declared.values.Value.{Value}
use Rattle.mime_tree.specs.declared.values.Value.TheVariants.{Addresses, Date, Ids}
use Rattle.mime_tree.specs.declared.values.Item.{Item}
use Rattle.mime_tree.specs.declared.values.SentDate.{SentDate}
use Rattle.mime_tree.specs.declared.trees.Encoding.{Encoding}
use Rattle.mime_tree.specs.declared.trees.Encoding.TheVariants.{Plain, Base64}
use Rattle.mime_tree.specs.Trees.{Tree, Trees}
use Rattle.mime_tree.specs.Trees.Tree.{node}
use Rattle.mime_tree.specs.Trees.Content.{leaf, multi, nested}
use Rattle.mime_tree.specs.Trees.Trees.{none, more}
use Rattle.address_grammar.specs.Weights.{WeightLaws}
use Rattle.address_grammar.specs.Lists.{reading}
use Rattle.address_grammar.specs.Ids.{ids_reading}
use Rattle.date_grammar.specs.Dates.{sent_date}
use Rattle.header_reader.specs.Fields.{header, body, is_name, is_colon, rest, continued, unfolded, field_of, fields_of}
use Rattle.header_reader.specs.Faults.{header_size}
use Rattle.header_reader.specs.Good.{AllGood}
use Rattle.header_reader.specs.Kinds.{kind_of}
use Rattle.header_reader.specs.Laws.{FieldLaws}
use Rattle.header_reader.specs.Values.{single, typed, or_text, value_of, read_field}
use Rattle.header_reader.specs.declared.kinds.FieldKind.{FieldKind}
use Rattle.header_reader.specs.declared.kinds.FieldKind.TheVariants.{Unstructured, AddressList, DateTime, OneId, IdList}
use Rattle.transfer_codec.specs.Base64.{decoded, group, last_group, followed_by, is_letter, padding, bits, first_byte, second_byte, third_byte}
use Rattle.transfer_codec.specs.Layout.{decoded64, without_layout, is_content}
use Rattle.mime_reader.specs.declared.kinds.BodyKind.TheVariants.{Embedded, Single}
use Rattle.mime_reader.specs.Kinds.{body_kind, type_of, has_encoding}
use Rattle.mime_reader.specs.Bodies.{is_closing, is_delimiter, pieces, behind_first, parts}
use Rattle.mime_reader.specs.Reading.{AreFields, IsLeaf, HasPart, Reads, ReadsParts, IsMessage, body_of}
use Rattle.mime_reader.specs.Wrapping.{wrapper}
use Rattle.mime_reader.specs.Weights.{value_weight, fields_weight, weight, weight_of}
use Rattle.mime_reader.proofs.LineLemmas.{joined_shorter, body_lines}
use Rattle.mime_reader.proofs.GoodLemmas.{AllLack, EachLacks, lacks-body, body-lacks, parts-lack, each-pieces}

-- The wrapper.
pub wrapped : (bytes : List ℕ) (reason : Reason) (now : ℕ) → weight (wrapper bytes reason now) ≤ length bytes + 1000
unfolding wrapper
wrapped bytes ZeroByte now = omega arith
wrapped bytes LoneReturn now = omega arith
wrapped bytes NoField now = omega arith
wrapped bytes LongHeader now = omega arith
wrapped bytes NoBoundary now = omega arith
wrapped bytes NoDelimiter now = omega arith
wrapped bytes TooDeep now = omega arith
wrapped bytes TooMany now = omega arith

-- Base64 is longer than what it stands for.
abbrev pub AtMost : ℕ → Option (List ℕ) → Type 0
AtMost n None = Unit {0}
AtMost n (Some bytes) = length bytes ≤ n

group_size : (a b c d : ℕ) → AtMost 3 (group a b c d)
group_size a b c d =
    cond_both (is_letter a && (is_letter b && (is_letter c && is_letter d))) (Some (first_byte a b ∷ second_byte b c ∷ third_byte c d ∷ [])) None (AtMost 3)
    (λ _. omega arith) (λ _. tt)

last_size : (a b c d : ℕ) → AtMost 3 (last_group a b c d)
last_size a b c d =
    let one = cond (is_letter a && (is_letter b && (bits b % 16 == 0))) (Some (first_byte a b ∷ [])) None in
    let two = cond (is_letter a && (is_letter b && (is_letter c && (bits c % 4 == 0)))) (Some (first_byte a b ∷ second_byte b c ∷ [])) None in
    cond_both (d == padding) (cond (c == padding) one two) (group a b c d) (AtMost 3)
    (λ _. cond_both (c == padding) one two (AtMost 3)
    (λ _. cond_both (is_letter a && (is_letter b && (bits b % 16 == 0))) (Some (first_byte a b ∷ [])) None (AtMost 3) (λ _. omega arith) (λ _. tt))
    (λ _. cond_both (is_letter a && (is_letter b && (is_letter c && (bits c % 4 == 0)))) (Some (first_byte a b ∷ second_byte b c ∷ [])) None (AtMost 3) (λ _. omega arith) (λ _. tt)))
    (λ _. group_size a b c d)

followed_size : (m n : ℕ) (x y : Option (List ℕ)) → AtMost m x → AtMost n y → AtMost (m + n) (followed_by x y)
followed_size m n None y h k = tt
followed_size m n (Some bytes) None h k = tt
followed_size m n (Some bytes) (Some later) h k = omega (arith, length-append bytes later)

at_most : (m n : ℕ) (x : Option (List ℕ)) → m ≤ n → AtMost m x → AtMost n x
at_most m n None h k = tt
at_most m n (Some bytes) h k = omega arith

decoded_size : (text : List ℕ) → AtMost (length text) (decoded text)
unfolding decoded
decoded_size [] = omega arith
decoded_size (a ∷ []) = tt
decoded_size (a ∷ b ∷ []) = tt
decoded_size (a ∷ b ∷ c ∷ []) = tt
decoded_size (a ∷ b ∷ c ∷ d ∷ []) = at_most 3 (length (a ∷ b ∷ c ∷ d ∷ [])) (last_group a b c d) (omega arith) (last_size a b c d)
decoded_size (a ∷ b ∷ c ∷ d ∷ e ∷ rest) =
    at_most (3 + length (e ∷ rest)) (length (a ∷ b ∷ c ∷ d ∷ e ∷ rest)) (followed_by (group a b c d) (decoded (e ∷ rest))) (omega arith)
    (followed_size 3 (length (e ∷ rest)) (group a b c d) (decoded (e ∷ rest)) (group_size a b c d) (decoded_size (e ∷ rest)))

filter_size : (text : List ℕ) → length (without_layout text) ≤ length text
filter_size [] = omega arith
filter_size (c ∷ cs) =
    let rest = filter_size cs in
    cond_both (is_content c) (c ∷ without_layout cs) (without_layout cs) (λ z. length z ≤ length (c ∷ cs)) (λ _. omega arith) (λ _. omega arith)

some_size : (n : ℕ) (x : Option (List ℕ)) (bytes : List ℕ) → x ≡ Some bytes → AtMost n x → length bytes ≤ n
some_size n x bytes e h = subst (AtMost n) e h

leaf_size : (base64 : Bool) (text : List ℕ) (encoding : Encoding) (bytes : List ℕ) → IsLeaf base64 text encoding bytes → length bytes ≤ length text
leaf_size base64 text Plain bytes h = omega (arith, ap length h.1)
leaf_size base64 text Base64 bytes h = omega (arith, filter_size text, some_size (length (without_layout text)) (decoded64 text) bytes h.1 (decoded_size (without_layout text)))

-- Values.
behind_size : (test : ℕ → Bool) (x : List ℕ) → length (behind test x) ≤ length x
behind_size test [] = omega arith
behind_size test (c ∷ cs) =
    let rest = behind_size test cs in
    cond_both (test c) (behind test cs) (c ∷ cs) (λ z. length z ≤ length (c ∷ cs)) (λ _. omega arith) (λ _. omega arith)

before_size : (c : ℕ) (x : List ℕ) → length (before_trimmed c x) ≤ length x + 1
before_size c [] = cond_both (is_blank c) [] (c ∷ []) (λ z. length z ≤ 0 + 1) (λ _. omega arith) (λ _. omega arith)
before_size c (d ∷ ds) = omega arith

end_size : (x : List ℕ) → length (without_blank_end x) ≤ length x
end_size [] = omega arith
end_size (c ∷ cs) = omega (arith, before_size c (without_blank_end cs), end_size cs)

trimmed_size : (x : List ℕ) → length (trimmed x) ≤ length x
trimmed_size x = omega (arith, end_size (behind is_blank x), behind_size is_blank x)

-- A name and a value stand in their line.
line_size : (line : List ℕ) → length (front is_name line) + length (rest (behind (λ c. not (is_colon c)) line)) ≤ length line
line_size [] = omega arith
line_size (c ∷ cs) =
    let later = behind (λ c. not (is_colon c)) cs in
    elim (cases_Bool (is_colon c)) [
      | inl is ↦
          let none = and_right (leb 33 c) (leb c 126 && not (is_colon c)) (and_right (leb c 126) (not (is_colon c)) (ap not is)) in
          let name = ap length (cond-false (is_name c) (c ∷ front is_name cs) [] none) in
          let value = ap (λ z. length (rest z)) (cond-false (not (is_colon c)) later (c ∷ cs) (ap not is)) in
          omega arith
      | inr isnt ↦
          let name = cond_both (is_name c) (c ∷ front is_name cs) [] (λ z. length z ≤ 1 + length (front is_name cs)) (λ _. omega arith) (λ _. omega arith) in
          let value = ap (λ z. length (rest z)) (cond-true (not (is_colon c)) later (c ∷ cs) (ap not isnt)) in
          omega (arith, line_size cs)
    ]

field_size : (line : List ℕ) → length (field_of line).name + length (field_of line).value ≤ length line
field_size line = omega (arith, line_size line, trimmed_size (rest (behind (λ c. not (is_colon c)) line)))

module _ (laws : WeightLaws) where
  abbrev Small : ℕ → Option Value → Type 0
  Small n None = Unit {0}
  Small n (Some value) = value_weight value ≤ 2 * n

  small_items : (text : List ℕ) (found : Option (List Item)) → reading text ≡ found → Small (length text) (option_map Addresses found)
  small_items text None e = tt
  small_items text (Some items) e = omega (arith, laws.items text items e)

  small_date : (n : ℕ) (found : Option SentDate) → Small n (option_map Date found)
  small_date n None = tt
  small_date n (Some date) = omega arith

  small_ids : (text : List ℕ) (found : Option (List (List ℕ))) → ids_reading text ≡ found → Small (length text) (option_map Ids found)
  small_ids text None e = tt
  small_ids text (Some ids) e = laws.ids text ids e

  small_one : (text : List ℕ) (found : Option (List (List ℕ))) → ids_reading text ≡ found → Small (length text) (option_map Ids (single found))
  small_one text None e = tt
  small_one text (Some []) e = tt
  small_one text (Some (id ∷ [])) e = laws.ids text (id ∷ []) e
  small_one text (Some (id ∷ other ∷ ids)) e = tt

  small_typed : (kind : FieldKind) (text : List ℕ) → Small (length text) (typed kind text)
  small_typed Unstructured text = tt
  small_typed AddressList text = small_items text (reading text) refl
  small_typed DateTime text = small_date (length text) (sent_date text)
  small_typed OneId text = small_one text (ids_reading text) refl
  small_typed IdList text = small_ids text (ids_reading text) refl

  or_text_size : (text : List ℕ) (found : Option Value) → Small (length text) found → value_weight (or_text text found) ≤ 2 * length text
  or_text_size text None h = omega arith
  or_text_size text (Some value) h = h

  value_size : (name text : List ℕ) → value_weight (value_of name text) ≤ 2 * length text
  value_size name text = or_text_size text (typed (kind_of name) text) (small_typed (kind_of name) text)

  begins_some : (test : ℕ → Bool) (x : List ℕ) → begins test x ≡ true → 1 ≤ length x
  begins_some test [] e = absurd (cc)
  begins_some test (c ∷ cs) e = omega arith

  -- Fields, and the unfolded lines that they stand in.
  unfolded_fields : (us : List (List ℕ)) → AllGood (map field_of us) → fields_weight (map read_field (map field_of us)) + 4 * length us ≤ 2 * header_size us
  unfolded_fields [] good = omega arith
  unfolded_fields (u ∷ us) good =
      let f = field_of u in
      omega (arith, field_size u, value_size f.name f.value, begins_some is_name f.name good.0.some, unfolded_fields us good.1)

  continued_size : (l : List ℕ) (us : List (List ℕ)) → header_size (continued l us) ≤ length l + 2 + header_size us
  continued_size l [] = omega arith
  continued_size l (m ∷ ms) =
      cond_both (begins is_blank m) ((l ++ m) ∷ ms) (l ∷ m ∷ ms) (λ z. header_size z ≤ length l + 2 + (length m + 2 + header_size ms))
      (λ _. omega (arith, length-append l m)) (λ _. omega arith)

  unfolded_size : (ls : List (List ℕ)) → header_size (unfolded ls) ≤ header_size ls
  unfolded_size [] = omega arith
  unfolded_size (l ∷ ls) = omega (arith, continued_size l (unfolded ls), unfolded_size ls)

  continued_some : (l : List ℕ) (us : List (List ℕ)) → 1 ≤ length (continued l us)
  continued_some l [] = omega arith
  continued_some l (m ∷ ms) = cond_both (begins is_blank m) ((l ++ m) ∷ ms) (l ∷ m ∷ ms) (λ z. 1 ≤ length z) (λ _. omega arith) (λ _. omega arith)

  -- Fields weigh less than their header, where there are any.
  fields_size : (ls : List (List ℕ)) → AllGood (fields_of ls) → fields_weight (map read_field (fields_of ls)) ≤ 2 * header_size ls
  fields_size ls good = omega (arith, unfolded_fields (unfolded ls) good, unfolded_size ls)

  some_fields_size : (ls : List (List ℕ)) → AllGood (fields_of ls) → 1 ≤ length ls → fields_weight (map read_field (fields_of ls)) + 4 ≤ 2 * header_size ls
  some_fields_size [] good some = absurd (omega arith)
  some_fields_size (l ∷ ls) good some =
      omega (arith, unfolded_fields (unfolded (l ∷ ls)) good, unfolded_size (l ∷ ls), continued_some l (unfolded ls))

-- Lines and their sizes, each with a CRLF.
size-append : (xs ys : List (List ℕ)) → header_size (xs ++ ys) ≡ header_size xs + header_size ys
size-append [] ys = omega arith
size-append (x ∷ xs) ys = omega (arith, size-append xs ys)

header_less : (ls : List (List ℕ)) → header_size (header ls) ≤ header_size ls
header_less [] = omega arith
header_less ([] ∷ ls) = omega arith
header_less ((c ∷ l) ∷ ls) = omega (arith, header_less ls)

joined_size : (ls : List (List ℕ)) → AreLines ls → length (joined ls) + 2 ≡ header_size ls
joined_size [] h = absurd h
joined_size (l ∷ []) h = omega arith
joined_size (l ∷ m ∷ ls) h = omega (arith, length-append l (13 ∷ 10 ∷ joined (m ∷ ls)), joined_size (m ∷ ls) h.1)

some_lines : (ls : List (List ℕ)) → AreLines ls → 2 ≤ header_size ls
some_lines [] h = absurd h
some_lines (l ∷ ls) h = omega arith

lack_of : (ls : List (List ℕ)) → AreLines ls → AllLack 10 ls
lack_of [] h = absurd h
lack_of (l ∷ []) h = (h, tt)
lack_of (l ∷ m ∷ ls) h = (h.0, lack_of (m ∷ ls) h.1)

are_of : (l : List ℕ) (ls : List (List ℕ)) → AllLack 10 (l ∷ ls) → AreLines (l ∷ ls)
are_of l [] h = h.0
are_of l (m ∷ ls) h = (h.0, are_of m ls h.1)

-- The sizes of texts, and the size of the first of the pieces.
abbrev total : List (List ℕ) → ℕ
total [] = 0
total (t ∷ ts) = header_size (lines t) + total ts

abbrev first_size : List (List (List ℕ)) → ℕ
first_size [] = 0
first_size (p ∷ ps) = header_size p

-- How a text is split at its first empty line.
Split : List ℕ → Type 0
Split text = ((body_of text ≡ []) × (header_size (header (lines text)) ≤ header_size (lines text)) × (2 ≤ header_size (lines text)))
    ⊎ ((header_size (header (lines text)) + 2 + header_size (lines (body_of text)) ≡ header_size (lines text)) × (length (body_of text) + 2 ≡ header_size (lines (body_of text))))

FieldsSmall : List Field → ℕ → Type 0
FieldsSmall fields n = (fields_weight fields ≡ 0) ⊎ (fields_weight fields + 4 ≤ 2 * n)

abbrev tree_fields : Tree → List Field
tree_fields (node fields content) = fields

-- A tree that is small beside its text.
record IsSmall (d : Bool) (text : List ℕ) (tree : Tree) : Type 0 where
  size : weight tree + 3 ≤ 2 * header_size (lines text)
  bare : d ≡ false → tree_fields tree ≡ [] → weight tree + 4 ≤ 2 * header_size (lines text)

plain_kind : body_kind false [] ≡ Single false
unfolding body_kind type_of has_encoding
plain_kind = refl

module _ (laws : LineLaws) (weights : WeightLaws) (headers : FieldLaws) where
  joined_z : (p : List (List ℕ)) → AllLack 10 p → header_size (lines (joined p)) ≤ header_size p + 2
  joined_z [] h = omega arith
  joined_z (l ∷ ls) h = omega (arith, ap header_size (laws.read_again (l ∷ ls) (are_of l ls h)))

  total_all : (ps : List (List (List ℕ))) → EachLacks 10 ps → total (map joined ps) ≤ first_size ps + total (map joined (behind_first ps)) + 2
  total_all [] h = omega arith
  total_all (p ∷ ps) h = omega (arith, joined_z p h.0)

  put_size : (l : List ℕ) (ps : List (List (List ℕ))) → first_size (put l ps) + total (map joined (behind_first (put l ps))) ≤ length l + 2 + (first_size ps + total (map joined (behind_first ps)))
  put_size l [] = omega arith
  put_size l (p ∷ ps) = omega arith

  pieces_size : (b : List ℕ) (ls : List (List ℕ)) → AllLack 10 ls → first_size (pieces b ls) + total (map joined (behind_first (pieces b ls))) ≤ header_size ls
  pieces_size b [] h = omega arith
  pieces_size b (l ∷ ls) h =
      let P = λ (z : List (List (List ℕ))). first_size z + total (map joined (behind_first z)) ≤ length l + 2 + header_size ls in
      let later = pieces_size b ls h.1 in
      cond_both (is_closing b l) ([] ∷ []) (cond (is_delimiter b l) ([] ∷ pieces b ls) (put l (pieces b ls))) P
      (λ _. omega arith)
      (λ _. cond_both (is_delimiter b l) ([] ∷ pieces b ls) (put l (pieces b ls)) P
      (λ _. omega (arith, total_all (pieces b ls) (each-pieces 10 b ls h.1)))
      (λ _. omega (arith, put_size l (pieces b ls))))

  parts_size : (b text : List ℕ) → total (parts b text) ≤ header_size (lines text)
  parts_size b text = omega (arith, pieces_size b (lines text) (lack_of (lines text) (laws.are_lines text)))

  split_by : (bs : List (List ℕ)) (text : List ℕ) → body (lines text) ≡ bs → Split text
  unfolding Split
  split_by [] text e = inl (ap joined e, header_less (lines text), some_lines (lines text) (laws.are_lines text))
  split_by (m ∷ ms) text e =
      let free : AllLack 10 (m ∷ ms) = subst (AllLack 10) e (lacks-body 10 (lines text) (lack_of (lines text) (laws.are_lines text))) in
      let again : lines (body_of text) ≡ m ∷ ms = ap (λ z. lines (joined z)) e ∙ laws.read_again (m ∷ ms) (are_of m ms free) in
      let size = ap header_size again in
      let whole = ap header_size (body_lines (lines text) m ms e) ∙ size-append (header (lines text)) ([] ∷ m ∷ ms) in
      let long = joined_size (lines (body_of text)) (laws.are_lines (body_of text)) in
      let back : length (joined (lines (body_of text))) ≡ length (body_of text) = ap (λ z. length (joined z)) again ∙ sym (ap (λ z. length (joined z)) e) in
      inr (omega arith, omega arith)

  split : (text : List ℕ) → Split text
  split text = split_by (body (lines text)) text refl

  fields_by : (ls : List (List ℕ)) → AllGood (fields_of ls) → FieldsSmall (map read_field (fields_of ls)) (header_size ls)
  unfolding FieldsSmall
  fields_by [] good = inl refl
  fields_by (l ∷ ls) good = inr (some_fields_size weights (l ∷ ls) good (omega arith))

  fields_small : (text : List ℕ) (fields : List Field) → has 0 text ≡ false → AreFields (header (lines text)) fields → FieldsSmall fields (header_size (header (lines text)))
  fields_small text fields z h = subst (λ fs. FieldsSmall fs (header_size (header (lines text)))) h.read (fields_by (header (lines text)) (headers.good text z h.sound))

  both : (d : Bool) (text : List ℕ) (tree : Tree) → weight tree + 4 ≤ 2 * header_size (lines text) → IsSmall d text tree
  both d text tree h = record { size = omega arith; bare = λ _ _. h }

  leaf_small : (d : Bool) (text : List ℕ) (fields : List Field) (encoding : Encoding) (bytes : List ℕ) → FieldsSmall fields (header_size (header (lines text))) → Split text →
      length bytes ≤ length (body_of text) → weight (node fields (leaf encoding bytes)) + 4 ≤ 2 * header_size (lines text)
  unfolding FieldsSmall Split
  leaf_small d text fields encoding bytes (inl f) (inl s) h = omega (arith, ap length s.0, s.1, s.2)
  leaf_small d text fields encoding bytes (inr f) (inl s) h = omega (arith, ap length s.0, s.1, s.2)
  leaf_small d text fields encoding bytes (inl f) (inr s) h = omega (arith, s.0, s.1)
  leaf_small d text fields encoding bytes (inr f) (inr s) h = omega (arith, s.0, s.1)

  nested_size : (text : List ℕ) (fields : List Field) (tree : Tree) → FieldsSmall fields (header_size (header (lines text))) → Split text → IsSmall false (body_of text) tree →
      (body_of text ≡ [] → weight tree ≡ 0) → weight (node fields (nested tree)) + 3 ≤ 2 * header_size (lines text)
  unfolding FieldsSmall Split
  nested_size text fields tree (inl f) (inl s) small empty = omega (arith, empty s.0, s.1, s.2)
  nested_size text fields tree (inr f) (inl s) small empty = omega (arith, empty s.0, s.1, s.2)
  nested_size text fields tree (inl f) (inr s) small empty = omega (arith, small.size, s.0, s.1)
  nested_size text fields tree (inr f) (inr s) small empty = omega (arith, small.size, s.0, s.1)

  multi_size : (text : List ℕ) (fields : List Field) (trees : Trees) → FieldsSmall fields (header_size (header (lines text))) → Split text → (body_of text ≡ [] → ⊥) →
      weight_of trees ≤ 2 * header_size (lines (body_of text)) → weight (node fields (multi trees)) + 4 ≤ 2 * header_size (lines text)
  unfolding FieldsSmall Split
  multi_size text fields trees f (inl s) some h = absurd (some s.0)
  multi_size text fields trees (inl f) (inr s) some h = omega (arith, s.0, s.1)
  multi_size text fields trees (inr f) (inr s) some h = omega (arith, s.0, s.1)

  no_part : (es : List (List ℕ)) (b : List ℕ) (d : Bool) (text : List ℕ) (trees : Trees) → HasPart trees → ReadsParts es d (parts b text) trees → text ≡ [] → ⊥
  no_part es b d text none some h e = some
  no_part es b d text (more tree trees) some h e = subst (λ t. ReadsParts es d (parts b t) (more tree trees)) e h

  not_nested : (d : Bool) (fields : List Field) → d ≡ false → fields ≡ [] → body_kind d fields ≡ Embedded → ⊥
  not_nested d fields e f k =
      let bad : Single false ≡ Embedded = sym plain_kind ∙ sym (ap (λ z. body_kind z fields) e ∙ ap (body_kind false) f) ∙ k in
      cc

  nothing : (es : List (List ℕ)) (text : List ℕ) (tree : Tree) → Reads es false text tree → IsSmall false text tree → text ≡ [] → weight tree ≡ 0
  nothing es text (node fields content) h small e =
      let none : fields ≡ [] = sym h.0.read ∙ ap (λ t. map read_field (fields_of (header (lines t)))) e in
      omega (arith, small.bare refl none, ap (λ t. header_size (lines t)) e)

  mutual
    small_tree : (es : List (List ℕ)) (d : Bool) (text : List ℕ) (tree : Tree) → has 0 text ≡ false → Reads es d text tree → IsSmall d text tree
    small_tree es d text (node fields (leaf encoding bytes)) z h =
        both d text (node fields (leaf encoding bytes))
        (leaf_small d text fields encoding bytes (fields_small text fields z h.0) (split text) (leaf_size h.1.0 (body_of text) encoding bytes h.1.2))
    small_tree es d text (node fields (nested tree)) z h =
        let small = small_tree es false (body_of text) tree (body-lacks text z) h.1.1 in
        record {
          size = nested_size text fields tree (fields_small text fields z h.0) (split text) small (nothing es (body_of text) tree h.1.1 small);
          bare = λ e f. absurd (not_nested d fields e f h.1.0);
        }
    small_tree es d text (node fields (multi trees)) z h =
        let b = h.1.0 in
        let all = small_parts (b ∷ es) h.1.1 (parts b (body_of text)) trees (parts-lack b (body_of text) (body-lacks text z)) h.1.5 in
        both d text (node fields (multi trees))
        (multi_size text fields trees (fields_small text fields z h.0) (split text) (no_part (b ∷ es) b h.1.1 (body_of text) trees h.1.4 h.1.5)
        (omega (arith, all, parts_size b (body_of text))))

    small_parts : (es : List (List ℕ)) (d : Bool) (texts : List (List ℕ)) (trees : Trees) → AllLack 0 texts → ReadsParts es d texts trees → weight_of trees ≤ 2 * total texts
    small_parts es d texts none z h = omega arith
    small_parts es d [] (more tree trees) z h = absurd h
    small_parts es d (p ∷ ps) (more tree trees) z h =
        let one = small_tree es d p tree z.0 h.0 in
        omega (arith, one.size, small_parts es d ps trees z.1 h.1)

  pub read_size : (text : List ℕ) (tree : Tree) → IsMessage text tree → weight tree ≤ 4 * length text + 4
  read_size text tree m =
      let small = small_tree [] false text tree m.no_zero m.reads in
      omega (arith, small.size, joined_size (lines text) (laws.are_lines text), joined_shorter laws text)
