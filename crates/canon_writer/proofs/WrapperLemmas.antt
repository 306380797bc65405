-- The print of a wrapper is read as the wrapper.
use Rattle.std.proofs.Common.{◌≡◌, ℕ, ◌≤◌, true, false, List, [], ◌∷◌, ◌++◌, Some, refl, sym, subst, arith}
use Rattle.std.specs.Prelude.{codes}
use Rattle.base64.specs.GeneralPurpose.{IsBytes}
use Rattle.mail_text.specs.Lines.{has}
use Rattle.mime_tree.specs.declared.values.Field.{Field}
use Rattle.mime_tree.specs.declared.trees.Encoding.TheVariants.{Plain, Base64}
use Rattle.mime_tree.specs.declared.reasons.Reason.{Reason}
use Rattle.mime_tree.specs.declared.reasons.Reason.TheVariants.{ZeroByte, LoneReturn, NoField, LongHeader, NoBoundary, NoDelimiter, TooDeep, TooMany}
use Rattle.mime_tree.specs.Sizes.{nodes, levels}
use Rattle.mime_tree.specs.Trees.Content.{leaf, multi}
use Rattle.mime_tree.specs.Trees.Trees.{none, more}
use Rattle.date_grammar.specs.Dates.{IsFieldValue}
use Rattle.transfer_codec.specs.Layout.{printed64}
use Rattle.header_reader.specs.Faults.{header_size, longest_header}
use Rattle.mime_reader.specs.declared.kinds.BodyKind.TheVariants.{Multipart, Single}
use Rattle.mime_reader.specs.ContentTypes.{parameters_behind}
use Rattle.mime_reader.specs.Kinds.{body_kind, boundary_of, type_of, has_encoding}
use Rattle.mime_reader.specs.Reading.{HasGoodFields, IsMessage, most_levels, most_nodes}
use Rattle.mime_reader.specs.Arrival.{arrival}
use Rattle.mime_reader.specs.Wrapping.{reason_text, text_field, notice, attachment, wrapper_fields, wrapper}
use Rattle.canon_writer.specs.Printing.{header_lines, print, print_parts, HeadersFit}
use Rattle.canon_writer.proofs.HeadLemmas.{is_header, line_is_crlf, one_line}
use Rattle.canon_writer.proofs.InsideLemmas.{AreInside, undashed_free}
use Rattle.canon_writer.proofs.DelimiterLemmas.{boundary_facts}
use Rattle.canon_writer.proofs.SizeLemmas.{size_within}
use Rattle.canon_writer.proofs.PrintLemmas.{Owed, Bound, IsPrint, IsBodyPrint, headed, base64_print, multi_print, message_of_print}

-- What is known of the wrappers of all bytes.
pub record AreKnown : Type 0 where
  pub stands : (now : ℕ) → IsFieldValue (arrival now).text
  pub good : (bytes : List ℕ) (reason : Reason) (now : ℕ) → HasGoodFields (wrapper bytes reason now)

-- Kinds

wrapper_kind : (now : ℕ) → body_kind false (wrapper_fields now) ≡ Multipart (Some (codes "wrapped")) false
unfolding body_kind type_of has_encoding parameters_behind
wrapper_kind now = refl

notice_kind : body_kind false (text_field (codes "Content-Type") (codes "text/plain; charset=us-ascii") ∷ []) ≡ Single false
unfolding body_kind type_of has_encoding parameters_behind
notice_kind = refl

attachment_kind : body_kind false (text_field (codes "Content-Type") (codes "application/octet-stream")
    ∷ text_field (codes "Content-Transfer-Encoding") (codes "base64")
    ∷ text_field (codes "Content-Disposition") (codes "attachment; filename=original") ∷ []) ≡ Single true
unfolding body_kind type_of has_encoding parameters_behind
attachment_kind = refl

-- Parts

abbrev notice_text : Reason → List ℕ
notice_text reason = codes "The attached message could not be read: " ++ reason_text reason ++ codes "."

notice_no_zero : (reason : Reason) → has 0 (notice_text reason) ≡ false
notice_no_zero ZeroByte = refl
notice_no_zero LoneReturn = refl
notice_no_zero NoField = refl
notice_no_zero LongHeader = refl
notice_no_zero NoBoundary = refl
notice_no_zero NoDelimiter = refl
notice_no_zero TooDeep = refl
notice_no_zero TooMany = refl

notice_no_lf : (reason : Reason) → has 10 (notice_text reason) ≡ false
notice_no_lf ZeroByte = refl
notice_no_lf LoneReturn = refl
notice_no_lf NoField = refl
notice_no_lf LongHeader = refl
notice_no_lf NoBoundary = refl
notice_no_lf NoDelimiter = refl
notice_no_lf TooDeep = refl
notice_no_lf TooMany = refl

-- Sizes

notice_fits : header_size (header_lines (text_field (codes "Content-Type") (codes "text/plain; charset=us-ascii") ∷ [])) ≤ longest_header
notice_fits = omega (arith, size_within (text_field (codes "Content-Type") (codes "text/plain; charset=us-ascii") ∷ []))

abbrev attachment_fields : List Field
attachment_fields =
    text_field (codes "Content-Type") (codes "application/octet-stream") ∷ text_field (codes "Content-Transfer-Encoding") (codes "base64")
    ∷ text_field (codes "Content-Disposition") (codes "attachment; filename=original") ∷ []

attachment_fits : header_size (header_lines attachment_fields) ≤ longest_header
attachment_fits = omega (arith, size_within attachment_fields)

wrapper_levels : (bytes : List ℕ) (reason : Reason) (now : ℕ) → levels (wrapper bytes reason now) ≤ most_levels
unfolding wrapper
wrapper_levels bytes reason now = omega arith

wrapper_nodes : (bytes : List ℕ) (reason : Reason) (now : ℕ) → nodes (wrapper bytes reason now) ≤ most_nodes
unfolding wrapper
wrapper_nodes bytes reason now = omega arith

module _ (laws : Owed) (known : AreKnown) where
  notice_print : (es : List (List ℕ)) (reason : Reason) → IsPrint es false (print (notice reason)) (notice reason)
  unfolding wrapper
  notice_print es reason =
      let text = notice_text reason in
      let fields = text_field (codes "Content-Type") (codes "text/plain; charset=us-ascii") ∷ [] in
      let lf = notice_no_lf reason in
      headed laws es false fields (leaf Plain text) text (is_header laws.values fields (known.good [] reason 0).1.0.0) (record {
        crlf = line_is_crlf laws.lines text lf;
        inside =
            subst (AreInside es) (sym (one_line laws.lines text lf))
            (record { free = undashed_free es text refl; no_zero = notice_no_zero reason; no_lf = lf }, tt);
        reads = λ _. (false, notice_kind, (λ e. absurd (cc), refl));
      })

  attachment_print : (es : List (List ℕ)) (bytes : List ℕ) → IsBytes bytes → IsPrint es false (print (attachment bytes)) (attachment bytes)
  unfolding wrapper
  attachment_print es bytes are =
      let fields = attachment_fields in
      headed laws es false fields (leaf Base64 bytes) (printed64 bytes) (is_header laws.values fields (known.good bytes ZeroByte 0).1.1.0.0)
      (base64_print laws es (body_kind false fields) bytes are attachment_kind)

  wrapper_print : (bytes : List ℕ) (reason : Reason) (now : ℕ) → IsBytes bytes → IsPrint [] false (print (wrapper bytes reason now)) (wrapper bytes reason now)
  unfolding wrapper
  wrapper_print bytes reason now are =
      let fields = wrapper_fields now in
      let trees = more (notice reason) (more (attachment bytes) none) in
      let b = codes "wrapped" in
      let bound : Bound b [] = record { is = boundary_facts b refl; delimiter_free = tt; closing_free = tt } in
      let parts =
      multi_print laws [] (body_kind false fields) b false trees (wrapper_kind now) refl tt bound
      (notice_print (b ∷ []) reason, (attachment_print (b ∷ []) bytes are, tt)) in
      headed laws [] false fields (multi trees) (print_parts (boundary_of fields) trees) (is_header laws.values fields (known.good bytes reason now).0)
      (subst (λ x. IsBodyPrint [] (body_kind false fields) (print_parts x trees) (multi trees)) (sym (laws.boundary false false fields b (wrapper_kind now))) parts)

  wrapper_fits : (bytes : List ℕ) (reason : Reason) (now : ℕ) → HeadersFit (wrapper bytes reason now)
  unfolding wrapper
  wrapper_fits bytes reason now =
      let f = known.stands now in (
        omega (arith, f.size, size_within (wrapper_fields now)),
        ((notice_fits, tt), ((attachment_fits, tt), tt)),
      )

  pub wrapper_again : (bytes : List ℕ) (reason : Reason) (now : ℕ) → IsBytes bytes → IsMessage (print (wrapper bytes reason now)) (wrapper bytes reason now)
  wrapper_again bytes reason now are =
      message_of_print laws (print (wrapper bytes reason now)) (wrapper bytes reason now) (wrapper_print bytes reason now are) (wrapper_fits bytes reason now)
      (wrapper_levels bytes reason now) (wrapper_nodes bytes reason now)
