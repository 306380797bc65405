use Rattle.std.proofs.Common.{◌≡◌, ◌≤◌, ℕ, List, ap, sym, ◌∙◌, refl, length, arith, subst, ◌++◌, [], ◌∷◌}
use Rattle.std.specs.List.{AllByRecursion}
use Rattle.base64.specs.GeneralPurpose.{IsBytes}
use Rattle.mail_text.specs.Lines.{joined, lines}
use Rattle.transfer_codec.specs.Base64.{decoded, base64}
use Rattle.transfer_codec.specs.Layout.{pieces_of, printed64}
use Rattle.transfer_codec.proofs.DecodeLemmas.{decoded-base64, decoded_exact, decoded_bytes}
use Rattle.transfer_codec.proofs.SymbolLemmas.{base64-symbols, symbols_lack, symbols_content, no_zero_bits, no_dash_bits, no_lf_bits}
use Rattle.transfer_codec.proofs.PrintLemmas.{printed_size}
use Rattle.transfer_codec.proofs.LineLemmas.{content_of_lines, lines_lack, ended_lack, lines-ended, joined-ended, lines_short}
use Rattle.transfer_codec.proofs.laws.law_base64.Goals as goal

pub returns : goal.returns
unfolding printed64
returns c =
    let laws = c.law_lines.ensures in
    let lines_are : (bytes : List ℕ) → IsBytes bytes → lines (printed64 bytes) ≡ pieces_of 76 (base64 bytes) ++ [] ∷ [] = λ bytes h. let text = base64 bytes in
    lines-ended laws (pieces_of 76 text) (lines_lack 10 76 (length text) text (symbols_lack 10 no_lf_bits refl text (base64-symbols bytes h))) in
    record {
      exact = λ text bytes h. ((λ e. decoded_exact text bytes e), (λ e. ap decoded e ∙ decoded-base64 bytes h));
      are_bytes = decoded_bytes;
      read_again = λ bytes h. let text = base64 bytes in
          ap decoded (content_of_lines 76 (length text) text (omega arith) (omega arith) ∙ symbols_content text (base64-symbols bytes h)) ∙ decoded-base64 bytes h;
      lines_are = lines_are;
      short = λ bytes h. subst (AllByRecursion (λ line. length line ≤ 76)) (sym (lines_are bytes h)) (lines_short 76 (length (base64 bytes)) (base64 bytes));
      is_crlf = λ bytes h. ap joined (lines_are bytes h) ∙ joined-ended (pieces_of 76 (base64 bytes));
      size = printed_size;
      no_zero = λ bytes h. let text = base64 bytes in
          ended_lack 0 (pieces_of 76 text) refl (lines_lack 0 76 (length text) text (symbols_lack 0 no_zero_bits refl text (base64-symbols bytes h)));
      no_dash = λ bytes h. let text = base64 bytes in
          ended_lack 45 (pieces_of 76 text) refl (lines_lack 45 76 (length text) text (symbols_lack 45 no_dash_bits refl text (base64-symbols bytes h)));
    }
