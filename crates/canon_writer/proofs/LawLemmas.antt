-- All that holds of prints.
use Rattle.mail_text.specs.Lines.{LineLaws}
use Rattle.address_grammar.specs.Laws.{AddressLaws, IdLaws}
use Rattle.transfer_codec.specs.Laws.{Base64Laws}
use Rattle.mime_reader.specs.Reading.{ReadingLaws}
use Rattle.canon_writer.specs.Laws.{PrintLaws}
use Rattle.canon_writer.proofs.ValueLemmas.{DatesAgain, DatesStand, value_laws}
use Rattle.canon_writer.proofs.PrintLemmas.{Owed, message_again, read_again}
use Rattle.canon_writer.proofs.WrapperLemmas.{AreKnown, wrapper_again}

pub print_laws : LineLaws → AddressLaws → IdLaws → DatesAgain → DatesStand → Base64Laws → ReadingLaws → AreKnown → PrintLaws
print_laws lines addresses ids again stand base64 reading known =
    let values = value_laws addresses ids again stand in
    let laws : Owed = record { lines = lines; base64 = base64; values = values; boundary = reading.boundary } in
    record {
      read_again = read_again laws reading;
      wrapped = wrapper_again laws known;
      value_again = values.again;
      value_good = values.good;
      is_crlf = λ text tree m. (message_again laws reading text tree m).crlf;
    }
