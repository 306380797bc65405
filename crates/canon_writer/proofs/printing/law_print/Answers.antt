use Rattle.canon_writer.proofs.LawLemmas.{print_laws}
use Rattle.canon_writer.proofs.printing.law_print.Goals as goal

pub returns : goal.returns
returns c =
    let wrapping = c.law_wrapping.ensures in
    print_laws c.law_lines.ensures c.law_addresses.ensures c.law_ids.ensures c.law_dates.ensures.sent c.law_values.ensures.sent c.law_base64.ensures
    c.law_reading.ensures (record { stands = λ now. c.law_values.ensures.now now _ (wrapping.is_print now); good = wrapping.good })
