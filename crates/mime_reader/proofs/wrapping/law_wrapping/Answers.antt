use Rattle.mime_reader.specs.Arrival.{arrival}
use Rattle.mime_reader.proofs.ArrivalLemmas.{is_now}
use Rattle.mime_reader.proofs.WrappingLemmas.{wrapper_good}
use Rattle.mime_reader.proofs.wrapping.law_wrapping.Goals as goal

pub returns : goal.returns
returns c = record {
  is_print = is_now c.law_values.ensures.last_day;
  good = λ bytes reason now.
      wrapper_good bytes reason now (c.law_dates.ensures.now now (arrival now).text (is_now c.law_values.ensures.last_day now))
      (c.law_values.ensures.now now (arrival now).text (is_now c.law_values.ensures.last_day now));
}
