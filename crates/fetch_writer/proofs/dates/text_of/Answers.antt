use Rattle.fetch_writer.specs.InternalDates.{internal_text}
use Rattle.fetch_writer.proofs.DateLemmas.{is_internal}
use Rattle.fetch_writer.proofs.dates.text_of.Goals as goal

pub returns : goal.returns
returns c =
    c.law_one_print.ensures.internal c.args.stamp c.print_internal.result (internal_text c.args.stamp) c.print_internal.ensures
    (is_internal c.law_values.ensures.first_day c.law_values.ensures.last_day c.args.stamp c.requires)
