use Rattle.std.proofs.Common.{◌∙◌, ap, sym, option_map, None, []}
use Rattle.lmtp_core.specs.declared.lines.LineShown.{LineShown}
use Rattle.lmtp_core.specs.Lines.{or_later}
use Rattle.session_units.specs.Awaited.{Line}
use Rattle.session_units.specs.Units.{line_cut}
use Rattle.session_units.proofs.Lines.{line-bytes, line-fed, line-open}
use Rattle.session_units.proofs.reader.feed_line.Goals as goal

pub feed-requires : goal.feed-requires
feed-requires c = line-open c.args.line.now c.requires

pub returns-in-More-clause-fed : goal.returns-in-More-clause-fed
returns-in-More-clause-fed c = ap Line (line-bytes c.args.line.now c.feed.new.self c.args.byte c.feed.result c.requires c.feed.ensures)

pub returns-in-Whole-clause-fed : goal.returns-in-Whole-clause-fed
returns-in-Whole-clause-fed c = ap Line (line-bytes c.args.line.now c.feed.new.self c.args.byte c.feed.result c.requires c.feed.ensures)

pub returns-in-TooLong-clause-fed : goal.returns-in-TooLong-clause-fed
returns-in-TooLong-clause-fed c = ap Line (line-bytes c.args.line.now c.feed.new.self c.args.byte c.feed.result c.requires c.feed.ensures)

pub returns-in-More-clause-cut : goal.returns-in-More-clause-cut
returns-in-More-clause-cut c =
    line-fed c.lines_end_where_they_end.ensures.goes_on c.args.line.now c.feed.new.self c.args.byte c.feed.result c.requires c.feed.ensures
    ∙ ap (λ (s : LineShown). option_map line_cut (or_later s c.feed.new.self [] None)) (sym c.shown.ensures ∙ c.in-More.is)

pub returns-in-Whole-clause-cut : goal.returns-in-Whole-clause-cut
returns-in-Whole-clause-cut c =
    line-fed c.lines_end_where_they_end.ensures.goes_on c.args.line.now c.feed.new.self c.args.byte c.feed.result c.requires c.feed.ensures
    ∙ ap (λ (s : LineShown). option_map line_cut (or_later s c.feed.new.self [] None)) (sym c.shown.ensures ∙ c.in-Whole.is)

pub returns-in-TooLong-clause-cut : goal.returns-in-TooLong-clause-cut
returns-in-TooLong-clause-cut c =
    line-fed c.lines_end_where_they_end.ensures.goes_on c.args.line.now c.feed.new.self c.args.byte c.feed.result c.requires c.feed.ensures
    ∙ ap (λ (s : LineShown). option_map line_cut (or_later s c.feed.new.self [] None)) (sym c.shown.ensures ∙ c.in-TooLong.is)
