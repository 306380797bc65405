use Rattle.std.proofs.Common.{◌∙◌, sym, None, Some}
use Rattle.session_units.proofs.Texts.{text-more, text-whole}
use Rattle.session_units.proofs.reader.feed_text.Goals as goal

pub returns-then-not-is_whole-clause-cut : goal.returns-then-not-is_whole-clause-cut
returns-then-not-is_whole-clause-cut c = text-more c.args.text.now c.feed.new.self c.args.byte c.in_ok-feed.ensures.read (sym c.is_whole.ensures ∙ c.if-not-is_whole.true)

pub returns-in-Some-clause-cut : goal.returns-in-Some-clause-cut
returns-in-Some-clause-cut c =
    text-whole c.args.text.now c.feed.new.self c.args.byte (Some c.in-Some.field-0.now) c.requires c.in_ok-feed.ensures.read (sym c.is_whole.ensures ∙ c.if-not-is_whole.false) c.in-Some.ensures

pub returns-in-None-clause-cut : goal.returns-in-None-clause-cut
returns-in-None-clause-cut c =
    text-whole c.args.text.now c.feed.new.self c.args.byte None c.requires c.in_ok-feed.ensures.read (sym c.is_whole.ensures ∙ c.if-not-is_whole.false) c.in-None.ensures
