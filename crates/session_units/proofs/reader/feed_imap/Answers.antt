use Rattle.std.proofs.Common.{◌∙◌, ap, option_map}
use Rattle.imap_lexer.specs.declared.units.Fed.{Fed}
use Rattle.imap_lexer.specs.Units as commands
use Rattle.session_units.specs.Units.{imap_cut}
use Rattle.session_units.proofs.Lines.{imap-fed, imap-open}
use Rattle.session_units.proofs.reader.feed_imap.Goals as goal

pub feed-requires : goal.feed-requires
feed-requires c = imap-open c.args.imap.now.form c.args.imap.now.bytes c.requires

pub returns-in-More-clause-cut : goal.returns-in-More-clause-cut
returns-in-More-clause-cut c =
    imap-fed c.args.imap.now c.feed.new.self c.args.byte c.in_ok-feed.field-0 c.in_ok-feed.ensures.fed c.in_ok-feed.ensures.cut
    ∙ ap (λ (f : Fed). option_map imap_cut (commands.ended (commands.ending f) c.feed.new.self.bytes)) c.in-More.is

pub returns-in-Continue-clause-cut : goal.returns-in-Continue-clause-cut
returns-in-Continue-clause-cut c =
    imap-fed c.args.imap.now c.feed.new.self c.args.byte c.in_ok-feed.field-0 c.in_ok-feed.ensures.fed c.in_ok-feed.ensures.cut
    ∙ ap (λ (f : Fed). option_map imap_cut (commands.ended (commands.ending f) c.feed.new.self.bytes)) c.in-Continue.is

pub returns-in-Unit-clause-cut : goal.returns-in-Unit-clause-cut
returns-in-Unit-clause-cut c =
    imap-fed c.args.imap.now c.feed.new.self c.args.byte c.in_ok-feed.field-0 c.in_ok-feed.ensures.fed c.in_ok-feed.ensures.cut
    ∙ ap (λ (f : Fed). option_map imap_cut (commands.ended (commands.ending f) c.feed.new.self.bytes)) c.in-Unit.is

pub returns-in-LineTooLong-clause-cut : goal.returns-in-LineTooLong-clause-cut
returns-in-LineTooLong-clause-cut c =
    imap-fed c.args.imap.now c.feed.new.self c.args.byte c.in_ok-feed.field-0 c.in_ok-feed.ensures.fed c.in_ok-feed.ensures.cut
    ∙ ap (λ (f : Fed). option_map imap_cut (commands.ended (commands.ending f) c.feed.new.self.bytes)) c.in-LineTooLong.is

pub returns-in-LiteralTooLong-clause-cut : goal.returns-in-LiteralTooLong-clause-cut
returns-in-LiteralTooLong-clause-cut c =
    imap-fed c.args.imap.now c.feed.new.self c.args.byte c.in_ok-feed.field-0 c.in_ok-feed.ensures.fed c.in_ok-feed.ensures.cut
    ∙ ap (λ (f : Fed). option_map imap_cut (commands.ended (commands.ending f) c.feed.new.self.bytes)) c.in-LiteralTooLong.is
