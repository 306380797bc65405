use Rattle.std.proofs.Common.{◌≡◌, [], List, ℕ, ap, ◌∙◌, refl}
use Rattle.imap_lexer.specs.Lexer as lexer
use Rattle.lmtp_core.specs.Reading.{Read, unread}
use Rattle.session_units.specs.declared.forms.Awaits.{Awaits}
use Rattle.session_units.specs.declared.forms.Awaits.TheVariants.{Command, PlainLine, LmtpLine, LmtpText}
use Rattle.session_units.specs.declared.forms.Source.{Source}
use Rattle.session_units.specs.Awaited.{Awaited, begun, form_for, held_by, source_for}
use Rattle.session_units.specs.Units.{first}
use Rattle.session_units.proofs.Ending.{begun-none}
use Rattle.session_units.proofs.reader.Reader.next.Goals as goal

begun-held : (awaits : Awaits) → held_by (source_for awaits) (record { form = form_for awaits; bytes = [] }) [] unread ≡ begun awaits
begun-held Command = refl
begun-held PlainLine = refl
begun-held LmtpLine = refl
begun-held LmtpText = refl

dropped : (c : goal.After-self-1) → held_by c.source_of-self-inside.result c.next.new.self c.clear.new.self c.clear-2.new.self ≡ begun c.args.awaits
dropped c =
    ap (λ (s : Source). held_by s c.next.new.self c.clear.new.self c.clear-2.new.self) c.source_of-self-inside.ensures
    ∙ ap (λ (a : lexer.Awaited). held_by (source_for c.args.awaits) a c.clear.new.self c.clear-2.new.self) (c.next.ensures.dropped ∙ ap (λ f. record { form = f; bytes = [] }) c.is_plain.ensures)
    ∙ ap (λ (l : List ℕ). held_by (source_for c.args.awaits) (record { form = form_for c.args.awaits; bytes = [] }) l c.clear-2.new.self) c.clear.ensures
    ∙ ap (λ (r : Read). held_by (source_for c.args.awaits) (record { form = form_for c.args.awaits; bytes = [] }) [] r) c.clear-2.ensures
    ∙ begun-held c.args.awaits

pub returns-clause-dropped : goal.returns-clause-dropped
returns-clause-dropped c = dropped c

pub returns-clause-none : goal.returns-clause-none
returns-clause-none c = ap (λ (a : Awaited). first a []) (dropped c) ∙ begun-none c.args.awaits
