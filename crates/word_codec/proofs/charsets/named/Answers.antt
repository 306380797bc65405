use Rattle.std.proofs.Common.{codes, sym, ◌∙◌, cond}
use Rattle.std.proofs.lemmas.Bool.{cond-true, cond-false}
use Rattle.mail_text.specs.Case.{is_same}
use Rattle.word_codec.specs.declared.charsets.Charset.TheVariants.{UsAscii, Utf8, Latin1}
use Rattle.word_codec.specs.Charsets.{charset_of}
use Rattle.word_codec.proofs.charsets.named.Goals as goal

pub returns-then-same : goal.returns-then-same
unfolding charset_of
returns-then-same c =
    let name = c.args.name.now in
    sym (cond-true (is_same name (codes "utf-8")) Utf8 (cond (is_same name (codes "iso-8859-1")) Latin1 UsAscii) (sym c.same.ensures.value ∙ c.if-same.true))

pub returns-then-same-2 : goal.returns-then-same-2
unfolding charset_of
returns-then-same-2 c =
    let name = c.args.name.now in
    sym (cond-false (is_same name (codes "utf-8")) Utf8 (cond (is_same name (codes "iso-8859-1")) Latin1 UsAscii) (sym c.same.ensures.value ∙ c.if-same.false)
    ∙ cond-true (is_same name (codes "iso-8859-1")) Latin1 UsAscii (sym c.same-else-same.ensures.value ∙ c.if-same-2.true))

pub returns-else-same-2 : goal.returns-else-same-2
unfolding charset_of
returns-else-same-2 c =
    let name = c.args.name.now in
    sym (cond-false (is_same name (codes "utf-8")) Utf8 (cond (is_same name (codes "iso-8859-1")) Latin1 UsAscii) (sym c.same.ensures.value ∙ c.if-same.false)
    ∙ cond-false (is_same name (codes "iso-8859-1")) Latin1 UsAscii (sym c.same-else-same.ensures.value ∙ c.if-same-2.false))
