use Rattle.std.proofs.Common.{◌∙◌, sym, ap, string_bytes}
use Rattle.mail_server.specs.Words.{asked_by, asked_by_word}
use Rattle.mail_server.proofs.WordLists.{one-word}
use Rattle.mail_server.proofs.words.read_words.Goals as goal

pub returns-in-len1 : goal.returns-in-len1
returns-in-len1 c =
    let all = one-word (λ word. string_bytes word) c.args.words.now c.word-item.result c.in-len1.len_at_least c.in-len1.len_below c.word-item.is in
    c.read_word.ensures ∙ ap asked_by_word c.as_bytes.ensures.value ∙ sym (ap asked_by all)
