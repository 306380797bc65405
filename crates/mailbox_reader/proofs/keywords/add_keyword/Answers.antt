use Rattle.std.proofs.Common.{◌||◌, ℕ, List, Bool, Bor, map, ap, sym, ◌∙◌}
use Rattle.mailbox_reader.specs.FlagRows.{has_word}
use Rattle.mailbox_reader.proofs.Words.{word_inserted}
use Rattle.mailbox_reader.proofs.keywords.add_keyword.Goals as goal

pub returns-in_ok-insert-in-Some : goal.returns-in_ok-insert-in-Some
returns-in_ok-insert-in-Some c = λ word.
    let old = c.args.words.now.keys in
    ap (λ (l : List (Bor (List ℕ))). has_word word (map (λ (w : Bor (List ℕ)). w.now) l)) c.in_ok-insert-in-Some.ensures.keys
    ∙ (word_inserted (λ (w : Bor (List ℕ)). w.now) old c.in-Some.word word
    ∙ ap (λ (b : Bool). b || has_word word (map (λ (w : Bor (List ℕ)). w.now) old)) (sym (c.in-Some.ensures word)))
