use Rattle.std.proofs.Common.{◌≡◌, ◌||◌, ℕ, List, Bor, map, subst}
use Rattle.std.specs.List.{list_any}
use Rattle.mailbox_core.specs.SummaryRows.{has_word, is_id_of}
use Rattle.mailbox_core.proofs.Words.{moved, moved_all, sorted_words}
use Rattle.mailbox_core.proofs.keywords.words_of.Goals as goal

pub ids-preserved : goal.ids-preserved
ids-preserved c = λ word.
    let names = c.args.tables.now.marks.flag_names in
    moved (has_word word (map (λ (w : Bor (List ℕ)). w.now) c.ids.words.keys)) (is_id_of word names c.in-Some.id) (list_any (is_id_of word names) c.pop_first.new.self.keys)
    (has_word word (map (λ (w : Bor (List ℕ)). w.now) c.add_keyword.new.words.keys)) (list_any (is_id_of word names) c.args.ids.keys)
    (c.in_ok-add_keyword.ensures word)
    (subst (λ (l : List ℕ). (has_word word (map (λ (w : Bor (List ℕ)). w.now) c.ids.words.keys) || list_any (is_id_of word names) l) ≡ list_any (is_id_of word names) c.args.ids.keys) c.in-Some.ensures.removal (c.ids.invariant word))

pub returns : goal.returns
returns c = record {
  order = sorted_words (λ (w : Bor (List ℕ)). w.now) c.ids.words.keys c.len.ensures.ordered;
  each = λ word.
      let names = c.args.tables.now.marks.flag_names in
      moved_all (has_word word (map (λ (w : Bor (List ℕ)). w.now) c.ids.words.keys)) (list_any (is_id_of word names) c.args.ids.keys) (is_id_of word names) c.ids.ids.keys
      (λ some. c.in_default.ensures.variant.1 some) (c.ids.invariant word);
}
