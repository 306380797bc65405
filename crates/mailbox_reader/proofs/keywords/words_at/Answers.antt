use Rattle.std.proofs.Common.{◌≡◌, ◌||◌, ℕ, List, Bor, map, sym, subst, ◌∙◌}
use Rattle.std.specs.List.{list_any}
use Rattle.row_tables.specs.References.{flags_at}
use Rattle.row_tables.specs.declared.marks.FlagRow.{FlagRow}
use Rattle.mailbox_reader.specs.FlagRows.{has_word, is_id_of}
use Rattle.mailbox_reader.proofs.Words.{moved, or_none, sorted_words}
use Rattle.mailbox_reader.proofs.keywords.words_at.Goals as goal

pub rows-preserved : goal.rows-preserved
rows-preserved c = λ word.
    let names = c.args.tables.now.marks.flag_names in
    let all = list_any (is_id_of word names) (map (λ (row : FlagRow). row.flag) (flags_at c.args.mailbox c.args.uid c.args.tables.now.marks.flags)) in
    moved (has_word word (map (λ (w : Bor (List ℕ)). w.now) c.rows.words.keys)) (is_id_of word names c.in-Some.row.now.flag) (list_any (is_id_of word names) (map (λ (row : FlagRow). row.flag) c.next.new.self))
    (has_word word (map (λ (w : Bor (List ℕ)). w.now) c.add_keyword.new.words.keys)) all
    (c.in_ok-add_keyword.ensures word)
    (subst (λ (rows : List FlagRow). (has_word word (map (λ (w : Bor (List ℕ)). w.now) c.rows.words.keys) || list_any (is_id_of word names) (map (λ (row : FlagRow). row.flag) rows)) ≡ all) c.in-Some.ensures.steps (c.rows.invariant word))

pub returns : goal.returns
returns c = record {
  order = sorted_words (λ (w : Bor (List ℕ)). w.now) c.rows.words.keys c.len.ensures.ordered;
  each = λ word.
      let names = c.args.tables.now.marks.flag_names in
      let all = list_any (is_id_of word names) (map (λ (row : FlagRow). row.flag) (flags_at c.args.mailbox c.args.uid c.args.tables.now.marks.flags)) in
      let has = has_word word (map (λ (w : Bor (List ℕ)). w.now) c.rows.words.keys) in
      sym (or_none has) ∙ subst (λ (rows : List FlagRow). (has || list_any (is_id_of word names) (map (λ (row : FlagRow). row.flag) rows)) ≡ all) c.in_default.ensures.steps.0 (c.rows.invariant word);
}
