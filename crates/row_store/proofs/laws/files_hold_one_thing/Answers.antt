use Rattle.std.proofs.Common.{◌≡◌, ℕ, List, Option, sym, ap, ◌∙◌, subst}
use Rattle.row_tables.specs.TableRows.{TableRows, no_rows}
use Rattle.row_store.specs.ThreeFiles.{FileBytes}
use Rattle.row_store.specs.Holding.{Holds, Replays, content_in}
use Rattle.row_store.proofs.Payloads.{Laws, one_replay}
use Rattle.row_store.proofs.laws.files_hold_one_thing.Goals as goal

pub returns-clause-tables : goal.returns-clause-tables
returns-clause-tables c files t u d d' h k =
    let laws : Laws = record { one_end = c.changes_have_one_end.ensures; differ = c.encodings_differ.ensures; texts = c.fitting_texts_have_lengths.ensures } in
    let same : h.payloads ≡ k.payloads = (c.a_text_says_one_thing.ensures 0 h.generation 0 k.generation h.payloads k.payloads files.log0 h.log k.log).2 in
    one_replay laws no_rows t u h.payloads h.replay (subst (λ l. Replays no_rows l u) (sym same) k.replay)

pub returns-clause-contents : goal.returns-clause-contents
returns-clause-contents c files t u d d' h k id =
    let same : t ≡ u = returns-clause-tables c files t u d d' h k in
    h.bodies id ∙ ap (λ x. content_in x id) same ∙ sym (k.bodies id)
