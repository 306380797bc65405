use Rattle.std.proofs.Common.{◌≡◌, ℕ, ◌+◌, ◌^◌, ◌<◌, ◌++◌, ◌∷◌, [], List, OnOk, length, take, refl, ap, ◌∙◌, sym, subst, arith}
use Rattle.std.proofs.lemmas.List.{take_more, take_all, length-take-le}
use Rattle.mime_tree.specs.Contents.{content_of, trees_of}
use Rattle.mime_tree.specs.Trees.{Tree, Content}
use Rattle.mime_tree.specs.Trees.Tree.{node}
use Rattle.mime_tree.specs.Trees.Content.{multi, nested}
use Rattle.mime_tree.specs.declared.values.Field.{Field}
use Rattle.row_tables.specs.References.{HasPart, fields_at}
use Rattle.row_tables.specs.TableRows.{TableRows}
use Rattle.shredder.specs.Fitting.{NodeFits}
use Rattle.row_store.specs.Holding.{stored_by, in_row}
use Rattle.shredder.specs.MessageRows.{HasFields, HasNode}
use Rattle.shredder.specs.Paths.{child_path, child_paths, inner_paths, paths}
use Rattle.shredder.specs.Making.{Among, Between, Here, HasBarePart, HasInside, IsOpen, Leads, holding}
use Rattle.shredder.proofs.PathLemmas.{under_self}
use Rattle.shredder.proofs.Steps.{leads_none, leads_then}
use Rattle.shredder.proofs.TreeSteps.{HasFirst, first_none, children_step, children_done, child_fits, part_smaller, open_within, node_step, part_there}
use Rattle.shredder.proofs.trees.+tree.Goals as goal

pub add_children-loop-number-init : goal.add_children-loop-number-init
add_children-loop-number-init g k c = (
  record { files = refl; tables = refl },
  c.requires.ready,
  λ t now e b open_now.
      let message : ℕ = c.args.message in
      let path = c.args.path.now in
      let all : List Tree = c.args.parts.now in
      let added = holding c.args.shared.now.added c.args.store.now.placed in
      let changes = c.args.changes.now.items in
      leads_none message t now added changes (Among (child_paths path 1 (trees_of all))) (λ after. HasFirst after message path []) b (first_none c.row_laws.ensures message t path all now added changes b open_now),
)

pub add_children-add_node-requires : goal.add_children-add_node-requires
add_children-add_node-requires g t c κs within =
    let all : List Tree = c.args.parts.now in
    let k : ℕ = c.loop-number.number in
    let tree : Tree = c.index-parts-number.result in
    let fits = child_fits c.args.path.now 1 k all tree tree c.loop-number-test.true c.index-parts-number.is c.requires.fits in
    let at = sym (c.deref.ensures.value ∙ c.in_ok-child.ensures) in
    (omega (arith, part_smaller all k tree c.loop-number-test.true c.index-parts-number.is), (within, (subst (λ (p : List ℕ). NodeFits p tree) at fits, c.loop-number.invariant.1)))

pub add_children-loop-number-preserved : goal.add_children-loop-number-preserved
add_children-loop-number-preserved g k c = (
  record { files = c.add_node.ensures.same.files ∙ c.loop-number.invariant.0.files; tables = c.add_node.ensures.same.tables ∙ c.loop-number.invariant.0.tables },
  c.in_ok-add_node.ensures.ready,
  λ t now e b open_now.
      let message : ℕ = c.args.message in
      let path = c.args.path.now in
      let all : List Tree = c.args.parts.now in
      let k : ℕ = c.loop-number.number in
      let tree : Tree = c.index-parts-number.result in
      let added0 = holding c.args.shared.now.added c.args.store.now.placed in
      let added1 = holding c.loop-number.shared.added c.loop-number.store.placed in
      let added2 = holding c.add_node.new.shared.added c.add_node.new.store.placed in
      let changes0 = c.args.changes.now.items in
      let changes1 = c.loop-number.changes.items in
      let changes2 = c.add_node.new.changes.items in
      let W : List ℕ → Type 0 = Among (child_paths path 1 (trees_of all)) in
      let first : TableRows → Type 0 = λ after. HasFirst after message path (take k all) in
      let next : TableRows → Type 0 = λ after. HasFirst after message path (take (k + 1) all) in
      let i = c.loop-number.invariant.2 t now e b open_now in
      let counted : length (take k all) ≡ k = length-take-le k all (omega (arith, c.loop-number-test.true)) in
      let small : 1 + k < 2 ^ 64 = omega (arith, c.loop-number-test.true, c.requires.count) in
      let at : c.deref.result.now ≡ child_path path (1 + k) = c.deref.ensures.value ∙ c.in_ok-child.ensures in
      let free : IsOpen i.after message (child_path path (1 + k)) = i.holds.1 (1 + k) (omega (arith, counted)) small in
      let step = subst (λ (p : List ℕ). Leads message t i.after added1 changes1 (Among (paths p tree)) (λ after. HasNode (stored_by in_row after) message p tree) added2 changes2) at
      (c.in_ok-add_node.ensures.rows t i.after (e ∙ sym c.loop-number.invariant.0.tables) i.between (subst (λ (p : List ℕ). IsOpen i.after message p) (sym at) free)) in
      let taken : take k all ++ tree ∷ [] ≡ take (k + 1) all = sym (take_more all k tree c.loop-number-test.true ∙ ap (λ (x : Tree). take k all ++ x ∷ []) (sym c.index-parts-number.is)) in
      let grown = subst (λ (l : List Tree). Leads message t i.after added1 changes1 W (λ after. HasFirst after message path l) added2 changes2) taken
      (children_step c.row_laws.ensures message t path all k tree tree i.after added1 added2 changes1 changes2 c.loop-number-test.true c.requires.count c.index-parts-number.is counted i.between i.holds step) in
      leads_then message t now added0 added1 added2 changes0 changes1 changes2 W W W first next (λ p h. h) (λ p h. h) i grown,
)

pub add_children-returns-clause-rows : goal.add_children-returns-clause-rows
add_children-returns-clause-rows g k c t now e b open_now =
    let message : ℕ = c.args.message in
    let path = c.args.path.now in
    let all : List Tree = c.args.parts.now in
    let added0 = holding c.args.shared.now.added c.args.store.now.placed in
    let added1 = holding c.loop-number.shared.added c.loop-number.store.placed in
    let changes0 = c.args.changes.now.items in
    let changes1 = c.loop-number.changes.items in
    let W : List ℕ → Type 0 = Among (child_paths path 1 (trees_of all)) in
    let whole : take c.loop-number.number all ≡ all = take_all c.loop-number.number all c.loop-number-test.false in
    children_done c.row_laws.ensures message t path all now added0 added1 changes0 changes1 W c.requires.count
    (subst (λ (l : List Tree). Leads message t now added0 changes0 W (λ after. HasFirst after message path l) added1 changes1) whole (c.loop-number.invariant.2 t now e b open_now))

pub add_inside-returns-in-Multi-clause-rows : goal.add_inside-returns-in-Multi-clause-rows
add_inside-returns-in-Multi-clause-rows g k c t now e b open_now =
    let message : ℕ = c.args.message in
    let path = c.args.path.now in
    let parts : content_of c.args.body.now ≡ multi (trees_of c.deref.result.now) = ap content_of c.in-Multi.is ∙ ap (λ (l : List Tree). multi (trees_of l)) (sym c.deref.ensures.value) in
    subst (λ (content : Content). OnOk c.add_children.result (Leads message t now (holding c.args.shared.now.added c.args.store.now.placed) c.args.changes.now.items (Among (inner_paths path content)) (HasInside message path content) (holding c.add_children.new.shared.added c.add_children.new.store.placed) c.add_children.new.changes.items)) (sym parts)
    (c.add_children.ensures.rows t now e b open_now)

pub add_inside-returns-in_ok-add_node-in-Nested-clause-rows : goal.add_inside-returns-in_ok-add_node-in-Nested-clause-rows
add_inside-returns-in_ok-add_node-in-Nested-clause-rows g k c t now e b open_now =
    let message : ℕ = c.args.message in
    let path = c.args.path.now in
    let added0 = holding c.args.shared.now.added c.args.store.now.placed in
    let added1 = holding c.add_node.new.shared.added c.add_node.new.store.placed in
    let changes0 = c.args.changes.now.items in
    let changes1 = c.add_node.new.changes.items in
    let inner : Tree = c.deref-in-Nested-2.result.now in
    let is : content_of c.args.body.now ≡ nested inner = ap content_of c.in-Nested.is ∙ ap (λ (x : Tree). nested x) (sym c.deref-in-Nested-2.ensures) in
    let at : c.deref-in-Nested.result.now ≡ child_path path 0 = c.deref-in-Nested.ensures.value ∙ c.in_ok-path-in-Nested.ensures in
    let free : IsOpen now message (child_path path 0) = open_now 0 (omega arith) (omega arith) in
    let step = subst (λ (p : List ℕ). Leads message t now added0 changes0 (Among (paths p inner)) (λ after. HasNode (stored_by in_row after) message p inner) added1 changes1) at
    (c.in_ok-add_node-in-Nested.ensures.rows t now e b (subst (λ (p : List ℕ). IsOpen now message p) (sym at) free)) in
    subst (λ (content : Content). Leads message t now added0 changes0 (Among (inner_paths path content)) (HasInside message path content) added1 changes1) (sym is) step

pub add_node-returns-clause-rows : goal.add_node-returns-clause-rows
add_node-returns-clause-rows g k c t now e b open_now =
    let message : ℕ = c.args.message in
    let path = c.args.path.now in
    let fields : List Field = c.deref.result.now in
    let content : Content = content_of c.node.inside.body in
    let old = c.args.store.now in
    let mid = c.add_part.new.store in
    let same : mid.tables ≡ old.tables = c.add_part.ensures.same.tables in
    let added0 = holding c.args.shared.now.added old.placed in
    let added1 = holding c.args.shared.now.added mid.placed in
    let added2 = holding c.add_fields.new.shared.added mid.placed in
    let added3 = holding c.add_inside.new.shared.added c.add_inside.new.store.placed in
    let changes0 = c.args.changes.now.items in
    let changes1 = c.add_part.new.changes.items in
    let changes2 = c.add_fields.new.changes.items in
    let changes3 = c.add_inside.new.changes.items in
    let is : node fields content ≡ c.args.node.now = ap (λ (l : List Field). node l content) c.deref.ensures.value ∙ c.node.view_is in
    let fits : NodeFits path (node fields content) = subst (NodeFits path) (sym is) c.requires.fits in
    let laws = c.row_laws.ensures in
    let P : TableRows → Type 0 = HasBarePart message path content in
    let F : TableRows → Type 0 = λ after. HasFields after message path fields in
    let part = c.in_ok-add_part.ensures.rows t now c.args.shared.now.added e b (open_now path (under_self path)) in
    let at : c.tables.result.now ≡ t = c.tables.ensures ∙ same ∙ sym e in
    let its = subst (λ (u : TableRows). Between message u added1 part.after → HasPart part.after message path → fields_at message path part.after.mails.header_fields ≡ [] → Leads message u part.after added1 changes1 (Here path) F added2 changes2) at
    (c.in_ok-add_fields.ensures part.after mid.placed) part.between (part_there part.after message path content part.holds.0) part.holds.1 in
    let free = open_within laws message t path now added0 added1 added2 changes0 changes1 changes2 P F b open_now part its in
    let inside = c.in_ok-add_inside.ensures.rows t its.after (e ∙ sym same) its.between free in
    subst (λ (tree : Tree). Leads message t now added0 changes0 (Among (paths path tree)) (λ after. HasNode (stored_by in_row after) message path tree) added3 changes3) is
    (node_step laws message t path fields content now added0 added1 added2 added3 changes0 changes1 changes2 changes3 fits.3 part its inside)
