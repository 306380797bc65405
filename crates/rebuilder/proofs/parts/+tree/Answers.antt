use Rattle.std.proofs.Common.{◌≡◌, ℕ, ◌≤◌, ◌<◌, ◌+◌, ◌-◌, ◌++◌, ◌∷◌, [], length, Some, None, IfOk, sym, ap, ◌∙◌, subst, arith}
use Rattle.std.proofs.lemmas.List.{length_push}
use Rattle.std.specs.Option.{option_copied}
use Rattle.mime_tree.specs.Contents.{content_of, trees_of}
use Rattle.mime_tree.specs.Sizes.{levels_in}
use Rattle.mime_tree.specs.Trees.Tree.{node}
use Rattle.mime_tree.specs.Trees.Content.{multi, nested}
use Rattle.row_store.specs.Holding.{stored_by, in_row}
use Rattle.shredder.specs.Paths.{child_path}
use Rattle.shredder.specs.MessageRows.{part_at}
use Rattle.rebuilder.proofs.Bodies.{plain, base64, multipart, within}
use Rattle.rebuilder.proofs.OneMail.{nowhere}
use Rattle.rebuilder.proofs.Children.{AreHalfway, at_row, gone_on, ended}
use Rattle.rebuilder.proofs.parts.+tree.Goals as goal

pub body_in-returns-in-0 : goal.body_in-returns-in-0
body_in-returns-in-0 t c content there h few =
    plain c.args.tables.now c.args.part.now there (λ x. IfOk c.leaf_in.result (λ body. content_of body ≡ x))
    (λ bytes k. c.leaf_in.ensures bytes there k) c.in-0.is content h

pub body_in-returns-in-1 : goal.body_in-returns-in-1
body_in-returns-in-1 t c content there h few =
    base64 c.args.tables.now c.args.part.now there (λ x. IfOk c.leaf_in-in-1.result (λ body. content_of body ≡ x))
    (λ bytes k. c.leaf_in-in-1.ensures bytes there k) c.in-1.is content h

pub body_in-returns-in_ok-children_in-in-2 : goal.body_in-returns-in_ok-children_in-in-2
body_in-returns-in_ok-children_in-in-2 t c content there h few =
    multipart c.args.tables.now c.args.part.now there (λ x. levels_in x ≤ c.args.most → multi (trees_of c.in_ok-children_in-in-2.field-0.items) ≡ x)
    (λ trees k less. ap multi (c.in_ok-children_in-in-2.ensures trees k less)) c.in-2.is content h few

pub body_in-returns-in_ok-new-in_default : goal.body_in-returns-in_ok-new-in_default
body_in-returns-in_ok-new-in_default t c content there h few =
    let above : 2 < c.args.part.now.kind = omega arith in
    within c.args.tables.now c.args.part.now there (λ x. levels_in x ≤ c.args.most → nested c.in_ok-new-in_default.field-0.value ≡ x)
    (λ tree k less. ap nested (c.in_ok-new-in_default.ensures.ok ∙ c.in_ok-inner-in_default.ensures tree k less)) above content h few

pub children_in-parts-preserved : goal.children_in-parts-preserved
children_in-parts-preserved t c trees h few =
    let tables = c.args.tables.now in
    let message = c.args.part.now.message in
    let path = c.args.part.now.path in
    let done = c.parts.children.items in
    let read = c.in_ok-node_in.field-0 in
    let there : part_at tables message (child_path path (1 + length done)) ≡ Some c.in-Some.child.now =
    subst (λ (n : ℕ). part_at tables message (child_path path (1 + n)) ≡ Some c.in-Some.child.now) (c.len.ensures ∙ c.parts.children.ok.0) (sym c.in_ok-child.ensures ∙ ap option_copied c.in-Some.is) in
    let pushed : c.push.new.self.items ≡ done ++ read ∷ [] = c.in_ok-push.ensures.items in
    let number : 1 + length done + 1 ≡ 1 + length (done ++ read ∷ []) = omega (arith, length_push done read) in
    rw pushed
    (subst (λ n. AreHalfway tables message path c.args.most trees (done ++ read ∷ []) n) number
    (gone_on tables message path c.args.most trees done (1 + length done) c.in-Some.child.now read c.in_ok-node_in.ensures there (c.parts.invariant trees h few)))

pub children_in-returns : goal.children_in-returns
children_in-returns t c trees h few =
    let tables = c.args.tables.now in
    let message = c.args.part.now.message in
    let path = c.args.part.now.path in
    let done = c.parts.children.items in
    let none : part_at tables message (child_path path (1 + length done)) ≡ None =
    subst (λ (n : ℕ). part_at tables message (child_path path (1 + n)) ≡ None) (c.len.ensures ∙ c.parts.children.ok.0) (sym c.in_ok-child.ensures ∙ ap option_copied c.in_default.is) in
    ended tables message path c.args.most trees done (1 + length done) none (c.parts.invariant trees h few)

pub inner_in-returns-in-Some : goal.inner_in-returns-in-Some
inner_in-returns-in-Some t c tree h few =
    let path = child_path c.args.part.now.path 0 in
    let there : part_at c.args.tables.now c.args.part.now.message path ≡ Some c.in-Some.inner.now = sym c.in_ok-inner.ensures ∙ ap option_copied c.in-Some.is in
    at_row c.args.tables.now c.args.part.now.message c.args.most (λ tree. IfOk c.node_in.result (λ message. message ≡ tree)) path tree c.in-Some.inner.now c.node_in.ensures there h few

pub inner_in-returns-in-None : goal.inner_in-returns-in-None
inner_in-returns-in-None t c tree h few =
    let none : part_at c.args.tables.now c.args.part.now.message (child_path c.args.part.now.path 0) ≡ None = sym c.in_ok-inner.ensures ∙ ap option_copied c.in-None.is in
    absurd (nowhere (stored_by in_row c.args.tables.now) c.args.part.now.message (child_path c.args.part.now.path 0) tree h none)

pub node_in-returns-then-most-eq0 : goal.node_in-returns-then-most-eq0
node_in-returns-then-most-eq0 t c (node fields content) there h few = absurd (omega (arith, few, c.if-most-eq0.true))

pub node_in-returns : goal.node_in-returns
node_in-returns t c (node fields content) there h few =
    let less : levels_in content ≤ c.args.most - 1 = omega (arith, few) in
    ap (λ fs. node fs (content_of c.in_ok-body.body)) (c.in_ok-fields.ensures fields (rw c.as_slice.ensures h.0)) ∙ ap (node fields) (c.in_ok-body.ensures content there h.1 less)
