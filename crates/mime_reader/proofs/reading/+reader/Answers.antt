use Rattle.std.proofs.Common.{◌≡◌, ◌+◌, ◌<◌, true, length, ℕ, List, ◌∷◌, Bor, Option, Ok, sym, ◌∙◌, ap, subst, arith}
use Rattle.std.proofs.lemmas.List.{take_rest}
use Rattle.std.specs.Option.{option_map}
use Rattle.mail_text.specs.Lines.{IsCrlf}
use Rattle.mime_tree.specs.Contents.{content_of, trees_of}
use Rattle.mime_tree.specs.Sizes.{nodes_of}
use Rattle.mime_reader.specs.Reading.{read, read_parts}
use Rattle.mime_reader.specs.Bodies.{is_usable, parts}
use Rattle.mime_reader.specs.Cutting.{texts}
use Rattle.mime_reader.proofs.CutLemmas.{left_texts, piece_first, piece_crlf, left_crlf, texts_some}
use Rattle.mime_reader.proofs.ReaderLemmas.{AreRead, read_deep, read_many, node_header_fails, node_body_fails, node_reads, whatever_fault, read_more, read_all, multi_answers}
use Rattle.mime_reader.proofs.reading.+reader.Goals as goal

pub read_node-returns-then-levels-eq0 : goal.read_node-returns-then-levels-eq0
read_node-returns-then-levels-eq0 t c = read_deep c.args.levels c.args.enclosing.now c.args.digest c.args.number.now c.args.text.now c.if-levels-eq0.true

pub read_node-returns-then-number-ge-MOST_NODES : goal.read_node-returns-then-number-ge-MOST_NODES
read_node-returns-then-number-ge-MOST_NODES t c =
    read_many c.args.levels c.args.enclosing.now c.args.digest c.args.number.now c.args.text.now (omega (arith, c.if-levels-eq0.false)) (omega (arith, c.if-number-ge-MOST_NODES.true))

pub read_node-returns-in-Ok-read_body : goal.read_node-returns-in-Ok-read_body
read_node-returns-in-Ok-read_body t c =
    let text = c.args.text.now in
    let head = c.in-Ok.head in
    node_reads c.args.levels c.args.enclosing.now c.args.digest c.args.number.now c.read_body.new.number text head.fields.items head.kind _ (content_of c.in-Ok-read_body.body)
    (omega (arith, c.if-levels-eq0.false)) (omega (arith, c.if-number-ge-MOST_NODES.false)) c.in-Ok.ensures.sound c.in-Ok.ensures.fields c.in-Ok.ensures.kind
    (take_rest text head.place ∙ sym (c.in-Ok.ensures.crlf c.requires) ∙ c.in-Ok.ensures.body) c.in-Ok-read_body.ensures

pub read_node-returns-in-Err-read_body : goal.read_node-returns-in-Err-read_body
read_node-returns-in-Err-read_body t c =
    let text = c.args.text.now in
    let head = c.in-Ok.head in
    node_body_fails c.in-Err-read_body.fault c.args.levels c.args.enclosing.now c.args.digest c.args.number.now text head.kind _
    (omega (arith, c.if-levels-eq0.false)) (omega (arith, c.if-number-ge-MOST_NODES.false)) c.in-Ok.ensures.sound c.in-Ok.ensures.kind
    (take_rest text head.place ∙ sym (c.in-Ok.ensures.crlf c.requires) ∙ c.in-Ok.ensures.body) c.in-Err-read_body.ensures

pub read_node-returns-in-Err : goal.read_node-returns-in-Err
read_node-returns-in-Err t c =
    node_header_fails c.in-Err.fault c.args.levels c.args.enclosing.now c.args.digest c.args.number.now c.args.text.now
    (omega (arith, c.if-levels-eq0.false)) (omega (arith, c.if-number-ge-MOST_NODES.false)) c.in-Err.ensures.fault

pub read_node-read_body-requires : goal.read_node-read_body-requires
read_node-read_body-requires t c =
    let text = c.args.text.now in
    let head = c.in-Ok.head in
    (omega arith, subst IsCrlf (sym (take_rest text head.place)) (c.in-Ok.ensures.crlf c.requires))

pub read_parts-read_node-requires : goal.read_parts-read_node-requires
read_parts-read_node-requires t c =
    (omega arith, piece_crlf c.args.boundary.now c.in-Some.rest.now c.first_piece.result.0.now (option_map (λ (x : Bor (List ℕ)). x.now) c.first_piece.result.1) c.first_piece.ensures)

pub read_parts-loop-left-preserved : goal.read_parts-loop-left-preserved
read_parts-loop-left-preserved t c =
    let now = λ (x : Bor (List ℕ)). x.now in
    let b = c.args.boundary.now in
    let all = texts b c.args.text.now in
    let rest = c.in-Some.rest.now in
    let piece = c.first_piece.result.0.now in
    let behind = option_map now c.first_piece.result.1 in
    let f = read c.args.levels c.args.enclosing.now c.args.digest in
    let out = c.loop-left.out.items in
    let left = subst (λ l. AreRead f c.args.number.now c.loop-left.number out (left_texts b (option_map now l)) all) c.in-Some.is c.loop-left.invariant.read in
    record {
      read = subst (λ z. AreRead f c.args.number.now c.read_node.new.number z (left_texts b behind) all) (sym c.in-Ok-keep.ensures.kept)
          (read_more f c.args.number.now all c.loop-left.number c.read_node.new.number out piece (left_texts b behind) c.in-Ok.message c.in-Ok.ensures
          (subst (λ z. AreRead f c.args.number.now c.loop-left.number out z all) (piece_first b rest piece behind c.first_piece.ensures) left));
      crlf = left_crlf b rest piece behind c.first_piece.ensures;
    }

pub read_parts-returns : goal.read_parts-returns
read_parts-returns t c =
    let b = c.args.boundary.now in
    let all = texts b c.args.text.now in
    let f = read c.args.levels c.args.enclosing.now c.args.digest in
    read_all f c.args.number.now all c.loop-left.number c.loop-left.out.items
    (subst (λ (l : Option (Bor (List ℕ))). AreRead f c.args.number.now c.loop-left.number c.loop-left.out.items (left_texts b (option_map (λ x. x.now) l)) all) c.in_default.is c.loop-left.invariant.read)

pub read_inner-returns-in-Ok-read_parts : goal.read_inner-returns-in-Ok-read_parts
read_inner-returns-in-Ok-read_parts t c =
    let n = c.args.number.now in
    let new = c.read_parts.new.number in
    let text = c.args.text.now in
    let done = c.in-Ok-read_parts.parts.items in
    let same : c.deref.result.now ≡ c.args.boundary ∷ c.args.enclosing.now = c.deref.ensures.value ∙ c.in-Ok.ensures ∙ ap (λ z. z ∷ c.args.enclosing.now) c.as_slice-own.ensures in
    let f = λ (es : List (List ℕ)). read c.args.levels es c.args.digest in
    multi_answers (f (c.args.boundary ∷ c.args.enclosing.now)) n new (texts c.args.boundary text) done (texts_some c.args.boundary text)
    (subst (λ es. (read_parts (f es) n (texts c.args.boundary text) ≡ Ok (trees_of done)) × (new ≡ n + nodes_of (trees_of done))) same
    (subst (λ b. (read_parts (f c.deref.result.now) n (texts b text) ≡ Ok (trees_of done)) × (new ≡ n + nodes_of (trees_of done))) c.as_slice-own.ensures c.in-Ok-read_parts.ensures))

pub read_multipart-returns-in-Some-clause-told : goal.read_multipart-returns-in-Some-clause-told
read_multipart-returns-in-Some-clause-told t c =
    let text = c.args.text.now in
    whatever_fault c.read_inner.result (record {
      usable = subst (λ b. is_usable c.args.enclosing.now b ≡ true) c.as_slice.ensures (sym c.is_usable.ensures ∙ c.if-not-is_usable.false);
      some = subst (λ b. 0 < length (parts b text)) c.as_slice-2.ensures
          (subst (λ ps. 0 < length ps) (sym c.in-Some.ensures.0) (texts_some c.as_slice-2.result.now c.in-Some.rest.now));
    })
