-- Bytes are exactly one message, or have a reason.
use Rattle.std.proofs.Common.{◌≡◌, ℕ, zero, suc, ◌+◌, ◌≤◌, max, Bool, true, false, ltb, List, [], ◌∷◌, Option, Some, None, Result, Ok, Err, refl, sym, ◌∙◌, ap, subst, inl, inr, arith}
use Rattle.std.proofs.lemmas.Bool.{cond-true, cond-false, cases_Bool, lt-ltb, ltb-true}
use Rattle.mail_text.specs.Lines.{lines, has}
use Rattle.mime_tree.specs.declared.trees.Encoding.{Encoding}
use Rattle.mime_tree.specs.declared.trees.Encoding.TheVariants.{Plain, Base64}
use Rattle.mime_tree.specs.declared.reasons.Reason.{Reason}
use Rattle.mime_tree.specs.declared.reasons.Reason.TheVariants.{ZeroByte, NoBoundary, TooMany}
use Rattle.mime_tree.specs.Trees.{Tree, Content, Trees}
use Rattle.mime_tree.specs.Trees.Tree.{node}
use Rattle.mime_tree.specs.Trees.Content.{leaf, multi, nested}
use Rattle.mime_tree.specs.Trees.Trees.{none, more}
use Rattle.mime_tree.specs.Sizes.{nodes, nodes_in, nodes_of, levels, levels_in, levels_of}
use Rattle.header_reader.specs.Fields.{header}
use Rattle.header_reader.specs.Faults.{fault_of}
use Rattle.transfer_codec.specs.Layout.{decoded64}
use Rattle.std.specs.Prelude.{IfOk}
use Rattle.mime_reader.specs.declared.faults.ReadFault.{ReadFault}
use Rattle.mime_reader.specs.declared.kinds.BodyKind.{BodyKind}
use Rattle.mime_reader.specs.declared.kinds.BodyKind.TheVariants.{Multipart, Embedded, Single}
use Rattle.mime_reader.specs.Kinds.{body_kind}
use Rattle.mime_reader.specs.Bodies.{parts, is_usable}
use Rattle.mime_reader.specs.Reading.{IsLeaf, HasPart, Reads, ReadsBody, ReadsParts, IsMessage, most_levels, most_nodes, and_then, unless, or_plain, leaf_of, read_parts, read_multipart, read_body, fields_in, body_of, read, outcome, Gives}
use Rattle.mime_reader.proofs.ReaderLemmas.{read_deep, read_some, from_header, behind_header, leaf_nodes}

-- What a result was made of.
pub record Made (A B : Type 0) (r : Result A Reason) (f : A → Result B Reason) (y : B) : Type 0 where
  pub from : A
  pub was : r ≡ Ok from
  pub gives : f from ≡ Ok y

made : {A B : Type 0} (r : Result A Reason) (f : A → Result B Reason) (y : B) → and_then r f ≡ Ok y → Made A B r f y
made (Ok x) f y e = record { from = x; was = refl; gives = e }
made (Err reason) f y e = absurd (cc)

unless_ok : {A : Type 0} (reason : Option Reason) (r : Result A Reason) (x : A) → unless reason r ≡ Ok x → (reason ≡ None) × (r ≡ Ok x)
unless_ok None r x e = (refl, e)
unless_ok (Some reason) r x e = absurd (cc)

ok_same : {A : Type 0} (x y : A) → ◌≡◌ {A = Result A Reason} (Ok x) (Ok y) → x ≡ y
ok_same x y e = cc

most : (a b c : ℕ) → a ≤ c → b ≤ c → max a b ≤ c
most a b c h k = omega (arith, h, k)

most_left : (a b c : ℕ) → max a b ≤ c → a ≤ c
most_left a b c h = omega (arith, h)

most_right : (a b c : ℕ) → max a b ≤ c → b ≤ c
most_right a b c h = omega (arith, h)

-- What is read is so, within its limits.
pub record IsRead (k : ℕ) (es : List (List ℕ)) (d : Bool) (n : ℕ) (text : List ℕ) (tree : Tree) : Type 0 where
  pub reads : Reads es d text tree
  pub few_levels : levels tree ≤ k
  pub few_nodes : n + nodes tree ≤ most_nodes

pub record IsBodyRead (k : ℕ) (es : List (List ℕ)) (kind : BodyKind) (n : ℕ) (text : List ℕ) (content : Content) : Type 0 where
  pub reads : ReadsBody es kind text content
  pub few_levels : levels_in content ≤ k
  pub few_nodes : n + nodes_in content ≤ most_nodes

pub record ArePartsRead (k : ℕ) (es : List (List ℕ)) (d : Bool) (n : ℕ) (texts : List (List ℕ)) (trees : Trees) : Type 0 where
  pub reads : ReadsParts es d texts trees
  pub few_levels : levels_of trees ≤ k
  pub few_nodes : n + nodes_of trees ≤ most_nodes

abbrev Sound : ℕ → Type 0
Sound k = (es : List (List ℕ)) (d : Bool) (n : ℕ) (text : List ℕ) (tree : Tree) → read k es d n text ≡ Ok tree → IsRead k es d n text tree

leaf_reads : (es : List (List ℕ)) (base64 : Bool) (text : List ℕ) → ReadsBody es (Single base64) text (leaf_of base64 text)
leaf_reads es false text = (false, refl, (λ e. absurd (cc), refl))
leaf_reads es true text = of (decoded64 text) refl
  where
    of : (found : Option (List ℕ)) → decoded64 text ≡ found → ReadsBody es (Single true) text (or_plain text found)
    of None e = (true, refl, (λ _. e, refl))
    of (Some bytes) e = (true, refl, (refl, e))

leaf_levels : (base64 : Bool) (text : List ℕ) → levels_in (leaf_of base64 text) ≡ 0
leaf_levels false text = refl
leaf_levels true text = of (decoded64 text)
  where
    of : (found : Option (List ℕ)) → levels_in (or_plain text found) ≡ 0
    of None = refl
    of (Some bytes) = refl

module _ (k : ℕ) (sound : Sound k) where
  parts_sound : (es : List (List ℕ)) (d : Bool) (n : ℕ) (texts : List (List ℕ)) (trees : Trees) → n ≤ most_nodes → read_parts (read k es d) n texts ≡ Ok trees →
      ArePartsRead k es d n texts trees
  parts_sound es d n [] none few e = record { reads = tt; few_levels = omega arith; few_nodes = omega arith }
  parts_sound es d n [] (more tree trees) few e = absurd (cc)
  parts_sound es d n (p ∷ ps) trees few e =
      let first = made (read k es d n p) (λ tree. and_then (read_parts (read k es d) (n + nodes tree) ps) (λ trees. Ok (more tree trees))) trees e in
      let tree = first.from in
      let rest = made (read_parts (read k es d) (n + nodes tree) ps) (λ trees. Ok (more tree trees)) trees first.gives in
      let one = sound es d n p tree first.was in
      let others = parts_sound es d (n + nodes tree) ps rest.from one.few_nodes rest.was in
      subst (ArePartsRead k es d n (p ∷ ps)) (ok_same (more tree rest.from) trees rest.gives) (record {
        reads = (one.reads, others.reads);
        few_levels = most (levels tree) (levels_of rest.from) k one.few_levels others.few_levels;
        few_nodes = omega (arith, others.few_nodes);
      })

  has_part : (es : List (List ℕ)) (d : Bool) (p : List ℕ) (ps : List (List ℕ)) (trees : Trees) → ReadsParts es d (p ∷ ps) trees → HasPart trees
  has_part es d p ps none h = h
  has_part es d p ps (more tree trees) h = tt

  multi_sound : (es : List (List ℕ)) (b : List ℕ) (d : Bool) (n : ℕ) (text : List ℕ) (texts : List (List ℕ)) (content : Content) → n ≤ most_nodes → parts b text ≡ texts →
      is_usable es b ≡ true → read_multipart (read k (b ∷ es) d) n texts ≡ Ok content → IsBodyRead k es (Multipart (Some b) d) n text content
  multi_sound es b d n text [] content few is usable e = absurd (cc)
  multi_sound es b d n text (p ∷ ps) content few is usable e =
      let m = made (read_parts (read k (b ∷ es) d) n (p ∷ ps)) (λ trees. Ok (multi trees)) content e in
      let all = parts_sound (b ∷ es) d n (p ∷ ps) m.from few m.was in
      subst (IsBodyRead k es (Multipart (Some b) d) n text) (ok_same (multi m.from) content m.gives) (record {
        reads = (b, d, refl, usable, has_part (b ∷ es) d p ps m.from all.reads, subst (λ z. ReadsParts (b ∷ es) d z m.from) (sym is) all.reads);
        few_levels = all.few_levels;
        few_nodes = all.few_nodes;
      })

  body_sound : (es : List (List ℕ)) (kind : BodyKind) (n : ℕ) (text : List ℕ) (content : Content) → n ≤ most_nodes → read_body (read k) es kind n text ≡ Ok content →
      IsBodyRead k es kind n text content
  body_sound es (Single base64) n text content few e =
      subst (IsBodyRead k es (Single base64) n text) (ok_same (leaf_of base64 text) content e) (record {
        reads = leaf_reads es base64 text;
        few_levels = omega (arith, leaf_levels base64 text);
        few_nodes = omega (arith, leaf_nodes base64 text);
      })
  body_sound es Embedded n text content few e =
      let m = made (read k es false n text) (λ tree. Ok (nested tree)) content e in
      let one = sound es false n text m.from m.was in
      subst (IsBodyRead k es Embedded n text) (ok_same (nested m.from) content m.gives) (record {
        reads = (refl, one.reads);
        few_levels = one.few_levels;
        few_nodes = one.few_nodes;
      })
  body_sound es (Multipart None d) n text content few e = absurd (cc)
  body_sound es (Multipart (Some b) d) n text content few e = elim (cases_Bool (is_usable es b)) [
    | inl usable ↦
        multi_sound es b d n text (parts b text) content few refl usable
        (sym (cond-true (is_usable es b) (read_multipart (read k (b ∷ es) d) n (parts b text)) (Err NoBoundary) usable) ∙ e)
    | inr unusable ↦
        let bad : Err NoBoundary ≡ Ok content = sym (cond-false (is_usable es b) (read_multipart (read k (b ∷ es) d) n (parts b text)) (Err NoBoundary) unusable) ∙ e in
        absurd (cc)
  ]

pub read_sound : (k : ℕ) → Sound k
read_sound zero es d n text tree e = let bad = sym (read_deep 0 es d n text refl) ∙ e in absurd (cc)
read_sound (suc k) es d n text tree e = elim (cases_Bool (ltb n most_nodes)) [
  | inl few ↦
      let from : from_header k es d n text ≡ Ok tree =
      sym (cond-true (ltb n most_nodes) (from_header k es d n text) (Err TooMany) few) ∙ sym (read_some k es d n text) ∙ e in
      let behind = unless_ok (fault_of (header (lines text))) (behind_header k es d n text) tree from in
      let m = made (read_body (read k) es (body_kind d (fields_in text)) (n + 1) (body_of text)) (λ content. Ok (node (fields_in text) content)) tree behind.1 in
      let below = ltb-true n most_nodes few in
      let body = body_sound k (read_sound k) es (body_kind d (fields_in text)) (n + 1) (body_of text) m.from (omega arith) m.was in
      subst (IsRead (suc k) es d n text) (ok_same (node (fields_in text) m.from) tree m.gives) (record {
        reads = (record { sound = behind.0; read = refl }, body.reads);
        few_levels = omega (arith, body.few_levels);
        few_nodes = omega (arith, body.few_nodes);
      })
  | inr many ↦
      let bad : Err TooMany ≡ Ok tree =
      sym (cond-false (ltb n most_nodes) (from_header k es d n text) (Err TooMany) many) ∙ sym (read_some k es d n text) ∙ e in
      absurd (cc)
]

-- What is so, within the limits, is read.
abbrev Complete : ℕ → Type 0
Complete k = (es : List (List ℕ)) (d : Bool) (n : ℕ) (text : List ℕ) (tree : Tree) → Reads es d text tree → levels tree ≤ k → n + nodes tree ≤ most_nodes → read k es d n text ≡ Ok tree

leaf_is : (base64 : Bool) (text : List ℕ) (encoding : Encoding) (bytes : List ℕ) → IsLeaf base64 text encoding bytes → leaf_of base64 text ≡ leaf encoding bytes
leaf_is false text Plain bytes h = ap (leaf Plain) (sym h.1)
leaf_is true text Plain bytes h = ap (or_plain text) (h.0 refl) ∙ ap (leaf Plain) (sym h.1)
leaf_is false text Base64 bytes h = absurd (let bad = h.0 in cc)
leaf_is true text Base64 bytes h = ap (or_plain text) h.1

module _ (k : ℕ) (complete : Complete k) where
  parts_complete : (es : List (List ℕ)) (d : Bool) (n : ℕ) (texts : List (List ℕ)) (trees : Trees) → ReadsParts es d texts trees → levels_of trees ≤ k → n + nodes_of trees ≤ most_nodes →
      read_parts (read k es d) n texts ≡ Ok trees
  parts_complete es d n [] none h l m = refl
  parts_complete es d n [] (more tree trees) h l m = absurd h
  parts_complete es d n (p ∷ ps) none h l m = absurd h
  parts_complete es d n (p ∷ ps) (more tree trees) h l m =
      let one = complete es d n p tree h.0 (most_left (levels tree) (levels_of trees) k l) (omega (arith, m)) in
      let others = parts_complete es d (n + nodes tree) ps trees h.1 (most_right (levels tree) (levels_of trees) k l) (omega (arith, m)) in
      ap (λ r. and_then r (λ tree. and_then (read_parts (read k es d) (n + nodes tree) ps) (λ trees. Ok (more tree trees)))) one
      ∙ ap (λ r. and_then r (λ trees. Ok (more tree trees))) others

  multi_complete : (es : List (List ℕ)) (d : Bool) (n : ℕ) (texts : List (List ℕ)) (trees : Trees) → HasPart trees → ReadsParts es d texts trees → levels_of trees ≤ k →
      n + nodes_of trees ≤ most_nodes → read_multipart (read k es d) n texts ≡ Ok (multi trees)
  multi_complete es d n [] none some h l m = absurd some
  multi_complete es d n [] (more tree trees) some h l m = absurd h
  multi_complete es d n (p ∷ ps) trees some h l m = ap (λ r. and_then r (λ trees. Ok (multi trees))) (parts_complete es d n (p ∷ ps) trees h l m)

  body_complete : (es : List (List ℕ)) (kind : BodyKind) (n : ℕ) (text : List ℕ) (content : Content) → ReadsBody es kind text content → levels_in content ≤ k →
      n + nodes_in content ≤ most_nodes → read_body (read k) es kind n text ≡ Ok content
  body_complete es kind n text (leaf encoding bytes) h l m =
      ap (λ z. read_body (read k) es z n text) h.1 ∙ ap Ok (leaf_is h.0 text encoding bytes h.2)
  body_complete es kind n text (nested tree) h l m =
      ap (λ z. read_body (read k) es z n text) h.0 ∙ ap (λ r. and_then r (λ tree. Ok (nested tree))) (complete es false n text tree h.1 l m)
  body_complete es kind n text (multi trees) h l m =
      let b = h.0 in
      let d = h.1 in
      ap (λ z. read_body (read k) es z n text) h.2
      ∙ cond-true (is_usable es b) (read_multipart (read k (b ∷ es) d) n (parts b text)) (Err NoBoundary) h.3
      ∙ multi_complete (b ∷ es) d n (parts b text) trees h.4 h.5 l m

pub read_complete : (k : ℕ) → Complete k
read_complete zero es d n text (node fields content) h l m = absurd (omega (arith, l))
read_complete (suc k) es d n text (node fields content) h l m =
    let fs : fields_in text ≡ fields = h.0.read in
    let body = body_complete k (read_complete k) es (body_kind d fields) (n + 1) (body_of text) content h.1 (omega (arith, l)) (omega (arith, m)) in
    read_some k es d n text ∙ cond-true (ltb n most_nodes) (from_header k es d n text) (Err TooMany) (lt-ltb n most_nodes (omega (arith, m)))
    ∙ ap (λ o. unless o (behind_header k es d n text)) h.0.sound
    ∙ ap (λ z. and_then (read_body (read k) es (body_kind d z) (n + 1) (body_of text)) (λ content. Ok (node z content))) fs
    ∙ ap (λ r. and_then r (λ content. Ok (node fields content))) body

-- The outcome of bytes.
pub outcome_some : (text : List ℕ) → has 0 text ≡ false → outcome text ≡ read most_levels [] false 0 text
unfolding outcome
outcome_some text h = cond-false (has 0 text) (Err ZeroByte) (read most_levels [] false 0 text) h

pub outcome_zero : (text : List ℕ) → has 0 text ≡ true → outcome text ≡ Err ZeroByte
unfolding outcome
outcome_zero text h = cond-true (has 0 text) (Err ZeroByte) (read most_levels [] false 0 text) h

pub message-outcome : (text : List ℕ) (tree : Tree) → outcome text ≡ Ok tree → IsMessage text tree
message-outcome text tree e = elim (cases_Bool (has 0 text)) [
  | inl is ↦ let bad : Err ZeroByte ≡ Ok tree = sym (outcome_zero text is) ∙ e in absurd (cc)
  | inr isnt ↦
      let r = read_sound most_levels [] false 0 text tree (sym (outcome_some text isnt) ∙ e) in
      record { no_zero = isnt; reads = r.reads; few_levels = r.few_levels; few_nodes = omega (arith, r.few_nodes) }
]

pub outcome-message : (text : List ℕ) (tree : Tree) → IsMessage text tree → outcome text ≡ Ok tree
outcome-message text tree m = outcome_some text m.no_zero ∙ read_complete most_levels [] false 0 text tree m.reads m.few_levels (omega (arith, m.few_nodes))

pub never_both : (text : List ℕ) (reason : Reason) (tree : Tree) → outcome text ≡ Err reason → IsMessage text tree → ⊥
never_both text reason tree e m = let bad : Err reason ≡ Ok tree = sym e ∙ outcome-message text tree m in cc

pub gives_message : (text : List ℕ) (r : Result Tree ReadFault) → Gives r (outcome text) → IfOk r (IsMessage text)
gives_message text (Ok tree) h = message-outcome text tree h
gives_message text (Err fault) h = tt
