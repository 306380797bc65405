-- Rows are those of one mail.
use Rattle.std.proofs.Common.{◌≡◌, ℕ, ◌+◌, cond, ◌==◌, List, [], Option, Some, None, refl, sym, ap, ◌∙◌, subst, arith}
use Rattle.std.specs.Option.{option_map}
use Rattle.mime_tree.specs.declared.reasons.Mail.{Mail}
use Rattle.mime_tree.specs.declared.reasons.Reason.{Reason}
use Rattle.mime_tree.specs.declared.reasons.Reason.TheVariants.{ZeroByte, LoneReturn, NoField, LongHeader, NoBoundary, NoDelimiter, TooDeep, TooMany}
use Rattle.mime_tree.specs.declared.values.Field.{Field}
use Rattle.mime_tree.specs.declared.trees.Encoding.TheVariants.{Plain, Base64}
use Rattle.mime_tree.specs.Trees.{Tree, Content, Trees}
use Rattle.mime_tree.specs.Trees.Tree.{node}
use Rattle.mime_tree.specs.Trees.Content.{leaf, multi, nested}
use Rattle.mime_tree.specs.Trees.Trees.{none, more}
use Rattle.row_tables.specs.TableRows.{TableRows}
use Rattle.row_tables.specs.declared.mails.PartNumber.{PartNumber}
use Rattle.row_tables.specs.declared.mails.UnparsedMessage.{UnparsedMessage}
use Rattle.row_store.specs.Holding.{Stored}
use Rattle.shredder.specs.Paths.{child_path}
use Rattle.shredder.specs.MessageRows.{HasContent, HasFields, HasLeaf, HasNode, HasBody, HasChildren, HasRows, part_at, reason_number, unparsed_row}
use Rattle.rebuilder.specs.Rebuilding.{top_fields}
use Rattle.rebuilder.proofs.OneValue.{some_same, same_fields}

-- ---- the part that a node stands at

abbrev pub kind_in : Content → ℕ
kind_in (leaf Plain bytes) = 0
kind_in (leaf Base64 bytes) = 1
kind_in (multi trees) = 2
kind_in (nested tree) = 3

pub record StandsAt (t : TableRows) (message : ℕ) (path : List ℕ) (kind : ℕ) : Type 0 where
  pub body : ℕ
  pub part : part_at t message path ≡ Some (record { message = message; path = path; kind = kind; body = body })

module _ (s : Stored) (message : ℕ) where
  pub stands : (path : List ℕ) (content : Content) → HasBody s message path content → StandsAt s.tables message path (kind_in content)
  stands path (leaf Plain bytes) h = record { body = h.body; part = h.part }
  stands path (leaf Base64 bytes) h = record { body = h.body; part = h.part }
  stands path (multi trees) h = record { body = 0; part = h.0 }
  stands path (nested tree) h = record { body = 0; part = h.0 }

  one_kind : (path : List ℕ) (k l : ℕ) → StandsAt s.tables message path k → StandsAt s.tables message path l → k ≡ l
  one_kind path k l h g = ap (λ (p : PartNumber). p.kind) (some_same (sym h.part ∙ g.part))

  same_kind : (path : List ℕ) (c d : Content) → HasBody s message path c → HasBody s message path d → kind_in c ≡ kind_in d
  same_kind path c d h g = one_kind path (kind_in c) (kind_in d) (stands path c h) (stands path d g)

  same_leaf : (path : List ℕ) (k : ℕ) (a b : List ℕ) → HasLeaf s message path k a → HasLeaf s message path k b → a ≡ b
  same_leaf path k a b h g =
      let body : h.body ≡ g.body = ap (λ (p : PartNumber). p.body) (some_same (sym h.part ∙ g.part)) in
      some_same (sym h.bytes_are.0 ∙ subst (λ (i : ℕ). HasContent s i b) (sym body) g.bytes_are.0)

  pub nowhere : (path : List ℕ) (tree : Tree) → HasNode s message path tree → part_at s.tables message path ≡ None → ⊥
  nowhere path (node fields content) h e =
      let at = stands path content h.1 in
      cc (at.part, e)

  mutual
    pub same_tree : (path : List ℕ) (a b : Tree) → HasNode s message path a → HasNode s message path b → a ≡ b
    same_tree path (node fs c) (node gs d) h g =
        ap (λ l. node l c) (same_fields s.tables message path fs gs h.0 g.0) ∙ ap (node gs) (same_content path c d h.1 g.1)

    same_content : (path : List ℕ) (c d : Content) → HasBody s message path c → HasBody s message path d → c ≡ d
    same_content path (leaf Plain a) (leaf Plain b) h g = ap (leaf Plain) (same_leaf path 0 a b h g)
    same_content path (leaf Base64 a) (leaf Base64 b) h g = ap (leaf Base64) (same_leaf path 1 a b h g)
    same_content path (multi a) (multi b) h g = ap multi (same_trees path 1 a b h.1 g.1)
    same_content path (nested a) (nested b) h g = ap nested (same_tree (child_path path 0) a b h.1 g.1)
    same_content path (leaf Plain a) (leaf Base64 b) h g = absurd (omega (arith, same_kind path (leaf Plain a) (leaf Base64 b) h g))
    same_content path (leaf Plain a) (multi b) h g = absurd (omega (arith, same_kind path (leaf Plain a) (multi b) h g))
    same_content path (leaf Plain a) (nested b) h g = absurd (omega (arith, same_kind path (leaf Plain a) (nested b) h g))
    same_content path (leaf Base64 a) (leaf Plain b) h g = absurd (omega (arith, same_kind path (leaf Base64 a) (leaf Plain b) h g))
    same_content path (leaf Base64 a) (multi b) h g = absurd (omega (arith, same_kind path (leaf Base64 a) (multi b) h g))
    same_content path (leaf Base64 a) (nested b) h g = absurd (omega (arith, same_kind path (leaf Base64 a) (nested b) h g))
    same_content path (multi a) (leaf Plain b) h g = absurd (omega (arith, same_kind path (multi a) (leaf Plain b) h g))
    same_content path (multi a) (leaf Base64 b) h g = absurd (omega (arith, same_kind path (multi a) (leaf Base64 b) h g))
    same_content path (multi a) (nested b) h g = absurd (omega (arith, same_kind path (multi a) (nested b) h g))
    same_content path (nested a) (leaf Plain b) h g = absurd (omega (arith, same_kind path (nested a) (leaf Plain b) h g))
    same_content path (nested a) (leaf Base64 b) h g = absurd (omega (arith, same_kind path (nested a) (leaf Base64 b) h g))
    same_content path (nested a) (multi b) h g = absurd (omega (arith, same_kind path (nested a) (multi b) h g))

    same_trees : (path : List ℕ) (n : ℕ) (a b : Trees) → HasChildren s message path n a → HasChildren s message path n b → a ≡ b
    same_trees path n none none h g = refl
    same_trees path n none (more b rest) h g = absurd (nowhere (child_path path n) b g.0 h)
    same_trees path n (more a others) none h g = absurd (nowhere (child_path path n) a h.0 g)
    same_trees path n (more a others) (more b rest) h g =
        ap (λ x. more x others) (same_tree (child_path path n) a b h.0 g.0) ∙ ap (more b) (same_trees path (n + 1) others rest h.1 g.1)

-- ---- reasons

abbrev reason_of : ℕ → Reason
reason_of n =
    cond (n == 1) ZeroByte (cond (n == 2) LoneReturn (cond (n == 3) NoField (cond (n == 4) LongHeader (cond (n == 5) NoBoundary (cond (n == 6) NoDelimiter (cond (n == 7) TooDeep TooMany))))))

told : (r : Reason) → reason_of (reason_number r) ≡ r
told ZeroByte = refl
told LoneReturn = refl
told NoField = refl
told LongHeader = refl
told NoBoundary = refl
told NoDelimiter = refl
told TooDeep = refl
told TooMany = refl

same_reason : (message : ℕ) (a b : Option Reason) → option_map (unparsed_row message) a ≡ option_map (unparsed_row message) b → a ≡ b
same_reason message None None e = refl
same_reason message None (Some b) e = cc
same_reason message (Some a) None e = cc
same_reason message (Some a) (Some b) e =
    let number : reason_number a ≡ reason_number b = ap (λ (r : UnparsedMessage). r.reason) (some_same e) in
    ap Some (sym (told a) ∙ ap reason_of number ∙ told b)

pub one_mail : (s : Stored) (message : ℕ) (a b : Mail) → HasRows s message a → HasRows s message b → a ≡ b
one_mail s message a b h g =
    ap (λ (tree : Tree). record { message = tree; reason = a.reason }) (same_tree s message [] a.message b.message h.tree_rows g.tree_rows)
    ∙ ap (λ (r : Option Reason). record { message = b.message; reason = r }) (same_reason message a.reason b.reason (sym h.reason ∙ g.reason))

pub same_header : (s : Stored) (message : ℕ) (fields : List Field) (tree : Tree) → HasFields s.tables message [] fields → HasNode s message [] tree → fields ≡ top_fields tree
same_header s message fields (node fs content) h g = same_fields s.tables message [] fields fs h g.0
