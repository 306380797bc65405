-- Messages within messages.
use Rattle.std.proofs.Common.{◌≡◌, ℕ, zero, suc, ◌+◌, ◌^◌, ◌<◌, ◌≤◌, Bool, true, false, List, [], ◌∷◌, ◌++◌, length, length-append, get_or, take, Some, None, is_some, refl, sym, ap, ◌∙◌, subst, arith}
use mathlib.Core.Bool.{true≢false}
use Rattle.mime_tree.specs.declared.values.Field.{Field}
use Rattle.mime_tree.specs.declared.trees.Encoding.TheVariants.{Plain, Base64}
use Rattle.mime_tree.specs.Contents.{trees_of}
use Rattle.mime_tree.specs.Sizes.{nodes, nodes_of}
use Rattle.mime_tree.specs.Trees.{Tree, Content, Trees}
use Rattle.mime_tree.specs.Trees.Tree.{node}
use Rattle.mime_tree.specs.Trees.Content.{leaf, multi, nested}
use Rattle.ordered_rows.specs.RowKey.{same_key}
use Rattle.ordered_rows.specs.Listed.{row_at, with_row}
use Rattle.row_tables.specs.Keys.{part_key, part_number_key}
use Rattle.row_tables.specs.TableRows.{TableRows}
use Rattle.row_tables.specs.References.{HasPart}
use Rattle.row_tables.specs.Fits.{Fits, applied}
use Rattle.row_tables.specs.declared.mails.PartNumber.{PartNumber}
use Rattle.row_tables.specs.declared.change.RowChange.{RowChange}
use Rattle.row_tables.specs.declared.change.RowChange.TheVariants.{InsertMessageRow, InsertBodyPart, InsertPartNumber, InsertFieldName, InsertHeaderField, InsertAddressRow, InsertAddressField, InsertDateField, InsertMessageId, InsertUnparsedMessage}
use Rattle.row_store.specs.Holding.{stored_by, in_row}
use Rattle.shredder.specs.Paths.{child_path, paths, inner_paths, child_paths}
use Rattle.shredder.specs.MessageRows.{HasFields, HasLeaf, HasNode, HasBody, HasChildren, part_at}
use Rattle.shredder.specs.Distinct.{Keeps}
use Rattle.shredder.specs.Fitting.{ContentFits, ChildrenFit, NodeFits, count}
use Rattle.shredder.specs.Shredding.{SameAt}
use Rattle.shredder.specs.Making.{Suits, RowLaws, Makes, Here, Between, Leads, HasBarePart, HasPartOf, HasEach, HasInside, IsUnder, IsOpen, IsOpenFrom, Among}
use Rattle.shredder.proofs.Lookups.{some_none}
use Rattle.shredder.proofs.Frames.{same_then}
use Rattle.shredder.proofs.Staying.{fields_stay, node_stays}
use Rattle.shredder.proofs.Steps.{leads_then, leads_so, leads_keeps, leads_same}
use Rattle.shredder.proofs.PathLemmas.{under_self, under_child, parent_apart, children_apart, among_self, among_first, among_second, paths_under, under_one}

-- ---- the row of a part stays

part_kept : (laws : RowLaws) (message : ℕ) (path : List ℕ) (row : PartNumber) (t : TableRows) (change : RowChange) → Fits t change → Suits message t change → part_at t message path ≡ Some row → part_at (applied t change) message path ≡ Some row
part_kept laws message path row t (InsertMessageRow r) fits suits h = h
part_kept laws message path row t (InsertBodyPart r) fits suits h = h
part_kept laws message path row t (InsertPartNumber r) fits suits h = by (same_key (part_number_key r) (part_key message path)) refl
  where
    by : (b : Bool) → same_key (part_number_key r) (part_key message path) ≡ b → row_at part_number_key (part_key message path) (with_row part_number_key r t.mails.part_numbers) ≡ Some row
    by true q = absurd (some_none row (sym h ∙ subst (λ k. row_at part_number_key k t.mails.part_numbers ≡ None) (laws.same (part_number_key r) (part_key message path) q) fits.1))
    by false q = laws.part_numbers.other r (part_key message path) t.mails.part_numbers q ∙ h
part_kept laws message path row t (InsertFieldName r) fits suits h = h
part_kept laws message path row t (InsertHeaderField r) fits suits h = h
part_kept laws message path row t (InsertAddressRow r) fits suits h = h
part_kept laws message path row t (InsertAddressField r) fits suits h = h
part_kept laws message path row t (InsertDateField r) fits suits h = h
part_kept laws message path row t (InsertMessageId r) fits suits h = h
part_kept laws message path row t (InsertUnparsedMessage r) fits suits h = h
part_kept laws message path row t _ fits suits h = absurd suits

part_along : (laws : RowLaws) (message : ℕ) (path : List ℕ) (row : PartNumber) (t : TableRows) (changes : List RowChange) (after : TableRows) → Makes message t changes after → part_at t message path ≡ Some row → part_at after message path ≡ Some row
part_along laws message path row t [] after e h = subst (λ u. part_at u message path ≡ Some row) e h
part_along laws message path row t (change ∷ changes) after m h = part_along laws message path row (applied t change) changes after m.2 (part_kept laws message path row t change m.0 m.1 h)

part_of_stays : (laws : RowLaws) (message : ℕ) (path : List ℕ) (t : TableRows) (changes : List RowChange) (after : TableRows) → Makes message t changes after → Keeps (stored_by in_row t) (stored_by in_row after) → (content : Content) → HasPartOf t message path content → HasPartOf after message path content
part_of_stays laws message path t changes after made keeps content = by content
  where
    leaf_stays : (kind : ℕ) (bytes : List ℕ) → HasLeaf (stored_by in_row t) message path kind bytes → HasLeaf (stored_by in_row after) message path kind bytes
    leaf_stays kind bytes h = record { body = h.body; part = part_along laws message path _ t changes after made h.part; bytes_are = keeps.bodies h.body bytes h.bytes_are }

    by : (c : Content) → HasPartOf t message path c → HasPartOf after message path c
    by (leaf Plain bytes) h = leaf_stays 0 bytes h
    by (leaf Base64 bytes) h = leaf_stays 1 bytes h
    by (multi trees) h = part_along laws message path _ t changes after made h
    by (nested tree) h = part_along laws message path _ t changes after made h

-- ---- a part, its fields, and what stands within it

body_of : (t : TableRows) (message : ℕ) (path : List ℕ) (content : Content) → HasPartOf t message path content → HasInside message path content t → HasBody (stored_by in_row t) message path content
body_of t message path (leaf Plain bytes) h k = h
body_of t message path (leaf Base64 bytes) h k = h
body_of t message path (multi trees) h k = (h, k)
body_of t message path (nested tree) h k = (h, k)

pub part_there : (t : TableRows) (message : ℕ) (path : List ℕ) (content : Content) → HasPartOf t message path content → HasPart t message path
part_there t message path (leaf Plain bytes) h = ap is_some h.part
part_there t message path (leaf Base64 bytes) h = ap is_some h.part
part_there t message path (multi trees) h = ap is_some h
part_there t message path (nested tree) h = ap is_some h

-- how many parts there are at the most
pub short : (path : List ℕ) (trees : Trees) → ContentFits path (multi trees) → 1 + count trees < 2 ^ 64
short path trees fits = omega (arith, fits.0)

inner_apart : (path : List ℕ) (content : Content) → ContentFits path content → Among (inner_paths path content) path → ⊥
inner_apart path (leaf encoding bytes) fits h = true≢false (sym h)
inner_apart path (multi trees) fits h = let it = under_one path 1 trees path h in parent_apart path it.0 (omega (arith, it.2, short path trees fits)) it.3
inner_apart path (nested tree) fits h = parent_apart path 0 (omega arith) (paths_under (child_path path 0) tree path h)

is_here : (path other : List ℕ) (ps : List (List ℕ)) → Here path other → Among (path ∷ ps) other
is_here path other ps e = subst (λ (p : List ℕ). Among (p ∷ ps) other) e (among_self other ps)

module _ (laws : RowLaws) (message : ℕ) (t : TableRows) (path : List ℕ) where
  -- after the part and its fields, nothing stands under the parts within it
  pub open_within : (now added0 added1 added2 : TableRows) (changes0 changes1 changes2 : List RowChange) (P Q : TableRows → Type 0) → Between message t added0 now → IsOpen now message path
      → (part : Leads message t now added0 changes0 (Here path) P added1 changes1) → (fields : Leads message t part.after added1 changes1 (Here path) Q added2 changes2) → IsOpenFrom fields.after message path 0
  open_within now added0 added1 added2 changes0 changes1 changes2 P Q b open_now part fields n le lt other u =
      let apart : Here path other → ⊥ = λ e. parent_apart path n lt (subst (IsUnder (child_path path n)) e u) in
      let same : SameAt message other now fields.after =
      same_then message other now part.after fields.after (leads_same message t laws now added0 added1 changes0 changes1 (Here path) P b part other apart) (leads_same message t laws part.after added1 added2 changes1 changes2 (Here path) Q part.between fields other apart) in
      same.part ∙ open_now other (under_child path n other u)

  pub node_step : (fields : List Field) (content : Content) (now added0 added1 added2 added3 : TableRows) (changes0 changes1 changes2 changes3 : List RowChange) → ContentFits path content
      → (part : Leads message t now added0 changes0 (Here path) (HasBarePart message path content) added1 changes1)
      → (its : Leads message t part.after added1 changes1 (Here path) (λ after. HasFields after message path fields) added2 changes2)
      → Leads message t its.after added2 changes2 (Among (inner_paths path content)) (HasInside message path content) added3 changes3
      → Leads message t now added0 changes0 (Among (paths path (node fields content))) (λ after. HasNode (stored_by in_row after) message path (node fields content)) added3 changes3
  node_step fields content now added0 added1 added2 added3 changes0 changes1 changes2 changes3 fits part its inside =
      let P : TableRows → Type 0 = HasBarePart message path content in
      let F : TableRows → Type 0 = λ after. HasFields after message path fields in
      let I : TableRows → Type 0 = HasInside message path content in
      let N : TableRows → Type 0 = λ after. HasNode (stored_by in_row after) message path (node fields content) in
      let W : List ℕ → Type 0 = Among (paths path (node fields content)) in
      let V : List ℕ → Type 0 = Among (inner_paths path content) in
      let keeps1 = leads_keeps message t laws part.after added1 added2 changes1 changes2 (Here path) F part.between its in
      let keeps2 = leads_keeps message t laws its.after added2 added3 changes2 changes3 V I its.between inside in
      let same = leads_same message t laws its.after added2 added3 changes2 changes3 V I its.between inside path (inner_apart path content fits) in
      let own = part_of_stays laws message path its.after inside.more inside.after inside.made keeps2 content (part_of_stays laws message path part.after its.more its.after its.made keeps1 content part.holds.0) in
      let whole : N inside.after = (fields_stay (stored_by in_row its.after) (stored_by in_row inside.after) keeps2 message path fields same its.holds, body_of inside.after message path content own inside.holds) in
      let last = leads_so message t its.after added2 added3 changes2 changes3 V W I N (λ p h. among_second (path ∷ []) (inner_paths path content) p h) inside whole in
      let rest = leads_then message t part.after added1 added2 added3 changes1 changes2 changes3 (Here path) W W F N (λ p h. is_here path p (inner_paths path content) h) (λ p h. h) its last in
      leads_then message t now added0 added1 added3 changes0 changes1 changes3 (Here path) W W P N (λ p h. is_here path p (inner_paths path content) h) (λ p h. h) part rest

-- ---- the parts of a multipart

pub count_of : (trees : List Tree) → count (trees_of trees) ≡ length trees
count_of [] = refl
count_of (tree ∷ trees) = let rest = count_of trees in omega (arith, rest)

child_in : (path : List ℕ) (n i : ℕ) (trees : List Tree) (tree d : Tree) (other : List ℕ) → i < length trees → tree ≡ get_or trees i d → Among (paths (child_path path (n + i)) tree) other → Among (child_paths path n (trees_of trees)) other
child_in path n i [] tree d other lt is h = absurd (omega (arith, lt))
child_in path n zero (first ∷ trees) tree d other lt is h =
    among_first (paths (child_path path n) first) (child_paths path (n + 1) (trees_of trees)) other (subst (λ (x : Tree). Among (paths (child_path path n) x) other) is (subst (λ (m : ℕ). Among (paths (child_path path m) tree) other) (omega arith) h))
child_in path n (suc i) (first ∷ trees) tree d other lt is h =
    among_second (paths (child_path path n) first) (child_paths path (n + 1) (trees_of trees)) other (child_in path (n + 1) i trees tree d other (omega (arith, lt)) is (subst (λ (m : ℕ). Among (paths (child_path path m) tree) other) (omega arith) h))

pub child_fits : (path : List ℕ) (n i : ℕ) (trees : List Tree) (tree d : Tree) → i < length trees → tree ≡ get_or trees i d → ChildrenFit path n (trees_of trees) → NodeFits (child_path path (n + i)) tree
child_fits path n i [] tree d lt is h = absurd (omega (arith, lt))
child_fits path n zero (first ∷ trees) tree d lt is h = subst (λ (m : ℕ). NodeFits (child_path path m) tree) (omega arith) (subst (λ (x : Tree). NodeFits (child_path path n) x) (sym is) h.0)
child_fits path n (suc i) (first ∷ trees) tree d lt is h = subst (λ (m : ℕ). NodeFits (child_path path m) tree) (omega arith) (child_fits path (n + 1) i trees tree d (omega (arith, lt)) is h.1)

each_and : (t : TableRows) (message : ℕ) (path : List ℕ) (n : ℕ) (trees : List Tree) (tree : Tree) → HasEach t message path n trees → HasNode (stored_by in_row t) message (child_path path (n + length trees)) tree → HasEach t message path n (trees ++ tree ∷ [])
each_and t message path n [] tree h k = (subst (λ (m : ℕ). HasNode (stored_by in_row t) message (child_path path m) tree) (omega arith) k, tt)
each_and t message path n (first ∷ trees) tree h k = (h.0, each_and t message path (n + 1) trees tree h.1 (subst (λ (m : ℕ). HasNode (stored_by in_row t) message (child_path path m) tree) (omega arith) k))

pub each_all : (t : TableRows) (message : ℕ) (path : List ℕ) (n : ℕ) (trees : List Tree) → HasEach t message path n trees → part_at t message (child_path path (n + length trees)) ≡ None → HasChildren (stored_by in_row t) message path n (trees_of trees)
each_all t message path n [] h k = subst (λ (m : ℕ). part_at t message (child_path path m) ≡ None) (omega arith) k
each_all t message path n (first ∷ trees) h k = (h.0, each_all t message path (n + 1) trees h.1 (subst (λ (m : ℕ). part_at t message (child_path path m) ≡ None) (omega arith) k))

-- the first of the parts are there, and nothing under those behind them
abbrev pub HasFirst : TableRows → ℕ → List ℕ → List Tree → Type 0
HasFirst t message path trees = HasEach t message path 1 trees × IsOpenFrom t message path (1 + length trees)

module _ (t after : TableRows) (keeps : Keeps (stored_by in_row t) (stored_by in_row after)) (message : ℕ) (path : List ℕ) (last : ℕ) (last_fits : last < 2 ^ 64) (same : (other : List ℕ) → (IsUnder (child_path path last) other → ⊥) → SameAt message other t after) where
  each_stays : (n : ℕ) (trees : List Tree) → n + length trees ≤ last → HasEach t message path n trees → HasEach after message path n trees
  each_stays n [] le h = tt
  each_stays n (tree ∷ trees) le h = (
    node_stays (stored_by in_row t) (stored_by in_row after) keeps message (child_path path n) tree (λ other u. same other (children_apart path n last other (omega (arith, le, last_fits)) last_fits (λ e. absurd (omega (arith, le, e))) u)) h.0,
    each_stays (n + 1) trees (omega (arith, le)) h.1,
  )

module _ (laws : RowLaws) (message : ℕ) (t : TableRows) (path : List ℕ) (all : List Tree) where
  pub first_none : (now added : TableRows) (changes : List RowChange) → Between message t added now → IsOpenFrom now message path 0 → HasFirst now message path []
  first_none now added changes b open_now = (tt, λ n le lt. open_now n (omega arith) lt)

  pub children_step : (i : ℕ) (tree d : Tree) (now added0 added1 : TableRows) (changes0 changes1 : List RowChange) → i < length all → 1 + length all < 2 ^ 64 → tree ≡ get_or all i d → length (take i all) ≡ i → Between message t added0 now → HasFirst now message path (take i all)
      → Leads message t now added0 changes0 (Among (paths (child_path path (1 + i)) tree)) (λ after. HasNode (stored_by in_row after) message (child_path path (1 + i)) tree) added1 changes1
      → Leads message t now added0 changes0 (Among (child_paths path 1 (trees_of all))) (λ after. HasFirst after message path (take i all ++ tree ∷ [])) added1 changes1
  children_step i tree d now added0 added1 changes0 changes1 lt bound is counted b first step =
      let V : List ℕ → Type 0 = Among (paths (child_path path (1 + i)) tree) in
      let W : List ℕ → Type 0 = Among (child_paths path 1 (trees_of all)) in
      let N : TableRows → Type 0 = λ after. HasNode (stored_by in_row after) message (child_path path (1 + i)) tree in
      let same : (other : List ℕ) → (IsUnder (child_path path (1 + i)) other → ⊥) → SameAt message other now step.after =
      λ other n. leads_same message t laws now added0 added1 changes0 changes1 V N b step other (λ h. n (paths_under (child_path path (1 + i)) tree other h)) in
      let keeps = leads_keeps message t laws now added0 added1 changes0 changes1 V N b step in
      let small : 1 + i < 2 ^ 64 = omega (arith, lt, bound) in
      let each = each_stays now step.after keeps message path (1 + i) small same 1 (take i all) (omega (arith, counted)) first.0 in
      let here : HasNode (stored_by in_row step.after) message (child_path path (1 + length (take i all))) tree = subst (λ (m : ℕ). HasNode (stored_by in_row step.after) message (child_path path (1 + m)) tree) (sym counted) step.holds in
      let grown : length (take i all ++ tree ∷ []) ≡ i + 1 = omega (arith, counted, length-append (take i all) (tree ∷ [])) in
      leads_so message t now added0 added1 changes0 changes1 V W N (λ after. HasFirst after message path (take i all ++ tree ∷ [])) (λ p h. child_in path 1 i all tree d p lt is h) step (
        each_and step.after message path 1 (take i all) tree each here,
        λ n le small_n other u. (same other (λ v. children_apart path n (1 + i) other small_n small (λ e. absurd (omega (arith, le, grown, e))) u v)).part ∙ first.1 n (omega (arith, le, grown, counted)) small_n other u,
      )

  pub children_done : (now added0 added1 : TableRows) (changes0 changes1 : List RowChange) (W : List ℕ → Type 0) → 1 + length all < 2 ^ 64 → Leads message t now added0 changes0 W (λ after. HasFirst after message path all) added1 changes1
      → Leads message t now added0 changes0 W (λ after. HasChildren (stored_by in_row after) message path 1 (trees_of all)) added1 changes1
  children_done now added0 added1 changes0 changes1 W bound l =
      leads_so message t now added0 added1 changes0 changes1 W W (λ after. HasFirst after message path all) (λ after. HasChildren (stored_by in_row after) message path 1 (trees_of all)) (λ p h. h) l
      (each_all l.after message path 1 all l.holds.0 (l.holds.1 (1 + length all) (omega arith) bound (child_path path (1 + length all)) (under_self (child_path path (1 + length all)))))

-- ---- a part is smaller than the parts

part_nodes : (ts : List Tree) (at : ℕ) (d : Tree) → at < length ts → nodes (get_or ts at d) ≤ nodes_of (trees_of ts)
part_nodes [] at d h = absurd (omega arith)
part_nodes (t ∷ ts) zero d h = omega arith
part_nodes (t ∷ ts) (suc at) d h = omega (arith, part_nodes ts at d (omega arith))

pub part_smaller : (ts : List Tree) (at : ℕ) (t : Tree) → at < length ts → t ≡ get_or ts at t → nodes t ≤ nodes_of (trees_of ts)
part_smaller ts at t h is = let e = ap nodes is in omega (arith, e, part_nodes ts at t h)
