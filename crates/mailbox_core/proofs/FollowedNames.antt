-- A walk over the mailboxes of a user whose names begin with a name, by the bytes of names.
use Rattle.std.proofs.Common.{ℕ, ◌≡◌, ◌+◌, ◌<◌, ◌==◌, Bool, true, false, cond, not, List, [], ◌∷◌, length, Option, Some, None, inl, inr, refl, sym, ap, subst, ◌∙◌, arith}
use Rattle.std.specs.Prelude.{◌&&◌, nat_eq}
use Rattle.std.specs.List.{filter, find}
use Rattle.std.specs.Cmp.Lexicographic.{bytes_decides, pointwise}
use Rattle.std.proofs.lemmas.Bool.{true≢false, and_from, and_left, and_parts, eq-eqb, not-false}
use Rattle.std.proofs.lemmas.Option.{none-some, same_Some}
use Rattle.row_tables.specs.Names.{ComesNext, has_mailbox_name, is_after, mailbox_is_after, mailbox_named}
use Rattle.row_tables.specs.TableRows.{TableRows}
use Rattle.row_tables.specs.declared.heads.Mailbox.{Mailbox}
use Rattle.mail_world.specs.Names.{is_renamed}
use Rattle.mail_stands.specs.Renaming.{IsRenamed}
use Rattle.mailbox_core.specs.Renaming.{IsNextUnder}
use Rattle.mailbox_core.proofs.Found.{find_passes}
use Rattle.mailbox_core.proofs.Fronts.{goes_on}
use Rattle.mailbox_core.proofs.NameOrder.{Above, Below, InOrder, Same, above_all, below_below, fewer, in_order, not_below_front, not_below_itself}

-- what a test finds isn't nothing
not_none : {X : Type 0} (p q : X → Bool) (xs : List X) (x : X) → find p xs ≡ None → find q xs ≡ Some x → p x ≡ true → ⊥
not_none p q [] x none found passes = none-some x found
not_none {X} p q (y ∷ ys) x none found passes = by (p y) (q y) refl none found (λ none found. not_none p q ys x none found passes)
  where
    by : (a b : Bool) → p y ≡ a → cond a (Some y) (find p ys) ≡ None → cond b (Some y) (find q ys) ≡ Some x → (find p ys ≡ None → find q ys ≡ Some x → ⊥) → ⊥
    by true b e n f rest = none-some y (sym n)
    by false true e n f rest = true≢false (sym passes ∙ (ap p (sym (same_Some y x f)) ∙ e))
    by false false e n f rest = rest n f

-- The names up to that of the next mailbox were passed; all were where there is none.
abbrev pub is_left : Option Mailbox → List ℕ → Bool
is_left None name = false
is_left (Some row) name = not (is_after name row.name)

-- how many mailboxes are left
abbrev pub left_of : TableRows → ℕ → Option Mailbox → ℕ
left_of t owner None = 0
left_of t owner (Some row) = 1 + length (filter (mailbox_is_after owner row.name) t.heads.mailboxes)

-- The next mailbox is one that its name finds, and doesn't come before the name.
abbrev pub IsNextOf : TableRows → ℕ → List ℕ → Option Mailbox → Type 0
IsNextOf t owner from None = Unit {0}
IsNextOf t owner from (Some row) = (mailbox_named owner row.name t.heads.mailboxes ≡ Some row) × (is_after row.name from ≡ false)

-- D holds of all renamed mailboxes that were passed
pub record Walks (t : TableRows) (owner : ℕ) (from : List ℕ) (D : Mailbox → Type 0) (next : Option Mailbox) : Type 0 where
  pub next_is : IsNextOf t owner from next
  pub passed : (row : Mailbox) → IsRenamed t owner from row → is_left next row.name ≡ false → D row

module _ (t : TableRows) (owner : ℕ) (from : List ℕ) where
  parts : (name : List ℕ) (row : Mailbox) → mailbox_named owner name t.heads.mailboxes ≡ Some row → (row.name ≡ name) × ((row.owner == owner) ≡ true)
  parts name row found =
      let both = and_parts (pointwise nat_eq row.name name) (row.owner == owner) (find_passes (has_mailbox_name owner name) t.heads.mailboxes row found) in
      ((bytes_decides row.name name).0 both.0, both.1)

  -- a renamed mailbox doesn't come before the name
  not_before : (name : List ℕ) → is_renamed from name ≡ true → is_after name from ≡ false
  not_before name under = goes_on from name under (λ rest same ends. ap (λ n. is_after n from) same ∙ not_below_front from rest)

  pub walks_first : (D : Mailbox → Type 0) (first : Mailbox) → mailbox_named owner from t.heads.mailboxes ≡ Some first → Walks t owner from D (Some first)
  walks_first D first found =
      let name = (parts from first found).0 in
      record {
        next_is = (ap (λ n. mailbox_named owner n t.heads.mailboxes) name ∙ found, ap (λ n. is_after n from) name ∙ not_below_itself from);
        passed = λ row is left.
            absurd (true≢false (sym (not-false (is_after row.name first.name) left) ∙ (ap (is_after row.name) name ∙ not_before row.name is.under)));
      }

  pub walks_nowhere : (D : Mailbox → Type 0) → mailbox_named owner from t.heads.mailboxes ≡ None → ((row : Mailbox) → IsRenamed t owner from row → D row) → Walks t owner from D None
  walks_nowhere D none all = record { next_is = tt; passed = λ row is left. all row is }

  pub walks_all : (D : Mailbox → Type 0) → Walks t owner from D None → (row : Mailbox) → IsRenamed t owner from row → D row
  walks_all D walks row is = walks.passed row is refl

  module _ (D E : Mailbox → Type 0) (row : Mailbox) (weaker : (other : Mailbox) → D other → E other) (here : IsRenamed t owner from row → E row) (walks : Walks t owner from D (Some row)) where
    -- a renamed mailbox was passed, or comes after this one
    passed_or : {P : Type 0} (other : Mailbox) → IsRenamed t owner from other → (E other → P) → (is_after row.name other.name ≡ true → P) → P
    passed_or {P} other is done later = by (in_order other.name row.name)
      where
        same : other.name ≡ row.name → other ≡ row
        same name = same_Some other row (sym is.named ∙ (ap (λ n. mailbox_named owner n t.heads.mailboxes) name ∙ walks.next_is.0))

        by : InOrder other.name row.name → P
        by (Below before) = done (weaker other (walks.passed other is (ap not before)))
        by (Same name) = done (subst E (sym (same name)) (here (subst (IsRenamed t owner from) (same name) is)))
        by (Above after) = later after

    -- the next one isn't before the name either
    after_name : (next : Mailbox) → ComesNext owner row.name t.heads.mailboxes next → is_after from next.name ≡ true
    after_name next comes = by (in_order from row.name)
      where
        by : InOrder from row.name → is_after from next.name ≡ true
        by (Below before) = below_below from row.name next.name before comes.after
        by (Same name) = ap (λ n. is_after n next.name) name ∙ comes.after
        by (Above after) = absurd (true≢false (sym after ∙ walks.next_is.1))

    not_before_next : (next : Mailbox) → ComesNext owner row.name t.heads.mailboxes next → is_after next.name from ≡ false
    not_before_next next comes = by (is_after next.name from) refl
      where
        by : (b : Bool) → is_after next.name from ≡ b → b ≡ false
        by false e = refl
        by true e = absurd (true≢false (sym (below_below from next.name from (after_name next comes) e) ∙ not_below_itself from))

    step_to : (next : Mailbox) → ComesNext owner row.name t.heads.mailboxes next → Walks t owner from E (Some next)
    step_to next comes = record {
      next_is = (comes.first, not_before_next next comes);
      passed = λ other is left. passed_or other is (λ done. done) (λ after. absurd (not_none (λ (s : Mailbox). is_after row.name s.name && is_after s.name next.name && (s.owner == owner)) (has_mailbox_name owner other.name) t.heads.mailboxes other comes.between is.named
          (and_from (is_after row.name other.name && is_after other.name next.name) (other.owner == owner)
          (and_from (is_after row.name other.name) (is_after other.name next.name) after (not-false (is_after other.name next.name) left)) (parts other.name other is.named).1)));
    }

    walk_on : (next : Option Mailbox) → IsNextUnder owner from row.name t.heads.mailboxes next → Walks t owner from E next
    walk_on (Some next) comes = step_to next comes
    walk_on None (inl none) = record {
      next_is = tt;
      passed = λ other is left. passed_or other is (λ done. done) (λ after. absurd (not_none (mailbox_is_after owner row.name) (has_mailbox_name owner other.name) t.heads.mailboxes other none is.named
          (and_from (is_after row.name other.name) (other.owner == owner) after (parts other.name other is.named).1)));
    }
    walk_on None (inr stop) = record {
      next_is = tt;
      passed = λ other is left.
          (step_to stop.0 stop.1).passed other is
          (ap not (goes_on from other.name is.under (λ rest same ends. ap (λ n. is_after n stop.0.name) same ∙ above_all from stop.0.name rest (after_name stop.0 stop.1) stop.2)));
    }

  pub walks_on : (D E : Mailbox → Type 0) (row : Mailbox) (next : Option Mailbox) → ((other : Mailbox) → D other → E other) → (IsRenamed t owner from row → E row)
      → IsNextUnder owner from row.name t.heads.mailboxes next → Walks t owner from D (Some row) → Walks t owner from E next
  walks_on D E row next weaker here comes walks = walk_on D E row weaker here walks next comes

  -- fewer are left after each
  pub fewer_left : (row : Mailbox) (next : Option Mailbox) → IsNextUnder owner from row.name t.heads.mailboxes next → left_of t owner next < left_of t owner (Some row)
  fewer_left row None comes = omega arith
  fewer_left row (Some next) comes =
      let less = fewer (mailbox_is_after owner next.name) (mailbox_is_after owner row.name) (has_mailbox_name owner next.name) next t.heads.mailboxes
      (λ other passes. let both = and_parts (is_after next.name other.name) (other.owner == owner) passes in
      and_from (is_after row.name other.name) (other.owner == owner) (below_below row.name next.name other.name comes.after both.0) both.1)
      comes.first (and_from (is_after row.name next.name) (next.owner == owner) comes.after (eq-eqb next.owner owner comes.owner_is))
      (and_left (is_after next.name next.name) (next.owner == owner) (not_below_itself next.name)) in
      omega (arith, less)
