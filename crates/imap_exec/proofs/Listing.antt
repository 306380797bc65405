-- The lines of LIST and LSUB.
use Rattle.std.proofs.Common.{◌≡◌, ℕ, ◌++◌, ◌==◌, Bool, true, false, not, List, [], ◌∷◌, length, Result, refl, arith, sym, ap, subst, ◌∙◌, append_assoc}
use Rattle.std.proofs.lemmas.Bool.{eqb-true, true≢false}
use Rattle.mailbox_names.specs.declared.listed.Listed.{Listed}
use Rattle.mailbox_names.specs.Listing.{listed}
use Rattle.imap_writer.specs.Lines.{list_line}
use Rattle.imap_writer.specs.Tagged.{ok_line}
use Rattle.row_store.specs.declared.faults.StoreFault.{StoreFault}
use Rattle.imap_steps.specs.declared.outcome.Outcome.{Outcome}
use Rattle.imap_steps.specs.Stepping.{Shared, completed}
use Rattle.imap_steps.specs.Listing.{list, list_lines, list_name, told_names}
use Rattle.mail_world.specs.Listing.{names_of}
use Rattle.imap_exec.specs.Answers.{Says}
use Rattle.imap_exec.proofs.Saying.{said_behind}

append_none : (l : List ℕ) → l ++ [] ≡ l
append_none [] = refl
append_none (b ∷ l) = ap (λ r. b ∷ r) (append_none l)

-- a line is those of one name
pub one_line : (subscribed : Bool) (its : Listed) → list_line subscribed (not its.noselect) its.name ≡ list_lines subscribed (its ∷ [])
one_line subscribed its = sym (append_none (list_line subscribed (not its.noselect) its.name))

-- the lines of one name more
pub lines_longer : (subscribed : Bool) (front : List Listed) (its : Listed) → list_lines subscribed (front ++ its ∷ []) ≡ list_lines subscribed front ++ list_line subscribed (not its.noselect) its.name
lines_longer subscribed [] its = append_none (list_line subscribed (not its.noselect) its.name)
lines_longer subscribed (x ∷ front) its =
    ap (λ l. list_line subscribed (not x.noselect) x.name ++ l) (lines_longer subscribed front its)
    ∙ sym (append_assoc (list_line subscribed (not x.noselect) x.name) (list_lines subscribed front) (list_line subscribed (not its.noselect) its.name))

pub none_long : (name : List ℕ) → (length name == 0) ≡ true → name ≡ []
none_long [] e = refl
none_long (b ∷ name) e = let h = eqb-true (length (b ∷ name)) 0 e in absurd (omega arith)

pub some_long : (name : List ℕ) → (length name == 0) ≡ false → name ≡ [] → ⊥
some_long name e is = true≢false (sym (ap (λ l. length l == 0) is) ∙ e)

-- what is told where the name isn't empty
pub told_some : (reference name : List ℕ) (names : List (List ℕ)) → (name ≡ [] → ⊥) → told_names reference name names ≡ listed (reference ++ name) names
told_some reference [] names some = absurd (some refl)
told_some reference (b ∷ name) names some = refl

-- lines of names, and then the command is completed
pub says_list : (result : Result Outcome StoreFault) (before between after : List ℕ) (shared : Shared) (user : ℕ) (tag reference name : List ℕ) (subscribed : Bool)
    → between ≡ before ++ list_lines subscribed (told_names reference name (names_of subscribed user shared.world)) → Says result shared.parts between after (completed shared tag (list_name subscribed))
    → Says result shared.parts before after (list shared user tag reference name subscribed)
unfolding list
says_list result before between after shared user tag reference name subscribed is says =
    said_behind result before (list_lines subscribed (told_names reference name (names_of subscribed user shared.world))) (ok_line tag [] (list_name subscribed)) after shared
    (subst (λ (l : List ℕ). Says result shared.parts l after (completed shared tag (list_name subscribed))) is says)
