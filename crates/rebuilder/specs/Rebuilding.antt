-- Messages that are rebuilt from their rows.
use Rattle.std.specs.Prelude.{◌≡◌, ℕ, ◌≤◌, List}
use Rattle.mime_tree.specs.declared.reasons.Mail.{Mail}
use Rattle.mime_tree.specs.declared.values.Field.{Field}
use Rattle.mime_tree.specs.Sizes.{levels}
use Rattle.mime_tree.specs.Trees.{Tree}
use Rattle.mime_tree.specs.Trees.Tree.{node}
use Rattle.row_store.specs.Holding.{Stored}
use Rattle.shredder.specs.MessageRows.{HasRows}

-- How many levels of messages and parts are rebuilt, the message itself the first. A message that is read has 17 at most.
abbrev pub most_levels : ℕ
most_levels = 100

-- The message's rows are those of the mail, which has no more levels than are rebuilt.
pub record HasMail (s : Stored) (message : ℕ) (mail : Mail) : Type 0 where
  pub rows : HasRows s message mail
  pub few_levels : levels mail.message ≤ most_levels

-- Rows are those of one mail alone.
abbrev pub OneMail : Type 0
OneMail = (s : Stored) (message : ℕ) (a b : Mail) → HasRows s message a → HasRows s message b → a ≡ b

-- the fields of the message itself
abbrev pub top_fields : Tree → List Field
top_fields (node fields content) = fields
