-- What is found by names: users, with their passwords or without, and mailboxes.
use Rattle.std.specs.Prelude.{ℕ, nat_eq, if◌then◌else◌, List, ◌∷◌, ◌++◌, Option, Some, None}
use Rattle.std.specs.Option.{option_map, option_and_then}
use Rattle.std.specs.Cmp.Lexicographic.{pointwise}
use Rattle.sha2.specs.Sha256.{sha256}
use Rattle.row_tables.specs.declared.heads.User.{User}
use Rattle.row_tables.specs.Names.{user_named}
use Rattle.mail_world.specs.Names.{mailbox_name}
use Rattle.mail_world.specs.Worlds.{Mailbox, mailbox_named}

-- What a user's password is tested against: SHA-256 of the name, a zero byte and the password (FIPS 180-4).
abbrev pub verifier_of : List ℕ → List ℕ → List ℕ
verifier_of name password = sha256 (name ++ 0 ∷ password)

-- the id of the user of a name
abbrev pub user_id : List ℕ → List User → Option ℕ
user_id name users = option_map (λ user. user.id) (user_named name users)

-- the user's id, where that is the user's verifier
abbrev pub id_if_verified : List ℕ → User → Option ℕ
id_if_verified verifier user = if pointwise nat_eq user.verifier verifier then Some user.id else None

-- the id of the user of a name and a password
abbrev pub login_id : List ℕ → List ℕ → List User → Option ℕ
login_id name password users = option_and_then (id_if_verified (verifier_of name password)) (user_named name users)

-- The id of a user's mailbox of a name. INBOX is written in any case (RFC 3501 §5.1).
abbrev pub mailbox_id : ℕ → List ℕ → List Mailbox → Option ℕ
mailbox_id user name mailboxes = option_map (λ mailbox. mailbox.head.id) (mailbox_named user (mailbox_name name) mailboxes)
