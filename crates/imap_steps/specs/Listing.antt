-- What is told of names (RFC 3501 §6.3.8, §6.3.9).
use Rattle.std.specs.Prelude.{ℕ, not, Bool, true, false, List, [], ◌∷◌, ◌++◌, flat_map, codes}
use Rattle.imap_writer.specs.Lines.{list_line}
use Rattle.imap_writer.specs.Tagged.{ok_line}
use Rattle.mailbox_names.specs.declared.listed.Listed.{Listed}
use Rattle.mailbox_names.specs.Listing.{listed}
use Rattle.mail_world.specs.Listing.{names_of}
use Rattle.imap_steps.specs.Stepping.{Shared, Stepped, answered}

abbrev pub list_name : Bool → List ℕ
list_name true = codes "LSUB"
list_name false = codes "LIST"

-- a line for each name
abbrev pub list_lines : Bool → List Listed → List ℕ
list_lines subscribed all = flat_map (λ its. list_line subscribed (not its.noselect) its.name) all

-- What is told of names where a reference and a name are given, which together are a pattern. An empty name asks for what stands
-- between levels alone.
abbrev pub told_names : List ℕ → List ℕ → List (List ℕ) → List Listed
told_names reference [] names = record { name = []; noselect = true } ∷ []
told_names reference (b ∷ name) names = listed (reference ++ b ∷ name) names

-- LIST, or LSUB
unfoldable pub list : Shared → ℕ → List ℕ → List ℕ → List ℕ → Bool → Stepped
list shared user tag reference name subscribed =
    answered shared (list_lines subscribed (told_names reference name (names_of subscribed user shared.world)) ++ ok_line tag [] (list_name subscribed))
