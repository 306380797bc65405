-- The names of commands.
use Rattle.std.specs.Prelude.{ℕ, List, [], ◌∷◌, codes}
use Rattle.imap_grammar.specs.declared.verbs.Verb.{Verb}
use Rattle.imap_grammar.specs.declared.verbs.Verb.TheVariants.{Capability, Noop, Logout, Check, Close, Expunge, Login, Authenticate, Create, Delete, Subscribe, Unsubscribe, Rename, List as ListNames, Lsub, Status, Append, Select, Examine, Store, Copy, Fetch, Search, Sort, Thread, Enable, Uid}
use Rattle.imap_grammar.specs.declared.verbs.UidVerb.{UidVerb}
use Rattle.imap_grammar.specs.declared.verbs.UidVerb.TheVariants as uid

abbrev pub verbs : List (List ℕ × Verb)
verbs =
    (codes "CAPABILITY", Capability)
    ∷ (codes "NOOP", Noop)
    ∷ (codes "LOGOUT", Logout)
    ∷ (codes "CHECK", Check)
    ∷ (codes "CLOSE", Close)
    ∷ (codes "EXPUNGE", Expunge)
    ∷ (codes "LOGIN", Login)
    ∷ (codes "AUTHENTICATE", Authenticate)
    ∷ (codes "CREATE", Create)
    ∷ (codes "DELETE", Delete)
    ∷ (codes "SUBSCRIBE", Subscribe)
    ∷ (codes "UNSUBSCRIBE", Unsubscribe)
    ∷ (codes "RENAME", Rename)
    ∷ (codes "LIST", ListNames)
    ∷ (codes "LSUB", Lsub)
    ∷ (codes "STATUS", Status)
    ∷ (codes "APPEND", Append)
    ∷ (codes "SELECT", Select)
    ∷ (codes "EXAMINE", Examine)
    ∷ (codes "STORE", Store)
    ∷ (codes "COPY", Copy)
    ∷ (codes "FETCH", Fetch)
    ∷ (codes "SEARCH", Search)
    ∷ (codes "SORT", Sort)
    ∷ (codes "THREAD", Thread)
    ∷ (codes "ENABLE", Enable)
    ∷ (codes "UID", Uid)
    ∷ []

-- The commands that UID stands before.
abbrev pub uid_verbs : List (List ℕ × UidVerb)
uid_verbs =
    (codes "SEARCH", uid.Search)
    ∷ (codes "SORT", uid.Sort)
    ∷ (codes "THREAD", uid.Thread)
    ∷ (codes "FETCH", uid.Fetch)
    ∷ (codes "STORE", uid.Store)
    ∷ (codes "COPY", uid.Copy)
    ∷ (codes "EXPUNGE", uid.Expunge)
    ∷ []
