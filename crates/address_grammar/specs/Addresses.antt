-- The address that a place is, by what is at its front and behind that (RFC 5322 §3.4).
use Rattle.std.specs.Prelude.{ℕ, Bool, true, false, ◌||◌, if◌then◌else◌, List, [], ◌∷◌, Option, Some, None}
use Rattle.mime_tree.specs.declared.values.Item.{Item}
use Rattle.mime_tree.specs.declared.values.Item.TheVariants.{Address}
use Rattle.address_grammar.specs.declared.pieces.Special.TheVariants.{Comma, Colon, Open, Close, At}
use Rattle.address_grammar.specs.declared.pieces.Piece.{Piece}
use Rattle.address_grammar.specs.declared.pieces.Piece.TheVariants.{Mark}
use Rattle.address_grammar.specs.Words.{is_gap, is_wordlike, is_mark, bare, name_of, local_of, domain_of, is_domain, ending_gaps, comments, comment_name}

-- The phrase at the front of pieces.
abbrev pub front_phrase : List Piece → List Piece
front_phrase [] = []
front_phrase (p ∷ ps) = if is_gap p || is_wordlike p then p ∷ front_phrase ps else []

-- What is behind it.
abbrev pub behind_phrase : List Piece → List Piece
behind_phrase [] = []
behind_phrase (p ∷ ps) = if is_gap p || is_wordlike p then behind_phrase ps else p ∷ ps

-- A local part and a domain, and the pieces behind them.
pub data AddrSpec : Type 0 where
  addr_spec : List ℕ → List ℕ → List Piece → AddrSpec

abbrev pub both : Option (List ℕ) → Option (List ℕ) → List Piece → Option AddrSpec
both (Some local) (Some domain) rest = Some (addr_spec local domain rest)
both (Some local) None rest = None
both None domain rest = None

-- The addr that bare pieces begin with (RFC 5322 §3.4.1, addr-spec): local part, `@`, domain.
abbrev pub addr : List Piece → Option AddrSpec
addr (l ∷ Mark At ∷ d ∷ rest) = both (local_of l) (domain_of d) rest
addr ps = None

-- What is behind a route (RFC 5322 §4.4) whose first `@` was read: domains with `,` and `@` between, and a colon.
abbrev pub behind_route : List Piece → Option (List Piece)
behind_route (d ∷ Mark Colon ∷ rest) = if is_domain d then Some rest else None
behind_route (d ∷ Mark Comma ∷ Mark At ∷ rest) = if is_domain d then behind_route rest else None
behind_route ps = None

abbrev pub addr_behind : Option (List Piece) → Option AddrSpec
addr_behind None = None
addr_behind (Some ps) = addr ps

-- The addr behind a `<`, after a route or none.
abbrev pub routed_addr : List Piece → Option AddrSpec
routed_addr (Mark At ∷ ps) = addr_behind (behind_route ps)
routed_addr ps = addr ps

-- An addr without angle brackets, to the end of its place.
abbrev pub alone : List ℕ → Option AddrSpec → Option Item
alone name None = None
alone name (Some (addr_spec local domain [])) = Some (Address name local domain)
alone name (Some (addr_spec local domain (p ∷ ps))) = None

-- A `>` and nothing else.
abbrev pub is_close : List Piece → Bool
is_close [] = false
is_close (p ∷ []) = is_mark Close p
is_close (p ∷ q ∷ ps) = false

-- An addr within angle brackets, to the end of its place.
abbrev pub closed : List ℕ → Option AddrSpec → Option Item
closed name None = None
closed name (Some (addr_spec local domain rest)) = if is_close rest then Some (Address name local domain) else None

-- The address of bare pieces that begin with `<` (RFC 5322 §3.4, angle-addr).
abbrev pub angled : List ℕ → List Piece → Option Item
angled name (Mark Open ∷ ps) = closed name (routed_addr ps)
angled name ps = None

abbrev pub begins_angle : List Piece → Bool
begins_angle (Mark Open ∷ ps) = true
begins_angle ps = false

-- The address that a whole place is: a phrase or none and an addr in angle brackets, or an addr alone, whose name is the
-- single comment right behind it.
abbrev pub address : List Piece → Option Item
address ps =
    if begins_angle (behind_phrase ps) then angled (name_of (front_phrase ps)) (bare (behind_phrase ps))
    else alone (comment_name (comments (ending_gaps ps))) (addr (bare ps))
