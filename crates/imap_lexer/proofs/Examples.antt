-- Worked examples: what bytes show, and the units that they are cut into.
use Rattle.std.specs.Prelude.{◌≡◌, None, Some, codes, refl}
use Rattle.imap_lexer.specs.declared.units.Form.TheVariants.{Command, Plain}
use Rattle.imap_lexer.specs.declared.units.Fed.TheVariants.{More, Continue, Unit as Whole, LiteralTooLong}
use Rattle.imap_lexer.specs.declared.units.Shown.TheVariants.{Unit as ShowsUnit, LiteralTooLong as ShowsLiteralTooLong}
use Rattle.imap_lexer.specs.Literals.{announced}
use Rattle.imap_lexer.specs.Units.{first, reading, shown}

-- numbers of any length, with leading zeros or none
numbers : (announced (codes "a {5}\r\n") ≡ Some 5) × (announced (codes "{00005}\r\n") ≡ Some 5) × (announced (codes "{0}\r\n") ≡ Some 0) × (announced (codes "x{1{23}\r\n") ≡ Some 23)
    × (announced (codes "{4294967296}\r\n") ≡ Some 4294967296) × (announced (codes "{18446744073709551621}\r\n") ≡ Some 18446744073709551621)
numbers = (refl, refl, refl, refl, refl, refl)

-- one byte off
no_numbers : (announced (codes "{}\r\n") ≡ None) × (announced (codes "{+5}\r\n") ≡ None) × (announced (codes "{5+}\r\n") ≡ None) × (announced (codes "{-5}\r\n") ≡ None) × (announced (codes "{5} \r\n") ≡ None)
    × (announced (codes "{5 }\r\n") ≡ None) × (announced (codes "{ 5}\r\n") ≡ None) × (announced (codes "5}\r\n") ≡ None) × (announced (codes "{5\r\n") ≡ None) × (announced (codes "{5}\n") ≡ None) × (announced (codes "{5}\r\r\n") ≡ None)
no_numbers = (refl, refl, refl, refl, refl, refl, refl, refl, refl, refl, refl)

prompts : (shown Command (codes "a {3}\r\n") ≡ Continue) × (shown Command (codes "a {3}\r\nxyz") ≡ More) × (shown Command (codes "a {3}\r\nxyz {0}\r\n") ≡ Continue) × (shown Command (codes "a {3}\r\nxyz {0}\r\n\r\n") ≡ Whole)
    × (shown Plain (codes "a {3}\r\n") ≡ Whole) × (shown Command (codes "a {3+}\r\n") ≡ Whole)
unfolding reading
prompts = (refl, refl, refl, refl, refl, refl)

-- a literal may hold line ends and announcements, which end and announce nothing
literals : (first Command (codes "a {9}\r\n\r\n{5}\r\n\r\nz\r\nb") ≡ Some (record { unit = codes "a {9}\r\n\r\n{5}\r\n\r\nz\r\n"; shows = ShowsUnit; rest = codes "b" }))
    × (first Plain (codes "a {9}\r\n\r\n") ≡ Some (record { unit = codes "a {9}\r\n"; shows = ShowsUnit; rest = codes "\r\n" }))
    × (first Command (codes "a {9}\r\n\r\n{5}\r\n\r\n") ≡ None)
unfolding first reading
literals = (refl, refl, refl)

-- literals count together
literals_too_long : (shown Command (codes "a {33554432}\r\n") ≡ Continue) × (first Command (codes "a {33554433}\r\nb") ≡ Some (record { unit = codes "a {33554433}\r\n"; shows = ShowsLiteralTooLong; rest = codes "b" }))
    × (shown Command (codes "a {1}\r\nx{33554431}\r\n") ≡ Continue) × (shown Command (codes "a {1}\r\nx{33554432}\r\n") ≡ LiteralTooLong) × (shown Command (codes "{99999999999999999999999}\r\n") ≡ LiteralTooLong)
unfolding first reading
literals_too_long = (refl, refl, refl, refl, refl)
