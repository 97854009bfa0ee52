-- Document 01, "Turned away": the numbers of the table and their names. No other definition writes them. Crate `procedure` ties them to
-- the constants of the code.
use Rattle.std.specs.Prelude.{ℕ}

abbrev pub REGISTER : ℕ
REGISTER = 1

abbrev pub PLACE : ℕ
PLACE = 2

abbrev pub OPEN : ℕ
OPEN = 3

abbrev pub TERMS : ℕ
TERMS = 4

abbrev pub CLOSED : ℕ
CLOSED = 5

abbrev pub FILLED : ℕ
FILLED = 6

abbrev pub EMPTY : ℕ
EMPTY = 7

abbrev pub FAR : ℕ
FAR = 8

abbrev pub NOTHING : ℕ
NOTHING = 9

abbrev pub SHORT : ℕ
SHORT = 10

abbrev pub SUSPECT : ℕ
SUSPECT = 11

abbrev pub ZERO : ℕ
ZERO = 12

abbrev pub ROOM : ℕ
ROOM = 13

abbrev pub FORM : ℕ
FORM = 14
