-- What the code says of a file, against what the reader of files gives.
use Rattle.std.specs.Prelude.{Option, Some, None}
use Rattle.std.proofs.Math.Option.{none, some}
use Rattle.std.proofs.Math.Option as math
use Rattle.paper.specs.Units.{Terms, Places}
use Rattle.image.specs.Lengths.{term_words}
use Rattle.image.specs.Places.{cells_of}
use Rattle.contents.specs.declared.Contents.{Contents}

-- a file's terms and readings as words; nothing of a file that is not of the form
unfoldable pub contents_of : math.Option (Terms × Places) → Option Contents
contents_of none = None
contents_of (some c) = Some (record { terms = term_words c.0; cells = cells_of c.1 })
