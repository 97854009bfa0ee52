-- The paper's book of a file, beside its refusal, in words.
use Rattle.std.proofs.Math.Option.{Option}
use Rattle.paper.specs.Units.{Terms, Places}
use Rattle.paper.specs.Alone as alone
use Rattle.book.specs.declared.Step.{Step}
use Rattle.book.specs.Meaning.{book_of}

unfoldable pub book_read : Option (Terms × Places) → Step
book_read c = record { refusal = alone.refused_file c; book = book_of (alone.book_of c) }
