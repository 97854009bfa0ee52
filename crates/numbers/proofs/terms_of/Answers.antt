-- `numbers::terms_of`: word by word.
-- Assumes nothing.
use Rattle.std.proofs.Common.{rules, ◌≡◌, ℕ, ◌<◌, get_or, pos}
use Rattle.image.specs.Layout.{TERM_WORDS}
use Rattle.image.specs.Lengths.{word_or}
use Rattle.numbers.proofs.Terms.{words_from}
use Rattle.numbers.proofs.terms_of.Goals as goal

pub returns : goal.returns
returns c =
    let at : (i : ℕ) → i < TERM_WORDS → get_or c.map.result i 0 ≡ word_or (get_or c.args.terms i (pos 0)) = λ i p. let h = c.map.ensures.items.at i (pos 0) 0 p in search (rules, h) in
    words_from _ _ c.map.ensures.items.long at
