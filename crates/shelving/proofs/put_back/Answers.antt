-- `shelving::put_back`: by whether the call is refused.
-- Assumes nothing.
use native.Mathlib.Omega.{arith}
use Rattle.shelving.proofs.Ways.{away-not, kept_back, written}
use borrow.Author.Rules.{rules}
use Rattle.shelving.proofs.put_back.Goals as goal

pub returns-then-refusal-ne0 : goal.returns-then-refusal-ne0
returns-then-refusal-ne0 c = kept_back _ _ _ _ c.turned_away-refusal.ensures c.if-refusal-ne0.true

pub overflow_sub-book : goal.overflow_sub-book
overflow_sub-book c = (away-not _ _ _ c.turned_away-refusal.ensures (search rules)).0

pub overflow_mul-book : goal.overflow_mul-book
overflow_mul-book c = let w = away-not _ _ _ c.turned_away-refusal.ensures (search rules) in
    search (rules, w)

pub store-requires : goal.store-requires
store-requires c = let w = away-not _ _ _ c.turned_away-refusal.ensures (search rules) in
    omega (arith, w.0, w.1, c.requires w.2)

pub returns : goal.returns
returns c = written _ _ _ _ _ c.turned_away-refusal.ensures (search rules) c.store.ensures
