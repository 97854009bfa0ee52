-- `screen::first_suspect` meets its contract. The invariant: nothing is found, and the series and sets before are clear. Assumes nothing.
use Rattle.std.proofs.Common.{arith, sym, ap, ◌∙◌, rules}
use Rattle.image.specs.Lengths.{terms_of}
use Rattle.screen.specs.Named.{found_of}
use Rattle.screen.proofs.Order.{start, start-row, at-distance, at-height, on, on-series, nowhere}
use Rattle.screen.proofs.first_suspect.Goals as goal

pub most_passing-most-requires : goal.most_passing-most-requires
most_passing-most-requires c = c.args.book.ready.scales 2 (omega arith) (omega arith)

pub search-init : goal.search-init
search-init c = (search rules, omega arith, omega arith, start _ _)

pub loop-set-init : goal.loop-set-init
loop-set-init c = (c.search.invariant.0, omega arith, omega arith, omega arith, omega arith, c.search.invariant.3, start-row _ _ _)

pub distance_suspect-requires : goal.distance_suspect-requires
unfolding terms_of
distance_suspect-requires c = let v = c.loop-set.invariant in
    (v.1, v.2, v.3, omega arith, c.most_passing-most.ensures)

pub loop-set-preserved : goal.loop-set-preserved
loop-set-preserved c = let v = c.loop-set.invariant in
    let d = sym c.distance_suspect.ensures ∙ c.if-distance_suspect.false in
    let h = sym c.height_suspect.ensures ∙ c.if-height_suspect.false in
    (v.0, omega arith, omega arith, omega arith, omega arith, v.5, on _ _ _ _ v.1 v.2 v.3 (omega arith) v.5 v.6 d h)

pub search-preserved : goal.search-preserved
search-preserved c = let v = c.loop-set.invariant in
    (v.0, omega arith, omega arith, on-series _ _ _ _ v.1 (omega arith) v.5 v.6)

pub returns-after-search : goal.returns-after-search
returns-after-search c = let v = c.search.invariant in
    ap found_of v.0 ∙ nowhere _ _ _ (omega arith) v.3

pub returns-then-distance_suspect : goal.returns-then-distance_suspect
returns-then-distance_suspect c = let v = c.loop-set.invariant in
    at-distance _ _ _ _ v.1 v.2 v.3 (omega arith) v.5 v.6 (sym c.distance_suspect.ensures ∙ c.if-distance_suspect.true)

pub returns-then-height_suspect : goal.returns-then-height_suspect
returns-then-height_suspect c = let v = c.loop-set.invariant in
    at-height _ _ _ _ v.1 v.2 v.3 (omega arith) v.5 v.6 (sym c.distance_suspect.ensures ∙ c.if-distance_suspect.false) (sym c.height_suspect.ensures ∙ c.if-height_suspect.true)
