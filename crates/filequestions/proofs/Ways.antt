-- The ways out of evaluating a file.
-- Assumes nothing.
use Prim.Native.Nat.{ℕ}
use native.Mathlib.Omega.{arith}
use mathlib.Core.Path.{◌≡◌, refl, sym, ap, ◌∙◌}
use mathlib.Core.Bool.{Bool, true, false, cond, not}
use mathlib.Core.Option.{Option, none, some}
use mathlib.Core.List.{List}
use Rattle.paper.specs.Units.{Terms, Places, in_range, all_near}
use Rattle.paper.specs.Calls.{evaluate}
use Rattle.paper.specs.Refusals.{TERMS, FAR, SUSPECT}
use Rattle.paper.specs.TurnedAway.{lowest}
use Rattle.paper.specs.Form.{formed_o}
use Rattle.paper.proofs.Acts.{unless-refused}
use Rattle.procedure.specs.declared.refusal.Refusal.{Refusal}
use Rattle.procedure.specs.Refused.{number_of}
use Rattle.procedure.specs.declared.refusal.Refusal.TheVariants as is
use Rattle.std.specs.Prelude.{Err}
use Rattle.paper.specs.Alone as alone
use Rattle.fieldfile.specs.Form.{Printable}
use Rattle.fieldfile.specs.Reader.{read_of}
use Rattle.fieldfile.proofs.Agreement.{read_only}
use Rattle.book.specs.declared.Book.{Book}
use Rattle.book.specs.declared.Step.{Step}
use Rattle.book.specs.Meaning.{book_of, seen}
use Rattle.book.specs.Steps.{step}
use Rattle.book.proofs.Meaning.{seen-image}
use Rattle.evaluation.specs.Evaluating.{evaluation_told}
use Rattle.evaluation.proofs.Asked.{evaluate_refused}
use Rattle.filebook.specs.FileBook.{book_read}
use Rattle.filebook.proofs.Ways.{read_range, read-far, filled-formed}

file_not-suspect : (c : Option (Terms × Places)) → alone.refused_file c ≡ SUSPECT → ⊥
unfolding alone.refused_file lowest
file_not-suspect none e = omega arith
file_not-suspect (some c) e = go (in_range c.0) (all_near c.0 0 c.1) e
  where
    go : (r n : Bool) → ◌≡◌ {A = ℕ} (cond (not r) TERMS (cond (not n) FAR 0)) SUSPECT → ⊥
    go true true e = omega arith
    go true false e = omega arith
    go false n e = omega arith

file_formed : (bs : List ℕ) (c : Option (Terms × Places)) → read_of bs ≡ c → formed_o (alone.book_of c) ≡ true
unfolding alone.book_of
file_formed bs none e = refl
file_formed bs (some d) e = go (in_range d.0) (all_near d.0 0 d.1) refl refl
  where
    p : Printable d.0 d.1
    p = (read_only bs d.0 d.1 e).printable

    go : (r n : Bool) → in_range d.0 ≡ r → all_near d.0 0 d.1 ≡ n → formed_o (alone.book_of (some d)) ≡ true
    go true true u v = filled-formed d.0 d.1 p u v
    go true false u v = rw (read-far d.0 d.1 p u v)
    go false n u v = rw (read_range d.0 d.1 p u)

-- no refusal is 0
number-positive : (r : Refusal) → number_of r ≡ 0 → ⊥
number-positive is.Register e = omega arith
number-positive is.Place e = omega arith
number-positive is.Open e = omega arith
number-positive is.Terms e = omega arith
number-positive is.Closed e = omega arith
number-positive is.Filled e = omega arith
number-positive is.Empty e = omega arith
number-positive is.Far e = omega arith
number-positive is.Nothing e = omega arith
number-positive is.Short e = omega arith
number-positive (is.Suspect s) e = omega arith
number-positive is.Zero e = omega arith
number-positive is.Room e = omega arith
number-positive is.Form e = omega arith

module _ (bs : List ℕ) where
  abbrev file : Option (Terms × Places)
  file = read_of bs

  pub file_refused : (r : Refusal) → step (number_of r) (book_of none) ≡ book_read file → evaluation_told (Err r) ≡ alone.evaluated_file file
  unfolding alone.evaluated_file book_read
  file_refused r e =
      let n : number_of r ≡ alone.refused_file file = ap (λ (x : Step). x.refusal) e in
      evaluate_refused r (λ h. file_not-suspect file (sym n ∙ h)) (λ k. none) 1
      ∙ rw n (sym (unless-refused (alone.refused_file file) _ _ (λ z. number-positive r (n ∙ z))))

  pub file_judged : (b : Book) → step 0 b ≡ book_read file → alone.asked_alone evaluate (seen b) ≡ alone.evaluated_file file
  unfolding alone.evaluated_file book_read
  file_judged b e =
      let r : alone.refused_file file ≡ 0 = sym (ap (λ (x : Step). x.refusal) e) in
      let s : seen b ≡ some (alone.book_of file) = ap (λ (x : Step). seen x.book) e ∙ seen-image (alone.book_of file) (file_formed bs file refl) in
      rw (s, r)
