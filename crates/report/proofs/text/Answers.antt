-- `report::text`: by the answer.
-- Assumes nothing.
use Rattle.std.proofs.Common.{ap, length, arith, rules}
use Rattle.verdicts.proofs.Pieces.{long_verdicts}
use Rattle.report.proofs.Pieces.{told_verdicts, told_refusal, number_fits, long_refusal, text_is}
use Rattle.report.proofs.text.Goals as goal

pub put_verdicts-requires : goal.put_verdicts-requires
put_verdicts-requires c = let r = rw c.in-Ok.is at c.requires in
    (search rules, omega (arith, ap length c.new-out.ensures, long_verdicts c.in-Ok.e.xy c.in-Ok.e.h r.0.0 r.0.1 r.1.0 r.1.1))

pub put_refusal-requires : goal.put_refusal-requires
put_refusal-requires c = let r = rw c.in-Err.is at c.requires in
    (search rules, omega (arith, ap length c.new-out.ensures, long_refusal _ _ (number_fits c.in-Err.refusal) r.0 r.1 r.2))

pub returns-in-Ok : goal.returns-in-Ok
returns-in-Ok c = text_is _ c.new-out.result _ _ (rw c.in-Ok.is (told_verdicts _)) c.new-out.ensures c.put_verdicts.ensures

pub returns-in-Err : goal.returns-in-Err
returns-in-Err c = text_is _ c.new-out.result _ _ (rw c.in-Err.is (told_refusal _)) c.new-out.ensures c.put_refusal.ensures
