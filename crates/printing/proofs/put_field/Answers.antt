-- `printing::put_field`: the number, and one byte.
-- Assumes nothing.
use Rattle.std.proofs.Common.{◌∷◌, [], length, arith, length-append, rules, refl, ap, ◌∙◌}
use Rattle.decimals.specs.Numbers.{numeral}
use Rattle.printing.proofs.Numbers.{text_of}
use Rattle.printing.proofs.put_field.Goals as goal

pub put_fixed-requires : goal.put_fixed-requires
put_fixed-requires g c =
    let text = c.as_bytes.ensures.value ∙ c.format.ensures.text ∙ text_of c.args.number c.ranges.number in
    (search rules, omega (arith, ap length text, length-append (numeral c.args.number) (c.args.sep ∷ []), c.requires))

pub push-requires : goal.push-requires
push-requires g c =
    let text = c.as_bytes.ensures.value ∙ c.format.ensures.text ∙ text_of c.args.number c.ranges.number in
    (search rules, omega (arith, ap length text, ap length c.put_fixed.ensures, length-append c.args.out.now.items c.as_bytes.result.now, length-append (numeral c.args.number) (c.args.sep ∷ []), c.requires))

pub returns : goal.returns
returns g c =
    let text = c.as_bytes.ensures.value ∙ c.format.ensures.text ∙ text_of c.args.number c.ranges.number in
    rw (c.push.ensures.items, c.put_fixed.ensures, text) refl
