-- `register::rtk_fresh`: refused by the length alone; otherwise every byte is 0.
-- Assumes nothing.
use Rattle.register.proofs.Ways.{fresh_refused, fresh_done}
use borrow.Author.Rules.{rules}
use Rattle.register.proofs.rtk_fresh.Goals as goal

pub returns-then-register-ne-REGISTER : goal.returns-then-register-ne-REGISTER
returns-then-register-ne-REGISTER c = search (fresh_refused, rules)

pub returns : goal.returns
returns c = search (fresh_done, rules)
