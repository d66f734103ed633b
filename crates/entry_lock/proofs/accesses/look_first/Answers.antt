use Rattle.std.proofs.Common.{sym, ap, ◌∙◌, inl}
use Rattle.lock_core.specs.declared.control.Control.{Control}
use Rattle.entry_lock.proofs.ViewChanges.{shut_bit_is}
use Rattle.entry_lock.proofs.accesses.look_first.Goals as goal

pub returns-then-control-clause-cause : goal.returns-then-control-clause-cause
returns-then-control-clause-cause c = let t = c.look-found.ensures.told in
    inl
    (shut_bit_is c.look-found.result t.0 t.1
    ∙ ap (λ (k : Control). k.shut) (sym (c.control_of-control.ensures.means t.0 t.1))
    ∙ c.if-control.true)
