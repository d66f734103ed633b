use Rattle.std.proofs.Common.{◌∙◌, ◌≡◌, true, ap, sym, bit_and}
use Rattle.std.proofs.lemmas.Bool.{false≢true}
use Rattle.hpte_fields.proofs.KeptBits.{protected_keeps_rc}
use Rattle.entry_model.specs.State.{State}
use Rattle.entry_model.proofs.answering.protected.Goals as goal

-- R and C of doubleword 1 stay clear, and the entry is valid.
pub invariant_of-next : goal.invariant_of-next
invariant_of-next c =
    let valid : c.before-2.inside.valid ≡ true = ap (λ (s : State). s.valid) c.before-2.view_is ∙
    c.requires in
    record {
      apart =
          ap (λ w. bit_and w 0x180) c.protected.ensures
          ∙ protected_keeps_rc _ c.args.flags
          ∙ c.before-2.invariant.apart;
      no_first = λ e. absurd (false≢true (sym e ∙ valid));
      no_second = λ e. absurd (false≢true (sym e ∙ valid));
      no_reference = λ e. absurd (false≢true (sym e ∙ valid));
      no_change = λ e. absurd (false≢true (sym e ∙ valid));
    }
