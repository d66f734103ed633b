use Rattle.std.proofs.Common.{None, bit_and}
use Rattle.slb_model.proofs.Buffers.{written_sound}
use Rattle.slb_model.proofs.slb.Slb.mte.Goals.{then-rb-eq-SLOT_VALID+in_ok-of_words, else-rb-eq-SLOT_VALID}
use Rattle.slb_model.proofs.slb.Slb.mte.Goals as goal

-- the new slot is in range, or invalid
pub invariant_of-self : goal.invariant_of-self
invariant_of-self c =
    elim c.if-rb-eq-SLOT_VALID.branch [
      | then-rb-eq-SLOT_VALID+in_ok-of_words w ↦ rw (w.self-is)
          (written_sound c.self.inside.slots (bit_and c.args.rb 4095) _ c.self.invariant
          w.in_ok-of_words.ensures.in_range)
      | else-rb-eq-SLOT_VALID w ↦ rw (w.self-is)
          (written_sound c.self.inside.slots (bit_and c.args.rb 4095) None c.self.invariant tt)
    ]
