-- Worked values, which the checker computes.
use Rattle.entry_model.specs.Reply.{access_mode}
use Rattle.std.proofs.Common.{◌≡◌, ℕ, true, false, refl}
use Rattle.power_addr.specs.Pages.{virtual_page, tag_of}
use Rattle.entry_model.specs.State.{State}
use Rattle.entry_model.specs.declared.operation.Op.TheVariants.{Access}
use Rattle.storage_prot.specs.declared.want.Want.TheVariants.{Load}
use Rattle.hpt_walk.specs.Access.{logical_of}
use Rattle.hpt_walk.specs.Walk.{access_op}
use Rattle.authority_mask.specs.Authority.{no_masks}

state_of : ℕ → ℕ → State
state_of dword0 dword1 =
    record {
      valid = true;
      dword0 = dword0;
      dword1 = dword1;
      referenced = false;
      changed = false;
      stamp = 1;
    }

-- ---- addresses: a page of 4 KB, of 64 KB, of 16 MB and of 16 GB
in_4_kb : logical_of 0x5123 (state_of 0x1001 0x3012) ≡ 0x3123
unfolding state_of
in_4_kb = refl

in_64_kb : logical_of 0x5123456 (state_of 0x1005 0x11012) ≡ 0x13456
unfolding state_of
in_64_kb = refl

in_16_mb : logical_of 0x5123456 (state_of 0x1505 0x3000012) ≡ 0x3123456
unfolding state_of
in_16_mb = refl

in_16_gb : logical_of 0x1234567890 (state_of 0x1005 0x800003012) ≡ 0xA34567890
unfolding state_of
in_16_gb = refl

-- ---- the operation: page 5 of 4 KB in the segment 1 of 256 MB
primary :
    access_op (virtual_page false 1 12 5) (access_mode true false Load no_masks) false
    ≡ Access 0x1001 12 true false Load no_masks
unfolding tag_of
primary = refl

secondary :
    access_op (virtual_page false 1 12 5) (access_mode true false Load no_masks) true
    ≡ Access 0x1003 12 true false Load no_masks
unfolding tag_of
secondary = refl
