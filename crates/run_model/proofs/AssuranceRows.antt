-- Worked values of the claims, which the checker computes.
use Rattle.std.proofs.Common.{◌≡◌, ℕ, List, [], ◌∷◌, Bool, true, false, Some, None, refl, ap, arith}
use Rattle.std.specs.Option.{option_map_or}
use Rattle.power_addr.specs.Pages.{VirtualPage, virtual_page, tag_of}
use Rattle.frame_grants.specs.declared.grant.Kind.{Kind}
use Rattle.frame_grants.specs.declared.grant.Kind.TheVariants.{Ram}
use Rattle.frame_grants.specs.Grants.{GrantedMemory, machine_range}
use Rattle.papr_codes.specs.Hcalls.{row_of, hcall_of}
use Rattle.papr_codes.specs.declared.codes.Rc.TheVariants.{Success, Busy}
use Rattle.storage_prot.specs.declared.want.Want.TheVariants.{Load, Store}
use Rattle.storage_prot.specs.Protection.{permission, rows}
use Rattle.hpt_hash.specs.Hash.{group_of}
use Rattle.hpt_hash.specs.Entries.{page_at}
use Rattle.entry_model.specs.State.{State}
use Rattle.dma_window.specs.Pages.{is_ram}
use Rattle.entry_model.specs.declared.device_reply.DeviceOutcome.TheVariants.{At, Ungranted}
use Rattle.entry_model.specs.declared.operation.Op.{Op}
use Rattle.entry_model.specs.declared.operation.Op.TheVariants.{Remove, Read, ClearRef, ClearMod, Access}
use Rattle.entry_model.specs.declared.receipt.Receipt.{Receipt}
use Rattle.entry_model.specs.Receipt.{receipt_of}
use Rattle.entry_model.specs.Reply.{entered_state, has_base}
use Rattle.hpt_resize.specs.Rehash.{carried_page, target_of}
use Rattle.run_model.specs.QuietLines.{reply_of_code}
use Rattle.run_model.specs.Histories.{closing_states}
use Rattle.run_model.specs.Sections.{Section, section_end}
use Rattle.run_model.specs.ShownStores.{clears, stores, shows_changed, ShowsChange, StoresAreShown, carried_to, StaysShown}
use Rattle.run_model.specs.CommittedResizes.{commits_by}
use Rattle.run_model.specs.DeviceLandings.{IsDeviceLanding, DeviceLandsBy}
use Rattle.run_model.specs.Landings.{IsLanding}
use Rattle.papr_codes.specs.declared.calls.Hcall.TheVariants as calls
use Rattle.trace_line.specs.declared.act.Act.TheVariants as acts
use Rattle.authority_mask.specs.Authority.{no_masks, row_says, key_rows}

-- A bolted entry of the page of VSID 0x801 and index 1, at index 0 of a table of 2 ^ 18 bytes.
entry : Bool → State
entry changed =
    record {
      valid = true;
      dword0 = 0x801011;
      dword1 = 0x3012;
      referenced = true;
      changed = changed;
      stamp = 3;
    }

made : Bool → Op → Receipt
made changed op = receipt_of 0 (entry changed) op

-- A store to that page with protection bits 2.
store : Op
store = Access 0x801001 12 false false Store no_masks

-- ---- stores
stores_by_a_store : stores (made false store) ≡ true
unfolding made entry store has_base permission rows row_says key_rows
stores_by_a_store = refl

no_store_by_a_load : stores (made false (Access 0x801001 12 false false Load no_masks)) ≡ false
unfolding made entry
no_store_by_a_load = refl

-- Another page's store is no match.
no_store_elsewhere : stores (made false (Access 0x801081 12 false false Store no_masks)) ≡ false
unfolding made entry has_base
no_store_elsewhere = refl

removed_clears : clears (made true (Remove (record { avpn = None; andcond = None }))) ≡ true
unfolding made entry
removed_clears = refl

-- A removal whose test fails leaves the entry.
failed_removal :
    clears (made true (Remove (record { avpn = Some 0x801080; andcond = None }))) ≡ false
unfolding made entry
failed_removal = refl

clear_ref_keeps : clears (made true ClearRef) ≡ false
unfolding made entry
clear_ref_keeps = refl

-- ---- the reply that clears
-- C is in the second word of H_REMOVE, where the first has a bit of the same weight.
remove_shows_c : shows_changed calls.Remove (0x801091 ∷ 0x3092 ∷ []) 0 ≡ true
remove_shows_c = refl

remove_shows_no_c : shows_changed calls.Remove (0x801091 ∷ 0x3112 ∷ []) 0 ≡ false
remove_shows_no_c = refl

clear_mod_shows_c : shows_changed calls.ClearMod (0x3092 ∷ []) 0 ≡ true
clear_mod_shows_c = refl

bulk_shows_c : shows_changed calls.BulkRemove (0x8400000000000000 ∷ 0 ∷ []) 0 ≡ true
bulk_shows_c = refl

no_other_call : shows_changed calls.Protect (0x3092 ∷ []) 0 ≡ false
no_other_call = refl

-- ---- shown
-- After the receipt that clears it nothing is asked.
until_cleared : ShowsChange (made true Read ∷ made true ClearMod ∷ []) (entry false) ⊥
unfolding made entry
until_cleared = (refl, (refl, tt))

to_the_end : ShowsChange (made true Read ∷ []) (entry true) (Unit {0})
unfolding made entry
to_the_end = (refl, (refl, tt))

-- A receipt in which C is gone.
gone_between : ShowsChange (made false Read ∷ []) (entry true) (Unit {0}) → ⊥
unfolding made entry
gone_between h = let no : false ≡ true = h.0 in cc

gone_at_the_end : StoresAreShown (made false store ∷ []) (entry false) (Unit {0}) → ⊥
unfolding made entry store has_base permission rows row_says key_rows
gone_at_the_end h = let no : false ≡ true = h.0.0 in cc

-- A load asks nothing.
nothing_asked : StoresAreShown (made false Read ∷ []) (entry false) ⊥
unfolding made entry
nothing_asked = (tt, tt)

-- ---- from section to section
-- A section without lines on a table of this order and number.
section : ℕ → ℕ → List State → Section
section order number states = record {
  before = record {
    grants = [];
    window = None;
    memory = record {
      limit = 22;
      pool = record { base = 0x1000000000; order = 20; taken = [] };
      pending = None;
      table = record { order = order; place = 0x1000000000; number = number; states = states };
    };
    processors = [];
  };
  replied_lines = [];
  quiet = None;
}

in_the_same_table :
    carried_to (section 18 0 (entry true ∷ [])) (section 18 0 (entry true ∷ [])) 0 ≡ Some 0
unfolding section
in_the_same_table = refl

-- The hash of the page is 0x800: group 0 of 0x800, and 0x800 of 0x1000.
in_a_larger_table : carried_to (section 18 0 (entry true ∷ [])) (section 19 1 []) 0 ≡ Some 0x4000
unfolding section entry section_end closing_states target_of carried_page page_at group_of tag_of
in_a_larger_table = refl

not_bolted :
    carried_to (section 18 0 (record (entry true) { dword0 = 0x801001 } ∷ [])) (section 19 1 []) 0
    ≡ None
unfolding section entry section_end closing_states target_of carried_page
not_bolted = refl

-- A table without the entry would lose the store; where the entry was not carried nothing is asked.
lost_by_a_resize : StaysShown (section 18 0 (entry true ∷ [])) 0 (section 19 1 [] ∷ []) → ⊥
unfolding section entry section_end closing_states target_of carried_page page_at group_of tag_of
lost_by_a_resize h = let no : false ≡ true = h.0 in cc

dropped_by_a_resize :
    StaysShown (section 18 0 (record (entry true) { dword0 = 0x801001 } ∷ [])) 0
    (section 19 1 [] ∷ [])
unfolding section entry section_end closing_states target_of carried_page
dropped_by_a_resize = tt

-- ---- commits
committed : commits_by (acts.Call 0x370 (0 ∷ 19 ∷ []) false) (reply_of_code Success) ≡ true
unfolding hcall_of row_of
committed = refl

refused : commits_by (acts.Call 0x370 (0 ∷ 19 ∷ []) false) (reply_of_code Busy) ≡ false
unfolding hcall_of row_of
refused = refl

prepared : commits_by (acts.Call 0x36C (0 ∷ 19 ∷ []) false) (reply_of_code Success) ≡ false
unfolding hcall_of row_of
prepared = refl

-- ---- landings
-- The store at 0x1234 of its page: the frame is 0x3000, and the grant begins at machine address
-- 0x2000000000.
granted : GrantedMemory
granted = record {
  pool_base = 0x1000000000;
  pool_order = 24;
  grants = record { logical = 0; machine = 0x2000000000; length = 0x10000; kind = Ram } ∷ [];
}

page : VirtualPage
page = virtual_page false 0x801 12 1

lands : IsLanding granted 18 0x1234 page (made true store) 0x2000003234
unfolding granted page made entry store has_base permission rows row_says key_rows machine_range
    tag_of group_of
lands = record {
  allowed = refl;
  of_page = record { valid = refl; tag = refl; size = refl; segment = refl; group = refl };
  kind = Ram;
  in_grant = refl;
  off_pool = λ inside. absurd (omega (arith, inside.to_end));
}

-- Another byte of the same grant.
lands_elsewhere : IsLanding granted 18 0x1234 page (made true store) 0x2000003235 → ⊥
unfolding granted page made entry store has_base permission rows row_says key_rows machine_range
lands_elsewhere h = let no :
    0x2000003234 ≡ 0x2000003235 =
    ap (λ x. option_map_or (λ (y : ℕ × Kind). y.0) x 0) h.in_grant in absurd (omega (arith, no))

-- The entry is none of the next page.
lands_by_another_page :
    IsLanding granted 18 0x1234 (virtual_page false 0x801 12 2) (made true store) 0x2000003234 → ⊥
unfolding made entry store group_of
lands_by_another_page h = let no : 3 ≡ 0 = h.of_page.group in absurd (omega (arith, no))

-- ---- devices
-- A read of the entry whose TCE permits reads of the page at 0x3000.
read_tce : Receipt
read_tce = receipt_of 1 (record (entered_state 0x09 0x3010) { stamp = 1 }) Read

device_lands : IsDeviceLanding granted false 0x10234 read_tce 0x2000003234
unfolding granted read_tce is_ram machine_range
device_lands = record {
  permitted = refl;
  in_ram = refl;
  in_grant = refl;
  off_pool = λ inside. absurd (omega (arith, inside.to_end));
}

-- The entry's TCE permits no write, so by it no write of a device lands.
no_write_by_it : IsDeviceLanding granted true 0x10234 read_tce 0x2000003234 → ⊥
unfolding read_tce
no_write_by_it h = let no : false ≡ true = h.permitted in cc

device_lands_elsewhere : IsDeviceLanding granted false 0x10234 read_tce 0x2000003235 → ⊥
unfolding granted read_tce machine_range
device_lands_elsewhere h = let no :
    0x2000003234 ≡ 0x2000003235 =
    ap (λ x. option_map_or (λ (y : ℕ × Kind). y.0) x 0) h.in_grant in absurd (omega (arith, no))

-- None ends outside the grants, and none lands without a receipt.
never_ungranted : DeviceLandsBy granted false 0x10234 (Ungranted 0x3234) (read_tce ∷ []) → ⊥
never_ungranted h = h

never_without_receipt : DeviceLandsBy granted false 0x10234 (At 0x2000003234) [] → ⊥
never_without_receipt h = h
