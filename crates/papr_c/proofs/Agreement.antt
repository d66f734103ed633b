-- A probe and a walk of the same entries find the same, except for R and C.
use Rattle.std.specs.Prelude.{if◌then◌else◌}
use Rattle.std.specs.Option.{option_map_or}
use Rattle.std.proofs.Common.{◌≡◌, ℕ, Bool, true, false, Option, Some, None, refl, ap, sym, ◌∙◌, ◌⊎◌, inl, inr, bit_and, bit_or}
use Rattle.std.specs.Int.Bits.{or_zero_r}
use Rattle.std.proofs.lemmas.Bool.{cases_Bool}
use Rattle.storage_prot.specs.declared.want.Want.{Want}
use Rattle.power_addr.specs.Pages.{VirtualPage}
use Rattle.page_sizes.specs.declared.size.PageSize.{PageSize}
use Rattle.page_sizes.specs.Sizes.{size_of}
use Rattle.hpte_fields.specs.Fields.{with_rc, without_rc}
use Rattle.hpte_fields.proofs.Masks.{mask_of_or}
use Rattle.entry_model.specs.State.{State, OnlyRaisesBits}
use Rattle.entry_model.specs.declared.receipt.Receipt.{Receipt}
use Rattle.entry_model.specs.Receipt.{after_of, is_access, found_of}
use Rattle.entry_model.proofs.OperationLaws.{access_further}
use Rattle.c_layout.specs.declared.walking.PaprAccess.{PaprAccess}
use Rattle.c_layout.specs.Tables.{is_table}
use Rattle.c_layout.specs.WalkEnds.{walk_end, end_at}
use Rattle.papr_c.specs.Walks.{Agree, WalkMemory, walk_run, walk_where, probe_where, outcome_of_walk, outcome_of_probe}
use Rattle.c_layout.specs.Accesses.{page_of, want_of}
use Rattle.papr_c.proofs.FoundAsIs.{found_access}

-- ---- R and C apart
no_referenced : (b : Bool) → bit_and (if b then 0x100 else 0) 0xFFFFFFFFFFFFFE7F ≡ 0
no_referenced true = refl
no_referenced false = refl

no_changed : (b : Bool) → bit_and (if b then 0x80 else 0) 0xFFFFFFFFFFFFFE7F ≡ 0
no_changed true = refl
no_changed false = refl

-- A doubleword has the same other bits with each R and C.
other_bits :
    (dword1 : ℕ) (referenced changed : Bool)
    → without_rc (with_rc dword1 referenced changed) ≡ without_rc dword1
other_bits dword1 referenced changed =
    mask_of_or (bit_or dword1 (if referenced then 0x100 else 0)) (if changed then 0x80 else 0)
    0xFFFFFFFFFFFFFE7F
    ∙ ap (bit_or (bit_and (bit_or dword1 (if referenced then 0x100 else 0)) 0xFFFFFFFFFFFFFE7F))
    (no_changed changed)
    ∙ or_zero_r (bit_and (bit_or dword1 (if referenced then 0x100 else 0)) 0xFFFFFFFFFFFFFE7F)
    ∙ mask_of_or dword1 (if referenced then 0x100 else 0) 0xFFFFFFFFFFFFFE7F
    ∙ ap (bit_or (bit_and dword1 0xFFFFFFFFFFFFFE7F)) (no_referenced referenced)
    ∙ or_zero_r (bit_and dword1 0xFFFFFFFFFFFFFE7F)

-- ---- by the entry that was found
agree_at :
    (a : PaprAccess) (want : Want) (r : Receipt) (now : State) (receipts : ℕ)
    → OnlyRaisesBits r.before now
    → Agree (end_at a want r now receipts) (end_at a want r r.before 0)
agree_at a want r now receipts raised =
    let sizes : size_of r.before.dword0 r.before.dword1 ≡ size_of now.dword0 now.dword1 = λ i.
    size_of (sym raised.dword0 i) (sym raised.dword1 i) in
    record {
      logical = refl;
      entry = refl;
      outcome = refl;
      causes = refl;
      base_shift = ap (λ o. option_map_or (λ (size : PageSize). size.base) o 0) sizes;
      actual_shift = ap (λ o. option_map_or (λ (size : PageSize). size.actual) o 0) sizes;
      dword0 = sym raised.dword0;
      dword1 =
          other_bits r.before.dword1 r.before.referenced r.before.changed
          ∙ ap without_rc (sym raised.dword1)
          ∙ sym (other_bits now.dword1 now.referenced now.changed);
    }

agree_found :
    (a : PaprAccess) (want : Want) (found : Option Receipt) (receipts : ℕ)
    → ((r : Receipt) → found ≡ Some r → is_access r.op ≡ true)
    → Agree (walk_end after_of a want found receipts) (walk_end (λ r. r.before) a want found 0)
agree_found a want None receipts all = record {
  logical = refl;
  entry = refl;
  outcome = refl;
  causes = refl;
  base_shift = refl;
  actual_shift = refl;
  dword0 = refl;
  dword1 = refl;
}
agree_found a want (Some r) receipts all =
    agree_at a want r (after_of r) receipts (access_further r.before r.op (all r refl))

-- ---- by the arguments
agree_refused :
    (order : ℕ) (a : PaprAccess) (m : WalkMemory) (page : Option VirtualPage) (want : Option Want)
    → Agree (walk_where page want order a m).0 (probe_where page want order a m.entries)
agree_refused order a m (Some page) (Some want) =
    agree_found a want (found_of (walk_run order a page want m.entries).0) _
    (λ r e. found_access order a page want m.entries r e)
agree_refused order a m (Some page) None =
    record {
      logical = refl;
      entry = refl;
      outcome = refl;
      causes = refl;
      base_shift = refl;
      actual_shift = refl;
      dword0 = refl;
      dword1 = refl;
    }
agree_refused order a m None want =
    record {
      logical = refl;
      entry = refl;
      outcome = refl;
      causes = refl;
      base_shift = refl;
      actual_shift = refl;
      dword0 = refl;
      dword1 = refl;
    }

pub probes_agree :
    (order : ℕ) (a : PaprAccess) (m : WalkMemory)
    → Agree (outcome_of_walk order a m).0 (outcome_of_probe order a m.entries)
probes_agree order a m = at (cases_Bool (is_table order m.entries)) where
  at :
      (is_table order m.entries ≡ true) ⊎ (is_table order m.entries ≡ false)
      → Agree (outcome_of_walk order a m).0 (outcome_of_probe order a m.entries)
  at (inl fit) = rw fit (agree_refused order a m (page_of a) (want_of a.want))
  at (inr other) =
      rw other
      (record {
        logical = refl;
        entry = refl;
        outcome = refl;
        causes = refl;
        base_shift = refl;
        actual_shift = refl;
        dword0 = refl;
        dword1 = refl;
      })
