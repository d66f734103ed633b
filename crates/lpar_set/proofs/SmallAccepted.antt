-- The set of worked values is an accepted one, so that what is promised of accepted sets is
-- promised of some.
use Rattle.std.proofs.Common.{◌≡◌, ℕ, zero, suc, ◌<◌, List, [], ◌∷◌, false, map, length, refl, arith}
use Rattle.std.specs.List.{AllPairs, All, range_with_len}
use Rattle.std.proofs.lemmas.List.Elements.{All-from_recursion, All-nil}
use Rattle.std.proofs.lemmas.List.Kept.{AllPairs-cons}
use Rattle.papr_codes.specs.Hcalls.{hcall_of, row_of}
use Rattle.frame_grants.specs.declared.grant.Grant.{Grant}
use Rattle.frame_grants.specs.Grants.{GrantedMemory, IsPlaced, IsSound, meets_logical, meets_machine, meets_pool}
use Rattle.pool_range.specs.Ranges.{IsPoolRange}
use Rattle.hpt_pool.specs.Pool.{no_blocks, lowest_place, multiples, taken_with}
use Rattle.trace_line.specs.declared.line.TraceLine.{TraceLine}
use Rattle.trace_line.specs.Lines.{IsTrace, is_quiet}
use Rattle.lpar_set.specs.declared.turn.Turn.{Turn}
use Rattle.lpar_set.specs.OpeningTables.{HasRoomFor}
use Rattle.lpar_set.specs.SetTrace.{IsOfSet, partition_at, turns_of}
use Rattle.lpar_set.proofs.SmallSet.{storage, storage_at, small_partition, lower_lines, higher_lines, small_set}

-- ---- the pool and the grants
pool : IsPoolRange 0x1000000000 19
pool =
    record { at_least = omega arith; at_most = omega arith; aligned = refl; to_end = omega arith }

-- A list of one has no two elements.
alone : {A : Type 0} (R : A → A → Type 0) (x : A) → AllPairs R (x ∷ [])
alone R x =
    AllPairs-cons R x [] (All-nil (R x)) (λ i j d less inside. absurd (omega (arith, inside)))

only : {A : Type 0} (P : A → Type 0) (x : A) → P x → All P (x ∷ [])
only P x h = All-from_recursion P (x ∷ []) (h, tt)

abbrev granted_at : ℕ → GrantedMemory
granted_at machine =
    record { pool_base = 0x1000000000; pool_order = 19; grants = storage_at machine }

-- A grant that is aligned, ends below the top and does not meet the pool.
sound :
    (machine : ℕ)
    → IsPlaced (storage machine)
    → meets_pool (granted_at machine) (storage machine) ≡ false
    → IsSound (granted_at machine)
sound machine placed off = record {
  pool = pool;
  apart = record {
    placed = only IsPlaced (storage machine) placed;
    rising = alone (λ (lower higher : Grant). lower.logical < higher.logical) (storage machine);
    logical_apart =
        alone (λ (lower higher : Grant). meets_logical lower higher ≡ false) (storage machine);
    machine_apart =
        alone (λ (lower higher : Grant). meets_machine lower higher ≡ false) (storage machine);
    off_pool =
        only (λ (g : Grant). meets_pool (granted_at machine) g ≡ false) (storage machine) off;
  };
}

-- ---- the partitions
of_set :
    (number machine : ℕ) (lines : List TraceLine)
    → number < 8
    → IsPlaced (storage machine)
    → meets_pool (granted_at machine) (storage machine) ≡ false
    → IsTrace 1 lines
    → IsOfSet 0x1000000000 19 (small_partition number machine lines)
of_set number machine lines few placed off is = record {
  number = few;
  accepted = record {
    configured = record {
      settings =
          record {
            at_least = omega arith;
            within = omega arith;
            at_most = omega arith;
            some = omega arith;
            few = omega arith;
            base = refl;
            size = refl;
          };
      room = omega arith;
    };
    sound = sound machine placed off;
    entries = record { each = tt; rising = tt };
    windows = record { each = tt; few = omega arith; differ = tt };
    lines = is;
  };
  base = refl;
  order = refl;
  empty = refl;
  windows = refl;
}

lower_trace : IsTrace 1 lower_lines
unfolding is_quiet hcall_of row_of
lower_trace =
    record {
      on_cpus = (omega arith, (omega arith, (omega arith, tt)));
      spelt = (tt, ((λ _. refl), ((λ _. refl), tt)));
      few = omega arith;
      few_quiet = omega arith;
      few_dumps = omega arith;
    }

higher_trace : IsTrace 1 higher_lines
unfolding is_quiet hcall_of row_of
higher_trace =
    record {
      on_cpus = (omega arith, (omega arith, (omega arith, (omega arith, tt))));
      spelt = (tt, ((λ _. refl), (tt, (tt, tt))));
      few = omega arith;
      few_quiet = omega arith;
      few_dumps = omega arith;
    }

lower : IsOfSet 0x1000000000 19 (small_partition 2 0x2000000000 lower_lines)
lower =
    of_set 2 0x2000000000 lower_lines (omega arith)
    (record {
      has_bytes = omega arith;
      logical_aligned = refl;
      machine_aligned = refl;
      length_aligned = refl;
      logical_end = omega arith;
      machine_end = omega arith;
    }) refl lower_trace

higher : IsOfSet 0x1000000000 19 (small_partition 5 0x3000000000 higher_lines)
higher =
    of_set 5 0x3000000000 higher_lines (omega arith)
    (record {
      has_bytes = omega arith;
      logical_aligned = refl;
      machine_aligned = refl;
      length_aligned = refl;
      logical_end = omega arith;
      machine_end = omega arith;
    }) refl higher_trace

-- ---- the set

room : HasRoomFor (no_blocks 0x1000000000 19) (18 ∷ 18 ∷ [])
unfolding lowest_place multiples taken_with
room = ((λ none. cc), ((λ none. cc), tt))

lines :
    (k : ℕ)
    → k < 2
    → map (λ (t : Turn). t.line) (turns_of k small_set.turns)
    ≡ range_with_len 0 (length (partition_at small_set k).trace.lines)
lines zero inside = refl
lines (suc zero) inside = refl
lines (suc (suc k)) inside = absurd (omega (arith, inside))
