-- What a line of a partition leaves of what its run carries.
use Rattle.std.specs.Prelude.{slice_index}
use Rattle.std.proofs.Common.{◌≡◌, ℕ, true, false, List, length, refl, inl, inr, ◌⊎◌}
use Rattle.std.proofs.lemmas.Bool.{cases_Bool}
use Rattle.papr_codes.specs.Hcalls.{hcall_of}
use Rattle.papr_codes.specs.declared.calls.Hcall.{Hcall}
use Rattle.papr_codes.specs.declared.calls.Hcall.TheVariants as calls
use Rattle.entry_model.specs.State.{State}
use Rattle.hpt_resize.specs.TableMemory.{prepare_result, commit_result}
use Rattle.trace_line.specs.declared.act.Act.{Act}
use Rattle.trace_line.specs.declared.act.Act.TheVariants as acts
use Rattle.trace_line.specs.declared.line.TraceLine.{TraceLine}
use Rattle.trace_line.specs.Lines.{is_quiet}
use Rattle.trace_reply.specs.declared.reply.Reply.{Reply}
use Rattle.run_model.specs.Processors.{processor_at}
use Rattle.run_model.specs.Stores.{Store, context_of, states_of}
use Rattle.run_model.specs.QuietLines.{run_resize, run_quiet_line}
use Rattle.run_model.specs.SerialRun.{line_result, with_result, run_on}
use Rattle.run_model.proofs.LinesByProcessor.{processors_size}
use Rattle.run_model.proofs.SectionGood.{quiet_size}
use Rattle.partition.proofs.PoolKept.{same_pool}
use Rattle.lpar_set.proofs.BlocksApart.{AreHeld, same_replaces}
use Rattle.lpar_set.proofs.CallBlocks.{MovesMemory, memory_blocks, same_moves, prepare_moves, commit_moves}

-- The blocks of the pool that a run holds are taken, and begin apart.
abbrev pub HoldsBlocks : Store → Type 0
HoldsBlocks w = AreHeld w.memory.pool.taken (memory_blocks w.memory)

-- What stays the same, and what moves.
pub record KeepsRun (w after : Store) : Type 0 where
  pub grants : after.grants ≡ w.grants
  pub limit : after.memory.limit ≡ w.memory.limit
  pub processors : length after.processors ≡ length w.processors
  pub moves : MovesMemory w.memory after.memory

-- ---- a line that isn't quiet
result_keeps :
    (w : Store) (l : TraceLine) (x : Reply × List State)
    → HoldsBlocks w
    → KeepsRun w (with_result w l x).1
result_keeps w l x all = record {
  grants = refl;
  limit = refl;
  processors = processors_size w.processors (record { line = l; reply = x.0 });
  moves =
      record {
        pools = same_pool w.memory.pool;
        blocks = same_replaces w.memory.pool.taken (memory_blocks w.memory) all;
      };
}

-- ---- a quiet line
-- All but the count of processors.
record KeepsAtMemory (w after : Store) : Type 0 where
  grants : after.grants ≡ w.grants
  limit : after.memory.limit ≡ w.memory.limit
  moves : MovesMemory w.memory after.memory

same_memory : (w : Store) → HoldsBlocks w → KeepsAtMemory w w
same_memory w all =
    record {
      grants = refl;
      limit = refl;
      moves = same_moves w.memory.table w.memory.pending w.memory.pool all;
    }

prepare_limit :
    (w : Store) (flags shift : ℕ) → (prepare_result w.memory flags shift).1.limit ≡ w.memory.limit
unfolding prepare_result
prepare_limit w flags shift = refl

commit_limit :
    (w : Store) (flags shift : ℕ) → (commit_result w.memory flags shift).1.limit ≡ w.memory.limit
unfolding commit_result
commit_limit w flags shift = refl

resize_keeps :
    (w : Store) (call : Hcall) (args : List ℕ)
    → HoldsBlocks w
    → KeepsAtMemory w (run_resize w call args).1
unfolding run_resize
resize_keeps w calls.Prepare args all =
    record {
      grants = refl;
      limit = prepare_limit w (slice_index args 0) (slice_index args 1);
      moves = prepare_moves w.memory (slice_index args 0) (slice_index args 1) all;
    }
resize_keeps w calls.Commit args all =
    record {
      grants = refl;
      limit = commit_limit w (slice_index args 0) (slice_index args 1);
      moves = commit_moves w.memory (slice_index args 0) (slice_index args 1) all;
    }
resize_keeps w other args all = same_memory w all

quiet_keeps : (w : Store) (act : Act) → HoldsBlocks w → KeepsAtMemory w (run_quiet_line w act).1
unfolding run_quiet_line
quiet_keeps w (acts.Call number args spelt) all = resize_keeps w (hcall_of number) args all
quiet_keeps w other all = same_memory w all

quiet_run : (w : Store) (act : Act) → HoldsBlocks w → KeepsRun w (run_quiet_line w act).1
quiet_run w act all =
    let kept = quiet_keeps w act all in
    record {
      grants = kept.grants;
      limit = kept.limit;
      processors = quiet_size w act;
      moves = kept.moves;
    }

-- ---- each line
pub line_keeps_run : (w : Store) (l : TraceLine) → HoldsBlocks w → KeepsRun w (run_on w l).1
unfolding run_on
line_keeps_run w l all = at (cases_Bool (is_quiet l.act)) where
  at : (is_quiet l.act ≡ true) ⊎ (is_quiet l.act ≡ false) → KeepsRun w (run_on w l).1
  at (inl quiet) = rw quiet (quiet_run w l.act all)
  at (inr loud) =
      rw loud
      (result_keeps w l
      (line_result (context_of w) (processor_at w.processors l.cpu) (states_of w) l.act)
      all)
