-- Each line of a partition that shares its pool is answered as it would be with the pool to itself,
-- except for the place in a dump, until a PREPARE is refused for lack of room.
use Rattle.std.specs.Prelude.{slice_index}
use Rattle.std.proofs.Common.{◌≡◌, ℕ, true, false, List, refl, inl, inr, ◌⊎◌, subst, sym}
use Rattle.std.proofs.lemmas.Bool.{cases_Bool}
use Rattle.papr_codes.specs.Hcalls.{hcall_of}
use Rattle.papr_codes.specs.declared.calls.Hcall.{Hcall}
use Rattle.papr_codes.specs.declared.calls.Hcall.TheVariants as calls
use Rattle.papr_codes.specs.declared.codes.Rc.{Rc}
use Rattle.papr_codes.specs.declared.codes.Rc.TheVariants as rc
use Rattle.hpt_pool.specs.Pool.{PoolState, IsSound}
use Rattle.hpt_resize.specs.TableMemory.{TableMemory, prepare_result, commit_result}
use Rattle.trace_line.specs.declared.act.Act.{Act}
use Rattle.trace_line.specs.declared.act.Act.TheVariants as acts
use Rattle.trace_line.specs.declared.line.TraceLine.{TraceLine}
use Rattle.trace_line.specs.Lines.{is_quiet}
use Rattle.run_model.specs.Processors.{processor_at}
use Rattle.run_model.specs.Stores.{Store, context_of, states_of}
use Rattle.run_model.specs.QuietLines.{reply_of_code, after_prepare, run_resize, run_quiet_line}
use Rattle.run_model.specs.SerialRun.{line_result, run_on}
use Rattle.lpar_set.specs.SetLaws.{is_no_mem}
use Rattle.lpar_set.proofs.RunKept.{HoldsBlocks}
use Rattle.lpar_set.proofs.LoneBlocks.{IsAlone}
use Rattle.lpar_set.proofs.RoomToo.{room_too}
use Rattle.lpar_set.proofs.Moved.{moved_memory, moved, IsLikeAfter, IsLikeMemory, result_like, answer_like, dump_like, commit_like, committed_like}
use Rattle.lpar_set.proofs.MovedPrepare.{prepare_like}

-- The one run holds its blocks in a sound pool, and the other one, whose blocks lie elsewhere, has
-- its pool to itself; the pools are of one order.
pub record MayDiffer (v : Store) (pool : PoolState) (place other : ℕ) : Type 0 where
  pub sound : IsSound v.memory.pool
  pub held : HoldsBlocks v
  pub alone : IsAlone (moved_memory v.memory pool place other)
  pub order : pool.order ≡ v.memory.pool.order

prepared_like :
    (v : Store) (pool : PoolState) (place other : ℕ) (x y : Rc × TableMemory)
    → IsLikeMemory x y
    → IsLikeAfter (after_prepare v x) (after_prepare (moved v pool place other) y)
prepared_like v pool place other x y like =
    subst
    (λ (z : Rc × TableMemory).
    IsLikeAfter (after_prepare v x) (after_prepare (moved v pool place other) z))
    (sym like.same)
    (record {
      reply = refl;
      pool = like.pool;
      place = like.place;
      other = like.other;
      state = refl;
    })

resize_like :
    (v : Store) (pool : PoolState) (place other : ℕ) (call : Hcall) (args : List ℕ)
    → MayDiffer v pool place other
    → is_no_mem (run_resize v call args).0 ≡ false
    → IsLikeAfter (run_resize v call args) (run_resize (moved v pool place other) call args)
unfolding run_resize
resize_like v pool place other calls.Prepare args may served =
    let flags = slice_index args 0 in
    let shift = slice_index args 1 in
    let alone = moved_memory v.memory pool place other in
    let room = room_too v.memory alone may.sound may.held may.alone may.order refl in
    prepared_like v pool place other (prepare_result v.memory flags shift)
    (prepare_result alone flags shift)
    (prepare_like v.memory pool place other flags shift room served)
resize_like v pool place other calls.Commit args may served =
    let flags = slice_index args 0 in
    let shift = slice_index args 1 in
    committed_like v pool place other (commit_result v.memory flags shift)
    (commit_result (moved_memory v.memory pool place other) flags shift)
    (commit_like v.memory pool place other flags shift)
resize_like v pool place other call args may served =
    answer_like v pool place other (reply_of_code rc.Function)

quiet_like :
    (v : Store) (pool : PoolState) (place other : ℕ) (act : Act)
    → MayDiffer v pool place other
    → is_no_mem (run_quiet_line v act).0 ≡ false
    → IsLikeAfter (run_quiet_line v act) (run_quiet_line (moved v pool place other) act)
unfolding run_quiet_line
quiet_like v pool place other (acts.Call number args spelt) may served =
    resize_like v pool place other (hcall_of number) args may served
quiet_like v pool place other act may served = dump_like v pool place other

pub line_like :
    (v : Store) (pool : PoolState) (place other : ℕ) (l : TraceLine)
    → MayDiffer v pool place other
    → is_no_mem (run_on v l).0 ≡ false
    → IsLikeAfter (run_on v l) (run_on (moved v pool place other) l)
unfolding run_on
line_like v pool place other l may = at (cases_Bool (is_quiet l.act)) where
  at :
      (is_quiet l.act ≡ true) ⊎ (is_quiet l.act ≡ false)
      → is_no_mem (run_on v l).0 ≡ false
      → IsLikeAfter (run_on v l) (run_on (moved v pool place other) l)
  at (inl quiet) = rw quiet (quiet_like v pool place other l.act may)
  at (inr loud) =
      rw loud
      (λ served.
      result_like v pool place other l
      (line_result (context_of v) (processor_at v.processors l.cpu) (states_of v) l.act))
