-- What a processor on its own may answer: two processors at one entry, whose calls come in the
-- entry's history in another order than in the file.
use Rattle.std.proofs.Common.{◌≡◌, ℕ, List, [], ◌∷◌, true, false, refl, ◌≤◌, arith}
use Rattle.papr_codes.specs.Hcalls.{hcall_of, row_of}
use Rattle.papr_codes.specs.declared.codes.Rc.TheVariants.{Success}
use Rattle.entry_model.specs.Fronts.{opening_fronts, fronts_after}
use Rattle.entry_model.specs.History.{history, place, pair_of, state_eq}
use Rattle.entry_model.proofs.FrontLaws.{one_keeps}
use Rattle.entry_model.specs.Receipt.{receipt_of}
use Rattle.entry_model.specs.State.{State, empty_state}
use Rattle.entry_model.specs.declared.receipt.Receipt.{Receipt}
use Rattle.call_plan.specs.Single.{h_read_plan}
use Rattle.tlb_model.specs.Processor.{new_processor}
use Rattle.trace_line.specs.declared.act.Act.TheVariants.{Call}
use Rattle.run_model.specs.LineReplies.{hcall_plan}
use Rattle.run_model.specs.Histories.{receipts_from_processor}
use Rattle.trace_reply.specs.Replies.{RepliedLine}
use Rattle.run_model.specs.Stores.{context_of, states_of}
use Rattle.run_model.specs.ParallelRun.{WorksLine}
use Rattle.run_model.proofs.SmallPartition.{small}
use Rattle.entry_model.specs.declared.operation.Op.TheVariants as ops
use Rattle.trace_reply.specs.declared.reply.Reply.TheVariants as replies

-- The entry 0 with the page of VSID 1.
abbrev present : State
present =
    record {
      valid = true;
      dword0 = 0x1001;
      dword1 = 0x3012;
      referenced = false;
      changed = false;
      stamp = 1;
    }

-- The receipt of the H_ENTER that entered it.
abbrev pub entered : Receipt
entered = receipt_of 0 (empty_state 0) (ops.Enter 0x1001 0x3012)

abbrev read : State → Receipt
read before = receipt_of 0 before ops.Read

-- Line 5, by processor 0: H_READ of the entry 0, with these words.
abbrev reading : State → List ℕ → RepliedLine
reading before words = record {
  line = record { number = 5; cpu = 0; act = Call 0x0C (0 ∷ 0 ∷ 0 ∷ 0 ∷ 0 ∷ 0 ∷ 0 ∷ 0 ∷ []) true };
  reply = replies.Hcall (record { rc = Success; words = words; receipts = read before ∷ [] });
}

-- Line 6, by processor 1: H_ENTER of the entry 0.
abbrev entering : RepliedLine
entering = record {
  line =
      record {
        number = 6;
        cpu = 1;
        act = Call 0x08 (0x8000000000 ∷ 0 ∷ 0x1001 ∷ 0x3012 ∷ 0 ∷ 0 ∷ 0 ∷ 0 ∷ []) true;
      };
  reply = replies.Hcall (record { rc = Success; words = 0 ∷ []; receipts = entered ∷ [] });
}

abbrev fronts : List ℕ
fronts = opening_fronts (states_of (small 2))

-- The read of line 5 may find what line 6 entered, and its processor's front is the entry's pair
-- then.
reads_what_line_6_entered :
    WorksLine (context_of (small 2)) fronts new_processor (reading present (0x1001 ∷ 0x3012 ∷ []))
    (fronts_after fronts (read present))
unfolding hcall_plan hcall_of row_of h_read_plan pair_of
reads_what_line_6_entered = record {
  call = record { trial = (record { entry = refl; op = refl }, tt); told = refl };
  access = tt;
  in_table = (omega arith, tt);
  keeps = one_keeps fronts (read present) (omega arith);
  comes_later = tt;
  gone = tt;
}

-- After it no read of this processor may find the entry as it was before.
no_earlier_read :
    (later : List ℕ)
    → WorksLine (context_of (small 2)) (fronts_after fronts (read present)) new_processor
    (reading (empty_state 0) (0 ∷ 0 ∷ [])) later
    → ⊥
unfolding pair_of
no_earlier_read later h = let no : 4 ≤ 0 = h.keeps.0 in omega arith

-- The receipts are listed by processor, and the history has them in the order in which they were
-- made.
history_of_both :
    history 0 (receipts_from_processor 2 0 (reading present (0x1001 ∷ 0x3012 ∷ []) ∷ entering ∷ []))
    ≡ entered ∷ read present ∷ []
unfolding place pair_of state_eq
history_of_both = refl
