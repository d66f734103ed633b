-- The program under `run` and `par`, over an input that is known whole.
use Rattle.std.proofs.Common.{◌≡◌, ℕ, ◌<◌, List, [], ◌∷◌, ◌++◌, length, Some, Ok, Err, Result, IsOk, IsErr, String, string_bytes, codes, sym, refl, subst, ap, ◌∙◌, inl, inr, arith, lt-ltb}
use Rattle.std.proofs.lemmas.Bool.{cases_lt}
use Rattle.std.proofs.lemmas.List.{append-nil}
use Rattle.std.specs.declared.alloc.Global.{Global}
use Rattle.trace_io.specs.Outside.{Put, Rose}
use Rattle.trace_read.specs.declared.why.Why.TheVariants.{Long}
use Rattle.trace_read.specs.Trace.{AcceptedTrace}
use Rattle.trace_read.specs.Grammar.{trace_of, most_bytes}
use Rattle.papr_edge.specs.declared.command.Command.TheVariants as commands
use Rattle.papr_edge.specs.Commands.{command_of, reading_of}
use Rattle.trace_read.specs.declared.why.Why.{Why}
use Rattle.papr_edge.specs.declared.status.Status.{Status}
use Rattle.papr_edge.specs.declared.status.Status.TheVariants.{Done}
use Rattle.papr_edge.specs.Inputs.{trace_input, with_reason}
use Rattle.papr_edge.specs.Reading.{Reads}
use Rattle.papr_edge.specs.Ends.{Run, Answers, IsAnswered}
use Rattle.run_model.specs.SerialRun.{serial_replies}
use Rattle.papr_top.specs.Texts.{IsSerialText, IsParallelText}
use Rattle.papr_uses.specs.RunText.{PutsTextOfBytes}
use Rattle.papr_uses.specs.Promises.{PutsReplies, IsOfOneThread, IsOfThreads}

-- A count that stays at 0 didn't rise.
pub never_rose : Rose 0 0 → ⊥
never_rose (inl rose) = absurd (omega (arith, rose))
never_rose (inr last) = absurd (omega (arith, last))

-- The one word `run` is the command.
pub run_word :
    (word : String Global)
    → string_bytes word ≡ codes "run"
    → command_of (word ∷ []) ≡ Some commands.Run
unfolding command_of reading_of
run_word word is = rw is refl

-- The one word `par` is.
pub par_word :
    (word : String Global)
    → string_bytes word ≡ codes "par"
    → command_of (word ∷ []) ≡ Some commands.Par
unfolding command_of reading_of
par_word word is = rw is refl

-- An input past the limit is refused.
refused_long : (bytes : List ℕ) → most_bytes < length bytes → trace_of bytes ≡ Err (0, Long)
unfolding trace_of
refused_long bytes longer = rw (lt-ltb _ _ longer) refl

-- ---- the input of a trace
-- The reason is given in other words, and nothing else changes.
still_ok : (r : Result AcceptedTrace (ℕ × Why)) → IsOk r → IsOk (with_reason r)
still_ok (Ok t) is = is
still_ok (Err e) is = is

still_err : (r : Result AcceptedTrace (ℕ × Why)) → IsErr r → IsErr (with_reason r)
still_err (Ok t) is = is
still_err (Err e) is = is

was_trace :
    (r : Result AcceptedTrace (ℕ × Why)) (t : AcceptedTrace) → with_reason r ≡ Ok t → r ≡ Ok t
was_trace (Ok u) t e = cc
was_trace (Err u) t e = cc

pub trace_accepted : (input : List ℕ) → IsOk (trace_of input) → IsOk (trace_input input)
trace_accepted input is = still_ok (trace_of input) is

pub trace_refused : (input : List ℕ) → IsErr (trace_of input) → IsErr (trace_input input)
trace_refused input is = still_err (trace_of input) is

-- `run` has one status for a trace.
pub run_done : (status : Status) → IsAnswered (Some commands.Run) status → status ≡ Done
run_done Done is = refl
run_done other is = absurd is

-- What was read and is a trace is within the limit, and so it is the whole input.
whole :
    (input bytes rest : List ℕ) (t : AcceptedTrace)
    → Reads (Some input) bytes (Some rest)
    → trace_of bytes ≡ Ok t
    → bytes ≡ input
whole input bytes rest t read accepted =
    elim (cases_lt most_bytes (length bytes)) [
      | inl longer ↦
          (let refused : trace_of bytes ≡ Err (0, Long) = refused_long bytes longer in cc)
      | inr within ↦ sym (read.took ∙ ap (λ z. bytes ++ z) (read.end within) ∙ append-nil bytes)
    ]

-- A text that was written of the input, with the trace that this is.
pub record Wrote (says : AcceptedTrace → List ℕ → Type 0) (input : List ℕ) (run : Run) :
    Type 0 where
  pub trace : AcceptedTrace
  pub text : List ℕ
  pub accepted : trace_of input ≡ Ok trace
  pub said : says trace text
  pub put : Put run.taken text run.taken_after

pub wrote :
    (says : AcceptedTrace → List ℕ → Type 0) (input rest : List ℕ) (run : Run)
    → run.left ≡ Some input
    → run.left_after ≡ Some rest
    → Answers trace_input says run
    → Wrote says input run
wrote says input rest run left left_after a =
    let read : Reads (Some input) a.bytes (Some rest) = subst
    (λ after. Reads (Some input) a.bytes after) left_after
    (subst (λ before. Reads before a.bytes run.left_after) left a.read) in
    let accepted : trace_of a.bytes ≡ Ok a.input = was_trace (trace_of a.bytes) a.input a.accepted
    in
    record {
      trace = a.input;
      text = a.text;
      accepted =
          subst (λ bytes. trace_of bytes ≡ Ok a.input)
          (whole input a.bytes rest a.input read accepted) accepted;
      said = a.said;
      put = a.written;
    }

-- The text of its serial run was written.
pub answered :
    (input : List ℕ) (run : Run)
    → Wrote IsSerialText input run
    → PutsTextOfBytes input run.taken run.taken_after
answered input run w =
    record {
      text = w.text;
      told = record {
        trace = w.trace;
        accepted = w.accepted;
        told = record { replies = _; good = w.said.assured.run.good; told = w.said.is };
      };
      put = w.put;
    }

-- The replies of its serial run were.
pub serially :
    (input : List ℕ) (run : Run)
    → Wrote IsSerialText input run
    → PutsReplies IsOfOneThread input run.taken run.taken_after
serially input run w =
    record {
      trace = w.trace;
      replies = serial_replies w.trace;
      accepted = w.accepted;
      put = subst (λ text. Put run.taken text run.taken_after) w.said.is w.put;
      kept = record { serial = refl; assured = w.said.assured };
    }

-- Those of a run by threads were.
pub by_threads :
    (input : List ℕ) (run : Run)
    → Wrote IsParallelText input run
    → PutsReplies IsOfThreads input run.taken run.taken_after
by_threads input run w =
    record {
      trace = w.trace;
      replies = w.said.replies;
      accepted = w.accepted;
      put = subst (λ text. Put run.taken text run.taken_after) w.said.is w.put;
      kept = record { assured = w.said.assured; one = w.said.one };
    }
