-- What the program reads and writes under `set`.
use Rattle.std.specs.Prelude.{◌≡◌, ℕ, List, Result}
use Rattle.papr_edge.specs.Inputs.{with_reason}
use Rattle.papr_edge.specs.declared.reason.Reason.{Reason}
use Rattle.lpar_set.specs.SetTrace.{AcceptedSet}
use Rattle.lpar_set.specs.SetGrammar.{set_of}
use Rattle.lpar_set.specs.SetRun.{set_replies}
use Rattle.lpar_set.specs.SetText.{set_text}
use Rattle.lpar_set.specs.SetLaws.{IsSetAssured}

-- The set that the whole input is, or its first refused line and the reason.
abbrev pub set_input : List ℕ → Result AcceptedSet (ℕ × Reason)
set_input bytes = with_reason (set_of bytes)

-- The text of the run of the set, which assures its partitions what sets do.
pub record IsSetText (s : AcceptedSet) (text : List ℕ) : Type 0 where
  pub is : text ≡ set_text s (set_replies s)
  pub assured : IsSetAssured s (set_replies s)
