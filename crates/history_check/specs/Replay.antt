-- Operations that are made on states that were given, one after the other.
use Rattle.std.specs.Prelude.{◌≡◌, ℕ, ◌||◌, List, [], ◌∷◌, drop, map, Bool, true, false, bit_and}
use Rattle.entry_model.specs.State.{State, IsCanonicalState, empty_state}
use Rattle.entry_model.specs.declared.operation.Op.{Op}
use Rattle.entry_model.specs.declared.operation.Op.TheVariants.{Enter}
use Rattle.entry_model.specs.declared.line.Line.{Line}
use Rattle.entry_model.specs.declared.receipt.Receipt.{Receipt}
use Rattle.entry_model.specs.Receipt.{is_decided}
use Rattle.hpte_fields.specs.Fields.{rc_bits}

-- After the given states comes one on which an Enter finds the entry taken, and any other operation
-- finds nothing.
abbrev pub state_past_end : Op → State
state_past_end (Enter dword0 dword1) = record (empty_state 0) { valid = true }
state_past_end other = empty_state 0

-- The state that the next operation is made on.
abbrev pub found_state : List State → Op → State
found_state [] op = state_past_end op
found_state (s ∷ states) op = s

-- The states before, in the order of the receipts.
abbrev pub before_each : List Receipt → List State
before_each rs = map (λ (r : Receipt). r.before) rs

-- ---- a store of given states
-- The states still to come, and whether an answer used a translation. After such an answer the
-- store promises nothing of the states.
pub record ReplayState : Type 0 where
  pub order : ℕ
  pub states : List State
  pub decided : Bool

-- The store after an operation.
abbrev pub after_receipt : ReplayState → Receipt → ReplayState
after_receipt a r = record {
  order = a.order;
  states = drop 1 a.states;
  decided = a.decided || is_decided r.answer;
}

-- These receipts were made between two moments of the store, each on the state that came next.
abbrev pub IsReplayed : ReplayState → ReplayState → List Receipt → Type 0
IsReplayed a b [] = b ≡ a
IsReplayed a b (r ∷ rs) =
    (a.decided ≡ false → r.before ≡ found_state a.states r.op)
    × IsCanonicalState r.before
    × IsReplayed (after_receipt a r) b rs

-- An answer used a translation, and the line could be of a state.
abbrev pub IsSeen : ReplayState → Line → Type 0
IsSeen a line = (a.decided ≡ true) × (bit_and line.dword1 rc_bits ≡ 0)

-- The store knows of no line that is gone.
abbrev pub IsGone : ReplayState → Line → Type 0
IsGone a line = ⊥
