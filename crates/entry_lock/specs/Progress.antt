-- How far an operation has come within a call: the pass's view v before, and w now.
use Rattle.std.specs.Prelude.{◌≡◌, ℕ, ◌<◌, ◌^◌, true, Option, None}
use Rattle.entry_model.specs.declared.line.Line.{Line}
use Rattle.entry_model.specs.declared.operation.Op.{Op}
use Rattle.lock_core.specs.declared.doing.Doing.{Doing}
use Rattle.lock_core.specs.declared.phase.Phase.TheVariants.{Held, Looked}
use Rattle.lock_core.specs.Words.{without_bits, is_read}
use Rattle.lock_core.specs.Steps.{new_doing}
use Rattle.entry_lock.specs.declared.rule.View.{View}
use Rattle.entry_lock.specs.AccessSteps.{IsLooking}
use Rattle.entry_lock.specs.LineSteps.{doing_by_line}
use Rattle.entry_lock.specs.PassChanges.{MadeNothing}

-- The pass holds the entry, and has noted its control word.
pub record TookEntry (v w : View) (e : ℕ) (op : Op) (d : Doing) : Type 0 where
  pub begun_at : d ≡ new_doing e op d.noted None
  pub phase : w.actor.phase ≡ Held d
  pub same : MadeNothing v w

-- The access has noted the entry's control word.
pub record LookedAtEntry (v w : View) (e : ℕ) (op : Op) (d : Doing) : Type 0 where
  pub begun_at : d ≡ new_doing e op d.noted None
  pub phase : (seen : Option (ℕ × ℕ)) × (w.actor.phase ≡ Looked (new_doing e op d.noted seen))
  pub same : MadeNothing v w
  pub low : d.noted.stamp < 2 ^ 32

-- The same operation on the same entry, by the same control word.
pub record IsSameDoing (a b : Doing) : Type 0 where
  pub entry : b.entry ≡ a.entry
  pub op : b.op ≡ a.op
  pub noted : b.noted ≡ a.noted

-- The access has noted a control word at the line's stamp, and knows the line's doublewords.
pub record IsByLine (v : View) (cached : Line) (op : Op) (d : Doing) : Type 0 where
  pub begun_at : d ≡ doing_by_line cached op d.noted
  pub looking : IsLooking v d
  pub read : is_read d ≡ true
  pub valid : d.noted.valid ≡ true
  pub stamp : d.noted.stamp ≡ cached.stamp
  pub clear : without_bits cached.dword1 ≡ cached.dword1
