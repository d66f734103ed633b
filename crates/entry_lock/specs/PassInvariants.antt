-- What holds of a table and of a pass between calls, and of a pass that takes a step.
use Rattle.std.specs.Prelude.{◌≡◌, ℕ, ◌+◌, ◌*◌, ◌<◌, ◌≤◌, true, List, [], length}
use Rattle.hpte_fields.specs.TableSize.{IsTableOrder, entry_count}
use Rattle.atomic_table.specs.Table.{Me}
use Rattle.atomic_table.specs.Seated.{TableId}
use Rattle.entry_model.specs.State.{State}
use Rattle.lock_core.specs.declared.phase.Phase.TheVariants.{Idle}
use Rattle.lock_core.specs.Machine.{most_actors}
use Rattle.entry_lock.specs.declared.rule.View.{View}
use Rattle.entry_lock.specs.declared.rule.Opening.{Opening}
use Rattle.entry_lock.specs.Views.{states_of}

-- The pass acts as a live actor, and has a share.
pub record IsActing (v : View) : Type 0 where
  pub live : v.actor.live ≡ true
  pub some_share : 0 < length v.numbers

-- The seat has no slot, and its pass is at no operation.
pub record IsIdle (me : Me ℕ View) : Type 0 where
  pub bare : me.1 ≡ []
  pub acting : IsActing me.0
  pub idle : me.0.actor.phase ≡ Idle

-- The seat is at this table, which has word 0, three words for each entry, and no slot.
pub record IsAt (table seat : TableId) (key : Opening) (me : Me ℕ View) : Type 0 where
  pub same : seat ≡ table
  pub bare : me.1 ≡ []
  pub none : table.slots ≡ 0
  pub words : table.words ≡ 3 * length (states_of key) + 1

-- The table has 2 ^ order bytes, so an entry for each sixteen of them.
pub record IsSized (table : TableId) (key : Opening) (order : ℕ) : Type 0 where
  pub none : table.slots ≡ 0
  pub words : table.words ≡ 3 * length (states_of key) + 1
  pub size : length (states_of key) ≡ entry_count order
  pub order_fits : IsTableOrder order

-- A table may have so many passes, and so many shares in all: each is an actor of the machine.
abbrev pub most_passes : ℕ
most_passes = most_actors

-- The pass has so many of these shares.
pub record HasShares (v : View) (shares : ℕ) : Type 0 where
  pub count : length v.numbers ≡ shares
  pub few : v.passes ≤ most_passes

-- The table has its opening list, and room for the closing one, which is empty yet.
pub record HasLists (key : Opening) (passes : ℕ) (opening closing : List State) (room_for : ℕ)
    : Type 0 where
  pub passes_are : key.passes ≡ passes
  pub few : passes ≤ most_passes
  pub opening_is : opening ≡ states_of key
  pub none : closing ≡ []
  pub room : length (states_of key) ≤ room_for
