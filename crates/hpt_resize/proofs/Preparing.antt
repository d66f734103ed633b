-- Further entries of a pending table are made ready.
use Rattle.std.proofs.Common.{◌≡◌, ℕ, ◌+◌, ◌≤◌, ◌++◌, List, length, replicate, sym, ap, ◌∙◌, arith}
use Rattle.std.proofs.lemmas.List.{length-append, length-replicate, replicate-append-replicate}
use Rattle.entry_model.specs.State.{State, empty_state}
use Rattle.hpte_fields.specs.TableSize.{entry_count}
use Rattle.hpt_resize.specs.Pending.{IsPreparing}

pub more_prepared :
    (order count capacity room : ℕ) (states new : List State)
    → IsPreparing order states capacity
    → length states + count ≤ entry_count order
    → room ≡ capacity
    → new ≡ states ++ replicate count (empty_state 0)
    → IsPreparing order new room
more_prepared order count capacity room states new before fits kept is =
    let long : length new ≡ length states + count = ap length is ∙ length-append states
    (replicate count (empty_state 0)) ∙ ap (λ n. length states + n)
    (length-replicate count (empty_state 0)) in
    record {
      order_fits = before.order_fits;
      ready = omega arith;
      empty =
          is
          ∙ ap (λ (xs : List State). xs ++ replicate count (empty_state 0)) before.empty
          ∙ replicate-append-replicate (length states) count (empty_state 0)
          ∙ ap (λ n. replicate n (empty_state 0)) (sym long);
      room = kept ∙ before.room;
    }
