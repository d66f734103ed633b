-- The turns of one partition among those of others, beside the lines of its trace alone.
use Rattle.std.specs.List.{AllByRecursion}
use Rattle.std.proofs.Common.{◌≡◌, ◌≢◌, ℕ, ◌<◌, ◌==◌, true, false, List, [], ◌∷◌, length, map, take, refl, sym, ap, ap₂, ◌∙◌, subst, inl, inr, ◌⊎◌}
use Rattle.std.proofs.lemmas.Bool.{cases_Bool, eqb-true, eqb-false}
use Rattle.std.proofs.lemmas.List.{get_or-set_same}
use Rattle.hpt_pool.specs.Pool.{PoolState}
use Rattle.trace_line.specs.declared.line.TraceLine.{TraceLine}
use Rattle.trace_reply.specs.declared.reply.Reply.{Reply}
use Rattle.run_model.proofs.TableNamed.{IsTable, line_window}
use Rattle.run_model.specs.Stores.{Store}
use Rattle.run_model.specs.SerialRun.{run_on}
use Rattle.lpar_set.specs.declared.turn.Turn.{Turn}
use Rattle.lpar_set.specs.SetTrace.{AcceptedSet, IsTurnOf, line_of, turns_of}
use Rattle.lpar_set.specs.SetRun.{MemberState, SetState, with_pool, without_pool, no_member, member_at, set_line, replies_from}
use Rattle.lpar_set.specs.SetStates.{IsSetState}
use Rattle.lpar_set.specs.SetLaws.{replies_of, is_no_mem, served, without_place}
use Rattle.lpar_set.proofs.RunKept.{line_keeps_run}
use Rattle.lpar_set.proofs.SetKept.{own_held, line_keeps, pool_stays}
use Rattle.lpar_set.proofs.LoneBlocks.{IsAlone, alone_keeps}
use Rattle.lpar_set.proofs.Moved.{moved, IsLikeAfter}
use Rattle.lpar_set.proofs.MovedLines.{MayDiffer, line_like}
use Rattle.lpar_set.proofs.OneStore.{replies_on as serial_from}

-- ---- one partition
-- What the partition carries is what the run carries, except for the places, and the run has its
-- pool to itself, which is as large as the shared one.
pub record IsLike (w : SetState) (k : ℕ) (u : Store) : Type 0 where
  pub pool : PoolState
  pub place : ℕ
  pub other : ℕ
  pub is : u ≡ moved (with_pool w.pool (member_at w k)) pool place other
  pub alone : IsAlone u.memory
  pub order : u.memory.pool.order ≡ w.pool.order

may_differ :
    (w : SetState) (k : ℕ) (u : Store)
    → IsSetState w
    → k < length w.members
    → (like : IsLike w k u)
    → MayDiffer (with_pool w.pool (member_at w k)) like.pool like.place like.other
may_differ w k u is inside like = record {
  sound = is.pool;
  held = own_held w k is inside;
  alone = subst (λ (v : Store). IsAlone v.memory) like.is like.alone;
  order = sym (ap (λ (v : Store). v.memory.pool.order) like.is) ∙ like.order;
}

-- A line of its own is answered the same, and they stay alike.
record IsLikeStep (w : SetState) (k : ℕ) (u : Store) (l : TraceLine) : Type 0 where
  reply : without_place (run_on u l).0 ≡ without_place (set_line w k l).0
  state : IsLike (set_line w k l).1 k (run_on u l).1

-- A run of the page table is its member's with the pool.
put_back : (w : Store) → IsTable w → with_pool w.memory.pool (without_pool w) ≡ w
put_back w e = λ i. record w { window = sym e i }

own_step :
    (w : SetState) (k : ℕ) (u : Store) (l : TraceLine)
    → IsSetState w
    → k < length w.members
    → IsLike w k u
    → is_no_mem (set_line w k l).0 ≡ false
    → IsLikeStep w k u l
own_step w k u l is inside like served =
    let v = with_pool w.pool (member_at w k) in
    let after = (run_on v l).1 in
    let moves = line_like v like.pool like.place like.other l (may_differ w k u is inside like)
    served in
    let same : IsLikeAfter (run_on v l) (run_on u l) = subst
    (λ (z : Store). IsLikeAfter (run_on v l) (run_on z l)) (sym like.is) moves in
    let own : member_at (set_line w k l).1 k ≡ without_pool after = get_or-set_same w.members k
    (without_pool after) no_member inside in
    let stays = pool_stays w k l is inside in
    record {
      reply = same.reply;
      state = record {
        pool = same.pool;
        place = same.place;
        other = same.other;
        is =
            subst
            (λ (m : MemberState).
            (run_on u l).1
            ≡ moved (with_pool after.memory.pool m) same.pool same.place same.other) (sym own)
            (same.state
            ∙ ap (λ (z : Store). moved z same.pool same.place same.other)
            (sym (put_back after (line_window (with_pool w.pool (member_at w k)) l))));
        alone = alone_keeps u l like.alone;
        order =
            (line_keeps_run u l like.alone.held).moves.pools.size ∙ like.order ∙ sym stays.order;
      };
    }

-- A line of another partition leaves it as it is.
other_step :
    (w : SetState) (j k : ℕ) (u : Store) (l : TraceLine)
    → IsSetState w
    → j < length w.members
    → k ≢ j
    → IsLike w k u
    → IsLike (set_line w j l).1 k u
other_step w j k u l is inside apart like =
    let stays = pool_stays w j l is inside in
    let after = (set_line w j l).1 in
    record {
      pool = like.pool;
      place = like.place;
      other = like.other;
      is =
          subst
          (λ (m : MemberState).
          u ≡ moved (with_pool after.pool m) like.pool like.place like.other)
          (sym (stays.others k apart)) like.is;
      alone = like.alone;
      order = like.order ∙ sym stays.order;
    }

-- ---- the set
-- What holds of the set between two lines.
pub record IsRunning (s : AcceptedSet) (w : SetState) : Type 0 where
  pub state : IsSetState w
  pub count : length w.members ≡ length s.partitions

still_running :
    (s : AcceptedSet) (w : SetState) (k : ℕ) (l : TraceLine)
    → IsRunning s w
    → k < length w.members
    → IsRunning s (set_line w k l).1
still_running s w k l is inside = record {
  state = line_keeps w k l is.state inside;
  count = (pool_stays w k l is.state inside).count ∙ is.count;
}

-- ---- all turns
-- The replies are those of the run's first lines, as many.
abbrev pub RunsLike : List Reply → Store → List TraceLine → Type 0
RunsLike rs u ls = map without_place rs ≡ map without_place (serial_from u (take (length rs) ls))

-- Of one reply more: either it ends what is served, or it is the next line's.
served_more :
    (r : Reply) (rest : List Reply) (u : Store) (l : TraceLine) (ls : List TraceLine)
    →
    (is_no_mem r ≡ false
    → (without_place (run_on u l).0 ≡ without_place r)
    × RunsLike (served rest) (run_on u l).1 ls)
    → RunsLike (served (r ∷ rest)) u (l ∷ ls)
served_more r rest u l ls next = at (cases_Bool (is_no_mem r)) where
  at : (is_no_mem r ≡ true) ⊎ (is_no_mem r ≡ false) → RunsLike (served (r ∷ rest)) u (l ∷ ls)
  at (inl ends) = rw ends refl
  at (inr goes) =
      let both = next goes in
      rw goes (ap₂ (λ (x : Reply) (xs : List Reply). x ∷ xs) (sym both.0) both.1)

pub turns_alone :
    (s : AcceptedSet) (k : ℕ) (w : SetState) (u : Store) (ts : List Turn)
    → k < length s.partitions
    → IsRunning s w
    → AllByRecursion (IsTurnOf s) ts
    → IsLike w k u
    → RunsLike (served (replies_of k ts (replies_from s w ts))) u (map (line_of s) (turns_of k ts))
turns_alone s k w u [] within is each like = refl
turns_alone s k w u (t ∷ ts) within is each like =
    let inside : t.partition < length w.members = subst (λ n. t.partition < n) (sym is.count) each.0
    in
    let runs = still_running s w t.partition (line_of s t) is inside in
    at inside
    (λ next alike.
    turns_alone s k (set_line w t.partition (line_of s t)).1 next ts within runs each.1 alike)
    (cases_Bool (t.partition == k)) where
      l : TraceLine
      l = line_of s t

      after : SetState
      after = (set_line w t.partition l).1

      at :
          t.partition < length w.members
          →
          ((next : Store)
          → IsLike after k next
          → RunsLike (served (replies_of k ts (replies_from s after ts))) next
          (map (line_of s) (turns_of k ts)))
          → ((t.partition == k) ≡ true) ⊎ ((t.partition == k) ≡ false)
          → RunsLike (served (replies_of k (t ∷ ts) (replies_from s w (t ∷ ts)))) u
          (map (line_of s) (turns_of k (t ∷ ts)))
      at inside rest (inl own) =
          let same : t.partition ≡ k = eqb-true t.partition k own in
          let here : IsLike w t.partition u = subst (λ n. IsLike w n u) (sym same) like in
          rw own
          (served_more (set_line w t.partition l).0 (replies_of k ts (replies_from s after ts))
          u l (map (line_of s) (turns_of k ts))
          (λ goes.
          let step = own_step w t.partition u l is.state inside here goes in (
            step.reply,
            rest (run_on u l).1 (subst (λ n. IsLike after n (run_on u l).1) same step.state),
          )))
      at inside rest (inr strange) =
          let apart : k ≢ t.partition = λ same. eqb-false t.partition k strange (sym same) in
          rw strange (rest u (other_step w t.partition k u l is.state inside apart like))
