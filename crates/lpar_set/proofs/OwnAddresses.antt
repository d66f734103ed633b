-- Each access of a partition that is allowed lands at a machine address of the partition's own.
use Rattle.std.proofs.Common.{◌≡◌, ◌≢◌, ℕ, zero, suc, ◌<◌, ◌≤◌, ◌==◌, List, [], ◌∷◌, true, false, Contains, Some, map, get_or, length, refl, sym, ap, subst, ◌∙◌, ◌⊎◌, inl, inr, arith}
use Rattle.std.specs.List.{AllByRecursion}
use Rattle.std.proofs.lemmas.Bool.{cases_Bool, cases_lt, eqb-true}
use Rattle.std.proofs.lemmas.Bool.Decides.{nat_tests}
use Rattle.std.proofs.lemmas.List.Elements.{All-contains, All-from_recursion, All-get_or}
use Rattle.std.proofs.Math.Seq.{map-set_same}
use Rattle.frame_grants.proofs.Accepting.{machine_back}
use Rattle.hpt_pool.specs.Pool.{PoolState, no_blocks}
use Rattle.frame_grants.specs.declared.grant.Grant.{Grant}
use Rattle.frame_grants.specs.declared.grant.Kind.{Kind}
use Rattle.frame_grants.specs.Ranges.{range_within}
use Rattle.frame_grants.specs.Grants.{GrantedMemory, AreApart, meets_machine, machine_range}
use Rattle.frame_grants.proofs.Holding.{machine_range-within}
use Rattle.frame_grants.proofs.Landing.{lands_off_pool}
use Rattle.entry_model.specs.declared.access_reply.Outcome.{Outcome}
use Rattle.entry_model.specs.declared.access_reply.Outcome.TheVariants.{At}
use Rattle.trace_line.specs.declared.line.TraceLine.{TraceLine}
use Rattle.trace_reply.specs.declared.reply.Reply.{Reply}
use Rattle.run_model.specs.SerialRun.{run_on}
use Rattle.lpar_set.specs.declared.turn.Turn.{Turn}
use Rattle.lpar_set.specs.OpeningTables.{with_opening}
use Rattle.lpar_set.specs.SetTrace.{NumberedTrace, AcceptedSet, IsAcceptedSet, IsOfSet, no_partition, partition_at, line_of}
use Rattle.lpar_set.specs.SetRun.{MemberState, SetState, no_member, with_pool, without_pool, member_at, set_line, opening_members, opening_set, replies_from, set_replies}
use Rattle.lpar_set.specs.SetLaws.{IsInGrant, IsOwnAddress, EndsAtHome, DeviceEndsAtHome, StaysAtHome, replies_of}
use Rattle.lpar_set.proofs.LineReplies.{IsGranted, IsGrantedReply, line_reply}
use Rattle.trace_reply.specs.declared.reply.Reply.TheVariants as replies

-- ---- lists
at_map :
    {A B : Type 0} (f : A → B) (xs : List A) (k : ℕ) (d : A)
    → f (get_or xs k d) ≡ get_or (map f xs) k (f d)
at_map f [] k d = refl
at_map f (x ∷ xs) zero d = refl
at_map f (x ∷ xs) (suc k) d = at_map f xs k d

each_contained :
    {A : Type 0} (P : A → Type 0) (xs : List A) (x : A) → AllByRecursion P xs → Contains xs x → P x
each_contained P xs x h here = All-contains P xs x (All-from_recursion P xs h) here

-- ---- the grants of the partitions
abbrev grants_of : MemberState → List Grant
grants_of m = m.grants

abbrev grants_in : NumberedTrace → List Grant
grants_in p = p.trace.config.granted.grants

-- Each partition has the grants of its configuration.
abbrev pub HasGrants : AcceptedSet → SetState → Type 0
HasGrants s w = map grants_of w.members ≡ map grants_in s.partitions

opening_grants :
    (pool : PoolState) (ps : List NumberedTrace)
    → map grants_of (opening_members pool ps) ≡ map grants_in ps
opening_grants pool [] = refl
opening_grants pool (p ∷ ps) =
    ap (λ gs. grants_in p ∷ gs) (opening_grants (with_opening pool p.trace.config.order) ps)

-- No line changes them.
pub grants_stay :
    (s : AcceptedSet) (w : SetState) (k : ℕ) (l : TraceLine)
    → HasGrants s w
    → HasGrants s (set_line w k l).1
grants_stay s w k l has =
    let after = (run_on (with_pool w.pool (member_at w k)) l).1 in
    map-set_same grants_of w.members k (without_pool after) no_member
    (line_reply (with_pool w.pool (member_at w k)) l refl).1
    ∙ has

pub member_grants :
    (s : AcceptedSet) (w : SetState) (k : ℕ)
    → HasGrants s w
    → (member_at w k).grants ≡ (partition_at s k).trace.config.granted.grants
member_grants s w k has =
    at_map grants_of w.members k no_member
    ∙ ap (λ gs. get_or gs k []) has
    ∙ sym (at_map grants_in s.partitions k no_partition)

-- ---- an address of its own
pub of_set :
    (s : AcceptedSet)
    → IsAcceptedSet s
    → (k : ℕ)
    → k < length s.partitions
    → IsOfSet s.pool_base s.pool_order (partition_at s k)
of_set s is k inside =
    All-get_or (IsOfSet s.pool_base s.pool_order) s.partitions k no_partition inside
    (All-from_recursion (IsOfSet s.pool_base s.pool_order) s.partitions is.each)

-- Two grants that have an address meet.
no_shared :
    (address : ℕ) (one two : Grant)
    → range_within address 1 one.machine one.length ≡ true
    → IsInGrant address two
    → meets_machine one two ≡ false
    → ⊥
no_shared address one two first second apart = grind (arith, nat_tests, first, second, apart)

strange :
    (s : AcceptedSet)
    → IsAcceptedSet s
    → (k address : ℕ) (own : Grant)
    → k < length s.partitions
    → Contains (grants_in (partition_at s k)) own
    → range_within address 1 own.machine own.length ≡ true
    → (other : ℕ) (g : Grant)
    → other < length s.partitions
    → other ≢ k
    → Contains (grants_in (partition_at s other)) g
    → IsInGrant address g
    → ⊥
strange s is k address own inside here within other g exists differs there in_grant =
    at (cases_lt k other) (cases_lt other k) where
      apart :
          (i j : ℕ) (x y : Grant)
          → i < j
          → j < length s.partitions
          → Contains (grants_in (partition_at s i)) x
          → Contains (grants_in (partition_at s j)) y
          → meets_machine x y ≡ false
      apart i j x y less exist first second =
          each_contained
          (λ (b : Grant). meets_machine x b ≡ false)
          (grants_in (partition_at s j))
          y
          (each_contained
          (λ (a : Grant).
          AllByRecursion (λ (b : Grant). meets_machine a b ≡ false)
          (grants_in (partition_at s j))) (grants_in (partition_at s i)) x
          (is.strangers i j no_partition less exist) first)
          second

      at : (k < other) ⊎ (other ≤ k) → (other < k) ⊎ (k ≤ other) → ⊥
      at (inl less) more =
          no_shared address own g within in_grant (apart k other own g less exists here there)
      at less (inl more) =
          no_shared address own g within in_grant
          (machine_back g own (apart other k g own more inside there here))
      at (inr low) (inr high) = differs (omega arith)

own_address :
    (s : AcceptedSet)
    → IsAcceptedSet s
    → (k address logical : ℕ) (kind : Kind)
    → k < length s.partitions
    → machine_range (grants_in (partition_at s k)) logical 1 ≡ Some (address, kind)
    → IsOwnAddress s k address
own_address s is k address logical kind inside lands =
    let granted : GrantedMemory = (partition_at s k).trace.config.granted in
    let apart : AreApart granted = (of_set s is k inside).accepted.sound.apart in
    let (grant, at) = machine_range-within granted logical 1 (address, kind) apart lands in
    record {
      grant = grant;
      own = at.granted_is;
      in_grant = at.within;
      strange = strange s is k address grant inside at.granted_is at.within;
      off_pool =
          λ pool.
          lands_off_pool granted logical (address, kind) apart lands pool.from_base pool.to_end;
    }

-- ---- the replies of a partition
ends_at_home :
    (s : AcceptedSet)
    → IsAcceptedSet s
    → (k : ℕ)
    → k < length s.partitions
    → (outcome : Outcome)
    → IsGranted (grants_in (partition_at s k)) outcome
    → EndsAtHome s k outcome
ends_at_home s is k inside (At address) h = own_address s is k address h.0 h.1 inside h.2
ends_at_home s is k inside other h = tt

stays_at_home :
    (s : AcceptedSet)
    → IsAcceptedSet s
    → (k : ℕ)
    → k < length s.partitions
    → (r : Reply)
    → IsGrantedReply (grants_in (partition_at s k)) r
    → StaysAtHome s k r
stays_at_home s is k inside (replies.Access r) h = ends_at_home s is k inside r.outcome h
stays_at_home s is k inside (replies.Device r) h = subst (DeviceEndsAtHome s k) (sym h) tt
stays_at_home s is k inside other h = tt

line_at_home :
    (s : AcceptedSet)
    → IsAcceptedSet s
    → (w : SetState) (k : ℕ) (l : TraceLine)
    → HasGrants s w
    → k < length s.partitions
    → StaysAtHome s k (set_line w k l).0
line_at_home s is w k l has inside =
    stays_at_home s is k inside (set_line w k l).0
    (subst (λ gs. IsGrantedReply gs (set_line w k l).0) (member_grants s w k has)
    (line_reply (with_pool w.pool (member_at w k)) l refl).0.1)

all_at_home :
    (s : AcceptedSet)
    → IsAcceptedSet s
    → (w : SetState) (k : ℕ) (ts : List Turn)
    → HasGrants s w
    → k < length s.partitions
    → AllByRecursion (StaysAtHome s k) (replies_of k ts (replies_from s w ts))
all_at_home s is w k [] has inside = tt
all_at_home s is w k (t ∷ ts) has inside =
    at (cases_Bool (t.partition == k))
    (all_at_home s is (set_line w t.partition (line_of s t)).1 k ts
    (grants_stay s w t.partition (line_of s t) has) inside) where
      at :
          (t.partition == k ≡ true) ⊎ (t.partition == k ≡ false)
          → AllByRecursion (StaysAtHome s k)
          (replies_of k ts (replies_from s (set_line w t.partition (line_of s t)).1 ts))
          → AllByRecursion (StaysAtHome s k) (replies_of k (t ∷ ts) (replies_from s w (t ∷ ts)))
      at (inl q) rest =
          let same : t.partition ≡ k = eqb-true t.partition k q in
          rw q (
            subst (λ j. StaysAtHome s k (set_line w j (line_of s t)).0) (sym same)
                (line_at_home s is w k (line_of s t) has inside),
            rest,
          )
      at (inr q) rest = rw q rest

pub at_home_of :
    (s : AcceptedSet)
    → IsAcceptedSet s
    → (k : ℕ)
    → k < length s.partitions
    → AllByRecursion (StaysAtHome s k) (replies_of k s.turns (set_replies s))
at_home_of s is k inside =
    all_at_home s is (opening_set s) k s.turns
    (opening_grants (no_blocks s.pool_base s.pool_order) s.partitions) inside
